-- The first handle that is 0 stands where `position` finds it, and a front of parts without one has none.
use Rattle.std.proofs.Common.{◌≡◌, ℕ, zero as none, suc, ◌+◌, Bool, true, false, cond, not, eqb, ltb, List, [], ◌∷◌, length, take, is_some, Some, None, Option, sym, refl, ap, ◌∙◌, ⊎_elim, add_assoc, arith}
use Rattle.std.proofs.lemmas.Bool.{lt-ltb, le-ltb, cases_lt}
use Rattle.rpc.specs.declared.Handle.{Handle}
use Rattle.parts.specs.declared.Part.{Part}
use Rattle.parts.specs.declared.Part.TheVariants.{Byte, Stream, Span, Symbol}
use Rattle.std.specs.List.{position, position_or_len}
use Rattle.encode.specs.Sends.{zero, is_zero, or_next, part_size, size_of, first_at, first_zero, offset_of}

-- a fault at a place or none is told by whether there is one
zero_in_lem : (n : ℕ) (b : Bool) → cond {A = Option ℕ} b (Some n) None ≡ cond (is_some (cond {A = Option ℕ} b (Some n) None)) (Some n) None
zero_in_lem n true = refl
zero_in_lem n false = refl

module _ {Sy : Type 0} where
  -- the fault of a handle is at its first byte
  zero_is : (p : Part Handle Handle Sy) → zero p ≡ cond (is_zero p) (Some 0) None
  zero_is (Byte b) = refl
  zero_is (Stream h) = zero_in_lem 0 (eqb h.number 0)
  zero_is (Span h) = zero_in_lem 0 (eqb h.number 0)
  zero_is (Symbol y) = refl

  module _ (text : Sy → Option (List ℕ)) where
    -- the first handle that is 0, where the parts begin at an offset
    zero_from : (at : ℕ) (ps : List (Part Handle Handle Sy)) → first_at zero (part_size text) at ps ≡ cond (ltb (position_or_len is_zero ps) (length ps)) (Some (at + size_of text (take (position_or_len is_zero ps) ps))) None
    zero_from at [] = refl
    zero_from at (p ∷ ps) = turn (is_zero p) refl (zero_from (at + part_size text p) ps)
      where
        turn : (b : Bool) → is_zero p ≡ b → first_at zero (part_size text) (at + part_size text p) ps ≡ cond (ltb (position_or_len is_zero ps) (length ps)) (Some (at + part_size text p + size_of text (take (position_or_len is_zero ps) ps))) None →
            first_at zero (part_size text) at (p ∷ ps) ≡ cond (ltb (position_or_len is_zero (p ∷ ps)) (length (p ∷ ps))) (Some (at + size_of text (take (position_or_len is_zero (p ∷ ps)) (p ∷ ps)))) None
        turn true e rest = rw (zero_is p, e, lt-ltb 0 (suc (length ps)) (omega arith)) refl
        turn false e rest =
            let n = position_or_len is_zero ps in
            let first : zero p ≡ None = zero_is p ∙ ap (λ b. cond b (Some 0) None) e in
            let place : position_or_len is_zero (p ∷ ps) ≡ suc n = ap (λ b. cond (not b) (1 + n) 0) e ∙ omega arith in
            let whole : List (Part Handle Handle Sy) = p ∷ ps in
            let moved : ltb (suc n) (length whole) ≡ ltb n (length ps) =
            ⊎_elim (λ h. lt-ltb (suc n) (length whole) (omega (arith, h)) ∙ sym (lt-ltb n (length ps) h)) (λ h. le-ltb (suc n) (length whole) (omega (arith, h)) ∙ sym (le-ltb n (length ps) h)) (cases_lt n (length ps)) in
            ap (λ o. or_next at o (first_at zero (part_size text) (at + part_size text p) ps)) first ∙ rest ∙ ap (λ m. cond (ltb n (length ps)) (Some m) None) (add_assoc at (part_size text p) (size_of text (take n ps))) ∙ ap (λ b. cond b (Some (at + size_of text (take (suc n) whole))) None) (sym moved) ∙ ap (λ m. cond (ltb m (length whole)) (Some (at + size_of text (take m whole))) None) (sym place)

    pub zero_offset : (ps : List (Part Handle Handle Sy)) → offset_of text ps (position is_zero ps) ≡ first_zero text ps
    zero_offset ps = placed (ltb (position_or_len is_zero ps) (length ps)) ∙ sym (zero_from 0 ps)
      where
        placed : (b : Bool) → offset_of text ps (cond b (Some (position_or_len is_zero ps)) None) ≡ cond b (Some (0 + size_of text (take (position_or_len is_zero ps) ps))) None
        placed true = ap Some (omega arith)
        placed false = refl

pub or_next_none : (at : ℕ) (o next : Option ℕ) → or_next at o next ≡ None → (o ≡ None) × (next ≡ None)
or_next_none at None next e = (refl, e)
or_next_none at (Some k) next e = let z : ◌≡◌ {A = ℕ} 0 1 = cc in absurd (omega arith)

module _ {St Sp Sy : Type 0} (bad : Part St Sp Sy → Option ℕ) (size : Part St Sp Sy → ℕ) where
  -- where the whole has no fault, neither has its front
  pub front_sound : (at i : ℕ) (ps : List (Part St Sp Sy)) → first_at bad size at ps ≡ None → first_at bad size at (take i ps) ≡ None
  front_sound at none ps e = refl
  front_sound at (suc i) [] e = refl
  front_sound at (suc i) (p ∷ ps) e =
      let s = or_next_none at (bad p) (first_at bad size (at + size p) ps) e in
      ap (λ o. or_next at o (first_at bad size (at + size p) (take i ps))) s.0 ∙ front_sound (at + size p) i ps s.1
