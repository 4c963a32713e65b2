-- Walking along the parts: how the size grows with each part, and where the first fault is.
use Rattle.std.proofs.Common.{◌≡◌, ℕ, ◌+◌, ◌<◌, min, List, [], ◌∷◌, ◌++◌, length, get_or, take, drop, Some, None, Option, sym, refl, ap, ◌∙◌, add_assoc, arith}
use Rattle.std.proofs.lemmas.List.{take_more, drop_more}
use Rattle.parts.specs.declared.Part.{Part}
use Rattle.encode.specs.Sends.{capped, or_next, unless, part_size, size_of, size_if, first_at, stale, first_stale}

pub capped_sum : (a b : ℕ) → min (capped a + capped b) 18446744073709551615 ≡ capped (a + b)
capped_sum a b = omega arith

unless_some : (o : Option ℕ) (n k : ℕ) → Some k ≡ unless o n → (o ≡ None) × (k ≡ n)
unless_some None n k e = (refl, cc)
unless_some (Some j) n k e = let z : ◌≡◌ {A = ℕ} 0 1 = cc in absurd (omega arith)

module _ {St Sp Sy : Type 0} where
  -- one part more
  pub take_next : (ps : List (Part St Sp Sy)) (i : ℕ) (x : Part St Sp Sy) → i < length ps → x ≡ get_or ps i x → take (i + 1) ps ≡ take i ps ++ x ∷ []
  take_next ps i x h is = take_more ps i x h ∙ ap (λ y. take i ps ++ y ∷ []) (sym is)

  pub drop_next : (ps : List (Part St Sp Sy)) (i : ℕ) (x : Part St Sp Sy) → i < length ps → x ≡ get_or ps i x → drop i ps ≡ x ∷ drop (i + 1) ps
  drop_next ps i x h is = drop_more ps i x h ∙ ap (λ y. y ∷ drop (i + 1) ps) (sym is)

  module _ (text : Sy → Option (List ℕ)) where
    pub size_append : (xs ys : List (Part St Sp Sy)) → size_of text (xs ++ ys) ≡ size_of text xs + size_of text ys
    size_append [] ys = omega arith
    size_append (x ∷ xs) ys = ap (λ n. part_size text x + n) (size_append xs ys) ∙ sym (add_assoc (part_size text x) (size_of text xs) (size_of text ys))

    pub size_next : (ps : List (Part St Sp Sy)) (i : ℕ) (x : Part St Sp Sy) → i < length ps → x ≡ get_or ps i x → size_of text (take (i + 1) ps) ≡ size_of text (take i ps) + part_size text x
    size_next ps i x h is = ap (size_of text) (take_next ps i x h is) ∙ size_append (take i ps) (x ∷ []) ∙ omega arith

    -- a part without a fault is passed by, and at one with a fault the walk ends
    module _ (bad : Part St Sp Sy → Option ℕ) (ps : List (Part St Sp Sy)) (i : ℕ) (x : Part St Sp Sy) (h : i < length ps) (is : x ≡ get_or ps i x) (r : Option ℕ)
        (inv : first_at bad (part_size text) (size_of text (take i ps)) (drop i ps) ≡ r) where
      at_part : or_next (size_of text (take i ps)) (bad x) (first_at bad (part_size text) (size_of text (take i ps) + part_size text x) (drop (i + 1) ps)) ≡ r
      at_part = sym (ap (first_at bad (part_size text) (size_of text (take i ps))) (drop_next ps i x h is)) ∙ inv

      pub passed_by : bad x ≡ None → first_at bad (part_size text) (size_of text (take (i + 1) ps)) (drop (i + 1) ps) ≡ r
      passed_by none = ap (λ a. first_at bad (part_size text) a (drop (i + 1) ps)) (size_next ps i x h is) ∙ sym (ap (λ o. or_next (size_of text (take i ps)) o (first_at bad (part_size text) (size_of text (take i ps) + part_size text x) (drop (i + 1) ps))) none) ∙ at_part

    pub measure_more : (ps : List (Part St Sp Sy)) (i at size next : ℕ) (x : Part St Sp Sy) → i < length ps → x ≡ get_or ps i x → Some size ≡ size_if text x →
        (at ≡ capped (size_of text (take i ps))) × (first_at (stale text) (part_size text) (size_of text (take i ps)) (drop i ps) ≡ first_stale text ps) →
        next ≡ min (at + size) 18446744073709551615 →
        (next ≡ capped (size_of text (take (i + 1) ps))) × (first_at (stale text) (part_size text) (size_of text (take (i + 1) ps)) (drop (i + 1) ps) ≡ first_stale text ps)
    measure_more ps i at size next x h is known inv e =
        let p = unless_some (stale text x) (capped (part_size text x)) size known in
        let start = inv.0 in
        let part = p.1 in (
          e ∙ ap (λ n. min (n + size) 18446744073709551615) start ∙ ap (λ n. min (capped (size_of text (take i ps)) + n) 18446744073709551615) part ∙ capped_sum (size_of text (take i ps)) (part_size text x) ∙ ap capped (sym (size_next ps i x h is)),
          passed_by (stale text) ps i x h is _ inv.1 p.0,
        )
