-- What a served send has written can be written: its numbers fit, its handles are not 0, its texts are UTF-8. And what
-- can be written is refused by no send but for want of room.
use Rattle.std.proofs.Common.{◌≡◌, ℕ, ◌+◌, ◌^◌, ◌<◌, Bool, true, false, eqb, List, [], ◌∷◌, length, Some, None, Option, refl, ap, ◌∙◌, arith}
use Rattle.std.proofs.lemmas.Bool.{eqb-false, ne_eqb}
use Rattle.rpc.specs.declared.Handle.{Handle}
use Rattle.rpc.specs.Kinds.{text_or, GoodText}
use Rattle.parts.specs.declared.Part.{Part}
use Rattle.parts.specs.declared.Part.TheVariants.{Byte, Stream, Span, Symbol}
use Rattle.source.specs.Sources.{Valid}
use Rattle.encode.specs.Sends.{dead_at, or_next, zero_in, stale, zero, part_size, first_at, PartFits, PartsFit}
use Rattle.encode.proofs.Zeros.{or_next_none}
use Rattle.wire.specs.Laws.{PartGood, PartsGood, PartReady, PartsReady}

not_zero : (n : ℕ) → zero_in n ≡ None → 0 < n
not_zero n e = go (eqb n 0) refl
  where
    go : (b : Bool) → eqb n 0 ≡ b → 0 < n
    go true t = let z : ◌≡◌ {A = ℕ} 0 1 = cc in absurd (omega arith)
    go false t = let some = eqb-false n 0 t in omega arith

live_text : (o : Option (List ℕ)) → dead_at o ≡ None → length (text_or o) < 256 ^ 8 → Valid o → GoodText o
live_text None dead small v = let z : ◌≡◌ {A = ℕ} 0 1 = cc in absurd (omega arith)
live_text (Some t) dead small v = (small, v)

some_zero : (n : ℕ) → 0 < n → zero_in n ≡ None
some_zero n h = rw (ne_eqb n 0 (λ e. omega arith))

good_live : (o : Option (List ℕ)) → GoodText o → dead_at o ≡ None
good_live None g = absurd g
good_live (Some t) g = refl

module _ {Sy : Type 0} (text : Sy → Option (List ℕ)) where
  part_good : (p : Part Handle Handle Sy) → PartFits text p → stale text p ≡ None → zero p ≡ None → PartGood text p
  part_good (Byte b) f l z = f
  part_good (Stream h) f l z = (f, not_zero h.number z)
  part_good (Span h) f l z = (f, not_zero h.number z)
  part_good (Symbol y) f l z = live_text (text y) l f.0 f.1

  pub parts_good : (ps : List (Part Handle Handle Sy)) (at : ℕ) → PartsFit text ps → first_at (stale text) (part_size text) at ps ≡ None → first_at zero (part_size text) at ps ≡ None → PartsGood text ps
  parts_good [] at f l z = tt
  parts_good (p ∷ ps) at f l z =
      let k = or_next_none at (stale text p) (first_at (stale text) (part_size text) (at + part_size text p) ps) l in
      let s = or_next_none at (zero p) (first_at zero (part_size text) (at + part_size text p) ps) z in
      (part_good p f.0 k.0 s.0, parts_good ps (at + part_size text p) f.1 k.1 s.1)

  part_ready : (p : Part Handle Handle Sy) → PartReady text p → (stale text p ≡ None) × (zero p ≡ None)
  part_ready (Byte b) r = (refl, refl)
  part_ready (Stream h) r = (refl, some_zero h.number r)
  part_ready (Span h) r = (refl, some_zero h.number r)
  part_ready (Symbol y) r = (good_live (text y) r, refl)

  pub parts_ready : (ps : List (Part Handle Handle Sy)) (at : ℕ) → PartsReady text ps → (first_at (stale text) (part_size text) at ps ≡ None) × (first_at zero (part_size text) at ps ≡ None)
  parts_ready [] at r = (refl, refl)
  parts_ready (p ∷ ps) at r =
      let one = part_ready p r.0 in
      let others = parts_ready ps (at + part_size text p) r.1 in
      (ap (λ o. or_next at o (first_at (stale text) (part_size text) (at + part_size text p) ps)) one.0 ∙ others.0, ap (λ o. or_next at o (first_at zero (part_size text) (at + part_size text p) ps)) one.1 ∙ others.1)
