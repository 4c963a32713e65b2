-- Writing parts: what stands in the buffer after each.
use Rattle.std.proofs.Common.{◌≡◌, ℕ, ◌+◌, ◌<◌, ◌≤◌, List, [], ◌∷◌, ◌++◌, length, get_or, take, drop, None, Option, Result, sym, refl, ap, ◌∙◌, subst, arith, length-append}
use Rattle.std.proofs.lemmas.List.{append_assoc}
use Rattle.fault.specs.declared.SessionFault.{SessionFault}
use Rattle.buffer.specs.declared.buffer.Buffer.{Buffer}
use Rattle.buffer.specs.Filled.{held, room_of}
use Rattle.rpc.specs.declared.Handle.{Handle}
use Rattle.rpc.specs.Laws.{le, flat}
use Rattle.rpc.specs.Kinds.{text_or}
use Rattle.rpc.proofs.Littles.{length_le}
use Rattle.parts.specs.declared.Part.{Part}
use Rattle.parts.specs.declared.Part.TheVariants.{Byte, Stream, Span, Symbol}
use Rattle.encode.specs.Sends.{part_size, size_of, stale, zero, first_at, part_fields, fields_of, bytes_of, PartsFit, Wrote}
use Rattle.rpc.proofs.Joins.{flat_append}
use Rattle.encode.proofs.Zeros.{or_next_none}
use Rattle.encode.proofs.Measures.{take_next, drop_next, passed_by}

module _ {Sy : Type 0} (text : Sy → Option (List ℕ)) where
  fields_append : (xs ys : List (Part Handle Handle Sy)) → fields_of text (xs ++ ys) ≡ fields_of text xs ++ fields_of text ys
  fields_append [] ys = refl
  fields_append (x ∷ xs) ys = ap (λ l. part_fields text x ++ l) (fields_append xs ys) ∙ sym (append_assoc (part_fields text x) (fields_of text xs) (fields_of text ys))

  bytes_append : (xs ys : List (Part Handle Handle Sy)) → bytes_of text (xs ++ ys) ≡ bytes_of text xs ++ bytes_of text ys
  bytes_append xs ys = ap flat (fields_append xs ys) ∙ flat_append (fields_of text xs) (fields_of text ys)

  part_long : (p : Part Handle Handle Sy) → length (flat (part_fields text p)) ≡ part_size text p
  part_long (Byte b) = refl
  part_long (Stream h) = omega (arith, length-append (le 4 h.number) [], length_le 4 h.number)
  part_long (Span h) = omega (arith, length-append (le 4 h.number) [], length_le 4 h.number)
  part_long (Symbol y) =
      let t = text_or (text y) in
      omega (arith, length-append (le 8 (length t)) (t ++ []), length-append t [], length_le 8 (length t))

  -- the bytes are as many as the size says
  pub bytes_long : (ps : List (Part Handle Handle Sy)) → length (bytes_of text ps) ≡ size_of text ps
  bytes_long [] = refl
  bytes_long (p ∷ ps) =
      let whole = ap length (flat_append (part_fields text p) (fields_of text ps)) in
      omega (arith, length-append (flat (part_fields text p)) (flat (fields_of text ps)), part_long p, bytes_long ps)

  -- the first i parts stand in the buffer, and the others can still be written
  pub record Underway (ps : List (Part Handle Handle Sy)) (i : ℕ) (before now-at : Buffer) : Type 0 where
    pub bytes : held now-at ≡ held before ++ bytes_of text (take i ps)
    pub room : room_of now-at ≡ room_of before
    pub space : length (held now-at) + size_of text (drop i ps) ≤ room_of now-at
    pub live : first_at (stale text) (part_size text) (size_of text (take i ps)) (drop i ps) ≡ None
    pub handles : first_at zero (part_size text) (size_of text (take i ps)) (drop i ps) ≡ None
    pub fit : PartsFit text (take i ps)

  fit_append : (xs ys : List (Part Handle Handle Sy)) → PartsFit text xs → PartsFit text ys → PartsFit text (xs ++ ys)
  fit_append [] ys f g = g
  fit_append (x ∷ xs) ys f g = (f.0, fit_append xs ys f.1 g)

  module _ (ps : List (Part Handle Handle Sy)) (i : ℕ) (x : Part Handle Handle Sy) (before b : Buffer) (h : i < length ps) (is : x ≡ get_or ps i x) (u : Underway ps i before b) where
    -- the next part has no fault
    sound : (bad : Part Handle Handle Sy → Option ℕ) → first_at bad (part_size text) (size_of text (take i ps)) (drop i ps) ≡ None → bad x ≡ None
    sound bad e =
        (or_next_none (size_of text (take i ps)) (bad x) (first_at bad (part_size text) (size_of text (take i ps) + part_size text x) (drop (i + 1) ps))
        (sym (ap (first_at bad (part_size text) (size_of text (take i ps))) (drop_next ps i x h is)) ∙ e)).0

    left : size_of text (drop i ps) ≡ part_size text x + size_of text (drop (i + 1) ps)
    left = ap (size_of text) (drop_next ps i x h is)

    pub again : (after : Buffer) (r : Result (Unit {0}) SessionFault) → Wrote text (x ∷ []) b after r → Underway ps (i + 1) before after
    again after r w =
        let space = u.space in
        let room = w.room in
        let long : length (held after) ≡ length (held b) + part_size text x = ap length w.bytes ∙ length-append (held b) (bytes_of text (x ∷ [])) ∙ ap (λ n. length (held b) + n) (bytes_long (x ∷ []) ∙ omega arith) in
        record {
          bytes = w.bytes ∙ ap (λ l. l ++ bytes_of text (x ∷ [])) u.bytes ∙ append_assoc (held before) (bytes_of text (take i ps)) (bytes_of text (x ∷ [])) ∙ ap (λ l. held before ++ l) (sym (bytes_append (take i ps) (x ∷ []))) ∙ ap (λ l. held before ++ bytes_of text l) (sym (take_next ps i x h is));
          room = w.room ∙ u.room;
          space = omega (arith, left);
          live = passed_by text (stale text) ps i x h is _ u.live (sound (stale text) u.live);
          handles = passed_by text zero ps i x h is _ u.handles (sound zero u.handles);
          fit = subst (PartsFit text) (sym (take_next ps i x h is)) (fit_append (take i ps) (x ∷ []) u.fit w.fit);
        }
