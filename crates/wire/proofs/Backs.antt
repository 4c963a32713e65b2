-- The laws of a kind, as they stand on a call that reads and on one that writes.
use Rattle.std.proofs.Common.{◌≡◌, ℕ, ◌-◌, Bool, true, false, cond, List, [], ◌∷◌, ◌++◌, length, take, is_ok, Some, None, Ok, Err, Option, Result, sym, refl, ap, ◌∙◌, subst, arith}
use Rattle.fault.specs.declared.ByteFault.{ByteFault}
use Rattle.fault.specs.declared.ByteWord.TheVariants.{Short}
use Rattle.fault.specs.declared.SessionFault.{SessionFault}
use Rattle.buffer.specs.declared.buffer.Buffer.{Buffer}
use Rattle.buffer.specs.Filled.{held, fits}
use Rattle.rpc.specs.declared.Handle.{Handle}
use Rattle.rpc.specs.declared.Text.{Text}
use Rattle.rpc.specs.Kinds.{handle_kind, in_piece}
use Rattle.rpc.specs.Wire.{fault}
use Rattle.rpc.specs.Laws.{Kind, Lawful, Bytes, bytes_of, flat}
use Rattle.parts.specs.declared.Part.{Part}
use Rattle.parts.specs.declared.Part.TheVariants.{Stream}
use Rattle.encode.specs.Sends.{size_of, fields_of, first_stale, first_zero, stale_first, zero_or, tight_or, Sent}
use Rattle.encode.specs.Sends as sends
use Rattle.encode.proofs.Writes.{bytes_long}
use Rattle.wire.specs.Back.{Rewritten, Stands, ReadBack}
use Rattle.wire.specs.Kept.{handle_laws}
use Rattle.wire.specs.Laws.{ValueLaws}
use Rattle.wire.proofs.Goods.{parts_good, parts_ready}

module _ {V W : Type 0} {κ : Kind V W} {texts : (Text → Option (List ℕ)) → V → W} {reads : List ℕ → ℕ → Result (V × ℕ) ByteFault} {parts : V → List (Part Handle Handle Text)} (p : ValueLaws κ texts reads parts) where
  -- what was read is written again as the bytes that were read
  pub rewritten : (bs : List ℕ) → Bytes bs → (v : V) (n : ℕ) → Ok (v, n) ≡ reads bs 0 → Rewritten κ parts bs (Ok (v, n))
  rewritten bs typed v n e =
      let u = p.lawful.unique bs typed 0 n v (omega arith) (sym (e ∙ p.read bs 0)) in
      let same : n - 0 ≡ n = omega arith in
      let bytes : bytes_of κ (κ.shown bs v) ≡ take n bs = u.3 ∙ ap (λ n. take n bs) same in
      let shown = p.shown bs v in
      let s = parts_ready (in_piece bs) (parts v) 0 (p.ready (in_piece bs) v (subst κ.good shown u.2)) in
      let fields : κ.fields (κ.shown bs v) ≡ fields_of (in_piece bs) (parts v) = ap κ.fields shown ∙ p.fields (in_piece bs) v in
      (u.1, u.2, bytes, record { live = s.0; handles = s.1; written = sym (ap flat fields) ∙ bytes })

module _ {V W : Type 0} (κ : Kind V W) (p : Lawful κ) where
  pub stands : (w : W) → κ.good w → Stands κ w (bytes_of κ w)
  stands w g =
      record {
        returns = λ rest. let r = p.returns w g [] rest in (r.0, r.1 ∙ ap (λ n. Ok (r.0, n)) (omega arith), r.2);
        cut = λ k h. p.cut w g [] k h ∙ ap (λ n. fault Short n) (omega arith);
      }

-- a reply that is served: nothing was refused on the way
tight_ok : (b : Bool) (s n : ℕ) (f : SessionFault) → cond b (Ok s) (Err f) ≡ Ok n → s ≡ n
tight_ok true s n f e = cc
tight_ok false s n f e = let z : ◌≡◌ {A = ℕ} 0 1 = cc in absurd (omega arith)

zero_ok : (o : Option ℕ) (r : Result ℕ SessionFault) (n : ℕ) → zero_or o r ≡ Ok n → (o ≡ None) × (r ≡ Ok n)
zero_ok None r n e = (refl, e)
zero_ok (Some k) r n e = let z : ◌≡◌ {A = ℕ} 0 1 = cc in absurd (omega arith)

stale_ok : (o : Option ℕ) (r : Result ℕ SessionFault) (n : ℕ) → stale_first o r ≡ Ok n → (o ≡ None) × (r ≡ Ok n)
stale_ok None r n e = (refl, e)
stale_ok (Some k) r n e = let z : ◌≡◌ {A = ℕ} 0 1 = cc in absurd (omega arith)

module _ {V W : Type 0} {κ : Kind V W} {texts : (Text → Option (List ℕ)) → V → W} {reads : List ℕ → ℕ → Result (V × ℕ) ByteFault} {parts : V → List (Part Handle Handle Text)}
    (p : ValueLaws κ texts reads parts) (v : V) (text : Text → Option (List ℕ)) where
  served_back : (before after : Buffer) (n : ℕ) → Sent text (parts v) before after (Ok n) → ReadBack κ (texts text v) before after (Ok n)
  served_back before after n s =
      let w = texts text v in
      let ps = parts v in
      let reply = sym s.reply in
      let l = stale_ok (first_stale text ps) (zero_or (first_zero text ps) (tight_or before (size_of text ps))) n reply in
      let a = zero_ok (first_zero text ps) (tight_or before (size_of text ps)) n l.1 in
      let size = tight_ok (fits before (size_of text ps)) (size_of text ps) n _ a.1 in
      let fit = s.fit refl in
      let same : bytes_of κ w ≡ sends.bytes_of text ps = ap flat (p.fields text v) in
      let long = bytes_long text ps in
      let bytes : held after ≡ held before ++ sends.bytes_of text ps = s.bytes ∙ ap (λ r. cond (is_ok r) (held before ++ sends.bytes_of text ps) (held before)) reply in
      (bytes ∙ ap (λ l. held before ++ l) (sym same), omega (arith, ap length same), stands κ p.lawful w (p.good text v (parts_good text ps 0 fit l.0 a.0)))

  -- what was written is read back
  pub read_back : (before after : Buffer) (r : Result ℕ SessionFault) → Sent text (parts v) before after r → ReadBack κ (texts text v) before after r
  read_back before after (Ok n) s = served_back before after n s
  read_back before after (Err f) s = tt

-- so for a handle that is sent by itself
pub handle_back : (h : Handle) (before after : Buffer) (r : Result ℕ SessionFault) → Sent (in_piece []) (Stream h ∷ []) before after r → ReadBack handle_kind h before after r
handle_back h before after r s = read_back handle_laws h (in_piece []) before after r s
