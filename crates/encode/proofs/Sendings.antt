-- What each way out of a send's check answers, and that its size can be written.
use Rattle.std.proofs.Common.{◌≡◌, ℕ, ◌-◌, ◌^◌, ◌<◌, ◌≤◌, true, false, cond, List, length, take, Some, None, Ok, Err, Option, sym, refl, ap, ◌∙◌, arith}
use Rattle.std.proofs.lemmas.Bool.{le-leb, lt-leb}
use Rattle.fault.specs.declared.ServerFault.{ServerFault}
use Rattle.fault.specs.declared.SessionFault.TheVariants.{Session}
use Rattle.fault.specs.declared.SessionWord.TheVariants.{Tight}
use Rattle.buffer.specs.declared.buffer.Buffer.{Buffer}
use Rattle.buffer.specs.Filled.{held, room_of, fits}
use Rattle.rpc.specs.declared.Handle.{Handle}
use Rattle.parts.specs.declared.Part.{Part}
use Rattle.encode.specs.Sends.{capped, part_size, size_of, stale, first_stale, first_zero, offset_of, stale_or, measured, stale_first, zero_or, tight_or, send_reply, Writable}
use Rattle.encode.proofs.Zeros.{front_sound}

stale_none : (o : Option ℕ) (n m : ℕ) → Ok n ≡ stale_or o m → (o ≡ None) × (n ≡ m)
stale_none None n m e = (refl, cc)
stale_none (Some k) n m e = let z : ◌≡◌ {A = ℕ} 0 1 = cc in absurd (omega arith)

module _ {Sy : Type 0} (text : Sy → Option (List ℕ)) (ps : List (Part Handle Handle Sy)) (b : Buffer) where
  -- a front that is measured, where the whole is live
  front_size : (i : ℕ) → first_stale text ps ≡ None → measured text (take i ps) ≡ Ok (capped (size_of text (take i ps)))
  front_size i live = ap (λ o. stale_or o (capped (size_of text (take i ps)))) (front_sound (stale text) (part_size text) 0 i ps live)

  module _ (size : ℕ) (whole : Ok size ≡ measured text ps) where
    live : first_stale text ps ≡ None
    live = (stale_none (first_stale text ps) size (capped (size_of text ps)) whole).0

    long : size ≡ capped (size_of text ps)
    long = (stale_none (first_stale text ps) size (capped (size_of text ps)) whole).1

    -- the front of live parts is not refused
    pub front_served : {X : Type 0} (i : ℕ) (f : ServerFault) → Err f ≡ measured text (take i ps) → X
    front_served i f e =
        let whole-front = e ∙ front_size i live in
        let z : ◌≡◌ {A = ℕ} 0 1 = cc in absurd (omega arith)

    module _ (found : offset_of text ps None ≡ first_zero text ps) (free : ℕ) (room : free ≡ room_of b - length (held b)) where
      reply_is : send_reply text b ps ≡ tight_or b (size_of text ps)
      reply_is = ap (λ o. stale_first o (zero_or (first_zero text ps) (tight_or b (size_of text ps)))) live ∙ ap (λ o. zero_or o (tight_or b (size_of text ps))) (sym found)

      pub at_tight : free < size → Err (Session Tight 0) ≡ send_reply text b ps
      at_tight h =
          let len = long in
          let not-fits : fits b (size_of text ps) ≡ false = lt-leb (size_of text ps) (room_of b - length (held b)) (omega arith) in
          sym (reply_is ∙ ap (λ t. cond t (Ok (size_of text ps)) (Err (Session Tight 0))) not-fits)

      exact : size ≤ free → room_of b < 2 ^ 63 → size ≡ size_of text ps
      exact h bound = let len = long in omega arith

      pub writable : length (held b) ≤ room_of b → size ≤ free → room_of b < 2 ^ 63 → Writable text ps b
      writable within h bound = let is = exact h bound in record { live = live; handles = sym found; space = omega arith }

      pub served : size ≤ free → room_of b < 2 ^ 63 → Ok size ≡ send_reply text b ps
      served h bound =
          let is = exact h bound in
          let fitting : fits b (size_of text ps) ≡ true = le-leb (size_of text ps) (room_of b - length (held b)) (omega arith) in
          ap Ok is ∙ sym (reply_is ∙ ap (λ t. cond t (Ok (size_of text ps)) (Err (Session Tight 0))) fitting)
