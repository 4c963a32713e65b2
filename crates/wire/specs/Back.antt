-- The laws of reading and writing, as they stand on a call: what was written is read back, and what was read is
-- written again as the same bytes.
use Rattle.std.specs.Prelude.{◌≡◌, ℕ, ◌<◌, ◌≤◌, List, ◌++◌, length, take, IfOk, None, Ok, Option, Result}
use Rattle.fault.specs.declared.ByteFault.{ByteFault}
use Rattle.fault.specs.declared.ByteWord.TheVariants.{Short}
use Rattle.fault.specs.declared.SessionFault.{SessionFault}
use Rattle.buffer.specs.declared.buffer.Buffer.{Buffer}
use Rattle.buffer.specs.Filled.{held}
use Rattle.rpc.specs.declared.Handle.{Handle}
use Rattle.rpc.specs.declared.Text.{Text}
use Rattle.rpc.specs.Kinds.{in_piece}
use Rattle.parts.specs.declared.Part.{Part}
use Rattle.encode.specs.Sends.{first_stale, first_zero}
use Rattle.encode.specs.Sends as sends
use Rattle.rpc.specs.Wire.{fault}
use Rattle.rpc.specs.Laws.{Kind, bytes_of, field_start}

-- a send of the parts is refused for want of room only, and writes these bytes
pub record Sendable (text : Text → Option (List ℕ)) (ps : List (Part Handle Handle Text)) (bytes : List ℕ) : Type 0 where
  pub live : first_stale text ps ≡ None
  pub handles : first_zero text ps ≡ None
  pub written : sends.bytes_of text ps ≡ bytes

module _ {V W : Type 0} (κ : Kind V W) where
  -- what was read, in n bytes, is written again as those n bytes: by its kind, and by a send of its parts with the input
  -- as the piece of its texts
  abbrev pub Rewritten : (V → List (Part Handle Handle Text)) → List ℕ → Result (V × ℕ) ByteFault → Type 0
  Rewritten parts bs r =
      IfOk r (λ p. (p.1 ≤ length bs) × κ.good (κ.shown bs p.0) × (bytes_of κ (κ.shown bs p.0) ≡ take p.1 bs) × Sendable (in_piece bs) (parts p.0) (take p.1 bs))

  -- what stands on the wire for w: it is read back as w, whatever follows, which stays unread, and every proper prefix
  -- is refused as Short at the field that it ends in
  pub record Stands (w : W) (more : List ℕ) : Type 0 where
    pub returns : (rest : List ℕ) → (v : V) × (κ.reads (more ++ rest) 0 ≡ Ok (v, length more)) × (κ.shown (more ++ rest) v ≡ w)
    pub cut : (k : ℕ) → k < length more → κ.reads (take k more) 0 ≡ fault Short (field_start (κ.fields w) k)

  -- a served write put the bytes of w behind those held, answered their number, and they stand for w
  abbrev pub ReadBack : W → Buffer → Buffer → Result ℕ SessionFault → Type 0
  ReadBack w before after r = IfOk r (λ n. (held after ≡ held before ++ bytes_of κ w) × (n ≡ length (bytes_of κ w)) × Stands w (bytes_of κ w))
