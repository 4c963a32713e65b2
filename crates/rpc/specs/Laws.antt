-- The laws that tie reading to writing, for values of any kind.
use Rattle.std.specs.Prelude.{◌≡◌, ℕ, zero, suc, ◌+◌, ◌-◌, ◌/◌, ◌%◌, ◌<◌, ◌≤◌, cond, List, [], ◌∷◌, ◌++◌, length, take, Ok, Result, nat_lt, slice_index, slice_range}
use Rattle.fault.specs.declared.ByteFault.{ByteFault}
use Rattle.fault.specs.declared.ByteWord.TheVariants.{Short}
use Rattle.rpc.specs.Wire.{fault}

-- the k bytes of n, the lowest first
abbrev pub le : ℕ → ℕ → List ℕ
le zero n = []
le (suc k) n = n % 256 ∷ le k (n / 256)

-- fields one behind the other
abbrev pub flat : List (List ℕ) → List ℕ
flat [] = []
flat (f ∷ fs) = f ++ flat fs

-- the offset of the field that the byte at k belongs to
abbrev pub field_start : List (List ℕ) → ℕ → ℕ
field_start [] k = 0
field_start (f ∷ fs) k = cond (nat_lt k (length f)) 0 (length f + field_start fs (k - length f))

-- each is a byte
abbrev pub Bytes : List ℕ → Type 0
Bytes bs = (k : ℕ) → slice_index bs k < 256

-- A kind of value on the wire. V is what is read, with a text as its place and length in the bytes,
-- and W the same value with its texts themselves.
pub record Kind (V W : Type 0) : Type 1 where
  pub reads : List ℕ → ℕ → Result (V × ℕ) ByteFault
  pub shown : List ℕ → V → W
  -- the fields in order, each by its bytes
  pub fields : W → List (List ℕ)
  -- the values that can be written: numbers within their widths, handles that are not 0, texts that are UTF-8
  pub good : W → Type 0

module _ {V W : Type 0} (κ : Kind V W) where
  -- what is written of w
  abbrev pub bytes_of : W → List ℕ
  bytes_of w = flat (κ.fields w)

  -- what is written is read back as the value, whatever stands before and behind it; what stands behind stays unread
  abbrev pub Returns : Type 0
  Returns =
      (w : W) → κ.good w → (before rest : List ℕ) →
      (v : V) × (κ.reads (before ++ (bytes_of w ++ rest)) (length before) ≡ Ok (v, length before + length (bytes_of w))) × (κ.shown (before ++ (bytes_of w ++ rest)) v ≡ w)

  -- what is read is written again as the very bytes that were read
  abbrev pub Unique : Type 0
  Unique =
      (bs : List ℕ) → Bytes bs → (at end : ℕ) (v : V) → at ≤ length bs → κ.reads bs at ≡ Ok (v, end) →
      (at ≤ end) × (end ≤ length bs) × κ.good (κ.shown bs v) × (bytes_of (κ.shown bs v) ≡ slice_range bs at end)

  -- every proper prefix is refused as Short, at the field that it ends in
  abbrev pub CutShort : Type 0
  CutShort =
      (w : W) → κ.good w → (before : List ℕ) (k : ℕ) → k < length (bytes_of w) →
      κ.reads (before ++ take k (bytes_of w)) (length before) ≡ fault Short (length before + field_start (κ.fields w) k)

  pub record Lawful : Type 0 where
    pub returns : Returns
    pub unique : Unique
    pub cut : CutShort
