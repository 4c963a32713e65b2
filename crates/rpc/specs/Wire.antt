-- Reading the fields of the wire: a byte, a truth value, a length, a handle, a text, an optional value.
-- A reader is given the bytes and an offset, and answers the value with the offset behind it, or the fault.
use Rattle.std.specs.Prelude.{ℕ, ◌+◌, ◌*◌, Bool, true, false, cond, List, [], ◌∷◌, length, take, drop, Some, None, Ok, Err, Option, Result, ◌==◌, nat_le, nat_lt, slice_index}
use Rattle.fault.specs.declared.ByteWord.{ByteWord}
use Rattle.fault.specs.declared.ByteWord.TheVariants.{Short, Tag, Zero, Garbled}
use Rattle.fault.specs.declared.ByteFault.{ByteFault}
use Rattle.text.specs.Grammar.{is_utf8}
use Rattle.rpc.specs.declared.Handle.{Handle}
use Rattle.rpc.specs.declared.Text.{Text}

abbrev pub fault : {X : Type 0} → ByteWord → ℕ → Result X ByteFault
fault w at = Err (record { word = w; place = at })

-- what a reader answers, and where it then stands, as one answer
abbrev pub ended : {X : Type 0} → Result X ByteFault → ℕ → Result (X × ℕ) ByteFault
ended (Ok x) at = Ok (x, at)
ended (Err f) at = Err f

-- k bytes
abbrev pub part_at : ℕ → List ℕ → ℕ → Result (List ℕ × ℕ) ByteFault
part_at k bs at = cond (nat_le (at + k) (length bs)) (Ok (take k (drop at bs), at + k)) (fault Short at)

-- one read, and then another from where it ended
abbrev pub and_then : {X Y : Type 0} → Result (X × ℕ) ByteFault → (X → ℕ → Result Y ByteFault) → Result Y ByteFault
and_then (Ok x) k = k x.0 x.1
and_then (Err f) k = Err f

abbrev pub byte_at : List ℕ → ℕ → Result (ℕ × ℕ) ByteFault
byte_at bs at = cond (nat_lt at (length bs)) (Ok (slice_index bs at, at + 1)) (fault Short at)

-- the value of bytes whose first is the lowest
abbrev pub number : List ℕ → ℕ
number [] = 0
number (b ∷ bs) = b + 256 * number bs

-- a number of k bytes, the lowest first
abbrev pub number_at : ℕ → List ℕ → ℕ → Result (ℕ × ℕ) ByteFault
number_at k bs at = cond (nat_le (at + k) (length bs)) (Ok (number (take k (drop at bs)), at + k)) (fault Short at)

-- four bytes, and not 0
abbrev pub handle_at : List ℕ → ℕ → Result (Handle × ℕ) ByteFault
handle_at bs at = and_then (number_at 4 bs at) (λ n end. cond (n == 0) (fault Zero at) (Ok (record { number = n }, end)))

-- a length and as many bytes, which are UTF-8
abbrev pub text_at : List ℕ → ℕ → Result (Text × ℕ) ByteFault
text_at bs at = and_then (number_at 8 bs at) (λ n place. cond (nat_le (place + n) (length bs)) (cond (is_utf8 (take n (drop place bs))) (Ok (record { place = place; length = n }, place + n)) (fault Garbled place)) (fault Short place))

-- the readers of the values behind a tag, by the tag
module _ {X : Type 0} where
  abbrev pub chosen : Option (List ℕ → ℕ → Result (X × ℕ) ByteFault) → ℕ → List ℕ → ℕ → Result (X × ℕ) ByteFault
  chosen None tag_at bs at = fault Tag tag_at
  chosen (Some r) tag_at bs at = r bs at

  -- the readers of the cases, the first with tag i, each other with the next
  abbrev pub by_tag : ℕ → List (List ℕ → ℕ → Result (X × ℕ) ByteFault) → ℕ → Option (List ℕ → ℕ → Result (X × ℕ) ByteFault)
  by_tag i [] tag = None
  by_tag i (r ∷ rs) tag = cond (tag == i) (Some r) (by_tag (i + 1) rs tag)

  -- a tag, and then what stands behind that tag
  abbrev pub tagged_at : List (List ℕ → ℕ → Result (X × ℕ) ByteFault) → List ℕ → ℕ → Result (X × ℕ) ByteFault
  tagged_at cases bs at = and_then (byte_at bs at) (λ tag end. chosen (by_tag 0 cases tag) at bs end)

  -- a value that has no bytes
  abbrev pub plain_at : X → List ℕ → ℕ → Result (X × ℕ) ByteFault
  plain_at x bs at = Ok (x, at)

module _ {X Y : Type 0} where
  abbrev pub made : (X → Y) → Result (X × ℕ) ByteFault → Result (Y × ℕ) ByteFault
  made f (Ok x) = Ok (f x.0, x.1)
  made f (Err e) = Err e

  -- the value that f makes of the one that is read
  abbrev pub made_at : (X → Y) → (List ℕ → ℕ → Result (X × ℕ) ByteFault) → List ℕ → ℕ → Result (Y × ℕ) ByteFault
  made_at f r bs at = made f (r bs at)

  -- one value and then another
  abbrev pub both_at : (List ℕ → ℕ → Result (X × ℕ) ByteFault) → (List ℕ → ℕ → Result (Y × ℕ) ByteFault) → List ℕ → ℕ → Result ((X × Y) × ℕ) ByteFault
  both_at r s bs at = and_then (r bs at) (λ x p. and_then (s bs p) (λ y end. Ok ((x, y), end)))

abbrev pub flag_at : List ℕ → ℕ → Result (Bool × ℕ) ByteFault
flag_at bs at = tagged_at (plain_at false ∷ plain_at true ∷ []) bs at

module _ {X : Type 0} where
  -- 00 and the value, or 01
  abbrev pub option_at : (List ℕ → ℕ → Result (X × ℕ) ByteFault) → List ℕ → ℕ → Result (Option X × ℕ) ByteFault
  option_at r bs at = tagged_at (made_at Some r ∷ plain_at None ∷ []) bs at
