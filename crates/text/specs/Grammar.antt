-- UTF-8 by the grammar of RFC 3629, section 4: the language, and a test of it.
use Rattle.std.specs.Prelude.{ℕ, ◌≤◌, Bool, true, false, cond, ◌&&◌, ◌||◌, ◌⊎◌, List, [], ◌∷◌, ◌++◌, nat_le}

-- %xLL-HH: the least octet of a range and the greatest
abbrev pub Range : Type 0
Range = ℕ × ℕ

-- UTF8-tail = %x80-BF
abbrev pub tail : Range
tail = (0x80, 0xBF)

-- UTF8-char = UTF8-1 / UTF8-2 / UTF8-3 / UTF8-4, each alternative by the ranges of its octets:
-- UTF8-1 = %x00-7F
-- UTF8-2 = %xC2-DF UTF8-tail
-- UTF8-3 = %xE0 %xA0-BF UTF8-tail / %xE1-EC 2( UTF8-tail ) / %xED %x80-9F UTF8-tail / %xEE-EF 2( UTF8-tail )
-- UTF8-4 = %xF0 %x90-BF 2( UTF8-tail ) / %xF1-F3 3( UTF8-tail ) / %xF4 %x80-8F 2( UTF8-tail )
abbrev pub utf8_char : List (List Range)
utf8_char =
    ((0x00, 0x7F) ∷ [])
    ∷ ((0xC2, 0xDF) ∷ tail ∷ [])
    ∷ ((0xE0, 0xE0) ∷ (0xA0, 0xBF) ∷ tail ∷ [])
    ∷ ((0xE1, 0xEC) ∷ tail ∷ tail ∷ [])
    ∷ ((0xED, 0xED) ∷ (0x80, 0x9F) ∷ tail ∷ [])
    ∷ ((0xEE, 0xEF) ∷ tail ∷ tail ∷ [])
    ∷ ((0xF0, 0xF0) ∷ (0x90, 0xBF) ∷ tail ∷ tail ∷ [])
    ∷ ((0xF1, 0xF3) ∷ tail ∷ tail ∷ tail ∷ [])
    ∷ ((0xF4, 0xF4) ∷ (0x80, 0x8F) ∷ tail ∷ tail ∷ [])
    ∷ []

-- the octets stand in the ranges, one in each
abbrev pub InTurn : List Range → List ℕ → Type 0
InTurn [] [] = Unit {0}
InTurn [] (b ∷ bs) = ⊥
InTurn (r ∷ rs) [] = ⊥
InTurn (r ∷ rs) (b ∷ bs) = (r.0 ≤ b) × (b ≤ r.1) × InTurn rs bs

-- the octets are of one of the alternatives
abbrev pub OneOf : List (List Range) → List ℕ → Type 0
OneOf [] bs = ⊥
OneOf (rs ∷ others) bs = InTurn rs bs ⊎ OneOf others bs

abbrev pub Char : List ℕ → Type 0
Char c = OneOf utf8_char c

-- UTF8-octets = *( UTF8-char )
pub data Octets : List ℕ → Type 0 where
  none : Octets []
  more : (c rest : List ℕ) → Char c → Octets rest → Octets (c ++ rest)

-- the test: an octet of a range
abbrev pub within : Range → ℕ → Bool
within r b = nat_le r.0 b && nat_le b r.1

-- of each alternative that begins with b, the ranges behind that
abbrev pub behind : ℕ → List (List Range) → List (List Range)
behind b [] = []
behind b ([] ∷ others) = behind b others
behind b ((r ∷ rs) ∷ others) = cond (within r b) (rs ∷ behind b others) (behind b others)

abbrev pub any_of : (List Range → Bool) → List (List Range) → Bool
any_of f [] = false
any_of f (rs ∷ others) = any_of f others || f rs

-- what may come next: the rest of a character, or where nothing is left of it a character
abbrev pub coming : List Range → List (List Range)
coming [] = utf8_char
coming (r ∷ rs) = (r ∷ rs) ∷ []

-- octets in the ranges, one in each, and then UTF8-octets
abbrev pub follows : List Range → List ℕ → Bool
follows [] [] = true
follows (r ∷ rs) [] = false
follows rs (b ∷ bs) = any_of (λ left. follows left bs) (behind b (coming rs))

-- the octets are UTF-8
abbrev pub is_utf8 : List ℕ → Bool
is_utf8 bs = follows [] bs
