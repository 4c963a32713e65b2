-- Texts that are held, in the order in which they came: where one stands, and whether one more is taken.
use Rattle.std.specs.Prelude.{ℕ, ◌+◌, Bool, true, not, ◌&&◌, ◌||◌, List, [], ◌∷◌, length, sum_by, Option, nat_le, nat_lt}
use Rattle.std.specs.List.{list_all, list_any, position_from}
use Rattle.std.specs.Str.{bytes_eq}
use Rattle.text.specs.Grammar.{is_utf8}

-- the place of a text in a list whose first text has the place n
abbrev pub place_from : ℕ → List ℕ → List (List ℕ) → Option ℕ
place_from n t held = position_from (λ x. bytes_eq x t) n held

abbrev pub place_of : List ℕ → List (List ℕ) → Option ℕ
place_of t held = place_from 0 t held

abbrev pub holds : List (List ℕ) → List ℕ → Bool
holds held t = list_any (λ x. bytes_eq x t) held

-- how many bytes the texts have
abbrev pub bytes_in : List (List ℕ) → ℕ
bytes_in held = sum_by length held

-- no text stands twice
abbrev pub once : List (List ℕ) → Bool
once [] = true
once (t ∷ ts) = not (holds ts t) && once ts

-- the longest text that is taken, the most texts and the most bytes that are held
pub record Limits : Type 0 where
  pub longest : ℕ
  pub most : ℕ
  pub bytes : ℕ

-- one text more finds room
abbrev pub fits : Limits → List (List ℕ) → List ℕ → Bool
fits l held t = nat_lt (length held) l.most && nat_le (bytes_in held + length t) l.bytes

-- a text no longer than the longest is taken if it is held or finds room
abbrev pub takes : Limits → List (List ℕ) → List ℕ → Bool
takes l held t = nat_le (length t) l.longest && (holds held t || fits l held t)

-- a text that may be held
abbrev pub allowed : Limits → List ℕ → Bool
allowed l t = is_utf8 t && nat_le (length t) l.longest

abbrev pub all_allowed : Limits → List (List ℕ) → Bool
all_allowed l held = list_all (allowed l) held
