-- What makes a list of lines the lines of a file.
use Rattle.std.specs.Prelude.{◌≡◌, ℕ, false, ◌⊎◌, List, [], ◌∷◌, ◌++◌}
use Rattle.std.specs.List.{flat_map, AllByRecursion}
use Rattle.listing.specs.Handles.{member}

-- the lines with a 0A behind each
abbrev pub ended : List (List ℕ) → List ℕ
ended lines = flat_map (λ l. l ++ 10 ∷ []) lines

-- a file whose last byte is no 0A
pub record Open (file : List ℕ) : Type 0 where
  pub front : List ℕ
  pub last : ℕ
  pub is : file ≡ front ++ last ∷ []
  pub other : last ≡ 10 → ⊥

-- no line has a 0A, and with one behind each they spell the file, or the file with a 0A behind it where it ends in none
pub record Cut (file : List ℕ) (lines : List (List ℕ)) : Type 0 where
  pub plain : AllByRecursion (λ l. member 10 l ≡ false) lines
  pub spelled : (ended lines ≡ file) ⊎ (Open file × (ended lines ≡ file ++ 10 ∷ []))
