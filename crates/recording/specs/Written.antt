-- How a value is written, and that a line so written is read as that value.
use Rattle.std.specs.Prelude.{◌≡◌, ℕ, ◌/◌, ◌%◌, ◌<◌, List, [], ◌∷◌, ◌++◌, codes, slice_index}
use Rattle.std.specs.List.{AllByRecursion}
use Rattle.recording.specs.declared.Kind.{Kind}
use Rattle.recording.specs.Format.{Meaning, value, name_of}

-- the digit of a number below 16
abbrev pub digit : ℕ → ℕ
digit n = slice_index (codes "0123456789abcdef") n

-- two digits for each byte, the high digit first
abbrev pub hex : List ℕ → List ℕ
hex [] = []
hex (b ∷ bytes) = digit (b / 16) ∷ digit (b % 16) ∷ hex bytes

-- a dot for no bytes
abbrev pub bytes_written : List ℕ → List ℕ
bytes_written [] = codes "."
bytes_written (b ∷ bytes) = hex (b ∷ bytes)

abbrev pub written : Kind → List ℕ → List ℕ
written kind bytes = name_of kind ++ codes " " ++ bytes_written bytes

-- if the line is a value as it is written, its meaning is that value
abbrev pub ReadsBack : List ℕ → Meaning → Type 0
ReadsBack line meaning =
    (kind : Kind) (bytes : List ℕ) → AllByRecursion (λ b. b < 256) bytes → line ≡ written kind bytes → meaning ≡ value kind bytes
