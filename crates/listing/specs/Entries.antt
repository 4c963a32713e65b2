-- The list of a recording: the file's lines, numbered from 1, and what each of them gives.
use Rattle.std.specs.Prelude.{ℕ, ◌+◌, Bool, true, false, cond, List, [], ◌∷◌, ◌++◌, Ok, Err, count_by, Result, ◌==◌}
use Rattle.std.specs.List.{onto_first}
use Rattle.fault.specs.declared.ByteFault.{ByteFault}
use Rattle.recording.specs.declared.Kind.{Kind}
use Rattle.recording.specs.declared.LineFault.{LineFault}
use Rattle.recording.specs.Format.{Meaning, line_of}
use Rattle.recording.specs.Format as line
use Rattle.listing.specs.declared.value.Value.{Value}
use Rattle.listing.specs.Values.{value_at}

-- what stands in the list: a value that was read, by its number, its kind, itself, its line's bytes and how many of them
-- were read; a value that was refused, by its number and its kind; a bad line by its number
pub data Entry : Type 0 where
  read : ℕ → Kind → Value → List ℕ → ℕ → Entry
  refused : ℕ → Kind → ByteFault → Entry
  bad : ℕ → LineFault → Entry

-- a byte in front of the first line
abbrev pub in_front : ℕ → List (List ℕ) → List (List ℕ)
in_front b lines = onto_first b lines

-- the lines: each ends before a byte 0A or at the end of the file; nothing behind the last 0A is no line
abbrev pub lines_of : List ℕ → List (List ℕ)
lines_of [] = []
lines_of (b ∷ rest) = cond (b == 10) ([] ∷ lines_of rest) (in_front b (lines_of rest))

-- the entry of a value
abbrev pub value_entry : ℕ → Kind → List ℕ → Result (Value × ℕ) ByteFault → Entry
value_entry number kind bytes (Ok p) = read number kind p.0 bytes p.1
value_entry number kind bytes (Err fault) = refused number kind fault

-- what a line gives, where it has this number and the next value that: nothing if it is passed over
abbrev pub given : ℕ → ℕ → Meaning → List Entry
given place number line.passed = []
given place number (line.value kind bytes) = value_entry number kind bytes (value_at kind bytes) ∷ []
given place number (line.bad fault) = bad place fault ∷ []

-- a refused value is one too
abbrev pub is_value : Entry → Bool
is_value (read number kind v bytes n) = true
is_value (refused number kind fault) = true
is_value (bad place fault) = false

-- what some lines give, where the first has this number and the next value that
abbrev pub entries_from : ℕ → ℕ → List (List ℕ) → List Entry
entries_from place number [] = []
entries_from place number (first ∷ more) =
    given place number (line_of first)
    ++ entries_from (place + 1) (number + count_by is_value (given place number (line_of first))) more

abbrev pub entries : List ℕ → List Entry
entries file = entries_from 1 1 (lines_of file)
