-- What the code's answers say.
use Rattle.std.specs.Prelude.{◌≡◌, vec_items, Option, Some, None, Result, Ok, Err, MatchOption}
use Rattle.recording.specs.declared.Recorded.{Recorded}
use Rattle.recording.specs.declared.ReadError.{ReadError}
use Rattle.recording.specs.declared.ReadError.TheVariants.{Line, Memory}
use Rattle.recording.specs.Format.{Meaning, passed, value, bad}

-- what an error says that the line is: want of memory says nothing
abbrev pub meant_error : ReadError → Option Meaning
meant_error (Line fault) = Some (bad fault)
meant_error (Memory refused) = None

-- what an answer says that the line is, where it is no passed one
abbrev pub meant_value : Result Recorded ReadError → Option Meaning
meant_value (Ok r) = Some (value r.kind (vec_items r.bytes))
meant_value (Err e) = meant_error e

-- what an answer says that the line is
abbrev pub meant : Result (Option Recorded) ReadError → Option Meaning
meant (Ok None) = Some passed
meant (Ok (Some r)) = Some (value r.kind (vec_items r.bytes))
meant (Err e) = meant_error e

-- only a value has bytes to store
abbrev pub Stores : Meaning → Type 0
Stores passed = ⊥
Stores (value kind bytes) = Unit {0}
Stores (bad fault) = ⊥

-- an answer to a line that is m says what it is, or nothing for want of memory for a value's bytes
abbrev pub Answers : Meaning → Option Meaning → Type 0
Answers m said = MatchOption said (Stores m) (λ l. l ≡ m)
