-- What is true of every interner, and a text that is lent.
use Rattle.std.specs.Prelude.{◌≡◌, ℕ, ◌<◌, ◌≤◌, ◌+◌, true, false, List, [], ◌∷◌, ◌++◌, length, Ok, Err, Result}
use Rattle.std.specs.Borrow.{Bor}
use Rattle.fault.specs.declared.ServerFault.{ServerFault}
use Rattle.symbol.specs.Held.{all_allowed, bytes_in, fits, holds, allowed, once}
use Rattle.symbol.specs.Interning.{State, limits, top}

-- the texts held are allowed and differ, they are within the limits, and each has a number
pub record Sound (s : State) : Type 0 where
  pub texts : all_allowed limits s.held ≡ true
  pub different : once s.held ≡ true
  pub few : length s.held ≤ limits.most
  pub room : bytes_in s.held ≤ limits.bytes
  pub opened : 0 < s.base
  pub numbers : s.base + length s.held ≤ top + 1

-- a text held behind the others
abbrev pub with_text : State → List ℕ → State
with_text s t = record { base = s.base; held = s.held ++ t ∷ [] }

-- a text that may be held behind those that are
pub record MayAdd (s : State) (t : List ℕ) : Type 0 where
  pub allowed : allowed limits t ≡ true
  pub room : fits limits s.held t ≡ true
  pub new : holds s.held t ≡ false

-- a text that is lent, by what it reads
abbrev pub text_read : Result (Bor (List ℕ)) ServerFault → Result (List ℕ) ServerFault
text_read (Ok t) = Ok t.now
text_read (Err fault) = Err fault
