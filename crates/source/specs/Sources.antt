-- The text of a symbol, where it is live, and what appending it does.
use Rattle.std.specs.Prelude.{◌≡◌, ℕ, true, List, length, Some, None, Err, Option, Result}
use Rattle.fault.specs.declared.ServerFault.{ServerFault}
use Rattle.fault.specs.declared.ServerFault.TheVariants.{Server}
use Rattle.fault.specs.declared.ServerWord.TheVariants.{Stale}
use Rattle.fault.specs.declared.SessionFault.{SessionFault}
use Rattle.fault.specs.Carried.{server_in_session}
use Rattle.buffer.specs.declared.buffer.Buffer.{Buffer}
use Rattle.buffer.specs.Filled.{Appended, held, room_of}
use Rattle.text.specs.Grammar.{is_utf8}

abbrev pub length_of : Option (List ℕ) → Option ℕ
length_of None = None
length_of (Some t) = Some (length t)

-- a live text is UTF-8
abbrev pub Valid : Option (List ℕ) → Type 0
Valid None = Unit {0}
Valid (Some t) = is_utf8 t ≡ true

abbrev pub stale_fault : ℕ → ServerFault
stale_fault at = Server Stale at

pub record Untouched (before after : Buffer) : Type 0 where
  pub bytes : held after ≡ held before
  pub room : room_of after ≡ room_of before

-- what appending a symbol's text does
abbrev pub Given : Option (List ℕ) → Buffer → Buffer → Result (Unit {0}) SessionFault → Type 0
Given None before after r = (r ≡ Err (server_in_session (stale_fault 0))) × Untouched before after
Given (Some t) before after r = Appended before after t r
