-- Fields as they are written.
use Rattle.std.specs.Prelude.{◌≡◌, ℕ, ◌^◌, ◌<◌, Bool, true, false, cond, Ok, Err, Result, ◌==◌}
use Rattle.fault.specs.declared.ByteFault.{ByteFault}
use Rattle.fault.specs.declared.ByteWord.TheVariants.{Zero}
use Rattle.fault.specs.declared.SessionFault.{SessionFault}
use Rattle.fault.specs.Carried.{byte_in_session}
use Rattle.buffer.specs.declared.buffer.Buffer.{Buffer}
use Rattle.buffer.specs.Filled.{held, room_of, append_reply, append_held}
use Rattle.rpc.specs.declared.Handle.{Handle}
use Rattle.rpc.specs.Laws.{le}

abbrev pub flag_byte : Bool → ℕ
flag_byte true = 1
flag_byte false = 0

abbrev pub zero_fault : ℕ → ByteFault
zero_fault at = record { word = Zero; place = at }

-- a handle that is 0, at the start of its own bytes
abbrev pub zero_or : ℕ → Result (Unit {0}) ByteFault
zero_or n = cond (n == 0) (Err (zero_fault 0)) (Ok tt)

-- a handle by itself: Zero at place 0 with nothing changed, or its four bytes appended; four bytes hold it
pub record HandleWritten (before after : Buffer) (h : Handle) (r : Result (Unit {0}) SessionFault) : Type 0 where
  pub reply : r ≡ cond (h.number == 0) (Err (byte_in_session (zero_fault 0))) (append_reply before (le 4 h.number))
  pub bytes : held after ≡ cond (h.number == 0) (held before) (append_held before (le 4 h.number))
  pub room : room_of after ≡ room_of before
  pub width : h.number < 256 ^ 4
