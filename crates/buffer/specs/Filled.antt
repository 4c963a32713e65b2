-- What a buffer holds, and what an append answers and leaves.
use Rattle.std.specs.Prelude.{◌≡◌, ℕ, ◌-◌, Bool, cond, List, ◌++◌, length, Ok, Err, vec_items, Result, nat_le}
use Rattle.fault.specs.declared.SessionFault.{SessionFault}
use Rattle.fault.specs.declared.SessionFault.TheVariants.{Session}
use Rattle.fault.specs.declared.SessionWord.TheVariants.{Tight}
use Rattle.buffer.specs.declared.buffer.Buffer.{Buffer}

abbrev pub held : Buffer → List ℕ
held b = vec_items b.bytes

abbrev pub room_of : Buffer → ℕ
room_of b = b.room

-- n bytes more find room
abbrev pub fits : Buffer → ℕ → Bool
fits b n = nat_le n (room_of b - length (held b))

-- an append: Tight with nothing changed, or the bytes behind those held
abbrev pub append_reply : Buffer → List ℕ → Result (Unit {0}) SessionFault
append_reply b more = cond (fits b (length more)) (Ok tt) (Err (Session Tight 0))

abbrev pub append_held : Buffer → List ℕ → List ℕ
append_held b more = cond (fits b (length more)) (held b ++ more) (held b)

pub record Appended (before after : Buffer) (more : List ℕ) (r : Result (Unit {0}) SessionFault) : Type 0 where
  pub reply : r ≡ append_reply before more
  pub bytes : held after ≡ append_held before more
  pub room : room_of after ≡ room_of before
