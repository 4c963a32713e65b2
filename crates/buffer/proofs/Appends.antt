-- An append that finds room is done.
use Rattle.std.proofs.Common.{◌≡◌, ℕ, ◌+◌, ◌≤◌, true, List, ◌++◌, length, Ok, Result, ◌∙◌, arith}
use Rattle.std.proofs.lemmas.Bool.{le-leb, cond-true}
use Rattle.fault.specs.declared.SessionFault.{SessionFault}
use Rattle.buffer.specs.declared.buffer.Buffer.{Buffer}
use Rattle.buffer.specs.Filled.{Appended, held, room_of, fits}

pub fits_room : (b : Buffer) (n : ℕ) → length (held b) + n ≤ room_of b → fits b n ≡ true
fits_room b n h = le-leb n _ (omega arith)

pub done : (before after : Buffer) (more : List ℕ) (r : Result (Unit {0}) SessionFault) → length (held before) + length more ≤ room_of before → Appended before after more r →
    (r ≡ Ok tt) × (held after ≡ held before ++ more)
done before after more r h a =
    let f = fits_room before (length more) h in
    (a.reply ∙ cond-true _ _ _ f, a.bytes ∙ cond-true _ _ _ f)
