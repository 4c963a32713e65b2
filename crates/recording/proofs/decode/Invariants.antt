-- The bytes made, with those of the digits left, are those of all.
use Rattle.std.proofs.Common.{◌≡◌, ◌++◌, length, vec_items}
use Rattle.recording.specs.Format.{paired}
use Rattle.recording.proofs.decode.Given as goal

abbrev pub invariant-loop-digits : goal.invariant-loop-digits
invariant-loop-digits l = vec_items l.bytes ++ paired l.digits ≡ paired l.initial.digits

abbrev pub decreases-loop-digits : goal.decreases-loop-digits
decreases-loop-digits l = length l.digits
