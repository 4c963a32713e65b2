-- A value's line, as it is written, is read as that value.
use Rattle.std.proofs.Common.{Some, vec_items, arith}
use Rattle.std.proofs.lemmas.Grind.{common_steps}
use Rattle.recording.specs.Format.{value}
use Rattle.recording.proofs.Law.{reads_back}
use Rattle.recording.proofs.read_line.Goals as goal

pub returns-clause-written : goal.returns-clause-written
returns-clause-written c =
    let read = c.in_ok-value.value in
    reads_back c.args.line.now (Some (value read.kind (vec_items read.bytes))) (grind (arith, common_steps))
