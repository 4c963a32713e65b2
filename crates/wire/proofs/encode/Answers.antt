-- What was written is read back, by the laws of the value.
use Rattle.std.proofs.Common.{rules}
use Rattle.wire.proofs.Backs.{read_back}
use Rattle.wire.proofs.encode.Goals as goal

pub returns-clause-back : goal.returns-clause-back
returns-clause-back g c = search (rules, read_back g.met.T.Value.laws)
