-- What was read is written again as the same bytes, by the laws of the value.
use Rattle.std.proofs.Common.{rules}
use Rattle.wire.proofs.Backs.{rewritten}
use Rattle.wire.proofs.decode.Goals as goal

pub returns-clause-unique : goal.returns-clause-unique
returns-clause-unique g c = rewritten g.met.T.Value.laws c.args.input.now (λ k. (c.type_inv.input k).fits) c.in_ok-value.value c.decode.new.reader.at (search rules)
