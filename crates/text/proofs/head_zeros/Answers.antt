-- What `leading_zeros` answers, at each of the 256 bytes.
use Rattle.std.proofs.Common.{rules}
use Rattle.text.proofs.Bytes.{heads}
use Rattle.text.proofs.head_zeros.Goals as goal

pub returns : goal.returns
returns c = heads c.args.b (search rules)
