-- What interning answers stands for the text from then on.
use Rattle.std.proofs.Common.{Ok, arith}
use Rattle.std.proofs.lemmas.Grind.{common_steps}
use Rattle.symbol.proofs.Answering.{answering}
use Rattle.symbol.proofs.Standing.{stands_after}
use Rattle.symbol.proofs.interner.Interner.intern_utf8.Goals as goal

pub returns-in-Some-clause-stands : goal.returns-in-Some-clause-stands
returns-in-Some-clause-stands c =
    let s = c.args.self.now in
    stands_after s c.args.text.now (Ok _) s (grind (arith, common_steps, answering))

pub returns-clause-stands : goal.returns-clause-stands
returns-clause-stands c =
    stands_after c.args.self.now c.args.text.now c.add.result c.add.new.self (grind (arith, common_steps, answering))
