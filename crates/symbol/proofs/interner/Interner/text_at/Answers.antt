-- The text at a place is one of those held, and each of these is allowed.
use Rattle.std.proofs.Common.{◌≡◌, [], get_or, arith, ap, ◌∙◌, subst}
use Rattle.std.proofs.lemmas.Grind.{common_steps}
use Rattle.symbol.specs.Held.{allowed}
use Rattle.symbol.specs.Interning.{limits}
use Rattle.symbol.specs.States.{Sound}
use Rattle.symbol.proofs.Holding.{allowed_at}
use Rattle.symbol.proofs.interner.Interner.text_at.Goals as goal

pub returns-clause-allowed : goal.returns-clause-allowed
returns-clause-allowed c =
    let sound : Sound c.args.self.now = subst Sound c.self.view_is c.self.invariant.1 in
    let is : c.text_in.result.now ≡ get_or c.args.self.now.held c.args.i [] = grind (arith, common_steps) in
    ap (allowed limits) is ∙ allowed_at limits c.args.self.now.held c.args.i c.requires sound.texts
