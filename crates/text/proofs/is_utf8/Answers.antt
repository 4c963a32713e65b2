-- A turn by what a byte does to a state, and the answer by what the last state awaits.
use Rattle.std.proofs.Common.{[], ap, arith, rules}
use Rattle.text.proofs.Language.{told}
use Rattle.text.proofs.Steps.{takes, turn, stopped, ended}
use Rattle.text.proofs.is_utf8.Goals as goal

pub loop-b-preserved : goal.loop-b-preserved
loop-b-preserved c = turn _ _ _ c.loop-b.b-index _ (omega arith) (search rules) c.step.ensures c.loop-b.invariant

pub returns-in-Start : goal.returns-in-Start
returns-in-Start c =
    told _ _ (ended _ _ c.loop-b.b-index _ _ (omega arith) (ap (λ s. takes s []) c.in-Start.is) c.loop-b.invariant)

pub returns-in_default : goal.returns-in_default
returns-in_default c =
    told _ _ (ended _ _ c.loop-b.b-index _ _ (omega arith) (stopped _ c.in_default.not-Start) c.loop-b.invariant)
