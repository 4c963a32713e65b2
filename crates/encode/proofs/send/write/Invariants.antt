-- The parts before the next are written, and the others can be.
use Rattle.encode.proofs.Writes.{Underway}
use Rattle.encode.proofs.send.write.Given as goal

abbrev pub invariant-loop-part : goal.invariant-loop-part
invariant-loop-part g l = Underway (g.X.Texts.text l.source) l.parts l.part-index l.initial.out l.out
