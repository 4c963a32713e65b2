-- One part more is written behind the others.
use Rattle.encode.proofs.Writes.{again}
use Rattle.encode.proofs.send.write.Goals as goal

pub loop-part-preserved : goal.loop-part-preserved
loop-part-preserved g c =
    again (g.X.Texts.text c.args.source.now) c.args.parts.now c.loop-part.part-index c.part-item.result c.args.out.now c.loop-part.out c.loop-part-test.true c.part-item.is c.loop-part.invariant c.write_part.new.out _ c.write_part.ensures
