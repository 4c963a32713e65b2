-- One part more leaves the sum and the search at the next part.
use Rattle.std.proofs.Common.{rules}
use Rattle.encode.proofs.Measures.{measure_more}
use Rattle.encode.proofs.send.measure.Goals as goal

pub loop-part-preserved : goal.loop-part-preserved
loop-part-preserved g c = measure_more (g.X.Texts.text c.args.source.now) c.args.parts.now c.loop-part.part-index _ c.in_ok-size.size _ c.part-item.result c.loop-part-test.true c.part-item.is (search rules) c.loop-part.invariant c.saturating_add-at.ensures
