-- A turn notes the texts of one item.
use Rattle.listing.specs.Items.{entry_of}
use Rattle.distinct.specs.Texts.{texts_of}
use Rattle.distinct.proofs.Turns.{more}
use Rattle.distinct.proofs.Noting.note_items.Goals as goal

pub loop-item-preserved : goal.loop-item-preserved
loop-item-preserved c =
    more entry_of texts_of c.args.items.now c.args.self.now c.loop-item.item-index c.item-item.result c.loop-item-test.true c.item-item.is _ _ c.loop-item.invariant c.note_item.ensures
