-- A turn takes one item more.
use Rattle.listing.proofs.Sets.{different}
use Rattle.listing.proofs.Tallied.{room, more, whole}
use Rattle.listing.proofs.totals.tally.Goals as goal

pub add-requires : goal.add-requires
add-requires c =
    room c.args.items.now c.loop-item.item-index c.item-item.result c.loop-item-test.true c.item-item.is _ _ _ c.loop-item.invariant _ c.counts_of.ensures c.requires

pub loop-item-preserved : goal.loop-item-preserved
loop-item-preserved c =
    more c.args.items.now c.loop-item.item-index c.item-item.result c.loop-item-test.true c.item-item.is _ _ _ c.loop-item.invariant _ _ _ _ c.counts_of.ensures c.add.ensures c.in_ok-note_item.ensures.streams c.in_ok-note_item.ensures.spans

pub returns-clause-streams : goal.returns-clause-streams
returns-clause-streams c =
    different _ _ _ (whole c.args.items.now _ _ _ _ c.loop-item.invariant c.loop-item-test.false).streamed c.len.ensures.len

pub returns-clause-spans : goal.returns-clause-spans
returns-clause-spans c =
    different _ _ _ (whole c.args.items.now _ _ _ _ c.loop-item.invariant c.loop-item-test.false).spanned c.len-2.ensures.len
