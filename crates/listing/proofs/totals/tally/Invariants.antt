-- The counts and the sets are those of the items passed.
use Rattle.std.proofs.Common.{map, take}
use Rattle.listing.specs.Items.{entry_of}
use Rattle.listing.proofs.Tallied.{Tallied}
use Rattle.listing.proofs.totals.tally.Given as goal

abbrev pub invariant-loop-item : goal.invariant-loop-item
invariant-loop-item l = Tallied (take l.item-index (map entry_of l.items)) l.counts l.streams l.spans
