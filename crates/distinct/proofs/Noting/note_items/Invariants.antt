-- The texts of the items passed have been noted.
use Rattle.std.proofs.Common.{map, take}
use Rattle.listing.specs.Items.{entry_of}
use Rattle.distinct.specs.Noted.{Noted}
use Rattle.distinct.specs.Texts.{all_texts}
use Rattle.distinct.proofs.Noting.note_items.Given as goal

abbrev pub invariant-loop-item : goal.invariant-loop-item
invariant-loop-item l = Noted l.initial.self (all_texts (take l.item-index (map entry_of l.items))) l.self
