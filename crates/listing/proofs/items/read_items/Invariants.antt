-- What is listed so far, with what the lines left give, is the list of the file.
use Rattle.std.proofs.Common.{map, length, vec_items}
use Rattle.listing.specs.Items.{entry_of}
use Rattle.listing.proofs.Reading.{Reading}
use Rattle.listing.proofs.items.read_items.Given as goal

abbrev pub invariant-loop-i : goal.invariant-loop-i
invariant-loop-i l = Reading l.file (map entry_of (vec_items l.items)) (length l.yielded) l.number
