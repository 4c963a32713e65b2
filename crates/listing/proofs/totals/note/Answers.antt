-- The set with one handle more.
use Rattle.listing.proofs.Sets.{noted}
use Rattle.listing.proofs.totals.note.Goals as goal

pub returns : goal.returns
returns c =
    let e = c.in_ok-insert.ensures in
    noted _ _ _ e.updates e.ordered
