-- What the code's items say, and where it cuts a file.
use Rattle.std.specs.Prelude.{ℕ, ◌+◌, vec_items}
use Rattle.listing.specs.declared.items.Item.{Item}
use Rattle.listing.specs.declared.items.Item.TheVariants.{Read, Refused, Bad}
use Rattle.listing.specs.Entries.{Entry, read, refused, bad}

abbrev pub entry_of : Item → Entry
entry_of (Read r) = read r.number r.kind r.value (vec_items r.bytes) r.read
entry_of (Refused r) = refused r.number r.kind r.fault
entry_of (Bad b) = bad b.line b.fault

-- no count of an entry is above this, nor is its line shorter
abbrev pub weight : Entry → ℕ
weight (read number kind v bytes n) = 2 + n
weight (refused number kind fault) = 1
weight (bad place fault) = 1
