-- A value's entry weighs no more than its line.
use Rattle.std.proofs.Common.{vec_items, arith}
use Rattle.listing.proofs.Reading.{answered, valued}
use Rattle.listing.proofs.items.read_item.Goals as goal

pub returns-in-Ok-Some-clause-weight : goal.returns-in-Ok-Some-clause-weight
returns-in-Ok-Some-clause-weight c =
    let is = answered c.args.line.now _ _ c.in-Ok-Some.value c.read_line.ensures.meaning c.in-Ok-Some.is c.in-Ok-Some.field-0-is in
    omega (arith, c.value_item.ensures.weight, valued c.args.line.now c.in-Ok-Some.value.kind (vec_items c.in-Ok-Some.value.bytes) is)
