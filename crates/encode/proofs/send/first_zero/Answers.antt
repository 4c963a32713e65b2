-- The part that `position` finds has the offset of the first handle that is 0.
use Rattle.std.proofs.Common.{ap, ◌∙◌, rules, tests}
use Rattle.std.proofs.lemmas.Iterator.{YieldsList-from_slice}
use Rattle.std.proofs.lemmas.Iterator.Search.{position_from_yields_List}
use Rattle.encode.specs.Sends.{is_zero, offset_of}
use Rattle.encode.proofs.Zeros.{zero_offset}
use Rattle.encode.proofs.send.first_zero.Goals as goal

pub returns-clause-place : goal.returns-clause-place
returns-clause-place g c text =
    let found = position_from_yields_List is_zero _ _ c.position.result c.position.ensures.ran (YieldsList-from_slice c.args.parts.now c.iter.ensures.rest) (λ x b q k. search (rules, tests)) in
    ap (offset_of text c.args.parts.now) found ∙ zero_offset text c.args.parts.now
