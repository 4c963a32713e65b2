-- A turn lists what one line gives.
use Rattle.std.proofs.Common.{◌≡◌, ◌+◌, ◌<◌, true, false, map, length, get_or, vec_items, count_by, refl, sym, ◌∙◌, add-zero, rules, tests}
use Rattle.std.specs.Option.{option_map, option_to_list}
use Rattle.std.proofs.lemmas.List.{length_push}
use Rattle.std.proofs.lemmas.Iterator.Consumers.{YieldsList-at, YieldsList-from_enumerate}
use Rattle.std.proofs.lemmas.Iterator.Splits.{YieldsList-from_slice_split}
use Rattle.listing.specs.Entries.{is_value}
use Rattle.listing.specs.Items.{entry_of}
use Rattle.listing.proofs.Lines.{parts}
use Rattle.listing.proofs.Reading.{turn, passed_over, whole, next_line, last_line, pushed, counted, unpushed, uncounted}
use Rattle.listing.proofs.items.read_items.Goals as goal
use Rattle.listing.proofs.items.read_items.Goals.{In-Some, In-None, then-is_value, else-is_value}

-- the line of a turn is the next part of the file
next_part : (c : In-Some) → (c.in-Some.i ≡ length c.loop-i.yielded) × (length c.loop-i.yielded < length (parts c.args.file.now)) × (c.in-Some.line.now ≡ get_or (parts c.args.file.now) (length c.loop-i.yielded) c.in-Some.line.now)
next_part c =
    next_line (parts c.args.file.now) c.loop-i.yielded _ c.loop-i.yielded_by _ _ c.in-Some.i c.in-Some.line c.in-Some.is c.next.ensures.steps (YieldsList-at c.into_iter-i-iterator.ensures.into_iter_gives (YieldsList-from_enumerate (YieldsList-at c.enumerate-i-items.ensures.source (YieldsList-from_slice_split _ _ c.args.file.now c.split.ensures.rest c.split.ensures.done c.split.ensures.closure (λ x b q k. search (rules, tests)))) c.enumerate-i-items.ensures.count))

-- at the end all parts are read
all_parts : (c : In-None) → length c.loop-i.yielded ≡ length (parts c.args.file.now)
all_parts c =
    last_line (parts c.args.file.now) c.loop-i.yielded _ c.loop-i.yielded_by _ _ c.in-None.is c.next.ensures.steps (YieldsList-at c.into_iter-i-iterator.ensures.into_iter_gives (YieldsList-from_enumerate (YieldsList-at c.enumerate-i-items.ensures.source (YieldsList-from_slice_split _ _ c.args.file.now c.split.ensures.rest c.split.ensures.done c.split.ensures.closure (λ x b q k. search (rules, tests)))) c.enumerate-i-items.ensures.count))

pub loop-i-preserved-then-is_empty : goal.loop-i-preserved-then-is_empty
loop-i-preserved-then-is_empty c =
    let part = next_part (goal.at.loop-i-preserved-then-is_empty c).In-Some in
    rw length_push (passed_over c.args.file.now (map entry_of (vec_items c.loop-i.items)) c.in-Some.line.now c.in-Some.i (length c.loop-i.yielded) c.loop-i.number c.loop-i.invariant part (search rules))

pub loop-i-preserved-in_default : goal.loop-i-preserved-in_default
loop-i-preserved-in_default c =
    let o = c.in_ok-item.field-0 in
    let xs = vec_items c.loop-i.items in
    let n = c.loop-i.number in
    let told = c.in_ok-item.ensures in
    let part = next_part (goal.at.loop-i-preserved-in_default c).In-Some in
    rw length_push (turn c.args.file.now (map entry_of xs) (option_to_list (option_map entry_of o)) (map entry_of xs) c.in-Some.line.now c.in-Some.i (length c.loop-i.yielded) n n c.loop-i.invariant part told.entry told.weight (uncounted xs xs n n o c.in_default.is refl) (unpushed xs xs n n o c.in_default.is refl))

pub loop-i-preserved : goal.loop-i-preserved
loop-i-preserved c =
    let o = c.in_ok-item.field-0 in
    let xs = vec_items c.loop-i.items in
    let ys = vec_items c.push.new.self in
    let n = c.loop-i.number in
    let next = c.if-is_value.number in
    let told = c.in_ok-item.ensures in
    let item = c.in-Some-2.item in
    let is = c.in-Some-2.is in
    let part = next_part (goal.at.loop-i-preserved c).In-Some in
    let numbers : next ≡ n + count_by is_value (option_to_list (option_map entry_of o)) = elim c.if-is_value.branch [ then-is_value w ↦ counted xs ys n next o item true is w.if-is_value.ensures w.number-is | else-is_value w ↦ counted xs ys n next o item false is w.if-is_value.ensures (w.number-is ∙ sym (add-zero n)) ] in
    rw length_push (turn c.args.file.now (map entry_of xs) (option_to_list (option_map entry_of o)) (map entry_of ys) c.in-Some.line.now c.in-Some.i (length c.loop-i.yielded) n next c.loop-i.invariant part told.entry told.weight numbers (pushed xs ys n next o item ys is refl c.in_ok-push.ensures.items))

pub returns-clause-entries : goal.returns-clause-entries
returns-clause-entries c =
    (whole c.args.file.now _ _ _ c.loop-i.invariant (all_parts c)).0

pub returns-clause-weight : goal.returns-clause-weight
returns-clause-weight c =
    (whole c.args.file.now _ _ _ c.loop-i.invariant (all_parts c)).1
