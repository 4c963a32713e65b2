-- The place that `position` finds.
use Rattle.std.proofs.Common.{◌≡◌, ◌∙◌, not, rules, tests}
use Rattle.std.specs.List.{position_or_len}
use Rattle.std.proofs.Math.Bool.{not-not}
use Rattle.std.proofs.lemmas.Iterator.{YieldsList-from_slice}
use Rattle.std.proofs.lemmas.Iterator.Search.{position_from_yields_List}
use Rattle.recording.specs.Format.{is_digit, hex_length}
use Rattle.recording.proofs.Firsts.{or_end}
use Rattle.recording.proofs.hex_len.Goals as goal

pub returns : goal.returns
returns c =
    let text = c.args.text.now in
    let found = position_from_yields_List (λ b. not (is_digit b)) _ _ c.position.result c.position.ensures.ran (YieldsList-from_slice text c.iter.ensures.rest) (λ x b q k. search (rules, tests)) in
    let digits : position_or_len (λ b. not (is_digit b)) text ≡ hex_length text = simp not-not in
    c.unwrap_or.ensures ∙ or_end _ _ _ found ∙ digits
