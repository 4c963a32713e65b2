-- A text is among the words that cannot be raw where it is one of them. That the body answers the contrary is left to
-- a search.
use Rattle.std.proofs.Common.{rules}
use borrow.Author.Tests.{tests}
use Rattle.std.specs.Str.{bytes_eq}
use Rattle.std.proofs.lemmas.Iterator.{YieldsList-from_slice}
use Rattle.std.proofs.lemmas.Iterator.Search.{any_from_yields_List}
use Rattle.ident.proofs.can_be_raw.Goals as goal

pub returns : goal.returns
returns c =
    let t = c.args.text.now in
    let found = any_from_yields_List (λ w. bytes_eq w.now t) _ _ c.any.result c.any.ensures.ran (YieldsList-from_slice _ c.iter.ensures.rest) (λ x b q k. search (rules, tests)) in
    search (rules, found)
