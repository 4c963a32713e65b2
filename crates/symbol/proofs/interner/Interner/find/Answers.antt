-- Among the entries the text stands where it stands among the texts.
use Rattle.std.proofs.Common.{rules, ap, ◌∙◌, take}
use borrow.Author.Tests.{tests}
use Rattle.std.specs.Str.{bytes_eq}
use Rattle.std.proofs.lemmas.Iterator.{YieldsList-from_slice}
use Rattle.std.proofs.lemmas.Iterator.Adapters.{position_from-zero}
use Rattle.std.proofs.lemmas.Iterator.Search.{position_from_yields_List}
use Rattle.symbol.specs.declared.entry.Entry.{Entry}
use Rattle.symbol.specs.Held.{place_of}
use Rattle.symbol.specs.Layout.{text_in}
use Rattle.symbol.proofs.Placing.{placed_among}
use Rattle.symbol.proofs.interner.Interner.find.Goals as goal

pub returns : goal.returns
returns c =
    let i = c.self.inside in
    let t = c.args.text.now in
    let entries = take i.count i.entries in
    let is_text = λ (e : Entry). bytes_eq (text_in i.bytes e) t in
    position_from_yields_List is_text _ _ c.position.result c.position.ensures.ran (YieldsList-from_slice _ c.iter.ensures.rest) (λ x b q k. search (rules, tests))
    ∙ position_from-zero is_text entries ∙ placed_among (text_in i.bytes) t 0 entries ∙ ap (λ s. place_of t s.held) c.self.view_is
