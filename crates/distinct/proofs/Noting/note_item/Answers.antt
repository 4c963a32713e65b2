-- The first text of a value, and then the second.
use Rattle.std.proofs.Common.{◌≡◌, ◌++◌, map, sym, ap, ◌∙◌, subst}
use Rattle.std.specs.Option.{option_to_list}
use Rattle.std.proofs.lemmas.List.{map-append}
use Rattle.rpc.specs.Kinds.{text_in}
use Rattle.listing.specs.Items.{entry_of}
use Rattle.distinct.specs.Noted.{Noted}
use Rattle.distinct.specs.Texts.{texts_in, texts_of}
use Rattle.distinct.proofs.Turns.{both}
use Rattle.distinct.proofs.Noting.note_item.Goals as goal

pub returns-in-Read : goal.returns-in-Read
returns-in-Read c =
    let bytes = c.as_slice-bytes.result.now in
    let first = c.texts_in-first.result.0 in
    let second = c.texts_in-first.result.1 in
    let texts : map (text_in bytes) (option_to_list first) ++ map (text_in bytes) (option_to_list second) ≡ texts_of (entry_of c.args.item.now) = sym (map-append (text_in bytes) (option_to_list first) (option_to_list second)) ∙ ap (map (text_in bytes)) c.texts_in-first.ensures ∙ ap (λ bs. map (text_in bs) (texts_in c.in-Read.read.value)) c.as_slice-bytes.ensures.value ∙ ap (λ x. texts_of (entry_of x)) (sym c.in-Read.is) in
    subst (λ ts. Noted c.args.self.now ts c.note-in-Read.new.self) texts (both _ _ _ _ _ c.note.ensures c.note-in-Read.ensures)
