-- The kinds of value on the wire, over handles and texts: what is read, what is written, and which values can be written.
use Rattle.std.specs.Prelude.{ℕ, ◌<◌, List, Option}
use Rattle.std.specs.Option.{option_map}
use Rattle.rpc.specs.declared.Handle.{Handle}
use Rattle.rpc.specs.declared.Text.{Text}
use Rattle.rpc.specs.Wire.{handle_at, text_at}
use Rattle.rpc.specs.Laws.{Kind}
use Rattle.rpc.specs.Kinds.{handle_kind, in_piece, GoodText, OptionGood}
use Rattle.encode.specs.Sends.{fields_of}
use Rattle.token.specs.Tags.{lit_kind_hashes}
use Rattle.token.specs.declared.kinds.LitKind.{LitKind}
use Rattle.token.specs.declared.kinds.DelimSpan.{DelimSpan}
use Rattle.tree.specs.declared.Group.{Group}
use Rattle.leaf.specs.declared.Punct.{Punct}
use Rattle.leaf.specs.declared.Ident.{Ident}
use Rattle.leaf.specs.declared.Literal.{Literal}
use Rattle.tree.specs.declared.TokenTree.{TokenTree}
use Rattle.tree.specs.declared.TokenTree.TheVariants as tree
use Rattle.leaf.specs.Reads.{literal_at}
use Rattle.tree.specs.Reads.{tree_at}
use Rattle.fields.specs.Fields.{literal_parts, tree_parts}

-- a value with its symbols as texts: f has the text of a symbol that is live
module _ {Sp Sy : Type 0} where
  abbrev pub ident_texts : (Sy → Option (List ℕ)) → Ident Sp Sy → Ident Sp (Option (List ℕ))
  ident_texts f i = record { sym = f i.sym; is_raw = i.is_raw; span = i.span }

  abbrev pub literal_texts : (Sy → Option (List ℕ)) → Literal Sp Sy → Literal Sp (Option (List ℕ))
  literal_texts f l = record { kind = l.kind; symbol = f l.symbol; suffix = option_map f l.suffix; span = l.span }

module _ {St Sp Sy : Type 0} where
  abbrev pub tree_texts : (Sy → Option (List ℕ)) → TokenTree St Sp Sy → TokenTree St Sp (Option (List ℕ))
  tree_texts f (tree.Group g) = tree.Group g
  tree_texts f (tree.Punct p) = tree.Punct p
  tree_texts f (tree.Ident i) = tree.Ident (ident_texts f i)
  tree_texts f (tree.Literal l) = tree.Literal (literal_texts f l)

abbrev pub itself : Option (List ℕ) → Option (List ℕ)
itself o = o

-- the values that can be written: bytes and handles within their widths, no handle 0, symbols that are live with a text that is UTF-8
abbrev pub GoodHandle : Handle → Type 0
GoodHandle h = handle_kind.good h

abbrev pub GoodDelimSpan : DelimSpan Handle → Type 0
GoodDelimSpan s = GoodHandle s.«open» × (GoodHandle s.close × GoodHandle s.entire)

abbrev pub GoodGroup : Group Handle Handle → Type 0
GoodGroup g = OptionGood GoodHandle g.stream × GoodDelimSpan g.span

abbrev pub GoodPunct : Punct Handle → Type 0
GoodPunct p = (p.ch < 256) × GoodHandle p.span

abbrev pub GoodIdent : Ident Handle (Option (List ℕ)) → Type 0
GoodIdent i = GoodText i.sym × GoodHandle i.span

abbrev pub GoodLitKind : LitKind → Type 0
GoodLitKind k = OptionGood (λ n. n < 256) (lit_kind_hashes k)

abbrev pub GoodLiteral : Literal Handle (Option (List ℕ)) → Type 0
GoodLiteral l = GoodLitKind l.kind × (GoodText l.symbol × (OptionGood GoodText l.suffix × GoodHandle l.span))

abbrev pub GoodTree : TokenTree Handle Handle (Option (List ℕ)) → Type 0
GoodTree (tree.Group g) = GoodGroup g
GoodTree (tree.Punct p) = GoodPunct p
GoodTree (tree.Ident i) = GoodIdent i
GoodTree (tree.Literal l) = GoodLiteral l

abbrev pub tree_kind : Kind (TokenTree Handle Handle Text) (TokenTree Handle Handle (Option (List ℕ)))
tree_kind = record { reads = tree_at handle_at handle_at text_at; shown = λ bs t. tree_texts (in_piece bs) t; fields = λ t. fields_of itself (tree_parts t); good = GoodTree }

abbrev pub literal_kind : Kind (Literal Handle Text) (Literal Handle (Option (List ℕ)))
literal_kind = record { reads = literal_at handle_at text_at; shown = λ bs l. literal_texts (in_piece bs) l; fields = λ l. fields_of itself (literal_parts {St = Handle} l); good = GoodLiteral }
