-- The parts of each value in wire order, for both ends: over any stream, span and symbol.
use Rattle.std.specs.Prelude.{ℕ, List, [], ◌∷◌, ◌++◌, Some, None, Option}
use Rattle.std.specs.Option.{option_map}
use Rattle.rpc.specs.declared.Handle.{Handle}
use Rattle.rpc.specs.declared.Text.{Text}
use Rattle.rpc.specs.Written.{flag_byte}
use Rattle.parts.specs.declared.Part.{Part}
use Rattle.parts.specs.declared.Part.TheVariants.{Byte, Stream, Span, Symbol}
use Rattle.parts.specs.Parts.{option_parts}
use Rattle.token.specs.declared.kinds.LitKind.{LitKind}
use Rattle.token.specs.declared.kinds.DelimSpan.{DelimSpan}
use Rattle.tree.specs.declared.Group.{Group}
use Rattle.leaf.specs.declared.Punct.{Punct}
use Rattle.leaf.specs.declared.Ident.{Ident}
use Rattle.leaf.specs.declared.Literal.{Literal}
use Rattle.tree.specs.declared.TokenTree.{TokenTree}
use Rattle.tree.specs.declared.TokenTree.TheVariants as tree
use Rattle.token.specs.Tags.{delimiter_tag, lit_kind_tag, lit_kind_hashes}

module _ {St Sp Sy : Type 0} where
  abbrev pub hash_parts : Option ℕ → List (Part St Sp Sy)
  hash_parts None = []
  hash_parts (Some n) = Byte n ∷ []

  -- a Group's span: open, close, entire
  abbrev pub delim_span_parts : DelimSpan Sp → List (Part St Sp Sy)
  delim_span_parts s = Span s.«open» ∷ Span s.close ∷ Span s.entire ∷ []

  -- delimiter, stream or none, span
  abbrev pub group_parts : Group St Sp → List (Part St Sp Sy)
  group_parts g = Byte (delimiter_tag g.delimiter) ∷ (option_parts (option_map Stream g.stream) ++ delim_span_parts g.span)

  -- character, whether joint, span
  abbrev pub punct_parts : Punct Sp → List (Part St Sp Sy)
  punct_parts p = Byte p.ch ∷ Byte (flag_byte p.joint) ∷ Span p.span ∷ []

  -- symbol, whether raw, span
  abbrev pub ident_parts : Ident Sp Sy → List (Part St Sp Sy)
  ident_parts i = Symbol i.sym ∷ Byte (flag_byte i.is_raw) ∷ Span i.span ∷ []

  -- tag, and for a raw kind its hashes
  abbrev pub lit_kind_parts : LitKind → List (Part St Sp Sy)
  lit_kind_parts k = Byte (lit_kind_tag k) ∷ hash_parts (lit_kind_hashes k)

  -- kind, symbol, suffix or none, span
  abbrev pub literal_parts : Literal Sp Sy → List (Part St Sp Sy)
  literal_parts l = lit_kind_parts l.kind ++ (Symbol l.symbol ∷ (option_parts (option_map Symbol l.suffix) ++ (Span l.span ∷ [])))

  abbrev pub tree_parts : TokenTree St Sp Sy → List (Part St Sp Sy)
  tree_parts (tree.Group g) = Byte 0 ∷ group_parts g
  tree_parts (tree.Punct p) = Byte 1 ∷ punct_parts p
  tree_parts (tree.Ident i) = Byte 2 ∷ ident_parts i
  tree_parts (tree.Literal l) = Byte 3 ∷ literal_parts l

-- a handle as the part of a stream, which stands for a span too
abbrev pub handle_parts : {Sp Sy : Type 0} → Handle → List (Part Handle Sp Sy)
handle_parts h = Stream h ∷ []

abbrev pub text_parts : {St Sp : Type 0} → Text → List (Part St Sp Text)
text_parts t = Symbol t ∷ []
