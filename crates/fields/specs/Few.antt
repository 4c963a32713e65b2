-- No value has more than seven parts.
use Rattle.std.specs.Prelude.{ℕ, ◌≤◌, Bool, List, [], ◌∷◌, ◌++◌, length, Some, None, Option}
use Rattle.std.specs.Option.{option_map}
use Rattle.std.proofs.Common.{arith, length-append}
use Rattle.rpc.specs.declared.Handle.{Handle}
use Rattle.rpc.specs.declared.Text.{Text}
use Rattle.rpc.specs.Written.{flag_byte}
use Rattle.parts.specs.declared.Part.{Part}
use Rattle.parts.specs.declared.Part.TheVariants.{Byte, Stream, Span, Symbol}
use Rattle.parts.specs.Parts.{option_parts}
use Rattle.token.specs.Tags.{lit_kind_hashes}
use Rattle.token.specs.declared.kinds.LitKind.{LitKind}
use Rattle.token.specs.declared.kinds.DelimSpan.{DelimSpan}
use Rattle.tree.specs.declared.Group.{Group}
use Rattle.leaf.specs.declared.Punct.{Punct}
use Rattle.leaf.specs.declared.Ident.{Ident}
use Rattle.leaf.specs.declared.Literal.{Literal}
use Rattle.tree.specs.declared.TokenTree.{TokenTree}
use Rattle.tree.specs.declared.TokenTree.TheVariants as tree
use Rattle.fields.specs.Fields.{hash_parts, delim_span_parts, group_parts, punct_parts, ident_parts, lit_kind_parts, literal_parts, tree_parts, handle_parts, text_parts}

module _ (St Sp Sy : Type 0) where
  pub flag_few : (b : Bool) → length {A = Part St Sp Sy} (Byte (flag_byte b) ∷ []) ≤ 7
  flag_few b = omega arith

  pub delim_span_few : (s : DelimSpan Sp) → length (delim_span_parts {St = St} {Sy = Sy} s) ≤ 7
  delim_span_few s = omega arith

  option_two : (o : Option (Part St Sp Sy)) → length (option_parts o) ≤ 2
  option_two None = omega arith
  option_two (Some p) = omega arith

  hash_one : (o : Option ℕ) → length (hash_parts {St = St} {Sp = Sp} {Sy = Sy} o) ≤ 1
  hash_one None = omega arith
  hash_one (Some n) = omega arith

  group_six : (g : Group St Sp) → length (group_parts {Sy = Sy} g) ≤ 6
  group_six g =
      let stream : Option (Part St Sp Sy) = option_map Stream g.stream in
      omega (arith, length-append (option_parts stream) (delim_span_parts g.span), option_two stream)

  pub group_few : (g : Group St Sp) → length (group_parts {Sy = Sy} g) ≤ 7
  group_few g = omega (arith, group_six g)

  pub punct_few : (p : Punct Sp) → length (punct_parts {St = St} {Sy = Sy} p) ≤ 7
  punct_few p = omega arith

  pub ident_few : (i : Ident Sp Sy) → length (ident_parts {St = St} i) ≤ 7
  ident_few i = omega arith

  pub lit_kind_few : (k : LitKind) → length (lit_kind_parts {St = St} {Sp = Sp} {Sy = Sy} k) ≤ 7
  lit_kind_few k = omega (arith, hash_one (lit_kind_hashes k))

  literal_six : (l : Literal Sp Sy) → length (literal_parts {St = St} l) ≤ 6
  literal_six l =
      let hashes : List (Part St Sp Sy) = hash_parts (lit_kind_hashes l.kind) in
      let suffix : Option (Part St Sp Sy) = option_map Symbol l.suffix in
      let rest : List (Part St Sp Sy) = option_parts suffix ++ Span l.span ∷ [] in
      omega (arith, hash_one (lit_kind_hashes l.kind), length-append hashes (Symbol l.symbol ∷ rest), option_two suffix, length-append (option_parts suffix) (Span l.span ∷ []))

  pub literal_few : (l : Literal Sp Sy) → length (literal_parts {St = St} l) ≤ 7
  literal_few l = omega (arith, literal_six l)

  pub tree_few : (t : TokenTree St Sp Sy) → length (tree_parts t) ≤ 7
  tree_few (tree.Group g) = omega (arith, group_six g)
  tree_few (tree.Punct p) = omega arith
  tree_few (tree.Ident i) = omega arith
  tree_few (tree.Literal l) = omega (arith, literal_six l)

pub handle_few : (Sp Sy : Type 0) (h : Handle) → length (handle_parts {Sp = Sp} {Sy = Sy} h) ≤ 7
handle_few Sp Sy h = omega arith

pub text_few : (St Sp : Type 0) (t : Text) → length (text_parts {St = St} {Sp = Sp} t) ≤ 7
text_few St Sp t = omega arith
