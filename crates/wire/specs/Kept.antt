-- Each kind of value keeps the laws. (Of its own crate, a law's proof may cite only what stands in `specs`, so these lemmas
-- stand there.)
use Rattle.std.specs.Prelude.{◌≡◌, ℕ, ◌<◌, List, [], ◌∷◌, ◌++◌, length, Some, None, Option, refl}
use Rattle.std.proofs.Common.{ap}
use Rattle.std.specs.Option.{option_map}
use Rattle.rpc.specs.declared.Handle.{Handle}
use Rattle.rpc.specs.declared.Text.{Text}
use Rattle.rpc.specs.Laws.{le}
use Rattle.rpc.specs.Wire.{handle_at, text_at}
use Rattle.rpc.specs.Kinds.{handle_kind, text_kind, OptionGood, text_or, GoodText}
use Rattle.rpc.proofs.Fields.{handle_lawful, text_lawful}
use Rattle.parts.specs.declared.Part.{Part}
use Rattle.parts.specs.declared.Part.TheVariants.{Byte, Stream, Span, Symbol}
use Rattle.parts.specs.Parts.{option_parts}
use Rattle.encode.specs.Sends.{fields_of}
use Rattle.token.specs.Tags.{delimiter_tag, lit_kind_tag, lit_kind_hashes}
use Rattle.token.specs.declared.kinds.DelimSpan.{DelimSpan}
use Rattle.leaf.specs.declared.Literal.{Literal}
use Rattle.leaf.specs.Reads.{literal_at}
use Rattle.tree.specs.declared.TokenTree.{TokenTree}
use Rattle.tree.specs.declared.TokenTree.TheVariants as tree
use Rattle.tree.specs.Reads.{tree_at}
use Rattle.fields.specs.Fields.{delim_span_parts, hash_parts, literal_parts, tree_parts, handle_parts, text_parts}
use Rattle.wire.specs.Values.{itself, literal_texts, tree_texts, GoodHandle, GoodDelimSpan, GoodLiteral, GoodTree, literal_kind, tree_kind}
use Rattle.wire.specs.Laws.{PartsGood, PartsReady, ValueLaws}
use Rattle.wire.specs.Trees.{literal_lawful, tree_lawful}

module _ {Sy : Type 0} (text : Sy → Option (List ℕ)) where
  group_good : (o : Option Handle) (s : DelimSpan Handle) → PartsGood text (option_parts (option_map Stream o) ++ delim_span_parts s) → OptionGood GoodHandle o × GoodDelimSpan s
  group_good None s g = (tt, (g.1.0, (g.1.1.0, g.1.1.1.0)))
  group_good (Some h) s g = (g.1.0, (g.1.1.0, (g.1.1.1.0, g.1.1.1.1.0)))

  suffix_good : (o : Option Sy) (h : Handle) → PartsGood text (option_parts (option_map Symbol o) ++ (Span h ∷ [])) → OptionGood GoodText (option_map text o) × GoodHandle h
  suffix_good None h g = (tt, g.1.0)
  suffix_good (Some y) h g = (g.1.0, g.1.1.0)

  hash_good : (n : ℕ) (o : Option ℕ) (ps : List (Part Handle Handle Sy)) → PartsGood text ((Byte n ∷ hash_parts o) ++ ps) → OptionGood (λ j. j < 256) o × PartsGood text ps
  hash_good n None ps g = (tt, g.1)
  hash_good n (Some k) ps g = (g.1.0, g.1.1)

  pub literal_good : (l : Literal Handle Sy) → PartsGood text (literal_parts l) → GoodLiteral (literal_texts text l)
  literal_good l g =
      let k = hash_good (lit_kind_tag l.kind) (lit_kind_hashes l.kind) (Symbol l.symbol ∷ (option_parts (option_map Symbol l.suffix) ++ (Span l.span ∷ []))) g in
      let s = suffix_good l.suffix l.span k.1.1 in
      (k.0, (k.1.0, (s.0, s.1)))

  pub tree_good : (t : TokenTree Handle Handle Sy) → PartsGood text (tree_parts t) → GoodTree (tree_texts text t)
  tree_good (tree.Group x) g = group_good x.stream x.span g.1.1
  tree_good (tree.Punct p) g = (g.1.0, g.1.1.1.0)
  tree_good (tree.Ident i) g = (g.1.0, g.1.1.1.0)
  tree_good (tree.Literal l) g = literal_good l g.1

  -- a value has the fields of the one with its texts in the place of its symbols
  suffix_fields : (o : Option Sy) (h : Handle) → fields_of itself (option_parts (option_map Symbol (option_map text o)) ++ (Span h ∷ [])) ≡ fields_of text (option_parts (option_map Symbol o) ++ (Span h ∷ []))
  suffix_fields None h = refl
  suffix_fields (Some y) h = refl

  group_fields : (o : Option Handle) (s : DelimSpan Handle) → fields_of itself (option_parts (option_map Stream o) ++ delim_span_parts s) ≡ fields_of text (option_parts (option_map Stream o) ++ delim_span_parts s)
  group_fields None s = refl
  group_fields (Some h) s = refl

  hash_same : (n : ℕ) (o : Option ℕ) (ps : List (Part Handle Handle (Option (List ℕ)))) (qs : List (Part Handle Handle Sy)) → fields_of itself ps ≡ fields_of text qs → fields_of itself ((Byte n ∷ hash_parts o) ++ ps) ≡ fields_of text ((Byte n ∷ hash_parts o) ++ qs)
  hash_same n None ps qs e = ap (λ l. (n ∷ []) ∷ l) e
  hash_same n (Some k) ps qs e = ap (λ l. (n ∷ []) ∷ (k ∷ []) ∷ l) e

  pub literal_fields : (l : Literal Handle Sy) → fields_of itself (literal_parts (literal_texts text l)) ≡ fields_of text (literal_parts l)
  literal_fields l =
      hash_same (lit_kind_tag l.kind) (lit_kind_hashes l.kind) _ _ (ap (λ fs. le 8 (length (text_or (text l.symbol))) ∷ text_or (text l.symbol) ∷ fs) (suffix_fields l.suffix l.span))

  pub tree_same : (t : TokenTree Handle Handle Sy) → fields_of itself (tree_parts (tree_texts text t)) ≡ fields_of text (tree_parts t)
  tree_same (tree.Group x) = ap (λ l. (0 ∷ []) ∷ (delimiter_tag x.delimiter ∷ []) ∷ l) (group_fields x.stream x.span)
  tree_same (tree.Punct p) = refl
  tree_same (tree.Ident i) = refl
  tree_same (tree.Literal l) = ap (λ fs. (3 ∷ []) ∷ fs) (literal_fields l)

  group_ready : (o : Option Handle) (s : DelimSpan Handle) → OptionGood GoodHandle o × GoodDelimSpan s → PartsReady text (option_parts (option_map Stream o) ++ delim_span_parts s)
  group_ready None s g = (tt, (g.1.0.1, (g.1.1.0.1, (g.1.1.1.1, tt))))
  group_ready (Some h) s g = (tt, (g.0.1, (g.1.0.1, (g.1.1.0.1, (g.1.1.1.1, tt)))))

  suffix_ready : (o : Option Sy) (h : Handle) → OptionGood GoodText (option_map text o) → GoodHandle h → PartsReady text (option_parts (option_map Symbol o) ++ (Span h ∷ []))
  suffix_ready None h g k = (tt, (k.1, tt))
  suffix_ready (Some y) h g k = (tt, (g, (k.1, tt)))

  hash_ready : (n : ℕ) (o : Option ℕ) (ps : List (Part Handle Handle Sy)) → PartsReady text ps → PartsReady text ((Byte n ∷ hash_parts o) ++ ps)
  hash_ready n None ps r = (tt, r)
  hash_ready n (Some k) ps r = (tt, (tt, r))

  pub literal_ready : (l : Literal Handle Sy) → GoodLiteral (literal_texts text l) → PartsReady text (literal_parts l)
  literal_ready l g = hash_ready (lit_kind_tag l.kind) (lit_kind_hashes l.kind) (Symbol l.symbol ∷ (option_parts (option_map Symbol l.suffix) ++ (Span l.span ∷ []))) (g.1.0, suffix_ready l.suffix l.span g.1.1.0 g.1.1.1)

  pub tree_ready : (t : TokenTree Handle Handle Sy) → GoodTree (tree_texts text t) → PartsReady text (tree_parts t)
  tree_ready (tree.Group x) g = (tt, (tt, group_ready x.stream x.span g))
  tree_ready (tree.Punct p) g = (tt, (tt, (tt, (g.1.1, tt))))
  tree_ready (tree.Ident i) g = (tt, (g.0, (tt, (g.1.1, tt))))
  tree_ready (tree.Literal l) g = (tt, literal_ready l g)

-- a handle has no symbol
abbrev pub handle_texts : (Text → Option (List ℕ)) → Handle → Handle
handle_texts f h = h

abbrev pub text_texts : (Text → Option (List ℕ)) → Text → Option (List ℕ)
text_texts f t = f t

pub tree_laws : ValueLaws tree_kind tree_texts (tree_at handle_at handle_at text_at) tree_parts
tree_laws =
    record {
      lawful = tree_lawful;
      read = λ bs at. refl;
      shown = λ bs v. refl;
      fields = λ f v. tree_same f v;
      good = λ f v. tree_good f v;
      ready = λ f v. tree_ready f v;
    }

pub literal_laws : ValueLaws literal_kind literal_texts (literal_at handle_at text_at) literal_parts
literal_laws =
    record {
      lawful = literal_lawful;
      read = λ bs at. refl;
      shown = λ bs v. refl;
      fields = λ f v. literal_fields f v;
      good = λ f v. literal_good f v;
      ready = λ f v. literal_ready f v;
    }

pub handle_laws : ValueLaws handle_kind handle_texts handle_at handle_parts
handle_laws =
    record {
      lawful = handle_lawful;
      read = λ bs at. refl;
      shown = λ bs v. refl;
      fields = λ f v. refl;
      good = λ f v g. g.0;
      ready = λ f v g. (g.1, tt);
    }

pub text_laws : ValueLaws text_kind text_texts text_at text_parts
text_laws =
    record {
      lawful = text_lawful;
      read = λ bs at. refl;
      shown = λ bs v. refl;
      fields = λ f v. refl;
      good = λ f v g. g.0;
      ready = λ f v g. (g, tt);
    }
