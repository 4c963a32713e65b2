-- Literals and trees are lawful, by the laws of their parts. (What the law of an impl is proved by stands in `specs`.)
use Rattle.std.proofs.Common.{◌≡◌, ℕ, ◌<◌, cond, eqb, List, [], ◌∷◌, ◌++◌, Some, None, Option, Result, unwrap_or, sym, refl, ap, ◌∙◌, subst, arith}
use Rattle.std.specs.Option.{option_map}
use Rattle.fault.specs.declared.ByteFault.{ByteFault}
use Rattle.rpc.specs.declared.Handle.{Handle}
use Rattle.rpc.specs.declared.Text.{Text}
use Rattle.rpc.specs.Wire.{byte_at, plain_at, made_at, by_tag, handle_at, text_at}
use Rattle.rpc.specs.Laws.{Kind, Lawful}
use Rattle.rpc.specs.Kinds.{byte_kind, flag_kind, handle_kind, text_kind, in_piece, both_kind, option_kind, option_fields, OptionGood}
use Rattle.rpc.proofs.Fields.{byte_lawful, handle_lawful, text_lawful}
use Rattle.rpc.proofs.Joins.{plain_lawful, made_lawful, both_lawful, tagged_lawful, behind}
use Rattle.rpc.proofs.Options.{flag_lawful, option_lawful}
use Rattle.parts.specs.declared.Part.{Part}
use Rattle.parts.specs.declared.Part.TheVariants.{Byte, Stream, Span, Symbol}
use Rattle.parts.specs.Parts.{option_parts}
use Rattle.encode.specs.Sends.{fields_of}
use Rattle.token.specs.declared.kinds.Delimiter.{Delimiter}
use Rattle.token.specs.declared.kinds.Delimiter.TheVariants as delimiter
use Rattle.token.specs.declared.kinds.LitKind.{LitKind}
use Rattle.token.specs.declared.kinds.LitKind.TheVariants as kind
use Rattle.token.specs.declared.kinds.DelimSpan.{DelimSpan}
use Rattle.tree.specs.declared.Group.{Group}
use Rattle.leaf.specs.declared.Punct.{Punct}
use Rattle.leaf.specs.declared.Ident.{Ident}
use Rattle.leaf.specs.declared.Literal.{Literal}
use Rattle.tree.specs.declared.TokenTree.{TokenTree}
use Rattle.tree.specs.declared.TokenTree.TheVariants as tree
use Rattle.token.specs.Tags.{delimiter_tag, lit_kind_tag, lit_kind_hashes}
use Rattle.token.specs.Reads.{delimiter_at, lit_kind_at, delim_span, delim_span_at}
use Rattle.leaf.specs.Reads.{punct, punct_at, ident, ident_at, literal, literal_at}
use Rattle.tree.specs.Reads.{group, group_at}
use Rattle.fields.specs.Fields.{delim_span_parts, group_parts, punct_parts, ident_parts, hash_parts, lit_kind_parts}
use Rattle.wire.specs.Values.{itself, ident_texts, GoodDelimSpan, GoodGroup, GoodPunct, GoodIdent, GoodLitKind, GoodLiteral, GoodTree, literal_kind, tree_kind}

-- Delimiter
abbrev delimiter_kind : Kind Delimiter Delimiter
delimiter_kind = record { reads = delimiter_at; shown = λ bs d. d; fields = λ d. (delimiter_tag d ∷ []) ∷ []; good = λ d. Unit {0} }

abbrev delimiters : List (List ℕ → ℕ → Result (Delimiter × ℕ) ByteFault)
delimiters = plain_at delimiter.Parenthesis ∷ plain_at delimiter.Brace ∷ plain_at delimiter.Bracket ∷ plain_at delimiter.None ∷ []

-- the delimiter of a tag
abbrev delimiter_of : ℕ → Delimiter
delimiter_of n = cond (eqb n 0) delimiter.Parenthesis (cond (eqb n 1) delimiter.Brace (cond (eqb n 2) delimiter.Bracket delimiter.None))

delimiter_back : (d : Delimiter) → delimiter_of (delimiter_tag d) ≡ d
delimiter_back delimiter.Parenthesis = refl
delimiter_back delimiter.Brace = refl
delimiter_back delimiter.Bracket = refl
delimiter_back delimiter.None = refl

delimiter_known : (d : Delimiter) → Unit {0} → (r : List ℕ → ℕ → Result (Delimiter × ℕ) ByteFault) × (by_tag 0 delimiters (delimiter_tag d) ≡ Some r)
delimiter_known delimiter.Parenthesis g = (plain_at delimiter.Parenthesis, refl)
delimiter_known delimiter.Brace g = (plain_at delimiter.Brace, refl)
delimiter_known delimiter.Bracket g = (plain_at delimiter.Bracket, refl)
delimiter_known delimiter.None g = (plain_at delimiter.None, refl)

delimiter_lawful : Lawful delimiter_kind
delimiter_lawful =
    let each : (i : ℕ) (d : Delimiter) → delimiter_tag d ≡ i → Lawful (behind delimiter_kind delimiters delimiter_tag (λ w. []) i (plain_at d)) =
    λ i d e. plain_lawful _ d d (λ bs at. refl) (λ bs. refl) refl (λ x g. sym (delimiter_back d) ∙ ap delimiter_of (e ∙ sym g.1) ∙ delimiter_back x) (tt, e) in
    tagged_lawful delimiter_kind delimiters delimiter_tag (λ w. []) (λ bs at. refl) (λ w. refl) delimiter_known
    (each 0 delimiter.Parenthesis refl, (each 1 delimiter.Brace refl, (each 2 delimiter.Bracket refl, (each 3 delimiter.None refl, tt))))

-- DelimSpan
abbrev delim_span_kind : Kind (DelimSpan Handle) (DelimSpan Handle)
delim_span_kind = record { reads = delim_span_at handle_at; shown = λ bs s. s; fields = λ s. fields_of itself (delim_span_parts s); good = GoodDelimSpan }

delim_span_lawful : Lawful delim_span_kind
delim_span_lawful =
    made_lawful (both_kind handle_kind (both_kind handle_kind handle_kind)) delim_span_kind delim_span delim_span (λ bs at. refl) (λ bs v. refl) (λ w. refl)
    (λ s g. ((s.«open», (s.close, s.entire)), refl, g)) (λ w g. g)
    (both_lawful handle_kind (both_kind handle_kind handle_kind) handle_lawful (both_lawful handle_kind handle_kind handle_lawful handle_lawful))

-- the fields of an optional part, with others behind them
option_stream : (o : Option Handle) (ps : List (Part Handle Handle (Option (List ℕ)))) → fields_of itself (option_parts (option_map Stream o) ++ ps) ≡ option_fields handle_kind.fields o ++ fields_of itself ps
option_stream None ps = refl
option_stream (Some h) ps = refl

option_symbol : (o : Option (Option (List ℕ))) (ps : List (Part Handle Handle (Option (List ℕ)))) → fields_of itself (option_parts (option_map Symbol o) ++ ps) ≡ option_fields text_kind.fields o ++ fields_of itself ps
option_symbol None ps = refl
option_symbol (Some t) ps = refl

-- Group
abbrev group_kind : Kind (Group Handle Handle) (Group Handle Handle)
group_kind = record { reads = group_at handle_at handle_at; shown = λ bs g. g; fields = λ g. fields_of itself (group_parts g); good = GoodGroup }

option_same : {X : Type 0} (o : Option X) → option_map (λ x. x) o ≡ o
option_same None = refl
option_same (Some x) = refl

group_lawful : Lawful group_kind
group_lawful =
    made_lawful (both_kind delimiter_kind (both_kind (option_kind handle_kind) delim_span_kind)) group_kind group group (λ bs at. refl)
    (λ bs v. ap (λ o. record { delimiter = v.0; stream = o; span = v.1.1 }) (sym (option_same v.1.0)))
    (λ w. ap (λ l. (delimiter_tag w.0 ∷ []) ∷ l) (option_stream w.1.0 (delim_span_parts w.1.1)))
    (λ g h. ((g.delimiter, (g.stream, g.span)), refl, (tt, h))) (λ w h. h.1)
    (both_lawful delimiter_kind (both_kind (option_kind handle_kind) delim_span_kind) delimiter_lawful (both_lawful (option_kind handle_kind) delim_span_kind (option_lawful handle_kind handle_lawful) delim_span_lawful))

-- Punct
abbrev punct_kind : Kind (Punct Handle) (Punct Handle)
punct_kind = record { reads = punct_at handle_at; shown = λ bs p. p; fields = λ p. fields_of itself (punct_parts p); good = GoodPunct }

punct_lawful : Lawful punct_kind
punct_lawful =
    made_lawful (both_kind byte_kind (both_kind flag_kind handle_kind)) punct_kind punct punct (λ bs at. refl) (λ bs v. refl) (λ w. refl)
    (λ p g. ((p.ch, (p.joint, p.span)), refl, (g.0, (tt, g.1)))) (λ w g. (g.0, g.1.1))
    (both_lawful byte_kind (both_kind flag_kind handle_kind) byte_lawful (both_lawful flag_kind handle_kind flag_lawful handle_lawful))

-- Ident
abbrev ident_kind : Kind (Ident Handle Text) (Ident Handle (Option (List ℕ)))
ident_kind = record { reads = ident_at handle_at text_at; shown = λ bs i. ident_texts (in_piece bs) i; fields = λ i. fields_of itself (ident_parts {St = Handle} i); good = GoodIdent }

ident_lawful : Lawful ident_kind
ident_lawful =
    made_lawful (both_kind text_kind (both_kind flag_kind handle_kind)) ident_kind ident ident (λ bs at. refl) (λ bs v. refl) (λ w. refl)
    (λ i g. ((i.sym, (i.is_raw, i.span)), refl, (g.0, (tt, g.1)))) (λ w g. (g.0, g.1.1))
    (both_lawful text_kind (both_kind flag_kind handle_kind) text_lawful (both_lawful flag_kind handle_kind flag_lawful handle_lawful))

-- LitKind
abbrev lit_kind_kind : Kind LitKind LitKind
lit_kind_kind = record { reads = lit_kind_at; shown = λ bs k. k; fields = λ k. fields_of itself (lit_kind_parts k); good = GoodLitKind }

abbrev lit_pair : LitKind → ℕ × Option ℕ
lit_pair k = (lit_kind_tag k, lit_kind_hashes k)

abbrev hash_fields : Option ℕ → List (List ℕ)
hash_fields None = []
hash_fields (Some n) = (n ∷ []) ∷ []

abbrev lit_payload : LitKind → List (List ℕ)
lit_payload k = hash_fields (lit_kind_hashes k)

abbrev lit_cases : List (List ℕ → ℕ → Result (LitKind × ℕ) ByteFault)
lit_cases =
    plain_at kind.Byte ∷ plain_at kind.Char ∷ plain_at kind.Integer ∷ plain_at kind.Float ∷ plain_at kind.Str ∷ made_at kind.StrRaw byte_at ∷ plain_at kind.ByteStr ∷ made_at kind.ByteStrRaw byte_at
    ∷ plain_at kind.CStr ∷ made_at kind.CStrRaw byte_at ∷ plain_at kind.ErrWithGuar ∷ []

-- the kind of a tag and of its hashes
abbrev lit_of : ℕ → Option ℕ → LitKind
lit_of n o =
    cond (eqb n 0) kind.Byte (cond (eqb n 1) kind.Char (cond (eqb n 2) kind.Integer (cond (eqb n 3) kind.Float (cond (eqb n 4) kind.Str (cond (eqb n 5) (kind.StrRaw (unwrap_or o 0))
    (cond (eqb n 6) kind.ByteStr (cond (eqb n 7) (kind.ByteStrRaw (unwrap_or o 0)) (cond (eqb n 8) kind.CStr (cond (eqb n 9) (kind.CStrRaw (unwrap_or o 0)) kind.ErrWithGuar)))))))))

lit_back : (k : LitKind) → lit_of (lit_kind_tag k) (lit_kind_hashes k) ≡ k
lit_back kind.Byte = refl
lit_back kind.Char = refl
lit_back kind.Integer = refl
lit_back kind.Float = refl
lit_back kind.Str = refl
lit_back (kind.StrRaw n) = refl
lit_back kind.ByteStr = refl
lit_back (kind.ByteStrRaw n) = refl
lit_back kind.CStr = refl
lit_back (kind.CStrRaw n) = refl
lit_back kind.ErrWithGuar = refl

lit_known : (k : LitKind) → GoodLitKind k → (r : List ℕ → ℕ → Result (LitKind × ℕ) ByteFault) × (by_tag 0 lit_cases (lit_kind_tag k) ≡ Some r)
lit_known kind.Byte g = (plain_at kind.Byte, refl)
lit_known kind.Char g = (plain_at kind.Char, refl)
lit_known kind.Integer g = (plain_at kind.Integer, refl)
lit_known kind.Float g = (plain_at kind.Float, refl)
lit_known kind.Str g = (plain_at kind.Str, refl)
lit_known (kind.StrRaw n) g = (made_at kind.StrRaw byte_at, refl)
lit_known kind.ByteStr g = (plain_at kind.ByteStr, refl)
lit_known (kind.ByteStrRaw n) g = (made_at kind.ByteStrRaw byte_at, refl)
lit_known kind.CStr g = (plain_at kind.CStr, refl)
lit_known (kind.CStrRaw n) g = (made_at kind.CStrRaw byte_at, refl)
lit_known kind.ErrWithGuar g = (plain_at kind.ErrWithGuar, refl)

hash_fields_lem : (t : ℕ) (o : Option ℕ) → fields_of itself (Byte t ∷ hash_parts o) ≡ (t ∷ []) ∷ hash_fields o
hash_fields_lem t None = refl
hash_fields_lem t (Some n) = refl

-- a kind whose tag alone says it, and a raw kind
lit_plain : (i : ℕ) (k : LitKind) → ((o : Option ℕ) → lit_of i o ≡ k) → lit_pair k ≡ (i, None) → Lawful (behind lit_kind_kind lit_cases lit_kind_tag lit_payload i (plain_at k))
lit_plain i k only is =
    plain_lawful _ k k (λ bs at. refl) (λ bs. refl) (ap (λ p. hash_fields p.1) is)
    (λ x g. sym (only (lit_kind_hashes x)) ∙ ap (λ n. lit_of n (lit_kind_hashes x)) (sym g.1) ∙ lit_back x)
    (subst (λ (p : ℕ × Option ℕ). OptionGood (λ n. n < 256) p.1) (sym is) tt, ap (λ p. p.0) is)

lit_raw : (i : ℕ) (f : ℕ → LitKind) → ((o : Option ℕ) → lit_of i o ≡ f (unwrap_or o 0)) → ((n : ℕ) → lit_pair (f n) ≡ (i, Some n)) → Lawful (behind lit_kind_kind lit_cases lit_kind_tag lit_payload i (made_at f byte_at))
lit_raw i f only is =
    made_lawful byte_kind _ f f (λ bs at. refl) (λ bs v. refl) (λ n. ap (λ p. hash_fields p.1) (is n))
    (λ x g.
    let n = unwrap_or (lit_kind_hashes x) 0 in
    let same : f n ≡ x = sym (only (lit_kind_hashes x)) ∙ ap (λ t. lit_of t (lit_kind_hashes x)) (sym g.1) ∙ lit_back x in
    (n, same, subst (λ (p : ℕ × Option ℕ). OptionGood (λ j. j < 256) p.1) (is n) (subst GoodLitKind (sym same) g.0)))
    (λ n g. (subst (λ (p : ℕ × Option ℕ). OptionGood (λ j. j < 256) p.1) (sym (is n)) g, ap (λ p. p.0) (is n)))
    byte_lawful

lit_kind_lawful : Lawful lit_kind_kind
lit_kind_lawful =
    tagged_lawful lit_kind_kind lit_cases lit_kind_tag lit_payload (λ bs at. refl) (λ k. hash_fields_lem (lit_kind_tag k) (lit_kind_hashes k)) lit_known (
      lit_plain 0 kind.Byte (λ o. refl) refl,
      (
        lit_plain 1 kind.Char (λ o. refl) refl,
        (
          lit_plain 2 kind.Integer (λ o. refl) refl,
          (
            lit_plain 3 kind.Float (λ o. refl) refl,
            (
              lit_plain 4 kind.Str (λ o. refl) refl,
              (
                lit_raw 5 kind.StrRaw (λ o. refl) (λ n. refl),
                (
                  lit_plain 6 kind.ByteStr (λ o. refl) refl,
                  (
                    lit_raw 7 kind.ByteStrRaw (λ o. refl) (λ n. refl),
                    (
                      lit_plain 8 kind.CStr (λ o. refl) refl,
                      (
                        lit_raw 9 kind.CStrRaw (λ o. refl) (λ n. refl),
                        (lit_plain 10 kind.ErrWithGuar (λ o. refl) refl, tt),
                      ),
                    ),
                  ),
                ),
              ),
            ),
          ),
        ),
      ),
    )

-- Literal
kind_fields : (k : LitKind) (ps : List (Part Handle Handle (Option (List ℕ)))) → fields_of itself (lit_kind_parts k ++ ps) ≡ fields_of itself (lit_kind_parts k) ++ fields_of itself ps
kind_fields k ps = hashes (lit_kind_hashes k)
  where
    hashes : (o : Option ℕ) → fields_of itself ((Byte (lit_kind_tag k) ∷ hash_parts o) ++ ps) ≡ fields_of itself (Byte (lit_kind_tag k) ∷ hash_parts o) ++ fields_of itself ps
    hashes None = refl
    hashes (Some n) = refl

pub literal_lawful : Lawful literal_kind
literal_lawful =
    made_lawful (both_kind lit_kind_kind (both_kind text_kind (both_kind (option_kind text_kind) handle_kind))) literal_kind literal literal (λ bs at. refl) (λ bs v. refl)
    (λ w. kind_fields w.0 (Symbol w.1.0 ∷ (option_parts (option_map Symbol w.1.1.0) ++ (Span w.1.1.1 ∷ []))) ∙ ap (λ l. fields_of itself (lit_kind_parts w.0) ++ (text_kind.fields w.1.0 ++ l)) (option_symbol w.1.1.0 (Span w.1.1.1 ∷ [])))
    (λ l g. ((l.kind, (l.symbol, (l.suffix, l.span))), refl, g)) (λ w g. g)
    (both_lawful lit_kind_kind (both_kind text_kind (both_kind (option_kind text_kind) handle_kind)) lit_kind_lawful (both_lawful text_kind (both_kind (option_kind text_kind) handle_kind) text_lawful (both_lawful (option_kind text_kind) handle_kind (option_lawful text_kind text_lawful) handle_lawful)))

-- TokenTree
abbrev tree_tag : TokenTree Handle Handle (Option (List ℕ)) → ℕ
tree_tag (tree.Group g) = 0
tree_tag (tree.Punct p) = 1
tree_tag (tree.Ident i) = 2
tree_tag (tree.Literal l) = 3

abbrev tree_payload : TokenTree Handle Handle (Option (List ℕ)) → List (List ℕ)
tree_payload (tree.Group g) = group_kind.fields g
tree_payload (tree.Punct p) = punct_kind.fields p
tree_payload (tree.Ident i) = ident_kind.fields i
tree_payload (tree.Literal l) = literal_kind.fields l

abbrev tree_cases : List (List ℕ → ℕ → Result (TokenTree Handle Handle Text × ℕ) ByteFault)
tree_cases = made_at tree.Group (group_at handle_at handle_at) ∷ made_at tree.Punct (punct_at handle_at) ∷ made_at tree.Ident (ident_at handle_at text_at) ∷ made_at tree.Literal (literal_at handle_at text_at) ∷ []

tree_fields : (t : TokenTree Handle Handle (Option (List ℕ))) → tree_kind.fields t ≡ (tree_tag t ∷ []) ∷ tree_payload t
tree_fields (tree.Group g) = refl
tree_fields (tree.Punct p) = refl
tree_fields (tree.Ident i) = refl
tree_fields (tree.Literal l) = refl

tree_known : (t : TokenTree Handle Handle (Option (List ℕ))) → GoodTree t → (r : List ℕ → ℕ → Result (TokenTree Handle Handle Text × ℕ) ByteFault) × (by_tag 0 tree_cases (tree_tag t) ≡ Some r)
tree_known (tree.Group g) h = (made_at tree.Group (group_at handle_at handle_at), refl)
tree_known (tree.Punct p) h = (made_at tree.Punct (punct_at handle_at), refl)
tree_known (tree.Ident i) h = (made_at tree.Ident (ident_at handle_at text_at), refl)
tree_known (tree.Literal l) h = (made_at tree.Literal (literal_at handle_at text_at), refl)

-- the case that a tag stands for
from_group : (t : TokenTree Handle Handle (Option (List ℕ))) → GoodTree t × (tree_tag t ≡ 0) → (g : Group Handle Handle) × (tree.Group g ≡ t) × GoodGroup g
from_group (tree.Group g) h = (g, refl, h.0)
from_group (tree.Punct p) h = let z = h.1 in absurd (omega arith)
from_group (tree.Ident i) h = let z = h.1 in absurd (omega arith)
from_group (tree.Literal l) h = let z = h.1 in absurd (omega arith)

from_punct : (t : TokenTree Handle Handle (Option (List ℕ))) → GoodTree t × (tree_tag t ≡ 1) → (p : Punct Handle) × (tree.Punct p ≡ t) × GoodPunct p
from_punct (tree.Group g) h = let z = h.1 in absurd (omega arith)
from_punct (tree.Punct p) h = (p, refl, h.0)
from_punct (tree.Ident i) h = let z = h.1 in absurd (omega arith)
from_punct (tree.Literal l) h = let z = h.1 in absurd (omega arith)

from_ident : (t : TokenTree Handle Handle (Option (List ℕ))) → GoodTree t × (tree_tag t ≡ 2) → (i : Ident Handle (Option (List ℕ))) × (tree.Ident i ≡ t) × GoodIdent i
from_ident (tree.Group g) h = let z = h.1 in absurd (omega arith)
from_ident (tree.Punct p) h = let z = h.1 in absurd (omega arith)
from_ident (tree.Ident i) h = (i, refl, h.0)
from_ident (tree.Literal l) h = let z = h.1 in absurd (omega arith)

from_literal : (t : TokenTree Handle Handle (Option (List ℕ))) → GoodTree t × (tree_tag t ≡ 3) → (l : Literal Handle (Option (List ℕ))) × (tree.Literal l ≡ t) × GoodLiteral l
from_literal (tree.Group g) h = let z = h.1 in absurd (omega arith)
from_literal (tree.Punct p) h = let z = h.1 in absurd (omega arith)
from_literal (tree.Ident i) h = let z = h.1 in absurd (omega arith)
from_literal (tree.Literal l) h = (l, refl, h.0)

pub tree_lawful : Lawful tree_kind
tree_lawful =
    tagged_lawful tree_kind tree_cases tree_tag tree_payload (λ bs at. refl) tree_fields tree_known (
      made_lawful group_kind _ tree.Group tree.Group (λ bs at. refl) (λ bs v. refl) (λ w. refl) from_group (λ w g. (g, refl)) group_lawful,
      (
        made_lawful punct_kind _ tree.Punct tree.Punct (λ bs at. refl) (λ bs v. refl) (λ w. refl) from_punct (λ w g. (g, refl)) punct_lawful,
        (
          made_lawful ident_kind _ tree.Ident tree.Ident (λ bs at. refl) (λ bs v. refl) (λ w. refl) from_ident (λ w g. (g, refl)) ident_lawful,
          (made_lawful literal_kind _ tree.Literal tree.Literal (λ bs at. refl) (λ bs v. refl) (λ w. refl) from_literal (λ w g. (g, refl)) literal_lawful, tt),
        ),
      ),
    )
