-- The totals of a list, by its entries.
use Rattle.std.specs.Prelude.{ℕ, ◌+◌, ◌^◌, ◌<◌, cond, List, [], ◌∷◌, length, is_some, sum_by, ◌==◌}
use Rattle.std.specs.Option.{option_map, option_to_list}
use Rattle.std.specs.List.{flat_map}
use Rattle.recording.specs.declared.Kind.{Kind}
use Rattle.recording.specs.declared.Kind.TheVariants as kind
use Rattle.rpc.specs.declared.Handle.{Handle}
use Rattle.rpc.specs.declared.Text.{Text}
use Rattle.token.specs.declared.kinds.DelimSpan.{DelimSpan}
use Rattle.leaf.specs.declared.Literal.{Literal}
use Rattle.tree.specs.declared.TokenTree.{TokenTree}
use Rattle.tree.specs.declared.TokenTree.TheVariants as tree
use Rattle.listing.specs.declared.totals.Counts.{Counts}
use Rattle.listing.specs.declared.totals.Totals.{Totals}
use Rattle.listing.specs.declared.value.Value.{Value}
use Rattle.listing.specs.declared.value.Value.TheVariants as value
use Rattle.listing.specs.Entries.{Entry, read, refused, bad}
use Rattle.listing.specs.Handles.{distinct}

-- the texts: an ident's, a symbol's, a literal's own and its suffix
abbrev pub literal_texts : Literal Handle Text → ℕ
literal_texts l = cond (is_some l.suffix) 2 1

abbrev pub tree_texts : TokenTree Handle Handle Text → ℕ
tree_texts (tree.Group g) = 0
tree_texts (tree.Punct p) = 0
tree_texts (tree.Ident i) = 1
tree_texts (tree.Literal l) = literal_texts l

abbrev pub texts_in : Value → ℕ
texts_in (value.Tree t) = tree_texts t
texts_in (value.Literal l) = literal_texts l
texts_in (value.Stream h) = 0
texts_in (value.Span h) = 0
texts_in (value.Symbol t) = 1

-- the numbers of the stream handles
abbrev pub tree_streams : TokenTree Handle Handle Text → List ℕ
tree_streams (tree.Group g) = option_to_list (option_map (λ h. h.number) g.stream)
tree_streams (tree.Punct p) = []
tree_streams (tree.Ident i) = []
tree_streams (tree.Literal l) = []

abbrev pub streams_in : Value → List ℕ
streams_in (value.Tree t) = tree_streams t
streams_in (value.Literal l) = []
streams_in (value.Stream h) = h.number ∷ []
streams_in (value.Span h) = []
streams_in (value.Symbol t) = []

-- the numbers of the span handles
abbrev pub group_spans : DelimSpan Handle → List ℕ
group_spans s = s.«open».number ∷ s.close.number ∷ s.entire.number ∷ []

abbrev pub tree_spans : TokenTree Handle Handle Text → List ℕ
tree_spans (tree.Group g) = group_spans g.span
tree_spans (tree.Punct p) = p.span.number ∷ []
tree_spans (tree.Ident i) = i.span.number ∷ []
tree_spans (tree.Literal l) = l.span.number ∷ []

abbrev pub spans_in : Value → List ℕ
spans_in (value.Tree t) = tree_spans t
spans_in (value.Literal l) = l.span.number ∷ []
spans_in (value.Stream h) = []
spans_in (value.Span h) = h.number ∷ []
spans_in (value.Symbol t) = []

-- the handles of a value that was read
abbrev pub streams_of : Entry → List ℕ
streams_of (read number kind v bytes n) = streams_in v
streams_of (refused number kind fault) = []
streams_of (bad place fault) = []

abbrev pub spans_of : Entry → List ℕ
spans_of (read number kind v bytes n) = spans_in v
spans_of (refused number kind fault) = []
spans_of (bad place fault) = []

-- the place of a kind among the five
abbrev pub place_of : Kind → ℕ
place_of kind.Tree = 0
place_of kind.Literal = 1
place_of kind.Stream = 2
place_of kind.Span = 3
place_of kind.Symbol = 4

-- 1 where the kinds are the same
abbrev pub one_of : Kind → Kind → ℕ
one_of k kind = cond (place_of k == place_of kind) 1 0

-- the counts of a value that was read
abbrev pub value_counts : Kind → ℕ → ℕ → Counts
value_counts k texts bytes =
    record {
      trees = one_of k kind.Tree;
      literals = one_of k kind.Literal;
      streams = one_of k kind.Stream;
      spans = one_of k kind.Span;
      symbols = one_of k kind.Symbol;
      texts = texts;
      bytes = bytes;
      refused = 0;
      bad_lines = 0;
    }

-- the counts of what was not read
abbrev pub other_counts : ℕ → ℕ → Counts
other_counts refusals lines =
    record {
      trees = 0;
      literals = 0;
      streams = 0;
      spans = 0;
      symbols = 0;
      texts = 0;
      bytes = 0;
      refused = refusals;
      bad_lines = lines;
    }

abbrev pub counts_of : Entry → Counts
counts_of (read number kind v bytes n) = value_counts kind (texts_in v) n
counts_of (refused number kind fault) = other_counts 1 0
counts_of (bad place fault) = other_counts 0 1

abbrev pub added : Counts → Counts → Counts
added a b =
    record {
      trees = a.trees + b.trees;
      literals = a.literals + b.literals;
      streams = a.streams + b.streams;
      spans = a.spans + b.spans;
      symbols = a.symbols + b.symbols;
      texts = a.texts + b.texts;
      bytes = a.bytes + b.bytes;
      refused = a.refused + b.refused;
      bad_lines = a.bad_lines + b.bad_lines;
    }

-- counts that fit 64 bits
pub record Small (c : Counts) : Type 0 where
  pub trees : c.trees < 2 ^ 64
  pub literals : c.literals < 2 ^ 64
  pub streams : c.streams < 2 ^ 64
  pub spans : c.spans < 2 ^ 64
  pub symbols : c.symbols < 2 ^ 64
  pub texts : c.texts < 2 ^ 64
  pub bytes : c.bytes < 2 ^ 64
  pub refused : c.refused < 2 ^ 64
  pub badlines : c.bad_lines < 2 ^ 64

-- the sums of the entries' counts
abbrev pub counts_in : List Entry → Counts
counts_in es =
    record {
      trees = sum_by (λ e. (counts_of e).trees) es;
      literals = sum_by (λ e. (counts_of e).literals) es;
      streams = sum_by (λ e. (counts_of e).streams) es;
      spans = sum_by (λ e. (counts_of e).spans) es;
      symbols = sum_by (λ e. (counts_of e).symbols) es;
      texts = sum_by (λ e. (counts_of e).texts) es;
      bytes = sum_by (λ e. (counts_of e).bytes) es;
      refused = sum_by (λ e. (counts_of e).refused) es;
      bad_lines = sum_by (λ e. (counts_of e).bad_lines) es;
    }

abbrev pub totals_of : List Entry → Totals
totals_of es =
    record {
      counts = counts_in es;
      distinct_streams = length (distinct (flat_map streams_of es));
      distinct_spans = length (distinct (flat_map spans_of es));
    }
