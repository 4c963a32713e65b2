-- The counts: how they add up, and that no sum of them is above the sum of the weights.
use Rattle.std.proofs.Common.{◌≡◌, ℕ, ◌+◌, ◌^◌, ◌<◌, ◌≤◌, Bool, true, false, cond, List, [], ◌∷◌, ◌++◌, length, get_or, take, is_some, sum_by, arith}
use Rattle.std.proofs.lemmas.List.Sums.{sum_by-cons, sum_by_push, sum_by_more, sum_by-take-le}
use Rattle.rpc.specs.declared.Handle.{Handle}
use Rattle.rpc.specs.declared.Text.{Text}
use Rattle.tree.specs.declared.TokenTree.{TokenTree}
use Rattle.tree.specs.declared.TokenTree.TheVariants as tree
use Rattle.listing.specs.declared.totals.Counts.{Counts}
use Rattle.listing.specs.declared.value.Value.{Value}
use Rattle.listing.specs.declared.value.Value.TheVariants as value
use Rattle.listing.specs.Entries.{Entry, read, refused, bad}
use Rattle.listing.specs.Items.{weight}
use Rattle.listing.specs.Tally.{tree_texts, texts_in, counts_of, counts_in, added, Small}

pub counts_push : (es : List Entry) (e : Entry) → counts_in (es ++ e ∷ []) ≡ added (counts_in es) (counts_of e)
counts_push es e =
    rw (sum_by_push (λ x. (counts_of x).trees) es e, sum_by_push (λ x. (counts_of x).literals) es e, sum_by_push (λ x. (counts_of x).streams) es e, sum_by_push (λ x. (counts_of x).spans) es e, sum_by_push (λ x. (counts_of x).symbols) es e, sum_by_push (λ x. (counts_of x).texts) es e, sum_by_push (λ x. (counts_of x).bytes) es e, sum_by_push (λ x. (counts_of x).refused) es e, sum_by_push (λ x. (counts_of x).bad_lines) es e)

-- no count is above n
pub record Below (c : Counts) (n : ℕ) : Type 0 where
  pub trees : c.trees ≤ n
  pub literals : c.literals ≤ n
  pub streams : c.streams ≤ n
  pub spans : c.spans ≤ n
  pub symbols : c.symbols ≤ n
  pub texts : c.texts ≤ n
  pub bytes : c.bytes ≤ n
  pub refused : c.refused ≤ n
  pub badlines : c.bad_lines ≤ n

one : (t : Bool) (n : ℕ) → cond t 1 0 ≤ 2 + n
one true n = omega arith
one false n = omega arith

two : (t : Bool) → cond t 2 1 ≤ 2
two true = omega arith
two false = omega arith

tree_texts_lem : (t : TokenTree Handle Handle Text) → tree_texts t ≤ 2
tree_texts_lem (tree.Group g) = omega arith
tree_texts_lem (tree.Punct p) = omega arith
tree_texts_lem (tree.Ident i) = omega arith
tree_texts_lem (tree.Literal l) = two (is_some l.suffix)

texts : (v : Value) → texts_in v ≤ 2
texts (value.Tree t) = tree_texts_lem t
texts (value.Literal l) = two (is_some l.suffix)
texts (value.Stream h) = omega arith
texts (value.Span h) = omega arith
texts (value.Symbol t) = omega arith

below : (e : Entry) → Below (counts_of e) (weight e)
below (read number kind v bytes n) =
    record {
      trees = one _ n;
      literals = one _ n;
      streams = one _ n;
      spans = one _ n;
      symbols = one _ n;
      texts = omega (arith, texts v);
      bytes = omega arith;
      refused = omega arith;
      badlines = omega arith;
    }
below (refused number kind fault) =
    record { trees = omega arith; literals = omega arith; streams = omega arith; spans = omega arith; symbols = omega arith; texts = omega arith; bytes = omega arith; refused = omega arith; badlines = omega arith }
below (bad place fault) =
    record { trees = omega arith; literals = omega arith; streams = omega arith; spans = omega arith; symbols = omega arith; texts = omega arith; bytes = omega arith; refused = omega arith; badlines = omega arith }

mono : (f : Entry → ℕ) → ((e : Entry) → f e ≤ weight e) → (es : List Entry) → sum_by f es ≤ sum_by weight es
mono f h [] = omega arith
mono f h (e ∷ es) = omega (arith, sum_by-cons f e es, sum_by-cons weight e es, h e, mono f h es)

module _ (es : List Entry) (i : ℕ) (d : Entry) (h : i < length es) (light : sum_by weight es < 2 ^ 64) where
  fits : (f : Entry → ℕ) → ((e : Entry) → f e ≤ weight e) → sum_by f (take i es) + f (get_or es i d) < 2 ^ 64
  fits f le = omega (arith, sum_by_more f es i d h, mono f le (take (i + 1) es), sum_by-take-le weight es (i + 1))

  pub small : Small (added (counts_in (take i es)) (counts_of (get_or es i d)))
  small =
      record {
        trees = fits (λ x. (counts_of x).trees) (λ e. (below e).trees);
        literals = fits (λ x. (counts_of x).literals) (λ e. (below e).literals);
        streams = fits (λ x. (counts_of x).streams) (λ e. (below e).streams);
        spans = fits (λ x. (counts_of x).spans) (λ e. (below e).spans);
        symbols = fits (λ x. (counts_of x).symbols) (λ e. (below e).symbols);
        texts = fits (λ x. (counts_of x).texts) (λ e. (below e).texts);
        bytes = fits (λ x. (counts_of x).bytes) (λ e. (below e).bytes);
        refused = fits (λ x. (counts_of x).refused) (λ e. (below e).refused);
        badlines = fits (λ x. (counts_of x).bad_lines) (λ e. (below e).badlines);
      }
