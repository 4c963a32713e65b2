-- The loop over the items: the counts and the sets are those of the entries passed.
use Rattle.std.proofs.Common.{◌≡◌, ℕ, ◌+◌, ◌^◌, ◌<◌, ◌≤◌, List, [], ◌∷◌, ◌++◌, map, length, get_or, take, sum_by, sym, ap, ◌∙◌, subst}
use Rattle.std.specs.List.{flat_map}
use Rattle.std.specs.BTreeSet.{BTreeSet}
use Rattle.std.proofs.lemmas.List.{length-map, get_or-map, take_more, take_all, flat_map_more}
use Rattle.listing.specs.declared.items.Item.{Item}
use Rattle.listing.specs.declared.totals.Counts.{Counts}
use Rattle.listing.specs.Entries.{Entry}
use Rattle.listing.specs.Handles.{Holds, Noted}
use Rattle.listing.specs.Items.{entry_of, weight}
use Rattle.listing.specs.Tally.{streams_of, spans_of, counts_of, counts_in, added, Small}
use Rattle.listing.proofs.Sums.{counts_push, small}

pub record Tallied (es : List Entry) (counts : Counts) (streams spans : BTreeSet ℕ) : Type 0 where
  pub counted : counts ≡ counts_in es
  pub streamed : Holds streams (flat_map streams_of es)
  pub spanned : Holds spans (flat_map spans_of es)

passed : (items : List Item) (i : ℕ) (item : Item) → i < length items → item ≡ get_or items i item → take (i + 1) (map entry_of items) ≡ take i (map entry_of items) ++ entry_of item ∷ []
passed items i item h e =
    take_more (map entry_of items) i (entry_of item) (rw (length-map items entry_of) h)
    ∙ ap (λ x. take i (map entry_of items) ++ x ∷ []) (get_or-map entry_of items i item (entry_of item) h ∙ ap entry_of (sym e))

module _ (items : List Item) (i : ℕ) (item : Item) (h : i < length items) (is : item ≡ get_or items i item) (counts : Counts) (streams spans : BTreeSet ℕ) (t : Tallied (take i (map entry_of items)) counts streams spans) where
  pub room : (more : Counts) → more ≡ counts_of (entry_of item) → sum_by weight (map entry_of items) < 2 ^ 64 → Small (added counts more)
  room more e light =
      let es = map entry_of items in
      let s = small es i (entry_of item) (rw (length-map items entry_of) h) light in
      let x = get_or-map entry_of items i item (entry_of item) h ∙ ap entry_of (sym is) in
      subst Small (ap (λ y. added (counts_in (take i es)) (counts_of y)) x ∙ ap (λ c. added c (counts_of (entry_of item))) (sym t.counted) ∙ ap (added counts) (sym e)) s

  pub more : (counts' : Counts) (streams' spans' : BTreeSet ℕ) (own : Counts) → own ≡ counts_of (entry_of item) → counts' ≡ added counts own → Noted streams streams' (streams_of (entry_of item)) → Noted spans spans' (spans_of (entry_of item)) → Tallied (take (i + 1) (map entry_of items)) counts' streams' spans'
  more counts' streams' spans' own o e f g =
      let es = take i (map entry_of items) in
      subst (λ es. Tallied es counts' streams' spans') (sym (passed items i item h is))
      (record {
        counted = e ∙ ap (added counts) o ∙ ap (λ c. added c (counts_of (entry_of item))) t.counted ∙ sym (counts_push es (entry_of item));
        streamed = subst (Holds streams') (flat_map_more streams_of [] es (entry_of item)) (f _ t.streamed);
        spanned = subst (Holds spans') (flat_map_more spans_of [] es (entry_of item)) (g _ t.spanned);
      })

-- at the end all entries are passed
pub whole : (items : List Item) (i : ℕ) (counts : Counts) (streams spans : BTreeSet ℕ) → Tallied (take i (map entry_of items)) counts streams spans → length items ≤ i → Tallied (map entry_of items) counts streams spans
whole items i counts streams spans t h =
    subst (λ es. Tallied es counts streams spans) (take_all i (map entry_of items) (rw (length-map items entry_of) h)) t
