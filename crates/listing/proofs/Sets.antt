-- A set of handles: what it holds after it took one more, and how many different ones a list has.
use mathlib.Core.Path.{fun_ext}
use Rattle.std.proofs.Common.{◌≡◌, ℕ, Bool, true, false, cond, eqb, ◌||◌, List, [], ◌∷◌, ◌++◌, refl, sym, ap, ◌∙◌, subst}
use Rattle.std.specs.Cmp.{IsEquivalence, unsigned_tied}
use Rattle.std.specs.List.{IsDistinct}
use Rattle.std.specs.Ordering.{eq_by_cmp, nat_cmp}
use Rattle.std.specs.Set.{is_member}
use Rattle.std.specs.BTreeSet.{BTreeSet, IsOrdered, Updates, contains, btree_set_len}
use Rattle.std.proofs.lemmas.Cmp.{eq_by_cmp_equiv, nat_cmp_total}
use Rattle.std.proofs.lemmas.List.Folds.{list_any-append}
use Rattle.std.proofs.lemmas.Map.Keys.{IsDistinct-from_sorted}
use Rattle.std.proofs.lemmas.Map.Made.{length-from_keys}
use Rattle.listing.specs.Handles.{member, NoRepeats, Different, Holds, Noted}

-- the order tells numbers apart as `==` does
tied : eq_by_cmp nat_cmp ≡ eqb
tied = fun_ext (λ x. fun_ext (unsigned_tied x))

pub laws : IsEquivalence eqb
laws = subst IsEquivalence tied (eq_by_cmp_equiv nat_cmp_total)

last : (t m : Bool) → cond t true m ≡ (m || (t || false))
last true true = refl
last true false = refl
last false true = refl
last false false = refl

module _ (s : BTreeSet ℕ) (xs : List ℕ) (o : IsOrdered nat_cmp s) (h : (q : ℕ) → contains nat_cmp s q ≡ member q xs) where
  apart : NoRepeats s.keys
  apart = subst (λ e. IsDistinct e s.keys) tied (IsDistinct-from_sorted nat_cmp s.keys o)

  same : (q : ℕ) → member q s.keys ≡ member q xs
  same q = sym (ap (λ e. is_member e s.keys q) tied) ∙ h q

  held : Holds s xs
  held = record { ordered = o; members = h; many = length-from_keys laws s.keys xs apart same }

-- a set that holds the numbers of a list is as long as the list has different ones
pub different : (s : BTreeSet ℕ) (xs : List ℕ) (n : ℕ) → Holds s xs → n ≡ btree_set_len s → Different xs n
different s xs n h e =
    record { once = s.keys; norepeats = apart s xs h.ordered h.members; same = same s xs h.ordered h.members; many = e }

pub noted : (s n : BTreeSet ℕ) (k : ℕ) → Updates nat_cmp s n k true → IsOrdered nat_cmp n → Noted s n (k ∷ [])
noted s n k u o xs h =
    held n (xs ++ k ∷ []) o (λ q. u.0 q ∙ ap (λ t. cond t true (contains nat_cmp s q)) (unsigned_tied k q ∙ laws.symm k q) ∙ ap (cond (eqb q k) true) (h.members q) ∙ last (eqb q k) (member q xs) ∙ sym (list_any-append (eqb q) xs (k ∷ [])))
