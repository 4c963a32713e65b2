-- Texts noted one list behind the other.
use Rattle.std.proofs.Common.{◌≡◌, ℕ, ◌+◌, ◌<◌, ◌&&◌, List, [], ◌∷◌, ◌++◌, map, length, get_or, take, is_ok, sym, refl, ap, ◌∙◌, subst, arith}
use mathlib.Core.Bool.{and_assoc}
use Rattle.std.specs.List.{flat_map}
use Rattle.std.proofs.lemmas.List.{flat_map_more, length-map, get_or-map, take_more}
use Rattle.std.proofs.lemmas.List.Sums.{fold-append}
use Rattle.symbol.specs.Interning.{State, intern_reply, intern_state}
use Rattle.distinct.specs.declared.Noting.{Noting}
use Rattle.distinct.specs.Counted.{after_texts, all_taken}
use Rattle.distinct.specs.Noted.{Noted}

taken_both : (s : State) (xs ys : List (List ℕ)) → (all_taken s xs && all_taken (after_texts s xs) ys) ≡ all_taken s (xs ++ ys)
taken_both s [] ys = refl
taken_both s (x ∷ xs) ys = and_assoc (is_ok (intern_reply s x)) (all_taken (intern_state s x) xs) (all_taken (after_texts (intern_state s x) xs) ys) ∙ ap (λ b. is_ok (intern_reply s x) && b) (taken_both (intern_state s x) xs ys)

pub both : (s middle after : Noting) (xs ys : List (List ℕ)) → Noted s xs middle → Noted middle ys after → Noted s (xs ++ ys) after
both s middle after xs ys first second =
    let a = all_taken s.interner xs in
    let b = all_taken (after_texts s.interner xs) ys in
    record {
      state = second.state ∙ ap (λ m. after_texts m ys) first.state ∙ sym (fold-append intern_state s.interner xs ys);
      taken = second.taken ∙ ap (λ t. t && all_taken middle.interner ys) first.taken ∙ ap (λ m. (s.took_all && a) && all_taken m ys) first.state ∙ and_assoc s.took_all a b ∙ ap (λ t. s.took_all && t) (taken_both s.interner xs ys);
    }

module _ {X Y : Type 0} (e : X → Y) (f : Y → List (List ℕ)) (xs : List X) (s : Noting) where
  -- one item more
  pub more : (i : ℕ) (x : X) → i < length xs → x ≡ get_or xs i x → (middle after : Noting) → Noted s (flat_map f (take i (map e xs))) middle → Noted middle (f (e x)) after → Noted s (flat_map f (take (i + 1) (map e xs))) after
  more i x h is middle after first second =
      let ys = take i (map e xs) in
      let within : i < length (map e xs) = omega (arith, length-map xs e) in
      let item : get_or (map e xs) i (e x) ≡ e x = get_or-map e xs i x (e x) h ∙ ap e (sym is) in
      let grown : flat_map f ys ++ f (e x) ≡ flat_map f (take (i + 1) (map e xs)) = flat_map_more f [] ys (e x) ∙ ap (flat_map f) (sym (take_more (map e xs) i (e x) within ∙ ap (λ y. ys ++ y ∷ []) item)) in
      subst (λ ts. Noted s ts after) grown (both s middle after (flat_map f ys) (f (e x)) first second)
