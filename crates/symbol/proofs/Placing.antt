-- The place of a text among those held: what stands there, and that texts behind leave it.
use Rattle.std.proofs.Common.{◌≡◌, ℕ, suc, ◌+◌, ◌-◌, ◌<◌, ◌≤◌, true, false, cond, ◌||◌, List, [], ◌∷◌, ◌++◌, map, length, get_or, is_some, Some, None, sym, refl, ap, ◌∙◌, add-zero, arith}
use Rattle.std.specs.List.{position_from}
use Rattle.std.specs.Str.{bytes_eq}
use Rattle.std.proofs.lemmas.Slice.Eq.{bytes_eq-Decides}
use Rattle.symbol.specs.Held.{place_from, holds}

-- what stands at the place that was found
pub record Found (n : ℕ) (t : List ℕ) (held : List (List ℕ)) (k : ℕ) : Type 0 where
  pub from : n ≤ k
  pub below : k < n + length held
  pub text : get_or held (k - n) [] ≡ t

found_here : (n k : ℕ) (t x : List ℕ) (xs : List (List ℕ)) → bytes_eq x t ≡ true → n ≡ k → Found n t (x ∷ xs) k
found_here n k t x xs same e =
    let none : k - n ≡ 0 = omega arith in
    record { from = omega arith; below = omega arith; text = ap (λ m. get_or (x ∷ xs) m []) none ∙ (bytes_eq-Decides x t).0 same }

found_later : (n k : ℕ) (t x : List ℕ) (xs : List (List ℕ)) → Found (n + 1) t xs k → Found n t (x ∷ xs) k
found_later n k t x xs f =
    let one : k - n ≡ suc (k - (n + 1)) = omega (arith, f.from) in
    record { from = omega (arith, f.from); below = omega (arith, f.below); text = ap (λ m. get_or (x ∷ xs) m []) one ∙ f.text }

pub found_at : (n : ℕ) (t : List ℕ) (held : List (List ℕ)) (k : ℕ) → place_from n t held ≡ Some k → Found n t held k
found_at n t [] k e = cc
found_at n t (x ∷ xs) k e =
    elim (bytes_eq x t) as (λ b. bytes_eq x t ≡ b → cond b (Some n) (place_from (n + 1) t xs) ≡ Some k → Found n t (x ∷ xs) k)
    [ true ↦ λ same h. found_here n k t x xs same (cc) | false ↦ λ _ h. found_later n k t x xs (found_at (n + 1) t xs k h) ]
    refl e

pub placed_holds : (n : ℕ) (t : List ℕ) (held : List (List ℕ)) → is_some (place_from n t held) ≡ holds held t
placed_holds n t [] = refl
placed_holds n t (x ∷ xs) =
    elim (bytes_eq x t) as (λ b. is_some (cond b (Some n) (place_from (n + 1) t xs)) ≡ (b || holds xs t))
    [ true ↦ refl | false ↦ placed_holds (n + 1) t xs ]

pub stays_placed : (n : ℕ) (t : List ℕ) (held more : List (List ℕ)) (k : ℕ) → place_from n t held ≡ Some k → place_from n t (held ++ more) ≡ Some k
stays_placed n t [] more k e = cc
stays_placed n t (x ∷ xs) more k e =
    elim (bytes_eq x t) as (λ b. cond b (Some n) (place_from (n + 1) t xs) ≡ Some k → cond b (Some n) (place_from (n + 1) t (xs ++ more)) ≡ Some k)
    [ true ↦ λ h. h | false ↦ stays_placed (n + 1) t xs more k ]
    e

same_itself : (t : List ℕ) → bytes_eq t t ≡ true
same_itself t = (bytes_eq-Decides t t).1 refl

-- a text that was not held stands behind the others
pub placed_last : (n : ℕ) (t : List ℕ) (held : List (List ℕ)) → place_from n t held ≡ None → place_from n t (held ++ t ∷ []) ≡ Some (n + length held)
placed_last n t [] e = rw same_itself (ap Some (sym (add-zero n)))
placed_last n t (x ∷ xs) e =
    let sum : n + 1 + length xs ≡ n + length (x ∷ xs) = omega arith in
    elim (bytes_eq x t) as (λ b. cond b (Some n) (place_from (n + 1) t xs) ≡ None → cond b (Some n) (place_from (n + 1) t (xs ++ t ∷ [])) ≡ Some (n + length (x ∷ xs)))
    [ true ↦ λ h. cc | false ↦ λ h. placed_last (n + 1) t xs h ∙ ap Some sum ]
    e

-- among things that stand for texts a text stands where it stands among the texts
pub placed_among : {X : Type 0} (f : X → List ℕ) (t : List ℕ) (n : ℕ) (xs : List X) → position_from (λ x. bytes_eq (f x) t) n xs ≡ place_from n t (map f xs)
placed_among f t n [] = refl
placed_among f t n (x ∷ xs) = ap (cond (bytes_eq (f x) t) (Some n)) (placed_among f t (n + 1) xs)
