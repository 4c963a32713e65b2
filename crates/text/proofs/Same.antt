-- A test of lists of lists of ranges, by which two are equal.
use Rattle.std.proofs.Common.{◌≡◌, ℕ, Bool, true, false, ◌&&◌, eqb, List, [], ◌∷◌, refl}
use Rattle.std.proofs.lemmas.Bool.{false≢true, and_parts, eqb-true}
use Rattle.text.specs.Grammar.{Range}

abbrev same : {A : Type 0} → (A → A → Bool) → List A → List A → Bool
same t [] [] = true
same t [] (y ∷ ys) = false
same t (x ∷ xs) [] = false
same t (x ∷ xs) (y ∷ ys) = t x y && same t xs ys

same_eq : {A : Type 0} (t : A → A → Bool) → ((x y : A) → t x y ≡ true → x ≡ y) → (xs ys : List A) → same t xs ys ≡ true → xs ≡ ys
same_eq t eq [] [] e = refl
same_eq t eq [] (y ∷ ys) e = absurd (false≢true e)
same_eq t eq (x ∷ xs) [] e = absurd (false≢true e)
same_eq t eq (x ∷ xs) (y ∷ ys) e =
    let both = and_parts (t x y) (same t xs ys) e in cc (eq x y both.0, same_eq t eq xs ys both.1)

abbrev same_range : Range → Range → Bool
same_range r s = eqb r.0 s.0 && eqb r.1 s.1

pair_eq : (a b c d : ℕ) → a ≡ c → b ≡ d → ◌≡◌ {A = Range} (a, b) (c, d)
pair_eq a b c d h k = cc

range_eq : (r s : Range) → same_range r s ≡ true → r ≡ s
range_eq r s e = let both = and_parts _ _ e in pair_eq _ _ _ _ (eqb-true _ _ both.0) (eqb-true _ _ both.1)

abbrev pub same_forms : List (List Range) → List (List Range) → Bool
same_forms = same (same same_range)

pub forms_eq : (xs ys : List (List Range)) → same_forms xs ys ≡ true → xs ≡ ys
forms_eq = same_eq (same same_range) (same_eq same_range range_eq)
