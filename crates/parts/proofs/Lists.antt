-- A list that is filled up to seven, one after the other.
use Rattle.std.proofs.Common.{◌≡◌, ℕ, zero, suc, ◌<◌, ◌≤◌, List, [], ◌∷◌, ◌++◌, length, take, refl, ap, ◌∙◌, arith, length-append}
use Rattle.std.proofs.lemmas.List.{append_assoc, take_all, take-append-le}
use Rattle.parts.specs.Parts.{joined}

module _ {X : Type 0} where
  pub added : (xs : List X) (x : X) → length xs < 7 → joined xs (x ∷ []) ≡ xs ++ x ∷ []
  unfolding joined
  added xs x e = take_all 7 (xs ++ x ∷ []) (omega (arith, length-append xs (x ∷ [])))

  -- an eighth is left out
  pub left_out : (xs : List X) (x : X) → length xs ≡ 7 → joined xs (x ∷ []) ≡ xs
  unfolding joined
  left_out xs x e = take-append-le 7 xs (x ∷ []) (omega arith) ∙ take_all 7 xs (omega arith)

  -- no more than seven begin a list
  pub alone : (xs : List X) → length xs ≤ 7 → joined [] xs ≡ xs
  unfolding joined
  alone xs e = take_all 7 xs e

  pub cut_twice : (n : ℕ) (a b : List X) → take n (take n a ++ b) ≡ take n (a ++ b)
  cut_twice zero a b = refl
  cut_twice (suc n) [] b = refl
  cut_twice (suc n) (x ∷ a) b = ap (λ l. x ∷ l) (cut_twice n a b)

  -- two that are filled in, one after the other
  pub in_turn : (l a b : List X) → joined (joined l a) b ≡ joined l (a ++ b)
  unfolding joined
  in_turn l a b = cut_twice 7 (l ++ a) b ∙ ap (take 7) (append_assoc l a b)
