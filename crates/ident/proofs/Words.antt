-- A text is an identifier if its first byte may begin one and each byte behind that may follow, and none if one may not.
use Rattle.std.proofs.Common.{◌≡◌, ℕ, ◌-◌, ◌<◌, true, false, ◌&&◌, List, [], ◌∷◌, length, get_or, take, drop, sym, refl, ap, ◌∙◌}
use Rattle.std.proofs.lemmas.Bool.{and_from, and_right}
use Rattle.std.proofs.lemmas.Grind.{get_or_default_zero}
use Rattle.std.proofs.lemmas.List.{take_rest}
use Rattle.std.proofs.lemmas.List.Folds.{list_all_at}
use Rattle.std.proofs.lemmas.List.Sums.{list_all-from_AllPass}
use Rattle.ident.specs.Classes.{begins, continues, ident_class}
use Rattle.ident.specs.Idents.{all_continue, is_ident}

-- the bytes behind the first, as the checker reads `[_, rest @ ..]`
abbrev rest : List ℕ → List ℕ
rest bs = take (length bs - 1) (drop 1 bs)

made_of : (bs : List ℕ) → is_ident bs ≡ (begins (ident_class (get_or bs 0 0)) && all_continue (rest bs))
made_of [] = refl
made_of (b ∷ bs) = ap (λ xs. begins (ident_class b) && all_continue xs) (sym (take_rest (b ∷ bs) 1))

pub accepted : (bs : List ℕ) → begins (ident_class (get_or bs 0 0)) ≡ true → ((k : ℕ) → k < length (rest bs) → continues (ident_class (get_or (rest bs) k 0)) ≡ true) → is_ident bs ≡ true
accepted bs first h =
    let each = λ (k d : ℕ) (l : k < length (rest bs)). ap (λ b. continues (ident_class b)) (get_or_default_zero (rest bs) k d l) ∙ h k l in
    made_of bs ∙ and_from _ _ first (list_all-from_AllPass (λ b. continues (ident_class b)) (rest bs) each)

pub rejected : (bs : List ℕ) (k : ℕ) → k < length (rest bs) → continues (ident_class (get_or (rest bs) k 0)) ≡ false → is_ident bs ≡ false
rejected bs k l e = made_of bs ∙ and_right _ _ (list_all_at (λ b. continues (ident_class b)) (rest bs) k 0 l e)
