-- Texts held: where one stands among them, and what one more changes.
use Rattle.std.proofs.Common.{◌≡◌, ℕ, ◌<◌, true, false, not, ◌||◌, List, [], ◌∷◌, ◌++◌, length, get_or, sym, refl, ap, ◌∙◌}
use mathlib.Core.Bool.{or-false}
use Rattle.std.specs.Str.{bytes_eq}
use Rattle.std.proofs.lemmas.Slice.Eq.{bytes_eq-Decides}
use Rattle.std.proofs.lemmas.Bool.{and_parts, and_from, or_parts, or_from, not-true, not_from_false}
use Rattle.std.proofs.lemmas.List.Folds.{list_all-append, list_any-append}
use Rattle.std.proofs.lemmas.List.Sums.{AllPass-from_list_all}
use Rattle.std.proofs.lemmas.Bool.Decides.{Decides-like, same_from_decides}
use Rattle.symbol.specs.Held.{Limits, holds, once, allowed, all_allowed}

pub allowed_at : (l : Limits) (held : List (List ℕ)) (i : ℕ) → i < length held → all_allowed l held ≡ true → allowed l (get_or held i []) ≡ true
allowed_at l held i h e = AllPass-from_list_all (allowed l) held e i [] h

pub allowed_push : (l : Limits) (held : List (List ℕ)) (t : List ℕ) → all_allowed l held ≡ true → allowed l t ≡ true → all_allowed l (held ++ t ∷ []) ≡ true
allowed_push l held t e h = list_all-append (allowed l) held (t ∷ []) ∙ and_from _ _ e (and_from _ _ h refl)

-- one text more is held
pub holds_push : (held : List (List ℕ)) (t y : List ℕ) → holds (held ++ t ∷ []) y ≡ (holds held y || bytes_eq t y)
holds_push held t y = list_any-append (λ x. bytes_eq x y) held (t ∷ []) ∙ ap (λ b. holds held y || b) (or-false (bytes_eq t y))

-- texts are the same either way round
same_turned : (x t : List ℕ) → bytes_eq x t ≡ bytes_eq t x
same_turned x t = same_from_decides (bytes_eq x t) (bytes_eq t x) (bytes_eq-Decides x t) (Decides-like (bytes_eq t x) sym sym (bytes_eq-Decides t x))

pub once_push : (held : List (List ℕ)) (t : List ℕ) → once held ≡ true → holds held t ≡ false → once (held ++ t ∷ []) ≡ true
once_push [] t e n = refl
once_push (x ∷ xs) t e n =
    let new = or_parts (bytes_eq x t) (holds xs t) n in
    let old = and_parts (not (holds xs x)) (once xs) e in
    let apart : holds (xs ++ t ∷ []) x ≡ false = holds_push xs t x ∙ or_from _ _ (not-true _ old.0) (same_turned t x ∙ new.0) in
    and_from (not (holds (xs ++ t ∷ []) x)) (once (xs ++ t ∷ [])) (not_from_false _ apart) (once_push xs t old.1 new.1)
