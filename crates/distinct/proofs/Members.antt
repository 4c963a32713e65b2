-- The texts that an interner holds after some were interned are those and the ones before, where each was taken.
use Rattle.std.proofs.Common.{◌≡◌, ℕ, Bool, true, false, cond, not, ◌&&◌, ◌||◌, List, [], ◌∷◌, ◌++◌, is_ok, sym, refl, ap, ◌∙◌, ⊎_elim}
use mathlib.Core.Bool.{or_assoc}
use Rattle.std.specs.Str.{bytes_eq}
use Rattle.std.proofs.lemmas.Slice.Eq.{bytes_eq-Decides}
use Rattle.std.proofs.lemmas.Bool.{false≢true, and_parts, or_cases, or_left, or_right, cond_both}
use Rattle.symbol.specs.Held.{holds}
use Rattle.symbol.specs.Interning.{State, intern_reply, intern_held, intern_state}
use Rattle.symbol.proofs.Holding.{holds_push}
use Rattle.distinct.specs.Counted.{after_texts, all_taken}

module _ (s : State) (t q : List ℕ) where
  one_within : holds (intern_held s t) q ≡ true → (holds s.held q || bytes_eq t q) ≡ true
  one_within =
      cond_both (is_ok (intern_reply s t) && not (holds s.held t)) (s.held ++ t ∷ []) s.held (λ h. holds h q ≡ true → (holds s.held q || bytes_eq t q) ≡ true)
      (λ _ e. sym (holds_push s.held t q) ∙ e) (λ _ e. or_left _ _ e)

  -- a text that was taken is held: it was, or it stands behind the others
  grown : (r b : Bool) → r ≡ true → holds s.held t ≡ b → (holds s.held q || bytes_eq t q) ≡ true → holds (cond (r && not b) (s.held ++ t ∷ []) s.held) q ≡ true
  grown true true taken held e = ⊎_elim (λ h. h) (λ h. ap (holds s.held) (sym ((bytes_eq-Decides t q).0 h)) ∙ held) (or_cases _ _ e)
  grown true false taken new e = holds_push s.held t q ∙ e
  grown false b taken held e = absurd (false≢true taken)

  one_whole : is_ok (intern_reply s t) ≡ true → (holds s.held q || bytes_eq t q) ≡ true → holds (intern_held s t) q ≡ true
  one_whole taken e = grown (is_ok (intern_reply s t)) (holds s.held t) taken refl e

pub within : (s : State) (texts : List (List ℕ)) (q : List ℕ) → holds (after_texts s texts).held q ≡ true → (holds s.held q || holds texts q) ≡ true
within s [] q e = or_left _ _ e
within s (t ∷ texts) q e =
    let before = holds s.held q in
    let now = bytes_eq t q in
    let later = holds texts q in
    sym (or_assoc before now later)
    ∙ ⊎_elim (λ h. or_left (before || now) later (one_within s t q h)) (λ h. or_right (before || now) later h) (or_cases (holds (intern_held s t) q) later (within (intern_state s t) texts q e))

pub whole : (s : State) (texts : List (List ℕ)) (q : List ℕ) → all_taken s texts ≡ true → (holds s.held q || holds texts q) ≡ true → holds (after_texts s texts).held q ≡ true
whole s [] q taken e = ⊎_elim (λ h. h) (λ h. absurd (false≢true h)) (or_cases _ _ e)
whole s (t ∷ texts) q taken e =
    let both = and_parts (is_ok (intern_reply s t)) (all_taken (intern_state s t) texts) taken in
    let held = or_cases (holds s.held q || bytes_eq t q) (holds texts q) (or_assoc (holds s.held q) (bytes_eq t q) (holds texts q) ∙ e) in
    whole (intern_state s t) texts q both.1 (⊎_elim (λ h. or_left _ _ (one_whole s t q both.0 h)) (λ h. or_right _ _ h) held)
