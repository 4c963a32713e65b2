-- The lines of a file spell it.
use Rattle.std.proofs.Common.{◌≡◌, ℕ, Bool, true, false, cond, eqb, ◌||◌, ◌⊎◌, List, [], ◌∷◌, ◌++◌, sym, refl, ap, ◌∙◌, subst, inl, inr}
use Rattle.std.proofs.lemmas.Bool.{eqb-true, eq-eqb, true≢false}
use Rattle.listing.specs.Cut.{ended, Open, Cut}
use Rattle.listing.specs.Entries.{in_front, lines_of}
use Rattle.listing.specs.Handles.{member}
use Rattle.listing.proofs.Sets.{laws}

later : (b : ℕ) (rest : List ℕ) → Open rest → Open (b ∷ rest)
later b rest o = record { front = b ∷ o.front; last = o.last; is = ap (λ xs. b ∷ xs) o.is; other = o.other }

spell : (b : ℕ) (rest lines : List ℕ) → (lines ≡ rest) ⊎ (Open rest × (lines ≡ rest ++ 10 ∷ [])) → (b ∷ lines ≡ b ∷ rest) ⊎ (Open (b ∷ rest) × (b ∷ lines ≡ (b ∷ rest) ++ 10 ∷ []))
spell b rest lines (inl p) = inl (ap (λ xs. b ∷ xs) p)
spell b rest lines (inr p) = inr (later b rest p.0, ap (λ xs. b ∷ xs) p.1)

some : (t : Bool) (b : ℕ) (lines : List (List ℕ)) → cond t ([] ∷ lines) (in_front b lines) ≡ [] → ⊥
some true b lines e = cc
some false b [] e = cc
some false b (l ∷ ls) e = cc

filled : (rest : List ℕ) → lines_of rest ≡ [] → rest ≡ []
filled [] e = refl
filled (b ∷ rest) e = absurd (some (eqb b 10) b (lines_of rest) e)

newline : (b : ℕ) (rest : List ℕ) (lines : List (List ℕ)) → b ≡ 10 → Cut rest lines → Cut (b ∷ rest) ([] ∷ lines)
newline b rest lines e c =
    subst (λ x. Cut (x ∷ rest) ([] ∷ lines)) (sym e) (record { plain = (refl, c.plain); spelled = spell 10 rest (ended lines) c.spelled })

inside : (b : ℕ) (rest : List ℕ) (lines : List (List ℕ)) → eqb 10 b ≡ false → (b ≡ 10 → ⊥) → (lines ≡ [] → rest ≡ []) → Cut rest lines → Cut (b ∷ rest) (in_front b lines)
inside b rest [] t ne none c =
    let e = ap (λ xs. b ∷ xs) (none refl) in
    record {
      plain = (ap (λ x. x || false) t, tt);
      spelled = inr (record { front = []; last = b; is = e; other = ne }, ap (λ xs. xs ++ 10 ∷ []) (sym e));
    }
inside b rest (l ∷ ls) t ne none c =
    record {
      plain = (ap (λ x. x || member 10 l) t ∙ c.plain.0, c.plain.1);
      spelled = spell b rest (ended (l ∷ ls)) c.spelled;
    }

pub cut : (file : List ℕ) → Cut file (lines_of file)
cut [] = record { plain = tt; spelled = inl refl }
cut (b ∷ rest) =
    let c : Cut rest (lines_of rest) = cut rest in
    elim (eqb b 10) as (λ t. eqb b 10 ≡ t → Cut (b ∷ rest) (cond t ([] ∷ lines_of rest) (in_front b (lines_of rest)))) [
      | true ↦ λ e. newline b rest (lines_of rest) (eqb-true b 10 e) c
      | false ↦ λ e. inside b rest (lines_of rest) (laws.symm 10 b ∙ e) (λ q. true≢false (sym (eq-eqb b 10 q) ∙ e)) (filled rest) c
    ] refl
