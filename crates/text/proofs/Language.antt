-- The test `is_utf8` is true exactly at the language `Octets`.
use Rattle.std.proofs.Common.{◌≡◌, ℕ, Bool, true, List, [], ◌∷◌, ◌++◌, Decides, sym, refl, ap, subst, inl, inr, ⊎_elim}
use Rattle.std.proofs.lemmas.Bool.{false≢true, and_parts, and_from, or_cases, or_left, or_right, leb-true, le-leb, cond_both}
use Rattle.std.proofs.lemmas.Bool.Decides.{Decides-at}
use Rattle.text.specs.Grammar.{Range, utf8_char, InTurn, OneOf, Octets, none, more, within, behind, any_of, coming, follows, is_utf8}

-- the octets are of one of the alternatives, and then UTF8-octets
abbrev Begins : List (List Range) → List ℕ → Type 0
Begins table bs = (c rest : List ℕ) × (bs ≡ c ++ rest) × OneOf table c × Octets rest

later : (rs : List Range) (table : List (List Range)) (bs : List ℕ) → Begins table bs → Begins (rs ∷ table) bs
later rs table bs x = (x.0, x.1, x.2, inr x.3, x.4)

first : (b : ℕ) (bs : List ℕ) (r : Range) (rs : List Range) (table : List (List Range)) → within r b ≡ true → Begins (rs ∷ []) bs → Begins ((r ∷ rs) ∷ table) (b ∷ bs)
first b bs r rs table w x =
    let bounds = and_parts _ _ w in
    (b ∷ x.0, x.1, ap (λ t. b ∷ t) x.2, ⊎_elim (λ h. inl (leb-true _ _ bounds.0, leb-true _ _ bounds.1, h)) absurd x.3, x.4)

begins : (b : ℕ) (bs : List ℕ) (f : List Range → Bool) → ((left : List Range) → f left ≡ true → Begins (left ∷ []) bs) → (table : List (List Range)) → any_of f (behind b table) ≡ true → Begins table (b ∷ bs)
begins b bs f found [] e = absurd (false≢true e)
begins b bs f found ([] ∷ table) e = later [] table (b ∷ bs) (begins b bs f found table e)
begins b bs f found ((r ∷ rs) ∷ table) e =
    let on : any_of f (behind b table) ≡ true → Begins ((r ∷ rs) ∷ table) (b ∷ bs) = λ k. later (r ∷ rs) table (b ∷ bs) (begins b bs f found table k) in
    cond_both (within r b) (rs ∷ behind b table) (behind b table) (λ fs. any_of f fs ≡ true → Begins ((r ∷ rs) ∷ table) (b ∷ bs))
    (λ w k. ⊎_elim on (λ h. first b bs r rs table w (found rs h)) (or_cases (any_of f (behind b table)) (f rs) k)) (λ _. on) e

joined : (bs : List ℕ) → Begins utf8_char bs → Octets bs
joined bs x = subst Octets (sym x.2) (more x.0 x.1 x.3 x.4)

whole : (rs : List Range) (bs : List ℕ) → Begins (coming rs) bs → Begins (rs ∷ []) bs
whole [] bs x = ([], bs, refl, inl tt, joined bs x)
whole (r ∷ rs) bs x = x

sound : (rs : List Range) (bs : List ℕ) → follows rs bs ≡ true → Begins (rs ∷ []) bs
sound [] [] e = ([], [], refl, inl tt, none)
sound (r ∷ rs) [] e = absurd (false≢true e)
sound rs (b ∷ bs) e = whole rs (b ∷ bs) (begins b bs (λ left. follows left bs) (λ left. sound left bs) (coming rs) e)

taken : (b : ℕ) (c : List ℕ) (f : List Range → Bool) → ((left : List Range) → InTurn left c → f left ≡ true) → (table : List (List Range)) → OneOf table (b ∷ c) → any_of f (behind b table) ≡ true
taken b c f read [] o = absurd o
taken b c f read ([] ∷ table) (inl h) = absurd h
taken b c f read ([] ∷ table) (inr o) = taken b c f read table o
taken b c f read ((r ∷ rs) ∷ table) (inl h) =
    let w : within r b ≡ true = and_from _ _ (le-leb _ _ h.0) (le-leb _ _ h.1) in rw w (or_right _ _ (read rs h.2))
taken b c f read ((r ∷ rs) ∷ table) (inr o) =
    let e = taken b c f read table o in
    cond_both (within r b) (rs ∷ behind b table) (behind b table) (λ fs. any_of f fs ≡ true) (λ _. or_left _ _ e) (λ _. e)

reads : (rs : List Range) (c rest : List ℕ) → InTurn rs c → is_utf8 rest ≡ true → follows rs (c ++ rest) ≡ true
reads [] [] rest h e = e
reads [] (b ∷ c) rest h e = absurd h
reads (r ∷ rs) [] rest h e = absurd h
reads (r ∷ rs) (b ∷ c) rest h e = taken b c (λ left. follows left (c ++ rest)) (λ left k. reads left c rest k e) ((r ∷ rs) ∷ []) (inl h)

complete : {bs : List ℕ} → Octets bs → is_utf8 bs ≡ true
complete none = refl
complete (more [] rest h o) = complete o
complete (more (b ∷ c) rest h o) = taken b c (λ left. follows left (c ++ rest)) (λ left k. reads left c rest k (complete o)) utf8_char h

octets : (bs : List ℕ) → is_utf8 bs ≡ true → Octets bs
octets [] e = none
octets (b ∷ bs) e = joined (b ∷ bs) (begins b bs (λ left. follows left bs) (λ left. sound left bs) utf8_char e)

pub decided : (bs : List ℕ) → Decides (is_utf8 bs) (Octets bs)
decided bs = (octets bs, complete)

-- what `is_utf8` promises of its answer
pub told : (bs : List ℕ) (r : Bool) → r ≡ is_utf8 bs → record { test : r ≡ is_utf8 bs; language : Decides r (Octets bs) }
told bs r e = record { test = e; language = Decides-at r (is_utf8 bs) e (decided bs) }
