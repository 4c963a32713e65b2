-- What one byte does to what a state awaits, and what that says of a whole pass.
use Rattle.std.proofs.Common.{◌≡◌, ℕ, ◌+◌, ◌<◌, ◌≤◌, Bool, true, false, List, [], ◌∷◌, length, get_or, drop, sym, refl, ap, ◌∙◌}
use Rattle.std.proofs.lemmas.List.{at_drop_more, at_drop_all}
use Rattle.text.specs.Grammar.{Range, tail, behind, any_of, coming, follows}
use Rattle.text.specs.Machine.{class_of, after}
use Rattle.text.specs.declared.Awaits.{Awaits}
use Rattle.text.specs.declared.Awaits.TheVariants.{Start, One, Two, Three, PastE0, PastEd, PastF0, PastF4, Broken}
use Rattle.text.proofs.Bytes.{all, each_byte}
use Rattle.text.proofs.Same.{same_forms, forms_eq}

-- the ranges of the octets that a state awaits, and then UTF8-octets
abbrev awaited : Awaits → List (List Range)
awaited Start = [] ∷ []
awaited One = (tail ∷ []) ∷ []
awaited Two = (tail ∷ tail ∷ []) ∷ []
awaited Three = (tail ∷ tail ∷ tail ∷ []) ∷ []
awaited PastE0 = ((0xA0, 0xBF) ∷ tail ∷ []) ∷ []
awaited PastEd = ((0x80, 0x9F) ∷ tail ∷ []) ∷ []
awaited PastF0 = ((0x90, 0xBF) ∷ tail ∷ tail ∷ []) ∷ []
awaited PastF4 = ((0x80, 0x8F) ∷ tail ∷ tail ∷ []) ∷ []
awaited Broken = []

-- the texts that may follow in a state
abbrev pub takes : Awaits → List ℕ → Bool
takes s bs = any_of (λ rs. follows rs bs) (awaited s)

-- what may come next in a state
abbrev comings : List (List Range) → List (List Range)
comings [] = []
comings (rs ∷ others) = coming rs

-- the byte k leaves of that what the next state awaits
abbrev leaves : Awaits → ℕ → Bool
leaves s k = same_forms (behind k (comings (awaited s))) (awaited (after s (class_of k)))

cut : (s : Awaits) → all (leaves s) 256 ≡ true → (b : ℕ) (bs : List ℕ) → b < 256 → any_of (λ rs. follows rs bs) (behind b (comings (awaited s))) ≡ takes (after s (class_of b)) bs
cut s e b bs h =
    let k : behind b (comings (awaited s)) ≡ awaited (after s (class_of b)) = forms_eq _ _ (each_byte (leaves s) e b h) in
    ap (any_of (λ rs. follows rs bs)) k

stepped : (s : Awaits) (b : ℕ) (bs : List ℕ) → b < 256 → takes s (b ∷ bs) ≡ takes (after s (class_of b)) bs
stepped Start b bs h = cut Start refl b bs h
stepped One b bs h = cut One refl b bs h
stepped Two b bs h = cut Two refl b bs h
stepped Three b bs h = cut Three refl b bs h
stepped PastE0 b bs h = cut PastE0 refl b bs h
stepped PastEd b bs h = cut PastEd refl b bs h
stepped PastF0 b bs h = cut PastF0 refl b bs h
stepped PastF4 b bs h = cut PastF4 refl b bs h
stepped Broken b bs h = cut Broken refl b bs h

pub turn : (s next : Awaits) (bs : List ℕ) (i : ℕ) (r : Bool) → i < length bs → get_or bs i 0 < 256 → next ≡ after s (class_of (get_or bs i 0)) → takes s (drop i bs) ≡ r → takes next (drop (i + 1) bs) ≡ r
turn s next bs i r h byte e inv =
    ap (λ t. takes t (drop (i + 1) bs)) e ∙ sym (stepped s (get_or bs i 0) (drop (i + 1) bs) byte) ∙ sym (at_drop_more (takes s) bs i 0 h) ∙ inv

pub stopped : (s : Awaits) → (s ≡ Start → ⊥) → takes s [] ≡ false
stopped Start n = absurd (n refl)
stopped One n = refl
stopped Two n = refl
stopped Three n = refl
stopped PastE0 n = refl
stopped PastEd n = refl
stopped PastF0 n = refl
stopped PastF4 n = refl
stopped Broken n = refl

pub ended : (s : Awaits) (bs : List ℕ) (i : ℕ) (end r : Bool) → length bs ≤ i → takes s [] ≡ end → takes s (drop i bs) ≡ r → end ≡ r
ended s bs i end r h e inv = sym e ∙ sym (at_drop_all (takes s) bs i h) ∙ inv
