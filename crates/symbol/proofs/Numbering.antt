-- Numbers rise from one new text to the next, and those from before a clear do not come again, but for the last.
use Rattle.std.proofs.Common.{◌≡◌, ℕ, zero, suc, ◌+◌, ◌<◌, ◌≤◌, false, not, ◌&&◌, ltb, leb, ◌⊎◌, List, [], ◌∷◌, ◌++◌, length, get_or, is_ok, Ok, Err, Result, sym, refl, ap, ◌∙◌, subst, inl, inr, ⊎_elim, arith}
use Rattle.std.proofs.lemmas.List.{length_push}
use Rattle.std.proofs.lemmas.Bool.{and_parts, ltb-true, lt-leb, and_left, cond-true, cond_both}
use Rattle.fault.specs.declared.ServerFault.{ServerFault}
use Rattle.fault.specs.declared.ServerWord.TheVariants.{Stale}
use Rattle.symbol.specs.declared.Symbol.{Symbol}
use Rattle.symbol.specs.Held.{holds}
use Rattle.symbol.specs.Interning.{State, top, refusal, intern_reply, intern_held, intern_state, live, get_reply, clear_state}
use Rattle.symbol.specs.Laws.{Call, interning, naming, text_of, reply_to, after_call, answered, new_number, numbers_given, Rising, NumbersRise, Step, asking, clearing, after_steps, Retired}
use Rattle.symbol.specs.Naming.{new_ident_reply}
use Rattle.symbol.proofs.Standing.{asked, new_number_lem, held_after}

-- each number is at least n and above those before it
abbrev RisingFrom : ℕ → List ℕ → Type 0
RisingFrom n [] = Unit {0}
RisingFrom n (x ∷ xs) = (n ≤ x) × RisingFrom (x + 1) xs

lower : (m n : ℕ) (xs : List ℕ) → m ≤ n → RisingFrom n xs → RisingFrom m xs
lower m n [] h r = tt
lower m n (x ∷ xs) h r = (omega (arith, r.0), r.1)

from_at : (n : ℕ) (xs : List ℕ) → RisingFrom n xs → (j : ℕ) → j < length xs → n ≤ get_or xs j 0
from_at n [] r j h = absurd (omega arith)
from_at n (x ∷ xs) r zero h = r.0
from_at n (x ∷ xs) r (suc j) h = omega (arith, r.0, from_at (x + 1) xs r.1 j (omega arith))

rises : (n : ℕ) (xs : List ℕ) → RisingFrom n xs → Rising xs
rises n [] r i j h k = absurd (omega arith)
rises n (x ∷ xs) r i zero h k = absurd (omega arith)
rises n (x ∷ xs) r zero (suc j) h k = omega (arith, from_at (x + 1) xs r.1 j (omega arith))
rises n (x ∷ xs) r (suc i) (suc j) h k = rises (x + 1) xs r.1 i j (omega arith) (omega arith)

held_grows : (s : State) (t : List ℕ) → length s.held ≤ length (intern_held s t)
held_grows s t =
    cond_both (is_ok (intern_reply s t) && not (holds s.held t)) (s.held ++ t ∷ []) s.held (λ h. length s.held ≤ length h) (λ _. omega (arith, length_push s.held t)) (λ _. omega arith)

-- a call keeps the base, and forgets no text
record Kept (before after : State) : Type 0 where
  base : after.base ≡ before.base
  many : length before.held ≤ length after.held

kept : (s : State) (call : Call) → Kept s (after_call s call)
kept s (interning t) = record { base = refl; many = held_grows s t }
kept s (naming raw t) =
    cond_both (is_ok (new_ident_reply raw s t)) (intern_state s t) s (Kept s) (λ _. record { base = refl; many = held_grows s t }) (λ _. record { base = refl; many = omega arith })

-- a call that is served leaves what interning its text leaves
interned : (s : State) (call : Call) (y : Symbol) → reply_to s call ≡ Ok y → after_call s call ≡ intern_state s (text_of call)
interned s (interning t) y h = refl
interned s (naming raw t) y h = cond-true _ _ _ (ap is_ok h)

-- what a call gives to a new text: nothing, or the next number
abbrev OneNumber : State → Call → List ℕ → Type 0
OneNumber s call ns = (ns ≡ []) ⊎ ((ns ≡ (s.base + length s.held) ∷ []) × (length (after_call s call).held ≡ length s.held + 1))

by_reply : (s : State) (call : Call) (r : Result Symbol ServerFault) → reply_to s call ≡ r → holds s.held (text_of call) ≡ false → OneNumber s call (answered r)
by_reply s call (Ok y) served new =
    let t = text_of call in
    let interns = asked s call y served in
    inr (ap (λ n. n ∷ []) (new_number_lem s t y interns new), ap (λ a. length a.held) (interned s call y served) ∙ ap length (held_after s t y false interns new) ∙ length_push s.held t)
by_reply s call (Err fault) refused new = inl refl

one_number : (s : State) (call : Call) → OneNumber s call (new_number s call)
one_number s call =
    cond_both (holds s.held (text_of call)) [] (answered (reply_to s call)) (OneNumber s call) (λ _. inl refl) (by_reply s call (reply_to s call) refl)

rising_given : (s : State) (calls : List Call) → RisingFrom (s.base + length s.held) (numbers_given s calls)
rising_given s [] = tt
rising_given s (call ∷ calls) =
    let n = s.base + length s.held in
    let next = after_call s call in
    let rest = numbers_given next calls in
    let later : RisingFrom (next.base + length next.held) rest = rising_given next calls in
    let k = kept s call in
    ⊎_elim
    (λ none. subst (λ ns. RisingFrom n (ns ++ rest)) (sym none) (lower _ _ rest (omega (arith, k.base, k.many)) later))
    (λ one. subst (λ ns. RisingFrom n (ns ++ rest)) (sym one.0) (omega arith, lower _ _ rest (omega (arith, k.base, one.1)) later))
    (one_number s call)

pub numbers_rise : (s : State) → NumbersRise s
numbers_rise s calls = rises (s.base + length s.held) (numbers_given s calls) (rising_given s calls)

-- a symbol below the base
below_base : (s : State) (y : Symbol) → y.number < s.base → s.base ≤ top → (steps : List Step) → get_reply (after_steps s steps) y ≡ Err (refusal Stale)
below_base s y h k [] =
    let dead : live s y ≡ false = and_left _ _ (lt-leb s.base y.number h) in simp dead
below_base s y h k (asking call ∷ steps) =
    let same = (kept s call).base in
    below_base (after_call s call) y (omega (arith, same)) (omega (arith, same)) steps
below_base s y h k (clearing ∷ steps) = below_base (clear_state s) y (omega arith) (omega arith) steps

pub retired : (s after : State) → after ≡ clear_state s → Retired s after
retired s after e y alive h steps =
    let below : y.number < s.base + length s.held = ltb-true y.number (s.base + length s.held) (and_parts (leb s.base y.number) (ltb y.number (s.base + length s.held)) alive).1 in
    ap (λ a. get_reply (after_steps a steps) y) e ∙ below_base (clear_state s) y (omega (arith, below)) (omega arith) steps
