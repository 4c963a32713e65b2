-- A symbol that was answered stands for its text, whatever is interned later.
use Rattle.std.proofs.Common.{◌≡◌, ℕ, ◌+◌, ◌-◌, Bool, true, false, cond, not, ◌&&◌, leb, List, [], ◌∷◌, ◌++◌, length, get_or, is_ok, IfOk, Some, None, Ok, Err, Option, Result, sym, refl, ap, ◌∙◌, subst, zero-add, arith}
use Rattle.std.proofs.lemmas.Bool.{and_parts, and_from, both_ways, le-leb, lt-ltb, cond_both}
use Rattle.fault.specs.declared.ServerFault.{ServerFault}
use Rattle.fault.specs.declared.ServerWord.TheVariants.{Garbled, Declined, NumberedOut}
use Rattle.ident.specs.Idents.{ident_reply}
use Rattle.text.specs.Grammar.{is_utf8}
use Rattle.symbol.specs.declared.Symbol.{Symbol}
use Rattle.symbol.specs.Held.{place_of, holds, takes}
use Rattle.symbol.specs.Interning.{State, limits, top, refusal, symbol_of, given, intern_reply, intern_held, intern_state, Interned, live, get_reply}
use Rattle.symbol.specs.Laws.{Call, interning, naming, text_of, reply_to, after_call, after_calls, StandsFor}
use Rattle.symbol.specs.Naming.{unless_refused, new_ident_reply}
use Rattle.symbol.proofs.Answering.{held_below, held_text, reply_held, holds_not, holds_it}
use Rattle.symbol.proofs.Placing.{stays_placed, placed_last}

-- the text stands at the place k of a state, and is one that is taken
pub record Placed (s : State) (t : List ℕ) (b k : ℕ) : Type 0 where
  pub base : s.base ≡ b
  pub place : place_of t s.held ≡ Some k
  pub utf8 : is_utf8 t ≡ true
  pub short : leb (length t) 1024 ≡ true

-- an answer behind a test
passes : (b : Bool) (x : Result Symbol ServerFault) (e : ServerFault) (y : Symbol) → cond b x (Err e) ≡ Ok y → (b ≡ true) × (x ≡ Ok y)
passes true x e y h = (refl, h)
passes false x e y h = cc

abbrev number_in : Result Symbol ServerFault → ℕ
number_in (Ok y) = y.number
number_in (Err fault) = 0

same_number : (m n : ℕ) → ◌≡◌ {A = Result Symbol ServerFault} (Ok (symbol_of m)) (Ok (symbol_of n)) → m ≡ n
same_number m n e = ap number_in e

-- what a served text was
record Taken (s : State) (t : List ℕ) (y : Symbol) : Type 0 where
  utf8 : is_utf8 t ≡ true
  short : leb (length t) 1024 ≡ true
  symbol : given s (place_of t s.held) ≡ Ok y

taken : (s : State) (t : List ℕ) (y : Symbol) → intern_reply s t ≡ Ok y → Taken s t y
taken s t y h =
    let outer = passes (is_utf8 t) (cond (takes limits s.held t) (given s (place_of t s.held)) (Err (refusal Declined))) (refusal Garbled) y h in
    let inner = passes (takes limits s.held t) (given s (place_of t s.held)) (refusal Declined) y outer.1 in
    record { utf8 = outer.0; short = (and_parts _ _ inner.0).0; symbol = inner.1 }

pub held_after : (s : State) (t : List ℕ) (y : Symbol) (b : Bool) → intern_reply s t ≡ Ok y → holds s.held t ≡ b → intern_held s t ≡ cond (not b) (s.held ++ t ∷ []) s.held
held_after s t y b served e =
    ap (λ r. cond (is_ok r && not (holds s.held t)) (s.held ++ t ∷ []) s.held) served ∙ ap (λ h. cond (not h) (s.held ++ t ∷ []) s.held) e

-- a new text has the next number
next_number : (s : State) (t : List ℕ) (y : Symbol) (o : Option ℕ) → place_of t s.held ≡ o → holds s.held t ≡ false → given s o ≡ Ok y → y.number ≡ s.base + length s.held
next_number s t y (Some i) e new h = absurd (both_ways _ new (holds_it s t i e))
next_number s t y None e new h =
    sym (ap number_in (passes (leb (s.base + length s.held) top) (Ok (symbol_of (s.base + length s.held))) (refusal NumberedOut) y h).1)

pub new_number_lem : (s : State) (t : List ℕ) (y : Symbol) → intern_reply s t ≡ Ok y → holds s.held t ≡ false → y.number ≡ s.base + length s.held
new_number_lem s t y served new = next_number s t y (place_of t s.held) refl new (taken s t y served).symbol

-- what is taken stays at its place
one_text : (s : State) (t u : List ℕ) (b k : ℕ) → Placed s t b k → Placed (intern_state s u) t b k
one_text s t u b k p =
    record {
      base = p.base;
      place = cond_both (is_ok (intern_reply s u) && not (holds s.held u)) (s.held ++ u ∷ []) s.held (λ h. place_of t h ≡ Some k) (λ _. stays_placed 0 t s.held (u ∷ []) k p.place) (λ _. p.place);
      utf8 = p.utf8;
      short = p.short;
    }

one_call : (s : State) (t : List ℕ) (call : Call) (b k : ℕ) → Placed s t b k → Placed (after_call s call) t b k
one_call s t (interning u) b k p = one_text s t u b k p
one_call s t (naming raw u) b k p =
    cond_both (is_ok (new_ident_reply raw s u)) (intern_state s u) s (λ s'. Placed s' t b k) (λ _. one_text s t u b k p) (λ _. p)

all_later : (s : State) (t : List ℕ) (b k : ℕ) → Placed s t b k → (later : List Call) → Placed (after_calls s later) t b k
all_later s t b k p [] = p
all_later s t b k p (call ∷ later) = all_later (after_call s call) t b k (one_call s t call b k p) later

-- a name that is served is interned
named : (r : Result (Unit {0}) ServerFault) (x : Result Symbol ServerFault) (y : Symbol) → unless_refused r x ≡ Ok y → x ≡ Ok y
named (Ok u) x y h = h
named (Err fault) x y h = cc

pub asked : (s : State) (call : Call) (y : Symbol) → reply_to s call ≡ Ok y → intern_reply s (text_of call) ≡ Ok y
asked s (interning t) y h = h
asked s (naming raw t) y h =
    named (ident_reply raw t) (intern_reply s t) y (passes (is_utf8 t) (unless_refused (ident_reply raw t) (intern_reply s t)) (refusal Garbled) y h).1

module _ (s : State) (t : List ℕ) (b k : ℕ) (p : Placed s t b k) where
  pub reads_back : get_reply s (symbol_of (b + k)) ≡ Ok t
  reads_back =
      let below = held_below s t k p.place in
      let alive : live s (symbol_of (b + k)) ≡ true = and_from _ _ (le-leb s.base (b + k) (omega (arith, p.base))) (lt-ltb (b + k) (s.base + length s.held) (omega (arith, p.base))) in
      let at : b + k - s.base ≡ k = omega (arith, p.base) in
      simp (alive, at, held_text s t k p.place)

  pub is_again : intern_reply s t ≡ Ok (symbol_of (b + k))
  is_again = reply_held s t k p.place p.utf8 p.short ∙ ap (λ n. Ok (symbol_of (n + k))) p.base

  -- no other text has the number
  other : (u : List ℕ) (o : Option ℕ) → place_of u s.held ≡ o → given s o ≡ Ok (symbol_of (b + k)) → u ≡ t
  other u (Some j) e h =
      let n : s.base + j ≡ b + k = same_number _ _ h in
      let same : j ≡ k = omega (arith, p.base) in
      sym (held_text s u j e) ∙ ap (λ m. get_or s.held m []) same ∙ held_text s t k p.place
  other u None e h =
      let n : s.base + length s.held ≡ b + k = same_number _ _ (passes (leb (s.base + length s.held) top) _ (refusal NumberedOut) _ h).1 in
      absurd (omega (arith, p.base, held_below s t k p.place))

  pub is_only : (u : List ℕ) → intern_reply s u ≡ Ok (symbol_of (b + k)) → u ≡ t
  is_only u h = other u (place_of u s.held) refl (taken s u _ h).symbol

-- an answer places its text
placed_by : (s : State) (t : List ℕ) (y : Symbol) (o : Option ℕ) → intern_reply s t ≡ Ok y → place_of t s.held ≡ o → given s o ≡ Ok y → (k : ℕ) × (Ok (symbol_of (s.base + k)) ≡ intern_reply s t) × Placed (intern_state s t) t s.base k
placed_by s t y (Some k) served e h =
    let was = taken s t y served in
    let unchanged : intern_held s t ≡ s.held = held_after s t y true served (holds_it s t k e) in
    (k, h ∙ sym served, record { base = refl; place = ap (place_of t) unchanged ∙ e; utf8 = was.utf8; short = was.short })
placed_by s t y None served e h =
    let was = taken s t y served in
    let gained : intern_held s t ≡ s.held ++ t ∷ [] = held_after s t y false served (holds_not s t e) in
    let numbered = passes (leb (s.base + length s.held) top) (Ok (symbol_of (s.base + length s.held))) (refusal NumberedOut) y h in
    (length s.held, numbered.1 ∙ sym served, record { base = refl; place = ap (place_of t) gained ∙ placed_last 0 t s.held e ∙ ap Some (zero-add (length s.held)); utf8 = was.utf8; short = was.short })

stands_at : (s : State) (t : List ℕ) (b k : ℕ) → Placed s t b k → StandsFor s (symbol_of (b + k)) t
stands_at s t b k p =
    record {
      reads = λ later. reads_back (after_calls s later) t b k (all_later s t b k p later);
      only = λ later call h. is_only (after_calls s later) t b k (all_later s t b k p later) (text_of call) (asked (after_calls s later) call _ h);
      again = λ later. is_again (after_calls s later) t b k (all_later s t b k p later);
    }

stands : (s : State) (t : List ℕ) (y : Symbol) → intern_reply s t ≡ Ok y → StandsFor (intern_state s t) y t
stands s t y served =
    let p = placed_by s t y (place_of t s.held) served refl (taken s t y served).symbol in
    let same : symbol_of (s.base + p.0) ≡ y = cc (p.1 ∙ served) in
    subst (λ z. StandsFor (intern_state s t) z t) same (stands_at (intern_state s t) t s.base p.0 p.2)

-- so after any call
pub stands_after : (s : State) (t : List ℕ) (r : Result Symbol ServerFault) (after : State) → Interned s t r after → IfOk r (λ y. StandsFor after y t)
stands_after s t (Ok y) after it = subst (λ z. StandsFor z y t) (sym it.state) (stands s t y (sym it.reply))
stands_after s t (Err fault) after it = tt
