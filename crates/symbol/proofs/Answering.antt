-- What interning answers and leaves, by the way that the code takes.
use Rattle.std.proofs.Common.{◌≡◌, ℕ, ◌+◌, ◌<◌, true, false, cond, not, ◌&&◌, leb, List, [], ◌∷◌, ◌++◌, length, get_or, is_some, is_ok, Some, None, Ok, Err, Result, sym, refl, ap, ◌∙◌, arith}
use native.Mathlib.Nat.{sub-zero}
use Rattle.std.proofs.lemmas.Bool.{and_parts, and_from}
use Rattle.fault.specs.declared.ServerFault.{ServerFault}
use Rattle.fault.specs.declared.ServerWord.TheVariants.{Declined}
use Rattle.text.specs.Grammar.{is_utf8}
use Rattle.symbol.specs.declared.Symbol.{Symbol}
use Rattle.symbol.specs.Held.{place_of, holds, fits, takes, allowed, all_allowed}
use Rattle.symbol.specs.Interning.{State, limits, refusal, symbol_of, given, intern_reply, Interned}
use Rattle.symbol.specs.States.{MayAdd, with_text}
use Rattle.symbol.proofs.Holding.{allowed_at}
use Rattle.symbol.proofs.Placing.{found_at, placed_holds}

-- a text that is held, at the place i
module _ (s : State) (t : List ℕ) (i : ℕ) (place : place_of t s.held ≡ Some i) where
  pub held_below : i < length s.held
  held_below = omega (arith, (found_at 0 t s.held i place).below)

  pub held_text : get_or s.held i [] ≡ t
  held_text = ap (λ n. get_or s.held n []) (sym (sub-zero i)) ∙ (found_at 0 t s.held i place).text

  pub holds_it : holds s.held t ≡ true
  holds_it = sym (placed_holds 0 t s.held) ∙ ap is_some place

  pub short_held : all_allowed limits s.held ≡ true → leb (length t) 1024 ≡ true
  short_held all = (and_parts _ _ (ap (allowed limits) (sym held_text) ∙ allowed_at limits s.held i held_below all)).1

  pub reply_held : is_utf8 t ≡ true → leb (length t) 1024 ≡ true → intern_reply s t ≡ Ok (symbol_of (s.base + i))
  reply_held utf8 short = simp (utf8, short, holds_it, place)

  -- the answer for a text that is held
  pub answers_held : is_utf8 t ≡ true → leb (length t) 1024 ≡ true → Interned s t (Ok (symbol_of (s.base + i))) s
  answers_held utf8 short =
      record { reply = sym (reply_held utf8 short); state = simp (utf8, short, holds_it, place) }

pub holds_not : (s : State) (t : List ℕ) → place_of t s.held ≡ None → holds s.held t ≡ false
holds_not s t place = sym (placed_holds 0 t s.held) ∙ ap is_some place

-- a text that is not held
module _ (s : State) (t : List ℕ) (utf8 : is_utf8 t ≡ true) (place : place_of t s.held ≡ None) where
  takes_new : takes limits s.held t ≡ (leb (length t) 1024 && fits limits s.held t)
  takes_new = simp (holds_not s t place)

  -- the text is held if it was answered
  gained : (r : Result Symbol ServerFault) → cond (is_ok r) (with_text s t) s ≡ record { base = s.base; held = cond (is_ok r && not (holds s.held t)) (s.held ++ t ∷ []) s.held }
  gained (Ok y) = simp (holds_not s t place)
  gained (Err fault) = refl

  -- what adding the text asks for
  pub may_be_added : true ≡ (leb (length t) 1024 && fits limits s.held t) → MayAdd s t
  may_be_added room =
      let both = and_parts (leb (length t) 1024) (fits limits s.held t) (sym room) in
      record { allowed = and_from _ _ utf8 both.0; room = both.1; new = holds_not s t place }

  pub answers_declined : false ≡ (leb (length t) 1024 && fits limits s.held t) → Interned s t (Err (refusal Declined)) s
  answers_declined room =
      let declined : takes limits s.held t ≡ false = takes_new ∙ sym room in
      record { reply = sym (simp (utf8, declined)); state = simp (utf8, declined) }

  pub answers_new : true ≡ (leb (length t) 1024 && fits limits s.held t) → (r : Result Symbol ServerFault) → r ≡ given s None → (after : State) → after ≡ cond (is_ok r) (with_text s t) s → Interned s t r after
  answers_new room r e after is =
      let taken : takes limits s.held t ≡ true = takes_new ∙ sym room in
      let reply : r ≡ intern_reply s t = e ∙ sym (simp (utf8, taken, place)) in
      record { reply = reply; state = is ∙ gained r ∙ ap (λ q. record { base = s.base; held = cond (is_ok q && not (holds s.held t)) (s.held ++ t ∷ []) s.held }) reply }

-- what interning a text answers, each way
pub ruleset answering = (held_below, short_held, answers_held, answers_declined, answers_new, may_be_added)
