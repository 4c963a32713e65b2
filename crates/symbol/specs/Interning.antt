-- An interner by its base and the texts that it holds: what each call answers, and what it leaves.
use Rattle.std.specs.Prelude.{◌≡◌, ℕ, ◌+◌, ◌-◌, min, Bool, cond, not, ◌&&◌, List, [], ◌∷◌, ◌++◌, length, is_ok, Some, None, Ok, Err, Option, Result, ◌==◌, nat_le, nat_lt, slice_index_or}
use Rattle.fault.specs.declared.ServerFault.{ServerFault}
use Rattle.fault.specs.declared.ServerFault.TheVariants.{Server}
use Rattle.fault.specs.declared.ServerWord.{ServerWord}
use Rattle.fault.specs.declared.ServerWord.TheVariants.{Garbled, Stale, NumberedOut, Declined, Unopened}
use Rattle.text.specs.Grammar.{is_utf8}
use Rattle.symbol.specs.declared.Symbol.{Symbol}
use Rattle.symbol.specs.Held.{Limits, holds, place_of, takes}

-- the texts are held in the order in which they came
pub record State : Type 0 where
  pub base : ℕ
  pub held : List (List ℕ)

abbrev pub empty_from : ℕ → State
empty_from base = record { base = base; held = [] }

-- texts of up to 1,024 bytes, up to 1,024 of them, 32,768 bytes in all
abbrev pub limits : Limits
limits = record { longest = 1024; most = 1024; bytes = 32768 }

-- the last number that a symbol can have
abbrev pub top : ℕ
top = 4294967295

-- a direct call's fault has the place 0
abbrev pub refusal : ServerWord → ServerFault
refusal w = Server w 0

abbrev pub symbol_of : ℕ → Symbol
symbol_of n = record { number = n }

-- the symbol of a text that is taken: the base plus its place among those held; a new one's is the base plus their number
abbrev pub given : State → Option ℕ → Result Symbol ServerFault
given s (Some i) = Ok (symbol_of (s.base + i))
given s None = cond (nat_le (s.base + length s.held) top) (Ok (symbol_of (s.base + length s.held))) (Err (refusal NumberedOut))

abbrev pub intern_reply : State → List ℕ → Result Symbol ServerFault
intern_reply s t =
    cond (is_utf8 t) (cond (takes limits s.held t) (given s (place_of t s.held)) (Err (refusal Declined))) (Err (refusal Garbled))

-- a text that was taken and was not held is held behind the others
abbrev pub intern_held : State → List ℕ → List (List ℕ)
intern_held s t = cond (is_ok (intern_reply s t) && not (holds s.held t)) (s.held ++ t ∷ []) s.held

abbrev pub intern_state : State → List ℕ → State
intern_state s t = record { base = s.base; held = intern_held s t }

-- interning a text: the answer, and the state before and after
pub record Interned (before : State) (t : List ℕ) (r : Result Symbol ServerFault) (after : State) : Type 0 where
  pub reply : r ≡ intern_reply before t
  pub state : after ≡ intern_state before t

-- a symbol is live from the base on, for as many numbers as texts are held
abbrev pub live : State → Symbol → Bool
live s y = nat_le s.base y.number && nat_lt y.number (s.base + length s.held)

abbrev pub get_reply : State → Symbol → Result (List ℕ) ServerFault
get_reply s y = cond (live s y) (Ok (slice_index_or s.held (y.number - s.base) [])) (Err (refusal Stale))

-- the base passes the numbers of the texts held, and stops at the last number
abbrev pub clear_state : State → State
clear_state s = empty_from (min (s.base + length s.held) top)

abbrev pub open_reply : ℕ → Result State ServerFault
open_reply base = cond (base == 0) (Err (refusal Unopened)) (Ok (empty_from base))
