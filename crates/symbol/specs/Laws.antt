-- What an interner's calls give over every list of further calls.
use Rattle.std.specs.Prelude.{◌≡◌, ℕ, ◌<◌, Bool, true, cond, List, [], ◌∷◌, ◌++◌, length, Ok, Err, fold, Result, slice_index}
use Rattle.fault.specs.declared.ServerFault.{ServerFault}
use Rattle.fault.specs.declared.ServerWord.TheVariants.{Stale}
use Rattle.symbol.specs.declared.Symbol.{Symbol}
use Rattle.symbol.specs.Held.{holds}
use Rattle.symbol.specs.Interning.{State, top, refusal, intern_reply, intern_state, live, get_reply, clear_state}
use Rattle.symbol.specs.Naming.{new_ident_reply, new_ident_state}

-- a call that asks for a symbol: a text to be interned, or a name, raw or not
pub data Call : Type 0 where
  interning : List ℕ → Call
  naming : Bool → List ℕ → Call

abbrev pub text_of : Call → List ℕ
text_of (interning t) = t
text_of (naming raw t) = t

abbrev pub reply_to : State → Call → Result Symbol ServerFault
reply_to s (interning t) = intern_reply s t
reply_to s (naming raw t) = new_ident_reply raw s t

abbrev pub after_call : State → Call → State
after_call s (interning t) = intern_state s t
after_call s (naming raw t) = new_ident_state raw s t

-- the state after some calls in turn, each served or refused
abbrev pub after_calls : State → List Call → State
after_calls s calls = fold after_call s calls

-- a symbol that stands for a text, whatever is asked for before the next clear
pub record StandsFor (s : State) (y : Symbol) (t : List ℕ) : Type 0 where
  -- the symbol reads back as the text
  pub reads : (later : List Call) → get_reply (after_calls s later) y ≡ Ok t
  -- no other text gets the symbol
  pub only : (later : List Call) (call : Call) → reply_to (after_calls s later) call ≡ Ok y → text_of call ≡ t
  -- and the text gets no other
  pub again : (later : List Call) → intern_reply (after_calls s later) t ≡ Ok y

-- the number of a symbol that was answered
abbrev pub answered : Result Symbol ServerFault → List ℕ
answered (Ok y) = y.number ∷ []
answered (Err fault) = []

-- the number that a call gives to a text that is not held
abbrev pub new_number : State → Call → List ℕ
new_number s call = cond (holds s.held (text_of call)) [] (answered (reply_to s call))

-- the numbers that some calls in turn give to new texts
abbrev pub numbers_given : State → List Call → List ℕ
numbers_given s [] = []
numbers_given s (call ∷ calls) = new_number s call ++ numbers_given (after_call s call) calls

-- each number is above all those before it
abbrev pub Rising : List ℕ → Type 0
Rising ns = (i j : ℕ) → i < j → j < length ns → slice_index ns i < slice_index ns j

-- whatever is asked for before the next clear, no number is given to two new texts
abbrev pub NumbersRise : State → Type 0
NumbersRise s = (calls : List Call) → Rising (numbers_given s calls)

-- a call that changes an interner: one that asks for a symbol, or a clear
pub data Step : Type 0 where
  asking : Call → Step
  clearing : Step

abbrev pub after_step : State → Step → State
after_step s (asking call) = after_call s call
after_step s clearing = clear_state s

abbrev pub after_steps : State → List Step → State
after_steps s steps = fold after_step s steps

-- the symbols that were live before a clear are Stale for ever after, but for the one with the last number
abbrev pub Retired : State → State → Type 0
Retired before after =
    (y : Symbol) → live before y ≡ true → y.number < top → (steps : List Step) → get_reply (after_steps after steps) y ≡ Err (refusal Stale)
