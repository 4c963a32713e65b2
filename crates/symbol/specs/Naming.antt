-- A name made into a symbol: what is answered, and what it leaves.
use Rattle.std.specs.Prelude.{◌≡◌, ℕ, Bool, cond, List, is_ok, Ok, Err, Some, None, Option, Result}
use Rattle.fault.specs.declared.ServerFault.{ServerFault}
use Rattle.fault.specs.declared.ServerWord.TheVariants.{Garbled}
use Rattle.ident.specs.Idents.{ident_reply}
use Rattle.text.specs.Grammar.{is_utf8}
use Rattle.symbol.specs.declared.Symbol.{Symbol}
use Rattle.symbol.specs.Interning.{State, refusal, intern_reply, intern_state}

-- a fault, or else what comes behind
abbrev pub unless_refused : Result (Unit {0}) ServerFault → Result Symbol ServerFault → Result Symbol ServerFault
unless_refused (Ok u) r = r
unless_refused (Err fault) r = Err fault

-- Garbled comes first, then what a check refused the text for, then what interning it is refused for
abbrev pub checked_reply : Result (Unit {0}) ServerFault → State → List ℕ → Result Symbol ServerFault
checked_reply check s t = cond (is_utf8 t) (unless_refused check (intern_reply s t)) (Err (refusal Garbled))

-- what the check of a name answers, raw or not; a text that need be no name passes
abbrev pub name_reply : Option Bool → List ℕ → Result (Unit {0}) ServerFault
name_reply None t = Ok tt
name_reply (Some raw) t = ident_reply raw t

-- a name
abbrev pub new_ident_reply : Bool → State → List ℕ → Result Symbol ServerFault
new_ident_reply raw s t = checked_reply (ident_reply raw t) s t

-- a name that is served is interned, and a refusal leaves all as it was
abbrev pub new_ident_state : Bool → State → List ℕ → State
new_ident_state raw s t = cond (is_ok (new_ident_reply raw s t)) (intern_state s t) s

pub record NewIdent (raw : Bool) (before : State) (t : List ℕ) (r : Result Symbol ServerFault) (after : State) : Type 0 where
  pub reply : r ≡ new_ident_reply raw before t
  pub state : after ≡ new_ident_state raw before t
