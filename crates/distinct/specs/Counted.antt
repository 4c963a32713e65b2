-- How many different texts an interner counts, and what its count says.
use Rattle.std.specs.Prelude.{◌≡◌, ℕ, Bool, true, cond, ◌&&◌, List, [], ◌∷◌, length, is_ok, fold}
use Rattle.symbol.specs.Held.{holds, once}
use Rattle.symbol.specs.Interning.{State, empty_from, intern_reply, intern_state}
use Rattle.distinct.specs.declared.DistinctTexts.{DistinctTexts}
use Rattle.distinct.specs.declared.DistinctTexts.TheVariants.{Exactly, AtLeast}

-- the state after some texts were interned in turn, each taken or refused
abbrev pub after_texts : State → List (List ℕ) → State
after_texts s texts = fold intern_state s texts

-- each of the texts is taken as they are interned in turn
abbrev pub all_taken : State → List (List ℕ) → Bool
all_taken s [] = true
all_taken s (t ∷ texts) = is_ok (intern_reply s t) && all_taken (intern_state s t) texts

-- the texts that a new interner holds after it was given all of them
abbrev pub held_of : List (List ℕ) → List (List ℕ)
held_of texts = (after_texts (empty_from 1) texts).held

abbrev pub counted : List (List ℕ) → DistinctTexts
counted texts = cond (all_taken (empty_from 1) texts) (Exactly (length (held_of texts))) (AtLeast (length (held_of texts)))

-- a list of n different texts, each of them among the texts
pub record Among (texts : List (List ℕ)) (n : ℕ) : Type 0 where
  pub list : List (List ℕ)
  pub different : once list ≡ true
  pub within : (t : List ℕ) → holds list t ≡ true → holds texts t ≡ true
  pub many : n ≡ length list

-- and no text is missing in it
pub record Different (texts : List (List ℕ)) (n : ℕ) : Type 0 where
  pub among : Among texts n
  pub whole : (t : List ℕ) → holds texts t ≡ true → holds among.list t ≡ true

-- what a count says of the texts
abbrev pub Counts : List (List ℕ) → DistinctTexts → Type 0
Counts texts (Exactly n) = Different texts n
Counts texts (AtLeast n) = Among texts n
