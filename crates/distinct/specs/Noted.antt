-- Texts given to an interner in turn, and whether it took each of them.
use Rattle.std.specs.Prelude.{◌≡◌, ℕ, ◌&&◌, List}
use Rattle.distinct.specs.declared.Noting.{Noting}
use Rattle.distinct.specs.Counted.{after_texts, all_taken}

-- interning some texts in turn: the state before and after, and whether each text up to then was taken
pub record Noted (before : Noting) (texts : List (List ℕ)) (after : Noting) : Type 0 where
  pub state : after.interner ≡ after_texts before.interner texts
  pub taken : after.took_all ≡ (before.took_all && all_taken before.interner texts)
