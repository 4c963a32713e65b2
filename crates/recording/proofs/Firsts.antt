-- The place of the first byte that passes a test, or the length where none does.
use Rattle.std.proofs.Common.{◌≡◌, ℕ, Bool, List, length, Option, unwrap_or, arith}
use Rattle.std.specs.List.{position_or_len, position}
use Rattle.std.proofs.lemmas.List.Sums.{prefix_len-le-length}
use Rattle.std.proofs.lemmas.Grind.{common_steps}

pub or_end : (test : ℕ → Bool) (xs : List ℕ) (r : Option ℕ) → r ≡ position test xs → unwrap_or r (length xs) ≡ position_or_len test xs
or_end test xs r e = grind (arith, common_steps, prefix_len-le-length)
