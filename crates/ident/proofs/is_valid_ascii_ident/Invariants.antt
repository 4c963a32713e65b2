-- Each byte so far behind the first may follow.
use Rattle.std.proofs.Common.{◌≡◌, ℕ, ◌<◌, true, get_or}
use Rattle.ident.specs.Classes.{continues, ident_class}
use Rattle.ident.proofs.is_valid_ascii_ident.Given as goal

abbrev pub invariant-loop-b : goal.invariant-loop-b
invariant-loop-b l = (k : ℕ) → k < l.b-index → continues (ident_class (get_or l.rest k 0)) ≡ true
