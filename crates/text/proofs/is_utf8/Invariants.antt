-- The bytes left may follow in the state exactly if the whole text is UTF-8.
use Rattle.std.proofs.Common.{◌≡◌, drop}
use Rattle.text.specs.Grammar.{is_utf8}
use Rattle.text.proofs.Steps.{takes}
use Rattle.text.proofs.is_utf8.Given as goal

abbrev pub invariant-loop-b : goal.invariant-loop-b
invariant-loop-b l = takes l.state (drop l.b-index l.text) ≡ is_utf8 l.text
