-- The library's test for ASCII answers whether each byte is below 128.
use Rattle.std.proofs.Common.{◌≡◌, ℕ, ◌<◌, ◌≤◌, Bool, true, false, ltb, List, length, get_or, IsAscii, MatchBool, ap, ◌∙◌, arith}
use Rattle.std.specs.Str.{IsNotAscii}
use Rattle.std.proofs.lemmas.Bool.{lt-ltb, le-ltb}
use Rattle.std.proofs.lemmas.Grind.{get_or_default_zero}
use Rattle.std.proofs.lemmas.List.{get_or_past}
use Rattle.std.proofs.lemmas.List.Folds.{list_all_at}
use Rattle.std.proofs.lemmas.List.Sums.{list_all-from_AllPass}
use Rattle.ident.specs.Idents.{is_ascii}

-- a byte that is not 0 stands within the text
within : (bs : List ℕ) (i : ℕ) → 128 ≤ get_or bs i 0 → i < length bs
within bs i h = grind (arith, get_or_past)

pub told : (bs : List ℕ) (r : Bool) → MatchBool r (IsAscii bs) (IsNotAscii bs) → is_ascii bs ≡ r
told bs true h = list_all-from_AllPass (λ b. ltb b 128) bs (λ k d l. ap (λ b. ltb b 128) (get_or_default_zero bs k d l) ∙ lt-ltb _ _ (h k))
told bs false h = list_all_at (λ b. ltb b 128) bs h.0 0 (within bs h.0 h.1) (le-ltb _ _ h.1)
