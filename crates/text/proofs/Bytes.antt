-- A fact about every byte, by one test that antt computes at each of the 256.
use Rattle.std.proofs.Common.{◌≡◌, ℕ, zero, suc, ◌<◌, Bool, true, ◌&&◌, eqb, refl}
use lib.Count.{count_leading_zeros}
use Rattle.std.proofs.lemmas.Bool.{eqb-true}
use Rattle.std.proofs.lemmas.Bool.Decides.{Decides-below_and}
use Rattle.text.specs.Machine.{head_zeros}

abbrev pub all : (ℕ → Bool) → ℕ → Bool
all p zero = true
all p (suc n) = p n && all p n

pub each_byte : (p : ℕ → Bool) → all p 256 ≡ true → (b : ℕ) → b < 256 → p b ≡ true
each_byte p e = (Decides-below_and p (λ k. p k ≡ true) (all p) (λ k. (λ h. h, λ h. h)) refl (λ _. refl) 256).0 e

pub heads : (b : ℕ) → b < 256 → count_leading_zeros 8 b ≡ head_zeros b
unfolding count_leading_zeros
heads b h = eqb-true _ _ (each_byte (λ k. eqb (count_leading_zeros 8 k) (head_zeros k)) refl b h)
