-- A fact about every byte, by one test that antt computes at each of the 256: its two digits are read as the byte.
use Rattle.std.proofs.Common.{◌≡◌, ℕ, zero, suc, ◌+◌, ◌*◌, ◌/◌, ◌%◌, ◌<◌, Bool, true, ◌&&◌, eqb, unwrap_or, refl}
use Rattle.std.proofs.lemmas.Bool.{and_parts, eqb-true}
use Rattle.std.proofs.lemmas.Bool.Decides.{Decides-below_and}
use Rattle.recording.specs.Format.{digit_of, is_digit}
use Rattle.recording.specs.Written.{digit}

abbrev all : (ℕ → Bool) → ℕ → Bool
all p zero = true
all p (suc n) = p n && all p n

abbrev high : ℕ → ℕ
high b = digit (b / 16)

abbrev low : ℕ → ℕ
low b = digit (b % 16)

abbrev joined : ℕ → ℕ
joined b = 16 * unwrap_or (digit_of (high b)) 0 + unwrap_or (digit_of (low b)) 0

abbrev good : ℕ → Bool
good b = (is_digit (high b) && is_digit (low b)) && eqb (joined b) b

each_byte : (b : ℕ) → b < 256 → good b ≡ true
each_byte = (Decides-below_and good (λ k. good k ≡ true) (all good) (λ k. (λ h. h, λ h. h)) refl (λ _. refl) 256).0 refl

pub read_back : (b : ℕ) → b < 256 → (is_digit (high b) ≡ true) × (is_digit (low b) ≡ true) × (joined b ≡ b)
read_back b h =
    let both = and_parts _ _ (each_byte b h) in
    let digits = and_parts _ _ both.0 in
    (digits.0, digits.1, eqb-true _ _ both.1)
