-- A number of k bytes, the lowest first: what is read of it, what is written, and that the two undo each other.
use Rattle.std.proofs.Common.{◌≡◌, ℕ, zero, suc, ◌+◌, ◌*◌, ◌/◌, ◌%◌, ◌^◌, ◌<◌, ◌≤◌, Bool, true, false, cond, leb, List, [], ◌∷◌, length, get_or, take, drop, Ok, Err, sym, refl, ap, ◌∙◌, pow-suc, arith}
use Rattle.std.proofs.lemmas.List.{drop_more}
use Rattle.std.proofs.lemmas.Bool.{le-leb, leb-true}
use Rattle.std.proofs.lemmas.Nat.{div_below}
use Rattle.fault.specs.declared.ByteFault.{ByteFault}
use Rattle.rpc.specs.Wire.{number, number_at}
use Rattle.rpc.specs.Laws.{le, Bytes}

-- k bytes from the offset at, one by one
abbrev pub bytes_at : ℕ → List ℕ → ℕ → ℕ
bytes_at zero bs at = 0
bytes_at (suc k) bs at = get_or bs at 0 + 256 * bytes_at k bs (at + 1)

number_at_lem : (k : ℕ) (bs : List ℕ) (at : ℕ) → at + k ≤ length bs → number (take k (drop at bs)) ≡ bytes_at k bs at
number_at_lem zero bs at h = refl
number_at_lem (suc k) bs at h =
    ap (λ l. number (take (suc k) l)) (drop_more bs at 0 (omega arith)) ∙ ap (λ m. get_or bs at 0 + 256 * m) (number_at_lem k bs (at + 1) (omega arith))

pub length_le : (k n : ℕ) → length (le k n) ≡ k
length_le zero n = refl
length_le (suc k) n = ap suc (length_le k (n / 256))

pub number_le : (k n : ℕ) → n < 256 ^ k → number (le k n) ≡ n
number_le zero n h = omega arith
number_le (suc k) n h =
    let below : n < 256 ^ k * 256 = rw (sym (pow-suc 256 k)) h in
    let ih = number_le k (n / 256) (div_below n 256 (256 ^ k) (omega arith) below) in
    omega (arith, ih)

pub le_number : (bs : List ℕ) → Bytes bs → le (length bs) (number bs) ≡ bs
le_number [] h = refl
le_number (b ∷ bs) h =
    let small : b < 256 = h 0 in
    let low : (b + 256 * number bs) % 256 ≡ b = omega arith in
    let high : (b + 256 * number bs) / 256 ≡ number bs = omega arith in
    let ih = le_number bs (λ k. h (suc k)) in
    cc

pub number_below : (bs : List ℕ) → Bytes bs → number bs < 256 ^ length bs
number_below [] h = omega arith
number_below (b ∷ bs) h =
    let small : b < 256 = h 0 in
    let ih = number_below bs (λ k. h (suc k)) in
    rw (pow-suc 256 (length bs)) (omega arith)

module _ {X : Type 0} where
  -- a test that was passed, from its answer
  pub passed : (b : Bool) (x y : X) (f : ByteFault) → cond b (Ok x) (Err f) ≡ Ok y → (b ≡ true) × (x ≡ y)
  passed true x y f e = (refl, cc)
  passed false x y f e = let z : ◌≡◌ {A = ℕ} 0 1 = cc in absurd (omega arith)

-- what a number that was read is, and where it ends
pub number_end : (k : ℕ) (bs : List ℕ) (at n end : ℕ) → number_at k bs at ≡ Ok (n, end) → (at + k ≤ length bs) × (n ≡ number (take k (drop at bs))) × (end ≡ at + k)
number_end k bs at n end e =
    let p = passed (leb (at + k) (length bs)) (number (take k (drop at bs)), at + k) (n, end) _ e in
    (leb-true (at + k) (length bs) p.0, sym (ap (λ q. q.0) p.1), sym (ap (λ q. q.1) p.1))
