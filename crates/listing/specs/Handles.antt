-- Different numbers: how many there are in a list, and a set that holds them.
use Rattle.std.specs.Prelude.{◌≡◌, ℕ, Bool, List, ◌++◌, length, nat_eq}
use Rattle.std.specs.List.{IsDistinct}
use Rattle.std.specs.Set.{is_member, unique_keys}
use Rattle.std.specs.BTreeSet.{BTreeSet, IsOrdered, contains, btree_set_len}
use Rattle.std.specs.Ordering.{nat_cmp}

abbrev pub member : ℕ → List ℕ → Bool
member q xs = is_member nat_eq xs q

-- each number once, where it stands last
abbrev pub distinct : List ℕ → List ℕ
distinct xs = unique_keys nat_eq xs

abbrev pub NoRepeats : List ℕ → Type 0
NoRepeats xs = IsDistinct nat_eq xs

-- n is how many different numbers the list has: so long is a list of the same numbers with no repeats
pub record Different (xs : List ℕ) (n : ℕ) : Type 0 where
  pub once : List ℕ
  pub norepeats : NoRepeats once
  pub same : (q : ℕ) → member q once ≡ member q xs
  pub many : n ≡ length once

-- the set holds the numbers of the list
pub record Holds (s : BTreeSet ℕ) (xs : List ℕ) : Type 0 where
  pub ordered : IsOrdered nat_cmp s
  pub members : (q : ℕ) → contains nat_cmp s q ≡ member q xs
  pub many : btree_set_len s ≡ length (distinct xs)

-- a set after it took more numbers
abbrev pub Noted : BTreeSet ℕ → BTreeSet ℕ → List ℕ → Type 0
Noted before after more = (xs : List ℕ) → Holds before xs → Holds after (xs ++ more)
