-- Lines: the parts that `split` gives, and how long a line is that gives an entry.
use Rattle.std.proofs.Common.{◌≡◌, ℕ, ◌+◌, ◌*◌, ◌%◌, ◌<◌, ◌≤◌, ◌⊎◌, Bool, true, false, cond, eqb, ltb, List, [], ◌∷◌, ◌++◌, length, take, drop, Some, None, codes, Option, count_by, sum_by, refl, sym, ap, ◌∙◌, subst, inl, inr, arith, length-drop}
use Rattle.std.specs.List.{slice_split}
use Rattle.std.specs.Str.{bytes_eq}
use Rattle.std.proofs.lemmas.List.Sums.{sum_by-cons}
use Rattle.recording.specs.declared.Kind.{Kind}
use Rattle.recording.specs.declared.LineFault.TheVariants.{NotHex, OddHex}
use Rattle.recording.specs.Format.{Meaning, passed, value, bad, hex_length, paired, spelled, value_of, behind, kind_named, word_length, is_passed, line_of}
use Rattle.listing.specs.Entries.{in_front, lines_of, given, is_value, entries_from, entries}

-- the parts that `split` gives at each 0A
abbrev pub parts : List ℕ → List (List ℕ)
parts file = slice_split (λ b. eqb b 10) file

in_front_last : (b : ℕ) (lines : List (List ℕ)) → (in_front b (lines ++ [] ∷ []) ≡ in_front b lines) ⊎ (in_front b (lines ++ [] ∷ []) ≡ in_front b lines ++ [] ∷ [])
in_front_last b [] = inl refl
in_front_last b (l ∷ ls) = inr refl

-- the parts are the lines, or those and an empty one
abbrev Parted : List (List ℕ) → List (List ℕ) → Type 0
Parted parts lines = (parts ≡ lines) ⊎ (parts ≡ lines ++ [] ∷ [])

newline : (parts lines : List (List ℕ)) → Parted parts lines → Parted ([] ∷ parts) ([] ∷ lines)
newline parts lines (inl e) = inl (ap (λ x. [] ∷ x) e)
newline parts lines (inr e) = inr (ap (λ x. [] ∷ x) e)

inside : (b : ℕ) (parts lines : List (List ℕ)) → Parted parts lines → Parted (in_front b parts) (in_front b lines)
inside b parts lines (inl e) = inl (ap (in_front b) e)
inside b parts lines (inr e) = subst (λ x. Parted (in_front b x) (in_front b lines)) (sym e) (in_front_last b lines)

parted : (file : List ℕ) → Parted (parts file) (lines_of file)
parted [] = inr refl
parted (b ∷ rest) =
    elim (eqb b 10) as (λ t. Parted (cond t ([] ∷ parts rest) (in_front b (parts rest))) (cond t ([] ∷ lines_of rest) (in_front b (lines_of rest))))
    [ true ↦ newline _ _ (parted rest) | false ↦ inside b _ _ (parted rest) ]

-- an empty line at the end gives nothing
last_empty : (place number : ℕ) (lines : List (List ℕ)) → entries_from place number (lines ++ [] ∷ []) ≡ entries_from place number lines
last_empty place number [] = refl
last_empty place number (l ∷ ls) =
    ap (λ x. given place number (line_of l) ++ x) (last_empty (place + 1) (number + count_by is_value (given place number (line_of l))) ls)

alike : (parts lines : List (List ℕ)) → Parted parts lines → entries_from 1 1 parts ≡ entries_from 1 1 lines
alike parts lines (inl e) = ap (entries_from 1 1) e
alike parts lines (inr e) = ap (entries_from 1 1) e ∙ last_empty 1 1 lines

-- the parts give what the lines give
pub entries_parts : (file : List ℕ) → entries_from 1 1 (parts file) ≡ entries file
entries_parts file = alike _ _ (parted file)

longer : (b : ℕ) (parts : List (List ℕ)) → sum_by length (in_front b parts) ≡ 1 + sum_by length parts
longer b [] = refl
longer b (p ∷ ps) = omega (arith, sum_by-cons length (b ∷ p) ps, sum_by-cons length p ps)

-- together the parts are no longer than the file
pub lengths : (file : List ℕ) → sum_by length (parts file) ≤ length file
lengths [] = omega arith
lengths (b ∷ rest) =
    elim (eqb b 10) as (λ t. sum_by length (cond t ([] ∷ parts rest) (in_front b (parts rest))) ≤ length (b ∷ rest))
    [ true ↦ omega (arith, sum_by-cons length [] (parts rest), lengths rest) | false ↦ omega (arith, longer b (parts rest), lengths rest) ]

-- how long a line is at least: a value's holds more than its bytes
abbrev pub Long : Meaning → ℕ → Type 0
Long passed n = Unit {0}
Long (value kind bytes) n = 2 + length bytes ≤ n
Long (bad fault) n = 1 ≤ n

either : (t : Bool) (a b : Meaning) (n : ℕ) → Long a n → Long b n → Long (cond t a b) n
either true a b n h k = h
either false a b n h k = k

halved : (text : List ℕ) → 2 * length (paired text) ≤ length text
halved [] = omega arith
halved (high ∷ []) = omega arith
halved (high ∷ low ∷ rest) = omega (arith, halved rest)

long_spelled : (kind : Kind) (from n : ℕ) (text : List ℕ) → 0 < length text → length text + 1 ≤ n → Long (spelled kind from text) n
long_spelled kind from n text h k =
    let third = value kind (paired text) in
    let second = cond (eqb (length text % 2) 1) (bad OddHex) third in
    let first = cond (ltb (hex_length text) (length text)) (bad (NotHex (from + hex_length text))) second in
    let whole : Long third n = omega (arith, halved text) in
    let even : Long second n = either (eqb (length text % 2) 1) (bad OddHex) third n (omega arith) whole in
    let hex : Long first n = either (ltb (hex_length text) (length text)) (bad (NotHex (from + hex_length text))) second n (omega arith) even in
    either (bytes_eq text (codes ".")) (value kind []) first n (omega arith) hex

long_behind : (kind : Kind) (from n : ℕ) (text : List ℕ) → 1 ≤ n → (0 < length text → length text + 1 ≤ n) → Long (value_of kind from text) n
long_behind kind from n [] h k = h
long_behind kind from n (b ∷ rest) h k = long_spelled kind from n (b ∷ rest) (omega arith) (k (omega arith))

long_named : (o : Option Kind) (n : ℕ) (line : List ℕ) → 1 ≤ length line → Long (behind o n line) (length line)
long_named None n line h = h
long_named (Some kind) n line h = long_behind kind (n + 1) (length line) (drop (n + 1) line) h (λ k. omega (arith, length-drop (n + 1) line))

pub long : (line : List ℕ) → Long (line_of line) (length line)
long [] = tt
long (b ∷ rest) =
    let line = b ∷ rest in
    let kind = kind_named (take (word_length line) line) in
    either (is_passed line) passed (behind kind (word_length line) line) (length line) tt (long_named kind (word_length line) line (omega arith))
