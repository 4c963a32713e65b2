-- The loop over the lines: what is listed with what the lines left give is the list of the file.
use Rattle.std.proofs.Common.{◌≡◌, ℕ, ◌+◌, ◌<◌, ◌≤◌, Bool, true, cond, eqb, List, [], ◌∷◌, ◌++◌, map, length, get_or, take, drop, Some, None, Ok, Result, Bor, vec_items, sum_by, count_by, Option, sym, refl, ap, ◌∙◌, subst, append_assoc, drop-cons, add-one, arith}
use Rattle.std.specs.Iterator.{Yields}
use Rattle.std.specs.List.{enumerate_from}
use Rattle.std.specs.Option.{option_map, option_to_list}
use Rattle.std.proofs.lemmas.Bool.{eqb-true}
use Rattle.std.proofs.lemmas.List.{append-nil, nil_from_length, map_push, drop_all, take_all}
use Rattle.std.proofs.lemmas.Iterator.{YieldsList}
use Rattle.std.proofs.lemmas.Iterator.Consumers.{YieldsList-turn, YieldsList-end}
use Rattle.std.proofs.lemmas.List.FromFn.{length-enumerate_from, get_or-enumerate_from}
use Rattle.std.proofs.lemmas.List.Sums.{sum_by-append, sum_by_more, count_by-le-length}
use Rattle.recording.specs.declared.Kind.{Kind}
use Rattle.recording.specs.declared.ReadError.{ReadError}
use Rattle.recording.specs.declared.Recorded.{Recorded}
use Rattle.recording.specs.Format.{Meaning, passed, value, bad, line_of}
use Rattle.recording.specs.Meaning.{Answers, meant}
use Rattle.listing.specs.Entries.{Entry, given, is_value, entries_from, entries}
use Rattle.listing.specs.declared.items.Item.{Item}
use Rattle.listing.specs.Items.{entry_of, weight}
use Rattle.listing.proofs.Lines.{parts, entries_parts, lengths, Long, long}

-- n lines are read, and the next value has this number
pub record Reading (file : List ℕ) (es : List Entry) (n number : ℕ) : Type 0 where
  pub listed : es ++ entries_from (n + 1) number (drop n (parts file)) ≡ entries file
  pub numbered : number ≤ n + 1
  pub weighed : sum_by weight es ≤ sum_by length (take n (parts file))

pub start : (file : List ℕ) → Reading file [] 0 1
start file = record { listed = entries_parts file; numbered = omega arith; weighed = omega arith }

one : (place number : ℕ) (m : Meaning) → length (given place number m) ≤ 1
one place number passed = omega arith
one place number (value kind bytes) = omega arith
one place number (bad fault) = omega arith

module _ (file : List ℕ) (es new es' : List Entry) (line : List ℕ) (i n number next : ℕ) where
  pub turn : Reading file es n number → (i ≡ n) × (n < length (parts file)) × (line ≡ get_or (parts file) n line) → new ≡ given (i + 1) number (line_of line) → sum_by weight new ≤ length line → next ≡ number + count_by is_value new → es' ≡ es ++ new → Reading file es' (n + 1) next
  turn r at g' w v e =
      let g : new ≡ given (n + 1) number (line_of line) = g' ∙ ap (λ k. given (k + 1) number (line_of line)) at.0 in
      let more = entries_from (n + 1 + 1) next (drop (n + 1) (parts file)) in
      let left : drop n (parts file) ≡ line ∷ drop (n + 1) (parts file) = rw (add-one, drop-cons (parts file) n line at.1, ← at.2) in
      let whole : entries_from (n + 1) number (drop n (parts file)) ≡ new ++ more = ap (entries_from (n + 1) number) left ∙ ap (λ x. x ++ entries_from (n + 1 + 1) (number + count_by is_value x) (drop (n + 1) (parts file))) (sym g) ∙ ap (λ k. new ++ entries_from (n + 1 + 1) k (drop (n + 1) (parts file))) (sym v) in
      record {
        listed = ap (λ xs. xs ++ more) e ∙ append_assoc es new more ∙ ap (λ xs. es ++ xs) (sym whole) ∙ r.listed;
        numbered = omega (arith, count_by-le-length is_value new, ap length g, one (n + 1) number (line_of line), r.numbered);
        weighed = rw (e, sum_by-append weight es new) (omega (arith, sum_by_more length (parts file) n line at.1, ap length at.2, r.weighed));
      }

-- a line that is empty is passed over
pub passed_over : (file : List ℕ) (es : List Entry) (line : List ℕ) (i n number : ℕ) → Reading file es n number → (i ≡ n) × (n < length (parts file)) × (line ≡ get_or (parts file) n line) → true ≡ eqb (length line) 0 → Reading file es (n + 1) number
passed_over file es line i n number r at e =
    let none : [] ≡ given (i + 1) number (line_of line) = ap (λ l. given (i + 1) number (line_of l)) (sym (nil_from_length line (eqb-true (length line) 0 (sym e)))) in
    turn file es [] es line i n number number r at none (omega arith) (omega arith) (sym (append-nil es))

pub whole : (file : List ℕ) (es : List Entry) (n number : ℕ) → Reading file es n number → n ≡ length (parts file) → (es ≡ entries file) × (sum_by weight es ≤ length file)
whole file es n number r e =
    (sym (append-nil es) ∙ ap (λ x. es ++ entries_from (n + 1) number x) (sym (drop_all n (parts file) (omega arith))) ∙ r.listed, omega (arith, ap (sum_by length) (take_all n (parts file) (omega arith)), lengths file, r.weighed))

-- a `for` over the lines, which `enumerate` counts
module _ {S : Type 0} {steps : S → Option (ℕ × Bor (List ℕ)) → S → Type 0} {s : S} (lines : List (List ℕ)) (xs : List (ℕ × Bor (List ℕ))) (t : S) (y : Yields steps s xs t) (r : Option (ℕ × Bor (List ℕ))) (u : S) where
  pub next_line : (i : ℕ) (line : Bor (List ℕ)) → r ≡ Some (i, line) → steps t r u → YieldsList steps (λ p. (p.0, p.1.now)) s (enumerate_from 0 lines) → (i ≡ length xs) × (length xs < length lines) × (line.now ≡ get_or lines (length xs) line.now)
  next_line i line is step road =
      let at = YieldsList-turn road xs t y r u (i, line) is step in
      let within : length xs < length lines = omega (arith, at.0, length-enumerate_from 0 lines) in
      let e = at.1 ∙ get_or-enumerate_from 0 lines (length xs) (i, line.now) within in
      let count : i ≡ 0 + length xs = ap (λ p. p.0) e in
      (omega arith, within, ap (λ p. p.1) e)

  pub last_line : r ≡ None → steps t r u → YieldsList steps (λ p. (p.0, p.1.now)) s (enumerate_from 0 lines) → length xs ≡ length lines
  last_line is step road =
      (YieldsList-end road xs t y r u is step).1 ∙ length-enumerate_from 0 lines

-- a value's line is longer than its bytes
pub valued : (line : List ℕ) (kind : Kind) (bytes : List ℕ) → value kind bytes ≡ line_of line → 2 + length bytes ≤ length line
valued line kind bytes e = subst (λ m. Long m (length line)) (sym e) (long line)

module _ (before after : List Item) (n next : ℕ) (o : Option Item) where
  -- an item stands behind the others, and the numbers go on behind it
  pub pushed : (item : Item) (made : List Item) → o ≡ Some item → after ≡ made → made ≡ before ++ item ∷ [] → map entry_of after ≡ map entry_of before ++ option_to_list (option_map entry_of o)
  pushed item made i e f =
      ap (map entry_of) (e ∙ f) ∙ map_push entry_of before item ∙ ap (λ x. map entry_of before ++ option_to_list (option_map entry_of x)) (sym i)

  pub counted : (item : Item) (t : Bool) → o ≡ Some item → t ≡ is_value (entry_of item) → next ≡ n + cond t 1 0 → next ≡ n + count_by is_value (option_to_list (option_map entry_of o))
  counted item t i e f = rw (i, ← e) (omega arith)

  -- no item
  pub unpushed : o ≡ None → after ≡ before → map entry_of after ≡ map entry_of before ++ option_to_list (option_map entry_of o)
  unpushed i e = rw (i, e, append-nil (map entry_of before)) refl

  pub uncounted : o ≡ None → next ≡ n → next ≡ n + count_by is_value (option_to_list (option_map entry_of o))
  uncounted i e = rw i (omega arith)

-- what an answer with a value says of its line
pub answered : (line : List ℕ) (r : Result (Option Recorded) ReadError) (o : Option Recorded) (v : Recorded) → Answers (line_of line) (meant r) → r ≡ Ok o → o ≡ Some v → value v.kind (vec_items v.bytes) ≡ line_of line
answered line r o v a e f = subst (λ x. Answers (line_of line) (meant x)) (e ∙ ap Ok f) a
