-- The texts of a table of entries with one entry more, whose text lies behind the others.
use Rattle.std.proofs.Common.{◌≡◌, ℕ, suc, ◌+◌, ◌<◌, ◌≤◌, List, [], ◌∷◌, ◌++◌, map, length, take, drop, set, sym, refl, ap, ◌∙◌, subst, arith}
use Rattle.std.specs.List.{All}
use Rattle.std.proofs.lemmas.List.{length-append, length-map, length-take-le, length-drop, length-set, take_all, take-append-le, drop-append-le, drop_at, take_more_set, map_push}
use Rattle.std.proofs.lemmas.List.Elements.{All-push, All-weaker}
use Rattle.std.proofs.lemmas.List.Sums.{sum_by_push}
use Rattle.symbol.specs.declared.entry.Entry.{Entry}
use Rattle.symbol.specs.Held.{bytes_in}
use Rattle.symbol.specs.Layout.{text_in, end_of, held_in, LaidOut}

pub many : (bytes : List ℕ) (entries : List Entry) (count : ℕ) → LaidOut bytes entries count → length (held_in bytes entries count) ≡ count
many bytes entries count laid =
    length-map (take count entries) (text_in bytes) ∙ length-take-le count entries (omega (arith, laid.few, laid.table))

text_stays : (bytes more : List ℕ) (e : Entry) → end_of e ≤ length bytes → text_in (bytes ++ more) e ≡ text_in bytes e
text_stays bytes more e h =
    ap (take e.length) (drop-append-le e.place bytes more (omega arith)) ∙ take-append-le e.length (drop e.place bytes) more (omega (arith, length-drop e.place bytes))

texts_stay : (bytes more : List ℕ) (es : List Entry) → All (λ e. end_of e ≤ length bytes) es → map (text_in (bytes ++ more)) es ≡ map (text_in bytes) es
texts_stay bytes more [] h = refl
texts_stay bytes more (x ∷ es) h = cc (text_stays bytes more x (h 0 x (omega arith)), texts_stay bytes more es (λ k d l. h (suc k) d (omega arith)))

module _ (bytes text : List ℕ) (entries : List Entry) (count : ℕ) (e : Entry) (laid : LaidOut bytes entries count) (few : count < 1024) (place : e.place ≡ length bytes) (size : e.length ≡ length text) where
  more_entries : take (count + 1) (set entries count e) ≡ take count entries ++ e ∷ []
  more_entries = take_more_set entries count e (omega (arith, laid.table))

  new_text : text_in (bytes ++ text) e ≡ text
  new_text =
      ap (λ n. take e.length (drop n (bytes ++ text))) place ∙ ap (take e.length) (drop_at bytes text (length bytes) refl) ∙ take_all e.length text (omega arith)

  pub held_more : held_in (bytes ++ text) (set entries count e) (count + 1) ≡ held_in bytes entries count ++ text ∷ []
  held_more =
      let f = text_in (bytes ++ text) in
      ap (map f) more_entries ∙ map_push f (take count entries) e ∙ cc (texts_stay bytes text (take count entries) laid.placed, new_text)

  placed_more : All (λ x. end_of x ≤ length (bytes ++ text)) (take (count + 1) (set entries count e))
  placed_more =
      let n = length (bytes ++ text) in
      let old : All (λ x. end_of x ≤ n) (take count entries) = All-weaker (λ x. end_of x ≤ length bytes) (λ x. end_of x ≤ n) (λ x h. omega (arith, length-append bytes text)) (take count entries) laid.placed in
      let new : end_of e ≤ n = omega (arith, length-append bytes text) in
      subst (λ es. All (λ x. end_of x ≤ n) es) (sym more_entries) (All-push (λ x. end_of x ≤ n) (take count entries) e old new)

  pub laid_more : LaidOut (bytes ++ text) (set entries count e) (count + 1)
  laid_more =
      record {
        table = length-set entries count e ∙ laid.table;
        few = omega arith;
        placed = placed_more;
        packed = ap bytes_in held_more ∙ sum_by_push length (held_in bytes entries count) text ∙ ap (λ n. n + length text) laid.packed ∙ sym (length-append bytes text);
      }
