-- The fields are lawful: a byte, a number, a handle, a text.
use Rattle.std.proofs.Common.{◌≡◌, ℕ, zero, suc, ◌+◌, ◌-◌, ◌^◌, ◌<◌, ◌≤◌, Bool, true, false, cond, eqb, ltb, leb, List, [], ◌∷◌, ◌++◌, length, get_or, take, drop, Some, None, Ok, Err, Option, Result, sym, refl, ap, ◌∙◌, subst, ⊎_elim, arith, length-append, take-add}
use Rattle.std.proofs.lemmas.List.{drop_more, take_at, drop_at, get_or_at, length-take-le, append-nil, get_or-drop, length-drop, length-take, append_assoc, drop-drop}
use Rattle.std.proofs.lemmas.Bool.{le-leb, lt-leb, leb-true, lt-ltb, le-ltb, ltb-true, cases_lt, eqb-false, ne_eqb}
use Rattle.fault.specs.declared.ByteFault.{ByteFault}
use Rattle.fault.specs.declared.ByteWord.TheVariants.{Short, Zero, Garbled}
use Rattle.text.specs.Grammar.{is_utf8}
use Rattle.rpc.specs.declared.Handle.{Handle}
use Rattle.rpc.specs.declared.Text.{Text}
use Rattle.rpc.specs.Wire.{byte_at, number, number_at, handle_at, text_at, and_then, fault}
use Rattle.rpc.specs.Laws.{le, Bytes, Lawful, Returns, CutShort, field_start}
use Rattle.rpc.specs.Kinds.{byte_kind, number_kind, handle_kind, text_kind, text_in, in_piece, text_or, GoodText}
use Rattle.rpc.proofs.Littles.{length_le, number_le, le_number, number_below, passed, number_end}

pub byte_here : (before : List ℕ) (b : ℕ) (rest : List ℕ) → byte_at (before ++ b ∷ rest) (length before) ≡ Ok (b, length before + 1)
byte_here before b rest =
    let long : length before < length (before ++ b ∷ rest) = omega (arith, length-append before (b ∷ rest)) in
    rw (lt-ltb (length before) (length (before ++ b ∷ rest)) long, get_or_at before b rest 0 (length before) refl)

pub byte_none : (before : List ℕ) → byte_at (before ++ []) (length before) ≡ fault Short (length before)
byte_none before = rw (append-nil before, le-ltb (length before) (length before) (omega arith))

-- what a byte that was read is, and where it ends
pub byte_end : (bs : List ℕ) (at b end : ℕ) → byte_at bs at ≡ Ok (b, end) → (at < length bs) × (b ≡ get_or bs at 0) × (end ≡ at + 1)
byte_end bs at b end e =
    let p = passed (ltb at (length bs)) (get_or bs at 0, at + 1) (b, end) _ e in
    (ltb-true at (length bs) p.0, sym (ap (λ q. q.0) p.1), sym (ap (λ q. q.1) p.1))

-- the bytes of a part
pub bytes_take : (n : ℕ) (bs : List ℕ) → Bytes bs → Bytes (take n bs)
bytes_take zero bs h k = omega arith
bytes_take (suc n) [] h k = omega arith
bytes_take (suc n) (b ∷ bs) h zero = h 0
bytes_take (suc n) (b ∷ bs) h (suc k) = bytes_take n bs (λ j. h (suc j)) k

pub bytes_drop : (n : ℕ) (bs : List ℕ) → Bytes bs → Bytes (drop n bs)
bytes_drop n bs h k = rw (get_or-drop n bs k 0) (h (n + k))

pub byte_lawful : Lawful byte_kind
byte_lawful =
    record {
      returns = λ w good before rest. (w, byte_here before w rest, refl);
      unique = λ bs typed at end v h e.
          let p = byte_end bs at v end e in
          let one : end - at ≡ 1 = omega arith in
          let is : v ∷ [] ≡ take (end - at) (drop at bs) = rw (one, drop_more bs at 0 p.0, p.1) in
          (omega arith, omega arith, rw p.1 (typed at), is);
      cut = λ w good before k h.
          let none : k ≡ 0 = omega arith in
          rw none (byte_none before ∙ ap (λ n. fault Short n) (omega arith));
    }

pub number_here : (k : ℕ) (before : List ℕ) (n : ℕ) (rest : List ℕ) → n < 256 ^ k → number_at k (before ++ (le k n ++ rest)) (length before) ≡ Ok (n, length before + k)
number_here k before n rest h =
    let long : length before + k ≤ length (before ++ (le k n ++ rest)) = omega (arith, length-append before (le k n ++ rest), length-append (le k n) rest, length_le k n) in
    let is : take k (drop (length before) (before ++ (le k n ++ rest))) ≡ le k n = ap (take k) (drop_at before (le k n ++ rest) (length before) refl) ∙ take_at (le k n) rest k (length_le k n) in
    rw (le-leb (length before + k) (length (before ++ (le k n ++ rest))) long, is, number_le k n h)

number_returns : (k w : ℕ) → w < 256 ^ k → (before rest : List ℕ) → number_at k (before ++ ((le k w ++ []) ++ rest)) (length before) ≡ Ok (w, length before + length (le k w ++ []))
number_returns k w good before rest = rw (append-nil (le k w), length_le k w) (number_here k before w rest good)

number_unique : (k : ℕ) (bs : List ℕ) → Bytes bs → (at end v : ℕ) → number_at k bs at ≡ Ok (v, end) →
    (at ≤ end) × (end ≤ length bs) × (v < 256 ^ k) × (le k v ++ [] ≡ take (end - at) (drop at bs))
number_unique k bs typed at end v e =
    let p = number_end k bs at v end e in
    let part = take k (drop at bs) in
    let long : length part ≡ k = length-take-le k (drop at bs) (simp length-drop (omega arith)) in
    let small = bytes_take k (drop at bs) (bytes_drop at bs typed) in
    let count : end - at ≡ k = omega arith in
    let back : le k (number part) ≡ part = ap (λ j. le j (number part)) (sym long) ∙ le_number part small in
    let P : ℕ → Type 0 = λ j. number part < 256 ^ j in
    let below = subst P long (number_below part small) in
    let is : le k v ++ [] ≡ take (end - at) (drop at bs) = append-nil (le k v) ∙ ap (le k) p.1 ∙ back ∙ ap (λ j. take j (drop at bs)) (sym count) in
    (omega arith, omega arith, rw p.1 below, is)

pub number_cut : (k : ℕ) (before part : List ℕ) → length part < k → number_at k (before ++ part) (length before) ≡ fault Short (length before)
number_cut k before part h = rw (lt-leb (length before + k) (length (before ++ part)) (omega (arith, length-append before part)))

-- a cut inside a list's first field
cut_first : (f : List ℕ) (fs : List (List ℕ)) (k : ℕ) → k < length f → field_start (f ∷ fs) k ≡ 0
cut_first f fs k h = rw (lt-ltb k (length f) h)

pub number_lawful : (k : ℕ) → Lawful (number_kind k)
number_lawful k =
    record {
      returns = λ w good before rest. (w, number_returns k w good before rest, refl);
      unique = λ bs typed at end v h e. number_unique k bs typed at end v e;
      cut = λ w good before j h.
          let shorter : j < k = omega (arith, length-append (le k w) [], length_le k w) in
          let cutoff : length (take j (le k w ++ [])) < k = omega (arith, length-take j (le k w ++ [])) in
          number_cut k before (take j (le k w ++ [])) cutoff ∙ ap (λ n. fault Short n) (omega (arith, cut_first (le k w) [] j (omega (arith, length_le k w))));
    }

-- the two ways of a read that goes on: the first part, and what is made of it
module _ {X Y : Type 0} where
  pub went_on : (r : Result (X × ℕ) ByteFault) (k : X → ℕ → Result (Y × ℕ) ByteFault) (y : Y) (end : ℕ) → and_then r k ≡ Ok (y, end) →
      (x : X) × (p : ℕ) × (r ≡ Ok (x, p)) × (k x p ≡ Ok (y, end))
  went_on (Ok x) k y end e = (x.0, x.1, refl, e)
  went_on (Err f) k y end e = let z : ◌≡◌ {A = ℕ} 0 1 = cc in absurd (omega arith)

  pub goes_on : (r : Result (X × ℕ) ByteFault) (k : X → ℕ → Result (Y × ℕ) ByteFault) (x : X) (p : ℕ) → r ≡ Ok (x, p) → and_then r k ≡ k x p
  goes_on r k x p e = rw e

  pub stops : (r : Result (X × ℕ) ByteFault) (k : X → ℕ → Result (Y × ℕ) ByteFault) (f : ByteFault) → r ≡ Err f → and_then r k ≡ Err f
  stops r k f e = rw e

abbrev nonzero : ℕ → ℕ → ℕ → Result (Handle × ℕ) ByteFault
nonzero at n end = cond (eqb n 0) (fault Zero at) (Ok (record { number = n }, end))

-- two tests that were passed, one behind the other
two_tests : {X : Type 0} (a b : Bool) (x y : X) (f g : ByteFault) → cond a (cond b (Ok x) (Err f)) (Err g) ≡ Ok y → (a ≡ true) × (b ≡ true) × (x ≡ y)
two_tests true b x y f g e = let p = passed b x y f e in (refl, p.0, p.1)
two_tests false b x y f g e = let z : ◌≡◌ {A = ℕ} 0 1 = cc in absurd (omega arith)

-- a test that was not passed, from its answer
refused : {X : Type 0} (b : Bool) (x y : X) (f : ByteFault) → cond b (Err f) (Ok x) ≡ Ok y → (b ≡ false) × (x ≡ y)
refused true x y f e = let z : ◌≡◌ {A = ℕ} 0 1 = cc in absurd (omega arith)
refused false x y f e = (refl, cc)

handle_unique : (bs : List ℕ) → Bytes bs → (at end : ℕ) (v : Handle) → handle_at bs at ≡ Ok (v, end) →
    (at ≤ end) × (end ≤ length bs) × ((v.number < 256 ^ 4) × (0 < v.number)) × (le 4 v.number ++ [] ≡ take (end - at) (drop at bs))
handle_unique bs typed at end v e =
    let p = went_on (number_at 4 bs at) (nonzero at) v end e in
    let n = p.0 in
    let q = refused (eqb n 0) (record { number = n }, p.1) (v, end) _ p.3 in
    let is : v.number ≡ n = sym (ap (λ x. x.0.number) q.1) in
    let last : end ≡ p.1 = sym (ap (λ x. x.1) q.1) in
    let first = p.2 in
    let read : number_at 4 bs at ≡ Ok (v.number, end) = cc in
    let u = number_unique 4 bs typed at end v.number read in
    let some : n ≡ 0 → ⊥ = eqb-false n 0 q.0 in
    (u.0, u.1, (u.2, omega arith), u.3)

pub handle_lawful : Lawful handle_kind
handle_lawful =
    record {
      returns = λ w good before rest.
          let e = number_returns 4 w.number good.0 before rest in
          (w, goes_on _ (nonzero (length before)) w.number _ e ∙ rw (ne_eqb w.number 0 (omega arith)), refl);
      unique = λ bs typed at end v h e. handle_unique bs typed at end v e;
      cut = λ w good before j h.
          stops _ (nonzero (length before)) _ ((number_lawful 4).cut w.number good.0 before j h);
    }

abbrev checked : List ℕ → ℕ → ℕ → Result (Text × ℕ) ByteFault
checked bs n place = cond (leb (place + n) (length bs)) (cond (is_utf8 (take n (drop place bs))) (Ok (record { place = place; length = n }, place + n)) (fault Garbled place)) (fault Short place)

checked_is : (bs : List ℕ) (n place : ℕ) → place + n ≤ length bs → (t : List ℕ) → take n (drop place bs) ≡ t → is_utf8 t ≡ true → checked bs n place ≡ Ok (record { place = place; length = n }, place + n)
checked_is bs n place h t is u = rw (le-leb (place + n) (length bs) h, is, u)

checked_end : (bs : List ℕ) (n place : ℕ) (v : Text) (end : ℕ) → checked bs n place ≡ Ok (v, end) →
    (place + n ≤ length bs) × (is_utf8 (take n (drop place bs)) ≡ true) × (v ≡ record { place = place; length = n }) × (end ≡ place + n)
checked_end bs n place v end e =
    let p = two_tests (leb (place + n) (length bs)) (is_utf8 (take n (drop place bs))) (record { place = place; length = n }, place + n) (v, end) _ _ e in
    (leb-true (place + n) (length bs) p.0, p.1, sym (ap (λ q. q.0) p.2), sym (ap (λ q. q.1) p.2))

-- a text that lies within its piece and is UTF-8 is live
lives : (bs : List ℕ) (t : Text) (w : List ℕ) → t.place + t.length ≤ length bs → text_in bs t ≡ w → is_utf8 w ≡ true → in_piece bs t ≡ Some w
lives bs t w h is u = rw (le-leb (t.place + t.length) (length bs) h, is, u)

text_returns : (w : List ℕ) → length w < 256 ^ 8 → is_utf8 w ≡ true → (before rest : List ℕ) →
    (v : Text) × (text_at (before ++ ((le 8 (length w) ++ (w ++ [])) ++ rest)) (length before) ≡ Ok (v, length before + length (le 8 (length w) ++ (w ++ [])))) × (in_piece (before ++ ((le 8 (length w) ++ (w ++ [])) ++ rest)) v ≡ Some w)
text_returns w small u before rest =
    let whole = before ++ ((le 8 (length w) ++ (w ++ [])) ++ rest) in
    let front = before ++ le 8 (length w) in
    let first : whole ≡ before ++ (le 8 (length w) ++ (w ++ rest)) = simp (append-nil, append_assoc) in
    let second : whole ≡ front ++ (w ++ rest) = simp (append-nil, append_assoc) in
    let long : length before + 8 ≡ length front = omega (arith, length-append before (le 8 (length w)), length_le 8 (length w)) in
    let size : length (le 8 (length w) ++ (w ++ [])) ≡ 8 + length w = omega (arith, length-append (le 8 (length w)) (w ++ []), length-append w [], length_le 8 (length w)) in
    let read : number_at 8 whole (length before) ≡ Ok (length w, length before + 8) = ap (λ l. number_at 8 l (length before)) first ∙ number_here 8 before (length w) (w ++ rest) small in
    let is : take (length w) (drop (length before + 8) whole) ≡ w = ap (λ l. take (length w) (drop (length before + 8) l)) second ∙ ap (λ j. take (length w) (drop j (front ++ (w ++ rest)))) long ∙ ap (take (length w)) (drop_at front (w ++ rest) (length front) refl) ∙ take_at w rest (length w) refl in
    let within : length before + 8 + length w ≤ length whole = omega (arith, ap length second, length-append front (w ++ rest), length-append w rest) in
    let end : length before + 8 + length w ≡ length before + length (le 8 (length w) ++ (w ++ [])) = omega arith in
    (record { place = length before + 8; length = length w }, goes_on _ (checked whole) (length w) _ read ∙ checked_is whole (length w) (length before + 8) within w is u ∙ ap (λ j. Ok (record { place = length before + 8; length = length w }, j)) end, lives whole (record { place = length before + 8; length = length w }) w within is u)

text_unique : (bs : List ℕ) → Bytes bs → (at end : ℕ) (v : Text) → text_at bs at ≡ Ok (v, end) →
    (at ≤ end) × (end ≤ length bs) × GoodText (in_piece bs v) × (le 8 (length (text_or (in_piece bs v))) ++ (text_or (in_piece bs v) ++ []) ≡ take (end - at) (drop at bs))
text_unique bs typed at end v e =
    let p = went_on (number_at 8 bs at) (checked bs) v end e in
    let n = p.0 in
    let q = checked_end bs n p.1 v end p.3 in
    let u = number_unique 8 bs typed at p.1 n p.2 in
    let last = (number_end 8 bs at n p.1 p.2).2 in
    let t = take n (drop p.1 bs) in
    let is : text_in bs v ≡ t = ap (text_in bs) q.2 in
    let long : length t ≡ n = length-take-le n (drop p.1 bs) (simp length-drop (omega arith)) in
    let eight : p.1 - at ≡ 8 = omega arith in
    let front : le 8 n ≡ take 8 (drop at bs) = sym (append-nil (le 8 n)) ∙ u.3 ∙ ap (λ j. take j (drop at bs)) eight in
    let behind : t ≡ take n (drop 8 (drop at bs)) = ap (λ l. take n l) (ap (λ j. drop j bs) last ∙ sym (drop-drop 8 at bs)) in
    let joint : take 8 (drop at bs) ++ take n (drop 8 (drop at bs)) ≡ take (8 + n) (drop at bs) = sym (take-add 8 n (drop at bs)) in
    let count : end - at ≡ 8 + n = omega arith in
    let whole : le 8 (length t) ++ (t ++ []) ≡ take (end - at) (drop at bs) =
    ap (λ j. le 8 j ++ (t ++ [])) long ∙ ap (λ l. le 8 n ++ l) (append-nil t) ∙ ap (λ l. l ++ t) front ∙ ap (λ l. take 8 (drop at bs) ++ l) behind ∙ joint ∙ ap (λ j. take j (drop at bs)) (sym count) in
    let Q : ℕ → Type 0 = λ j. j < 256 ^ 8 in
    let within : v.place + v.length ≤ length bs = rw q.2 q.0 in
    let live : in_piece bs v ≡ Some t = lives bs v t within is q.1 in
    let P : Option (List ℕ) → Type 0 = λ o. GoodText o × (le 8 (length (text_or o)) ++ (text_or o ++ []) ≡ take (end - at) (drop at bs)) in
    let all = subst P (sym live) ((subst Q (sym long) u.2, q.1), whole) in
    (omega arith, omega arith, all.0, all.1)

-- the text's length is cut
text_cut_early : (w before : List ℕ) (k : ℕ) → k < 8 → text_at (before ++ take k (le 8 (length w) ++ (w ++ []))) (length before) ≡ fault Short (length before)
text_cut_early w before k h =
    let part = take k (le 8 (length w) ++ (w ++ [])) in
    stops _ (checked (before ++ part)) _ (number_cut 8 before part (omega (arith, length-take k (le 8 (length w) ++ (w ++ [])))))

text_start : (w before : List ℕ) (k : ℕ) → 8 ≤ k → k < 8 + length w → length before + 8 ≡ length before + field_start (le 8 (length w) ∷ w ∷ []) k
text_start w before k low high =
    let a : field_start (le 8 (length w) ∷ w ∷ []) k ≡ length (le 8 (length w)) + field_start (w ∷ []) (k - length (le 8 (length w))) = rw (le-ltb k (length (le 8 (length w))) (omega (arith, length_le 8 (length w)))) in
    omega (arith, a, length_le 8 (length w), cut_first w [] (k - length (le 8 (length w))) (omega (arith, length_le 8 (length w))))

-- the text's bytes are cut
text_cut : (w : List ℕ) → length w < 256 ^ 8 → (before : List ℕ) (k : ℕ) → 8 ≤ k → k < 8 + length w →
    text_at (before ++ take k (le 8 (length w) ++ (w ++ []))) (length before) ≡ fault Short (length before + 8)
text_cut w small before k low high =
    let bs = before ++ take k (le 8 (length w) ++ (w ++ [])) in
    let more : k ≡ 8 + (k - 8) = omega arith in
    let part : take k (le 8 (length w) ++ (w ++ [])) ≡ le 8 (length w) ++ take (k - 8) w = ap (λ l. take k (le 8 (length w) ++ l)) (append-nil w) ∙ ap (λ j. take j (le 8 (length w) ++ w)) more ∙ take-add 8 (k - 8) (le 8 (length w) ++ w) ∙ cong2 (take_at (le 8 (length w)) w 8 (length_le 8 (length w))) (ap (take (k - 8)) (drop_at (le 8 (length w)) w 8 (length_le 8 (length w)))) in
    let read : number_at 8 bs (length before) ≡ Ok (length w, length before + 8) = ap (λ l. number_at 8 (before ++ l) (length before)) part ∙ number_here 8 before (length w) (take (k - 8) w) small in
    let count : length (take (k - 8) w) ≡ k - 8 = length-take-le (k - 8) w (omega arith) in
    let less : length bs < length before + 8 + length w = omega (arith, ap length (ap (λ l. before ++ l) part), length-append before (le 8 (length w) ++ take (k - 8) w), length-append (le 8 (length w)) (take (k - 8) w), length_le 8 (length w)) in
    goes_on _ (checked bs) (length w) _ read ∙ rw (lt-leb (length before + 8 + length w) (length bs) less)
  where
    cong2 : {a b c d : List ℕ} → a ≡ b → c ≡ d → a ++ c ≡ b ++ d
    cong2 p q = cc

text_cuts : (w : List ℕ) → length w < 256 ^ 8 → (before : List ℕ) (k : ℕ) → k < length (le 8 (length w) ++ (w ++ [])) →
    text_at (before ++ take k (le 8 (length w) ++ (w ++ []))) (length before) ≡ fault Short (length before + field_start (le 8 (length w) ∷ w ∷ []) k)
text_cuts w small before k h =
    let len = length_le 8 (length w) in
    let size : length (le 8 (length w) ++ (w ++ [])) ≡ 8 + length w = omega (arith, length-append (le 8 (length w)) (w ++ []), length-append w []) in
    ⊎_elim
    (λ below. text_cut_early w before k below ∙ ap (λ n. fault Short n) (omega (arith, cut_first (le 8 (length w)) (w ∷ []) k (omega arith))))
    (λ above. text_cut w small before k above (omega arith) ∙ ap (λ n. fault Short n) (text_start w before k above (omega arith)))
    (cases_lt k 8)

text_back : Returns text_kind
text_back None g before rest = absurd g
text_back (Some t) g before rest = text_returns t g.0 g.1 before rest

text_short : CutShort text_kind
text_short None g before k h = absurd g
text_short (Some t) g before k h = text_cuts t g.0 before k h

pub text_lawful : Lawful text_kind
text_lawful = record { returns = text_back; unique = λ bs typed at end v h e. text_unique bs typed at end v e; cut = text_short }
