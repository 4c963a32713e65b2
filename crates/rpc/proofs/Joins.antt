-- Values that are made of lawful parts are lawful: one behind the other, behind a tag, and under another name.
use Rattle.std.proofs.Common.{◌≡◌, ℕ, zero, suc, ◌+◌, ◌-◌, ◌<◌, ◌≤◌, eqb, List, [], ◌∷◌, ◌++◌, length, get_or, take, drop, Some, None, Ok, Err, Option, Result, sym, refl, ap, ◌∙◌, subst, ⊎_elim, arith, length-append, take-add}
use Rattle.std.proofs.lemmas.List.{append_assoc, take-append-le, take_at, drop_at, drop-drop, drop_more}
use Rattle.std.proofs.lemmas.Bool.{lt-ltb, le-ltb, cases_lt, cases_Bool, eqb-true, cond-true, cond-false}
use Rattle.fault.specs.declared.ByteFault.{ByteFault}
use Rattle.fault.specs.declared.ByteWord.TheVariants.{Short}
use Rattle.rpc.specs.Wire.{fault, and_then, byte_at, both_at, made, chosen, by_tag, tagged_at}
use Rattle.rpc.specs.Laws.{Kind, Lawful, Bytes, bytes_of, flat, field_start}
use Rattle.rpc.specs.Kinds.{both_kind}
use Rattle.rpc.proofs.Fields.{went_on, goes_on, stops, byte_here, byte_none, byte_end}

pub flat_append : (xs ys : List (List ℕ)) → flat (xs ++ ys) ≡ flat xs ++ flat ys
flat_append [] ys = refl
flat_append (x ∷ xs) ys = ap (λ l. x ++ l) (flat_append xs ys) ∙ sym (append_assoc x (flat xs) (flat ys))

-- a cut in the first of two lists of fields, and in the second
start_left : (xs ys : List (List ℕ)) (k : ℕ) → k < length (flat xs) → field_start (xs ++ ys) k ≡ field_start xs k
start_left [] ys k h = absurd (omega arith)
start_left (x ∷ xs) ys k h =
    ⊎_elim
    (λ below. rw (lt-ltb k (length x) below))
    (λ above. rw (le-ltb k (length x) above) (ap (λ n. length x + n) (start_left xs ys (k - length x) (omega (arith, length-append x (flat xs))))))
    (cases_lt k (length x))

start_right : (xs ys : List (List ℕ)) (k : ℕ) → length (flat xs) ≤ k → field_start (xs ++ ys) k ≡ length (flat xs) + field_start ys (k - length (flat xs))
start_right [] ys k h = let same : k - 0 ≡ k = omega arith in rw same (omega arith)
start_right (x ∷ xs) ys k h =
    let len = length-append x (flat xs) in
    let ih = start_right xs ys (k - length x) (omega arith) in
    let same : k - length x - length (flat xs) ≡ k - length (x ++ flat xs) = omega arith in
    rw (le-ltb k (length x) (omega arith)) (ap (λ n. length x + n) (ih ∙ ap (λ n. length (flat xs) + field_start ys n) same) ∙ omega arith)

-- two answers that are equal, part by part
ok_parts : {X : Type 0} {x y : X} {m n : ℕ} → ◌≡◌ {A = Result (X × ℕ) ByteFault} (Ok (x, m)) (Ok (y, n)) → (x ≡ y) × (m ≡ n)
ok_parts {X} {x} {y} {m} {n} e =
    let p : ◌≡◌ {A = X × ℕ} (x, m) (y, n) = cc in
    (ap (λ q. q.0) p, ap (λ q. q.1) p)

-- a value w that has no bytes, and is the only one
pub plain_lawful : {V W : Type 0} (κ : Kind V W) (v : V) (w : W) → ((bs : List ℕ) (at : ℕ) → κ.reads bs at ≡ Ok (v, at)) → ((bs : List ℕ) → κ.shown bs v ≡ w) → κ.fields w ≡ [] → ((x : W) → κ.good x → w ≡ x) → κ.good w → Lawful κ
plain_lawful {V} {W} κ v w reads shows fields only good =
    record {
      returns = λ x g before rest.
          let P : W → Type 0 = λ y. (u : V) × (κ.reads (before ++ (bytes_of κ y ++ rest)) (length before) ≡ Ok (u, length before + length (bytes_of κ y))) × (κ.shown (before ++ (bytes_of κ y ++ rest)) u ≡ y) in
          let none : length before ≡ length before + length (bytes_of κ w) = omega (arith, ap (λ fs. length (flat fs)) fields) in
          subst P (only x g) (v, reads _ _ ∙ ap (λ n. Ok (v, n)) none, shows _);
      unique = λ bs typed at end x h e.
          let same = ok_parts (sym (reads bs at) ∙ e) in
          let last = same.1 in
          let none : end - at ≡ 0 = omega arith in
          let is : w ≡ κ.shown bs x = sym (shows bs) ∙ ap (κ.shown bs) same.0 in
          let P : W → Type 0 = λ y. κ.good y × (bytes_of κ y ≡ take (end - at) (drop at bs)) in
          let all = subst P is (good, ap flat fields ∙ ap (λ n. take n (drop at bs)) (sym none)) in
          (omega arith, omega arith, all.0, all.1);
      cut = λ x g before k h.
          let empty : length (bytes_of κ x) ≡ 0 = ap (λ y. length (bytes_of κ y)) (sym (only x g)) ∙ ap (λ fs. length (flat fs)) fields in
          absurd (omega arith);
    }

-- a front and a part of what stands behind it
joint : (F G : List ℕ) (j : ℕ) → take (length F) (F ++ G) ++ take j (drop (length F) (F ++ G)) ≡ F ++ take j G
joint F G j = ap (λ l. l ++ take j (drop (length F) (F ++ G))) (take_at F G (length F) refl) ∙ ap (λ l. F ++ take j l) (drop_at F G (length F) refl)

pair_fields : {X Y : Type 0} (f : X → ℕ → Result Y ByteFault) (r : Result (X × ℕ) ByteFault) (x : X) (p : ℕ) (z : Result Y ByteFault) → r ≡ Ok (x, p) → f x p ≡ z → and_then r f ≡ z
pair_fields f r x p z e q = rw e q

module _ {V W X Y : Type 0} (κ : Kind V W) (μ : Kind X Y) (p : Lawful κ) (q : Lawful μ) where
  both_returns : (w : W) (y : Y) → κ.good w → μ.good y → (before rest whole : List ℕ) → whole ≡ before ++ (bytes_of κ w ++ (bytes_of μ y ++ rest)) →
      (v : V × X) × (both_at κ.reads μ.reads whole (length before) ≡ Ok (v, length before + (length (bytes_of κ w) + length (bytes_of μ y)))) × (◌≡◌ {A = W × Y} (κ.shown whole v.0, μ.shown whole v.1) (w, y))
  both_returns w y g h before rest whole is =
      let F = bytes_of κ w in
      let G = bytes_of μ y in
      let a = p.returns w g before (G ++ rest) in
      let b = q.returns y h (before ++ F) rest in
      let second : whole ≡ (before ++ F) ++ (G ++ rest) = is ∙ sym (append_assoc before F (G ++ rest)) in
      let len = length-append before F in
      let read_first : κ.reads whole (length before) ≡ Ok (a.0, length before + length F) = ap (λ l. κ.reads l (length before)) is ∙ a.1 in
      let read_next : μ.reads whole (length before + length F) ≡ Ok (b.0, length (before ++ F) + length G) = ap (λ l. μ.reads l (length before + length F)) second ∙ ap (λ n. μ.reads ((before ++ F) ++ (G ++ rest)) n) (sym len) ∙ b.1 in
      let end : length (before ++ F) + length G ≡ length before + (length F + length G) = omega arith in
      let shown-first : κ.shown whole a.0 ≡ w = ap (λ l. κ.shown l a.0) is ∙ a.2 in
      let shown-next : μ.shown whole b.0 ≡ y = ap (λ l. μ.shown l b.0) second ∙ b.2 in
      let next : and_then (μ.reads whole (length before + length F)) (λ u e. Ok ((a.0, u), e)) ≡ Ok ((a.0, b.0), length before + (length F + length G)) = rw read_next (ap (λ n. Ok ((a.0, b.0), n)) end) in
      ((a.0, b.0), pair_fields (λ x o. and_then (μ.reads whole o) (λ u e. Ok ((x, u), e))) (κ.reads whole (length before)) a.0 _ _ read_first next, cc)

  both_unique : (bs : List ℕ) → Bytes bs → (at mid end : ℕ) (v : V) (x : X) → at ≤ length bs → κ.reads bs at ≡ Ok (v, mid) → μ.reads bs mid ≡ Ok (x, end) →
      (at ≤ end) × (end ≤ length bs) × (κ.good (κ.shown bs v) × μ.good (μ.shown bs x)) × (flat (κ.fields (κ.shown bs v) ++ μ.fields (μ.shown bs x)) ≡ take (end - at) (drop at bs))
  both_unique bs typed at mid end v x h e f =
      let a = p.unique bs typed at mid v h e in
      let b = q.unique bs typed mid end x a.1 f in
      let low = a.0 in
      let high = b.0 in
      let way : at + (mid - at) ≡ mid = omega arith in
      let count : end - at ≡ (mid - at) + (end - mid) = omega arith in
      let behind : drop mid bs ≡ drop (mid - at) (drop at bs) = sym (drop-drop (mid - at) at bs ∙ ap (λ n. drop n bs) way) in
      let is = flat_append (κ.fields (κ.shown bs v)) (μ.fields (μ.shown bs x)) ∙ ap (λ l. l ++ bytes_of μ (μ.shown bs x)) a.3 ∙ ap (λ l. take (mid - at) (drop at bs) ++ l) b.3
      ∙ ap (λ l. take (mid - at) (drop at bs) ++ take (end - mid) l) behind ∙ sym (take-add (mid - at) (end - mid) (drop at bs)) ∙ ap (λ n. take n (drop at bs)) (sym count) in
      (omega arith, b.1, (a.2, b.2), is)

  both_cut : (w : W) (y : Y) → κ.good w → μ.good y → (before : List ℕ) (k : ℕ) → k < length (bytes_of κ w) + length (bytes_of μ y) → (part : List ℕ) → part ≡ take k (bytes_of κ w ++ bytes_of μ y) →
      both_at κ.reads μ.reads (before ++ part) (length before) ≡ fault Short (length before + field_start (κ.fields w ++ μ.fields y) k)
  both_cut w y g h before k below part is =
      let F = bytes_of κ w in
      let G = bytes_of μ y in
      ⊎_elim
      (λ inside.
      let early : part ≡ take k F = is ∙ take-append-le k F G (omega arith) in
      let at = p.cut w g before k inside in
      let place = start_left (κ.fields w) (μ.fields y) k inside in
      stops _ _ _ (ap (λ l. κ.reads (before ++ l) (length before)) early ∙ at ∙ ap (λ n. fault Short (length before + n)) (sym place)))
      (λ past.
      let j = k - length F in
      let more : k ≡ length F + j = omega arith in
      let late : part ≡ F ++ take j G = is ∙ ap (λ n. take n (F ++ G)) more ∙ take-add (length F) j (F ++ G) ∙ joint F G j in
      let a = p.returns w g before (take j G) in
      let b = q.cut y h (before ++ F) j (omega arith) in
      let len = length-append before F in
      let read_first : κ.reads (before ++ part) (length before) ≡ Ok (a.0, length before + length F) = ap (λ l. κ.reads (before ++ l) (length before)) late ∙ a.1 in
      let place = start_right (κ.fields w) (μ.fields y) k past in
      let where-at : length (before ++ F) + field_start (μ.fields y) j ≡ length before + field_start (κ.fields w ++ μ.fields y) k = omega arith in
      let read_next : μ.reads (before ++ part) (length before + length F) ≡ fault Short (length before + field_start (κ.fields w ++ μ.fields y) k) =
      ap (λ l. μ.reads (before ++ l) (length before + length F)) late ∙ ap (λ l. μ.reads l (length before + length F)) (sym (append_assoc before F (take j G))) ∙ ap (λ n. μ.reads ((before ++ F) ++ take j G) n) (sym len) ∙ b ∙ ap (λ n. fault Short n) where-at in
      pair_fields (λ x o. and_then (μ.reads (before ++ part) o) (λ u e. Ok ((x, u), e))) (κ.reads (before ++ part) (length before)) a.0 _ _ read_first (stops _ _ _ read_next))
      (cases_lt k (length F))

  pub both_lawful : Lawful (both_kind κ μ)
  both_lawful =
      record {
        returns = λ w good before rest.
            let is = flat_append (κ.fields w.0) (μ.fields w.1) in
            let whole = before ++ (flat (κ.fields w.0 ++ μ.fields w.1) ++ rest) in
            let long : length (bytes_of κ w.0) + length (bytes_of μ w.1) ≡ length (flat (κ.fields w.0 ++ μ.fields w.1)) = omega (arith, ap length is, length-append (bytes_of κ w.0) (bytes_of μ w.1)) in
            let r = both_returns w.0 w.1 good.0 good.1 before rest whole (ap (λ l. before ++ (l ++ rest)) is ∙ ap (λ l. before ++ l) (append_assoc (bytes_of κ w.0) (bytes_of μ w.1) rest)) in
            (r.0, r.1 ∙ ap (λ n. Ok (r.0, length before + n)) long, r.2);
        unique = λ bs typed at end v h e.
            let a = went_on (κ.reads bs at) (λ x o. and_then (μ.reads bs o) (λ u z. Ok ((x, u), z))) v end e in
            let b = went_on (μ.reads bs a.1) (λ u z. Ok ((a.0, u), z)) v end a.3 in
            let is = (ok_parts b.3).0 in
            let last = (ok_parts b.3).1 in
            let P : V × X → Type 0 = λ u. (at ≤ end) × (end ≤ length bs) × (κ.good (κ.shown bs u.0) × μ.good (μ.shown bs u.1)) × (flat (κ.fields (κ.shown bs u.0) ++ μ.fields (μ.shown bs u.1)) ≡ take (end - at) (drop at bs)) in
            subst P is (both_unique bs typed at a.1 end a.0 b.0 h a.2 (b.2 ∙ ap (λ n. Ok (b.0, n)) last));
        cut = λ w good before k h.
            let is = flat_append (κ.fields w.0) (μ.fields w.1) in
            both_cut w.0 w.1 good.0 good.1 before k (omega (arith, ap length is, length-append (bytes_of κ w.0) (bytes_of μ w.1))) _ (ap (take k) is);
      }

made_end : {V V' : Type 0} (f : V → V') (r : Result (V × ℕ) ByteFault) (v' : V') (end : ℕ) → made f r ≡ Ok (v', end) → (v : V) × (r ≡ Ok (v, end)) × (f v ≡ v')
made_end f (Ok x) v' end e = (x.0, ap (λ n. Ok (x.0, n)) (ok_parts e).1, (ok_parts e).0)
made_end f (Err x) v' end e = let z : ◌≡◌ {A = ℕ} 0 1 = cc in absurd (omega arith)

-- the same value under another name: f names what is read, g what is meant
module _ {V W V' W' : Type 0} (κ : Kind V W) (μ : Kind V' W') (f : V → V') (g : W → W')
    (reads : (bs : List ℕ) (at : ℕ) → μ.reads bs at ≡ made f (κ.reads bs at))
    (shows : (bs : List ℕ) (v : V) → μ.shown bs (f v) ≡ g (κ.shown bs v))
    (fields : (w : W) → μ.fields (g w) ≡ κ.fields w)
    (from : (w' : W') → μ.good w' → (w : W) × (g w ≡ w') × κ.good w)
    (into : (w : W) → κ.good w → μ.good (g w)) where
  made_returns : Lawful κ → (w : W) → κ.good w → (before rest : List ℕ) →
      (v : V') × (μ.reads (before ++ (bytes_of μ (g w) ++ rest)) (length before) ≡ Ok (v, length before + length (bytes_of μ (g w)))) × (μ.shown (before ++ (bytes_of μ (g w) ++ rest)) v ≡ g w)
  made_returns p w h before rest =
      let a = p.returns w h before rest in
      let same : bytes_of μ (g w) ≡ bytes_of κ w = ap flat (fields w) in
      let whole : before ++ (bytes_of μ (g w) ++ rest) ≡ before ++ (bytes_of κ w ++ rest) = ap (λ l. before ++ (l ++ rest)) same in
      let read = reads (before ++ (bytes_of μ (g w) ++ rest)) (length before) ∙ ap (λ l. made f (κ.reads l (length before))) whole ∙ ap (made f) a.1 ∙ ap (λ n. Ok (f a.0, length before + n)) (ap length (sym same)) in
      (f a.0, read, shows _ a.0 ∙ ap (λ l. g (κ.shown l a.0)) whole ∙ ap g a.2)

  made_cut : Lawful κ → (w : W) → κ.good w → (before : List ℕ) (k : ℕ) → k < length (bytes_of μ (g w)) →
      μ.reads (before ++ take k (bytes_of μ (g w))) (length before) ≡ fault Short (length before + field_start (μ.fields (g w)) k)
  made_cut p w h before k below =
      let same : bytes_of μ (g w) ≡ bytes_of κ w = ap flat (fields w) in
      reads _ _ ∙ ap (λ l. made f (κ.reads (before ++ take k l) (length before))) same ∙ ap (made f) (p.cut w h before k (omega (arith, ap length same))) ∙ ap (λ fs. fault Short (length before + field_start fs k)) (sym (fields w))

  pub made_lawful : Lawful κ → Lawful μ
  made_lawful p =
      record {
        returns = λ w' good before rest.
            let s = from w' good in
            let P : W' → Type 0 = λ u. (v : V') × (μ.reads (before ++ (bytes_of μ u ++ rest)) (length before) ≡ Ok (v, length before + length (bytes_of μ u))) × (μ.shown (before ++ (bytes_of μ u ++ rest)) v ≡ u) in
            subst P s.1 (made_returns p s.0 s.2 before rest);
        unique = λ bs typed at end v' h e.
            let s = made_end f (κ.reads bs at) v' end (sym (reads bs at) ∙ e) in
            let u = p.unique bs typed at end s.0 h s.1 in
            let shown-is : g (κ.shown bs s.0) ≡ μ.shown bs v' = sym (shows bs s.0) ∙ ap (μ.shown bs) s.2 in
            let P : W' → Type 0 = λ z. μ.good z × (bytes_of μ z ≡ take (end - at) (drop at bs)) in
            let all = subst P shown-is (into (κ.shown bs s.0) u.2, ap flat (fields (κ.shown bs s.0)) ∙ u.3) in
            (u.0, u.1, all.0, all.1);
        cut = λ w' good before k h.
            let s = from w' good in
            let P : W' → Type 0 = λ u. k < length (bytes_of μ u) → μ.reads (before ++ take k (bytes_of μ u)) (length before) ≡ fault Short (length before + field_start (μ.fields u) k) in
            subst P s.1 (made_cut p s.0 s.2 before k) h;
      }

chosen_end : {X : Type 0} (o : Option (List ℕ → ℕ → Result (X × ℕ) ByteFault)) (at : ℕ) (bs : List ℕ) (p : ℕ) (x : X) (end : ℕ) → chosen o at bs p ≡ Ok (x, end) →
    (r : List ℕ → ℕ → Result (X × ℕ) ByteFault) × (o ≡ Some r) × (r bs p ≡ Ok (x, end))
chosen_end None at bs p x end e = let z : ◌≡◌ {A = ℕ} 0 1 = cc in absurd (omega arith)
chosen_end (Some r) at bs p x end e = (r, refl, e)

some_is : {X : Type 0} {x y : X} → ◌≡◌ {A = Option X} (Some x) (Some y) → x ≡ y
some_is e = cc

tag_start : (fs : List (List ℕ)) (t k : ℕ) → field_start ((t ∷ []) ∷ fs) (suc k) ≡ 1 + field_start fs k
tag_start fs t k = let same : suc k - 1 ≡ k = omega arith in rw (le-ltb (suc k) 1 (omega arith), same)

-- a tag and what stands behind it
module _ {V W : Type 0} (μ : Kind V W) (cases : List (List ℕ → ℕ → Result (V × ℕ) ByteFault)) (tag : W → ℕ) (payload : W → List (List ℕ)) where
  -- the kind of what stands behind the tag t
  abbrev pub behind : ℕ → (List ℕ → ℕ → Result (V × ℕ) ByteFault) → Kind V W
  behind t r = record { reads = r; shown = μ.shown; fields = payload; good = λ w. μ.good w × (tag w ≡ t) }

  -- every case is lawful, the first with tag i
  abbrev pub Cases : ℕ → List (List ℕ → ℕ → Result (V × ℕ) ByteFault) → Type 0
  Cases i [] = Unit {0}
  Cases i (r ∷ rs) = Lawful (behind i r) × Cases (i + 1) rs

  case_lawful : (i : ℕ) (rs : List (List ℕ → ℕ → Result (V × ℕ) ByteFault)) → Cases i rs → (t : ℕ) (r : List ℕ → ℕ → Result (V × ℕ) ByteFault) → by_tag i rs t ≡ Some r → Lawful (behind t r)
  case_lawful i [] all t r e = let z : ◌≡◌ {A = ℕ} 0 1 = cc in absurd (omega arith)
  case_lawful i (s ∷ rs) all t r e =
      ⊎_elim
      (λ yes-it.
      let at : t ≡ i = eqb-true t i yes-it in
      let same : s ≡ r = some_is (sym (cond-true (eqb t i) (Some s) (by_tag (i + 1) rs t) yes-it) ∙ e) in
      let P : (List ℕ → ℕ → Result (V × ℕ) ByteFault) → Type 0 = λ u. Lawful (behind t u) in
      let Q : ℕ → Type 0 = λ n. Lawful (behind n s) in
      subst P same (subst Q (sym at) all.0))
      (λ other. case_lawful (i + 1) rs all.1 t r (sym (cond-false (eqb t i) (Some s) (by_tag (i + 1) rs t) other) ∙ e))
      (cases_Bool (eqb t i))

  module _ (reads : (bs : List ℕ) (at : ℕ) → μ.reads bs at ≡ tagged_at cases bs at)
      (fields : (w : W) → μ.fields w ≡ (tag w ∷ []) ∷ payload w)
      (known : (w : W) → μ.good w → (r : List ℕ → ℕ → Result (V × ℕ) ByteFault) × (by_tag 0 cases (tag w) ≡ Some r))
      (lawful : Cases 0 cases) where
    -- a tag that was read leads to its case
    led : (bs : List ℕ) (at t : ℕ) (r : List ℕ → ℕ → Result (V × ℕ) ByteFault) → byte_at bs at ≡ Ok (t, at + 1) → by_tag 0 cases t ≡ Some r → μ.reads bs at ≡ r bs (at + 1)
    led bs at t r e k = reads bs at ∙ goes_on _ (λ b end. chosen (by_tag 0 cases b) at bs end) t (at + 1) e ∙ ap (λ o. chosen o at bs (at + 1)) k

    tagged_returns : (w : W) → μ.good w → (before rest : List ℕ) →
        (v : V) × (μ.reads (before ++ (bytes_of μ w ++ rest)) (length before) ≡ Ok (v, length before + length (bytes_of μ w))) × (μ.shown (before ++ (bytes_of μ w ++ rest)) v ≡ w)
    tagged_returns w good before rest =
        let k = known w good in
        let t = tag w in
        let F = flat (payload w) in
        let same : bytes_of μ w ≡ t ∷ F = ap flat (fields w) in
        let whole : before ++ (bytes_of μ w ++ rest) ≡ before ++ (t ∷ (F ++ rest)) = ap (λ l. before ++ (l ++ rest)) same in
        let moved : before ++ (bytes_of μ w ++ rest) ≡ (before ++ t ∷ []) ++ (F ++ rest) = whole ∙ sym (append_assoc before (t ∷ []) (F ++ rest)) in
        let a = (case_lawful 0 cases lawful t k.0 k.1).returns w (good, refl) (before ++ t ∷ []) rest in
        let len = length-append before (t ∷ []) in
        let bs = before ++ (bytes_of μ w ++ rest) in
        let first : byte_at bs (length before) ≡ Ok (t, length before + 1) = ap (λ l. byte_at l (length before)) whole ∙ byte_here before t (F ++ rest) in
        let end : length (before ++ t ∷ []) + length F ≡ length before + length (bytes_of μ w) = omega (arith, ap length same) in
        let next : length before + 1 ≡ length (before ++ t ∷ []) = omega arith in
        (a.0, led bs (length before) t k.0 first k.1 ∙ ap (λ l. k.0 l (length before + 1)) moved ∙ ap (λ n. k.0 ((before ++ t ∷ []) ++ (F ++ rest)) n) next ∙ a.1 ∙ ap (λ n. Ok (a.0, n)) end, ap (λ l. μ.shown l a.0) moved ∙ a.2)

    tagged_unique : (bs : List ℕ) → Bytes bs → (at end : ℕ) (v : V) → at ≤ length bs → μ.reads bs at ≡ Ok (v, end) →
        (at ≤ end) × (end ≤ length bs) × μ.good (μ.shown bs v) × (bytes_of μ (μ.shown bs v) ≡ take (end - at) (drop at bs))
    tagged_unique bs typed at end v h e =
        let a = went_on (byte_at bs at) (λ b o. chosen (by_tag 0 cases b) at bs o) v end (sym (reads bs at) ∙ e) in
        let t = a.0 in
        let b = byte_end bs at t a.1 a.2 in
        let c = chosen_end (by_tag 0 cases t) at bs a.1 v end a.3 in
        let u = (case_lawful 0 cases lawful t c.0 c.1).unique bs typed a.1 end v (omega arith) c.2 in
        let w = μ.shown bs v in
        let low = u.0 in
        let behind-is : flat (payload w) ≡ take (end - (at + 1)) (drop (at + 1) bs) = u.3 ∙ ap (λ n. take (end - n) (drop n bs)) b.2 in
        let first : tag w ≡ get_or bs at 0 = u.2.1 ∙ b.1 in
        let count : end - at ≡ 1 + (end - (at + 1)) = omega arith in
        let part : take (end - at) (drop at bs) ≡ get_or bs at 0 ∷ take (end - (at + 1)) (drop (at + 1) bs) =
        ap (λ n. take n (drop at bs)) count ∙ take-add 1 (end - (at + 1)) (drop at bs) ∙ ap (λ l. take 1 l ++ take (end - (at + 1)) (drop 1 l)) (drop_more bs at 0 b.0) in
        (omega arith, u.1, u.2.0, ap flat (fields w) ∙ ap (λ n. n ∷ flat (payload w)) first ∙ ap (λ l. get_or bs at 0 ∷ l) behind-is ∙ sym part)

    tagged_cut : (w : W) → μ.good w → (before : List ℕ) (k : ℕ) → k < length (bytes_of μ w) →
        μ.reads (before ++ take k (bytes_of μ w)) (length before) ≡ fault Short (length before + field_start (μ.fields w) k)
    tagged_cut w good before zero below =
        reads _ _ ∙ stops _ _ _ (byte_none before) ∙ ap (λ n. fault Short n) (omega (arith, ap (λ fs. field_start fs 0) (fields w)))
    tagged_cut w good before (suc k) below =
        let o = known w good in
        let t = tag w in
        let F = flat (payload w) in
        let same : bytes_of μ w ≡ t ∷ F = ap flat (fields w) in
        let bs = before ++ take (suc k) (bytes_of μ w) in
        let whole : bs ≡ before ++ (t ∷ take k F) = ap (λ l. before ++ take (suc k) l) same in
        let moved : bs ≡ (before ++ t ∷ []) ++ take k F = whole ∙ sym (append_assoc before (t ∷ []) (take k F)) in
        let a = (case_lawful 0 cases lawful t o.0 o.1).cut w (good, refl) (before ++ t ∷ []) k (omega (arith, ap length same)) in
        let len = length-append before (t ∷ []) in
        let first : byte_at bs (length before) ≡ Ok (t, length before + 1) = ap (λ l. byte_at l (length before)) whole ∙ byte_here before t (take k F) in
        let next : length before + 1 ≡ length (before ++ t ∷ []) = omega arith in
        let place : field_start ((t ∷ []) ∷ payload w) (suc k) ≡ 1 + field_start (payload w) k = tag_start (payload w) t k in
        let where-at : length (before ++ t ∷ []) + field_start (payload w) k ≡ length before + field_start (μ.fields w) (suc k) = omega (arith, ap (λ fs. field_start fs (suc k)) (fields w)) in
        led bs (length before) t o.0 first o.1 ∙ ap (λ l. o.0 l (length before + 1)) moved ∙ ap (λ n. o.0 ((before ++ t ∷ []) ++ take k F) n) next ∙ a ∙ ap (λ n. fault Short n) where-at

    pub tagged_lawful : Lawful μ
    tagged_lawful = record { returns = tagged_returns; unique = tagged_unique; cut = tagged_cut }
