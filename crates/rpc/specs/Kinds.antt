-- The fields as kinds of value: what is read, what is written, and which values can be written.
use Rattle.std.specs.Prelude.{◌≡◌, ℕ, ◌+◌, ◌^◌, ◌<◌, Bool, true, cond, ◌&&◌, List, [], ◌∷◌, ◌++◌, length, take, drop, Some, None, Option, nat_le}
use Rattle.std.specs.Option.{option_map}
use Rattle.text.specs.Grammar.{is_utf8}
use Rattle.rpc.specs.declared.Handle.{Handle}
use Rattle.rpc.specs.declared.Text.{Text}
use Rattle.rpc.specs.Written.{flag_byte}
use Rattle.rpc.specs.Wire.{byte_at, flag_at, number_at, handle_at, text_at, both_at, option_at}
use Rattle.rpc.specs.Laws.{Kind, le}

abbrev pub byte_kind : Kind ℕ ℕ
byte_kind = record { reads = byte_at; shown = λ bs b. b; fields = λ b. (b ∷ []) ∷ []; good = λ b. b < 256 }

abbrev pub number_kind : ℕ → Kind ℕ ℕ
number_kind k = record { reads = number_at k; shown = λ bs n. n; fields = λ n. le k n ∷ []; good = λ n. n < 256 ^ k }

abbrev pub handle_kind : Kind Handle Handle
handle_kind = record { reads = handle_at; shown = λ bs h. h; fields = λ h. le 4 h.number ∷ []; good = λ h. (h.number < 256 ^ 4) × (0 < h.number) }

-- the bytes of a text that lies in a piece
abbrev pub text_in : List ℕ → Text → List ℕ
text_in bs t = take t.length (drop t.place bs)

-- the bytes of a text that lies in a piece, or none
abbrev pub text_within : List ℕ → Text → Option (List ℕ)
text_within bs t = cond (nat_le (t.place + t.length) (length bs)) (Some (text_in bs t)) None

-- a text that lies in a piece and is UTF-8, or none
abbrev pub in_piece : List ℕ → Text → Option (List ℕ)
in_piece bs t = cond (nat_le (t.place + t.length) (length bs) && is_utf8 (text_in bs t)) (Some (text_in bs t)) None

-- a text, or no bytes where there is none
abbrev pub text_or : Option (List ℕ) → List ℕ
text_or None = []
text_or (Some t) = t

abbrev pub GoodText : Option (List ℕ) → Type 0
GoodText None = ⊥
GoodText (Some t) = (length t < 256 ^ 8) × (is_utf8 t ≡ true)

abbrev pub text_kind : Kind Text (Option (List ℕ))
text_kind = record { reads = text_at; shown = in_piece; fields = λ o. le 8 (length (text_or o)) ∷ text_or o ∷ []; good = GoodText }

-- one value and then another
abbrev pub both_kind : {V W X Y : Type 0} → Kind V W → Kind X Y → Kind (V × X) (W × Y)
both_kind κ μ =
    record {
      reads = both_at κ.reads μ.reads;
      shown = λ bs v. (κ.shown bs v.0, μ.shown bs v.1);
      fields = λ w. κ.fields w.0 ++ μ.fields w.1;
      good = λ w. κ.good w.0 × μ.good w.1;
    }

abbrev pub flag_kind : Kind Bool Bool
flag_kind = record { reads = flag_at; shown = λ bs b. b; fields = λ b. (flag_byte b ∷ []) ∷ []; good = λ b. Unit {0} }

module _ {W : Type 0} where
  abbrev pub OptionGood : (W → Type 0) → Option W → Type 0
  OptionGood good None = Unit {0}
  OptionGood good (Some w) = good w

  -- 00 stands before a value, and 01 for none
  abbrev pub option_fields : (W → List (List ℕ)) → Option W → List (List ℕ)
  option_fields fields None = (1 ∷ []) ∷ []
  option_fields fields (Some w) = (0 ∷ []) ∷ fields w

abbrev pub option_kind : {V W : Type 0} → Kind V W → Kind (Option V) (Option W)
option_kind κ = record { reads = option_at κ.reads; shown = λ bs o. option_map (κ.shown bs) o; fields = option_fields κ.fields; good = OptionGood κ.good }
