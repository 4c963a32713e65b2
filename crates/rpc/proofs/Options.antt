-- Truth values and optional values are lawful.
use Rattle.std.proofs.Common.{◌≡◌, ℕ, Bool, true, false, List, [], ◌∷◌, Some, None, Option, Result, refl, arith}
use Rattle.fault.specs.declared.ByteFault.{ByteFault}
use Rattle.rpc.specs.Wire.{plain_at, made_at, by_tag}
use Rattle.rpc.specs.Written.{flag_byte}
use Rattle.rpc.specs.Laws.{Kind, Lawful}
use Rattle.rpc.specs.Kinds.{flag_kind, option_kind, OptionGood}
use Rattle.rpc.proofs.Joins.{plain_lawful, made_lawful, tagged_lawful, behind}

-- the tag decides the truth value
flag_only : (i : ℕ) (b : Bool) → flag_byte b ≡ i → (x : Bool) → Unit {0} × (flag_byte x ≡ i) → b ≡ x
flag_only i true e true g = refl
flag_only i true e false g = let z = g.1 in absurd (omega arith)
flag_only i false e true g = let z = g.1 in absurd (omega arith)
flag_only i false e false g = refl

pub flag_lawful : Lawful flag_kind
flag_lawful =
    let cases = plain_at false ∷ plain_at true ∷ [] in
    let each : (i : ℕ) (b : Bool) → flag_byte b ≡ i → Lawful (behind flag_kind cases flag_byte (λ w. []) i (plain_at b)) = λ i b e. plain_lawful _ b b (λ bs at. refl) (λ bs. refl) refl (flag_only i b e) (tt, e) in
    tagged_lawful flag_kind cases flag_byte (λ w. []) (λ bs at. refl) (λ w. refl) known (each 0 false refl, (each 1 true refl, tt))
  where
    known : (w : Bool) → Unit {0} → (r : List ℕ → ℕ → Result (Bool × ℕ) ByteFault) × (by_tag 0 (plain_at false ∷ plain_at true ∷ []) (flag_byte w) ≡ Some r)
    known true g = (plain_at true, refl)
    known false g = (plain_at false, refl)

module _ {W : Type 0} where
  -- the tag of an optional value, and what stands behind it
  abbrev option_tag : Option W → ℕ
  option_tag None = 1
  option_tag (Some w) = 0

  abbrev option_payload : (W → List (List ℕ)) → Option W → List (List ℕ)
  option_payload fields None = []
  option_payload fields (Some w) = fields w

  option_none : (good : W → Type 0) (x : Option W) → OptionGood good x × (option_tag x ≡ 1) → None ≡ x
  option_none good None g = refl
  option_none good (Some w) g = let z = g.1 in absurd (omega arith)

  option_some : (good : W → Type 0) (x : Option W) → OptionGood good x × (option_tag x ≡ 0) → (w : W) × (Some w ≡ x) × good w
  option_some good None g = let z = g.1 in absurd (omega arith)
  option_some good (Some w) g = (w, refl, g.0)

module _ {V W : Type 0} (κ : Kind V W) where
  option_fields_lem : (w : Option W) → (option_kind κ).fields w ≡ (option_tag w ∷ []) ∷ option_payload κ.fields w
  option_fields_lem None = refl
  option_fields_lem (Some w) = refl

  option_known : (w : Option W) → OptionGood κ.good w → (r : List ℕ → ℕ → Result (Option V × ℕ) ByteFault) × (by_tag 0 (made_at Some κ.reads ∷ plain_at None ∷ []) (option_tag w) ≡ Some r)
  option_known None g = (plain_at None, refl)
  option_known (Some w) g = (made_at Some κ.reads, refl)

  pub option_lawful : Lawful κ → Lawful (option_kind κ)
  option_lawful p =
      let μ = option_kind κ in
      let cases = made_at Some κ.reads ∷ plain_at None ∷ [] in
      let payload = option_payload κ.fields in
      let some-case : Lawful (behind μ cases option_tag payload 0 (made_at Some κ.reads)) = made_lawful κ _ Some Some (λ bs at. refl) (λ bs v. refl) (λ w. refl) (option_some κ.good) (λ w g. (g, refl)) p in
      let none-case : Lawful (behind μ cases option_tag payload 1 (plain_at None)) = plain_lawful _ None None (λ bs at. refl) (λ bs. refl) refl (option_none κ.good) (tt, refl) in
      tagged_lawful μ cases option_tag payload (λ bs at. refl) option_fields_lem option_known (some-case, (none-case, tt))
