-- Reading the leaves of token trees: the fields of each type in their order.
use Rattle.std.specs.Prelude.{ℕ, Bool, List, Option, Result}
use Rattle.fault.specs.declared.ByteFault.{ByteFault}
use Rattle.rpc.specs.Wire.{byte_at, flag_at, option_at, made_at, both_at}
use Rattle.token.specs.declared.kinds.LitKind.{LitKind}
use Rattle.leaf.specs.declared.Punct.{Punct}
use Rattle.leaf.specs.declared.Ident.{Ident}
use Rattle.leaf.specs.declared.Literal.{Literal}
use Rattle.token.specs.Reads.{lit_kind_at}

module _ {Sp : Type 0} where
  abbrev pub punct : ℕ × (Bool × Sp) → Punct Sp
  punct p = record { ch = p.0; joint = p.1.0; span = p.1.1 }

  abbrev pub punct_at : (List ℕ → ℕ → Result (Sp × ℕ) ByteFault) → List ℕ → ℕ → Result (Punct Sp × ℕ) ByteFault
  punct_at sp bs at = made_at punct (both_at byte_at (both_at flag_at sp)) bs at

module _ {Sp Sy : Type 0} where
  abbrev pub ident : Sy × (Bool × Sp) → Ident Sp Sy
  ident p = record { sym = p.0; is_raw = p.1.0; span = p.1.1 }

  abbrev pub ident_at : (List ℕ → ℕ → Result (Sp × ℕ) ByteFault) → (List ℕ → ℕ → Result (Sy × ℕ) ByteFault) → List ℕ → ℕ → Result (Ident Sp Sy × ℕ) ByteFault
  ident_at sp sy bs at = made_at ident (both_at sy (both_at flag_at sp)) bs at

  abbrev pub literal : LitKind × (Sy × (Option Sy × Sp)) → Literal Sp Sy
  literal p = record { kind = p.0; symbol = p.1.0; suffix = p.1.1.0; span = p.1.1.1 }

  abbrev pub literal_at : (List ℕ → ℕ → Result (Sp × ℕ) ByteFault) → (List ℕ → ℕ → Result (Sy × ℕ) ByteFault) → List ℕ → ℕ → Result (Literal Sp Sy × ℕ) ByteFault
  literal_at sp sy bs at = made_at literal (both_at lit_kind_at (both_at sy (both_at (option_at sy) sp))) bs at
