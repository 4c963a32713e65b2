-- Reading the small types of a tree: the cases by their tags from 00 upwards, the fields in their order.
use Rattle.std.specs.Prelude.{ℕ, List, [], ◌∷◌, Result}
use Rattle.fault.specs.declared.ByteFault.{ByteFault}
use Rattle.rpc.specs.Wire.{byte_at, tagged_at, plain_at, made_at, both_at}
use Rattle.token.specs.declared.kinds.Delimiter.{Delimiter}
use Rattle.token.specs.declared.kinds.Delimiter.TheVariants as delimiter
use Rattle.token.specs.declared.kinds.Level.{Level}
use Rattle.token.specs.declared.kinds.Level.TheVariants as level
use Rattle.token.specs.declared.kinds.LitKind.{LitKind}
use Rattle.token.specs.declared.kinds.LitKind.TheVariants as kind
use Rattle.token.specs.declared.kinds.DelimSpan.{DelimSpan}

abbrev pub delimiter_at : List ℕ → ℕ → Result (Delimiter × ℕ) ByteFault
delimiter_at bs at = tagged_at (plain_at delimiter.Parenthesis ∷ plain_at delimiter.Brace ∷ plain_at delimiter.Bracket ∷ plain_at delimiter.None ∷ []) bs at

abbrev pub level_at : List ℕ → ℕ → Result (Level × ℕ) ByteFault
level_at bs at = tagged_at (plain_at level.Error ∷ plain_at level.Warning ∷ plain_at level.Note ∷ plain_at level.Help ∷ []) bs at

-- the raw kinds have one more byte, any value
abbrev pub lit_kind_at : List ℕ → ℕ → Result (LitKind × ℕ) ByteFault
lit_kind_at bs at =
    tagged_at
    (plain_at kind.Byte
    ∷ plain_at kind.Char
    ∷ plain_at kind.Integer
    ∷ plain_at kind.Float
    ∷ plain_at kind.Str
    ∷ made_at kind.StrRaw byte_at
    ∷ plain_at kind.ByteStr
    ∷ made_at kind.ByteStrRaw byte_at
    ∷ plain_at kind.CStr
    ∷ made_at kind.CStrRaw byte_at
    ∷ plain_at kind.ErrWithGuar
    ∷ [])
    bs at

module _ {Sp : Type 0} where
  abbrev pub delim_span : Sp × (Sp × Sp) → DelimSpan Sp
  delim_span p = record { «open» = p.0; close = p.1.0; entire = p.1.1 }

  abbrev pub delim_span_at : (List ℕ → ℕ → Result (Sp × ℕ) ByteFault) → List ℕ → ℕ → Result (DelimSpan Sp × ℕ) ByteFault
  delim_span_at sp bs at = made_at delim_span (both_at sp (both_at sp sp)) bs at
