-- The tags of the cases, from 00 upwards in their order.
use Rattle.std.specs.Prelude.{ℕ, zero, suc, List, [], ◌∷◌, Some, None, Ok, Err, Option, Result}
use Rattle.token.specs.declared.kinds.Delimiter.{Delimiter}
use Rattle.token.specs.declared.kinds.Delimiter.TheVariants as delimiter
use Rattle.token.specs.declared.kinds.Level.{Level}
use Rattle.token.specs.declared.kinds.Level.TheVariants as level
use Rattle.token.specs.declared.kinds.LitKind.{LitKind}
use Rattle.token.specs.declared.kinds.LitKind.TheVariants as kind
use Rattle.token.specs.declared.kinds.UnknownTag.{UnknownTag}

abbrev pub delimiter_tag : Delimiter → ℕ
delimiter_tag delimiter.Parenthesis = 0
delimiter_tag delimiter.Brace = 1
delimiter_tag delimiter.Bracket = 2
delimiter_tag delimiter.None = 3

abbrev pub level_tag : Level → ℕ
level_tag level.Error = 0
level_tag level.Warning = 1
level_tag level.Note = 2
level_tag level.Help = 3

-- the value that a tag stands for, of values in the order of their tags
abbrev pub tagged : {X : Type 0} → List X → ℕ → Result X UnknownTag
tagged [] tag = Err (record {})
tagged (x ∷ xs) zero = Ok x
tagged (x ∷ xs) (suc tag) = tagged xs tag

abbrev pub delimiter_tagged : ℕ → Result Delimiter UnknownTag
delimiter_tagged tag = tagged (delimiter.Parenthesis ∷ delimiter.Brace ∷ delimiter.Bracket ∷ delimiter.None ∷ []) tag

abbrev pub level_tagged : ℕ → Result Level UnknownTag
level_tagged tag = tagged (level.Error ∷ level.Warning ∷ level.Note ∷ level.Help ∷ []) tag

abbrev pub lit_kind_tag : LitKind → ℕ
lit_kind_tag kind.Byte = 0
lit_kind_tag kind.Char = 1
lit_kind_tag kind.Integer = 2
lit_kind_tag kind.Float = 3
lit_kind_tag kind.Str = 4
lit_kind_tag (kind.StrRaw n) = 5
lit_kind_tag kind.ByteStr = 6
lit_kind_tag (kind.ByteStrRaw n) = 7
lit_kind_tag kind.CStr = 8
lit_kind_tag (kind.CStrRaw n) = 9
lit_kind_tag kind.ErrWithGuar = 10

-- a raw kind's hashes
abbrev pub lit_kind_hashes : LitKind → Option ℕ
lit_kind_hashes kind.Byte = None
lit_kind_hashes kind.Char = None
lit_kind_hashes kind.Integer = None
lit_kind_hashes kind.Float = None
lit_kind_hashes kind.Str = None
lit_kind_hashes (kind.StrRaw n) = Some n
lit_kind_hashes kind.ByteStr = None
lit_kind_hashes (kind.ByteStrRaw n) = Some n
lit_kind_hashes kind.CStr = None
lit_kind_hashes (kind.CStrRaw n) = Some n
lit_kind_hashes kind.ErrWithGuar = None
