-- The words that a list is written with.
use Rattle.std.specs.Prelude.{ℕ, List, codes}
use Rattle.recording.specs.declared.LineFault.{LineFault}
use Rattle.recording.specs.declared.LineFault.TheVariants as line
use Rattle.token.specs.declared.kinds.Delimiter.{Delimiter}
use Rattle.token.specs.declared.kinds.Delimiter.TheVariants as delimiter
use Rattle.token.specs.declared.kinds.LitKind.{LitKind}
use Rattle.token.specs.declared.kinds.LitKind.TheVariants as kind

abbrev pub delimiter_name : Delimiter → List ℕ
delimiter_name delimiter.Parenthesis = codes "Parenthesis"
delimiter_name delimiter.Brace = codes "Brace"
delimiter_name delimiter.Bracket = codes "Bracket"
delimiter_name delimiter.None = codes "None"

abbrev pub literal_name : LitKind → List ℕ
literal_name kind.Byte = codes "Byte"
literal_name kind.Char = codes "Char"
literal_name kind.Integer = codes "Integer"
literal_name kind.Float = codes "Float"
literal_name kind.Str = codes "Str"
literal_name (kind.StrRaw n) = codes "StrRaw"
literal_name kind.ByteStr = codes "ByteStr"
literal_name (kind.ByteStrRaw n) = codes "ByteStrRaw"
literal_name kind.CStr = codes "CStr"
literal_name (kind.CStrRaw n) = codes "CStrRaw"
literal_name kind.ErrWithGuar = codes "ErrWithGuar"

abbrev pub fault_name : LineFault → List ℕ
fault_name line.UnknownKind = codes "unknown kind"
fault_name line.NoBytes = codes "no bytes"
fault_name (line.NotHex n) = codes "not hexadecimal"
fault_name line.OddHex = codes "odd hexadecimal"
