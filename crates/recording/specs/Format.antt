-- The format of a line: what each line of a recording is.
use Rattle.std.specs.Prelude.{ℕ, ◌+◌, ◌-◌, ◌*◌, ◌%◌, Bool, true, cond, not, ◌&&◌, List, [], ◌∷◌, length, take, drop, is_some, Some, None, codes, Option, ◌==◌, nat_le, nat_lt}
use Rattle.std.specs.Option.{unwrap_or}
use Rattle.std.specs.List.{find, prefix_len}
use Rattle.std.specs.Str.{bytes_eq}
use Rattle.recording.specs.declared.Kind.{Kind}
use Rattle.recording.specs.declared.Kind.TheVariants.{Tree, Literal, Stream, Span, Symbol}
use Rattle.recording.specs.declared.LineFault.{LineFault}
use Rattle.recording.specs.declared.LineFault.TheVariants.{UnknownKind, NoBytes, NotHex, OddHex}

-- what a line is: passed over, a value of a kind with its bytes, or a bad line with the reason
pub data Meaning : Type 0 where
  passed : Meaning
  value : Kind → List ℕ → Meaning
  bad : LineFault → Meaning

-- the word of a kind
abbrev pub name_of : Kind → List ℕ
name_of Tree = codes "tree"
name_of Literal = codes "literal"
name_of Stream = codes "stream"
name_of Span = codes "span"
name_of Symbol = codes "symbol"

abbrev pub kinds : List Kind
kinds = Tree ∷ Literal ∷ Stream ∷ Span ∷ Symbol ∷ []

-- the kind that a word names
abbrev pub kind_named : List ℕ → Option Kind
kind_named word = find (λ k. bytes_eq word (name_of k)) kinds

-- what a digit is worth: 0 to 9, and then a to f
abbrev pub digit_of : ℕ → Option ℕ
digit_of b = cond (nat_le 48 b && nat_le b 57) (Some (b - 48)) (cond (nat_le 97 b && nat_le b 102) (Some (b - 97 + 10)) None)

abbrev pub is_digit : ℕ → Bool
is_digit b = is_some (digit_of b)

-- how many digits stand before the first byte that is none
abbrev pub hex_length : List ℕ → ℕ
hex_length text = prefix_len is_digit text

-- two digits to a byte, the high digit first; what is no digit counts as 0, and a last digit alone as nothing
abbrev pub paired : List ℕ → List ℕ
paired [] = []
paired (high ∷ []) = []
paired (high ∷ low ∷ rest) = (16 * unwrap_or (digit_of high) 0 + unwrap_or (digit_of low) 0) ∷ paired rest

-- what a text that is not empty is, which stands in the line from the index `from` on
abbrev pub spelled : Kind → ℕ → List ℕ → Meaning
spelled kind from text =
    cond (bytes_eq text (codes ".")) (value kind [])
    (cond (nat_lt (hex_length text) (length text)) (bad (NotHex (from + hex_length text)))
    (cond (length text % 2 == 1) (bad OddHex)
    (value kind (paired text))))

-- what the text behind the space is
abbrev pub value_of : Kind → ℕ → List ℕ → Meaning
value_of kind from [] = bad NoBytes
value_of kind from (b ∷ rest) = spelled kind from (b ∷ rest)

abbrev pub value_behind : Kind → ℕ → List ℕ → Meaning
value_behind kind from line = value_of kind from (drop from line)

-- how many bytes stand before the first space
abbrev pub word_length : List ℕ → ℕ
word_length line = prefix_len (λ b. not (b == 32)) line

-- the line whose word, of `n` bytes, names the kind
abbrev pub behind : Option Kind → ℕ → List ℕ → Meaning
behind None n line = bad UnknownKind
behind (Some kind) n line = value_behind kind (n + 1) line

-- blank, or a comment
abbrev pub is_passed : List ℕ → Bool
is_passed [] = true
is_passed (b ∷ rest) = bytes_eq (codes "--") (take 2 (b ∷ rest))

abbrev pub line_of : List ℕ → Meaning
line_of line =
    cond (is_passed line) passed (behind (kind_named (take (word_length line) line)) (word_length line) line)
