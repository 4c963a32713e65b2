-- A value's line, as it is written, is read as that value.
use Rattle.std.proofs.Common.{◌≡◌, ℕ, ◌*◌, ◌%◌, ◌<◌, List, [], ◌∷◌, length, Option, Some, None, IfSome, refl, ap, ◌∙◌, arith}
use Rattle.std.specs.List.{AllByRecursion}
use Rattle.std.proofs.lemmas.Bool.{and_right, le-ltb, ne_eqb}
use Rattle.recording.specs.declared.Kind.{Kind}
use Rattle.recording.specs.declared.Kind.TheVariants.{Tree, Literal, Stream, Span, Symbol}
use Rattle.recording.specs.Format.{Meaning, value, hex_length, paired, value_of, line_of}
use Rattle.recording.specs.Meaning.{Answers}
use Rattle.recording.specs.Written.{hex, bytes_written, written, ReadsBack}
use Rattle.recording.proofs.Bytes.{read_back}

digits : (bytes : List ℕ) → AllByRecursion (λ b. b < 256) bytes → hex_length (hex bytes) ≡ length (hex bytes)
digits [] h = refl
digits (b ∷ bytes) h = let r = read_back b h.0 in rw (r.0, r.1, digits bytes h.1) (omega arith)

even : (bytes : List ℕ) → length (hex bytes) ≡ 2 * length bytes
even [] = refl
even (b ∷ bytes) = omega (arith, even bytes)

odd : (bytes : List ℕ) → length (hex bytes) % 2 ≡ 1 → ⊥
odd bytes h = omega (arith, even bytes)

pairs : (bytes : List ℕ) → AllByRecursion (λ b. b < 256) bytes → paired (hex bytes) ≡ bytes
pairs [] h = refl
pairs (b ∷ bytes) h = cc ((read_back b h.0).2, pairs bytes h.1)

read : (kind : Kind) (from : ℕ) (bytes : List ℕ) → AllByRecursion (λ b. b < 256) bytes → value_of kind from (bytes_written bytes) ≡ value kind bytes
read kind from [] h = refl
read kind from (b ∷ bytes) h =
    let e = digits (b ∷ bytes) h in
    rw (and_right _ _ refl, e, le-ltb (length (hex (b ∷ bytes))) (length (hex (b ∷ bytes))) (omega arith), ne_eqb _ _ (odd (b ∷ bytes)), pairs (b ∷ bytes) h)

law : (kind : Kind) (bytes : List ℕ) → AllByRecursion (λ b. b < 256) bytes → line_of (written kind bytes) ≡ value kind bytes
law Tree bytes h = read Tree 5 bytes h
law Literal bytes h = read Literal 8 bytes h
law Stream bytes h = read Stream 7 bytes h
law Span bytes h = read Span 5 bytes h
law Symbol bytes h = read Symbol 7 bytes h

-- an answer that says what the line is reads it back
pub reads_back : (line : List ℕ) (said : Option Meaning) → Answers (line_of line) said → IfSome said (ReadsBack line)
reads_back line (Some m) given = λ kind bytes h w. given ∙ ap line_of w ∙ law kind bytes h
reads_back line None given = tt
