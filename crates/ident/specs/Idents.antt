-- Which texts are identifiers, which of them can be raw, and what is replied to a text.
use Rattle.std.specs.Prelude.{ℕ, Bool, false, cond, not, ◌&&◌, ◌||◌, List, [], ◌∷◌, Ok, Err, codes, Result, nat_lt}
use Rattle.std.specs.List.{list_all, list_any}
use Rattle.std.specs.Str.{bytes_eq}
use Rattle.fault.specs.declared.ServerFault.{ServerFault}
use Rattle.fault.specs.declared.ServerFault.TheVariants as fault
use Rattle.fault.specs.declared.ServerWord.{ServerWord}
use Rattle.fault.specs.declared.ServerWord.TheVariants as word
use Rattle.ident.specs.Classes.{begins, continues, ident_class}

-- each byte may stand behind an identifier's first byte
abbrev pub all_continue : List ℕ → Bool
all_continue bs = list_all (λ b. continues (ident_class b)) bs

-- the text is an identifier; the empty text is none
abbrev pub is_ident : List ℕ → Bool
is_ident [] = false
is_ident (b ∷ bs) = begins (ident_class b) && all_continue bs

-- the texts that cannot be raw
abbrev pub never_raw : List (List ℕ)
never_raw = codes "_" ∷ codes "super" ∷ codes "self" ∷ codes "Self" ∷ codes "crate" ∷ codes "$crate" ∷ []

-- the text can be raw
abbrev pub can_be_raw : List ℕ → Bool
can_be_raw text = not (list_any (λ word. bytes_eq word text) never_raw)

-- each byte is below 128
abbrev pub is_ascii : List ℕ → Bool
is_ascii bs = list_all (λ b. nat_lt b 128) bs

-- an identifier, or $crate
abbrev pub is_name : List ℕ → Bool
is_name text = is_ident text || bytes_eq text (codes "$crate")

-- a refusal by a word, at the place 0
abbrev pub refused : ServerWord → Result (Unit {0}) ServerFault
refused w = Err (fault.Server w 0)

-- the reply to a text that is to be an identifier, raw or not
abbrev pub ident_reply : Bool → List ℕ → Result (Unit {0}) ServerFault
ident_reply raw text =
    cond (is_name text) (cond (raw && not (can_be_raw text)) (refused word.Raw) (Ok tt))
    (cond (is_ascii text) (refused word.Name) (refused word.Hosts))
