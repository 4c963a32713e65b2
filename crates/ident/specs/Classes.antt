-- What a byte is in an identifier, and where a byte of a class may stand.
use Rattle.std.specs.Prelude.{ℕ, Bool, true, false, cond, ◌&&◌, ◌||◌, ◌==◌, nat_le}
use Rattle.ident.specs.declared.IdentClass.{IdentClass}
use Rattle.ident.specs.declared.IdentClass.TheVariants.{Letter, Digit, Underscore, Other}

-- the bytes from one to another, both included
abbrev pub within : ℕ → ℕ → ℕ → Bool
within low high b = nat_le low b && nat_le b high

-- A to Z and a to z
abbrev pub is_letter : ℕ → Bool
is_letter b = within 65 90 b || within 97 122 b

-- 0 to 9
abbrev pub is_digit : ℕ → Bool
is_digit b = within 48 57 b

-- _
abbrev pub is_underscore : ℕ → Bool
is_underscore b = b == 95

-- the class of a byte
abbrev pub ident_class : ℕ → IdentClass
ident_class b = cond (is_letter b) Letter (cond (is_digit b) Digit (cond (is_underscore b) Underscore Other))

-- an identifier may begin with a letter or an underscore
abbrev pub begins : IdentClass → Bool
begins Letter = true
begins Digit = false
begins Underscore = true
begins Other = false

-- and it goes on with letters, digits and underscores
abbrev pub continues : IdentClass → Bool
continues Letter = true
continues Digit = true
continues Underscore = true
continues Other = false
