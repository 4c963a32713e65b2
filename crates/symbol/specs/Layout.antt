-- Where the texts of a table of entries lie among the bytes of all texts.
use Rattle.std.specs.Prelude.{◌≡◌, ℕ, ◌+◌, ◌≤◌, List, All, length, map, take, drop}
use Rattle.symbol.specs.declared.entry.Entry.{Entry}
use Rattle.symbol.specs.Held.{bytes_in}
use Rattle.symbol.specs.Interning.{State, limits}

-- the text that an entry gives the place and the length of
abbrev pub text_in : List ℕ → Entry → List ℕ
text_in bytes e = take e.length (drop e.place bytes)

abbrev pub end_of : Entry → ℕ
end_of e = e.place + e.length

-- the texts that the first `count` entries of a table stand for
abbrev pub held_in : List ℕ → List Entry → ℕ → List (List ℕ)
held_in bytes entries count = map (text_in bytes) (take count entries)

-- the base and the texts that a table stands for
abbrev pub state_laid : ℕ → List ℕ → List Entry → ℕ → State
state_laid base bytes entries count = record { base = base; held = held_in bytes entries count }

-- the table has room for the most texts, those in use lie within the bytes, and there are no other bytes
pub record LaidOut (bytes : List ℕ) (entries : List Entry) (count : ℕ) : Type 0 where
  pub table : length entries ≡ limits.most
  pub few : count ≤ limits.most
  pub placed : All (λ e. end_of e ≤ length bytes) (take count entries)
  pub packed : bytes_in (held_in bytes entries count) ≡ length bytes
