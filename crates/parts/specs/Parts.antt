-- The parts of a value, in wire order.
use Rattle.std.specs.Prelude.{List, [], ◌∷◌, ◌++◌, take, Some, None, Option}
use Rattle.parts.specs.declared.Part.{Part}
use Rattle.parts.specs.declared.Part.TheVariants.{Byte}

module _ {X : Type 0} where
  -- xs with ys behind it, as far as seven go
  unfoldable pub joined : List X → List X → List X
  joined xs ys = take 7 (xs ++ ys)

module _ {St Sp Sy : Type 0} where
  -- 00 and what stands inside, or 01
  abbrev pub option_parts : Option (Part St Sp Sy) → List (Part St Sp Sy)
  option_parts None = Byte 1 ∷ []
  option_parts (Some p) = Byte 0 ∷ p ∷ []
