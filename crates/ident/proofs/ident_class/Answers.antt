-- The table is the list of the classes of 0 to 255, so at a byte it has the byte's class. That the body's table is that
-- list is left to a search.
use Rattle.std.proofs.Common.{◌≡◌, ℕ, ◌<◌, map, get_or, zero-add, rules, ◌∙◌}
use Rattle.std.specs.List.{range_with_len}
use Rattle.std.proofs.lemmas.List.FromFn.{get_or-map-range_with_len}
use Rattle.ident.specs.declared.IdentClass.{IdentClass}
use Rattle.ident.specs.declared.IdentClass.TheVariants.{Letter}
use Rattle.ident.specs.Classes.{ident_class}
use Rattle.ident.proofs.ident_class.Goals as goal

class_at : (b : ℕ) (d : IdentClass) → b < 256 → get_or (map ident_class (range_with_len 0 256)) b d ≡ ident_class b
class_at b d h = get_or-map-range_with_len ident_class 0 256 b b d h (zero-add b)

pub returns : goal.returns
returns c = search rules ∙ class_at c.args.b Letter c.ranges.b.fits
