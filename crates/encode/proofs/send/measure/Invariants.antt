-- The size of the parts before the next, and that none of them is dead.
use Rattle.std.proofs.Common.{◌≡◌, take, drop}
use Rattle.encode.specs.Sends.{capped, size_of, part_size, stale, first_at, first_stale}
use Rattle.encode.proofs.send.measure.Given as goal

abbrev pub invariant-loop-part : goal.invariant-loop-part
invariant-loop-part g l =
    (l.at ≡ capped (size_of (g.X.Texts.text l.source) (take l.part-index l.parts)))
    × (first_at (stale (g.X.Texts.text l.source)) (part_size (g.X.Texts.text l.source)) (size_of (g.X.Texts.text l.source) (take l.part-index l.parts)) (drop l.part-index l.parts) ≡ first_stale (g.X.Texts.text l.source) l.parts)
