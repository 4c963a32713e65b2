-- What the check of a send answers: Zero, Tight, or the size with all that a write needs.
use Rattle.std.proofs.Common.{◌≤◌, length, sym, ap, Err, ◌∙◌, arith}
use Rattle.buffer.specs.Filled.{held, room_of}
use Rattle.encode.proofs.Sendings.{front_served, at_tight, writable, served}
use Rattle.encode.proofs.send.check.Goals as goal

pub returns-in_err-place-clause-reply : goal.returns-in_err-place-clause-reply
returns-in_err-place-clause-reply g c =
    front_served (g.X.Texts.text c.args.source.now) c.args.parts.now c.args.out.now c.in_ok-size.size c.in_ok-size.ensures c.in-Some.i _ (sym c.in_err-place.was ∙ c.measure-in-Some.ensures)

pub returns-then-free-size-clause-reply : goal.returns-then-free-size-clause-reply
returns-then-free-size-clause-reply g c =
    ap Err c.at-then-free-size.ensures ∙ at_tight (g.X.Texts.text c.args.source.now) c.args.parts.now c.args.out.now c.in_ok-size.size c.in_ok-size.ensures (c.in_default.ensures.place (g.X.Texts.text c.args.source.now)) c.free.result c.free.ensures c.if-free-size.true

pub returns-clause-reply : goal.returns-clause-reply
returns-clause-reply g c =
    served (g.X.Texts.text c.args.source.now) c.args.parts.now c.args.out.now c.in_ok-size.size c.in_ok-size.ensures (c.in_default.ensures.place (g.X.Texts.text c.args.source.now)) c.free.result c.free.ensures c.if-free-size.false c.args.out.now.bounded

pub returns-clause-ready : goal.returns-clause-ready
returns-clause-ready g c =
    let within : length (held c.args.out.now) ≤ room_of c.args.out.now = omega (arith, c.args.out.now.within, c.args.out.now.bytes.ok.0) in
    writable (g.X.Texts.text c.args.source.now) c.args.parts.now c.args.out.now c.in_ok-size.size c.in_ok-size.ensures (c.in_default.ensures.place (g.X.Texts.text c.args.source.now)) c.free.result c.free.ensures within c.if-free-size.false c.args.out.now.bounded
