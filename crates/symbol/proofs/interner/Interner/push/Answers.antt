-- The table and the bytes with one text more.
use Rattle.std.proofs.Common.{length, refl}
use Rattle.symbol.proofs.Adding.{Added, table_with, state_with, sound_with}
use Rattle.symbol.proofs.interner.Interner.push.Goals as goal

added : (c : goal.After-self-1) → Added c.self.inside.base c.self.inside.bytes c.self.inside.entries c.self.inside.count c.args.self.now c.args.text.now c.extend_from_slice.new.self (record { place = c.len.result; length = length c.args.text.now })
added c =
    record {
      laid = c.self.invariant.0;
      sound = c.self.invariant.1;
      view = c.self.view_is;
      may = c.requires.may;
      number = c.requires.number;
      grown = c.extend_from_slice.ensures;
      place = c.len.ensures;
      size = refl;
    }

pub invariant_of-self : goal.invariant_of-self
invariant_of-self c = (table_with _ _ _ _ _ _ _ _ (added c), sound_with _ _ _ _ _ _ _ _ (added c))

pub returns : goal.returns
returns c = record { state = state_with _ _ _ _ _ _ _ _ (added c); sound = sound_with _ _ _ _ _ _ _ _ (added c) }
