-- What the bytes of a value are read as, by its kind.
use Rattle.std.specs.Prelude.{ℕ, List, Ok, Err, Result}
use Rattle.fault.specs.declared.ByteFault.{ByteFault}
use Rattle.rpc.specs.Kinds.{handle_kind, text_kind}
use Rattle.wire.specs.Values.{tree_kind, literal_kind}
use Rattle.recording.specs.declared.Kind.{Kind}
use Rattle.recording.specs.declared.Kind.TheVariants as kind
use Rattle.listing.specs.declared.value.Value.{Value}
use Rattle.listing.specs.declared.value.Value.TheVariants as value

-- the answer of a reader, with what it read as a value
abbrev pub valued : {V : Type 0} → (V → Value) → Result (V × ℕ) ByteFault → Result (Value × ℕ) ByteFault
valued f (Ok p) = Ok (f p.0, p.1)
valued f (Err fault) = Err fault

-- the value at the front of the bytes, with the number of bytes read, or why it is refused
abbrev pub value_at : Kind → List ℕ → Result (Value × ℕ) ByteFault
value_at kind.Tree bytes = valued value.Tree (tree_kind.reads bytes 0)
value_at kind.Literal bytes = valued value.Literal (literal_kind.reads bytes 0)
value_at kind.Stream bytes = valued value.Stream (handle_kind.reads bytes 0)
value_at kind.Span bytes = valued value.Span (handle_kind.reads bytes 0)
value_at kind.Symbol bytes = valued value.Symbol (text_kind.reads bytes 0)
