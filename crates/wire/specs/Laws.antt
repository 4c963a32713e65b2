-- What ties the reading of a value to its writing, as every kind of value keeps it.
use Rattle.std.specs.Prelude.{◌≡◌, ℕ, ◌<◌, List, [], ◌∷◌, Option, Result}
use Rattle.fault.specs.declared.ByteFault.{ByteFault}
use Rattle.rpc.specs.declared.Handle.{Handle}
use Rattle.rpc.specs.declared.Text.{Text}
use Rattle.rpc.specs.Kinds.{handle_kind, in_piece, GoodText}
use Rattle.rpc.specs.Laws.{Kind, Lawful}
use Rattle.parts.specs.declared.Part.{Part}
use Rattle.parts.specs.declared.Part.TheVariants.{Byte, Stream, Span, Symbol}
use Rattle.encode.specs.Sends.{fields_of}

module _ {Sy : Type 0} (text : Sy → Option (List ℕ)) where
  -- a part that can be written
  abbrev pub PartGood : Part Handle Handle Sy → Type 0
  PartGood (Byte b) = b < 256
  PartGood (Stream h) = handle_kind.good h
  PartGood (Span h) = handle_kind.good h
  PartGood (Symbol y) = GoodText (text y)

  abbrev pub PartsGood : List (Part Handle Handle Sy) → Type 0
  PartsGood [] = Unit {0}
  PartsGood (p ∷ ps) = PartGood p × PartsGood ps

  -- a part that no send refuses but for want of room
  abbrev pub PartReady : Part Handle Handle Sy → Type 0
  PartReady (Byte b) = Unit {0}
  PartReady (Stream h) = 0 < h.number
  PartReady (Span h) = 0 < h.number
  PartReady (Symbol y) = GoodText (text y)

  abbrev pub PartsReady : List (Part Handle Handle Sy) → Type 0
  PartsReady [] = Unit {0}
  PartsReady (p ∷ ps) = PartReady p × PartsReady ps

-- A kind of value, with its texts for its symbols, its reader and its parts. The kind is lawful, its reader is that one,
-- and a value's parts have its fields: they can be written where it can.
pub record ValueLaws {V W : Type 0} (κ : Kind V W) (texts : (Text → Option (List ℕ)) → V → W) (reads : List ℕ → ℕ → Result (V × ℕ) ByteFault) (parts : V → List (Part Handle Handle Text)) : Type 0 where
  pub lawful : Lawful κ
  pub read : (bs : List ℕ) (at : ℕ) → reads bs at ≡ κ.reads bs at
  pub shown : (bs : List ℕ) (v : V) → κ.shown bs v ≡ texts (in_piece bs) v
  pub fields : (f : Text → Option (List ℕ)) (v : V) → κ.fields (texts f v) ≡ fields_of f (parts v)
  pub good : (f : Text → Option (List ℕ)) (v : V) → PartsGood f (parts v) → κ.good (texts f v)
  pub ready : (f : Text → Option (List ℕ)) (v : V) → κ.good (texts f v) → PartsReady f (parts v)
