-- What a send of parts answers and leaves: a dead symbol is Stale, then a handle that is 0 is Zero, then Tight;
-- else the bytes stand behind those held, and their count is the answer.
use Rattle.std.specs.Prelude.{◌≡◌, ℕ, ◌+◌, ◌^◌, ◌<◌, ◌≤◌, min, Bool, true, cond, List, [], ◌∷◌, ◌++◌, length, take, is_some, is_ok, Some, None, Ok, Err, Option, Result, ◌==◌}
use Rattle.fault.specs.declared.ServerFault.{ServerFault}
use Rattle.fault.specs.declared.SessionFault.{SessionFault}
use Rattle.fault.specs.declared.SessionFault.TheVariants.{Session}
use Rattle.fault.specs.declared.SessionWord.TheVariants.{Tight}
use Rattle.fault.specs.Carried.{byte_in_session, server_in_session}
use Rattle.buffer.specs.declared.buffer.Buffer.{Buffer}
use Rattle.buffer.specs.Filled.{held, room_of, fits}
use Rattle.rpc.specs.declared.Handle.{Handle}
use Rattle.rpc.specs.Laws.{le, flat}
use Rattle.rpc.specs.Kinds.{text_or}
use Rattle.rpc.specs.Written.{zero_fault}
use Rattle.parts.specs.declared.Part.{Part}
use Rattle.parts.specs.declared.Part.TheVariants.{Byte, Stream, Span, Symbol}
use Rattle.source.specs.Sources.{stale_fault, Valid}

-- no place passes this number: a greater offset is given as it
abbrev pub capped : ℕ → ℕ
capped n = min n 18446744073709551615

-- the offset of a fault that was found k bytes into what begins at `at`, or what was found behind that
abbrev pub or_next : ℕ → Option ℕ → Option ℕ → Option ℕ
or_next at None next = next
or_next at (Some k) next = Some (at + k)

-- where a text that is not live would have its bytes, behind its length
abbrev pub dead_at : Option (List ℕ) → Option ℕ
dead_at None = Some 8
dead_at (Some t) = None

abbrev pub zero_in : ℕ → Option ℕ
zero_in n = cond (n == 0) (Some 0) None

abbrev pub unless : Option ℕ → ℕ → Option ℕ
unless None n = Some n
unless (Some k) n = None

module _ {St Sp Sy : Type 0} where
  -- how many bytes a part has on the wire, where `text` has the texts
  abbrev pub part_size : (Sy → Option (List ℕ)) → Part St Sp Sy → ℕ
  part_size text (Byte b) = 1
  part_size text (Stream s) = 4
  part_size text (Span s) = 4
  part_size text (Symbol y) = 8 + length (text_or (text y))

  abbrev pub size_of : (Sy → Option (List ℕ)) → List (Part St Sp Sy) → ℕ
  size_of text [] = 0
  size_of text (p ∷ ps) = part_size text p + size_of text ps

  -- the offset of the first fault, where `bad` tells how far into a part its fault is
  abbrev pub first_at : (Part St Sp Sy → Option ℕ) → (Part St Sp Sy → ℕ) → ℕ → List (Part St Sp Sy) → Option ℕ
  first_at bad size at [] = None
  first_at bad size at (p ∷ ps) = or_next at (bad p) (first_at bad size (at + size p) ps)

  abbrev pub stale : (Sy → Option (List ℕ)) → Part St Sp Sy → Option ℕ
  stale text (Byte b) = None
  stale text (Stream s) = None
  stale text (Span s) = None
  stale text (Symbol y) = dead_at (text y)

  -- the size of a part that is no dead symbol
  abbrev pub size_if : (Sy → Option (List ℕ)) → Part St Sp Sy → Option ℕ
  size_if text p = unless (stale text p) (capped (part_size text p))

  abbrev pub first_stale : (Sy → Option (List ℕ)) → List (Part St Sp Sy) → Option ℕ
  first_stale text ps = first_at (stale text) (part_size text) 0 ps

abbrev pub stale_or : {X : Type 0} → Option ℕ → X → Result X ServerFault
stale_or None x = Ok x
stale_or (Some at) x = Err (stale_fault (capped at))

-- the size of the parts, or the first symbol that is not live
abbrev pub measured : {St Sp Sy : Type 0} → (Sy → Option (List ℕ)) → List (Part St Sp Sy) → Result ℕ ServerFault
measured text ps = stale_or (first_stale text ps) (capped (size_of text ps))

abbrev pub tight_or : Buffer → ℕ → Result ℕ SessionFault
tight_or b n = cond (fits b n) (Ok n) (Err (Session Tight 0))

abbrev pub zero_or : Option ℕ → Result ℕ SessionFault → Result ℕ SessionFault
zero_or None r = r
zero_or (Some at) r = Err (byte_in_session (zero_fault (capped at)))

abbrev pub stale_first : Option ℕ → Result ℕ SessionFault → Result ℕ SessionFault
stale_first None r = r
stale_first (Some at) r = Err (server_in_session (stale_fault (capped at)))

module _ {Sy : Type 0} where
  abbrev pub zero : Part Handle Handle Sy → Option ℕ
  zero (Byte b) = None
  zero (Stream h) = zero_in h.number
  zero (Span h) = zero_in h.number
  zero (Symbol y) = None

  abbrev pub first_zero : (Sy → Option (List ℕ)) → List (Part Handle Handle Sy) → Option ℕ
  first_zero text ps = first_at zero (part_size text) 0 ps

  -- the fields of a part, each by its bytes: a text has two, its length and its bytes
  abbrev pub part_fields : (Sy → Option (List ℕ)) → Part Handle Handle Sy → List (List ℕ)
  part_fields text (Byte b) = (b ∷ []) ∷ []
  part_fields text (Stream h) = le 4 h.number ∷ []
  part_fields text (Span h) = le 4 h.number ∷ []
  part_fields text (Symbol y) = le 8 (length (text_or (text y))) ∷ text_or (text y) ∷ []

  abbrev pub fields_of : (Sy → Option (List ℕ)) → List (Part Handle Handle Sy) → List (List ℕ)
  fields_of text [] = []
  fields_of text (p ∷ ps) = part_fields text p ++ fields_of text ps

  -- a handle that is 0
  abbrev pub is_zero : Part Handle Handle Sy → Bool
  is_zero p = is_some (zero p)

  -- the offset of the part with the index that was found
  abbrev pub offset_of : (Sy → Option (List ℕ)) → List (Part Handle Handle Sy) → Option ℕ → Option ℕ
  offset_of text ps None = None
  offset_of text ps (Some i) = Some (size_of text (take i ps))

  -- what is written
  abbrev pub bytes_of : (Sy → Option (List ℕ)) → List (Part Handle Handle Sy) → List ℕ
  bytes_of text ps = flat (fields_of text ps)

  -- numbers within their widths, as every value of the program's types has them
  abbrev pub PartFits : (Sy → Option (List ℕ)) → Part Handle Handle Sy → Type 0
  PartFits text (Byte b) = b < 256
  PartFits text (Stream h) = h.number < 256 ^ 4
  PartFits text (Span h) = h.number < 256 ^ 4
  PartFits text (Symbol y) = (length (text_or (text y)) < 256 ^ 8) × Valid (text y)

  abbrev pub PartsFit : (Sy → Option (List ℕ)) → List (Part Handle Handle Sy) → Type 0
  PartsFit text [] = Unit {0}
  PartsFit text (p ∷ ps) = PartFits text p × PartsFit text ps

  -- parts that a send may write: every symbol live, no handle 0, and room for them
  pub record Writable (text : Sy → Option (List ℕ)) (ps : List (Part Handle Handle Sy)) (b : Buffer) : Type 0 where
    pub live : first_stale text ps ≡ None
    pub handles : first_zero text ps ≡ None
    pub space : length (held b) + size_of text ps ≤ room_of b

  pub record Wrote (text : Sy → Option (List ℕ)) (ps : List (Part Handle Handle Sy)) (before after : Buffer) (r : Result (Unit {0}) SessionFault) : Type 0 where
    pub reply : r ≡ Ok tt
    pub bytes : held after ≡ held before ++ bytes_of text ps
    pub room : room_of after ≡ room_of before
    pub fit : PartsFit text ps

  abbrev pub send_reply : (Sy → Option (List ℕ)) → Buffer → List (Part Handle Handle Sy) → Result ℕ SessionFault
  send_reply text b ps = stale_first (first_stale text ps) (zero_or (first_zero text ps) (tight_or b (size_of text ps)))

  abbrev pub send_held : (Sy → Option (List ℕ)) → Buffer → List (Part Handle Handle Sy) → List ℕ
  send_held text b ps = cond (is_ok (send_reply text b ps)) (held b ++ bytes_of text ps) (held b)

  -- a send: the answer, and the buffer before and after
  pub record Sent (text : Sy → Option (List ℕ)) (ps : List (Part Handle Handle Sy)) (before after : Buffer) (r : Result ℕ SessionFault) : Type 0 where
    pub reply : r ≡ send_reply text before ps
    pub bytes : held after ≡ send_held text before ps
    pub room : room_of after ≡ room_of before
    pub fit : is_ok r ≡ true → PartsFit text ps
