-- An interner with one text more keeps what is true of every interner.
use Rattle.std.proofs.Common.{◌≡◌, ℕ, ◌+◌, ◌<◌, ◌≤◌, List, [], ◌∷◌, ◌++◌, length, set, sym, ap, ◌∙◌, subst, arith}
use Rattle.std.proofs.lemmas.List.{length_push}
use Rattle.std.proofs.lemmas.List.Sums.{sum_by_push}
use Rattle.std.proofs.lemmas.Bool.{and_parts, leb-true, ltb-true}
use Rattle.symbol.specs.declared.entry.Entry.{Entry}
use Rattle.symbol.specs.Held.{bytes_in}
use Rattle.symbol.specs.Interning.{State, limits, top}
use Rattle.symbol.specs.Layout.{held_in, state_laid, LaidOut}
use Rattle.symbol.specs.States.{MayAdd, Sound, with_text}
use Rattle.symbol.proofs.Holding.{allowed_push, once_push}
use Rattle.symbol.proofs.Layouts.{many, held_more, laid_more}

module _ (s : State) (t : List ℕ) (may : MayAdd s t) where
  -- there is room in the table and among the bytes
  pub few_held : length s.held < 1024
  few_held = ltb-true _ _ (and_parts _ _ may.room).0

  pub few_bytes : bytes_in s.held + length t ≤ 32768
  few_bytes = leb-true _ _ (and_parts _ _ may.room).1

  sound_more : Sound s → s.base + length s.held ≤ top → Sound (with_text s t)
  sound_more sound number =
      record {
        texts = allowed_push limits s.held t sound.texts may.allowed;
        different = once_push s.held t sound.different may.new;
        few = omega (arith, length_push s.held t, few_held);
        room = omega (arith, sum_by_push length s.held t, few_bytes);
        opened = sound.opened;
        numbers = omega (arith, length_push s.held t);
      }

-- the fields of an interner whose state is s, a text that may be added, the bytes with it behind the others, and its entry
pub record Added (base : ℕ) (bytes : List ℕ) (entries : List Entry) (count : ℕ) (s : State) (text after : List ℕ) (e : Entry) : Type 0 where
  pub laid : LaidOut bytes entries count
  pub sound : Sound (state_laid base bytes entries count)
  pub view : state_laid base bytes entries count ≡ s
  pub may : MayAdd s text
  pub number : s.base + length s.held ≤ top
  pub grown : after ≡ bytes ++ text
  pub place : e.place ≡ length bytes
  pub size : e.length ≡ length text

module _ (base : ℕ) (bytes : List ℕ) (entries : List Entry) (count : ℕ) (s : State) (text after : List ℕ) (e : Entry) (a : Added base bytes entries count s text after e) where
  few : count < 1024
  few = omega (arith, few_held s text a.may, many bytes entries count a.laid, ap (λ x. length x.held) a.view)

  pub table_with : LaidOut after (set entries count e) (count + 1)
  table_with =
      subst (λ bs. LaidOut bs (set entries count e) (count + 1)) (sym a.grown) (laid_more bytes text entries count e a.laid few a.place a.size)

  pub state_with : state_laid base after (set entries count e) (count + 1) ≡ with_text s text
  state_with =
      let held : held_in after (set entries count e) (count + 1) ≡ held_in bytes entries count ++ text ∷ [] = ap (λ bs. held_in bs (set entries count e) (count + 1)) a.grown ∙ held_more bytes text entries count e a.laid few a.place a.size in
      ap (λ h. record { base = base; held = h }) held ∙ ap (λ x. with_text x text) a.view

  pub sound_with : Sound (state_laid base after (set entries count e) (count + 1))
  sound_with = subst Sound (sym state_with) (sound_more s text a.may (subst Sound a.view a.sound) a.number)
