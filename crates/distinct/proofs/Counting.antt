-- The texts given to an interner that held none: how many different ones it holds after.
use Rattle.std.proofs.Common.{◌≡◌, ℕ, true, ◌&&◌, List, length, sym, ap, ◌∙◌}
use Rattle.symbol.specs.Held.{holds, once}
use Rattle.symbol.specs.Interning.{empty_from}
use Rattle.distinct.specs.declared.Noting.{Noting}
use Rattle.distinct.specs.Counted.{after_texts, all_taken, held_of, Among, Different}
use Rattle.distinct.specs.Noted.{Noted}
use Rattle.distinct.proofs.Members.{within, whole}

module _ (texts : List (List ℕ)) (before after : Noting) (n : ℕ) (none : before.interner ≡ empty_from 1) (took_all : before.took_all ≡ true) (noted : Noted before texts after) (different : once after.interner.held ≡ true) (many : n ≡ length after.interner.held) where
  holds_those : after.interner.held ≡ held_of texts
  holds_those = ap (λ s. s.held) (noted.state ∙ ap (λ s. after_texts s texts) none)

  takes_those : after.took_all ≡ all_taken (empty_from 1) texts
  takes_those = noted.taken ∙ ap (λ b. b && all_taken before.interner texts) took_all ∙ ap (λ s. all_taken s texts) none

  pub among : Among texts n
  among =
      record {
        list = after.interner.held;
        different = different;
        within = λ t h. within (empty_from 1) texts t (ap (λ held. holds held t) (sym holds_those) ∙ h);
        many = many;
      }

  pub all : after.took_all ≡ true → Different texts n
  unfolding among
  all taken =
      record {
        among = among;
        whole = λ t h. ap (λ held. holds held t) holds_those ∙ whole (empty_from 1) texts t (sym takes_those ∙ taken) h;
      }
