-- Reading token trees: the fields of each type in their order, the cases by their tags from 00 upwards.
use Rattle.std.specs.Prelude.{ℕ, List, [], ◌∷◌, Option, Result}
use Rattle.fault.specs.declared.ByteFault.{ByteFault}
use Rattle.rpc.specs.Wire.{option_at, tagged_at, made_at, both_at}
use Rattle.token.specs.declared.kinds.Delimiter.{Delimiter}
use Rattle.token.specs.declared.kinds.DelimSpan.{DelimSpan}
use Rattle.tree.specs.declared.Group.{Group}
use Rattle.tree.specs.declared.TokenTree.{TokenTree}
use Rattle.tree.specs.declared.TokenTree.TheVariants as tree
use Rattle.token.specs.Reads.{delimiter_at, delim_span_at}
use Rattle.leaf.specs.Reads.{punct_at, ident_at, literal_at}

module _ {St Sp : Type 0} where
  abbrev pub group : Delimiter × (Option St × DelimSpan Sp) → Group St Sp
  group p = record { delimiter = p.0; stream = p.1.0; span = p.1.1 }

  abbrev pub group_at : (List ℕ → ℕ → Result (St × ℕ) ByteFault) → (List ℕ → ℕ → Result (Sp × ℕ) ByteFault) → List ℕ → ℕ → Result (Group St Sp × ℕ) ByteFault
  group_at st sp bs at = made_at group (both_at delimiter_at (both_at (option_at st) (delim_span_at sp))) bs at

module _ {St Sp Sy : Type 0} where
  abbrev pub tree_at : (List ℕ → ℕ → Result (St × ℕ) ByteFault) → (List ℕ → ℕ → Result (Sp × ℕ) ByteFault) → (List ℕ → ℕ → Result (Sy × ℕ) ByteFault) → List ℕ → ℕ → Result (TokenTree St Sp Sy × ℕ) ByteFault
  tree_at st sp sy bs at = tagged_at (made_at tree.Group (group_at st sp) ∷ made_at tree.Punct (punct_at sp) ∷ made_at tree.Ident (ident_at sp sy) ∷ made_at tree.Literal (literal_at sp sy) ∷ []) bs at
