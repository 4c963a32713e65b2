-- The texts that the values of a list hold, in their order.
use Rattle.std.specs.Prelude.{ℕ, List, [], ◌∷◌, map}
use Rattle.std.specs.List.{flat_map}
use Rattle.std.specs.Option.{option_to_list}
use Rattle.rpc.specs.Kinds.{text_in}
use Rattle.rpc.specs.declared.Handle.{Handle}
use Rattle.rpc.specs.declared.Text.{Text}
use Rattle.leaf.specs.declared.Literal.{Literal}
use Rattle.tree.specs.declared.TokenTree.{TokenTree}
use Rattle.tree.specs.declared.TokenTree.TheVariants as tree
use Rattle.listing.specs.declared.value.Value.{Value}
use Rattle.listing.specs.declared.value.Value.TheVariants as value
use Rattle.listing.specs.Entries.{Entry, read, refused, bad}

-- a literal's own text, and its suffix
abbrev pub literal_texts : Literal Handle Text → List Text
literal_texts l = l.symbol ∷ option_to_list l.suffix

abbrev pub tree_texts : TokenTree Handle Handle Text → List Text
tree_texts (tree.Group g) = []
tree_texts (tree.Punct p) = []
tree_texts (tree.Ident i) = i.sym ∷ []
tree_texts (tree.Literal l) = literal_texts l

abbrev pub texts_in : Value → List Text
texts_in (value.Tree t) = tree_texts t
texts_in (value.Literal l) = literal_texts l
texts_in (value.Stream h) = []
texts_in (value.Span h) = []
texts_in (value.Symbol t) = t ∷ []

-- the texts of a value that was read, by their bytes
abbrev pub texts_of : Entry → List (List ℕ)
texts_of (read number kind v bytes n) = map (text_in bytes) (texts_in v)
texts_of (refused number kind fault) = []
texts_of (bad place fault) = []

abbrev pub all_texts : List Entry → List (List ℕ)
all_texts es = flat_map texts_of es
