-- The tree that a value of the code's type `Value` represents.
use Rattle.std.specs.Prelude.{◌≡◌, ◌≢◌, List, [], ◌∷◌, map, string_bytes}
use Rattle.ctap_cbor.specs.declared.fault.{Fault.Fault, Kind.TheVariants.Memory}
use Rattle.ctap_cbor.specs.declared.value.Value.{Value, Value-F, fold-Value}
use Rattle.ctap_cbor.specs.declared.value.Value.TheOpen as layer
use Rattle.ctap_cbor.specs.Tree as tree
use Rattle.ctap_cbor.specs.{Grammar.Fits, Items.Part, Items.One}
use Rattle.ctap_cbor.specs.Tree.{Scalar, Tree, Plain, Array, Map, Trees, no_trees, Pairs, no_pairs, pair}

-- Converts a list of trees to `Trees`.
abbrev pub trees : List Tree → Trees
trees [] = no_trees
trees (t ∷ ts) = tree.tree t (trees ts)

-- Converts a list of pairs of trees to `Pairs`.
abbrev pub pairs : List (Tree × Tree) → Pairs
pairs [] = no_pairs
pairs (p ∷ ps) = pair p.0 p.1 (pairs ps)

-- The tree of a value, from the trees of its content.
abbrev pub tree_step : Value-F Tree → Tree
tree_step (layer.Int i) = Plain (tree.Int i)
tree_step (layer.Bytes v) = Plain (tree.Bytes v.items)
tree_step (layer.Text s) = Plain (tree.Text (string_bytes s))
tree_step (layer.Array v) = Array (trees v.items)
tree_step (layer.Map v) = Map (pairs v.items)
tree_step (layer.Bool b) = Plain (tree.Flag b)
tree_step layer.Null = Plain tree.Null

-- The tree of a value.
abbrev pub to_tree : Value → Tree
to_tree = fold-Value Tree tree_step

-- The trees of a key and its value.
abbrev pub to_tree_pair : Value × Value → Tree × Tree
to_tree_pair p = (to_tree p.0, to_tree p.1)

-- The trees of a list of values.
abbrev pub to_trees : List Value → Trees
to_trees vs = trees (map to_tree vs)

-- The trees of a list of keys and values.
abbrev pub to_pairs : List (Value × Value) → Pairs
to_pairs vs = pairs (map to_tree_pair vs)

-- If the item is a scalar, the tree is this scalar.
abbrev pub IsScalarOf : Part → Tree → Type 0
IsScalarOf part t = (s : Scalar) → part ≡ One s → Fits s → t ≡ Plain s

-- `p` holds, or the error is `Memory` at position 0.
abbrev pub UnlessMemory : Fault → Type 0 → Type 0
UnlessMemory f p = (f.kind ≢ Memory → p) × (f.kind ≡ Memory → f.at ≡ 0)
