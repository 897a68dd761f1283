-- Data items as trees (RFC 8949, section 2), their depth and their content.
use Rattle.std.specs.Prelude.{ℕ, ◌+◌, ◌^◌, ℤ, pos, Bool, true, false, nat_lt, List, Option, Some, None, if◌then◌else◌}
use Rattle.std.specs.Prelude.{max}

-- An item that is neither an array nor a map.
pub data Scalar : Type 0 where
  Int : ℤ → Scalar
  Bytes : List ℕ → Scalar
  Text : List ℕ → Scalar
  Flag : Bool → Scalar
  Null : Scalar

-- Data items: scalars, arrays of items, and maps of keys and values.
mutual
  pub data Tree : Type 0 where
    Plain : Scalar → Tree
    Array : Trees → Tree
    Map : Pairs → Tree

  pub data Trees : Type 0 where
    no_trees : Trees
    tree : Tree → Trees → Trees

  pub data Pairs : Type 0 where
    no_pairs : Pairs
    pair : Tree → Tree → Pairs → Pairs

-- The nesting depth of a tree; 0 for a scalar.
abbrev mutual
  pub depth : Tree → ℕ
  depth (Plain s) = 0
  depth (Array ts) = 1 + depth_all ts
  depth (Map ps) = 1 + depth_pairs ps

  pub depth_all : Trees → ℕ
  depth_all no_trees = 0
  depth_all (tree t ts) = max (depth t) (depth_all ts)

  pub depth_pairs : Pairs → ℕ
  depth_pairs no_pairs = 0
  depth_pairs (pair k v ps) = max (max (depth k) (depth v)) (depth_pairs ps)

-- Whether the data item is a map.
abbrev pub is_map : Tree → Bool
is_map (Map ps) = true
is_map _ = false

-- Whether the data item is an array.
abbrev pub is_array : Tree → Bool
is_array (Array ts) = true
is_array _ = false

-- The content of a byte string, or None.
abbrev pub as_bytes : Tree → Option (List ℕ)
as_bytes (Plain (Bytes s)) = Some s
as_bytes _ = None

abbrev pub as_text : Tree → Option (List ℕ)
as_text (Plain (Text s)) = Some s
as_text _ = None

abbrev pub as_int : Tree → Option ℤ
as_int (Plain (Int i)) = Some i
as_int _ = None

-- The value of an unsigned integer below 2^64, or None.
abbrev pub as_uint : Tree → Option ℕ
as_uint (Plain (Int (pos n))) = if nat_lt n (2 ^ 64) then Some n else None
as_uint _ = None

abbrev pub as_flag : Tree → Option Bool
as_flag (Plain (Flag b)) = Some b
as_flag _ = None

-- The number of items.
abbrev pub count : Trees → ℕ
count no_trees = 0
count (tree t ts) = count ts + 1

-- The number of pairs.
abbrev pub count_pairs : Pairs → ℕ
count_pairs no_pairs = 0
count_pairs (pair k v ps) = count_pairs ps + 1

-- Appends an item.
unfoldable pub push : Trees → Tree → Trees
push no_trees u = tree u no_trees
push (tree t ts) u = tree t (push ts u)

-- Appends a pair.
unfoldable pub push_pair : Pairs → Tree → Tree → Pairs
push_pair no_pairs k v = pair k v no_pairs
push_pair (pair j u ps) k v = pair j u (push_pair ps k v)
