-- Converts the code's borrowed items to the specification's types, which contain no addresses in memory.
use Rattle.std.specs.Prelude.{suc, true, false, None, Some, ◌≡◌, ℕ, List, ◌∷◌}
use Rattle.std.specs.Prelude.{◌++◌, drop, Result, Ok, Err, IsOkAnd, ◌≤◌, length}
use Rattle.ctap_cbor.specs.declared.{fault.Fault.Fault, fault.Kind.Kind, item.Item.Item}
use Rattle.ctap_cbor.specs.declared.fault.Kind.TheVariants.{Truncated, KeyOrder}
use Rattle.ctap_cbor.specs.declared.item.Item.TheVariants.{Int, Bytes, Text, Array, Map, Bool as Logical, Null}
use Rattle.std.specs.Prelude.{Bool}
use Rattle.ctap_cbor.specs.Items.{Expected, AnItem, AKey, first_fault_of, body_faults, passed}
use Rattle.ctap_cbor.specs.Grammar.{info, argument, argument_len, least_argument}
use Rattle.ctap_cbor.specs.Tree as tree
use Rattle.ctap_cbor.specs.Items.{Part, One, OpensArray, OpensMap, encode_item, IsAllowed}
use Rattle.ctap_cbor.specs.Reading.{Reading, rest_of}

-- Converts the code's type `Item` to `Part`.
abbrev pub to_part : Item → Part
to_part (Int i) = One (tree.Int i)
to_part (Bytes s) = One (tree.Bytes s.now)
to_part (Text s) = One (tree.Text s.now)
to_part (Array n) = OpensArray n
to_part (Map n) = OpensMap n
to_part (Logical b) = One (tree.Flag b)
to_part Null = One tree.Null

-- The item as a tree, without the content of an array or map.
abbrev pub head_tree : Part → tree.Tree
head_tree (One s) = tree.Plain s
head_tree (OpensArray n) = tree.Array tree.no_trees
head_tree (OpensMap n) = tree.Map tree.no_pairs

-- The result of reading an item is the only possible one: if the encoding of an item is at the position, that item is
-- read.
abbrev pub ReadsItem : ℕ → Reading → Reading → Result Item Fault → Type 0
ReadsItem levels old new result =
    (i : Part) (rest : List ℕ) → IsAllowed levels AnItem i → rest_of old ≡ encode_item i ++ rest
    → IsOkAnd result (λ j. (to_part j ≡ i) × (rest_of new ≡ rest))

-- The code's result equals that of the definition `read`, and the number of bytes read is `passed`.
abbrev pub IsDecodedItem : List ℕ → Result (Item × ℕ) (Kind × ℕ) → Result (Part × List ℕ) Kind → Type 0
IsDecodedItem bytes (Ok (i, len)) read = (read ≡ Ok (to_part i, drop len bytes)) × (len ≤ length bytes)
    × (len ≡ passed KeyOrder bytes)
IsDecodedItem bytes (Err (kind, n)) read = (read ≡ Err kind) × (n ≡ passed kind bytes) × (n ≤ length bytes)

-- What is expected, given whether a key is expected.
abbrev pub expected_of : Bool → Expected
expected_of true = AKey None
expected_of false = AnItem

-- The result of reading a head's argument after a valid initial byte: the argument and its length, or the first error
-- and the number of bytes read.
abbrev pub IsHeadArgument : ℕ → List ℕ → Result (ℕ × ℕ) (Kind × ℕ) → Type 0
IsHeadArgument first rest (Ok (n, len)) = (n ≡ argument first rest) × (len ≡ argument_len (info first))
    × (len ≤ length rest) × (least_argument (info first) ≤ n)
IsHeadArgument first rest (Err (kind, n)) = (first_fault_of (body_faults first rest) ≡ Some kind)
    × (n ≡ passed kind (first ∷ rest)) × (n ≤ suc (length rest))

-- The number of steps for finding the end of the input: 1 if the item is truncated, or else 0.
abbrev pub end_steps_of : Kind → ℕ
end_steps_of Truncated = 1
end_steps_of _ = 0
