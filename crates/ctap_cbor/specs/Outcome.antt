-- The outcome of decoding bytes: the tree that they encode, or the first error; and functions that compute it.
use Rattle.std.specs.Prelude.{◌≡◌, ℕ, zero, suc, ◌+◌, ◌^◌, ◌<◌, ◌≤◌, List, [], ◌∷◌, ◌++◌, length, drop, min, Option}
use Rattle.std.specs.Prelude.{Some, None, Result, Ok, Err, Bool, true, ◌&&◌, if◌then◌else◌, nat_lt}
use Rattle.ctap_cbor.specs.declared.fault.Fault.{Fault}
use Rattle.ctap_cbor.specs.declared.fault.Kind.{Kind}
use Rattle.ctap_cbor.specs.declared.fault.Kind.TheVariants.{Trailing, Reserved}
use Rattle.ctap_cbor.specs.Tree.{Tree, Plain, Array, Map, Trees, no_trees, tree, Pairs, no_pairs, pair, depth_all}
use Rattle.ctap_cbor.specs.Tree.{depth_pairs, count, count_pairs, Null}
use Rattle.ctap_cbor.specs.Grammar.{head, IsCanonical, encode_tree, encode_trees, encode_pairs, IsKey, IsAbove}
use Rattle.ctap_cbor.specs.Grammar.{KeysAscend, IsLawful, AreLawful, AreLawfulPairs, encode_scalar}
use Rattle.ctap_cbor.specs.Items.{Expected, AnItem, AKey, fault, fault_steps, Part, One, OpensArray, OpensMap, read}

-- ---- the outcome

-- An unfinished array or map: the number of items or pairs in its head, and its complete items so far.
pub data Enclosing : Type 0 where
  InArray : (total : ℕ) (done : Trees) → Enclosing
  AtKey : (total : ℕ) (done : Pairs) → Enclosing
  AtValue : (total : ℕ) (done : Pairs) (key : Tree) → Enclosing

-- The encoding of an unfinished array or map, up to where the next item is expected.
abbrev pub open_encoding : Enclosing → List ℕ
open_encoding (InArray total done) = head 4 total ++ encode_trees done
open_encoding (AtKey total done) = head 5 total ++ encode_pairs done
open_encoding (AtValue total done key) = head 5 total ++ (encode_pairs done ++ encode_tree key)

-- The encodings of nested unfinished arrays and maps, concatenated, the outermost first.
abbrev pub open_encodings : List Enclosing → List ℕ
open_encodings [] = []
open_encodings (o ∷ os) = open_encoding o ++ open_encodings os

-- The encoding of the last key in these pairs, or `before` if there are no pairs.
abbrev pub last_key : Option (List ℕ) → Pairs → Option (List ℕ)
last_key before no_pairs = before
last_key before (pair k v ps) = last_key (Some (encode_tree k)) ps

-- The array or map is unfinished, its complete items are valid, and `levels` more levels may be opened inside it.
abbrev pub IsOpen : ℕ → Enclosing → Type 0
IsOpen levels (InArray total done) = (total < 2 ^ 64) × (count done < total) × AreLawful done
    × (depth_all done ≤ levels)
IsOpen levels (AtKey total done) = (total < 2 ^ 64) × (count_pairs done < total) × KeysAscend None done × AreLawfulPairs done
    × (depth_pairs done ≤ levels)
IsOpen levels (AtValue total done key) = (total < 2 ^ 64) × (count_pairs done < total) × KeysAscend None done
    × AreLawfulPairs done × (depth_pairs done ≤ levels) × IsKey key × IsLawful key
    × IsAbove (last_key None done) (encode_tree key)

-- The first array or map may contain those in the list. An array or map can't be a map key.
abbrev pub CanHold : Enclosing → List Enclosing → Type 0
CanHold (AtKey total done) (o ∷ os) = ⊥
CanHold _ _ = Unit {0}

-- What is expected next in an unfinished array or map.
abbrev pub expected_in : Enclosing → Expected
expected_in (InArray total done) = AnItem
expected_in (AtKey total done) = AKey (last_key None done)
expected_in (AtValue total done key) = AnItem

-- The error `kind` occurs in the item after these unfinished arrays and maps.
abbrev pub FailsInside : ℕ → Expected → List Enclosing → Kind → List ℕ → Type 0
FailsInside levels due [] kind rest = fault levels due rest ≡ Some kind
FailsInside zero due (o ∷ os) kind rest = ⊥
FailsInside (suc levels) due (o ∷ os) kind rest = IsOpen levels o × CanHold o os × FailsInside levels (expected_in o) os kind rest

-- The result of decoding: a tree; a tree and trailing bytes; or unfinished arrays and maps, and an error after them.
pub data Outcome : Type 0 where
  -- The bytes are the encoding of this tree.
  Whole : Tree → Outcome
  -- The bytes are the encoding of this tree, followed by trailing bytes.
  Longer : Tree → Outcome
  -- The item after these unfinished arrays and maps has this error.
  Stopped : List Enclosing → Kind → Outcome

-- The byte string has this outcome.
abbrev pub IsOutcome : List ℕ → Outcome → Type 0
IsOutcome b (Whole t) = IsCanonical t b
IsOutcome b (Longer t) = (whole rest : List ℕ) × IsCanonical t whole × (0 < length rest) × (b ≡ whole ++ rest)
IsOutcome b (Stopped os kind) = (rest : List ℕ) × FailsInside 4 AnItem os kind rest × (b ≡ open_encodings os ++ rest)

-- The sum of the lengths of all encoded keys in a tree, except the first key of each map.
abbrev mutual
  pub later_keys : Tree → ℕ
  later_keys (Plain s) = 0
  later_keys (Array ts) = later_in_all ts
  later_keys (Map ps) = later_in_map ps

  pub later_in_all : Trees → ℕ
  later_in_all no_trees = 0
  later_in_all (tree t ts) = later_keys t + later_in_all ts

  pub later_in_map : Pairs → ℕ
  later_in_map no_pairs = 0
  later_in_map (pair k v ps) = later_keys v + later_in_pairs ps

  pub later_in_pairs : Pairs → ℕ
  later_in_pairs no_pairs = 0
  later_in_pairs (pair k v ps) = length (encode_tree k) + (later_keys v + later_in_pairs ps)

-- The length of a key's encoding, or 0 if the key is the first of its map.
abbrev pub later_key : Pairs → Tree → ℕ
later_key no_pairs key = 0
later_key (pair k v ps) key = length (encode_tree key)

-- The sum of the lengths of all encoded keys in an unfinished array or map, except the first key of each map.
abbrev pub later_keys_in : Enclosing → ℕ
later_keys_in (InArray total done) = later_in_all done
later_keys_in (AtKey total done) = later_in_map done
later_keys_in (AtValue total done key) = later_in_map done + later_key done key

-- The sum of the lengths of all encoded keys in nested unfinished arrays and maps, except the first key of each map.
abbrev pub later_keys_in_open : List Enclosing → ℕ
later_keys_in_open [] = 0
later_keys_in_open (o ∷ os) = later_keys_in o + later_keys_in_open os

-- The number of steps of decoding: one for each byte that is read, one more for each byte of a key that is compared
-- with the previous key, and one for the end of the input if it is reached.
abbrev pub steps : List ℕ → Outcome → ℕ
steps b (Whole t) = length b + later_keys t + 1
steps b (Longer t) = length (encode_tree t) + later_keys t
steps b (Stopped os kind) = length (open_encodings os) + later_keys_in_open os + fault_steps kind (drop (length (open_encodings os)) b)

-- The position and the kind of the error, if any.
abbrev pub result_of : Outcome → Option (ℕ × Kind)
result_of (Whole t) = None
result_of (Longer t) = Some (length (encode_tree t), Trailing)
result_of (Stopped os kind) = Some (length (open_encodings os), kind)

-- The result and the step count of `check` for this outcome. The step count saturates at 2^64-1.
abbrev pub IsCheckResult : List ℕ → Outcome → Result (Unit {0}) Fault → ℕ → Type 0
IsCheckResult b o (Ok _) n = (result_of o ≡ None) × (n ≡ min (steps b o) 18446744073709551615)
IsCheckResult b o (Err f) n = (result_of o ≡ Some (f.at, f.kind)) × (n ≡ min (steps b o) 18446744073709551615)

-- A function that parses a whole item with its content (RFC 8949, section 3). It returns the tree, or the position and
-- the kind of an error. A law states that the result agrees with the outcome above.

-- The result of parsing an item: a tree and the remaining bytes; or the unfinished arrays and maps, the error in the
-- item after them, and the bytes from that item on.
pub data Parse : Type 0 where
  Done : Tree → List ℕ → Parse
  Halt : List Enclosing → Kind → List ℕ → Parse

-- The result of parsing the items of an array.
pub data ParsedItems : Type 0 where
  Ran : Trees → List ℕ → ParsedItems
  Broke : Trees → List Enclosing → Kind → List ℕ → ParsedItems

-- The result of parsing the pairs of a map.
pub data ParsedPairs : Type 0 where
  Walked : Pairs → List ℕ → ParsedPairs
  BadKey : Pairs → Kind → List ℕ → ParsedPairs
  BadValue : Pairs → Tree → List Enclosing → Kind → List ℕ → ParsedPairs

-- The result of parsing an array, from the result of parsing its items.
abbrev pub parsed_array : ℕ → ParsedItems → Parse
parsed_array total (Ran ts rest) = Done (Array ts) rest
parsed_array total (Broke done os kind rest) = Halt (InArray total done ∷ os) kind rest

-- The result of parsing a map, from the result of parsing its pairs.
abbrev pub parsed_map : ℕ → ParsedPairs → Parse
parsed_map total (Walked ps rest) = Done (Map ps) rest
parsed_map total (BadKey done kind rest) = Halt (AtKey total done ∷ []) kind rest
parsed_map total (BadValue done key os kind rest) = Halt (AtValue total done key ∷ os) kind rest

-- Prepends an item to the parsed items.
abbrev pub prepend_item : Tree → ParsedItems → ParsedItems
prepend_item t (Ran ts rest) = Ran (tree t ts) rest
prepend_item t (Broke done os kind rest) = Broke (tree t done) os kind rest

-- Prepends a pair to the parsed pairs.
abbrev pub prepend_pair : Tree → Tree → ParsedPairs → ParsedPairs
prepend_pair k v (Walked ps rest) = Walked (pair k v ps) rest
prepend_pair k v (BadKey done kind rest) = BadKey (pair k v done) kind rest
prepend_pair k v (BadValue done key os kind rest) = BadValue (pair k v done) key os kind rest

-- Parses the items of an array after the first one.
abbrev pub then_items : Parse → (List ℕ → ParsedItems) → ParsedItems
then_items (Done t rest) go = prepend_item t (go rest)
then_items (Halt os kind rest) go = Broke no_trees os kind rest

-- Parses the items of an array.
abbrev pub items : (List ℕ → Parse) → ℕ → List ℕ → ParsedItems
items sub zero bytes = Ran no_trees bytes
items sub (suc n) bytes = then_items (sub bytes) (items sub n)

-- Parses the pairs of a map after the first one.
abbrev pub then_pairs : Tree → Parse → (List ℕ → ParsedPairs) → ParsedPairs
then_pairs k (Done v rest) go = prepend_pair k v (go rest)
then_pairs k (Halt os kind rest) go = BadValue no_pairs k os kind rest

-- Parses the value that follows a key, and then the other pairs.
abbrev pub then_value : (List ℕ → Parse) → List ℕ → Result (Part × List ℕ) Kind → (List ℕ → List ℕ → ParsedPairs) → ParsedPairs
then_value sub bytes (Err kind) go = BadKey no_pairs kind bytes
then_value sub bytes (Ok (One s, rest)) go = then_pairs (Plain s) (sub rest) (go (encode_scalar s))
then_value sub bytes (Ok (OpensArray n, rest)) go = Walked no_pairs rest
then_value sub bytes (Ok (OpensMap n, rest)) go = Walked no_pairs rest

-- Parses the pairs of a map.
abbrev pub pairs : (List ℕ → Parse) → ℕ → ℕ → Option (List ℕ) → List ℕ → ParsedPairs
pairs sub levels zero last bytes = Walked no_pairs bytes
pairs sub levels (suc n) last bytes = then_value sub bytes (read levels (AKey last) bytes)
    (λ key. pairs sub levels n (Some key))

-- Parses the content of an array or map after its head.
abbrev pub then_content : (List ℕ → Parse) → ℕ → List ℕ → Result (Part × List ℕ) Kind → Parse
then_content sub levels bytes (Err kind) = Halt [] kind bytes
then_content sub levels bytes (Ok (One s, rest)) = Done (Plain s) rest
then_content sub levels bytes (Ok (OpensArray n, rest)) = parsed_array n (items sub n rest)
then_content sub levels bytes (Ok (OpensMap n, rest)) = parsed_map n (pairs sub levels n None rest)

-- Parses an item with its content, with at most this many levels of arrays and maps.
unfoldable pub parse : ℕ → List ℕ → Parse
parse zero bytes = then_content (λ b. Done (Plain Null) b) zero bytes (read zero AnItem bytes)
parse (suc levels) bytes = then_content (parse levels) levels bytes (read (suc levels) AnItem bytes)

-- The outcome of the whole input, from the result of parsing its first item.
abbrev pub outcome_of_parse : Parse → Outcome
outcome_of_parse (Done t []) = Whole t
outcome_of_parse (Done t (x ∷ rest)) = Longer t
outcome_of_parse (Halt os kind rest) = Stopped os kind

-- The parsed items, without the remaining bytes or the error.
abbrev pub parsed_items : ParsedItems → Trees
parsed_items (Ran ts rest) = ts
parsed_items (Broke done os kind rest) = done

-- Functions that compute the outcome of decoding, so that other definitions can refer to the tree of a message and to
-- the number of steps of reading it. The law `outcomes_are_computed` states that they agree with the outcome above.

-- Whether each number is below 256.
abbrev pub are_bytes : List ℕ → Bool
are_bytes [] = true
are_bytes (b ∷ bs) = nat_lt b 256 && are_bytes bs

-- The outcome of decoding these bytes: the tree that they encode, or their first error. If a number is above 255, only
-- the step count is meaningful.
unfoldable pub outcome_of : List ℕ → Outcome
outcome_of b = if are_bytes b then outcome_of_parse (parse 4 b) else Stopped [] Reserved

-- The tree of an outcome without an error, or None.
abbrev pub whole_tree : Outcome → Option Tree
whole_tree (Whole t) = Some t
whole_tree _ = None

-- The tree whose canonical encoding is this byte string, or None.
abbrev pub canonical_tree : List ℕ → Option Tree
canonical_tree b = whole_tree (outcome_of b)

-- The number of steps that `check` takes for these bytes.
abbrev pub check_steps : List ℕ → ℕ
check_steps b = steps b (outcome_of b)

-- The `n` items whose encodings are concatenated at the beginning of these bytes, each with at most `levels` levels.
unfoldable pub items_at : (levels n : ℕ) → List ℕ → Trees
items_at levels n b = parsed_items (items (parse levels) n b)
