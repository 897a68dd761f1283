-- The state of a cursor, how its calls change it, and what they collect.
use Rattle.std.specs.Prelude.{◌≡◌, ℕ, ◌+◌, ◌≤◌, ◌<◌, min, max, List, [], ◌++◌, length, drop, Option, Some, None}
use Rattle.std.specs.Prelude.{Result, Ok, Err, ◌⊎◌, Bool, true, false, ◌&&◌}
use Rattle.ctap_cbor.specs.declared.fault.Fault.{Fault}
use Rattle.ctap_cbor.specs.declared.fault.Kind.{Kind}
use Rattle.ctap_cbor.specs.declared.fault.Kind.TheVariants.{Trailing}
use Rattle.ctap_cbor.specs.Tree.{Tree, Plain, Array, Map, Trees, Pairs, Scalar, depth, depth_all, depth_pairs, count}
use Rattle.ctap_cbor.specs.Tree.{count_pairs, no_trees, no_pairs, push, push_pair}
use Rattle.ctap_cbor.specs.Outcome.{later_keys_in_open, Enclosing, open_encodings, last_key, FailsInside, later_keys}
use Rattle.ctap_cbor.specs.Outcome.{later_in_all, later_in_map}
use Rattle.ctap_cbor.specs.Grammar.{encode_tree, encode_trees, encode_pairs, encode_scalar, KeysAscend, IsLawful}
use Rattle.ctap_cbor.specs.Grammar.{AreLawful, AreLawfulPairs}
use Rattle.ctap_cbor.specs.Items.{Expected, AnItem, AKey, fault, passed, fault_steps, Part, One, OpensArray, OpensMap}
use Rattle.ctap_cbor.specs.Items.{encode_item, IsAllowed}

-- ---- the state, and its changes

-- The state of a cursor: the message, the position, and the number of steps so far.
pub record Reading : Type 0 where
  pub bytes : List ℕ
  pub place : ℕ
  pub steps : ℕ

-- A cursor at the first byte, with this step count.
abbrev pub cursor_at_start : List ℕ → ℕ → Reading
cursor_at_start b s = record { bytes = b; place = 0; steps = s }

-- The bytes from the position on.
abbrev pub rest_of : Reading → List ℕ
rest_of r = drop r.place r.bytes

-- The step count `n` increased by `more`, saturating at 2^64-1.
abbrev pub add_steps : ℕ → ℕ → ℕ
add_steps n more = max n (min (n + more) 18446744073709551615)

-- The cursor after it moved by this number of bytes and steps.
abbrev pub advance : Reading → ℕ → ℕ → Reading
advance r n s = record { bytes = r.bytes; place = r.place + n; steps = add_steps r.steps s }

-- The message stays the same, and the position and the step count don't decrease.
pub record MovesOn (old new : Reading) : Type 0 where
  pub same : new.bytes ≡ old.bytes
  pub place : old.place ≤ new.place
  pub steps : old.steps ≤ new.steps

-- The cursor reads an item: its head and, for a string, the content.
pub record TakesItem (levels : ℕ) (old new : Reading) (part : Part) : Type 0 where
  pub suits : IsAllowed levels AnItem part
  pub spelled : rest_of old ≡ encode_item part ++ rest_of new
  pub moved : new ≡ advance old (length (encode_item part)) (length (encode_item part))

-- The item at the cursor's position has this error.
pub record HasItemError (levels : ℕ) (due : Expected) (old new : Reading) (at : ℕ) (kind : Kind) : Type 0 where
  pub is : fault levels due (rest_of old) ≡ Some kind
  pub place : at ≡ old.place
  pub moved : new ≡ advance old (passed kind (rest_of old)) (fault_steps kind (rest_of old))

-- The number of steps of comparing a key of length `n` with the previous key, if any.
abbrev pub comparison_steps : Option (List ℕ) → ℕ → ℕ
comparison_steps None n = 0
comparison_steps (Some before) n = n

-- The cursor reads a map key.
pub record TakesKey (last : Option (List ℕ)) (old new : Reading) (s : Scalar) : Type 0 where
  pub suits : IsAllowed 0 (AKey last) (One s)
  pub spelled : rest_of old ≡ encode_scalar s ++ rest_of new
  pub moved : new ≡ advance old (length (encode_scalar s))
      (length (encode_scalar s) + comparison_steps last (length (encode_scalar s)))

-- The cursor reads a map key, and returns its encoding.
pub record GivesKey (last : Option (List ℕ)) (old new : Reading) (part : Part) (bytes : List ℕ) : Type 0 where
  pub key : Scalar
  pub part_is : part ≡ One key
  pub bytes_is : bytes ≡ encode_scalar key
  pub takes : TakesKey last old new key

-- The cursor reads an item with its content.
pub record Passes (levels : ℕ) (tree : Tree) (old new : Reading) : Type 0 where
  pub lawful : IsLawful tree
  pub flat : depth tree ≤ levels
  pub spelled : rest_of old ≡ encode_tree tree ++ rest_of new
  pub moved : new ≡ advance old (length (encode_tree tree)) (length (encode_tree tree) + later_keys tree)

-- The cursor finds an error inside zero or more unfinished arrays and maps.
pub record Fails (levels : ℕ) (old new : Reading) (at : ℕ) (kind : Kind) : Type 0 where
  pub os : List Enclosing
  pub tail : List ℕ
  pub halts : FailsInside levels AnItem os kind tail
  pub spelled : rest_of old ≡ open_encodings os ++ tail
  pub place : at ≡ old.place + length (open_encodings os)
  pub moved : new ≡ advance old (length (open_encodings os) + passed kind tail)
      (length (open_encodings os) + later_keys_in_open os + fault_steps kind tail)

-- The cursor reads `n` items of an array.
pub record PassesAll (levels n : ℕ) (done : Trees) (old new : Reading) : Type 0 where
  pub lawful : AreLawful done
  pub flat : depth_all done ≤ levels
  pub number : count done ≡ n
  pub spelled : rest_of old ≡ encode_trees done ++ rest_of new
  pub moved : new ≡ advance old (length (encode_trees done)) (length (encode_trees done) + later_in_all done)

-- The cursor reads fewer than `n` items of an array, and then finds an error in the next item.
pub record FailsInArray (levels n : ℕ) (old new : Reading) (at : ℕ) (kind : Kind) : Type 0 where
  pub before : ℕ
  pub fewer : before < n
  pub between : Reading
  pub done : Trees
  pub passes : PassesAll levels before done old between
  pub halts : Fails levels between new at kind

-- The cursor reads `n` pairs of a map. `last` is the encoding of the last key, if any.
pub record PassesPairs (levels n : ℕ) (done : Pairs) (last : Option (List ℕ)) (old new : Reading) : Type 0 where
  pub rises : KeysAscend None done
  pub lawful : AreLawfulPairs done
  pub flat : depth_pairs done ≤ levels
  pub number : count_pairs done ≡ n
  pub last_is : last ≡ last_key None done
  pub spelled : rest_of old ≡ encode_pairs done ++ rest_of new
  pub moved : new ≡ advance old (length (encode_pairs done)) (length (encode_pairs done) + later_in_map done)

-- The cursor reads fewer than `n` pairs of a map, and then finds an error in the next key.
pub record FailsAtKey (levels n : ℕ) (old new : Reading) (at : ℕ) (kind : Kind) : Type 0 where
  pub before : ℕ
  pub last : Option (List ℕ)
  pub fewer : before < n
  pub between : Reading
  pub done : Pairs
  pub passes : PassesPairs levels before done last old between
  pub refuses : HasItemError 0 (AKey last) between new at kind

-- The cursor reads fewer than `n` pairs of a map, then a key, and then finds an error in the key's value.
pub record FailsAtValue (levels n : ℕ) (old new : Reading) (at : ℕ) (kind : Kind) : Type 0 where
  pub before : ℕ
  pub last : Option (List ℕ)
  pub fewer : before < n
  pub between : Reading
  pub at_value : Reading
  pub key : Scalar
  pub done : Pairs
  pub passes : PassesPairs levels before done last old between
  pub takes : TakesKey last between at_value key
  pub halts : Fails levels at_value new at kind

-- The cursor reads any item with its content.
abbrev pub PassesOne : ℕ → Reading → Reading → Type 0
PassesOne levels old new = (t : Tree) × Passes levels t old new

-- The root of a tree as an item, without the content of an array or map.
abbrev pub part_of_tree : Tree → Part
part_of_tree (Plain s) = One s
part_of_tree (Array ts) = OpensArray (count ts)
part_of_tree (Map ps) = OpensMap (count_pairs ps)

-- The cursor reads an item with this head, including its content.
abbrev pub PassesHead : ℕ → Part → Reading → Reading → Type 0
PassesHead levels part old new = (t : Tree) × Passes levels t old new × (part ≡ part_of_tree t)

-- The cursor finds an error in a key or a value of a map.
abbrev pub FailsInPairs : ℕ → ℕ → Reading → Reading → ℕ → Kind → Type 0
FailsInPairs levels n old new at kind = FailsAtKey levels n old new at kind ⊎ FailsAtValue levels n old new at kind

-- The result of reading is the only possible one: if the encoding of a tree is at the position, that tree is read;
-- otherwise the result is the first error.
pub record IsOnlyResult (levels : ℕ) (old new : Reading) (result : Result (Unit {0}) Fault) : Type 0 where
  pub passed : (t : Tree) (r : Reading) → Passes levels t old r → (result ≡ Ok tt) × (new ≡ r)
  pub halted : (at : ℕ) (kind : Kind) (r : Reading) → Fails levels old r at kind
      → (result ≡ Err record { at = at; kind = kind }) × (new ≡ r)

-- The cursor is at the end of the message. Detecting this takes one step.
pub record HasNoByteLeft (old new : Reading) : Type 0 where
  pub at_end : rest_of old ≡ []
  pub moved : new ≡ advance old 0 1

-- Bytes follow the item, which is an error.
pub record HasTrailingBytes (old new : Reading) (at : ℕ) (kind : Kind) : Type 0 where
  pub left : 0 < length (rest_of old)
  pub place : at ≡ old.place
  pub is_trailing : kind ≡ Trailing
  pub moved : new ≡ old

-- How the members of a map, or the entries of an array, are collected while a cursor reads them. `H m ok ps` states
-- that `m` was collected from the pairs or entries `ps`, and that `ok` is whether all of them were accepted.

-- The effect of collecting the pairs of this item on the collector, from `before` to `after`. `taken` is true if the
-- item is a map and all its pairs were accepted. An item of another type leaves the collector unchanged.
abbrev pub InMap : {M : Type 0} → (M → Bool → Pairs → Type 0) → Bool → M → M → Tree → Type 0
InMap H taken before after (Map ps) = H before true no_pairs → H after taken ps
InMap H taken before after _ = (taken ≡ false) × (after ≡ before)

-- The effect of collecting the entries of this item on the collector, from `before` to `after`. `taken` is true if the
-- item is an array and all its entries were accepted. An item of another type leaves the collector unchanged.
abbrev pub InArray : {M : Type 0} → (M → Bool → Trees → Type 0) → Bool → M → M → Tree → Type 0
InArray H taken before after (Array ts) = H before true no_trees → H after taken ts
InArray H taken before after _ = (taken ≡ false) × (after ≡ before)

-- The cursor reads a value, and the collector accepts or skips it with its key.
abbrev pub AddsPair : {M : Type 0} → (M → Bool → Pairs → Type 0) → ℕ → Part → Bool → M → M → Reading → Reading → Type 0
AddsPair H levels key taken before after old new = (v : Tree) × Passes levels v old new
    × ((ok : Bool) (ps : Pairs) (k : Scalar) → key ≡ One k → H before ok ps
    → H after (ok && taken) (push_pair ps (Plain k) v))

-- The cursor reads an entry, and the collector accepts or skips it.
abbrev pub AddsEntry : {M : Type 0} → (M → Bool → Trees → Type 0) → ℕ → Bool → M → M → Reading → Reading → Type 0
AddsEntry H levels taken before after old new = (t : Tree) × Passes levels t old new
    × ((ok : Bool) (ts : Trees) → H before ok ts → H after (ok && taken) (push ts t))

-- The cursor reads `n` pairs, and the collector handles each of them.
abbrev pub AddsPairs : {M : Type 0} → (M → Bool → Pairs → Type 0) → ℕ → ℕ → Option (List ℕ) → Bool → M → M → Reading
    → Reading → Type 0
AddsPairs H levels n last ok before after old new = (ps : Pairs) × PassesPairs levels n ps last old new
    × (H before true no_pairs → H after ok ps)

-- The cursor reads `n` entries, and the collector handles each of them.
abbrev pub AddsEntries : {M : Type 0} → (M → Bool → Trees → Type 0) → ℕ → ℕ → Bool → M → M → Reading → Reading → Type 0
AddsEntries H levels n ok before after old new = (ts : Trees) × PassesAll levels n ts old new
    × (H before true no_trees → H after ok ts)

-- The cursor reads an item. If the item is a map, its pairs are collected.
abbrev pub ReadsMap : {M : Type 0} → (M → Bool → Pairs → Type 0) → ℕ → Bool → M → M → Reading → Reading → Type 0
ReadsMap H levels taken before after old new = (t : Tree) × Passes levels t old new × InMap H taken before after t

-- The cursor reads an item. If the item is an array, its entries are collected.
abbrev pub ReadsArray : {M : Type 0} → (M → Bool → Trees → Type 0) → ℕ → Bool → M → M → Reading → Reading → Type 0
ReadsArray H levels taken before after old new = (t : Tree) × Passes levels t old new × InArray H taken before after t
