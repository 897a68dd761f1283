-- Snapshots of a credential table: their definition, how they are read and written, and their laws.
use Rattle.std.specs.Prelude.{◌≡◌, ℕ, ◌^◌, ◌<◌, ◌≤◌, pos, Bool, true, false, ◌||◌, if◌then◌else◌, IsTrue, List, []}
use Rattle.std.specs.Prelude.{◌∷◌, ◌++◌, length, Result, Ok, Err, nat_eq, nat_le, nat_lt, Option, Some, None, IsSome}
use Rattle.std.specs.Prelude.{◌+◌, ◌*◌, drop}
use Rattle.std.specs.List.{AllByRecursion, list_any}
use Rattle.std.specs.Str.{IsUtf8}
use Rattle.ctap_cbor.specs.Grammar.{AreBytes, encode_tree, IsCanonical, head, encode_trees, encode_scalar}
use Rattle.ctap_cbor.specs.Tree.{no_pairs, pair, count, Int, Bytes, Text, Flag, Tree, Plain, Array, Map, Trees}
use Rattle.ctap_cbor.specs.Tree.{no_trees, tree, Pairs}
use Rattle.cred_table.specs.declared.row.Row.{Row}
use Rattle.cred_table.specs.declared.fault.SnapshotFault.{SnapshotFault}
use Rattle.cred_table.specs.declared.fault.SnapshotFault.TheVariants.{NotSnapshot, TooMany, RowBroken, Memory}
use Rattle.cred_table.specs.Rows.{has_id, replaces, ValidRows}
use Rattle.ctap_cbor.specs.Items.{AnItem, Part, One, OpensArray, OpensMap, encode_item, IsAllowed}
use Rattle.ctap_cbor.specs.Reading.{Reading, rest_of}
use Rattle.ctap_cbor.specs.declared.sink.Sink.{Sink}
use Rattle.ctap_cbor.specs.Writing.{Appends}

-- A snapshot is one data item in canonical CBOR, the map {1: version, 2: [row, ..]}, with the rows in order of
-- creation. Rows of version 2 contain the user's name, rows of version 1 don't. `named` is true for version 2.

-- An unsigned integer as a CBOR item: a map key, a version or a counter.
abbrev pub number : ℕ → Tree
number n = Plain (Int (pos n))

-- A byte string as a CBOR item.
abbrev pub bytes : List ℕ → Tree
bytes s = Plain (Bytes s)

-- ---- rows

-- The last member of a row's map: the user's name. Only version 2 has this member.
abbrev pub name_member : (named : Bool) → Row → Pairs
name_member true row = pair (number 8) (Plain (Text row.name)) no_pairs
name_member false row = no_pairs

-- The map of a row: RP ID hash, credential ID, coordinates of the public key, user handle, whether the credential is
-- discoverable, signature counter, and in version 2 the user's name.
abbrev pub row_tree : (named : Bool) → Row → Tree
row_tree named row =
    Map (pair (number 1) (bytes row.rp)
    (pair (number 2) (bytes row.id)
    (pair (number 3) (bytes row.x)
    (pair (number 4) (bytes row.y)
    (pair (number 5) (bytes row.user.items)
    (pair (number 6) (Plain (Flag row.discoverable))
    (pair (number 7) (number row.counter)
    (name_member named row))))))))

-- The bytes are a hash, a credential ID or a coordinate: 32 bytes.
abbrev pub IsHash : List ℕ → Type 0
IsHash s = (length s ≡ 32) × AreBytes s

-- The bytes are a user handle: at most 64 bytes.
abbrev pub IsUserHandle : List ℕ → Type 0
IsUserHandle s = (length s ≤ 64) × AreBytes s

-- The bytes are a user's name: at most 64 bytes of UTF-8 in version 2, empty in version 1.
abbrev pub IsName : (named : Bool) → List ℕ → Type 0
IsName true s = (length s ≤ 64) × IsUtf8 s
IsName false s = s ≡ []

-- Each field of the row has the type and the length that a snapshot allows.
pub record IsRow (named : Bool) (row : Row) : Type 0 where
  pub rp : IsHash row.rp
  pub id : IsHash row.id
  pub x : IsHash row.x
  pub y : IsHash row.y
  pub user : IsUserHandle row.user.items
  pub counter : row.counter < 2 ^ 32
  pub name : IsName named row.name

-- ---- whole snapshots

-- The version number of snapshots with or without user names.
abbrev pub version : (named : Bool) → ℕ
version named = if named then 2 else 1

-- The map of a snapshot with these entries.
abbrev pub snapshot_of : (named : Bool) → Trees → Tree
snapshot_of named entries = Map (pair (number 1) (number (version named)) (pair (number 2) (Array entries) no_pairs))

-- The maps of these rows, followed by other entries.
abbrev pub rows_then : (named : Bool) → List Row → Trees → Trees
rows_then named [] entries = entries
rows_then named (row ∷ rows) entries = tree (row_tree named row) (rows_then named rows entries)

-- The map of a snapshot of these rows.
abbrev pub snapshot : (named : Bool) → List Row → Tree
snapshot named rows = snapshot_of named (rows_then named rows no_trees)

-- The bytes are the canonical encoding of the snapshot of these rows, which are valid for a table of this capacity.
pub record IsSnapshot (named : Bool) (capacity : ℕ) (rows : List Row) (bytes : List ℕ) : Type 0 where
  pub typed : AllByRecursion (IsRow named) rows
  pub lawful : ValidRows capacity rows
  pub canonical : IsCanonical (snapshot named rows) bytes

-- ---- saving

-- The snapshot of the rows in version 2 was appended to the old bytes.
abbrev pub Saves : (capacity : ℕ) → List Row → (old new : List ℕ) → Type 0
Saves capacity rows old new = (saved : List ℕ) × IsSnapshot true capacity rows saved × (new ≡ old ++ saved)

-- The length in bytes of the snapshot of the rows in version 2.
abbrev pub saved_len : List Row → ℕ
saved_len rows = length (encode_tree (snapshot true rows))

-- ---- loading

-- The bytes are the canonical encoding of a snapshot with these entries, which need not be valid rows.
abbrev pub HasEntriesOf : (named : Bool) → Trees → List ℕ → Type 0
HasEntriesOf named entries bytes = IsCanonical (snapshot_of named entries) bytes

-- Whether the row conflicts with one of these rows: both have the same ID, or both are discoverable with the same RP
-- and user handle.
abbrev pub clashes : Row → List Row → Bool
clashes row rows = list_any (has_id row.id) rows || list_any (replaces row) rows

-- The entry at index `place`, counted from 0, is the first invalid entry: it isn't the map of a row, or the row
-- conflicts with an earlier row.
pub record FirstInvalid (named : Bool) (capacity : ℕ) (entries : Trees) (place : ℕ) : Type 0 where
  pub before : List Row
  pub entry : Tree
  pub after : Trees
  pub split : entries ≡ rows_then named before (tree entry after)
  pub place_is : length before ≡ place
  pub typed : AllByRecursion (IsRow named) before
  pub lawful : ValidRows capacity before
  pub broken : (row : Row) → IsRow named row → entry ≡ row_tree named row → IsTrue (clashes row before)

-- The bytes are rejected with this error. The checks are, in this order: the bytes are a snapshot, the number of
-- entries is within the capacity, each entry is valid.
abbrev pub Refuses : (capacity : ℕ) → List ℕ → SnapshotFault → Type 0
Refuses capacity bytes NotSnapshot = (named : Bool) (entries : Trees) → HasEntriesOf named entries bytes → ⊥
Refuses capacity bytes TooMany = (named : Bool) × (entries : Trees) × HasEntriesOf named entries bytes
    × (capacity < count entries)
Refuses capacity bytes (RowBroken place) = (named : Bool) × (entries : Trees) × HasEntriesOf named entries bytes
    × (count entries ≤ capacity) × FirstInvalid named capacity entries place
Refuses capacity bytes Memory = ⊥

-- The result of loading a snapshot from these bytes: either its rows, or an error.
abbrev pub Loads : (capacity : ℕ) → List ℕ → Result (Unit {0}) SnapshotFault → List Row → Type 0
Loads capacity bytes (Ok _) rows = (named : Bool) × IsSnapshot named capacity rows bytes
Loads capacity bytes (Err fault) rows = Refuses capacity bytes fault

-- ---- how a cursor reads the parts of a snapshot, from any position

-- The property is true for the value, if any.
abbrev pub HoldsIfSome : {V : Type 0} → Option V → (V → Type 0) → Type 0
HoldsIfSome None P = Unit {0}
HoldsIfSome (Some v) P = P v

-- A reader returns a value if and only if the value's encoding is at the cursor, and then moves the cursor past it.
pub record Reads {V : Type 0} (Is : V → Type 0) (spell : V → List ℕ) (old new : Reading)
    (result : Option V) : Type 0 where
  pub took : HoldsIfSome result (λ v. Is v × (rest_of old ≡ spell v ++ rest_of new))
  pub found : (v : V) (rest : List ℕ) → Is v → rest_of old ≡ spell v ++ rest → IsSome result × (rest_of new ≡ rest)

-- A reader returns an item if and only if the item's encoding is at the cursor, and then moves the cursor past it. The
-- encoding is the head and, for a string, the content.
pub record ReadsPart (capacity : ℕ) (spell : Part → List ℕ) (old new : Reading) (result : Option Part) : Type 0 where
  pub took : HoldsIfSome result (λ i. IsAllowed capacity AnItem i × (rest_of old ≡ spell i ++ rest_of new))
  pub found : (i : Part) (rest : List ℕ) → IsAllowed capacity AnItem i → rest_of old ≡ spell i ++ rest
      → (result ≡ Some i) × (rest_of new ≡ rest)

-- The encoding of a map member: its key, followed by a whole string or the head of another value.
abbrev pub encode_member : ℕ → Part → List ℕ
encode_member key part = encode_scalar (Int (pos key)) ++ encode_item part

-- Accepts the head of a map with this number of members.
abbrev pub map_in : ℕ → Part → Option (Unit {0})
map_in count (OpensMap n) = if nat_eq n count then Some tt else None
map_in count _ = None

-- Accepts this integer.
abbrev pub key_in : ℕ → Part → Option (Unit {0})
key_in key (One (Int (pos n))) = if nat_eq n key then Some tt else None
key_in key _ = None

-- The content of a byte string of 32 bytes, or None.
abbrev pub hash_in : Part → Option (List ℕ)
hash_in (One (Bytes s)) = if nat_eq (length s) 32 then Some s else None
hash_in _ = None

-- The content of a byte string of at most 64 bytes, or None.
abbrev pub handle_in : Part → Option (List ℕ)
handle_in (One (Bytes s)) = if nat_le (length s) 64 then Some s else None
handle_in _ = None

-- The value of a Boolean, or None for other items.
abbrev pub flag_in : Part → Option Bool
flag_in (One (Flag b)) = Some b
flag_in _ = None

-- The value of an integer below 2^32, or None.
abbrev pub counter_in : Part → Option ℕ
counter_in (One (Int (pos n))) = if nat_lt n (2 ^ 32) then Some n else None
counter_in _ = None

-- The content of a text string of at most 64 bytes, or None.
abbrev pub name_in : Part → Option (List ℕ)
name_in (One (Text s)) = if nat_le (length s) 64 then Some s else None
name_in _ = None

-- The number of items of an array, or None for other items.
abbrev pub count_in : Part → Option ℕ
count_in (OpensArray n) = Some n
count_in _ = None

-- Whether the rows have user names, from the version of a snapshot, or None for unknown versions.
abbrev pub has_names_in : Part → Option Bool
has_names_in (One (Int (pos n))) = if nat_eq n 1 then Some false else if nat_eq n 2 then Some true else None
has_names_in _ = None

-- Applies a function to the value, if any.
abbrev pub and_then : {V W : Type 0} → (V → Option W) → Option V → Option W
and_then f None = None
and_then f (Some v) = f v

-- The result of reading the map member with this key, as in `Reads`. `Is` is the property of valid values, and `shown`
-- converts a value to a CBOR item.
abbrev pub ReadsMember : {W : Type 0} → (Is : W → Type 0) (shown : W → Part) → ℕ → Reading → Reading → Option W → Type 0
ReadsMember {W} Is shown key old new result = Reads {V = W} Is (λ w. encode_member key (shown w)) old new result

-- The encoding of a row's member for the user name: nothing in version 1.
abbrev pub encode_name : (named : Bool) → List ℕ → List ℕ
encode_name true s = encode_member 8 (One (Text s))
encode_name false s = []

-- The number of members in the map of a row.
abbrev pub member_count : (named : Bool) → ℕ
member_count named = if named then 8 else 7

-- The encoding of a row.
abbrev pub encode_row : (named : Bool) → Row → List ℕ
encode_row named row = encode_tree (row_tree named row)

-- The encoding of a snapshot up to its first entry: the version and the number of entries.
abbrev pub encode_header : Bool × ℕ → List ℕ
encode_header h = head 5 2 ++ (encode_member 1 (One (Int (pos (version h.0)))) ++ encode_member 2 (OpensArray h.1))

-- The encodings of rows, concatenated.
abbrev pub encode_rows : (named : Bool) → List Row → List ℕ
encode_rows named rows = encode_trees (rows_then named rows no_trees)

-- These bytes don't begin with the encoding of a row that could follow `rows` without a conflict.
abbrev pub NoRowFollows : (named : Bool) → List Row → List ℕ → Type 0
NoRowFollows named rows here = (row : Row) (rest : List ℕ) → IsRow named row → here ≡ encode_row named row ++ rest
    → IsTrue (clashes row rows)

-- The cursor reads a row, which is appended to `rows`.
pub record ReadsNextRow (named : Bool) (old new : Reading) (rows more : List Row) : Type 0 where
  pub row : Row
  pub typed : IsRow named row
  pub spelled : rest_of old ≡ encode_row named row ++ rest_of new
  pub more_is : more ≡ rows ++ row ∷ []

-- The result of reading one entry: true if the entry is a row that could be appended.
abbrev pub ReadsEntry : (named : Bool) → Reading → Reading → List Row → List Row → Bool → Type 0
ReadsEntry named old new rows more true = ReadsNextRow named old new rows more
ReadsEntry named old new rows more false = NoRowFollows named rows (rest_of old)

-- The cursor reads these rows, starting at the first entry.
pub record ReadsFirstRows (named : Bool) (n : ℕ) (old new : Reading) (rows : List Row) : Type 0 where
  pub typed : AllByRecursion (IsRow named) rows
  pub number : length rows ≡ n
  pub spelled : rest_of old ≡ encode_rows named rows ++ rest_of new

-- The cursor reads valid rows, fewer than the number of entries, and then finds an invalid entry at index `place`.
pub record FailsAtRow (named : Bool) (capacity n place : ℕ) (old : Reading) : Type 0 where
  pub rows : List Row
  pub between : Reading
  pub takes : ReadsFirstRows named place old between rows
  pub lawful : ValidRows capacity rows
  pub fewer : place < n
  pub none : NoRowFollows named rows (rest_of between)

-- The result of reading `n` entries.
abbrev pub ReadsRows : (named : Bool) (capacity n : ℕ) → Reading → Reading → List Row → Result (Unit {0}) SnapshotFault
    → Type 0
ReadsRows named capacity n old new rows (Ok _) = ReadsFirstRows named n old new rows
ReadsRows named capacity n old new rows (Err (RowBroken place)) = FailsAtRow named capacity n place old
ReadsRows named capacity n old new rows (Err _) = ⊥

-- ---- how a part of a snapshot is written

-- The sink appended exactly these bytes, and they are at most `most` bytes.
abbrev pub AppendsUpTo : Sink → Sink → List ℕ → (most : ℕ) → Type 0
AppendsUpTo old new bytes most = (len : ℕ) × (len ≤ most) × Appends old new bytes len

-- The second list begins with the first.
abbrev pub Extends : List ℕ → List ℕ → Type 0
Extends old new = (more : List ℕ) × (new ≡ old ++ more)

-- The maximum length of a snapshot in bytes: 13, and 283 for each row.
abbrev pub max_snapshot_len : (capacity : ℕ) → ℕ
max_snapshot_len capacity = 13 + 283 * capacity

-- The result of saving a snapshot into a buffer. If a length is returned, the snapshot of the rows in version 2 has
-- this length and is at the beginning of the buffer, and the rest of the buffer is unchanged. Otherwise the buffer is
-- shorter than the maximum length of a snapshot, and is unchanged.
abbrev pub SavesInto : (capacity : ℕ) → List Row → (old new : List ℕ) → Option ℕ → Type 0
SavesInto capacity rows old new (Some len) = (max_snapshot_len capacity ≤ length old)
    × (saved : List ℕ) × IsSnapshot true capacity rows saved × (length saved ≡ len) × (new ≡ saved ++ drop len old)
SavesInto capacity rows old new None = (length old < max_snapshot_len capacity) × (new ≡ old)

-- ---- the numbers of snapshot errors

-- The number of a snapshot error. Error messages contain 1, 2 or 3; a failed allocation has a message of its own.
abbrev pub refusal_number : SnapshotFault → ℕ
refusal_number NotSnapshot = 1
refusal_number TooMany = 2
refusal_number (RowBroken place) = 3
refusal_number Memory = 4

-- ---- laws of snapshots that refer to the definitions alone, not to the code

-- The two lists of rows are equal in all fields.
abbrev pub SameRows : List Row → List Row → Type 0
SameRows rows others = rows_then true rows no_trees ≡ rows_then true others no_trees

-- A byte string is the snapshot of at most one list of rows, in one version of the format.
abbrev pub SnapshotsAreUnique : Type 0
SnapshotsAreUnique = (named other : Bool) (capacity space : ℕ) (rows others : List Row) (text : List ℕ)
    → IsSnapshot named capacity rows text → IsSnapshot other space others text → (named ≡ other) × SameRows rows others

-- Rejected bytes aren't the snapshot of any rows that fit the capacity.
abbrev pub RejectedIsNoSnapshot : Type 0
RejectedIsNoSnapshot = (capacity : ℕ) (text : List ℕ) (fault : SnapshotFault) → Refuses capacity text fault
    → (named : Bool) (rows : List Row) → IsSnapshot named capacity rows text → ⊥

-- Rejected bytes have only one error.
abbrev pub OneSnapshotError : Type 0
OneSnapshotError = (capacity : ℕ) (text : List ℕ) (f g : SnapshotFault) → Refuses capacity text f → Refuses capacity text g →
    f ≡ g
