-- The parameters of a request in its CBOR item (CTAP 2.1, section 8; WebAuthn Level 2, section 5.8).
use Prim.Native.String.{String}
use Rattle.std.specs.Prelude.{ℕ, pos, ◌==◌, Bool, true, false, ◌&&◌, ◌||◌, List, [], ◌∷◌, Option, Some, None, is_some}
use Rattle.std.specs.Prelude.{if◌then◌else◌, codes, ℤ, negsuc}
use Rattle.std.specs.Option.{option_or, option_and_then}
use Rattle.std.specs.Str.{bytes_eq}
use Rattle.ctap_cbor.specs.Tree.{Int, Text, Tree, Plain, Array, Map, Trees, no_trees, tree, Pairs, no_pairs, pair}
use Rattle.ctap_cbor.specs.Tree.{is_map, is_array, as_bytes, as_text, as_int, as_uint, as_flag}
use Rattle.std.specs.List.{cons_option}

-- ---- members and entries

-- The pairs of a map.
abbrev pub pairs_of : Option Tree → Pairs
pairs_of (Some (Map ps)) = ps
pairs_of _ = no_pairs

-- The entries of an array.
abbrev pub entries_of : Option Tree → Trees
entries_of (Some (Array ts)) = ts
entries_of _ = no_trees

-- A map key: an unsigned integer or a text string.
pub data MemberKey : Type 0 where
  Number : ℕ → MemberKey
  Name : String → MemberKey

-- Whether the tree is this key.
abbrev pub is_key : MemberKey → Tree → Bool
is_key (Number n) (Plain (Int (pos m))) = m == n
is_key (Name name) (Plain (Text s)) = bytes_eq s (codes name)
is_key key _ = false

-- The last value of a key. Canonical maps have no duplicate keys.
unfoldable pub value_at : MemberKey → Pairs → Option Tree
value_at key no_pairs = None
value_at key (pair k v ps) = option_or (value_at key ps) (if is_key key k then Some v else None)

-- The value of a map's member.
abbrev pub member : MemberKey → Option Tree → Option Tree
member key map = value_at key (pairs_of map)

-- The value of a map's member, converted by `kind`.
abbrev pub member_as : {A : Type 0} → (Tree → Option A) → MemberKey → Option Tree → Option A
member_as kind key map = option_and_then kind (member key map)

-- Whether each entry passes the test.
unfoldable pub all_entries : (Tree → Bool) → Trees → Bool
all_entries test no_trees = true
all_entries test (tree t ts) = test t && all_entries test ts

-- Whether at least one entry passes the test.
unfoldable pub some_entry : (Tree → Bool) → Trees → Bool
some_entry test no_trees = false
some_entry test (tree t ts) = test t || some_entry test ts

-- Whether the list is not empty.
abbrev pub has_entries : Trees → Bool
has_entries no_trees = false
has_entries (tree t ts) = true

-- Whether the value is present and passes the test.
abbrev pub is_some_and : {A : Type 0} → (A → Bool) → Option A → Bool
is_some_and test None = false
is_some_and test (Some x) = test x

-- ---- types, as tests of trees

abbrev pub is_bytes : Tree → Bool
is_bytes t = is_some (as_bytes t)

abbrev pub is_text : Tree → Bool
is_text t = is_some (as_text t)

abbrev pub is_int : Tree → Bool
is_int t = is_some (as_int t)

abbrev pub is_uint : Tree → Bool
is_uint t = is_some (as_uint t)

abbrev pub is_flag : Tree → Bool
is_flag t = is_some (as_flag t)

-- Whether the tree is an array whose entries have this type.
abbrev pub array_of : (Tree → Bool) → Tree → Bool
array_of type t = is_array t && all_entries type (entries_of (Some t))

-- Whether each pair passes the test.
unfoldable pub all_pairs : (Tree → Tree → Bool) → Pairs → Bool
all_pairs test no_pairs = true
all_pairs test (pair k v ps) = test k v && all_pairs test ps

-- Whether the value has the type listed for its key. Values of unknown keys may have any type.
abbrev pub has_listed_type : List (MemberKey × (Tree → Bool)) → Tree → Tree → Bool
has_listed_type [] k v = true
has_listed_type (t ∷ ts) k v = if is_key t.0 k then t.1 v else has_listed_type ts k v

-- Whether the tree is a map whose members have the listed types.
abbrev pub map_of : List (MemberKey × (Tree → Bool)) → Tree → Bool
map_of types t = is_map t && all_pairs (has_listed_type types) (pairs_of (Some t))

-- Parameters of requests: credential descriptors (WebAuthn Level 2, section 5.8.3), credential parameters (WebAuthn
-- Level 2, section 5.3) and options.

-- The required types of the members of a descriptor.
abbrev pub descriptor_types : List (MemberKey × (Tree → Bool))
descriptor_types = (Name "id", is_bytes) ∷ (Name "type", is_text) ∷ (Name "transports", array_of is_text) ∷ []

-- The types of a credential parameter's members.
abbrev pub parameter_types : List (MemberKey × (Tree → Bool))
parameter_types = (Name "alg", is_int) ∷ (Name "type", is_text) ∷ []

-- The required types of the options, by name.
abbrev pub option_types : List (MemberKey × (Tree → Bool))
option_types = (Name "rk", is_flag) ∷ (Name "up", is_flag) ∷ (Name "uv", is_flag) ∷ []

-- Whether the credential type is `public-key`.
abbrev pub is_public_key : Option (List ℕ) → Bool
is_public_key = is_some_and (λ s. bytes_eq s (codes "public-key"))

-- The type in a descriptor or credential parameter.
abbrev pub type_of : Tree → Option (List ℕ)
type_of t = member_as as_text (Name "type") (Some t)

-- Whether the descriptor has an ID and a type.
abbrev pub has_id_and_type : Tree → Bool
has_id_and_type t = is_some (member_as as_bytes (Name "id") (Some t)) && is_some (type_of t)

-- The ID in a descriptor of type `public-key`.
abbrev pub id_of : Tree → Option (List ℕ)
id_of t = if is_public_key (type_of t) then member_as as_bytes (Name "id") (Some t) else None

-- The IDs of all descriptors of type `public-key` in a list, in order.
abbrev pub ids_of : Trees → List (List ℕ)
ids_of no_trees = []
ids_of (tree t ts) = cons_option (id_of t) (ids_of ts)

-- Whether the credential parameter has an algorithm and a type.
abbrev pub has_alg_and_type : Tree → Bool
has_alg_and_type t = is_some (member_as as_int (Name "alg") (Some t)) && is_some (type_of t)

-- Whether the algorithm is ES256, whose identifier is -7.
abbrev pub is_es256 : Option ℤ → Bool
is_es256 (Some (negsuc n)) = n == 6
is_es256 _ = false

-- Whether the credential parameter is for ES256 public keys.
abbrev pub is_es256_parameter : Tree → Bool
is_es256_parameter t = is_es256 (member_as as_int (Name "alg") (Some t)) && is_public_key (type_of t)
