-- One data item: its head, its content if it is a string (RFC 8949, section 3), its errors, and those of encoding.
use Rattle.std.specs.Prelude.{ℕ, ◌+◌, Bool, true, false, not, ◌&&◌, ◌||◌, List, [], ◌∷◌, ◌++◌, length, take, drop}
use Rattle.std.specs.Prelude.{Option, Some, None, if◌then◌else◌, nat_lt, nat_le, nat_eq, zero, suc, ◌<◌, ◌^◌, pos}
use Rattle.std.specs.Prelude.{negsuc, Result, Ok, Err, ◌-◌}
use Rattle.std.specs.Ordering.{is_lt, nat_cmp}
use Rattle.std.specs.Str.{is_utf8}
use Rattle.std.specs.Cmp.Lexicographic.{slice_cmp}
use Rattle.ctap_cbor.specs.declared.fault.Kind.{Kind}
use Rattle.ctap_cbor.specs.declared.fault.Kind.TheVariants.{Truncated, Reserved, NotShortest, TooDeep, KeyType}
use Rattle.ctap_cbor.specs.declared.fault.Kind.TheVariants.{KeyOrder, NotUtf8, Unsupported, Trailing, Memory}
use Rattle.ctap_cbor.specs.Grammar.{major, info, argument_len, argument, least_argument, head}
use Rattle.ctap_cbor.specs.Tree.{Scalar, Int, Bytes, Text, Flag, Null, Plain, no_pairs, pair, Tree, Array, Map, Trees}
use Rattle.ctap_cbor.specs.Tree.{no_trees, tree, Pairs}
use Rattle.ctap_cbor.specs.Grammar.{encode_scalar, Fits, IsKey, IsAbove, encode_tree}

-- ---- the errors of one item (the table in docs/use/PROFILE.md, "Faults")

-- The number of an error kind, as the programs print it: 1 to 10.
abbrev pub number_of : Kind → ℕ
number_of Truncated = 1
number_of Reserved = 2
number_of NotShortest = 3
number_of TooDeep = 4
number_of KeyType = 5
number_of KeyOrder = 6
number_of NotUtf8 = 7
number_of Unsupported = 8
number_of Trailing = 9
number_of Memory = 10

-- What is expected next: any item, or a map key. A key comes with the encoding of the previous key in its map, if any.
pub data Expected : Type 0 where
  AnItem : Expected
  AKey : Option (List ℕ) → Expected

-- Whether a map key is expected.
abbrev pub is_key : Expected → Bool
is_key AnItem = false
is_key (AKey before) = true

-- Whether a key's encoding is greater than that of the previous key, in lexicographic order.
abbrev pub is_above : Expected → List ℕ → Bool
is_above AnItem key = true
is_above (AKey None) key = true
is_above (AKey (Some before)) key = is_lt (slice_cmp nat_cmp before key)

-- The number of content bytes of a string with this initial byte, or 0 for other items.
unfoldable pub string_len : ℕ → List ℕ → ℕ
string_len first rest = if nat_eq (major first) 2 || nat_eq (major first) 3 then argument first rest else 0

-- The length of the item with this initial byte: the head and, for a string, the content.
unfoldable pub item_len : ℕ → List ℕ → ℕ
item_len first rest = 1 + argument_len (info first) + string_len first rest

-- The first error whose condition is true, if any.
abbrev pub first_fault_of : List (Bool × Kind) → Option Kind
first_fault_of [] = None
first_fault_of (t ∷ ts) = if t.0 then Some t.1 else first_fault_of ts

-- The errors that the initial byte determines, each with its condition, in order. `levels` is the number of arrays and
-- maps that may still be opened.
unfoldable pub first_faults : ℕ → Expected → ℕ → List (Bool × Kind)
first_faults levels due first =
    let m = major first in
    let i = info first in
    let is_nest = nat_eq m 4 || nat_eq m 5 in
    (nat_le 28 i, Reserved)
    ∷ (nat_eq m 6 || (nat_eq m 7 && not (nat_le 20 i && nat_le i 22)), Unsupported)
    ∷ (is_key due && (is_nest || nat_eq m 7), KeyType)
    ∷ (is_nest && nat_eq levels 0, TooDeep)
    ∷ []

-- The errors in the rest of the head and in a string's content, each with its condition, in order.
unfoldable pub body_faults : ℕ → List ℕ → List (Bool × Kind)
body_faults first rest =
    let i = info first in
    let content = drop (argument_len i) rest in
    (nat_lt (length rest) (argument_len i), Truncated)
    ∷ (nat_lt (argument first rest) (least_argument i), NotShortest)
    ∷ (nat_lt (length content) (string_len first rest), Truncated)
    ∷ (nat_eq (major first) 3 && not (is_utf8 (take (string_len first rest) content)), NotUtf8)
    ∷ []

-- The errors of `body_faults`, followed by the error of a key out of order.
abbrev pub later_faults : Expected → ℕ → List ℕ → List (Bool × Kind)
later_faults due first rest = body_faults first rest ++
    (not (is_above due (take (item_len first rest) (first ∷ rest))), KeyOrder) ∷ []

-- All errors that an item can have, each with its condition, in the order of checking.
abbrev pub faults : ℕ → Expected → ℕ → List ℕ → List (Bool × Kind)
faults levels due first rest = first_faults levels due first ++ later_faults due first rest

-- The first error of the item at the beginning of these bytes, if any.
abbrev pub fault : ℕ → Expected → List ℕ → Option Kind
fault levels due [] = Some Truncated
fault levels due (first ∷ rest) = first_fault_of (faults levels due first rest)

-- The number of bytes of the item that count as read when this error is found.
unfoldable pub passed : Kind → List ℕ → ℕ
passed Truncated bytes = length bytes
passed kind [] = 0
passed NotShortest (first ∷ rest) = 1 + argument_len (info first)
passed NotUtf8 (first ∷ rest) = item_len first rest
passed KeyOrder (first ∷ rest) = item_len first rest
passed Trailing (first ∷ rest) = 0
passed kind (first ∷ rest) = 1

-- The number of steps until an error is found: one for each byte read, one for the end of the input if it is reached,
-- and as many again as the key's length if a key is compared.
unfoldable pub fault_steps : Kind → List ℕ → ℕ
fault_steps Truncated bytes = length bytes + 1
fault_steps KeyOrder bytes = passed KeyOrder bytes + passed KeyOrder bytes
fault_steps kind bytes = passed kind bytes

-- ---- reading one item: its head and, for a string, the content (RFC 8949, section 3)

-- A scalar, or the head of an array or map without its content.
pub data Part : Type 0 where
  One : Scalar → Part
  OpensArray : ℕ → Part
  OpensMap : ℕ → Part

-- The encoding of an item, without the content of an array or map.
abbrev pub encode_item : Part → List ℕ
encode_item (One s) = encode_scalar s
encode_item (OpensArray n) = head 4 n
encode_item (OpensMap n) = head 5 n

-- The content of a string, from its initial byte and the bytes after it.
abbrev pub string_at : ℕ → List ℕ → List ℕ
string_at first rest = take (argument first rest) (drop (argument_len (info first)) rest)

-- The item with this major type and this initial byte.
abbrev pub item_by_major : ℕ → ℕ → List ℕ → Part
item_by_major zero first rest = One (Int (pos (argument first rest)))
item_by_major (suc zero) first rest = One (Int (negsuc (argument first rest)))
item_by_major (suc (suc zero)) first rest = One (Bytes (string_at first rest))
item_by_major (suc (suc (suc zero))) first rest = One (Text (string_at first rest))
item_by_major (suc (suc (suc (suc zero)))) first rest = OpensArray (argument first rest)
item_by_major (suc (suc (suc (suc (suc zero))))) first rest = OpensMap (argument first rest)
item_by_major m first rest = One (if nat_eq (info first) 20 then Flag false else if nat_eq (info first) 21 then Flag true
    else Null)

-- The error, if any, or else the item and the bytes after it.
abbrev pub item_or_error : Option Kind → Part → List ℕ → Result (Part × List ℕ) Kind
item_or_error None i rest = Ok (i, rest)
item_or_error (Some kind) i rest = Err kind

-- Reads the item at the beginning of these bytes, and returns it with the bytes after it, or its first error.
unfoldable pub read : ℕ → Expected → List ℕ → Result (Part × List ℕ) Kind
read levels due [] = Err Truncated
read levels due (first ∷ rest) = item_or_error (fault levels due (first ∷ rest)) (item_by_major (major first) first rest)
    (drop (item_len first rest) (first ∷ rest))

-- An array or map is allowed here: no map key is expected, and the nesting limit isn't reached.
abbrev pub MayNest : ℕ → Expected → Type 0
MayNest levels AnItem = 0 < levels
MayNest levels (AKey before) = ⊥

-- The item is allowed here: it can be encoded, and it is a key in ascending order if a key is expected.
abbrev pub IsAllowed : ℕ → Expected → Part → Type 0
IsAllowed levels AnItem (One s) = Fits s
IsAllowed levels (AKey before) (One s) = Fits s × IsKey (Plain s) × IsAbove before (encode_scalar s)
IsAllowed levels due (OpensArray n) = MayNest levels due × (n < 2 ^ 64)
IsAllowed levels due (OpensMap n) = MayNest levels due × (n < 2 ^ 64)

-- ---- the encoder's first error for each tree without a canonical encoding, in the order of encoding

-- Whether an integer is from -2^64 to 2^64-1. Other scalars are always in range.
abbrev pub is_in_range : Scalar → Bool
is_in_range (Int (pos n)) = nat_lt n 18446744073709551616
is_in_range (Int (negsuc n)) = nat_lt n 18446744073709551616
is_in_range _ = true

-- Whether a scalar may be a map key.
abbrev pub is_key_scalar : Scalar → Bool
is_key_scalar (Int i) = true
is_key_scalar (Bytes s) = true
is_key_scalar (Text s) = true
is_key_scalar _ = false

-- The encoder's error for a scalar out of range.
abbrev pub range_refusal : Scalar → Option Kind
range_refusal s = if is_in_range s then None else Some Unsupported

-- The encoder's error for a map key by itself: a type that isn't allowed, or an integer out of range.
abbrev pub own_refusal : Tree → Option Kind
own_refusal (Plain s) = if is_key_scalar s then range_refusal s else Some KeyType
own_refusal _ = Some KeyType

-- The first error, if any, or else the second.
abbrev pub or_else : Option Kind → Option Kind → Option Kind
or_else None other = other
or_else (Some kind) other = Some kind

-- The encoder's error for a key that isn't greater than the previous one.
abbrev pub order_refusal : Option (List ℕ) → List ℕ → Option Kind
order_refusal last key = if is_above (AKey last) key then None else Some KeyOrder

-- The encoder's first error for a tree, if any. `levels` is the maximum number of nested arrays and maps.
abbrev mutual
  pub refusal : ℕ → Tree → Option Kind
  refusal levels (Plain s) = range_refusal s
  refusal levels (Array ts) = if nat_eq levels 0 then Some TooDeep else refusal_all (levels - 1) ts
  refusal levels (Map ps) = if nat_eq levels 0 then Some TooDeep else refusal_pairs (levels - 1) None ps

  pub refusal_all : ℕ → Trees → Option Kind
  refusal_all levels no_trees = None
  refusal_all levels (tree t ts) = or_else (refusal levels t) (refusal_all levels ts)

  pub refusal_pairs : ℕ → Option (List ℕ) → Pairs → Option Kind
  refusal_pairs levels last no_pairs = None
  refusal_pairs levels last (pair k v ps) = or_else (own_refusal k)
      (or_else (order_refusal last (encode_tree k)) (or_else (refusal levels v) (refusal_pairs levels (Some (encode_tree k)) ps)))
