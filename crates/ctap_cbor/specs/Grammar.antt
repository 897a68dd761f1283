-- The canonical encoding of each data item (CTAP 2.1, "Message Encoding"; RFC 8949, sections 3.1 and 4.2.1).
use Rattle.std.specs.Prelude.{ℕ, ◌+◌, ◌-◌, ◌*◌, ◌/◌, ◌%◌, ◌^◌, ◌<◌, List, [], ◌∷◌, take, if◌then◌else◌, nat_lt}
use Rattle.std.specs.Prelude.{nat_eq, ◌≡◌, ◌≤◌, pos, negsuc, true, false, ◌++◌, length, Option, Some, None}
use Rattle.std.specs.List.{AllByRecursion}
use Rattle.std.specs.Int.{w16 as two_bytes, w32 as four_bytes, w64 as eight_bytes, to_be_bytes}
use Rattle.std.specs.Ordering.{nat_cmp}
use Rattle.std.specs.Str.{IsUtf8}
use Rattle.std.specs.Cmp.Lexicographic.{slice_cmp}
use Rattle.std.specs.declared.cmp.Ordering.TheVariants.{Less}
use Rattle.ctap_cbor.specs.Tree.{Scalar, Int, Bytes, Text, Flag, Null, Tree, Plain, Array, Map, Trees, no_trees, tree}
use Rattle.ctap_cbor.specs.Tree.{Pairs, no_pairs, pair, depth, count, count_pairs}

-- Heads of data items (RFC 8949, section 3): an initial byte with a major type and five bits of additional information,
-- followed by an argument of up to eight bytes in big-endian order.

-- Each number is below 256.
abbrev pub AreBytes : List ℕ → Type 0
AreBytes bs = AllByRecursion (λ b. b < 256) bs

-- The shortest head with this major type and argument (RFC 8949, section 3).
unfoldable pub head : ℕ → ℕ → List ℕ
head major n =
    if nat_lt n 24 then (32 * major + n) ∷ []
    else if nat_lt n 0x100 then (32 * major + 24) ∷ n ∷ []
    else if nat_lt n 0x1_0000 then (32 * major + 25) ∷ to_be_bytes two_bytes n
    else if nat_lt n 0x1_0000_0000 then (32 * major + 26) ∷ to_be_bytes four_bytes n
    else (32 * major + 27) ∷ to_be_bytes eight_bytes n

-- The length in bytes of the shortest head with this argument.
abbrev pub head_len : ℕ → ℕ
head_len n = if nat_lt n 24 then 1 else if nat_lt n 0x100 then 2 else if nat_lt n 0x1_0000 then 3
    else if nat_lt n 0x1_0000_0000 then 5 else 9

-- The major type in an initial byte.
abbrev pub major : ℕ → ℕ
major first = first / 32

-- The additional information in an initial byte.
abbrev pub info : ℕ → ℕ
info first = first % 32

-- The number of argument bytes that follow an initial byte with this additional information.
unfoldable pub argument_len : ℕ → ℕ
argument_len i = if nat_lt i 24 then 0 else 2 ^ (i - 24)

-- The big-endian number in these bytes.
abbrev pub number_after : ℕ → List ℕ → ℕ
number_after n [] = n
number_after n (b ∷ bs) = number_after (n * 256 + b) bs

-- The argument of a head, from its initial byte and the bytes after it.
unfoldable pub argument : ℕ → List ℕ → ℕ
argument first rest =
    if nat_lt (info first) 24 then info first else number_after 0 (take (argument_len (info first)) rest)

-- The smallest argument whose shortest encoding uses this additional information.
unfoldable pub least_argument : ℕ → ℕ
least_argument i =
    if nat_lt i 24 then 0
    else if nat_eq i 24 then 24
    else if nat_eq i 25 then 0x100
    else if nat_eq i 26 then 0x1_0000
    else 0x1_0000_0000

-- ---- the encoding of each data item

-- The encoding of a scalar (RFC 8949, section 3).
abbrev pub encode_scalar : Scalar → List ℕ
encode_scalar (Int (pos n)) = head 0 n
encode_scalar (Int (negsuc n)) = head 1 n
encode_scalar (Bytes s) = head 2 (length s) ++ s
encode_scalar (Text s) = head 3 (length s) ++ s
encode_scalar (Flag false) = 0xf4 ∷ []
encode_scalar (Flag true) = 0xf5 ∷ []
encode_scalar Null = 0xf6 ∷ []

-- The encoding of a tree. The argument of an array's or map's head is the number of its items or pairs.
abbrev mutual
  pub encode_tree : Tree → List ℕ
  encode_tree (Plain s) = encode_scalar s
  encode_tree (Array ts) = head 4 (count ts) ++ encode_trees ts
  encode_tree (Map ps) = head 5 (count_pairs ps) ++ encode_pairs ps

  pub encode_trees : Trees → List ℕ
  encode_trees no_trees = []
  encode_trees (tree t ts) = encode_tree t ++ encode_trees ts

  pub encode_pairs : Pairs → List ℕ
  encode_pairs no_pairs = []
  encode_pairs (pair k v ps) = encode_tree k ++ (encode_tree v ++ encode_pairs ps)

-- The scalar can be encoded: an integer from -2^64 to 2^64-1, or a string shorter than 2^64 bytes.
abbrev pub Fits : Scalar → Type 0
Fits (Int (pos n)) = n < 2 ^ 64
Fits (Int (negsuc n)) = n < 2 ^ 64
Fits (Bytes s) = (length s < 2 ^ 64) × AreBytes s
Fits (Text s) = (length s < 2 ^ 64) × IsUtf8 s
Fits (Flag b) = Unit {0}
Fits Null = Unit {0}

-- The tree may be a map key: an integer, a byte string or a text string.
abbrev pub IsKey : Tree → Type 0
IsKey (Plain (Int i)) = Unit {0}
IsKey (Plain (Bytes s)) = Unit {0}
IsKey (Plain (Text s)) = Unit {0}
IsKey _ = ⊥

-- The key's encoding is greater than that of the previous key, if any.
abbrev pub IsAbove : Option (List ℕ) → List ℕ → Type 0
IsAbove None key = Unit {0}
IsAbove (Some before) key = slice_cmp nat_cmp before key ≡ Less

-- The keys of a map are in canonical order, without duplicates (CTAP 2.1, section 8).
abbrev pub KeysAscend : Option (List ℕ) → Pairs → Type 0
KeysAscend before no_pairs = Unit {0}
KeysAscend before (pair k v ps) = IsKey k × IsAbove before (encode_tree k) × KeysAscend (Some (encode_tree k)) ps

-- The tree has an encoding, at any depth of nesting.
abbrev mutual
  pub IsLawful : Tree → Type 0
  IsLawful (Plain s) = Fits s
  IsLawful (Array ts) = (count ts < 2 ^ 64) × AreLawful ts
  IsLawful (Map ps) = (count_pairs ps < 2 ^ 64) × KeysAscend None ps × AreLawfulPairs ps

  pub AreLawful : Trees → Type 0
  AreLawful no_trees = Unit {0}
  AreLawful (tree t ts) = IsLawful t × AreLawful ts

  pub AreLawfulPairs : Pairs → Type 0
  AreLawfulPairs no_pairs = Unit {0}
  AreLawfulPairs (pair k v ps) = IsLawful k × IsLawful v × AreLawfulPairs ps

-- The bytes are the encoding of the tree.
pub record IsEncoding (t : Tree) (b : List ℕ) : Type 0 where
  pub lawful : IsLawful t
  pub spelled : b ≡ encode_tree t

-- The bytes are the canonical encoding of the tree, with at most four levels of nesting (CTAP 2.1, section 8).
pub record IsCanonical (t : Tree) (b : List ℕ) : Type 0 where
  pub enc : IsEncoding t b
  pub flat : depth t ≤ 4
