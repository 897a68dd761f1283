-- Laws of encoding and decoding that refer to the definitions alone, not to the code.
use Rattle.std.specs.Prelude.{◌≡◌, ◌↔◌, ℕ, ◌+◌, ◌*◌, ◌≤◌, List, ◌++◌, length, Some, None}
use Rattle.ctap_cbor.specs.{declared.fault.Kind.Kind, Grammar.AreBytes, Items.refusal, Items.AnItem}
use Rattle.ctap_cbor.specs.Tree.{Tree, Trees, depth, depth_all, count}
use Rattle.ctap_cbor.specs.Grammar.{encode_tree, encode_trees, IsLawful, AreLawful, IsEncoding, IsCanonical}
use Rattle.ctap_cbor.specs.Outcome.{Outcome, Whole, IsOutcome, result_of, steps}
use Rattle.ctap_cbor.specs.Items.{Part, encode_item, IsAllowed}
use Rattle.ctap_cbor.specs.Outcome.{outcome_of, canonical_tree, check_steps, items_at}
use Rattle.ctap_cbor.specs.Reading.{Reading, cursor_at_start, rest_of, add_steps, Passes, Fails, HasNoByteLeft, HasTrailingBytes}

-- Each byte string has exactly one outcome: either it is the encoding of one tree, or it has one first error.
abbrev pub EncodingsAreUnique : Type 0
EncodingsAreUnique = (b : List ℕ) → AreBytes b → (o : Outcome) × IsOutcome b o × ((p : Outcome) → IsOutcome b p → p ≡ o)

-- No encoding is a proper prefix of another, and no two trees have the same encoding.
abbrev pub NoEncodingIsAPrefix : Type 0
NoEncodingIsAPrefix = (t u : Tree) (b c x y : List ℕ) → IsEncoding t b → IsEncoding u c → b ++ x ≡ c ++ y
    → (t ≡ u) × (b ≡ c) × (x ≡ y)

-- No head with its string content is a proper prefix of another, and no two items have the same head and content.
abbrev pub NoHeadIsAPrefix : Type 0
NoHeadIsAPrefix = (levels : ℕ) (i j : Part) (x y : List ℕ) → IsAllowed levels AnItem i → IsAllowed levels AnItem j
    → encode_item i ++ x ≡ encode_item j ++ y → (i ≡ j) × (x ≡ y)

-- Decoding n bytes takes at most 2 * n + 1 steps.
abbrev pub StepsAreBounded : Type 0
StepsAreBounded = (b : List ℕ) (o : Outcome) → IsOutcome b o → steps b o ≤ 2 * length b + 1

-- Decoding a canonical encoding returns its tree.
abbrev pub EncodedTreesAreDecoded : Type 0
EncodedTreesAreDecoded = (t : Tree) (b : List ℕ) → IsCanonical t b → (o : Outcome) → IsOutcome b o → o ≡ Whole t

-- If a tree's encoding is at a cursor's position, the cursor can read no other tree there.
abbrev pub CursorReadsOneTree : Type 0
CursorReadsOneTree = (levels : ℕ) (t u : Tree) (rest : List ℕ) (old new : Reading) → IsLawful t → depth t ≤ levels
    → rest_of old ≡ encode_tree t ++ rest → Passes levels u old new → (u ≡ t) × (rest_of new ≡ rest)

-- If a tree's encoding is at a cursor's position, no error is found there.
abbrev pub CanonicalIsAccepted : Type 0
CanonicalIsAccepted = (levels : ℕ) (t : Tree) (rest : List ℕ) (old new : Reading) (at : ℕ) (kind : Kind) → IsLawful t
    → depth t ≤ levels → rest_of old ≡ encode_tree t ++ rest → Fails levels old new at kind → ⊥

-- Decoding the encoding of a value returns the same value without an error.
abbrev pub EncodedIsDecoded : Type 0
EncodedIsDecoded = (t : Tree) (b : List ℕ) → IsCanonical t b
    → ((u : Tree) → IsCanonical u b → u ≡ t) × ((o : Outcome) → IsOutcome b o → result_of o ≡ None)

-- A tree that the encoder rejects has no canonical encoding.
abbrev pub RejectedHasNoEncoding : Type 0
RejectedHasNoEncoding = (t : Tree) (kind : Kind) → refusal 4 t ≡ Some kind → (b : List ℕ) → IsCanonical t b → ⊥

-- For each byte string, `outcome_of` returns its only outcome.
pub record BytesDetermineTree : Type 0 where
  pub told : (b : List ℕ) → AreBytes b → IsOutcome b (outcome_of b)
  pub only : (b : List ℕ) (o : Outcome) → AreBytes b → IsOutcome b o → outcome_of b ≡ o

-- `canonical_tree` returns a tree if and only if the bytes are its canonical encoding (CTAP 2.1, section 8).
abbrev pub TreesAreComputed : Type 0
TreesAreComputed = (b : List ℕ) (t : Tree) → AreBytes b → (canonical_tree b ≡ Some t) ↔ IsCanonical t b

-- A cursor at the first of these bytes reads this tree up to the last byte, and the bytes are the canonical encoding of
-- the tree.
pub record ReadsTree (b : List ℕ) (s : ℕ) (t : Tree) (new : Reading) : Type 0 where
  pub tree_is : canonical_tree b ≡ Some t
  pub moved : new ≡ record { bytes = b; place = length b; steps = add_steps s (check_steps b) }

-- A cursor at the first of these bytes finds this error, and the bytes are not the canonical encoding of any tree.
pub record ReadsNoTree (b : List ℕ) (s : ℕ) (new : Reading) (at : ℕ) (kind : Kind) : Type 0 where
  pub none : canonical_tree b ≡ None
  pub fault_is : result_of (outcome_of b) ≡ Some (at, kind)
  pub bytes_stay : new.bytes ≡ b
  pub steps_are : new.steps ≡ add_steps s (check_steps b)

-- Reading all of these bytes with a cursor returns their tree or their first error, and takes exactly `check_steps`
-- steps, for each initial step count.
pub record CursorAgreesWithCheck (b : List ℕ) : Type 0 where
  pub passed : (t : Tree) (s : ℕ) (middle new : Reading) → Passes 4 t (cursor_at_start b s) middle → HasNoByteLeft middle new
      → ReadsTree b s t new
  pub stopped : (s : ℕ) (new : Reading) (at : ℕ) (kind : Kind) → Fails 4 (cursor_at_start b s) new at kind
      → ReadsNoTree b s new at kind
  pub longer : (t : Tree) (s : ℕ) (middle new : Reading) (at : ℕ) (kind : Kind) → Passes 4 t (cursor_at_start b s) middle
      → HasTrailingBytes middle new at kind → ReadsNoTree b s new at kind

-- Checking n bytes takes at most 2 * n + 1 steps.
abbrev pub CheckStepsAreBounded : Type 0
CheckStepsAreBounded = (b : List ℕ) → check_steps b ≤ 2 * length b + 1

-- `items_at` returns the items from their concatenated encodings.
abbrev pub ItemsAreDecoded : Type 0
ItemsAreDecoded = (levels : ℕ) (ts : Trees) → AreLawful ts → depth_all ts ≤ levels →
    items_at levels (count ts) (encode_trees ts) ≡ ts
