-- Iterating over a list of descriptors: the remaining entries, and the number of steps that the iterator takes. After
-- the request was parsed, the iterator reads the bytes of the list again.
use Rattle.std.specs.Prelude.{◌≡◌, ℕ, ◌+◌, ◌-◌, ◌≤◌, min, Bool, true, List, length, Option, Some, None, is_some}
use Rattle.std.specs.{Prelude.if◌then◌else◌, Borrow.Bor, Iterator.YieldsFirstBy, List.cons_option}
use Rattle.ctap_cbor.specs.Tree.{Array, Trees, no_trees, tree, depth_all, count}
use Rattle.ctap_cbor.specs.Grammar.{encode_tree, encode_trees, IsLawful, AreLawful}
use Rattle.ctap_cbor.specs.Outcome.{Whole, steps, later_in_all}
use Rattle.ctap_cbor.specs.{Reading.Reading, Reading.rest_of, Reading.add_steps, Outcome.canonical_tree, Outcome.items_at}
use Rattle.ctap_message.specs.Members.{entries_of, has_entries}
use Rattle.ctap_message.specs.{Members.ids_of, Fields.descriptor_in, Fields.id_of_public_key}

-- An iterator over a list: a cursor at the next entry, and the number of entries left.
pub record DescriptorWalk : Type 0 where
  pub cursor : Reading
  pub count : ℕ

-- The entries of the whole list.
abbrev pub list_of : DescriptorWalk → Trees
list_of w = entries_of (canonical_tree w.cursor.bytes)

-- The entries that the iterator has not reached yet.
abbrev pub left_of : DescriptorWalk → Trees
left_of w = items_at 3 w.count (rest_of w.cursor)

-- The iterator is at the beginning of these entries.
abbrev pub IsAtFirst : DescriptorWalk → Trees → Type 0
IsAtFirst w ts = (list_of w ≡ ts) × (left_of w ≡ ts)

-- The number of steps of iterating over a whole list: one less than `check` takes for its bytes, because the end of the
-- input isn't checked; 0 for an empty list.
abbrev pub list_steps : Trees → ℕ
list_steps no_trees = 0
list_steps (tree t ts) = steps (encode_tree (Array (tree t ts))) (Whole (Array (tree t ts))) - 1

-- The number of steps of skipping entries.
abbrev pub entry_steps : Trees → ℕ
entry_steps ts = length (encode_trees ts) + later_in_all ts

-- The number of steps of the iterator so far, saturating at 2^64-1.
abbrev pub walked_steps : DescriptorWalk → ℕ
walked_steps w = min (list_steps (list_of w) - entry_steps (left_of w)) 18446744073709551615

-- The entries after the first one of type `public-key`.
abbrev pub after_first : Trees → Trees
after_first no_trees = no_trees
after_first (tree t ts) = if is_some (id_of_public_key (descriptor_in (Some t))) then ts else after_first ts

-- The result of `next`: the ID of the next entry of type `public-key`, or None after the last entry.
pub record NextId (old : DescriptorWalk) (id : Option (Bor (List ℕ))) (new : DescriptorWalk) : Type 0 where
  pub first : YieldsFirstBy {A = Bor (List ℕ)} (λ x. x.now) (λ (w : DescriptorWalk). ids_of (left_of w)) old id new
  pub same : list_of new ≡ list_of old
  pub left : left_of new ≡ after_first (left_of old)
  pub ended : id ≡ None → left_of new ≡ no_trees

-- ---- the cursor of an iterator

-- The cursor has `n` entries left to read: the entries `ts`.
pub record HasEntriesLeft (r : Reading) (n : ℕ) (ts : Trees) : Type 0 where
  pub spelled : rest_of r ≡ encode_trees ts
  pub number : count ts ≡ n
  pub lawful : AreLawful ts
  pub flat : depth_all ts ≤ 3

-- The cursor moves from the entries `ts` to the remaining entries `us`, in `more` steps.
pub record MovesPast (r s : Reading) (n : ℕ) (ts us : Trees) (more : ℕ) : Type 0 where
  pub left : HasEntriesLeft s n us
  pub same : s.bytes ≡ r.bytes
  pub cost : entry_steps ts ≡ more + entry_steps us
  pub steps : s.steps ≡ add_steps r.steps more

-- The result of searching for the next entry of type `public-key`: its ID, or None if there is no such entry.
abbrev pub YieldsId : Reading → ℕ → Reading → ℕ → Option (List ℕ) → Type 0
YieldsId r n s m id =
    (ts : Trees) → HasEntriesLeft r n ts → (us : Trees) × (more : ℕ) × MovesPast r s m ts us more
    × (ids_of ts ≡ cons_option id (ids_of us)) × (id ≡ None → us ≡ no_trees) × (us ≡ after_first ts)

-- The bytes are the encoding of this list of descriptors, and the list is not empty.
pub record IsList (l : List ℕ) (ts : Trees) : Type 0 where
  pub lawful : IsLawful (Array ts)
  pub flat : depth_all ts ≤ 3
  pub given : has_entries ts ≡ true
  pub spelled : l ≡ encode_tree (Array ts)

-- The invariant of the iterator.
pub record IsValidWalk (w : DescriptorWalk) (given : Bool) : Type 0 where
  pub stands : HasEntriesLeft w.cursor w.count (left_of w)
  pub given_is : given ≡ has_entries (list_of w)
  pub within : entry_steps (left_of w) ≤ list_steps (list_of w)
  pub steps_are : w.cursor.steps ≡ walked_steps w
