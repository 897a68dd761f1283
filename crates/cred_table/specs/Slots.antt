-- The slots of a table, and the chains that their links form.
use Prim.Native.Nat.{zero}
use Rattle.std.specs.Prelude.{ℕ, ◌%◌, ◌+◌, suc, List, [], ◌∷◌, length, map, Bool, true, false, ◌&&◌, not, Option}
use Rattle.std.specs.Prelude.{Some, None, nat_lt, nat_eq, slice_index_or, slice_set, if◌then◌else◌, ◌<◌, ◌≡◌, ◌++◌}
use Rattle.std.specs.Prelude.{reverse}
use Rattle.std.specs.List.{filter, list_any}
use Rattle.cred_table.specs.declared.row.Row.{Row}
use Rattle.cred_table.specs.declared.slot.Slot.{Slot}
use Rattle.cred_table.specs.declared.slot.ChainKind.{ChainKind}
use Rattle.cred_table.specs.declared.slot.ChainKind.TheVariants.{Next, Newer, Older}
use Rattle.cred_table.specs.declared.chains.Chains.{Chains}

-- ---- slots and links

-- The row in a slot that was never used.
abbrev pub blank_row : Row
blank_row = record {
  rp = [];
  id = [];
  x = [];
  y = [];
  user = record { items = [] };
  discoverable = false;
  counter = 0;
  name = [];
}

-- A slot that was never used.
abbrev pub blank : Slot
blank = record { row = blank_row; next = None; newer = None; older = None }

-- The slot at an index.
abbrev pub slot_at : List Slot → ℕ → Slot
slot_at slots k = slice_index_or slots k blank

-- The link of a slot in this kind of chain.
abbrev pub link_of : ChainKind → Slot → Option ℕ
link_of Next slot = slot.next
link_of Newer slot = slot.newer
link_of Older slot = slot.older

-- The links of all slots in this kind of chain.
abbrev pub links : ChainKind → List Slot → List (Option ℕ)
links along slots = map (link_of along) slots

-- The first `n` slots that are reached by following links from a slot.
abbrev pub walk : ℕ → List (Option ℕ) → Option ℕ → List ℕ
walk zero to at = []
walk (suc n) to None = []
walk (suc n) to (Some k) = k ∷ walk n to (slice_index_or to k None)

-- Whether following the links from a slot ends within `n` slots.
abbrev pub terminates : ℕ → List (Option ℕ) → Option ℕ → Bool
terminates zero to None = true
terminates zero to (Some k) = false
terminates (suc n) to None = true
terminates (suc n) to (Some k) = nat_lt k (length to) && terminates n to (slice_index_or to k None)

-- The slots of a chain, which has at most as many slots as the table.
abbrev pub chain : List (Option ℕ) → Option ℕ → List ℕ
chain to at = walk (length to) to at

-- Whether the links from a slot form a chain without a cycle.
abbrev pub is_chain : List (Option ℕ) → Option ℕ → Bool
is_chain to at = terminates (length to) to at

-- The slots of a chain, each with its index.
abbrev pub numbered : List Slot → List ℕ → List (ℕ × Slot)
numbered slots ks = map (λ k. (k, slot_at slots k)) ks

-- Whether the slot is in the list.
abbrev pub is_among : ℕ → List ℕ → Bool
is_among k ks = list_any (nat_eq k) ks

-- The list, except one slot.
abbrev pub without_slot : ℕ → List ℕ → List ℕ
without_slot k ks = filter (λ j. not (nat_eq k j)) ks

-- Whether the elements of the list are distinct.
abbrev pub distinct : List ℕ → Bool
distinct [] = true
distinct (k ∷ ks) = not (is_among k ks) && distinct ks

-- The slot with one of its links changed.
abbrev pub with_link : ChainKind → Option ℕ → Slot → Slot
with_link Next to slot = record slot { next = to }
with_link Newer to slot = record slot { newer = to }
with_link Older to slot = record slot { older = to }

-- All slots, after the slot `before`, if any, is linked to `next`.
abbrev pub relinked : ChainKind → (before next : Option ℕ) → List Slot → List Slot
relinked along None next slots = slots
relinked along (Some p) next slots = slice_set slots p (with_link along next (slot_at slots p))

-- The first slot of a chain, after the slot `before` is linked to `next`. Without a slot `before`, it is `next`.
abbrev pub first_link : (before next : Option ℕ) → Option ℕ → Option ℕ
first_link None next at = next
first_link (Some p) next at = at

-- Whether the index, if any, is below the number of slots.
abbrev pub within : Option ℕ → List Slot → Bool
within None slots = true
within (Some p) slots = nat_lt p (length slots)

-- The number of the chain for an ID: the low five bits of the ID's first byte.
abbrev pub bucket : List ℕ → ℕ
bucket id = slice_index_or id 0 0 % 32

-- The predecessor of a slot in a list, if any.
abbrev pub before : ℕ → List ℕ → Option ℕ
before k [] = None
before k (i ∷ []) = None
before k (i ∷ j ∷ ks) = if nat_eq j k then Some i else before k (j ∷ ks)

-- Whether the link points to this slot.
abbrev pub links_to : ℕ → Option ℕ → Bool
links_to k None = false
links_to k (Some j) = nat_eq j k

-- Whether the `next` link of the numbered slot points to this slot.
abbrev pub points_to : ℕ → (ℕ × Slot) → Bool
points_to k slot = links_to k slot.1.next

-- The `next` link of slot `k` while all slots are free: slots are linked in order.
abbrev pub next_free : (capacity k : ℕ) → Option ℕ
next_free capacity k = if nat_lt (k + 1) capacity then Some (k + 1) else None

-- The row with its counter incremented.
abbrev pub row_plus_one : Row → Row
row_plus_one row = record row { counter = row.counter + 1 }

-- The slot with its row's counter incremented.
abbrev pub slot_incremented : Slot → Slot
slot_incremented slot = record slot { row = row_plus_one slot.row }

-- ---- the linked lists of a table, and the rows in their slots

-- The slots that contain rows, the oldest first.
abbrev pub slots_by_age : {C : ℕ} → Chains C → List ℕ
slots_by_age chains = chain (links Newer chains.slots) chains.oldest

-- The free slots.
abbrev pub free_slots : {C : ℕ} → Chains C → List ℕ
free_slots chains = chain (links Next chains.slots) chains.free

-- The first slot of an ID chain. A table has 32 ID chains.
abbrev pub head : {C : ℕ} → ℕ → Chains C → Option ℕ
head b chains = slice_index_or chains.heads b None

-- The slots of an ID chain. A table has 32 ID chains.
abbrev pub id_slots : {C : ℕ} → ℕ → Chains C → List ℕ
id_slots b chains = chain (links Next chains.slots) (head b chains)

-- The row in a slot.
abbrev pub row_at : List Slot → ℕ → Row
row_at slots k = (slot_at slots k).row

-- The rows of the table, the oldest first.
abbrev pub rows_in : {C : ℕ} → Chains C → List Row
rows_in chains = map (row_at chains.slots) (slots_by_age chains)

-- The invariant of the links, except for the slots in `away`: a slot is either in the free list, or once in the age
-- list and once in the chain of its ID. The backward links match the forward links.
pub record Linked {C : ℕ} (away : List ℕ) (chains : Chains C) : Type 0 where
  pub aged : is_chain (links Newer chains.slots) chains.oldest ≡ true
  pub back : is_chain (links Older chains.slots) chains.newest ≡ true
  pub turned : chain (links Older chains.slots) chains.newest ≡ reverse (slots_by_age chains)
  pub freed : is_chain (links Next chains.slots) chains.free ≡ true
  pub found : (b : ℕ) → is_chain (links Next chains.slots) (head b chains) ≡ true
  pub by_id : (b k : ℕ) → is_among k (id_slots b chains) ≡
      (is_among k (slots_by_age chains) && nat_eq (bucket (row_at chains.slots k).id) b)
  pub in_free : (k : ℕ) → is_among k (free_slots chains) ≡
      (not (is_among k (away ++ slots_by_age chains)) && nat_lt k (length chains.slots))
  pub apart : distinct (away ++ slots_by_age chains) ≡ true
  pub inside : (k : ℕ) → is_among k (away ++ slots_by_age chains) ≡ true → k < length chains.slots
  pub all : length (away ++ slots_by_age chains) + length (free_slots chains) ≡ length chains.slots

-- The row in slot `k` after the counter of the row in slot `number` was incremented.
abbrev pub incremented_at : ℕ → List Slot → ℕ → Row
incremented_at number slots k = if nat_eq number k then row_plus_one (row_at slots k) else row_at slots k
