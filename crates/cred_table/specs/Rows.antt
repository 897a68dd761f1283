-- A credential table as the list of its rows, in order of creation, and the pending assertions.
use Rattle.std.specs.Prelude.{◌≡◌, ℕ, zero, suc, ◌≤◌, nat_le, nat_lt, Bool, ◌&&◌, ◌||◌, if◌then◌else◌, List, length}
use Rattle.std.specs.Prelude.{take, slice_index, ◌+◌, [], ◌∷◌, ◌++◌, map, reverse, true, not, Option, Some, None}
use Rattle.std.specs.Prelude.{drop, slice_get, false}
use Rattle.std.specs.Str.{IsCharBoundary, bytes_eq}
use Rattle.std.specs.List.{find, filter, list_any}
use Rattle.cred_table.specs.declared.row.Row.{Row}

-- The truncated user names in rows (WebAuthn Level 2, section 6.4.1, "String Truncation"). Responses don't contain user
-- names.

-- `cut` is the longest prefix of a text with at most 64 bytes that ends at a character boundary.
pub record IsCut (whole cut : List ℕ) : Type 0 where
  pub begins : cut ≡ take (length cut) whole
  pub short : length cut ≤ 64
  pub at_character : IsCharBoundary whole (length cut)
  pub longest : (n : ℕ) → n ≤ 64 → IsCharBoundary whole n → n ≤ length cut

-- Whether a character begins at this index, or the text ends there.
abbrev pub is_boundary : List ℕ → ℕ → Bool
is_boundary text i =
    nat_le i (length text) && (nat_le (length text) i || nat_lt (slice_index text i) 128
    || nat_le 192 (slice_index text i))

-- The last character boundary at or before index `n`.
abbrev pub boundary_to : List ℕ → (n : ℕ) → ℕ
boundary_to text zero = 0
boundary_to text (suc i) = if is_boundary text (suc i) then suc i else boundary_to text i

-- A text, truncated to at most 64 bytes at a character boundary.
unfoldable pub cut : List ℕ → List ℕ
cut name = take (boundary_to name 64) name

-- ---- the rows of a table: the credentials map of WebAuthn Level 2, section 6

-- Whether the row has this ID.
abbrev pub has_id : (id : List ℕ) → Row → Bool
has_id id row = bytes_eq row.id id

-- Whether the row belongs to the RP and has this ID.
abbrev pub is_named : (rp id : List ℕ) → Row → Bool
is_named rp id row = bytes_eq row.id id && bytes_eq row.rp rp

-- Whether the row is a discoverable credential of the RP.
abbrev pub is_listed : (rp : List ℕ) → Row → Bool
is_listed rp row = row.discoverable && bytes_eq row.rp rp

-- Whether the row is the RP's discoverable credential for the user.
abbrev pub is_user : (rp user : List ℕ) → Row → Bool
is_user rp user row = is_listed rp row && bytes_eq row.user.items user

-- Whether the new row replaces the old one (CTAP 2.1, section 6.1.2; WebAuthn Level 2, section 6.3.2).
abbrev pub replaces : (new old : Row) → Bool
replaces new old = new.discoverable && is_user new.rp new.user.items old

-- Whether the two rows have the same ID.
abbrev pub same_id : (a b : Row) → Bool
same_id a b = bytes_eq a.id b.id

-- Whether no two of the rows conflict. `clash` decides whether two rows do.
abbrev pub no_two : (clash : Row → Row → Bool) → List Row → Bool
no_two clash [] = true
no_two clash (row ∷ rows) = not (list_any (clash row) rows) && no_two clash rows

-- The invariant of a table: the IDs are distinct, there is at most one discoverable row for each RP and user, and no
-- more rows than the capacity.
pub record ValidRows (capacity : ℕ) (rows : List Row) : Type 0 where
  pub distinct : no_two same_id rows ≡ true
  pub one_each : no_two replaces rows ≡ true
  pub few : length rows ≤ capacity

-- The rows, except the row with this ID.
abbrev pub without : (id : List ℕ) → List Row → List Row
without id rows = filter (λ row. not (has_id id row)) rows

-- The rows after a new row was added and the rows that it replaces were removed.
abbrev pub rows_with : (new : Row) → List Row → List Row
rows_with new rows = filter (λ old. not (replaces new old)) rows ++ new ∷ []

-- The row, with its signature counter incremented if it has this ID.
abbrev pub row_incremented : (id : List ℕ) → Row → Row
row_incremented id row = if has_id id row then record row { counter = row.counter + 1 } else row

-- The rows, with the signature counter of the row with this ID incremented (WebAuthn Level 2, section 6.3.3).
abbrev pub rows_incremented : (id : List ℕ) → List Row → List Row
rows_incremented id rows = map (row_incremented id) rows

-- The discoverable rows of the RP, the newest first (CTAP 2.1, section 6.2.2).
abbrev pub discoverable_rows : (rp : List ℕ) → List Row → List Row
discoverable_rows rp rows = reverse (filter (is_listed rp) rows)

-- The IDs of the rows.
abbrev pub ids : List Row → List (List ℕ)
ids rows = map (λ row. row.id) rows

-- The signature counter of the row, or 0 for None.
abbrev pub counter_in : Option Row → ℕ
counter_in None = 0
counter_in (Some row) = row.counter

-- The signature counter of the row with this ID, or 0 if there is none.
abbrev pub counter_of : (id : List ℕ) → List Row → ℕ
counter_of id rows = counter_in (find (has_id id) rows)

-- ---- the pending assertions, which authenticatorGetNextAssertion returns one by one (CTAP 2.1, section 6.3)

-- The pending assertions: the channel of the request, the client data hash, whether user presence was requested, the
-- time of the last response, and the credential IDs.
pub record PendingAssertions : Type 0 where
  pub cid : ℕ
  pub hash : List ℕ
  pub presence : Bool
  pub moment : ℕ
  pub ids : List (List ℕ)

-- The pending assertions with these IDs, or None if the list is empty.
abbrev pub new_pending : (cid : ℕ) (hash : List ℕ) (presence : Bool) (moment : ℕ) → List (List ℕ) → Option PendingAssertions
new_pending cid hash presence moment [] = None
new_pending cid hash presence moment (id ∷ ids) =
    Some (record { cid = cid; hash = hash; presence = presence; moment = moment; ids = id ∷ ids })

-- The number of pending assertions.
abbrev pub pending_count : Option PendingAssertions → ℕ
pending_count None = 0
pending_count (Some w) = length w.ids

-- The pending assertions with a new time of the last response.
abbrev pub with_time : ℕ → Option PendingAssertions → Option PendingAssertions
with_time at None = None
with_time at (Some w) = Some (record w { moment = at })

-- The first pending ID.
abbrev pub first_of : Option PendingAssertions → Option (List ℕ)
first_of None = None
first_of (Some w) = slice_get w.ids 0

-- The pending assertions without the first one.
abbrev pub rest_of : Option PendingAssertions → Option PendingAssertions
rest_of None = None
rest_of (Some w) = new_pending w.cid w.hash w.presence w.moment (drop 1 w.ids)

-- The channel of the request, or 0 without pending assertions.
abbrev pub cid_of : Option PendingAssertions → ℕ
cid_of None = 0
cid_of (Some w) = w.cid

-- The client data hash, or the empty list without pending assertions.
abbrev pub hash_of : Option PendingAssertions → List ℕ
hash_of None = []
hash_of (Some w) = w.hash

-- Whether user presence was requested, or false without pending assertions.
abbrev pub presence_of : Option PendingAssertions → Bool
presence_of None = false
presence_of (Some w) = w.presence

-- The time of the last response in milliseconds, or 0 without pending assertions.
abbrev pub moment_of : Option PendingAssertions → ℕ
moment_of None = 0
moment_of (Some w) = w.moment
