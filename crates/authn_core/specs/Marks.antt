-- The credentials after a history of events, and their signature counters (CTAP 2.1, section 6).
use Rattle.std.specs.Prelude.{ℕ, ◌+◌, List, [], ◌∷◌, ◌++◌, length, flat_map, Bool, true, false, ◌&&◌, not}
use Rattle.std.specs.Prelude.{if◌then◌else◌, Option, Some, None, option_to_list, ◌≡◌, ◌==◌, nat_lt, ◌||◌}
use Rattle.std.specs.List.{filter, list_any}
use Rattle.std.specs.Str.{bytes_eq}
use Rattle.cred_table.specs.declared.row.Row.{Row}
use Rattle.cred_table.specs.Rows.{has_id, counter_of}
use Rattle.authn_core.specs.declared.replies.Presence.TheVariants.{Granted}
use Rattle.authn_core.specs.Turn.{new_row, CoreState, core_after}
use Rattle.authn_core.specs.State.{SignatureIs, Task, AwaitResetPresence, AwaitMakeSignature, AwaitAssertSignature}
use Rattle.authn_core.specs.State.{PendingTask, Event, Request, PresenceIs, State}
use Rattle.authn_core.specs.Views.{needs, sign}

-- The credentials after a history of events, computed from the change that each event makes: it creates a credential,
-- increments a signature counter, or removes all credentials (WebAuthn Level 2, sections 6.1.1 and 6.3). Also, the
-- assertions to sign in a history.

-- The credential that an event creates, the ID whose signature counter it increments, and whether it removes all
-- credentials.
pub record CredentialChange : Type 0 where
  pub made : Option Row
  pub raises : Option (List ℕ)
  pub resets : Bool

-- Whether a new credential replaces the row: both are discoverable, with the same RP and user (CTAP 2.1, section
-- 6.1.2).
abbrev pub replaces_credential : (rp user : List ℕ) (discoverable : Bool) → Row → Bool
replaces_credential rp user discoverable r =
    discoverable && (r.discoverable && (bytes_eq r.rp rp && bytes_eq r.user.items user))

-- Whether the new credential replaces this row.
abbrev pub is_replaced_by : Option Row → Row → Bool
is_replaced_by None r = false
is_replaced_by (Some new) r = replaces_credential new.rp new.user.items new.discoverable r

-- Whether this row's counter is incremented.
abbrev pub is_incremented : Option (List ℕ) → Row → Bool
is_incremented None r = false
is_incremented (Some id) r = bytes_eq r.id id

-- Whether no later change removes or replaces the row.
abbrev pub is_kept : List CredentialChange → Row → Bool
is_kept later r = not (list_any (λ m. m.resets) later) && not (list_any (λ m. is_replaced_by m.made r) later)

-- The row, with the later increments of its counter.
abbrev pub with_increments : List CredentialChange → Row → Row
with_increments later r = record r { counter = r.counter + length (filter (λ m. is_incremented m.raises r) later) }

-- The row with the later increments, or no row if a later change removes or replaces it.
abbrev pub row_if_kept : List CredentialChange → Row → List Row
row_if_kept later r = if is_kept later r then with_increments later r ∷ [] else []

-- The credentials after a history of changes (newest first) and after the later changes `later`.
unfoldable pub rows_among : List Row → List CredentialChange → List CredentialChange → List Row
rows_among start later [] = flat_map (row_if_kept later) start
rows_among start later (m ∷ past) =
    rows_among start (m ∷ later) past ++ flat_map (row_if_kept later) (option_to_list m.made)

-- The credentials after a history of changes, newest first.
abbrev pub rows_after_changes : List Row → List CredentialChange → List Row
rows_after_changes start h = rows_among start [] h

-- The credentials after one change.
abbrev pub apply_change : CredentialChange → List Row → List Row
apply_change m rows = flat_map (row_if_kept (m ∷ [])) rows ++ option_to_list m.made

-- The credential that is created when the task completes, if any.
abbrev pub created_row : Task → Option Row
created_row (AwaitMakeSignature m key signed) = Some (new_row m key)
created_row task = None

-- Whether the task is a reset.
abbrev pub task_resets : Task → Bool
task_resets AwaitResetPresence = true
task_resets task = false

-- Whether the task waits for an assertion signature by the credential with this ID.
abbrev pub task_signs_by : List ℕ → Task → Bool
task_signs_by id (AwaitAssertSignature a counter signed) = bytes_eq a.id id
task_signs_by id task = false

-- Whether the pending task, if any, waits for an assertion signature by the credential with this ID.
abbrev pub signs_by : List ℕ → Option PendingTask → Bool
signs_by id None = false
signs_by id (Some w) = task_signs_by id w.task

-- The ID of the credential whose signature counter is incremented when the task begins to wait for its signature.
abbrev pub incremented_by_task : Option PendingTask → Task → Option (List ℕ)
incremented_by_task before (AwaitAssertSignature a counter signed) = if signs_by a.id before then None else Some a.id
incremented_by_task before task = None

-- The credential that an event creates, if any, given the pending task before it.
abbrev pub created_by_event : Option PendingTask → Event → Option Row
created_by_event (Some w) (SignatureIs (Some sig)) = created_row w.task
created_by_event work e = None

-- Whether the event grants the pending reset.
abbrev pub is_reset : Option PendingTask → Event → Bool
is_reset (Some w) (PresenceIs Granted) = task_resets w.task
is_reset work e = false

-- The ID of the credential whose signature counter an event increments, if any: its assertion signature is pending
-- after the event, but not before it.
abbrev pub incremented_by : Option PendingTask → Option PendingTask → Option (List ℕ)
incremented_by before None = None
incremented_by before (Some w) = incremented_by_task before w.task

-- The effect of an event on the credentials, given the pending tasks before and after it.
abbrev pub event_change : Option PendingTask → Event → Option PendingTask → CredentialChange
event_change before e now = record { made = created_by_event before e; raises = incremented_by before now; resets = is_reset before e }

-- An event and its time.
pub record TimedEvent : Type 0 where
  pub at : ℕ
  pub event : Event

-- The authenticator after a history of events, newest first.
unfoldable pub core_at : CoreState → List TimedEvent → CoreState
core_at start [] = start
core_at start (x ∷ past) = core_after (core_at start past) x.at x.event

-- The changes in a history of events, newest first.
unfoldable pub changes : CoreState → List TimedEvent → List CredentialChange
changes start [] = []
changes start (x ∷ past) =
    event_change (core_at start past).state.work x.event (core_at start (x ∷ past)).state.work ∷ changes start past

-- If the event is a request, no other request is pending.
abbrev pub MayFollow : Option PendingTask → Event → Type 0
MayFollow work (Request cid bytes) = work ≡ None
MayFollow work e = Unit {0}

-- In the history, each request arrives while no other request is pending.
unfoldable pub Orderly : CoreState → List TimedEvent → Type 0
Orderly start [] = Unit {0}
Orderly start (x ∷ past) = MayFollow (core_at start past).state.work x.event × Orderly start past

-- Whether the row, if any, has this ID.
abbrev pub row_has_id : List ℕ → Option Row → Bool
row_has_id id None = false
row_has_id id (Some r) = has_id id r

-- The signature counter in the bytes that the task signs.
abbrev pub task_counter : Task → ℕ
task_counter (AwaitAssertSignature a counter signed) = counter
task_counter task = 0

-- What distinguishes the bytes signed for assertions: the credential ID, the number of credentials created with this ID
-- so far, and the signature counter.
pub record SignedAssertion : Type 0 where
  pub id : List ℕ
  pub making : ℕ
  pub counter : ℕ

-- Whether the change creates a credential with this ID.
abbrev pub creates_id : List ℕ → CredentialChange → Bool
creates_id id m = row_has_id id m.made

-- The number of credentials created with this ID.
abbrev pub creation_count : List ℕ → List CredentialChange → ℕ
creation_count id h = length (filter (λ m. creates_id id m) h)

-- The assertion to sign after a change, if an assertion signature becomes pending.
abbrev pub signed_after_change : List CredentialChange → Option (List ℕ) → Option PendingTask → Option SignedAssertion
signed_after_change past (Some id) (Some w) = Some (record { id = id; making = creation_count id past; counter = task_counter w.task })
signed_after_change past r w = None

-- All assertions to sign in a history, newest first.
unfoldable pub signed_assertions : CoreState → List TimedEvent → List SignedAssertion
signed_assertions start [] = []
signed_assertions start (x ∷ past) =
    option_to_list (signed_after_change (changes start past) (incremented_by (core_at start past).state.work
    (core_at start (x ∷ past)).state.work) (core_at start (x ∷ past)).state.work)
    ++ signed_assertions start past

-- Whether both have the same credential ID, creation count and signature counter.
abbrev pub is_same_assertion : SignedAssertion → SignedAssertion → Bool
is_same_assertion a b = bytes_eq a.id b.id && (a.making == b.making && a.counter == b.counter)

-- Whether the elements of the list are distinct.
abbrev pub all_differ : List SignedAssertion → Bool
all_differ [] = true
all_differ (t ∷ ts) = not (list_any (is_same_assertion t) ts) && all_differ ts

-- The signature counter of each credential increases: the bytes to sign for an assertion contain a greater counter than
-- those of all earlier assertions by the same credential (WebAuthn Level 2, sections 6.1.1 and 7.2, step 21).

-- Whether the same credential signs both assertions.
abbrev pub is_same_credential : SignedAssertion → SignedAssertion → Bool
is_same_credential a b = bytes_eq a.id b.id && a.making == b.making

-- Whether the signature counter is greater than those of all other entries by the same credential.
abbrev pub exceeds_all : SignedAssertion → List SignedAssertion → Bool
exceeds_all t [] = true
exceeds_all t (older ∷ past) = (not (is_same_credential t older) || nat_lt older.counter t.counter) && exceeds_all t past

-- Whether the signature counters of each credential increase strictly. The list is newest first.
abbrev pub counters_increase : List SignedAssertion → Bool
counters_increase [] = true
counters_increase (t ∷ past) = exceeds_all t past && counters_increase past

-- In this state, a signature by this credential with this signature counter is pending.
pub record IsPendingSignature (t : SignedAssertion) (s : State) : Type 0 where
  pub signed : List ℕ
  pub needed : needs s.work ≡ sign t.id signed
  pub counter : counter_of t.id s.rows ≡ t.counter

-- In this state, the signature of the newest entry, which is the first one, is pending.
pub record IsNewest (ts : List SignedAssertion) (s : State) : Type 0 where
  pub text : SignedAssertion
  pub past : List SignedAssertion
  pub first : ts ≡ text ∷ past
  pub told : IsPendingSignature text s
