-- The effect of each event on an authenticator: the new state and the answer (CTAP 2.1, section 6).
use Rattle.std.specs.Prelude.{ℕ, ◌+◌, nat_lt, List, Option, None, if◌then◌else◌, ◌++◌, length, Bool, true, false}
use Rattle.std.specs.Prelude.{◌&&◌, ◌||◌, Some, is_some, ◌==◌, nat_le, [], ◌∷◌, option_to_list, ◌≡◌, ◌<◌, ◌-◌, ◌^◌}
use Rattle.std.specs.Prelude.{map, option_map, Result, Ok, Err}
use Rattle.cred_table.specs.declared.row.Row.{Row}
use Rattle.cred_table.specs.Rows.{PendingAssertions, cut, has_id, is_named, is_user, rows_with, discoverable_rows}
use Rattle.cred_table.specs.Rows.{counter_of, new_pending, with_time}
use Rattle.authn_core.specs.declared.replies.Presence.{Presence}
use Rattle.authn_core.specs.State.{AwaitResetPresence, TurnResult, respond_refusal, await_reply, presence_refusal}
use Rattle.authn_core.specs.State.{MakeState, AwaitMakePresence, AwaitKeyPair, AwaitMakeSignature, respond}
use Rattle.authn_core.specs.State.{AssertState, AwaitAssertPresence, await_signature, Task, AwaitAssertSignature}
use Rattle.authn_core.specs.State.{PendingTask, State, Setup, AwaitSelectionPresence, Event, Request, PresenceIs}
use Rattle.authn_core.specs.State.{KeyIs, SignatureIs, Cancel, Drop, Answer, Nothing, status, ignore_event}
use Rattle.authn_core.specs.declared.replies.Presence.TheVariants.{Granted, Denied, TimedOut}
use Rattle.std.specs.List.{find, list_any, AllByRecursion}
use Rattle.arrayvec.specs.ArrayVec.{ArrayVec}
use Rattle.fido_authdata.specs.AuthData.{created_bytes, assertion_bytes}
use Rattle.ctap_message.specs.Responses.{created_answer, assertion_answer, info_answer}
use Rattle.authn_core.specs.declared.replies.NewKey.{NewKey}
use Rattle.sha2.specs.Sha256.{sha256}
use Rattle.std.specs.Option.{option_or}
use Rattle.authn_core.specs.declared.refusal.Refusal.{Refusal}
use Rattle.ctap_message.specs.Requests.{ParsedRequest, MakeCredential, GetAssertion, GetInfo, Reset, GetNextAssertion}
use Rattle.ctap_message.specs.Requests.{Selection, read_of}
use Rattle.ctap_message.specs.Members.{has_entries, ids_of}
use Rattle.authn_core.specs.declared.refusal.Refusal.TheVariants as because

-- ---- the commands that need nothing but user presence: authenticatorReset and authenticatorSelection (CTAP 2.1,
-- sections 6.6, 6.9 and 8.2)

-- The time limit for a reset after power-up, in milliseconds (CTAP 2.1, section 6.6).
abbrev pub RESET_LIMIT : ℕ
RESET_LIMIT = 10000

-- Waits for user presence for a reset, or rejects the reset if more than 10 seconds have passed since power-up.
abbrev pub reset_turn : List Row → (began now cid : ℕ) → TurnResult
reset_turn rows began now cid =
    if nat_lt (began + RESET_LIMIT) now then respond_refusal rows None (because.ResetTooLate began now) else await_reply rows None cid AwaitResetPresence

-- The result of a user presence reply: `granted` if the user consents, or else an error.
abbrev pub presence_turn : (granted : TurnResult) → List Row → Option PendingAssertions → Presence → TurnResult
presence_turn granted rows pending Granted = granted
presence_turn granted rows pending Denied = respond_refusal rows pending because.Denied
presence_turn granted rows pending TimedOut = respond_refusal rows pending because.TimedOut

-- ---- the effects of authenticatorMakeCredential (CTAP 2.1, sections 6.1.2 and 8.2)

-- Whether one of the IDs belongs to a credential of the RP.
abbrev pub has_listed_credential : (rp : List ℕ) → List Row → List (List ℕ) → Bool
has_listed_credential rp rows ids = list_any (λ id. is_some (find (is_named rp id) rows)) ids

-- The parameters of the credential to create.
abbrev pub new_make_state : (hash rp_id user_id user_name : List ℕ) (rk : Bool) → MakeState
new_make_state hash rp_id user_id name rk =
    record { hash = hash; rp = sha256 rp_id; user = user_id; name = cut name; discoverable = rk }

-- Waits for user presence, even if a credential is excluded.
abbrev pub make_turn : List Row → (cid : ℕ) → MakeState → (exclude : List (List ℕ)) → TurnResult
make_turn rows cid m exclude = await_reply rows None cid (AwaitMakePresence m (has_listed_credential m.rp rows exclude))

-- Whether a new credential fits: there is capacity, or it replaces another one.
abbrev pub has_capacity : (capacity : ℕ) → MakeState → List Row → Bool
has_capacity capacity m rows = nat_lt (length rows) capacity || (m.discoverable && is_some (find (is_user m.rp m.user) rows))

-- The result of a user presence reply. An excluded credential is reported after any reply.
abbrev pub make_after_presence : ℕ → List Row → Option PendingAssertions → (cid : ℕ) → MakeState → (excluded : Bool) → Presence → TurnResult
make_after_presence capacity rows pending cid m true reply = respond_refusal rows pending because.Excluded
make_after_presence capacity rows pending cid m false Granted =
    if has_capacity capacity m rows then await_reply rows pending cid (AwaitKeyPair m) else respond_refusal rows pending because.Full
make_after_presence capacity rows pending cid m false reply = respond_refusal rows pending (presence_refusal reply)

-- The result of a new key. Unless a credential with its ID exists, a signature is needed (WebAuthn Level 2, section
-- 8.2).
abbrev pub make_after_key : (aaguid : List ℕ) → List Row → Option PendingAssertions → (cid : ℕ) → MakeState → Option NewKey → TurnResult
make_after_key aaguid rows pending cid m None = respond_refusal rows pending because.KeyRefused
make_after_key aaguid rows pending cid m (Some key) =
    if is_some (find (has_id key.id) rows) then respond_refusal rows pending because.KeyIdTaken
    else await_reply rows pending cid (AwaitMakeSignature m key (created_bytes m.rp aaguid key.id key.x key.y ++ m.hash))

-- The new credential.
abbrev pub new_row : MakeState → NewKey → Row
new_row m k =
    let user : ArrayVec ℕ = record { items = m.user } in let rk = m.discoverable in
    record { rp = m.rp; id = k.id; x = k.x; y = k.y; user = user; discoverable = rk; counter = 0; name = m.name }

-- Stores the credential and responds with the attestation, or responds with an error if the signature was refused.
abbrev pub make_after_signature : (aaguid : List ℕ) → List Row → Option PendingAssertions → MakeState → NewKey → Option (List ℕ) → TurnResult
make_after_signature aaguid rows pending m key None = respond_refusal rows pending because.SignatureRefused
make_after_signature aaguid rows pending m key (Some sig) =
    respond (rows_with (new_row m key) rows) None (created_answer (created_bytes m.rp aaguid key.id key.x key.y) sig)

-- ---- authenticatorGetAssertion and authenticatorGetNextAssertion (CTAP 2.1, sections 6.2.2, 6.3 and 8.2)

-- The credential of the RP whose ID comes first in the list.
abbrev pub find_allowed : (rp : List ℕ) → List Row → List (List ℕ) → Option Row
find_allowed rp rows [] = None
find_allowed rp rows (id ∷ others) = option_or (find (is_named rp id) rows) (find_allowed rp rows others)

-- The applicable credentials: one from the allow list, if it is given, or else all discoverable credentials of the RP.
abbrev pub applicable_rows : List Row → (rp : List ℕ) → (given : Bool) → (allow : List (List ℕ)) → List Row
applicable_rows rows rp given allow = if given then option_to_list (find_allowed rp rows allow) else discoverable_rows rp rows

-- The value of numberOfCredentials: None with an allow list, or for fewer than two credentials.
abbrev pub number_of_credentials : (given : Bool) → ℕ → Option ℕ
number_of_credentials given n = if nat_lt 1 n then (if given then None else Some n) else None

-- The maximum signature counter.
abbrev pub MAX_SIGN_COUNT : ℕ
MAX_SIGN_COUNT = 4294967295

-- Waits for user presence if the option `up` is set, or else for the signature.
abbrev pub await_presence_or_sign : List Row → Option PendingAssertions → (cid : ℕ) → AssertState → TurnResult
await_presence_or_sign rows pending cid a = if a.presence then await_reply rows pending cid (AwaitAssertPresence a) else await_signature rows pending cid a

-- The first credential has to sign, and the others become pending assertions.
abbrev pub assertion_turn : List Row → (now cid : ℕ) (hash rp : List ℕ) (presence given : Bool) → List (List ℕ) → TurnResult
assertion_turn rows now cid hash rp presence given [] = respond_refusal rows None (because.NoCredential given)
assertion_turn rows now cid hash rp presence given (id ∷ others) =
    if nat_lt (counter_of id rows) MAX_SIGN_COUNT
    then await_presence_or_sign rows (new_pending cid hash presence now others) cid
    (record { hash = hash; rp = rp; id = id; presence = presence; number = number_of_credentials given (length others + 1) })
    else respond_refusal rows None because.CounterSpent

-- Waits for the signature if the user consents, or else responds with an error.
abbrev pub assertion_after_presence : List Row → Option PendingAssertions → (cid : ℕ) → AssertState → Presence → TurnResult
assertion_after_presence rows pending cid a Granted = await_signature rows pending cid a
assertion_after_presence rows pending cid a reply = respond_refusal rows None (presence_refusal reply)

-- The user handle, if the credential is discoverable.
abbrev pub user_handle_in : Option Row → Option (List ℕ)
user_handle_in None = None
user_handle_in (Some row) = if row.discoverable then Some row.user.items else None

-- Responds with the signature and restarts the time limit for the pending assertions, or responds with an error if the
-- signature was refused.
abbrev pub assertion_after_signature : List Row → Option PendingAssertions → (now : ℕ) → AssertState → (counter : ℕ) → Option (List ℕ) → TurnResult
assertion_after_signature rows pending now a counter None = respond_refusal rows None because.SignatureRefused
assertion_after_signature rows pending now a counter (Some sig) =
    respond rows (with_time now pending)
    (assertion_answer a.id (assertion_bytes a.rp a.presence counter) sig (user_handle_in (find (has_id a.id) rows)) a.number)

-- ---- authenticatorGetNextAssertion

-- The time limit for getNextAssertion after a response, in milliseconds (CTAP 2.1, section 6.3).
abbrev pub NEXT_LIMIT : ℕ
NEXT_LIMIT = 30000

-- The credential with a pending ID has to sign, with the client data hash and the option `up` of the getAssertion.
abbrev pub sign_pending_row : List Row → Option PendingAssertions → (cid : ℕ) (hash : List ℕ) → Bool → List ℕ → Option Row → TurnResult
sign_pending_row rows pending cid hash presence id None = respond_refusal rows None because.NothingPending
sign_pending_row rows pending cid hash presence id (Some row) =
    if nat_lt (counter_of id rows) MAX_SIGN_COUNT
    then await_signature rows pending cid (record { hash = hash; rp = row.rp; id = id; presence = presence; number = None })
    else respond_refusal rows None because.CounterSpent

-- The credential with the first pending ID has to sign.
abbrev pub sign_next_pending : List Row → PendingAssertions → (cid : ℕ) → List (List ℕ) → TurnResult
sign_next_pending rows w cid [] = respond_refusal rows None because.NothingPending
sign_next_pending rows w cid (id ∷ others) = sign_pending_row rows (new_pending w.cid w.hash w.presence w.moment others) cid
    w.hash w.presence id (find (has_id id) rows)

-- The error of a getNextAssertion that isn't allowed.
abbrev pub next_refusal : PendingAssertions → (now cid : ℕ) → Refusal
next_refusal w now cid = if w.cid == cid then because.NextTooLate w.moment now else because.PendingElsewhere w.cid

-- The result of a getNextAssertion, which is allowed on the channel of the getAssertion within the time limit.
abbrev pub next_assertion_turn : List Row → Option PendingAssertions → (now cid : ℕ) → TurnResult
next_assertion_turn rows None now cid = respond_refusal rows None because.NothingPending
next_assertion_turn rows (Some w) now cid =
    if (w.cid == cid) && nat_le now (w.moment + NEXT_LIMIT) then sign_next_pending rows w cid w.ids
    else respond_refusal rows None (next_refusal w now cid)

-- ---- invariants of the pending request and the pending assertions between events

-- The task can be continued. For an assertion, the credential exists and, before user presence, its signature counter
-- is below the maximum. For a new credential, after user presence, there is capacity, and once its key is known, its ID
-- is new.
abbrev pub TaskReady : (capacity : ℕ) → List Row → Task → Type 0
TaskReady capacity rows (AwaitKeyPair m) = has_capacity capacity m rows ≡ true
TaskReady capacity rows (AwaitMakeSignature m k signed) = (has_capacity capacity m rows ≡ true)
    × (is_some (find (has_id k.id) rows) ≡ false)
TaskReady capacity rows (AwaitAssertPresence a) = (is_some (find (has_id a.id) rows) ≡ true)
    × (counter_of a.id rows < 2 ^ 32 - 1)
TaskReady capacity rows (AwaitAssertSignature a counter signed) = is_some (find (has_id a.id) rows) ≡ true
TaskReady capacity rows task = Unit {0}

-- The pending task, if any, can be continued, as `TaskReady` defines.
abbrev pub WorkReady : (capacity : ℕ) → List Row → Option PendingTask → Type 0
WorkReady capacity rows None = Unit {0}
WorkReady capacity rows (Some work) = TaskReady capacity rows work.task

-- The signed bytes are the authenticator data in the response followed by the client data hash.
pub record IsConcatenation (signed front hash : List ℕ) (n : ℕ) : Type 0 where
  pub bytes : signed ≡ front ++ hash
  pub len : length front ≡ n

-- The bytes that the task signs are the authenticator data in its response (164 or 37 bytes) followed by the client
-- data hash.
abbrev pub SignsItsResponse : (aaguid : List ℕ) → Task → Type 0
SignsItsResponse aaguid (AwaitMakeSignature m k signed) = IsConcatenation signed (created_bytes m.rp aaguid k.id k.x k.y) m.hash 164
SignsItsResponse aaguid (AwaitAssertSignature a counter signed) = IsConcatenation signed (assertion_bytes a.rp a.presence counter) a.hash 37
SignsItsResponse aaguid task = Unit {0}

-- The bytes that the pending task signs, if any, are the authenticator data in its response followed by the client data
-- hash.
abbrev pub WorkSignsItsResponse : (aaguid : List ℕ) → Option PendingTask → Type 0
WorkSignsItsResponse aaguid None = Unit {0}
WorkSignsItsResponse aaguid (Some work) = SignsItsResponse aaguid work.task

-- Each ID belongs to a credential.
abbrev pub AllHaveRows : List Row → List (List ℕ) → Type 0
AllHaveRows rows ids = AllByRecursion (λ id. is_some (find (has_id id) rows) ≡ true) ids

-- Each pending ID belongs to a credential.
abbrev pub PendingReady : List Row → Option PendingAssertions → Type 0
PendingReady rows None = Unit {0}
PendingReady rows (Some w) = AllHaveRows rows w.ids

-- The pending assertions are exactly those with these IDs.
pub record IsPendingAlone (p : Option PendingAssertions) (cid : ℕ) (hash : List ℕ) (presence : Bool) (now : ℕ)
    (ids : List (List ℕ)) (count : ℕ) : Type 0 where
  pub are : p ≡ new_pending cid hash presence now ids
  pub counted : length ids ≡ count
  pub few : count < 2 ^ 16

-- The invariant of the state: each pending ID belongs to a credential, and the pending request can be continued.
pub record Ready (capacity : ℕ) (s : State) : Type 0 where
  pub pending : PendingReady s.rows s.pending
  pub work : WorkReady capacity s.rows s.work

-- ---- the effect of each event

-- The result of a request. Each request removes the pending assertions, except a getNextAssertion that becomes pending.
abbrev pub request_turn : Setup → List Row → Option PendingAssertions → (now cid : ℕ) → Result ParsedRequest ℕ → TurnResult
request_turn u rows pending now cid (Err code) = respond_refusal rows None (because.BadRequest code)
request_turn u rows pending now cid (Ok GetInfo) = respond rows None (info_answer u.aaguid)
request_turn u rows pending now cid (Ok Reset) = reset_turn rows u.began now cid
request_turn u rows pending now cid (Ok Selection) = await_reply rows None cid AwaitSelectionPresence
request_turn u rows pending now cid (Ok (MakeCredential hash rp_id user_id user_name discoverable exclude)) =
    let m = new_make_state hash rp_id user_id user_name discoverable in
    await_reply rows None cid (AwaitMakePresence m (has_listed_credential m.rp rows (ids_of exclude)))
request_turn u rows pending now cid (Ok (GetAssertion hash rp_id allow presence)) =
    let rp = sha256 rp_id in let given = has_entries allow in
    assertion_turn rows now cid hash rp presence given (map (λ row. row.id) (applicable_rows rows rp given (ids_of allow)))
request_turn u rows pending now cid (Ok GetNextAssertion) = next_assertion_turn rows pending now cid

-- The result of a reply for the pending task. A reply that the task doesn't need is ignored.
abbrev pub task_reply_turn : Setup → State → (now cid : ℕ) → Task → Event → TurnResult
task_reply_turn u s now cid AwaitResetPresence (PresenceIs reply) = presence_turn (respond [] None (0x00 ∷ [])) s.rows s.pending reply
task_reply_turn u s now cid AwaitSelectionPresence (PresenceIs reply) =
    presence_turn (respond s.rows s.pending (0x00 ∷ [])) s.rows s.pending reply
task_reply_turn u s now cid (AwaitMakePresence m excluded) (PresenceIs reply) =
    make_after_presence u.capacity s.rows s.pending cid m excluded reply
task_reply_turn u s now cid (AwaitKeyPair m) (KeyIs key) = make_after_key u.aaguid s.rows s.pending cid m key
task_reply_turn u s now cid (AwaitMakeSignature m key signed) (SignatureIs sig) = make_after_signature u.aaguid s.rows s.pending m key sig
task_reply_turn u s now cid (AwaitAssertPresence a) (PresenceIs reply) = assertion_after_presence s.rows s.pending cid a reply
task_reply_turn u s now cid (AwaitAssertSignature a counter signed) (SignatureIs sig) = assertion_after_signature s.rows s.pending now a counter sig
task_reply_turn u s now cid task other = ignore_event s

-- The result of a reply. Without a pending task, the reply is ignored.
abbrev pub reply_turn : Setup → State → (now : ℕ) → Option PendingTask → Event → TurnResult
reply_turn u s now None reply = ignore_event s
reply_turn u s now (Some work) reply = task_reply_turn u s now work.cid work.task reply

-- The result of an event at time `now`.
unfoldable pub turn : Setup → State → (now : ℕ) → Event → TurnResult
turn u s now (Request cid bytes) = request_turn u s.rows s.pending now cid (read_of bytes)
turn u s now Cancel = respond_refusal s.rows None because.Cancelled
turn u s now Drop =
    record { state = record { rows = s.rows; pending = None; work = None }; answer = Nothing; why = None }
turn u s now reply = reply_turn u s now s.work reply

-- ---- an authenticator

-- An authenticator: its configuration and its state.
pub record CoreState : Type 0 where
  pub setup : Setup
  pub state : State

-- The start of an authenticator: AAGUID, time in milliseconds, capacity, and credentials in order of creation.
pub record Start : Type 0 where
  pub aaguid : List ℕ
  pub moment : ℕ
  pub capacity : ℕ
  pub rows : List Row

-- The authenticator at the start, without a pending request or pending assertions.
abbrev pub first_state : Start → CoreState
first_state start = record {
  setup = record { aaguid = start.aaguid; began = start.moment; capacity = start.capacity };
  state = record { rows = start.rows; pending = None; work = None };
}

-- The authenticator after an event at time `now`.
abbrev pub core_after : CoreState → (now : ℕ) → Event → CoreState
core_after core now e = record { setup = core.setup; state = (turn core.setup core.state now e).state }

-- The error of an event, if any.
abbrev pub core_refusal : CoreState → (now : ℕ) → Event → Option Refusal
core_refusal core now e = (turn core.setup core.state now e).why

-- The answer to an event.
abbrev pub core_answer : CoreState → (now : ℕ) → Event → Answer
core_answer core now e = (turn core.setup core.state now e).answer

-- The channel and KEEPALIVE status of the pending request (CTAP 2.1, section 11.2.9.1.7).
pub record Work : Type 0 where
  pub cid : ℕ
  pub status : ℕ

-- The channel and KEEPALIVE status of the pending request, if any.
abbrev pub waiting : CoreState → Option Work
waiting core = option_map (λ work. record { cid = work.cid; status = status work.task }) core.state.work

-- The channel of the pending request, if any.
abbrev pub working_channel : CoreState → Option ℕ
working_channel core = option_map (λ (w : Work). w.cid) (waiting core)

-- The code's authenticator: its configuration and state, the latest timestamp, and the number of steps of parsing the
-- last request.
pub record CoreContents : Type 0 where
  pub core : CoreState
  pub latest : ℕ
  pub last_steps : ℕ
