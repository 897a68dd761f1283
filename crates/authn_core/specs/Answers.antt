-- The answer to each event, as a function of the earlier events and answers (CTAP 2.1, section 6).
use Rattle.std.specs.Prelude.{ℕ, List, [], ◌∷◌, map, Option, Some, None, option_map, Result, Ok, Err, ◌+◌, ◌==◌}
use Rattle.std.specs.Prelude.{nat_le, length, reverse, take, slice_get, Bool, true, false, ◌&&◌, if◌then◌else◌, not}
use Rattle.cred_table.specs.declared.row.Row.{Row}
use Rattle.ctap_message.specs.Requests.{ParsedRequest, read_of, GetAssertion, GetNextAssertion, MakeCredential}
use Rattle.ctap_message.specs.Requests.{GetInfo, Reset, Selection}
use Rattle.authn_core.specs.Marks.{CredentialChange, rows_after_changes, TimedEvent, replaces_credential}
use Rattle.authn_core.specs.Turn.{Start, Work}
use Rattle.authn_core.specs.State.{Event, Request, Answer, Waits, Ignored, AssertState, SignatureIs, Answered}
use Rattle.authn_core.specs.State.{PresenceIs, KeyIs, Cancel, Drop, Nothing}
use Rattle.std.specs.List.{filter, list_all, list_any, find}
use Rattle.std.specs.Option.{option_or}
use Rattle.std.specs.Str.{bytes_eq}
use Rattle.ctap_message.specs.Members.{has_entries, ids_of}
use Rattle.sha2.specs.Sha256.{sha256}
use Rattle.cred_table.specs.Rows.{cut}
use Rattle.fido_authdata.specs.AuthData.{assertion_bytes, created_bytes}
use Rattle.ctap_message.specs.Responses.{created_answer, assertion_answer, info_answer}
use Rattle.authn_core.specs.declared.replies.Presence.{Presence}
use Rattle.authn_core.specs.declared.replies.NewKey.{NewKey}
use Rattle.authn_core.specs.declared.replies.Presence.TheVariants.{Granted, Denied, TimedOut}

-- The history of an authenticator: its events with their answers, newest first. The credentials and the pending
-- request, on which later answers depend, are computed from this list.

-- An event with its time, its answer, and its effect on the credentials.
pub record Exchange : Type 0 where
  pub at : ℕ
  pub event : Event
  pub answer : Answer
  pub did : CredentialChange

-- The credentials after a history, in order, except those removed by resets or replaced.
abbrev pub rows_after : Start → List Exchange → List Row
rows_after start past = rows_after_changes start.rows (map (λ x. x.did) past)

-- A pending request: its channel, parameters, replies (newest first), KEEPALIVE status, and the history before it.
pub record PendingRequest : Type 0 where
  pub cid : ℕ
  pub asked : ParsedRequest
  pub took : List Event
  pub status : ℕ
  pub before : List Exchange

-- The pending request that a valid request begins, or None for an invalid request.
abbrev pub begin_pending_request : (cid status : ℕ) → List Exchange → Result ParsedRequest ℕ → Option PendingRequest
begin_pending_request cid status past (Ok asked) =
    Some (record { cid = cid; asked = asked; took = []; status = status; before = past })
begin_pending_request cid status past (Err code) = None

-- The pending request after an event. A request without an immediate response becomes pending, a reply that is needed
-- is recorded with it, and a response or a drop ends it.
abbrev pub pending_after : Event → Answer → List Exchange → Option PendingRequest → Option PendingRequest
pending_after (Request cid bytes) (Waits status) past older = begin_pending_request cid status past (read_of bytes)
pending_after reply (Waits status) past older =
    option_map (λ (u : PendingRequest). record u { took = reply ∷ u.took; status = status }) older
pending_after event Ignored past older = older
pending_after event answer past older = None

-- The pending request after a history, if any.
unfoldable pub pending_request : List Exchange → Option PendingRequest
pending_request [] = None
pending_request (x ∷ past) = pending_after x.event x.answer past (pending_request past)

-- The channel and the KEEPALIVE status of the pending request.
abbrev pub work_of_request : Option PendingRequest → Option Work
work_of_request o = option_map (λ (u : PendingRequest). record { cid = u.cid; status = u.status }) o

-- ---- the credential that signs an assertion, as a function of the earlier events (CTAP 2.1, sections 6.2.2 and 6.3)

-- The IDs of the applicable credentials: the first ID in the allow list that belongs to the RP or, without an allow
-- list, those of all its discoverable credentials, newest first (CTAP 2.1, section 6.2.2).
abbrev pub applicable_ids : List Row → (rp : List ℕ) → (given : Bool) → (allow : List (List ℕ)) → List (List ℕ)
applicable_ids rows rp given allow =
    if given then take 1 (filter (λ id. list_any (λ r. bytes_eq r.rp rp && bytes_eq r.id id) rows) allow)
    else map (λ r. r.id) (reverse (filter (λ r. r.discoverable && bytes_eq r.rp rp) rows))

-- The value of numberOfCredentials, if any (CTAP 2.1, section 6.2.2).
abbrev pub number_of_applicable : (given : Bool) → ℕ → Option ℕ
number_of_applicable given n = if given then None else if nat_le n 1 then None else Some n

-- ---- the newest getAssertion, which getNextAssertion continues

-- The newest getAssertion that became pending, the history before it, and the events since, newest first.
pub record AssertionSeries : Type 0 where
  pub cid : ℕ
  pub hash : List ℕ
  pub rp : List ℕ
  pub given : Bool
  pub allow : List (List ℕ)
  pub presence : Bool
  pub before : List Exchange
  pub since : List Exchange

-- The series that begins with a valid getAssertion.
abbrev pub new_series : (cid : ℕ) → List Exchange → Result ParsedRequest ℕ → Option AssertionSeries
new_series cid past (Ok (GetAssertion hash rp_id allow presence)) =
    Some (record {
      cid = cid;
      hash = hash;
      rp = sha256 rp_id;
      given = has_entries allow;
      allow = ids_of allow;
      presence = presence;
      before = past;
      since = [];
    })
new_series cid past read = None

-- The series that an event begins, if it is a getAssertion that becomes pending.
abbrev pub begins_series : Event → Answer → List Exchange → Option AssertionSeries
begins_series (Request cid bytes) (Waits status) past = new_series cid past (read_of bytes)
begins_series event answer past = None

-- The newest series.
unfoldable pub latest_series : List Exchange → Option AssertionSeries
latest_series [] = None
latest_series (x ∷ past) =
    option_or (begins_series x.event x.answer past)
    (option_map (λ (s : AssertionSeries). record s { since = x ∷ s.since }) (latest_series past))

-- Whether the request is getNextAssertion.
abbrev pub is_get_next_assertion : Result ParsedRequest ℕ → Bool
is_get_next_assertion (Ok GetNextAssertion) = true
is_get_next_assertion read = false

-- Whether the event continues the series: a pending getNextAssertion, a recorded or ignored reply, or a signature with
-- a response.
abbrev pub continues_series : Event → Answer → Bool
continues_series (Request cid bytes) (Waits status) = is_get_next_assertion (read_of bytes)
continues_series reply (Waits status) = true
continues_series (SignatureIs (Some sig)) (Answered bytes) = true
continues_series event Ignored = true
continues_series event answer = false

-- Whether the event completes an assertion.
abbrev pub answers_assertion : Event → Answer → Bool
answers_assertion (SignatureIs (Some sig)) (Answered bytes) = true
answers_assertion event answer = false

-- The completed assertions of a series, newest first.
abbrev pub answered_assertions : AssertionSeries → List Exchange
answered_assertions s = filter (λ x. answers_assertion x.event x.answer) s.since

-- Whether at most 30,000 ms passed since the last assertion (CTAP 2.1, section 6.3).
abbrev pub is_in_time : (now : ℕ) → List Exchange → Bool
is_in_time now [] = false
is_in_time now (x ∷ older) = nat_le now (x.at + 30000)

-- Whether getNextAssertion continues the series: no other event, same channel, in time.
abbrev pub may_continue_series : (now cid : ℕ) → Option AssertionSeries → Bool
may_continue_series now cid None = false
may_continue_series now cid (Some s) =
    list_all (λ x. continues_series x.event x.answer) s.since && (s.cid == cid && is_in_time now (answered_assertions s))

-- ---- the assertion that a request begins

-- The assertion with this credential, if any.
abbrev pub assertion_by : (hash rp : List ℕ) (presence : Bool) → (number : Option ℕ) → Option (List ℕ) → Option AssertState
assertion_by hash rp presence number None = None
assertion_by hash rp presence number (Some id) =
    Some (record { hash = hash; rp = rp; id = id; presence = presence; number = number })

-- The next assertion of a series, if any.
abbrev pub next_assertion : Start → Option AssertionSeries → Option AssertState
next_assertion start None = None
next_assertion start (Some s) =
    assertion_by s.hash s.rp s.presence None
    (slice_get (applicable_ids (rows_after start s.before) s.rp s.given s.allow) (length (answered_assertions s)))

-- The assertion that a request begins after this history, or None.
abbrev pub assertion_for : Start → List Exchange → ParsedRequest → Option AssertState
assertion_for start past (GetAssertion hash rp_id allow presence) =
    let given = has_entries allow in let ids = applicable_ids (rows_after start past) (sha256 rp_id) given (ids_of allow) in
    assertion_by hash (sha256 rp_id) presence (number_of_applicable given (length ids)) (slice_get ids 0)
assertion_for start past GetNextAssertion = next_assertion start (latest_series past)
assertion_for start past asked = None

-- ---- the parts of answers (CTAP 2.1, sections 6 and 8.2)

-- The comment after each error status is its name in section 8.2.

-- A response that consists of this status byte alone.
abbrev pub status_response : ℕ → Answer
status_response code = Answered (code ∷ [])

-- KEEPALIVE status 2: user presence needed (CTAP 2.1, section 11.2.9.1.7).
abbrev pub presence_needed : Answer
presence_needed = Waits 2

-- KEEPALIVE status 1: processing (CTAP 2.1, section 11.2.9.1.7).
abbrev pub still_processing : Answer
still_processing = Waits 1

-- The credential with this ID.
abbrev pub find_row : (id : List ℕ) → List Row → Option Row
find_row id rows = find (λ r. bytes_eq r.id id) rows

-- ---- authenticatorReset and authenticatorSelection (sections 6.6 and 6.9)

-- The response to user presence for a command that needs nothing else.
abbrev pub consent_answer : Presence → Answer
consent_answer Granted = status_response 0x00
consent_answer Denied = status_response 0x27  -- OPERATION_DENIED
consent_answer TimedOut = status_response 0x2f  -- USER_ACTION_TIMEOUT

-- ---- authenticatorMakeCredential (section 6.1.2)

-- Whether a credential of the RP is in the exclude list.
abbrev pub is_excluded : List Row → (rp : List ℕ) → (exclude : List (List ℕ)) → Bool
is_excluded rows rp exclude = list_any (λ r. bytes_eq r.rp rp && list_any (bytes_eq r.id) exclude) rows

-- Whether the table is full, and the new credential replaces no row.
abbrev pub is_full : (capacity : ℕ) → List Row → (rp user : List ℕ) (discoverable : Bool) → Bool
is_full capacity rows rp user discoverable =
    nat_le capacity (length rows) && not (list_any (replaces_credential rp user discoverable) rows)

-- Whether the user consented.
abbrev pub is_granted : Presence → Bool
is_granted Granted = true
is_granted reply = false

-- The answer to user presence for a registration: an excluded credential is reported first.
abbrev pub registration_presence_answer : (excluded full : Bool) → Presence → Answer
registration_presence_answer excluded full reply =
    if excluded then status_response 0x19  -- CREDENTIAL_EXCLUDED
    else if not (is_granted reply) then status_response 0x27  -- OPERATION_DENIED
    else if full then status_response 0x28  -- KEY_STORE_FULL
    else still_processing

-- The answer to a new key: an error, or KEEPALIVE status 1.
abbrev pub new_key_answer : List Row → Option NewKey → Answer
new_key_answer rows None = status_response 0x7f  -- OTHER
new_key_answer rows (Some key) =
    if list_any (λ r. bytes_eq r.id key.id) rows then status_response 0x7f  -- OTHER
    else still_processing

-- The response to the signature for a registration, or an error.
abbrev pub attestation_answer : (aaguid rp : List ℕ) → NewKey → Option (List ℕ) → Answer
attestation_answer aaguid rp key None = status_response 0x7f  -- OTHER
attestation_answer aaguid rp key (Some sig) =
    Answered (created_answer (created_bytes rp aaguid key.id key.x key.y) sig)

-- ---- authenticatorGetAssertion and authenticatorGetNextAssertion (sections 6.2.2 and 6.3)

-- The signature counter of the row, or 0 for None.
abbrev pub sign_count : Option Row → ℕ
sign_count None = 0
sign_count (Some r) = r.counter

-- The answer when an assertion begins: `none` without one, an error at the maximum signature counter.
abbrev pub begin_assertion_answer : List Row → (none waits : Answer) → Option AssertState → Answer
begin_assertion_answer rows none waits None = none
begin_assertion_answer rows none waits (Some a) =
    if nat_le 4294967295 (sign_count (find_row a.id rows)) then status_response 0x15  -- LIMIT_EXCEEDED
    else waits

-- The user handle of the row, if the credential is discoverable.
abbrev pub user_handle : Option Row → Option (List ℕ)
user_handle None = None
user_handle (Some r) = if r.discoverable then Some r.user.items else None

-- The response to an assertion's signature. The signature counter was already incremented.
abbrev pub assertion_signature_answer : List Row → Option AssertState → Option (List ℕ) → Answer
assertion_signature_answer rows None sig = Ignored
assertion_signature_answer rows (Some a) None = status_response 0x7f  -- OTHER
assertion_signature_answer rows (Some a) (Some sig) =
    let row = find_row a.id rows in
    Answered (assertion_answer a.id (assertion_bytes a.rp a.presence (sign_count row)) sig (user_handle row) a.number)

-- ---- answers to events

-- The answer to a request.
abbrev pub request_answer : Start → List Exchange → (now cid : ℕ) → Result ParsedRequest ℕ → Answer
request_answer start past now cid (Err code) = status_response code
request_answer start past now cid (Ok GetInfo) = Answered (info_answer start.aaguid)
request_answer start past now cid (Ok Selection) = presence_needed
request_answer start past now cid (Ok Reset) =
    if nat_le now (start.moment + 10000) then presence_needed else status_response 0x30  -- NOT_ALLOWED
request_answer start past now cid (Ok (MakeCredential hash rp_id user_id user_name discoverable exclude)) = presence_needed
request_answer start past now cid (Ok (GetAssertion hash rp_id allow presence)) =
    begin_assertion_answer (rows_after start past) (status_response 0x2e)  -- NO_CREDENTIALS
    (if presence then presence_needed else still_processing)
    (assertion_for start past (GetAssertion hash rp_id allow presence))
request_answer start past now cid (Ok GetNextAssertion) =
    if may_continue_series now cid (latest_series past)
    then begin_assertion_answer (rows_after start past) (status_response 0x30) still_processing
    (assertion_for start past GetNextAssertion)
    else status_response 0x30  -- NOT_ALLOWED

-- The answer to the caller's reply (presence, key, signature). `took` are the pending request's earlier replies, newest
-- first. An unneeded reply is ignored.
abbrev pub reply_answer : Start → List Row → Option AssertState → ParsedRequest → (took : List Event) → (reply : Event) → Answer
reply_answer start rows a Reset [] (PresenceIs reply) = consent_answer reply
reply_answer start rows a Selection [] (PresenceIs reply) = consent_answer reply
reply_answer start rows a (MakeCredential hash rp_id user_id user_name discoverable exclude) [] (PresenceIs reply) =
    let rp = sha256 rp_id in
    registration_presence_answer (is_excluded rows rp (ids_of exclude)) (is_full start.capacity rows rp user_id discoverable) reply
reply_answer start rows a (MakeCredential hash rp_id user_id user_name discoverable exclude)
    (PresenceIs reply ∷ []) (KeyIs key) =
    new_key_answer rows key
reply_answer start rows a (MakeCredential hash rp_id user_id user_name discoverable exclude)
    (KeyIs (Some key) ∷ took) (SignatureIs sig) =
    attestation_answer start.aaguid (sha256 rp_id) key sig
reply_answer start rows a (GetAssertion hash rp_id allow true) [] (PresenceIs reply) =
    if is_granted reply then still_processing else status_response 0x27  -- OPERATION_DENIED
reply_answer start rows a (GetAssertion hash rp_id allow true) [] reply = Ignored
reply_answer start rows a (GetAssertion hash rp_id allow presence) took (SignatureIs sig) = assertion_signature_answer rows a sig
reply_answer start rows a GetNextAssertion took (SignatureIs sig) = assertion_signature_answer rows a sig
reply_answer start rows a asked took reply = Ignored

-- The answer to a reply, which is ignored without a pending request.
abbrev pub pending_reply_answer : Start → List Exchange → Option PendingRequest → (reply : Event) → Answer
pending_reply_answer start past None reply = Ignored
pending_reply_answer start past (Some u) reply =
    reply_answer start (rows_after start past) (assertion_for start u.before u.asked) u.asked u.took reply

-- The answer to an event after a history.
unfoldable pub answer_to : Start → List Exchange → (now : ℕ) → Event → Answer
answer_to start past now (Request cid bytes) = request_answer start past now cid (read_of bytes)
answer_to start past now Cancel = status_response 0x2d  -- KEEPALIVE_CANCEL
answer_to start past now Drop = Nothing
answer_to start past now reply = pending_reply_answer start past (pending_request past) reply

-- ---- changes of the credentials

-- The ID of the credential that signs the assertion, if any.
abbrev pub assertion_id : Option AssertState → Option (List ℕ)
assertion_id None = None
assertion_id (Some a) = Some a.id

-- The credential that this request creates when it is signed, if any (CTAP 2.1, section 6.1.2).
abbrev pub new_credential : ParsedRequest → (took : List Event) → Option Row
new_credential (MakeCredential hash rp_id user_id user_name discoverable exclude) (KeyIs (Some key) ∷ took) = Some (record {
  rp = sha256 rp_id;
  id = key.id;
  x = key.x;
  y = key.y;
  user = record { items = user_id };
  discoverable = discoverable;
  counter = 0;
  name = cut user_name;
})
new_credential asked took = None

-- The credential that an event creates, if any.
abbrev pub created_credential : Option PendingRequest → Event → Option Row
created_credential (Some u) (SignatureIs (Some sig)) = new_credential u.asked u.took
created_credential u event = None

-- The credential whose signature counter is incremented when its signature becomes pending (WebAuthn Level 2, section
-- 6.3.3).
abbrev pub incremented_credential : Option AssertState → Answer → Option (List ℕ)
incremented_credential a (Waits status) = if status == 1 then assertion_id a else None
incremented_credential a answer = None

-- The assertion of the pending request.
abbrev pub requested_assertion : Start → Option PendingRequest → Option AssertState
requested_assertion start None = None
requested_assertion start (Some u) = assertion_for start u.before u.asked

-- Whether the user consents to a reset (CTAP 2.1, section 6.6).
abbrev pub is_reset_granted : ParsedRequest → (reply : Event) → Bool
is_reset_granted Reset (PresenceIs Granted) = true
is_reset_granted asked reply = false

-- Whether the event grants a pending reset.
abbrev pub resets_credentials : Option PendingRequest → Event → Bool
resets_credentials None event = false
resets_credentials (Some u) event = is_reset_granted u.asked event

-- The request that the event begins, or else the pending request.
abbrev pub request_of_event : List Exchange → Event → Option PendingRequest
request_of_event past (Request cid bytes) = begin_pending_request cid 0 past (read_of bytes)
request_of_event past event = pending_request past

-- How an event changes the credentials.
abbrev pub credential_change : Start → List Exchange → Event → Answer → CredentialChange
credential_change start past event answer =
    let u = request_of_event past event in
    record { made = created_credential u event; raises = incremented_credential (requested_assertion start u) answer; resets = resets_credentials u event }

-- ---- histories

-- An event with its answer.
abbrev pub exchange : Start → List Exchange → (at : ℕ) → Event → Exchange
exchange start past at event =
    let answer = answer_to start past at event in
    record { at = at; event = event; answer = answer; did = credential_change start past event answer }

-- The events of a history with their answers, newest first.
unfoldable pub exchanges : Start → List TimedEvent → List Exchange
exchanges start [] = []
exchanges start (x ∷ past) = exchange start (exchanges start past) x.at x.event ∷ exchanges start past
