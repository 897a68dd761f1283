-- The bytes that an authenticator signs, as a function of the requests and of the keys that the caller supplied: the
-- authenticator data and the client data hash of an assertion (WebAuthn Level 2, section 6.3.3) or of a new credential
-- (sections 6.3.2 and 8.2).
use Rattle.std.specs.Prelude.{ℕ, ◌≡◌, ◌⊎◌, List, [], ◌∷◌, ◌++◌, Bool, true, false, Option, Some, None, option_map}
use Rattle.std.specs.{Prelude.Result, Prelude.Ok, Prelude.Err, List.AllByRecursion, List.find}
use Rattle.cred_table.specs.{declared.row.Row.Row, Rows.PendingAssertions, Rows.has_id, Rows.counter_of}
use Rattle.fido_authdata.specs.AuthData.{assertion_bytes, created_bytes}
use Rattle.ctap_message.specs.Requests.{ParsedRequest, MakeCredential, GetAssertion, GetNextAssertion}
use Rattle.ctap_message.specs.{Responses.created_answer, Responses.assertion_answer, Requests.read_of}
use Rattle.authn_core.specs.declared.replies.{Presence.TheVariants.Granted, NewKey.NewKey}
use Rattle.sha2.specs.Sha256.{sha256}
use Rattle.authn_core.specs.{Marks.TimedEvent, Marks.created_by_event, Views.Needed, Views.sign}
use Rattle.authn_core.specs.State.{MakeState, AssertState, Task, AwaitMakePresence, AwaitKeyPair, AwaitMakeSignature, AwaitAssertPresence, AwaitAssertSignature}
use Rattle.authn_core.specs.State.{PendingTask, State, Event, Request, PresenceIs, KeyIs, SignatureIs, Answer, Answered}

-- ---- the newest request

-- The newest request, unless it is invalid; getNextAssertion doesn't count. Also, whether the user consented since
-- then, and the keys that the caller supplied.
pub record LatestRequests : Type 0 where
  pub asked : Option ParsedRequest
  pub granted : Bool
  pub keys : List NewKey

-- The value of `LatestRequests` after a request.
abbrev pub with_request : LatestRequests → Result ParsedRequest ℕ → LatestRequests
with_request h (Err code) = record h { asked = None; granted = false }
with_request h (Ok GetNextAssertion) = h
with_request h (Ok asked) = record h { asked = Some asked; granted = false }

-- The value of `LatestRequests` after an event.
abbrev pub with_event : Event → LatestRequests → LatestRequests
with_event (Request cid bytes) h = with_request h (read_of bytes)
with_event (PresenceIs Granted) h = record h { granted = true }
with_event (KeyIs (Some key)) h = record h { keys = key ∷ h.keys }
with_event e h = h

-- The value of `LatestRequests` after a history of events, newest first.
unfoldable pub requests_of : List TimedEvent → LatestRequests
requests_of [] = record { asked = None; granted = false; keys = [] }
requests_of (x ∷ past) = with_event x.event (requests_of past)

-- The key is in the list.
abbrev pub IsAmong : NewKey → List NewKey → Type 0
IsAmong key [] = ⊥
IsAmong key (k ∷ keys) = (key ≡ k) ⊎ IsAmong key keys

-- The RP ID hash of the credential with this ID, if any.
abbrev pub rp_id_hash_of : (id : List ℕ) → List Row → Option (List ℕ)
rp_id_hash_of id rows = option_map (λ (r : Row). r.rp) (find (has_id id) rows)

-- ---- the bytes to sign, and the response

-- The bytes to sign. For an assertion, they are the authenticator data with the RP ID hash, the requested UP flag and
-- the signature counter of a credential of the RP, followed by the client data hash (WebAuthn Level 2, sections 6.1 and
-- 6.3.3). For a new credential, they are the authenticator data with the ID and public key of a key that the caller
-- supplied, followed by the client data hash (sections 6.3.2, 6.5.1 and 8.2). If UP is set, the user consented. No
-- other bytes are signed.
abbrev pub IsToSign : (aaguid : List ℕ) → LatestRequests → List Row → (id signed : List ℕ) → Option ParsedRequest → Type 0
IsToSign aaguid h rows id signed (Some (GetAssertion hash rp_id allow presence)) =
    (signed ≡ assertion_bytes (sha256 rp_id) presence (counter_of id rows) ++ hash)
    × (rp_id_hash_of id rows ≡ Some (sha256 rp_id)) × (presence ≡ true → h.granted ≡ true)
IsToSign aaguid h rows id signed (Some (MakeCredential hash rp_id user_id user_name discoverable exclude)) =
    (key : NewKey) × IsAmong key h.keys × (key.id ≡ id)
    × (signed ≡ created_bytes (sha256 rp_id) aaguid key.id key.x key.y ++ hash) × (h.granted ≡ true)
IsToSign aaguid h rows id signed asked = ⊥

-- If a signature is needed, the bytes to sign belong to the newest request.
abbrev pub IsNeeded : (aaguid : List ℕ) → LatestRequests → List Row → Needed → Type 0
IsNeeded aaguid h rows (sign id signed) = IsToSign aaguid h rows id signed h.asked
IsNeeded aaguid h rows n = Unit {0}

-- The response to a signature. For an assertion, it contains the credential ID and the authenticator data; for a new
-- credential, it contains the authenticator data of the created row. In both cases the authenticator data, followed by
-- the client data hash, is exactly the bytes that were signed.
abbrev pub IsSigned : (aaguid : List ℕ) → Option PendingTask → (id signed sig : List ℕ) → Answer → Option ParsedRequest → Type 0
IsSigned aaguid work id signed sig answer (Some (GetAssertion hash rp_id allow presence)) =
    (data_signed : List ℕ) × (user : Option (List ℕ)) × (number : Option ℕ)
    × (answer ≡ Answered (assertion_answer id data_signed sig user number)) × (data_signed ++ hash ≡ signed)
IsSigned aaguid work id signed sig answer (Some (MakeCredential hash rp_id user_id user_name discoverable exclude)) =
    (row : Row) × (created_by_event work (SignatureIs (Some sig)) ≡ Some row) × (row.id ≡ id)
    × (answer ≡ Answered (created_answer (created_bytes row.rp aaguid row.id row.x row.y) sig))
    × (created_bytes row.rp aaguid row.id row.x row.y ++ hash ≡ signed)
IsSigned aaguid work id signed sig answer asked = ⊥

-- ---- invariants between events

-- The parameters of a request on which an assertion depends: RP ID hash, requested UP flag and client data hash.
pub record Claim : Type 0 where
  pub rp : List ℕ
  pub presence : Bool
  pub hash : List ℕ

-- The parameters of a getAssertion on which an assertion depends, or None for other requests.
abbrev pub assertion_asked : Option ParsedRequest → Option Claim
assertion_asked (Some (GetAssertion hash rp_id allow presence)) =
    Some (record { rp = sha256 rp_id; presence = presence; hash = hash })
assertion_asked asked = None

-- The RP ID hash and the client data hash of a makeCredential, or None for other requests.
abbrev pub creation_asked : Option ParsedRequest → Option (List ℕ × List ℕ)
creation_asked (Some (MakeCredential hash rp_id user_id user_name discoverable exclude)) = Some (sha256 rp_id, hash)
creation_asked asked = None

-- The assertion belongs to the newest request.
abbrev pub IsAssertionFor : Option ParsedRequest → List Row → AssertState → Type 0
IsAssertionFor asked rows a = (assertion_asked asked ≡ Some (record { rp = a.rp; presence = a.presence; hash = a.hash }))
    × (rp_id_hash_of a.id rows ≡ Some a.rp)

-- The new credential belongs to the newest request.
abbrev pub IsCreationFor : Option ParsedRequest → MakeState → Type 0
IsCreationFor asked m = creation_asked asked ≡ Some (m.rp, m.hash)

-- The bytes that the task signs belong to the newest request.
abbrev pub TaskSignsFor : (aaguid : List ℕ) → LatestRequests → List Row → Task → Type 0
TaskSignsFor aaguid h rows (AwaitMakePresence m excluded) = IsCreationFor h.asked m
TaskSignsFor aaguid h rows (AwaitKeyPair m) = IsCreationFor h.asked m × (h.granted ≡ true)
TaskSignsFor aaguid h rows (AwaitMakeSignature m key signed) = IsCreationFor h.asked m × IsAmong key h.keys
    × (signed ≡ created_bytes m.rp aaguid key.id key.x key.y ++ m.hash) × (h.granted ≡ true)
TaskSignsFor aaguid h rows (AwaitAssertPresence a) = IsAssertionFor h.asked rows a
TaskSignsFor aaguid h rows (AwaitAssertSignature a counter signed) = IsAssertionFor h.asked rows a × (counter ≡ counter_of a.id rows)
    × (signed ≡ assertion_bytes a.rp a.presence counter ++ a.hash) × (a.presence ≡ true → h.granted ≡ true)
TaskSignsFor aaguid h rows task = Unit {0}

-- The bytes that the pending task signs, if any, belong to the newest request.
abbrev pub WorkSignsFor : (aaguid : List ℕ) → LatestRequests → List Row → Option PendingTask → Type 0
WorkSignsFor aaguid h rows None = Unit {0}
WorkSignsFor aaguid h rows (Some work) = TaskSignsFor aaguid h rows work.task

-- Each ID belongs to a credential of the RP.
abbrev pub AreRpCredentials : (rp : List ℕ) → List Row → List (List ℕ) → Type 0
AreRpCredentials rp rows ids = AllByRecursion (λ id. rp_id_hash_of id rows ≡ Some rp) ids

-- The pending assertions belong to the newest request.
abbrev pub PendingFor : Option ParsedRequest → List Row → Option PendingAssertions → Type 0
PendingFor asked rows None = Unit {0}
PendingFor asked rows (Some w) = (rp : List ℕ)
    × (assertion_asked asked ≡ Some (record { rp = rp; presence = w.presence; hash = w.hash })) × AreRpCredentials rp rows w.ids

-- If the pending assertions set the UP flag, the user consented.
abbrev pub IsGranted : (granted : Bool) → Option PendingAssertions → Type 0
IsGranted granted None = Unit {0}
IsGranted granted (Some w) = w.presence ≡ true → granted ≡ true

-- If the pending assertions set the UP flag, the user consented, or the task waits for user presence.
abbrev pub TaskGranted : (granted : Bool) → Option PendingAssertions → Task → Type 0
TaskGranted granted p (AwaitAssertPresence a) = Unit {0}
TaskGranted granted p task = IsGranted granted p

-- If the pending assertions set the UP flag, the user consented, or the pending task, if any, waits for user presence.
abbrev pub WorkGranted : (granted : Bool) → Option PendingAssertions → Option PendingTask → Type 0
WorkGranted granted p None = IsGranted granted p
WorkGranted granted p (Some work) = TaskGranted granted p work.task

-- The pending request, the pending assertions and the bytes to sign belong to the newest request, and the user
-- consented if UP is set.
pub record IsSigningFor (aaguid : List ℕ) (h : LatestRequests) (s : State) : Type 0 where
  pub pending : PendingFor h.asked s.rows s.pending
  pub granted : WorkGranted h.granted s.pending s.work
  pub work : WorkSignsFor aaguid h s.rows s.work
