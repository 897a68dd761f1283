-- The state of an authenticator between events, its events and its answers (CTAP 2.1, section 6).
use Rattle.std.specs.Prelude.{ℕ, ◌+◌, List, [], ◌∷◌, ◌++◌, Bool, Option, Some, None}
use Rattle.authn_core.specs.declared.replies.Presence.{Presence}
use Rattle.authn_core.specs.declared.replies.Presence.TheVariants.{Denied as UserDenied}
use Rattle.authn_core.specs.declared.refusal.Refusal.{Refusal}
use Rattle.authn_core.specs.declared.refusal.Refusal.TheVariants.{BadRequest, Cancelled, Denied, NoConsentInTime}
use Rattle.authn_core.specs.declared.refusal.Refusal.TheVariants.{TimedOut, Excluded, Full, KeyRefused, KeyIdTaken}
use Rattle.authn_core.specs.declared.refusal.Refusal.TheVariants.{SignatureRefused, NoCredential, CounterSpent}
use Rattle.authn_core.specs.declared.refusal.Refusal.TheVariants.{NothingPending, PendingElsewhere, NextTooLate}
use Rattle.authn_core.specs.declared.refusal.Refusal.TheVariants.{ResetTooLate}
use Rattle.cred_table.specs.declared.row.Row.{Row}
use Rattle.cred_table.specs.Rows.{PendingAssertions, rows_incremented, counter_of}
use Rattle.fido_authdata.specs.AuthData.{assertion_bytes}
use Rattle.authn_core.specs.declared.replies.NewKey.{NewKey}

-- ---- why a command is refused, and the status of its response (CTAP 2.1, section 8.2, "Status codes")

-- The status code of an error (CTAP 2.1, section 8.2).
abbrev pub status_of : Refusal → ℕ
status_of (BadRequest status) = status
status_of Cancelled = 0x2d  -- KEEPALIVE_CANCEL
status_of Denied = 0x27  -- OPERATION_DENIED
status_of NoConsentInTime = 0x27  -- OPERATION_DENIED
status_of TimedOut = 0x2f  -- USER_ACTION_TIMEOUT
status_of Excluded = 0x19  -- CREDENTIAL_EXCLUDED
status_of Full = 0x28  -- KEY_STORE_FULL
status_of KeyRefused = 0x7f  -- OTHER
status_of KeyIdTaken = 0x7f  -- OTHER
status_of SignatureRefused = 0x7f  -- OTHER
status_of (NoCredential listed) = 0x2e  -- NO_CREDENTIALS
status_of CounterSpent = 0x15  -- LIMIT_EXCEEDED
status_of NothingPending = 0x30  -- NOT_ALLOWED
status_of (PendingElsewhere channel) = 0x30  -- NOT_ALLOWED
status_of (NextTooLate since at) = 0x30  -- NOT_ALLOWED
status_of (ResetTooLate since at) = 0x30  -- NOT_ALLOWED

-- The error if the user refuses to create or use a credential, or doesn't react in time.
abbrev pub presence_refusal : Presence → Refusal
presence_refusal UserDenied = Denied
presence_refusal reply = NoConsentInTime

-- ---- the state between events, the events, and the answers

-- The configuration, which never changes: AAGUID, time of power-up in milliseconds, and capacity.
pub record Setup : Type 0 where
  pub aaguid : List ℕ
  pub began : ℕ
  pub capacity : ℕ

-- A credential to create: the client data hash, the RP ID hash, the user handle and name, and whether it is
-- discoverable.
pub record MakeState : Type 0 where
  pub hash : List ℕ
  pub rp : List ℕ
  pub user : List ℕ
  pub name : List ℕ
  pub discoverable : Bool

-- An assertion to sign. `number` is numberOfCredentials, if any.
pub record AssertState : Type 0 where
  pub hash : List ℕ
  pub rp : List ℕ
  pub id : List ℕ
  pub presence : Bool
  pub number : Option ℕ

-- What a pending request waits for: user presence, a key pair, or a signature.
pub data Task : Type 0 where
  AwaitResetPresence : Task
  AwaitSelectionPresence : Task
  AwaitMakePresence : MakeState → (excluded : Bool) → Task
  AwaitKeyPair : MakeState → Task
  AwaitMakeSignature : MakeState → NewKey → (signed : List ℕ) → Task
  AwaitAssertPresence : AssertState → Task
  AwaitAssertSignature : AssertState → (counter : ℕ) → (signed : List ℕ) → Task

-- The task and the channel of the pending request.
pub record PendingTask : Type 0 where
  pub cid : ℕ
  pub task : Task

-- The state that events change: the credentials, the pending assertions, and the pending request.
pub record State : Type 0 where
  pub rows : List Row
  pub pending : Option PendingAssertions
  pub work : Option PendingTask

-- An event. For a key or a signature, None is a refusal by the caller. A drop has no response.
pub data Event : Type 0 where
  Request : (cid : ℕ) → (bytes : List ℕ) → Event
  PresenceIs : Presence → Event
  KeyIs : Option NewKey → Event
  SignatureIs : Option (List ℕ) → Event
  Cancel : Event
  Drop : Event

-- The answer to an event: a response, a KEEPALIVE status while pending, or none.
pub data Answer : Type 0 where
  Answered : (bytes : List ℕ) → Answer
  Waits : (status : ℕ) → Answer
  Ignored : Answer
  Nothing : Answer

-- The result of an event: the new state, the answer, and the error, if any.
pub record TurnResult : Type 0 where
  pub state : State
  pub answer : Answer
  pub why : Option Refusal

-- The KEEPALIVE status of a task: 1 if it needs a key or a signature, 2 if it needs user presence (CTAP 2.1, section
-- 11.2.9.1.7).
abbrev pub status : Task → ℕ
status (AwaitKeyPair m) = 1
status (AwaitMakeSignature m key signed) = 1
status (AwaitAssertSignature a counter signed) = 1
status task = 2

-- ---- results that several commands return

-- Responds with these bytes, which ends the pending request.
abbrev pub respond : List Row → Option PendingAssertions → List ℕ → TurnResult
respond rows pending bytes =
    record { state = record { rows = rows; pending = pending; work = None }; answer = Answered bytes; why = None }

-- Responds with the status of this error, which ends the pending request.
abbrev pub respond_refusal : List Row → Option PendingAssertions → Refusal → TurnResult
respond_refusal rows pending why = record {
  state = record { rows = rows; pending = pending; work = None };
  answer = Answered (status_of why ∷ []);
  why = Some why;
}

-- Waits for the reply that the task needs: the request becomes or stays pending.
abbrev pub await_reply : List Row → Option PendingAssertions → (cid : ℕ) → Task → TurnResult
await_reply rows pending cid task =
    let work : PendingTask = record { cid = cid; task = task } in
    record {
      state = record { rows = rows; pending = pending; work = Some work };
      answer = Waits (status task);
      why = None;
    }

-- The result of an ignored event: nothing changes.
abbrev pub ignore_event : State → TurnResult
ignore_event s = record { state = s; answer = Ignored; why = None }

-- Increments the credential's signature counter, and waits for the signature (WebAuthn Level 2, section 6.3.3).
abbrev pub await_signature : List Row → Option PendingAssertions → (cid : ℕ) → AssertState → TurnResult
await_signature rows pending cid a =
    let counter = counter_of a.id rows + 1 in
    await_reply (rows_incremented a.id rows) pending cid (AwaitAssertSignature a counter (assertion_bytes a.rp a.presence counter ++ a.hash))
