-- Converts the code's types to the specification's types.
use Rattle.std.specs.Prelude.{ℕ, List, pos, negsuc, ◌≡◌, max, min, Bool, true, false, Option, Some, None, ◌≤◌, length}
use Rattle.std.specs.Prelude.{◌-◌, ◌++◌, take, drop, replicate}
use Rattle.ctap_cbor.specs.Tree.{Int, Bytes, Tree, Plain, Map, no_pairs, pair}
use Rattle.authn_core.specs.declared.authenticator.Turn.{Turn}
use Rattle.authn_core.specs.declared.authenticator.Need.{Need}
use Rattle.authn_core.specs.declared.refusal.Refusal.{Refusal}
use Rattle.authn_core.specs.declared.work.KeepaliveStatus.{KeepaliveStatus}
use Rattle.authn_core.specs.declared.work.KeepaliveStatus.TheVariants.{Processing, PresenceNeeded}
use Rattle.authn_core.specs.declared.work.Work.{Work as WaitingWork}
use Rattle.authn_core.specs.declared.event.Event.{Event as Happening}
use Rattle.ctap_message.specs.Requests.{steps_of, MAX_STEPS}
use Rattle.authn_core.specs.Turn.{Work, CoreContents, Start, core_after, core_answer, first_state}
use Rattle.authn_core.specs.declared.task.MakeState.{MakeState as MakingKept}
use Rattle.authn_core.specs.declared.task.AssertState.{AssertState as AssertingKept}
use Rattle.authn_core.specs.declared.task.Task.{Task as TaskKept}
use Rattle.authn_core.specs.declared.task.PendingTask.{PendingTask as ChannelTaskKept}
use Rattle.authn_core.specs.State.{MakeState, AssertState, Task, AwaitResetPresence, AwaitSelectionPresence}
use Rattle.authn_core.specs.State.{AwaitMakePresence, AwaitKeyPair, AwaitMakeSignature, AwaitAssertPresence}
use Rattle.authn_core.specs.State.{AwaitAssertSignature, PendingTask, Event, Request, PresenceIs, KeyIs, SignatureIs}
use Rattle.authn_core.specs.State.{Cancel, Drop, Answer, Answered, Waits, Ignored, Nothing, TurnResult, status}
use Rattle.std.proofs.Common.{ap, ◌∙◌, sym, arith}
use Rattle.std.proofs.lemmas.List.{take-append-drop, length-take-le}
use Rattle.authn_core.specs.declared.by_value.Turn.{Turn as TurnByValue}
use Rattle.authn_core.specs.declared.authenticator.Turn.TheVariants as turns
use Rattle.authn_core.specs.declared.authenticator.Need.TheVariants as need
use Rattle.authn_core.specs.declared.event.Event.TheVariants as happening
use Rattle.authn_core.specs.declared.task.Task.TheVariants as kept
use Rattle.authn_core.specs.declared.by_value.Turn.TheVariants as turns_by_value

-- ---- the public key of an ES256 credential as a CBOR map (RFC 8152, sections 7.1, 8.1 and 13.1.1)

-- The COSE key {1: 2, 3: -7, -1: 1, -2: x, -3: y}. `negsuc n` is the integer -1 - n.
abbrev pub cose_key_tree : (x y : List ℕ) → Tree
cose_key_tree x y =
    Map (pair (Plain (Int (pos 1))) (Plain (Int (pos 2)))
    (pair (Plain (Int (pos 3))) (Plain (Int (negsuc 6)))
    (pair (Plain (Int (negsuc 0))) (Plain (Int (pos 1)))
    (pair (Plain (Int (negsuc 1))) (Plain (Bytes x))
    (pair (Plain (Int (negsuc 2))) (Plain (Bytes y)) no_pairs)))))

-- ---- the code's tasks, events and answers

-- The KEEPALIVE status as a byte.
abbrev pub status_number : KeepaliveStatus → ℕ
status_number Processing = 1
status_number PresenceNeeded = 2

-- Converts the code's state of a registration to `MakeState`.
abbrev pub to_make_state : MakingKept → MakeState
to_make_state m = record { hash = m.hash; rp = m.rp; user = m.user.items; name = m.name; discoverable = m.discoverable }

-- Converts the code's state of an assertion to `AssertState`.
abbrev pub to_assert_state : AssertingKept → AssertState
to_assert_state a = record { hash = a.hash; rp = a.rp; id = a.id; presence = a.presence; number = a.number }

-- Converts the code's task to `Task`.
abbrev pub to_task : TaskKept → Task
to_task kept.AwaitResetPresence = AwaitResetPresence
to_task kept.AwaitSelectionPresence = AwaitSelectionPresence
to_task (kept.AwaitMakePresence m excluded) = AwaitMakePresence (to_make_state m) excluded
to_task (kept.AwaitKeyPair m) = AwaitKeyPair (to_make_state m)
to_task (kept.AwaitMakeSignature m k signed) = AwaitMakeSignature (to_make_state m) k signed.items
to_task (kept.AwaitAssertPresence a) = AwaitAssertPresence (to_assert_state a)
to_task (kept.AwaitAssertSignature a counter signed) = AwaitAssertSignature (to_assert_state a) counter signed.items

-- Converts the code's pending task, with its channel, to `PendingTask`.
abbrev pub to_pending_task : ChannelTaskKept → PendingTask
to_pending_task w = record { cid = w.cid; task = to_task w.task }

-- The channel and KEEPALIVE status of a pending task. The transport needs nothing else.
abbrev pub pending_work : PendingTask → Work
pending_work work = record { cid = work.cid; status = status work.task }

-- Converts the code's pending request to `Work`: its channel and KEEPALIVE status.
abbrev pub to_work : WaitingWork → Work
to_work w = record { cid = w.cid; status = status_number w.status }

-- Converts the code's `Turn`, with the bytes of the response, to an `Answer`.
abbrev pub to_answer : Turn → List ℕ → Answer
to_answer turns.Answer bytes = Answered bytes
to_answer (turns.Refuses why) bytes = Answered bytes
to_answer (turns.Waits status) bytes = Waits (status_number status)
to_answer turns.Ignored bytes = Ignored
to_answer turns.Nothing bytes = Nothing

-- The error of the code's `Turn`, if any.
abbrev pub refusal_of : Turn → Option Refusal
refusal_of (turns.Refuses why) = Some why
refusal_of turn = None

-- Converts the code's event to `Event`.
abbrev pub to_event : Happening → Event
to_event (happening.Request cid message) = Request cid message.now
to_event (happening.Presence reply) = PresenceIs reply
to_event (happening.Key key) = KeyIs key.now
to_event (happening.Signature signature) = SignatureIs signature.now
to_event happening.Cancel = Cancel
to_event happening.Drop = Drop

-- The number of steps of parsing the last request, after an event.
abbrev pub steps_after : ℕ → Event → ℕ
steps_after steps (Request cid bytes) = min (steps_of bytes) MAX_STEPS
steps_after steps e = steps

-- The code handled an event: the new state and the answer are those that `turn` defines at the latest timestamp.
pub record IsTurn (old new : CoreContents) (said : Answer) (at : ℕ) (e : Event) : Type 0 where
  pub core : new.core ≡ core_after old.core (max old.latest at) e
  pub answer : said ≡ core_answer old.core (max old.latest at) e
  pub latest : new.latest ≡ max old.latest at
  pub steps : new.last_steps ≡ steps_after old.last_steps e

-- The authenticator at the start.
abbrev pub first_contents : Start → CoreContents
first_contents start = record { core = first_state start; latest = start.moment; last_steps = 0 }

-- The authenticator with another timestamp and step count.
abbrev pub with_time_and_steps : CoreContents → (latest last_steps : ℕ) → CoreContents
with_time_and_steps v latest last_steps = record { core = v.core; latest = latest; last_steps = last_steps }

-- The authenticator with the state of this result.
abbrev pub with_turn : CoreContents → TurnResult → CoreContents
with_turn v t = record {
  core = record { setup = v.core.setup; state = t.state };
  latest = v.latest;
  last_steps = v.last_steps;
}

-- The code's state, answer and error are those of this result. The rest of the authenticator is unchanged.
abbrev pub TakesTurn : (old new : CoreContents) → Turn → List ℕ → TurnResult → Type 0
TakesTurn old new result bytes t = (new ≡ with_turn old t) × (to_answer result bytes ≡ t.answer) × (refusal_of result ≡ t.why)

-- The code's state is that of this result, in which the request is pending with this KEEPALIVE status.
abbrev pub TakesWork : (old new : CoreContents) → KeepaliveStatus → TurnResult → Type 0
TakesWork old new result t = (new ≡ with_turn old t) × (Waits (status_number result) ≡ t.answer) × (None ≡ t.why)

-- What the pending request needs from the caller: nothing, user presence, a key pair, or a signature.
pub data Needed : Type 0 where
  nothing : Needed
  presence : Needed
  key : Needed
  -- A signature over the bytes `signed` by the credential `id`.
  sign : (id signed : List ℕ) → Needed

-- What the task needs from the caller.
abbrev pub task_needs : Task → Needed
task_needs AwaitResetPresence = presence
task_needs AwaitSelectionPresence = presence
task_needs (AwaitMakePresence m excluded) = presence
task_needs (AwaitAssertPresence a) = presence
task_needs (AwaitKeyPair m) = key
task_needs (AwaitMakeSignature m k signed) = sign k.id signed
task_needs (AwaitAssertSignature a counter signed) = sign a.id signed

-- What the pending task, if any, needs from the caller.
abbrev pub needs : Option PendingTask → Needed
needs None = nothing
needs (Some work) = task_needs work.task

-- Converts what the code needs from the caller to `Needed`.
abbrev pub to_needed : Need → Needed
to_needed need.None = nothing
to_needed need.Presence = presence
to_needed need.Key = key
to_needed (need.Sign id signed) = sign id.now signed.now

-- Whether user presence is needed.
abbrev pub is_presence : Needed → Bool
is_presence presence = true
is_presence n = false

-- Whether a key pair is needed.
abbrev pub is_key : Needed → Bool
is_key key = true
is_key n = false

-- Whether a signature is needed.
abbrev pub is_sign : Needed → Bool
is_sign (sign id signed) = true
is_sign n = false

-- Whether the pending task needs user presence.
abbrev pub wants_presence : Option PendingTask → Bool
wants_presence work = is_presence (needs work)

-- Whether the pending task needs a key pair.
abbrev pub wants_key : Option PendingTask → Bool
wants_key work = is_key (needs work)

-- Whether the pending task needs a signature.
abbrev pub wants_signature : Option PendingTask → Bool
wants_signature work = is_sign (needs work)

-- ---- the lengths of the credential ID and of the bytes to sign, when a signature is needed

-- If a signature is needed, the credential ID has 32 bytes, and at most 196 bytes are to be signed.
abbrev pub IsValidNeed : Needed → Type 0
IsValidNeed nothing = Unit {0}
IsValidNeed presence = Unit {0}
IsValidNeed key = Unit {0}
IsValidNeed (sign id signed) = (length id ≡ 32) × (length signed ≤ 196)

-- ---- the results of the module `by_value` as answers of the specification

-- Converts the code's `Turn` to an `Answer`.
abbrev pub valued_answer : TurnByValue → Answer
valued_answer (turns_by_value.Answer response) = Answered response.items
valued_answer (turns_by_value.Waits status) = Waits status
valued_answer turns_by_value.Ignored = Ignored

-- Replaces the answer to a dropped request by `Ignored`: neither has a response.
abbrev pub without_drops : Answer → Answer
without_drops Nothing = Ignored
without_drops answer = answer

-- Like `IsTurn`, for the module `by_value`, whose answer to a dropped request is `Ignored`.
abbrev pub IsTurnByValue : (old new : CoreContents) → TurnByValue → (at : ℕ) → Event → Type 0
IsTurnByValue old new result at e = IsTurn old new (core_answer old.core (max old.latest at) e) at e
    × (valued_answer result ≡ without_drops (core_answer old.core (max old.latest at) e))
