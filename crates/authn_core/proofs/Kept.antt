-- Each turn, over every history, sends the response that the history names.
use Rattle.std.proofs.Common.{rules, ◌≡◌, ℕ, List, [], ◌∷◌, true, false, Option, None, option_map, Result, refl, sym}
use Rattle.std.proofs.Common.{arith, ◌≤◌, take, Some, Ok, length, ap, append-nil, append_assoc}
use Rattle.std.specs.Option.{option_or}
use Rattle.cred_table.specs.declared.row.Row.{Row}
use Rattle.cred_table.specs.Rows.{ValidRows, same_id, no_two}
use Rattle.ctap_message.specs.Requests.{ParsedRequest, GetInfo}
use Rattle.ctap_message.specs.Requests.{read_of}
use Rattle.authn_core.specs.State.{PendingTask, State, Event, Request, PresenceIs, KeyIs, SignatureIs, Cancel, Drop}
use Rattle.authn_core.specs.State.{Answer, Answered, Waits, TurnResult, status, Setup, Nothing, ignore_event}
use Rattle.authn_core.specs.Turn.{Start, first_state, request_turn, reply_turn, turn, CoreState, working_channel}
use Rattle.authn_core.specs.Turn.{core_after, core_answer}
use Rattle.authn_core.specs.Marks.{CredentialChange, apply_change, rows_among, TimedEvent, MayFollow, Orderly}
use Rattle.authn_core.specs.Marks.{core_at}
use Rattle.authn_core.specs.Turn.{WorkReady, IsConcatenation}
use Rattle.authn_core.specs.Views.{pending_work, wants_presence, wants_key, wants_signature}
use Rattle.authn_core.specs.Answers.{work_of_request, Exchange, PendingRequest, begin_pending_request, rows_after}
use Rattle.authn_core.specs.Answers.{pending_request, pending_after}
use Rattle.authn_core.specs.Answers.{AssertionSeries, continues_series, latest_series, begins_series}
use Rattle.authn_core.specs.Answers.{request_answer, requested_assertion, created_credential, resets_credentials}
use Rattle.authn_core.specs.Answers.{pending_reply_answer, incremented_credential, answer_to, credential_change}
use Rattle.authn_core.specs.Answers.{exchange, exchanges}
use Rattle.authn_core.proofs.Histories.{rows_marked, core_sound, none_later, mark_keeps}
use Rattle.authn_core.proofs.Served.{request_served, WorkTold, reply_answers, made_same, reply_rows, reply_waits}
use Rattle.authn_core.proofs.Served.{PendingTold, reply_goes, assertion_of_read, asked_read, BeginsTold, series_begun}
use Rattle.authn_core.proofs.Served.{next_goes_on, since_too}
use Rattle.std.proofs.Math.Seq.{take-append_seam}
use Rattle.ctap_message.specs.Responses.{info_answer}
use Rattle.authn_core.specs.declared.replies.Presence.{Presence}
use Rattle.authn_core.specs.declared.replies.NewKey.{NewKey}
use Rattle.ctap_cbor.specs.Grammar.{AreBytes, head}
use Rattle.ctap_cbor.specs.Grammar.{IsCanonical, IsLawful, encode_tree}
use Rattle.fido_authdata.specs.AuthData.{cose_key_bytes}
use Rattle.authn_core.specs.Views.{cose_key_tree}

-- ---- each turn, over every history, answers what happened names

-- ---- replies, where there is work or none

abbrev pub reply_did : Start → Option PendingRequest → Event → Answer → CredentialChange
reply_did start o e answer =
    record { made = created_credential o e; raises = incremented_credential (requested_assertion start o) answer; resets = resets_credentials o e }

pub any_reply_answers : (start : Start) (past : List Exchange) (s : State) (at : ℕ) (w : Option PendingTask)
    (o : Option PendingRequest) (e : Event)
    → s.rows ≡ rows_after start past → WorkTold start s.rows w o
    → (reply_turn (first_state start).setup s at w e).answer ≡ pending_reply_answer start past o e
any_reply_answers start past s at w o e r h = search (rules, arith, reply_answers)

pub any_reply_rows : (start : Start) (s : State) (at : ℕ) (w : Option PendingTask) (o : Option PendingRequest) (e : Event)
    → WorkTold start s.rows w o → let t = reply_turn (first_state start).setup s at w e in
    t.state.rows ≡ apply_change (reply_did start o e t.answer) s.rows
any_reply_rows start s at w o e h = grind (arith, made_same, mark_keeps, reply_rows)

-- a reply is not a request
abbrev pub IsReply : Event → Type 0
IsReply (PresenceIs reply) = Unit {0}
IsReply (KeyIs key) = Unit {0}
IsReply (SignatureIs sig) = Unit {0}
IsReply e = ⊥

pub any_reply_waits : (start : Start) (past : List Exchange) (s : State) (at : ℕ) (w : Option PendingTask)
    (o : Option PendingRequest) (e : Event)
    → IsReply e → s.work ≡ w → WorkReady start.capacity s.rows w → WorkTold start s.rows w o
    → let t = reply_turn (first_state start).setup s at w e in
    WorkTold start t.state.rows t.state.work (pending_after e t.answer past o)
any_reply_waits start past s at w o e i k r h = grind (arith, reply_waits)

pub reply_since : (start : Start) (s : State) (at : ℕ) (w : Option PendingTask) (o : Option AssertionSeries) (e : Event)
    (m : CredentialChange)
    → IsReply e → s.work ≡ w → PendingTold start s o
    → let t = reply_turn (first_state start).setup s at w e in
    PendingTold start t.state (since_too (record { at = at; event = e; answer = t.answer; did = m }) o)
reply_since start s at w o e m i k p = grind (arith, reply_goes)

pub any_reply_goes : (start : Start) (past : List Exchange) (s : State) (at : ℕ) (w : Option PendingTask)
    (o : Option AssertionSeries)
    (e : Event) (m : CredentialChange)
    → IsReply e → s.work ≡ w → PendingTold start s o
    → let t = reply_turn (first_state start).setup s at w e in
    PendingTold start t.state (option_or (begins_series e t.answer past)
    (since_too (record { at = at; event = e; answer = t.answer; did = m }) o))
any_reply_goes start past s at w o e m i k p = grind (arith, reply_since)

-- ---- turns

-- A turn was taken: its answer, its rows, what waits and what is pending.
pub record Kept (start : Start) (past : List Exchange) (at : ℕ) (e : Event) (t : TurnResult) : Type 0 where
  pub answer : t.answer ≡ answer_to start past at e
  pub rows : t.state.rows ≡ apply_change (credential_change start past e t.answer) (rows_after start past)
  pub work : WorkTold start t.state.rows t.state.work (pending_after e t.answer past (pending_request past))
  pub pending : PendingTold start t.state (option_or (begins_series e t.answer past)
      (since_too (record { at = at; event = e; answer = t.answer; did = credential_change start past e t.answer }) (latest_series past)))

pub reply_kept : (start : Start) (past : List Exchange) (s : State) (at : ℕ) (e : Event) → IsReply e
    → s.rows ≡ rows_after start past → WorkTold start s.rows s.work (pending_request past) →
    PendingTold start s (latest_series past)
    → WorkReady start.capacity s.rows s.work → Kept start past at e (reply_turn (first_state start).setup s at s.work e)
unfolding answer_to
reply_kept start past s at e i r w p k =
    grind (arith, any_reply_answers, any_reply_goes, any_reply_rows, any_reply_waits)

-- a request is answered, or waits
abbrev pub IsTaken : Answer → Type 0
IsTaken (Answered bytes) = Unit {0}
IsTaken (Waits status) = Unit {0}
IsTaken answer = ⊥

pub request_taken : (start : Start) (past : List Exchange) (at cid : ℕ) (read : Result ParsedRequest ℕ) →
    IsTaken (request_answer start past at cid read)
request_taken start past at cid read = grind arith

pub made_none : (o : Option PendingRequest) (cid : ℕ) (bytes : List ℕ) → created_credential o (Request cid bytes) ≡ None
made_none o cid bytes = grind arith

pub resets_none : (o : Option PendingRequest) (cid : ℕ) (bytes : List ℕ) → resets_credentials o (Request cid bytes) ≡ false
resets_none o cid bytes = grind arith

pub begins_so : (start : Start) (past : List Exchange) (rows : List Row) (w : Option PendingTask) (cid : ℕ)
    (bytes : List ℕ)
    (o : Option PendingRequest) (answer : Answer)
    → IsTaken answer → BeginsTold rows w cid (read_of bytes) (assertion_of_read start past (read_of bytes)) answer
    → WorkTold start rows w (pending_after (Request cid bytes) answer past o)
begins_so start past rows w cid bytes o answer i h = grind arith

pub goes_so : (cid : ℕ) (bytes : List ℕ) (answer : Answer) → IsTaken answer
    → continues_series (Request cid bytes) answer ≡ next_goes_on (read_of bytes) answer
goes_so cid bytes answer i = grind arith

pub begun_so : (cid : ℕ) (bytes : List ℕ) (answer : Answer) (past : List Exchange)
    → begins_series (Request cid bytes) answer past ≡ series_begun cid past (read_of bytes) answer
begun_so cid bytes answer past = grind arith

pub request_kept : (start : Start) (past : List Exchange) (s : State) (at cid : ℕ) (bytes : List ℕ) → s.work ≡ None
    → s.rows ≡ rows_after start past → PendingTold start s (latest_series past) → no_two same_id s.rows ≡ true
    → Kept start past at (Request cid bytes) (request_turn (first_state start).setup s.rows s.pending at cid
    (read_of bytes))
unfolding answer_to
request_kept start past s at cid bytes w r p d =
    let t = request_turn (first_state start).setup s.rows s.pending at cid (read_of bytes) in
    let v = request_served start past s at cid (read_of bytes) w r p d in
    let i : IsTaken t.answer = rw v.answer (request_taken start past at cid (read_of bytes)) in
    record {
      answer = v.answer;
      rows = rw (
        made_none (begin_pending_request cid 0 past (read_of bytes)) cid bytes,
        resets_none (begin_pending_request cid 0 past (read_of bytes)) cid bytes,
        asked_read start past cid 0 (read_of bytes),
        ← r,
      ) v.rows;
      work = begins_so start past t.state.rows t.state.work cid bytes (pending_request past) t.answer i v.work;
      pending = rw (begun_so cid bytes t.answer past)
          (v.pending (record { at = at; event = Request cid bytes; answer = t.answer; did = credential_change start past (Request cid bytes) t.answer }) refl
          (goes_so cid bytes t.answer i));
    }

pub turn_kept : (start : Start) (past : List Exchange) (s : State) (at : ℕ) (e : Event) → MayFollow s.work e
    → s.rows ≡ rows_after start past → WorkTold start s.rows s.work (pending_request past) →
    PendingTold start s (latest_series past)
    → WorkReady start.capacity s.rows s.work → no_two same_id s.rows ≡ true →
    Kept start past at e (turn (first_state start).setup s at e)
unfolding turn answer_to
turn_kept start past s at (Request cid bytes) c r w p k d = request_kept start past s at cid bytes c r p d
turn_kept start past s at Cancel c r w p k d = grind (arith, mark_keeps)
turn_kept start past s at Drop c r w p k d = grind (arith, mark_keeps)
turn_kept start past s at (PresenceIs reply) c r w p k d = reply_kept start past s at (PresenceIs reply) tt r w p k
turn_kept start past s at (KeyIs key) c r w p k d = reply_kept start past s at (KeyIs key) tt r w p k
turn_kept start past s at (SignatureIs sig) c r w p k d = reply_kept start past s at (SignatureIs sig) tt r w p k

-- ---- histories

-- what holds of an authenticator after what happened
pub record Told (start : Start) (s : State) (past : List Exchange) : Type 0 where
  pub rows : s.rows ≡ rows_after start past
  pub work : WorkTold start s.rows s.work (pending_request past)
  pub pending : PendingTold start s (latest_series past)

pub no_rows : (start : Start) → start.rows ≡ rows_after start []
unfolding rows_among
no_rows start = sym (none_later start.rows)

pub one_told : (start : Start) (past : List Exchange) (at : ℕ) (e : Event) (t : TurnResult) → Kept start past at e t
    → Told start t.state (exchange start past at e ∷ past)
unfolding pending_request latest_series
one_told start past at e t k = search (rules, arith, rows_marked)

pub turn_at : (start : Start) (h : List TimedEvent) (x : TimedEvent) → ValidRows start.capacity start.rows →
    Orderly (first_state start) (x ∷ h)
    → Told start (core_at (first_state start) h).state (exchanges start h)
    → Kept start (exchanges start h) x.at x.event (turn (core_at (first_state start) h).setup
    (core_at (first_state start) h).state x.at x.event)
unfolding Orderly
turn_at start h x l o g =
    let c = core_at (first_state start) h in
    let s = core_sound (first_state start) h (record { pending = tt; work = tt }) l in
    rw s.setup (turn_kept start (exchanges start h) c.state x.at x.event o.0 g.rows g.work g.pending
    (rw s.setup at s.ready.work) s.lawful.distinct)

pub told_at : (start : Start) (h : List TimedEvent) → ValidRows start.capacity start.rows → Orderly (first_state start) h
    → Told start (core_at (first_state start) h).state (exchanges start h)
unfolding core_at exchanges Orderly pending_request latest_series
told_at start [] l o = record { rows = no_rows start; work = refl; pending = refl }
told_at start (x ∷ past) l o = grind (arith, one_told, turn_at, told_at start past l)

-- what waits, to the transport
pub waits_told : (start : Start) (past : List Exchange) (s : State) (o : Option PendingRequest) →
    WorkTold start s.rows s.work o
    → option_map pending_work s.work ≡ work_of_request o
waits_told start past s o h = search (rules, arith)

-- ---- all that the transport needs to know of the authenticator

-- A reply that the waiting work doesn't need leaves the state, and is answered by nothing.
pub presence_ignored : (u : Setup) (s : State) (t : ℕ) (p : Presence) → wants_presence s.work ≡ false
    → turn u s t (PresenceIs p) ≡ ignore_event s
presence_ignored u s t p h = unfold turn in grind arith

pub key_ignored : (u : Setup) (s : State) (t : ℕ) (key : Option NewKey) → wants_key s.work ≡ false
    → turn u s t (KeyIs key) ≡ ignore_event s
key_ignored u s t key h = unfold turn in grind arith

pub signature_ignored : (u : Setup) (s : State) (t : ℕ) (sig : Option (List ℕ)) → wants_signature s.work ≡ false
    → turn u s t (SignatureIs sig) ≡ ignore_event s
signature_ignored u s t sig h = unfold turn in grind arith

-- ---- with channels that were given out

-- a channel that was given out, where something is on one
abbrev pub IsGiven : ℕ → Option ℕ → Type 0
IsGiven given None = Unit {0}
IsGiven given (Some cid) = (1 ≤ cid) × (cid ≤ given)

-- a request comes on a channel that was given out
abbrev pub EventIsGiven : ℕ → Event → Type 0
EventIsGiven given (Request cid bytes) = (1 ≤ cid) × (cid ≤ given)
EventIsGiven given e = Unit {0}

-- Work is on the channel that it was on, or on the request's.
pub work_stays_given : (given : ℕ) (core : CoreState) (at : ℕ) (e : Event) → IsGiven given (working_channel core)
    → EventIsGiven given e
    → IsGiven given (working_channel (core_after core at e))
work_stays_given given core at e w h = unfold turn in grind arith

-- A drop of an authenticator answers nothing.
pub drop_answers_nothing : (core : CoreState) (at : ℕ) → core_answer core at Drop ≡ Nothing
drop_answers_nothing core at = unfold turn in refl

-- authenticatorGetInfo is answered by its map, with the AAGUID.
pub info_answered : (core : CoreState) (at cid : ℕ) (bytes : List ℕ) → read_of bytes ≡ Ok GetInfo
    → core_answer core at (Request cid bytes) ≡ Answered (info_answer core.setup.aaguid)
info_answered core at cid bytes asks = unfold turn in cc

-- The authenticator data are the front of what is signed.
pub data_signed : {signed front hash : List ℕ} {n : ℕ} (bytes : List ℕ) → bytes ≡ signed → IsConcatenation signed front hash n
    → take n bytes ≡ front
data_signed {front = front} {hash = hash} bytes same j = rw (same, j.bytes, ← j.len) (take-append_seam front hash)

-- ---- a COSE key's bytes are the encoding of its map

-- the head of a byte string of 32 bytes
of_32 : (x : List ℕ) → length x ≡ 32 → head 2 (length x) ≡ 0x58 ∷ 0x20 ∷ []
unfolding head
of_32 x e = rw e refl

spelled : (x y : List ℕ) → length x ≡ 32 → length y ≡ 32 → cose_key_bytes x y ≡ encode_tree (cose_key_tree x y)
unfolding head
spelled x y ex ey =
    rw (of_32 x ex, of_32 y ey, append-nil y)
    (ap (λ rest. 165 ∷ 1 ∷ 2 ∷ 3 ∷ 38 ∷ 32 ∷ 1 ∷ 33 ∷ 88 ∷ 32 ∷ rest) (append_assoc x (34 ∷ 88 ∷ 32 ∷ []) y))

lawful : (x y : List ℕ) → length x ≡ 32 → length y ≡ 32 → AreBytes x → AreBytes y → IsLawful (cose_key_tree x y)
unfolding head
lawful x y ex ey bx by = (
  omega arith,
  (tt, tt, (tt, refl, (tt, refl, (tt, refl, (tt, refl, tt))))),
  (omega arith, omega arith, (omega arith, omega arith, (omega arith, omega arith, (omega arith, (omega arith, bx), (omega arith, (omega arith, by), tt))))),
)

pub canonical : (x y : List ℕ) → length x ≡ 32 → length y ≡ 32 → AreBytes x → AreBytes y →
    IsCanonical (cose_key_tree x y) (cose_key_bytes x y)
canonical x y ex ey bx by =
    record { enc = record { lawful = lawful x y ex ey bx by; spelled = spelled x y ex ey }; flat = omega arith }
