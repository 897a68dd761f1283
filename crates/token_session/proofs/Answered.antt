-- What a history sends follows from it without a state, by the laws of the authenticator.
use Rattle.std.proofs.Common.{rules, ◌≡◌, ℕ, ◌≤◌, ◌⊎◌, true, nat_le, List, [], ◌∷◌, ◌++◌, length, Option, take, Some}
use Rattle.std.proofs.Common.{None, option_map, Ok, refl, sym, ◌∙◌, ap, arith, ◌+◌}
use Rattle.std.proofs.lemmas.Bool.Decides.{nat_tests}
use Rattle.ctap_message.specs.Responses.{info_answer}
use Rattle.ctap_message.specs.Requests.{GetInfo, ParsedRequest}
use Rattle.ctap_message.specs.Requests.{read_of}
use Rattle.authn_core.specs.State.{Request, PendingTask, Event, SignatureIs, Answer, Answered}
use Rattle.authn_core.proofs.Kept.{info_answered}
use Rattle.authn_core.specs.Turn.{Start, working_channel, waiting, CoreState, Work, first_state, core_answer}
use Rattle.hid_assemble.specs.Table.{Open, PacketClass, packet_class}
use Rattle.hid_assemble.specs.Assembly.{Message, message_after}
use Rattle.hid_packet.specs.Message.{Carries, joined_data}
use Rattle.hid_packet.specs.Packet.{CBOR, PING}
use Rattle.hid_packet.specs.declared.packet.Packet.{Packet as Packet64}
use Rattle.hid_packet.specs.Message.{message_packets}
use Rattle.hid_packet.specs.Packet.{Fields, fields, message_length}
use Rattle.token_session.specs.Inputs.{ReceivedInput, latest_time, channels_allocated}
use Rattle.token_session.specs.Machine.{verdict_event, verdict_packets}
use Rattle.token_session.specs.Inputs.{message_completed_at, completed_message, open_at, to_open}
use Rattle.token_session.specs.History.{admits, core, event, receive, received, packet_event, service_packets}
use Rattle.token_session.specs.History.{table_packets, time_packets, last_keepalive, sent, sent_at}
use Rattle.token_session.specs.Machine.{event_packets}
use Rattle.token_session.proofs.Serve.{serves}
use Rattle.hid_assemble.specs.Verdicts.{class_verdict}
use Rattle.hid_assemble.specs.declared.verdict.Verdict.{Verdict}
use Rattle.token_session.specs.Machine.{answer_packets, response_channel, ping_packets, status_of}
use Rattle.token_session.specs.declared.input.Input.{Input}
use Rattle.token_session.specs.declared.input.Input.TheVariants.{Packet, Signature}
use Rattle.token_session.specs.declared.input.Timed.{Timed}
use Rattle.token_session.proofs.Follows.{Good, good_judged, judged_at, safe_at, EventGiven, event_given}
use Rattle.authn_core.specs.Views.{pending_work, needs, sign}
use Rattle.authn_core.specs.Turn.{Ready}
use Rattle.authn_core.specs.Signed.{IsSigned}
use Rattle.authn_core.specs.Marks.{TimedEvent, Orderly, core_at}
use Rattle.token_session.specs.Answered.{timed_event, steps}
use Rattle.token_session.specs.Answered.{latest_requests, IsAnsweredBy}
use mathlib.Core.List.{append_cancel_left}
use Rattle.authn_core.specs.Answers.{answer_to, exchanges}
use Rattle.authn_core.specs.Answers.{Exchange}
use Rattle.token_session.specs.History.{event_at, with_input_number, sent_from, sent_now}
use Rattle.token_session.specs.Answered.{received_input, received_inputs, pending_work_of, with_event, exchanges_of}
use Rattle.token_session.specs.Answered.{response_packets, input_packets, timer_packets, last_keepalive_at}
use Rattle.token_session.specs.Answered.{packets_sent, packets_sent_now, packets_sent_from, AgreesWithExchanges}

-- ---- a finished CBOR message is a request, and its answer is all that is sent for it

-- A finished message's row sends nothing of its own, and a request is its event.
record Asks (m : Message) (v : Verdict) : Type 0 where
  quiet : verdict_packets v m.bytes ≡ []
  asks : verdict_event v m.bytes ≡ Some (Request m.cid m.bytes)

asked : (g : ℕ) (w : Option ℕ) (o : Option Open) (f : Fields) (m : Message) (r : PacketClass)
    → message_after o f r ≡ Some m → m.cmd ≡ CBOR
    → Asks m (class_verdict g o w f (Some m) r)
unfolding message_after class_verdict
asked g w o f m r h is = record { quiet = grind (arith, nat_tests); asks = grind (arith, nat_tests) }

request_at : (start : Start) (t : ℕ) (h : List ReceivedInput) (i : Input) (m : Message) → Good start h → latest_time start h ≤ t
    → completed_message (open_at h t) (judged_at start t h i).admitted i ≡ Some m → m.cmd ≡ CBOR
    → service_packets start (judged_at start t h i) h ≡ event_packets (core start h) t (Some (Request m.cid m.bytes))
unfolding service_packets event completed_message
request_at start t h (Packet x) m good le fin is =
    let g = channels_allocated h in
    let o = open_at h t in
    let w = working_channel (core start h) in
    let row = packet_class g (option_map to_open o) w (fields x.0) in
    let s = serves g o w t x (safe_at start t h good le) in
    let after : message_after (option_map to_open o) (fields x.0) row ≡ Some m = sym s.message ∙ fin in
    let a = asked g w (option_map to_open o) (fields x.0) m row after is in
    let sends : table_packets g o w (Packet x) ++ ping_packets (Some m) ≡ [] = rw after at s.packets ∙ a.quiet in
    let asks : packet_event w (Some m) x.0 ≡ Some (Request m.cid m.bytes) = rw after at s.event ∙ a.asks in
    rw (fin, sends, asks) refl
request_at start t h other m good le fin is = cc

-- The AAGUID after every history is that of the start.
pub core_aaguid : (start : Start) (h : List ReceivedInput) → (core start h).setup.aaguid ≡ start.aaguid
unfolding core
core_aaguid start [] = refl
core_aaguid start (e ∷ h) = search (rules, arith, core_aaguid start h)

-- A request is answered on its channel, as the authenticator's turn says.
pub requests_answered : (start : Start) (h : List Timed) (x : Timed) (m : Message)
    → message_completed_at (receive start x (received start h)) (received start h) ≡ Some m → m.cmd ≡ CBOR
    → service_packets start (receive start x (received start h)) (received start h)
    ≡ event_packets (core start (received start h)) (receive start x (received start h)).at (Some (Request m.cid m.bytes))
unfolding receive
requests_answered start h x m fin is = grind (arith, good_judged, request_at)

pub info_is_answered : (start : Start) (h : List Timed) (x : Timed) (m : Message)
    → message_completed_at (receive start x (received start h)) (received start h) ≡ Some m → m.cmd ≡ CBOR → m.bytes ≡ 0x04 ∷ []
    → service_packets start (receive start x (received start h)) (received start h)
    ≡ message_packets m.cid CBOR (info_answer start.aaguid)
unfolding answer_packets read_of
info_is_answered start h x m fin is bytes =
    let past = received start h in
    let k = core start past in
    let t = (receive start x past).at in
    let asks : read_of m.bytes ≡ Ok GetInfo = ap read_of bytes in
    requests_answered start h x m fin is
    ∙ ap (answer_packets (response_channel (waiting k) (Request m.cid m.bytes)) (status_of (waiting k)))
    (info_answered k t m.cid m.bytes asks)
    ∙ ap (λ aaguid. message_packets m.cid CBOR (info_answer aaguid)) (core_aaguid start past)

-- A packet that begins such a message is admitted where nothing is open and no work waits.
pub admitted_first : (g c k : ℕ) (p : List ℕ) (others : List (List ℕ)) (b : List ℕ) → Carries p others c k b
    → (k ≡ PING) ⊎ ((k ≡ CBOR) × (1 ≤ length b)) → 1 ≤ c → c ≤ g
    → admits g None None p ≡ true
unfolding admits
admitted_first g c k p others b carries served low high = grind (arith, nat_tests)

-- one that carries a whole message finishes it
pub one_packet_finishes : (start : Start) (h : List Timed) (x : Timed) (p : Packet64) (c k : ℕ) (b : List ℕ)
    → x.input ≡ Packet p
    → Carries p.0 [] c k b
    → (k ≡ PING) ⊎ ((k ≡ CBOR) × (1 ≤ length b)) → 1 ≤ c → c ≤ channels_allocated (received start h)
    → open_at (received start h) (receive start x (received start h)).at ≡ None → working_channel (core start (received start h)) ≡ None
    → message_completed_at (receive start x (received start h)) (received start h) ≡ Some (record { cid = c; cmd = k; bytes = b })
unfolding receive completed_message
one_packet_finishes start h x p c k b came carries served low high none idle =
    let least = carries.least in
    let n = carries.counts in
    let few : nat_le (message_length p.0) 57 ≡ true = grind (arith, nat_tests) in
    rw (came, none, idle, admitted_first (channels_allocated (received start h)) c k p.0 [] b carries served low high, few)
    (λ i. Some (record { cid = carries.on i; cmd = carries.asks i; bytes = (ap (λ m. take m (joined_data p.0 [])) n ∙ sym carries.joins) i }))

-- ---- the authenticator after a history is that of its events, so that the laws of its credentials hold of the history

-- The laws of an authenticator over its steps hold of a history by this.
pub core_is : (start : Start) (h : List ReceivedInput) → core start h ≡ core_at (first_state start) (steps start h)
unfolding core steps core_at
core_is start [] = refl
core_is start (e ∷ past) = search (rules, arith, core_is start past)

one_orderly : (g : ℕ) (k : CoreState) (at : ℕ) (e : Option Event) (past : List TimedEvent)
    → EventGiven g (working_channel (core_at k past)) e
    → Orderly k past → Orderly k (timed_event at e ++ past)
unfolding Orderly
one_orderly g k at x3 past a o = grind (arith, nat_tests)

pub orderly : (start : Start) (h : List Timed) → Orderly (first_state start) (steps start (received start h))
unfolding received receive steps Orderly
orderly start [] = tt
orderly start (x ∷ h) = grind (arith, core_is, event_given, good_judged, one_orderly, safe_at, orderly start h)

pub first_ready : (start : Start) → Ready start.capacity (first_state start).state
first_ready start = record { pending = tt; work = tt }

-- what is answered has bytes, and is sent where the request came from
answered_bytes : (aaguid : List ℕ) (work : Option PendingTask) (id signed sig : List ℕ) (answer : Answer)
    (asked : Option ParsedRequest)
    → IsSigned aaguid work id signed sig answer asked → (bytes : List ℕ) × (answer ≡ Answered bytes)
answered_bytes aaguid work id signed sig answer other s = search (rules, arith)

sends : (k : CoreState) (t : ℕ) (sig bytes : List ℕ) (cid : ℕ) → working_channel k ≡ Some cid
    → core_answer k t (SignatureIs (Some sig)) ≡ Answered bytes
    → event_packets k t (Some (SignatureIs (Some sig))) ≡ message_packets cid CBOR bytes
unfolding answer_packets
sends k t sig bytes cid w a = rw (w, a) refl

asked_on : (work : Option PendingTask) (id signed : List ℕ) → needs work ≡ sign id signed
    → (cid : ℕ) × (option_map (λ (w : Work). w.cid) (option_map pending_work work) ≡ Some cid)
asked_on None id signed e = cc
asked_on (Some work) id signed e = (work.cid, refl)

pub signature_at : (start : Start) (e : ReceivedInput) (h : List ReceivedInput) (id signed sig : List ℕ)
    → e.input ≡ Signature (Some sig)
    → needs (core start h).state.work ≡ sign id signed
    → IsSigned start.aaguid (core start h).state.work id signed sig (core_answer (core start h) e.at
    (SignatureIs (Some sig))) (latest_requests start h).asked → IsAnsweredBy start h e id signed sig
unfolding service_packets table_packets completed_message event answer_packets
signature_at start e h id signed sig is need answer = grind (arith, answered_bytes, asked_on, sends)

-- ---- what a history sends is what is told of it without a state: by the law of the authenticator's answers

-- the law of the authenticator, of its histories of events
pub record Law (start : Start) : Type 0 where
  pub answers : (h : List TimedEvent) (x : TimedEvent) → Orderly (first_state start) (x ∷ h)
      → core_answer (core_at (first_state start) h) x.at x.event ≡ answer_to start (exchanges start h) x.at x.event
  pub waits : (h : List TimedEvent) → Orderly (first_state start) h
      → waiting (core_at (first_state start) h) ≡ pending_work_of (exchanges start h)

one_happened : (start : Start) (h : List TimedEvent) (at : ℕ) (o : Option Event)
    → with_event start (exchanges start h) at o ≡ exchanges start (timed_event at o ++ h)
unfolding exchanges
one_happened start h at x3 = search (rules, arith)

-- the events are those that the authenticator takes, and what waits is its work
pub happened_steps : (start : Start) (law : Law start) (h : List Timed)
    → exchanges_of start (received start h) ≡ exchanges start (steps start (received start h))
unfolding exchanges_of received steps exchanges
happened_steps start law [] = refl
happened_steps start law (x ∷ h) = grind (arith, core_is, one_happened, orderly, happened_steps start law h)

pub waits_told : (start : Start) (law : Law start) (h : List Timed)
    → waiting (core start (received start h)) ≡ pending_work_of (exchanges_of start (received start h))
waits_told start law h = grind (arith, core_is, happened_steps, orderly)

-- ---- packets

-- what an event sends is what its answer, as it is told, sends
event_told : (start : Start) (law : Law start) (h : List TimedEvent) (k : CoreState) (past : List Exchange) (at : ℕ)
    (o : Option Event)
    → k ≡ core_at (first_state start) h → past ≡ exchanges start h → Orderly (first_state start) h
    → Orderly (first_state start) (timed_event at o ++ h)
    → event_packets k at o ≡ response_packets start past at o
event_told start law h k past at x6 e p r s = search (rules, arith)

pub service_told_so : (start : Start) (law : Law start) (h : List Timed) (x : Timed)
    → let past = received start h in service_packets start (receive start x past) past
    ≡ input_packets start (receive start x past) past
unfolding service_packets received steps
service_told_so start law h x =
    let past = received start h in
    let e = receive start x past in
    let w = waits_told start law h in
    let told = event_told start law (steps start past) (core start past) (exchanges_of start past) e.at
    (event_at start e past)
    (core_is start past) (happened_steps start law h) (orderly start h) (orderly start (x ∷ h)) in
    rw (← w) (ap (λ v. table_packets (channels_allocated past) (open_at past e.at) (working_channel (core start past)) e.input
    ++ ping_packets (completed_message (open_at past e.at) e.admitted e.input) ++ v) told)

time_told_so : (start : Start) (law : Law start) (h : List Timed) (latest t : ℕ)
    → time_packets start (received start h) latest t ≡ timer_packets start (received start h) latest t
unfolding time_packets
time_told_so start law h latest t = rw (waits_told start law h) refl

both_told : (start : Start) (law : Law start) (h : List Timed) (x : Timed) (latest : ℕ)
    → let past = received start h in let e = receive start x past in
    time_packets start past latest e.at ++ service_packets start e past ≡ timer_packets start past latest e.at
    ++ input_packets start e past
both_told start law h x latest = grind (arith, service_told_so, time_told_so)

keepalive_told_so : (start : Start) (law : Law start) (h : List Timed)
    → last_keepalive start (received start h) ≡ last_keepalive_at start (received start h)
unfolding received last_keepalive last_keepalive_at
keepalive_told_so start law [] = refl
keepalive_told_so start law (x ∷ h) = search (rules, arith, both_told, keepalive_told_so start law h)

pub sent_told_so : (start : Start) (law : Law start) (h : List Timed) →
    sent start (received start h) ≡ packets_sent start (received start h)
unfolding received sent sent_at packets_sent
sent_told_so start law [] = refl
sent_told_so start law (x ∷ h) = grind (arith, both_told, keepalive_told_so, sent_told_so start law h)

-- inputs are judged alike
pub judged_told_so : (start : Start) (law : Law start) (h : List Timed) → received start h ≡ received_inputs start h
unfolding received received_inputs receive received_input
judged_told_so start law [] = refl
judged_told_so start law (x ∷ h) = search (rules, arith, waits_told, judged_told_so start law h)

-- What one input sends is told too: what is sent before it, and with it, are.
pub told_now_is : (start : Start) (h : List Timed) (x : Timed) → AgreesWithExchanges start h → AgreesWithExchanges start (x ∷ h)
    → sent_now start h x ≡ packets_sent_now start h x
unfolding sent received sent_now packets_sent received_inputs packets_sent_now
told_now_is start h x before after =
    append_cancel_left (packets_sent start (received_inputs start h)) _ _
    (ap (λ ps. ps ++ sent_now start h x) (sym before.packets) ∙ after.packets)

pub told_from_is : (start : Start) (told : (h : List Timed) → AgreesWithExchanges start h) (xs : List Timed) (n : ℕ)
    (h : List Timed) → sent_from n start h xs ≡ packets_sent_from n start h xs
unfolding packets_sent_from
told_from_is start told [] n h = refl
told_from_is start told (x ∷ xs) n h =
    rw (told_now_is start h x (told h) (told (x ∷ h)))
    (ap (λ ps. with_input_number n (packets_sent_now start h x) ++ ps) (told_from_is start told xs (n + 1) (x ∷ h)))
