-- The packets of a history without the state of an authenticator, and the properties of drive_new.
use Rattle.std.specs.Prelude.{ℕ, List, [], ◌∷◌, ◌++◌, Option, Some, None, ◌≡◌, ◌+◌, max, ◌&&◌, option_map, is_some}
use Rattle.std.specs.Prelude.{is_none, if◌then◌else◌, ◌-◌, ◌*◌, ◌≤◌, length}
use Rattle.authn_core.specs.State.{Event, Answered}
use Rattle.authn_core.specs.Turn.{Start, Work, working_channel}
use Rattle.authn_core.specs.Marks.{TimedEvent}
use Rattle.token_session.specs.Inputs.{ReceivedInput, latest_time, channels_allocated, is_packet, open_at}
use Rattle.token_session.specs.Inputs.{completed_message, message_completed_at}
use Rattle.token_session.specs.History.{event_at, received, sent, core, admits, timeout_packets, event, table_packets}
use Rattle.token_session.specs.History.{with_input_number, service_packets, held}
use Rattle.std.specs.List.{list_any, AllByRecursion}
use Rattle.hid_packet.specs.Packet.{KEEPALIVE, is_command, CBOR, MAX_MESSAGE_LEN}
use Rattle.authn_core.specs.Answers.{answer_to, exchange, Exchange, rows_after, pending_request, work_of_request}
use Rattle.token_session.specs.declared.input.Timed.{Timed}
use Rattle.token_session.specs.Machine.{keepalive_due, keepalive_packets, response_channel, status_of, answer_packets}
use Rattle.token_session.specs.Machine.{ping_packets}
use Rattle.hid_packet.specs.Message.{message_packets, CarriesMessage}
use Rattle.authn_core.specs.Signed.{LatestRequests, requests_of, IsSigned}
use Rattle.hid_assemble.specs.Assembly.{Message}
use Rattle.cred_table.specs.declared.row.Row.{Row}
use Rattle.cred_table.specs.Rows.{pending_count}
use Rattle.ctap_message.specs.Requests.{steps_of}
use Rattle.token_session.specs.Carried.{completed_packets_at}
use Rattle.token_session.specs.Meters.{requests}

-- ---- the events for the authenticator in a history

-- The event with its time, if any.
abbrev pub timed_event : ℕ → Option Event → List TimedEvent
timed_event at None = []
timed_event at (Some e) = record { at = at; event = e } ∷ []

-- The events of a history with their times, newest first.
unfoldable pub steps : Start → List ReceivedInput → List TimedEvent
steps start [] = []
steps start (e ∷ past) = timed_event e.at (event_at start e past) ++ steps start past

-- The packets that are sent for a history of inputs, defined without an authenticator's state: the answer to each event
-- depends on the events before it.

-- The channel of the pending request.
abbrev pub channel_of : Option Work → Option ℕ
channel_of work = option_map (λ (w : Work). w.cid) work

-- The pending request: its channel and its KEEPALIVE status.
abbrev pub pending_work_of : List Exchange → Option Work
pending_work_of past = work_of_request (pending_request past)

-- The history with one more event, if any, and its answer.
abbrev pub with_event : Start → List Exchange → (at : ℕ) → Option Event → List Exchange
with_event start past at None = past
with_event start past at (Some e) = exchange start past at e ∷ past

-- The events of a history with their answers, newest first.
unfoldable pub exchanges_of : Start → List ReceivedInput → List Exchange
exchanges_of start [] = []
exchanges_of start (e ∷ past) =
    let before = exchanges_of start past in
    with_event start before e.at (event (channel_of (pending_work_of before)) (message_completed_at e past) e.input)

-- ---- inputs

-- An input after a history, with its time and whether it is admitted, as in History.antt. Here the pending request is
-- computed from the events and answers so far.
unfoldable pub received_input : Start → Timed → List ReceivedInput → ReceivedInput
received_input start x past =
    let t = max (latest_time start past) x.at in
    let on = channel_of (pending_work_of (exchanges_of start past)) in
    record { at = t; input = x.input; admitted = is_packet (admits (channels_allocated past) (open_at past t) on) x.input }

-- All inputs of a history, newest first, each with its time and whether it is admitted.
unfoldable pub received_inputs : Start → List Timed → List ReceivedInput
received_inputs start [] = []
received_inputs start (x ∷ past) = received_input start x (received_inputs start past) ∷ received_inputs start past

-- ---- packets

-- The packets for the answer to an event.
abbrev pub response_packets : Start → List Exchange → (at : ℕ) → Option Event → List (List ℕ)
response_packets start past at None = []
response_packets start past at (Some e) =
    answer_packets (response_channel (pending_work_of past) e) (status_of (pending_work_of past)) (answer_to start past at e)

-- The packets that are sent for an input: those of the reply table, the response to a PING, and those with the answer
-- to the input's event.
abbrev pub input_packets : Start → ReceivedInput → List ReceivedInput → List (List ℕ)
input_packets start e past =
    let o = open_at past e.at in
    let before = exchanges_of start past in
    let on = channel_of (pending_work_of before) in
    let m = completed_message o e.admitted e.input in
    table_packets (channels_allocated past) o on e.input ++ ping_packets m ++ response_packets start before e.at (event on m e.input)

-- The packets that are sent because time passed: ERROR 0x05 for a message that timed out, or else a KEEPALIVE.
abbrev pub timer_packets : Start → List ReceivedInput → (latest t : ℕ) → List (List ℕ)
timer_packets start past latest t =
    let before = open_at past (latest_time start past) in
    let work = pending_work_of (exchanges_of start past) in
    if is_some before && is_none (open_at past t) then timeout_packets before
    else if keepalive_due work latest t then keepalive_packets work else []

-- The time of the last KEEPALIVE, or 0 if none was sent.
unfoldable pub last_keepalive_at : Start → List ReceivedInput → ℕ
last_keepalive_at start [] = 0
last_keepalive_at start (e ∷ past) =
    let latest = last_keepalive_at start past in
    if list_any (is_command KEEPALIVE) (timer_packets start past latest e.at ++ input_packets start e past) then e.at
    else latest

-- The packets that are sent because time passed, then those for the input.
abbrev pub packets_sent_at : Start → ReceivedInput → List ReceivedInput → List (List ℕ)
packets_sent_at start e past = timer_packets start past (last_keepalive_at start past) e.at ++ input_packets start e past

-- The packets that are sent for a history, in order.
unfoldable pub packets_sent : Start → List ReceivedInput → List (List ℕ)
packets_sent start [] = []
packets_sent start (e ∷ past) = packets_sent start past ++ packets_sent_at start e past

-- The packets that are sent for input `x` after history `h`.
unfoldable pub packets_sent_now : Start → List Timed → Timed → List (List ℕ)
packets_sent_now start h x = let past = received_inputs start h in packets_sent_at start (received_input start x past) past

-- The packets that are sent for a list of inputs after a history, in order, each with the number of its input.
unfoldable pub packets_sent_from : ℕ → Start → List Timed → List Timed → List (ℕ × List ℕ)
packets_sent_from n start h [] = []
packets_sent_from n start h (x ∷ xs) = with_input_number n (packets_sent_now start h x) ++ packets_sent_from (n + 1) start (x ∷ h) xs

-- The definitions above agree with History.antt: the same inputs are admitted, the same packets are sent, and the
-- credentials are the same.
pub record AgreesWithExchanges (start : Start) (h : List Timed) : Type 0 where
  pub inputs : received start h ≡ received_inputs start h
  pub packets : sent start (received start h) ≡ packets_sent start (received_inputs start h)
  pub rows : (core start (received start h)).state.rows ≡ rows_after start (exchanges_of start (received_inputs start h))

-- ---- the response after a signature (CTAP 2.1, sections 6.1.2 and 6.2.2; WebAuthn Level 2, sections 6.3.2 and 6.3.3)

-- The newest request in a history, and the keys that the caller supplied.
abbrev pub latest_requests : Start → List ReceivedInput → LatestRequests
latest_requests start h = requests_of (steps start h)

-- The response is sent on the channel of the request. The authenticator data in the response, followed by the request's
-- clientDataHash, equals the bytes to sign.
pub record IsAnsweredBy (start : Start) (h : List ReceivedInput) (e : ReceivedInput) (id signed sig : List ℕ) : Type 0 where
  pub cid : ℕ
  pub bytes : List ℕ
  pub asker : working_channel (core start h) ≡ Some cid
  pub sent : service_packets start e h ≡ message_packets cid CBOR bytes
  pub answer : IsSigned start.aaguid (core start h).state.work id signed sig (Answered bytes) (latest_requests start h).asked

-- ---- the properties of `drive_new` (src/driver.rt) for every start and every list of inputs

-- The start of a session.
abbrev pub start_of : (aaguid : List ℕ) → (moment capacity : ℕ) → List Row → Start
start_of aaguid moment capacity rows = record { aaguid = aaguid; moment = moment; capacity = capacity; rows = rows }

-- The bytes of each completed message are those that its packets carry.
abbrev pub AllReceivedInPackets : List ReceivedInput → Type 0
AllReceivedInPackets [] = Unit {0}
AllReceivedInPackets (e ∷ past) =
    ((m : Message) → message_completed_at e past ≡ Some m → CarriesMessage (completed_packets_at e past) m.cid m.cmd m.bytes)
    × AllReceivedInPackets past

-- The packets that were sent for a history, and bounds on its data, stated without an authenticator's state. The
-- history is newest first.
pub record IsAnswered (start : Start) (h : List Timed) (packets : List (List ℕ)) : Type 0 where
  pub sent : packets ≡ packets_sent start (received_inputs start h)
  pub held : held start (received_inputs start h) ≤ MAX_MESSAGE_LEN
  pub rows : length (rows_after start (exchanges_of start (received_inputs start h))) ≤ start.capacity

-- Properties of a history that are not visible in its packets: completed messages are those that their packets carry,
-- and the numbers of pending assertions and of parsing steps are bounded.
pub record HasInternalProperties (start : Start) (h : List Timed) : Type 0 where
  pub carried : AllReceivedInPackets (received start h)
  pub pending : pending_count (core start (received start h)).state.pending ≤ start.capacity
  pub steps : AllByRecursion (λ m. steps_of m ≤ 4 * (length m - 1) + 2) (requests start (received start h))
