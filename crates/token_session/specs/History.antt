-- The packets that are sent for a history, defined by its inputs alone (CTAP 2.1, section 11.2.5).
use Rattle.std.specs.Prelude.{ℕ, Bool, not, ◌&&◌, ◌||◌, ◌==◌, nat_le, List, [], ◌∷◌, ◌++◌, max, Option, Some, None}
use Rattle.std.specs.Prelude.{option_map, is_some, is_none, if◌then◌else◌, length, unwrap_or, ◌≡◌, ◌+◌}
use Rattle.std.specs.List.{list_any}
use Rattle.hid_packet.specs.Packet.{PING, INIT, CBOR, CANCEL, KEEPALIVE, data_capacity, channel, is_initialization}
use Rattle.hid_packet.specs.Packet.{command, message_length, sequence, is_command}
use Rattle.hid_assemble.specs.Table.{is_allocated, is_busy_here, init_packet_row, Open}
use Rattle.hid_assemble.specs.Assembly.{Message, Assembly, is_overdue}
use Rattle.authn_core.specs.State.{Event, Cancel, Drop, Request as Asks}
use Rattle.authn_core.specs.Turn.{Start, CoreState, working_channel, first_state, waiting, core_refusal}
use Rattle.token_session.specs.declared.input.Input.{Input}
use Rattle.token_session.specs.declared.input.Input.TheVariants.{Packet}
use Rattle.token_session.specs.declared.input.Timed.{Timed}
use Rattle.token_session.specs.Inputs.{ReceivedInput, latest_time, is_packet, channels_allocated, MessageStart}
use Rattle.token_session.specs.Inputs.{open_at, completed_message, message_completed_at, message_start, is_open}
use Rattle.token_session.specs.Inputs.{to_open}
use Rattle.token_session.specs.Machine.{error, row_packets, ping_packets, request_event, reply_event, event_core}
use Rattle.token_session.specs.Machine.{event_packets, keepalive_packets, keepalive_due, MachineState, machine, turn}
use Rattle.token_session.specs.Machine.{assembly_after, input_event, input_verdict, time_passed}
use Rattle.std.specs.Option.{option_or}
use Rattle.hid_assemble.specs.Refusals.{last_packet_time}
use Rattle.hid_assemble.specs.declared.refusal.Refusal.{Refusal as TransportRefusal}
use Rattle.hid_assemble.specs.declared.refusal.Refusal.TheVariants.{Overdue}
use Rattle.hid_assemble.specs.declared.verdict.Verdict.{Verdict}
use Rattle.hid_assemble.specs.declared.verdict.Verdict.TheVariants.{Refuse}
use Rattle.ctap_message.specs.declared.fault.RequestFault.{RequestFault}
use Rattle.ctap_message.specs.RequestFaults.{fault_in}
use Rattle.authn_core.specs.declared.refusal.Refusal.{Refusal as CommandRefusal}
use Rattle.authn_core.specs.declared.refusal.Refusal.TheVariants.{BadRequest}
use Rattle.token_session.specs.declared.cause.Cause.{Cause}
use Rattle.token_session.specs.declared.cause.Cause.TheVariants.{Transport, Command, Request}
use Rattle.token_session.specs.declared.cause.Causes.{Causes as TwoCauses}

-- For each input: whether it begins a message, the authenticator's reaction to its event, and the packets sent. The
-- transport is defined with positions in lists of inputs and with filters; the authenticator is defined by its state
-- after each event.

-- The event of a packet, if any: CANCEL or an INIT of 8 bytes ends the pending request of its channel; the last packet
-- of a CBOR message is a request.
unfoldable pub packet_event : Option ℕ → Option Message → List ℕ → Option Event
packet_event work m p =
    if is_command CANCEL p && is_busy_here work (channel p) then Some Cancel
    else if is_command INIT p && (message_length p == 8) && is_busy_here work (channel p) then Some Drop
    else request_event m

-- The event of an input, if any.
unfoldable pub event : Option ℕ → Option Message → Input → Option Event
event work m (Packet p) = packet_event work m p.0
event work m other = reply_event other

-- The authenticator's event for an input after a history, if any.
abbrev pub event_after : CoreState → ReceivedInput → List ReceivedInput → Option Event
event_after k e past = event (working_channel k) (message_completed_at e past) e.input

-- The authenticator after a history.
unfoldable pub core : Start → List ReceivedInput → CoreState
core start [] = first_state start
core start (e ∷ past) = let before = core start past in event_core before e.at (event_after before e past)

-- Whether an initialization packet begins a message: a PING, or a CBOR message of at least one byte, on an allocated
-- channel, while no message is open and no request is pending.
unfoldable pub admits : ℕ → Option MessageStart → Option ℕ → List ℕ → Bool
admits channels_allocated o work p =
    is_initialization p && is_allocated channels_allocated (channel p)
    && ((command p == PING) || ((command p == CBOR) && nat_le 1 (message_length p))) && is_none o && is_none work

-- An input after a history, with its time and whether it is admitted.
unfoldable pub receive : Start → Timed → List ReceivedInput → ReceivedInput
receive start x past =
    let t = max (latest_time start past) x.at in
    let admitted = is_packet (admits (channels_allocated past) (open_at past t) (working_channel (core start past))) x.input in
    record { at = t; input = x.input; admitted = admitted }

-- All inputs of a history, newest first, each with its time and whether it is admitted.
unfoldable pub received : Start → List Timed → List ReceivedInput
received start [] = []
received start (x ∷ past) = receive start x (received start past) ∷ received start past

-- The next input after a history, with its time and whether it is admitted.
abbrev pub received_after : Start → List Timed → Timed → ReceivedInput
received_after start past x = receive start x (received start past)

-- ERROR 0x05 on the channel of a message that timed out.
abbrev pub timeout_packets : Option MessageStart → List (List ℕ)
timeout_packets None = []
timeout_packets (Some b) = error (channel b.packet) 0x05

-- The packet ERROR 0x04, if a continuation packet on the channel of the open message doesn't have the expected sequence
-- number.
abbrev pub continuation_error : Option MessageStart → List ℕ → List (List ℕ)
continuation_error None p = []
continuation_error (Some b) p =
    if (channel b.packet == channel p) && not (sequence p == length b.own) then error (channel p) 0x04 else []

-- The packets that the reply table sends for a packet.
unfoldable pub table_packets : ℕ → Option MessageStart → Option ℕ → Input → List (List ℕ)
table_packets g o work (Packet p) =
    let current = option_map (λ b. channel b.packet) o in
    if is_initialization p.0
    then row_packets g p.0 (init_packet_row g current work (channel p.0) (command p.0) (message_length p.0))
    else continuation_error o p.0
table_packets g o work other = []

-- The packets that are sent for an input: those of the reply table, the response to a PING, and those of the
-- authenticator's event.
unfoldable pub service_packets : Start → ReceivedInput → List ReceivedInput → List (List ℕ)
service_packets start e past =
    let o = open_at past e.at in
    let k = core start past in
    let m = completed_message o e.admitted e.input in
    table_packets (channels_allocated past) o (working_channel k) e.input ++ ping_packets m
    ++ event_packets k e.at (event (working_channel k) m e.input)

-- The packets that are sent because time passed: ERROR 0x05 for a message that timed out, or else a KEEPALIVE.
unfoldable pub time_packets : Start → List ReceivedInput → (latest t : ℕ) → List (List ℕ)
time_packets start past latest t =
    let before = open_at past (latest_time start past) in
    let work = waiting (core start past) in
    if is_some before && is_none (open_at past t) then timeout_packets before
    else if keepalive_due work latest t then keepalive_packets work else []

-- The time of the last KEEPALIVE, or 0 if none was sent.
unfoldable pub last_keepalive : Start → List ReceivedInput → ℕ
last_keepalive start [] = 0
last_keepalive start (e ∷ past) =
    let latest = last_keepalive start past in
    let packets = time_packets start past latest e.at ++ service_packets start e past in
    if list_any (is_command KEEPALIVE) packets then e.at else latest

-- The packets that are sent because time passed, then those for the input.
unfoldable pub sent_at : Start → ReceivedInput → List ReceivedInput → List (List ℕ)
sent_at start e past = time_packets start past (last_keepalive start past) e.at ++ service_packets start e past

-- The packets that are sent for a history, in order.
unfoldable pub sent : Start → List ReceivedInput → List (List ℕ)
sent start [] = []
sent start (e ∷ past) = sent start past ++ sent_at start e past

-- The number of data bytes of the open message that were received, or 0 if no message is open.
unfoldable pub held : Start → List ReceivedInput → ℕ
held start h = unwrap_or (option_map (λ b. data_capacity (length b.own)) (open_at h (latest_time start h))) 0

-- ---- the state of the transport and the authenticator after a history, and the packets that are sent for it

-- The state that a history defines.
unfoldable pub state_of : Start → List ReceivedInput → MachineState
state_of start h = record {
  now = latest_time start h;
  given = channels_allocated h;
  current = option_map to_open (open_at h (latest_time start h));
  core = core start h;
  keepalive_at = last_keepalive start h;
}

-- The state is the one that `state_of` defines for the history.
abbrev pub IsMachineAfter : MachineState → Start → List Timed → Type 0
IsMachineAfter s start h = s ≡ state_of start (received start h)

-- The packets that are sent for input `x` after history `h`.
unfoldable pub sent_now : Start → List Timed → Timed → List (List ℕ)
sent_now start h x = sent_at start (received_after start h x) (received start h)

-- The event of an input after a history.
abbrev pub event_at : Start → ReceivedInput → List ReceivedInput → Option Event
event_at start e past = event_after (core start past) e past

-- The history after the inputs of a list were added to it, newest first.
abbrev pub append_inputs : List Timed → List Timed → List Timed
append_inputs [] h = h
append_inputs (x ∷ xs) h = append_inputs xs (x ∷ h)

-- The packets of an input, each with the input's number.
abbrev pub with_input_number : ℕ → List (List ℕ) → List (ℕ × List ℕ)
with_input_number n [] = []
with_input_number n (p ∷ ps) = (n, p) ∷ with_input_number n ps

-- The packets that are sent for a list of inputs after a history, in order, each with the number of its input.
abbrev pub sent_from : ℕ → Start → List Timed → List Timed → List (ℕ × List ℕ)
sent_from n start h [] = []
sent_from n start h (x ∷ xs) = with_input_number n (sent_now start h x) ++ sent_from (n + 1) start (x ∷ h) xs

-- The composed machine's state after the inputs of a list.
abbrev pub run_state : MachineState → List Timed → MachineState
run_state s [] = s
run_state s (x ∷ xs) = run_state (turn s x).state xs

-- The packets that the composed machine sends for the inputs of a list, each with the number of its input. The first
-- input has the number `n`.
abbrev pub run_sent : ℕ → MachineState → List Timed → List (ℕ × List ℕ)
run_sent n s [] = []
run_sent n s (x ∷ xs) = with_input_number n (turn s x).packets ++ run_sent (n + 1) (turn s x).state xs

-- The packets that the composed machine sends for the inputs of a history, in order.
unfoldable pub turns_send : Start → List Timed → List (List ℕ)
turns_send start [] = []
turns_send start (x ∷ past) = turns_send start past ++ (turn (machine start past) x).packets

-- The beginnings of all messages that are open at time `t`, newest first.
unfoldable pub all_open : List ReceivedInput → List ReceivedInput → ℕ → List MessageStart
all_open later [] t = []
all_open later (e ∷ before) t =
    if is_open e later t then message_start e later ∷ all_open (e ∷ later) before t else all_open (e ∷ later) before t

-- Whether one of these packets is a KEEPALIVE.
abbrev pub has_keepalive : List (List ℕ) → Bool
has_keepalive packets = list_any (is_command KEEPALIVE) packets

-- Whether a message that was open before is no longer open because it timed out.
abbrev pub is_timed_out : Option MessageStart → Option MessageStart → Bool
is_timed_out before now = is_some before && is_none now

-- ---- why an ERROR packet or a status other than 0 is sent, from the state of the transport and the authenticator

-- The cause of dropping a message that timed out, if any.
unfoldable pub time_cause : Option Open → ℕ → Option TransportRefusal
time_cause current at = if is_overdue current at then Some (Overdue (last_packet_time current) at) else None

-- The cause of a verdict that rejects a packet, or None for other verdicts.
abbrev pub verdict_cause : Verdict → Option Cause
verdict_cause (Refuse cid why) = Some (Transport why)
verdict_cause v = None

-- The cause for the first check that a request fails, if any.
abbrev pub request_cause : Option RequestFault → Option Cause
request_cause None = None
request_cause (Some fault) = Some (Request fault)

-- The cause for the refusal of an event, if any: the check that the request fails, or else the refusal itself.
abbrev pub command_cause : Event → Option CommandRefusal → Option Cause
command_cause e None = None
command_cause (Asks cid bytes) (Some (BadRequest status)) = request_cause (fault_in bytes)
command_cause e (Some why) = Some (Command why)

-- The cause for which the authenticator refuses an event, or None.
abbrev pub event_cause : CoreState → ℕ → Option Event → Option Cause
event_cause core at None = None
event_cause core at (Some e) = command_cause e (core_refusal core at e)

-- The cause for which the transport rejects an input, or the authenticator refuses its event.
abbrev pub input_cause : MachineState → Input → Option Cause
input_cause s i =
    let a : Assembly = record { given = s.given; current = s.current; finished = [] } in
    let v = input_verdict a (working_channel s.core) i in
    let after = assembly_after a s.now (working_channel s.core) i in
    option_or (verdict_cause v) (event_cause s.core s.now (input_event i v after.finished))

-- The causes for one input: why a message was dropped before the input because it timed out, and why the input is
-- refused.
unfoldable pub causes_of : MachineState → Timed → TwoCauses
causes_of s x = let at = max s.now x.at in record {
  time = time_cause s.current at;
  input = input_cause (time_passed s at).state x.input;
}

-- The causes for the next input after a history.
unfoldable pub causes_after : Start → List Timed → Timed → TwoCauses
causes_after start h x = causes_of (state_of start (received start h)) x
