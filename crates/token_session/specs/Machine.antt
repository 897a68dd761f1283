-- The composed machine of transport and authenticator, and the packets that it sends (CTAP 2.1, section 11.2).
use Rattle.std.specs.Prelude.{ℕ, ◌+◌, ◌==◌, List, [], ◌∷◌, ◌++◌, take, Option, Some, None, option_map, if◌then◌else◌}
use Rattle.std.specs.Prelude.{Bool, false, nat_le, not, ◌&&◌, max}
use Rattle.byteorder.specs.Endian.{big_bytes}
use Rattle.hid_packet.specs.Packet.{PING, INIT, CBOR, KEEPALIVE, ERROR, BROADCAST, channel, initialization_data}
use Rattle.hid_packet.specs.Packet.{KEEPALIVE_PERIOD, fields}
use Rattle.hid_packet.specs.Message.{message_packets}
use Rattle.hid_assemble.specs.Table.{is_busy_here, Open}
use Rattle.hid_assemble.specs.Assembly.{Message, Assembly, accepted, is_overdue, still_open}
use Rattle.hid_assemble.specs.declared.table.ReplyRow.{ReplyRow}
use Rattle.hid_assemble.specs.declared.table.ReplyRow.TheVariants.{NoSuchCommand, BadLength, NoSuchChannel}
use Rattle.hid_assemble.specs.declared.table.ReplyRow.TheVariants.{InitLength, InitFull, InitNew, InitAgain}
use Rattle.hid_assemble.specs.declared.table.ReplyRow.TheVariants.{BusyElsewhere, BusyHere, BrokenOff}
use Rattle.authn_core.specs.State.{Event, Request, Answer, Answered, Waits, KeyIs, PresenceIs, SignatureIs, Cancel}
use Rattle.authn_core.specs.State.{Drop}
use Rattle.authn_core.specs.Turn.{Work, CoreState, turn as authenticator_turn, waiting, Start, core_answer}
use Rattle.authn_core.specs.Turn.{working_channel, first_state}
use Rattle.token_session.specs.declared.input.Input.{Input}
use Rattle.token_session.specs.declared.input.Input.TheVariants.{Presence, Key, Signature, Packet}
use Rattle.hid_assemble.specs.Verdicts.{verdict}
use Rattle.hid_assemble.specs.Refusals.{code_number}
use Rattle.hid_assemble.specs.declared.verdict.Verdict.{Verdict}
use Rattle.hid_assemble.specs.declared.verdict.Verdict.TheVariants.{GreetAndDrop, CancelWork, Ignored, Kept, Finished}
use Rattle.hid_assemble.specs.declared.verdict.Verdict.TheVariants.{Refuse, Greet}
use Rattle.token_session.specs.declared.input.Timed.{Timed}

-- ---- the packets that are sent: those of the reply table, errors, KEEPALIVEs and responses (CTAP 2.1, section 11.2.9)

-- The response to INIT: nonce, channel, protocol version 2, device version 1.0.0, capabilities CBOR and NMSG (CTAP 2.1,
-- section 11.2.9.1.3).
unfoldable pub init_response : (on cid : ℕ) → (nonce : List ℕ) → List (List ℕ)
init_response on cid nonce = message_packets on INIT (nonce ++ big_bytes 4 cid ++ 2 ∷ 1 ∷ 0 ∷ 0 ∷ 0x0c ∷ [])

-- An ERROR packet with this error code (CTAP 2.1, section 11.2.9.1.6).
abbrev pub error : ℕ → ℕ → List (List ℕ)
error cid code = message_packets cid ERROR (code ∷ [])

-- A KEEPALIVE packet with this status (CTAP 2.1, section 11.2.9.1.7).
abbrev pub keepalive : ℕ → ℕ → List (List ℕ)
keepalive cid status = message_packets cid KEEPALIVE (status ∷ [])

-- The packets that a row of the reply table sends by itself.
unfoldable pub row_packets : ℕ → List ℕ → ReplyRow → List (List ℕ)
row_packets given p NoSuchChannel = error (channel p) 0x0b
row_packets given p InitLength = error (channel p) 0x03
row_packets given p InitFull = error (channel p) 0x7f
row_packets given p InitNew = init_response BROADCAST (given + 1) (take 8 (initialization_data p))
row_packets given p InitAgain = init_response (channel p) (channel p) (take 8 (initialization_data p))
row_packets given p BusyElsewhere = error (channel p) 0x06
row_packets given p BusyHere = error (channel p) 0x06
row_packets given p BrokenOff = error (channel p) 0x04
row_packets given p NoSuchCommand = error (channel p) 0x01
row_packets given p BadLength = error (channel p) 0x03
row_packets given p _ = []

-- The response to a PING: the same message (CTAP 2.1, section 11.2.9.1.4).
abbrev pub ping_packets : Option Message → List (List ℕ)
ping_packets None = []
ping_packets (Some m) = if m.cmd == PING then message_packets m.cid PING m.bytes else []

-- The request in a CBOR message, if any.
abbrev pub request_event : Option Message → Option Event
request_event None = None
request_event (Some m) = if m.cmd == CBOR then Some (Request m.cid m.bytes) else None

-- The KEEPALIVE status of the pending request.
abbrev pub status_of : Option Work → Option ℕ
status_of work = option_map (λ w. w.status) work

-- The channel of the response to an event.
abbrev pub response_channel : Option Work → Event → Option ℕ
response_channel work (Request cid bytes) = Some cid
response_channel work e = option_map (λ w. w.cid) work

-- The packets for an answer: a response, or a KEEPALIVE if the status is new.
unfoldable pub answer_packets : Option ℕ → Option ℕ → Answer → List (List ℕ)
answer_packets (Some cid) before (Answered bytes) = message_packets cid CBOR bytes
answer_packets (Some cid) before (Waits status) = if is_busy_here before status then [] else keepalive cid status
answer_packets _ before _ = []

-- The effect of an event on the authenticator, the packets that are sent for the event, and when a KEEPALIVE is due
-- (CTAP 2.1, sections 11.2.9.1.5 and 11.2.9.1.7). They depend only on the time, the authenticator and the event.

-- The event for a reply of the caller.
abbrev pub reply_event : Input → Option Event
reply_event (Presence reply) = Some (PresenceIs reply)
reply_event (Key key) = Some (KeyIs key)
reply_event (Signature signature) = Some (SignatureIs signature)
reply_event other = None

-- The authenticator after an event, if any.
abbrev pub event_core : CoreState → ℕ → Option Event → CoreState
event_core core at None = core
event_core core at (Some e) = record core { state = (authenticator_turn core.setup core.state at e).state }

-- The packets that are sent for an event, if any.
abbrev pub event_packets : CoreState → ℕ → Option Event → List (List ℕ)
event_packets k at None = []
event_packets k at (Some e) = answer_packets (response_channel (waiting k) e) (status_of (waiting k))
    (authenticator_turn k.setup k.state at e).answer

-- Whether a KEEPALIVE is due: a request is pending, and at least `KEEPALIVE_PERIOD` passed since the last KEEPALIVE or,
-- without one, since time 0 (CTAP 2.1, section 11.2.9.1.7).
unfoldable pub keepalive_due : Option Work → ℕ → ℕ → Bool
keepalive_due None keepalive_at at = false
keepalive_due (Some w) keepalive_at at = nat_le (keepalive_at + KEEPALIVE_PERIOD) at

-- The KEEPALIVE of the pending request.
abbrev pub keepalive_packets : Option Work → List (List ℕ)
keepalive_packets None = []
keepalive_packets (Some w) = keepalive w.cid w.status

-- The packets of a verdict, the authenticator's event for a verdict, and the request of an event (CTAP 2.1, section
-- 11.2.9).

-- The packets that a verdict sends by itself, without those of an event. `bytes` is the message that the packet
-- completed.
abbrev pub verdict_packets : Verdict → List ℕ → List (List ℕ)
verdict_packets Ignored bytes = []
verdict_packets Kept bytes = []
verdict_packets (Finished cid cmd) bytes = if cmd == PING then message_packets cid PING bytes else []
verdict_packets (Refuse cid why) bytes = error cid (code_number why)
verdict_packets (Greet on cid nonce) bytes = init_response on cid nonce
verdict_packets (GreetAndDrop on cid nonce) bytes = init_response on cid nonce
verdict_packets CancelWork bytes = []

-- The authenticator's event for a verdict, if any. `bytes` is the message that the packet completed.
abbrev pub verdict_event : Verdict → List ℕ → Option Event
verdict_event Ignored bytes = None
verdict_event Kept bytes = None
verdict_event (Finished cid cmd) bytes = if cmd == CBOR then Some (Request cid bytes) else None
verdict_event (Refuse cid why) bytes = None
verdict_event (Greet on cid nonce) bytes = None
verdict_event (GreetAndDrop on cid nonce) bytes = Some Drop
verdict_event CancelWork bytes = Some Cancel

-- The channel of the pending request.
abbrev pub channel_of : Option Work → Option ℕ
channel_of work = option_map (λ (w : Work). w.cid) work

-- The transport's verdict on an input. Inputs other than packets are ignored.
abbrev pub input_verdict : Assembly → Option ℕ → Input → Verdict
input_verdict a work (Packet p) = verdict a work (fields p.0)
input_verdict a work other = Ignored

-- The state of message assembly after an input.
abbrev pub assembly_after : Assembly → (at : ℕ) → Option ℕ → Input → Assembly
assembly_after a at work (Packet p) = accepted a at work (fields p.0)
assembly_after a at work other = a

-- The authenticator's event for an input with this verdict, if any.
abbrev pub input_event : Input → Verdict → List ℕ → Option Event
input_event (Packet p) v bytes = verdict_event v bytes
input_event other v bytes = reply_event other

-- The message of the event if it is a request.
abbrev pub request_in : Option Event → Option (List ℕ)
request_in None = None
request_in (Some (Request cid bytes)) = Some bytes
request_in (Some other) = None

-- The composed machine: a state of the transport and the authenticator together, and the effect of an input on this
-- state. It doesn't contain the history.

-- The state: the latest time, the number of allocated channels, the open message, the authenticator, and the time of
-- the last KEEPALIVE.
pub record MachineState : Type 0 where
  pub now : ℕ
  pub given : ℕ
  pub current : Option Open
  pub core : CoreState
  pub keepalive_at : ℕ

-- The effect of an input: the new state, the packets that are sent, and the authenticator's event, if any.
pub record MachineTurn : Type 0 where
  pub state : MachineState
  pub packets : List (List ℕ)
  pub event : Option Event

-- The packet ERROR 0x05 for a message that timed out, if any (CTAP 2.1, section 11.2.5.2).
abbrev pub overdue_packets : Option Open → List (List ℕ)
overdue_packets None = []
overdue_packets (Some m) = error m.cid 0x05

-- The effect of the passing of time up to `at`, which is not earlier than the latest time: a message that timed out is
-- dropped; otherwise a KEEPALIVE is sent if one is due (CTAP 2.1, sections 11.2.5.2 and 11.2.9.1.7).
unfoldable pub time_passed : MachineState → ℕ → MachineTurn
time_passed s at =
    let late = is_overdue s.current at in
    let due = not late && keepalive_due (waiting s.core) s.keepalive_at at in
    let since = if due then at else s.keepalive_at in
    record {
      state = record s { now = at; current = still_open s.current at; keepalive_at = since };
      packets = if late then overdue_packets s.current else if due then keepalive_packets (waiting s.core) else [];
      event = None;
    }

-- Whether a KEEPALIVE is sent with this answer.
unfoldable pub response_sends_keepalive : Option ℕ → Option ℕ → Answer → Bool
response_sends_keepalive (Some cid) before (Waits status) = not (is_busy_here before status)
response_sends_keepalive _ before _ = false

-- Whether a KEEPALIVE is sent for this event, if any.
abbrev pub event_sends_keepalive : CoreState → ℕ → Option Event → Bool
event_sends_keepalive k at None = false
event_sends_keepalive k at (Some e) = response_sends_keepalive (response_channel (waiting k) e) (status_of (waiting k)) (core_answer k at e)

-- The effect of an input with this event, after its effect on the transport. The packets sent because time passed come
-- first, then those of the reply table, then those of the event.
abbrev pub turn_packets : ℕ → ℕ → Option Open → CoreState → ℕ → List (List ℕ) → List (List ℕ) → Option Event → MachineTurn
turn_packets at given current core keepalive_at early packets e =
    record {
      state = record {
        now = at;
        given = given;
        current = current;
        core = event_core core at e;
        keepalive_at = if event_sends_keepalive core at e then at else keepalive_at;
      };
      packets = early ++ (packets ++ event_packets core at e);
      event = e;
    }

-- The effect of an input at the current time, by the transport's verdict on the input. `early` are the packets sent
-- because time passed.
abbrev pub processed_input : MachineState → List (List ℕ) → Input → MachineTurn
processed_input s early i =
    let a : Assembly = record { given = s.given; current = s.current; finished = [] } in
    let v = input_verdict a (working_channel s.core) i in
    let after = assembly_after a s.now (working_channel s.core) i in
    turn_packets s.now after.given after.current s.core s.keepalive_at early
    (verdict_packets v after.finished) (input_event i v after.finished)

-- The effect of an input: first time passes, then the input is processed. A time earlier than the latest time is
-- replaced by the latest time.
unfoldable pub turn : MachineState → Timed → MachineTurn
turn s x = let at = max s.now x.at in processed_input (time_passed s at).state (time_passed s at).packets x.input

-- The state of the composed machine at the start of a session.
unfoldable pub start_state : Start → MachineState
start_state start = record { now = start.moment; given = 0; current = None; core = first_state start; keepalive_at = 0 }

-- The state of the composed machine after a list of inputs, newest first.
unfoldable pub machine : Start → List Timed → MachineState
machine start [] = start_state start
machine start (x ∷ past) = (turn (machine start past) x).state
