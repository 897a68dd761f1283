-- The inputs of a history, and the messages that their packets make up (CTAP 2.1, sections 11.2.4 and 11.2.5).
use Rattle.std.specs.Prelude.{ℕ, Bool, false, not, ◌&&◌, ◌==◌, List, [], ◌∷◌, min, filter, count_by, ◌+◌, nat_le}
use Rattle.std.specs.Prelude.{nat_lt, ◌++◌, take, length, map, Option, Some, None, if◌then◌else◌}
use Rattle.hid_packet.specs.Packet.{INIT, CANCEL, BROADCAST, channel, message_length, is_command, data_capacity}
use Rattle.hid_packet.specs.Packet.{INIT_PACKET_DATA, MAX_MESSAGE_LEN, MESSAGE_TIMEOUT, is_initialization, command}
use Rattle.hid_packet.specs.Packet.{sequence}
use Rattle.hid_assemble.specs.Table.{MAX_CHANNEL, Open}
use Rattle.authn_core.specs.Turn.{Start}
use Rattle.token_session.specs.declared.input.Input.{Input}
use Rattle.token_session.specs.declared.input.Input.TheVariants.{Packet}
use Rattle.hid_packet.specs.Message.{joined_data}
use Rattle.hid_assemble.specs.Assembly.{Message}

-- The inputs of a history with their times and whether they begin a message, the allocated channels, and the packets of
-- a channel (CTAP 2.1, section 11.2.3). A history is a list of inputs, newest first. The inputs before an input are the
-- rest of the list.

-- An input; its time, no earlier than that of the previous input; and whether it is `admitted`: an initialization
-- packet that begins a message.
pub record ReceivedInput : Type 0 where
  pub at : ℕ
  pub input : Input
  pub admitted : Bool

-- The latest time so far.
abbrev pub latest_time : Start → List ReceivedInput → ℕ
latest_time start [] = start.moment
latest_time start (e ∷ past) = e.at

-- The bytes of an input's packet, or the empty list for other inputs.
abbrev pub packet : Input → List ℕ
packet (Packet p) = p.0
packet other = []

-- Whether an input is a packet with this property.
abbrev pub is_packet : (List ℕ → Bool) → Input → Bool
is_packet test (Packet p) = test p.0
is_packet test other = false

-- Whether a packet is an INIT that requests a new channel (CTAP 2.1, section 11.2.9.1.3).
unfoldable pub requests_channel : List ℕ → Bool
requests_channel p = is_command INIT p && (message_length p == 8) && (channel p == BROADCAST)

-- The number of allocated channels.
unfoldable pub channels_allocated : List ReceivedInput → ℕ
channels_allocated h = min (count_by (λ e. is_packet requests_channel e.input) h) MAX_CHANNEL

-- Whether an input is a packet on the channel, except CANCEL.
unfoldable pub is_channel_input : ℕ → ReceivedInput → Bool
is_channel_input cid e = is_packet (λ p. (cid == channel p) && not (is_command CANCEL p)) e.input

-- The packets on the channel among these inputs, except CANCEL.
unfoldable pub channel_inputs : ℕ → List ReceivedInput → List ReceivedInput
channel_inputs cid later = filter (is_channel_input cid) later

-- The open message after a list of inputs, and the message that an input completes, defined by packets alone, without a
-- buffer (CTAP 2.1, sections 11.2.4 and 11.2.5). In these definitions, `later` is a list of inputs, oldest first.

-- Whether an input is a continuation packet with sequence number `m` that is not the last packet of a message of `len`
-- bytes.
unfoldable pub is_next_packet : ℕ → ℕ → ReceivedInput → Bool
is_next_packet len m e = is_packet (λ p. not (is_initialization p) && (sequence p == m)) e.input
    && nat_lt (data_capacity (m + 1)) len

-- Whether these inputs are continuation packets of a message of `len` bytes, from sequence number `m` on, none of them
-- the last; the first less than 500 ms after `since`, each other less than 500 ms after the previous one, and the last
-- less than 500 ms before `t`.
unfoldable pub continues_until : ℕ → ℕ → ℕ → List ReceivedInput → ℕ → Bool
continues_until len m since [] t = nat_lt t (since + MESSAGE_TIMEOUT)
continues_until len m since (e ∷ es) t = is_next_packet len m e && nat_lt e.at (since + MESSAGE_TIMEOUT)
    && continues_until len (m + 1) e.at es t

-- An initialization packet, its time, and the packets on its channel since then.
pub record MessageStart : Type 0 where
  pub packet : List ℕ
  pub at : ℕ
  pub own : List ReceivedInput

-- Whether the message is longer than one packet, but not longer than the maximum.
unfoldable pub is_long : List ℕ → Bool
is_long p = nat_lt INIT_PACKET_DATA (message_length p) && nat_le (message_length p) MAX_MESSAGE_LEN

-- The message that an input begins.
abbrev pub message_start : ReceivedInput → List ReceivedInput → MessageStart
message_start e later = record { packet = packet e.input; at = e.at; own = channel_inputs (channel (packet e.input)) later }

-- Whether the message that an input begins is open at time `t`: it was admitted, is longer than one packet, and the
-- packets on its channel since then continue it.
unfoldable pub is_open : ReceivedInput → List ReceivedInput → ℕ → Bool
is_open e later t =
    let b = message_start e later in
    e.admitted && is_long b.packet && continues_until (message_length b.packet) 0 b.at b.own t

-- The message that begins with one of these inputs and is open at time `t`, if any. `later` are the inputs after them.
unfoldable pub open_among : List ReceivedInput → List ReceivedInput → ℕ → Option MessageStart
open_among later [] t = None
open_among later (e ∷ before) t = if is_open e later t then Some (message_start e later) else open_among (e ∷ later) before t

-- The open message at time `t` after a history.
unfoldable pub open_at : List ReceivedInput → ℕ → Option MessageStart
open_at h t = open_among [] h t

-- The packets of these inputs.
abbrev pub packets_of : List ReceivedInput → List (List ℕ)
packets_of es = map (λ e. packet e.input) es

-- The time of the last packet of a message on its channel.
abbrev pub time_of_last_packet : ℕ → List ReceivedInput → ℕ
time_of_last_packet t [] = t
time_of_last_packet t (e ∷ es) = time_of_last_packet e.at es

-- Converts the open message to the type of message assembly, with the data of its packets.
abbrev pub to_open : MessageStart → Open
to_open b =
    let p = b.packet in
    let bytes = joined_data p (packets_of b.own) in
    let last = time_of_last_packet b.at b.own in
    record { cid = channel p; cmd = command p; len = message_length p; bytes = bytes; kept = length b.own; last = last }

-- The message that these packets carry.
abbrev pub message : List ℕ → List (List ℕ) → Message
message first others =
    let bytes = take (message_length first) (joined_data first others) in
    record { cid = channel first; cmd = command first; bytes = bytes }

-- Whether the packet is the last packet of the open message.
unfoldable pub is_last_packet : MessageStart → List ℕ → Bool
is_last_packet b p =
    not (is_initialization p) && (channel b.packet == channel p) && (sequence p == length b.own)
    && not (nat_lt (data_capacity (length b.own + 1)) (message_length b.packet))

-- The open message, if this packet is its last one.
unfoldable pub completed_long_message : Option MessageStart → List ℕ → Option Message
completed_long_message None p = None
completed_long_message (Some b) p =
    if is_last_packet b p then Some (message b.packet (map (λ e. packet e.input) b.own ++ p ∷ [])) else None

-- The message that an input completes, if any: an admitted message of one packet, or the open message with its last
-- packet.
unfoldable pub completed_message : Option MessageStart → Bool → Input → Option Message
completed_message o admitted (Packet p) =
    if admitted && nat_le (message_length p.0) INIT_PACKET_DATA then Some (message p.0 []) else completed_long_message o p.0
completed_message o admitted other = None

-- The message that an input completes, if any.
abbrev pub message_completed_at : ReceivedInput → List ReceivedInput → Option Message
message_completed_at e past = completed_message (open_at past e.at) e.admitted e.input
