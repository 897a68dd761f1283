-- The packets that carry a message, and its arrival among the packets of other hosts (CTAP 2.1, section 11.2.4).
use Rattle.std.specs.Prelude.{◌≡◌, ℕ, ◌+◌, ◌≤◌, ◌<◌, ◌⊎◌, List, [], ◌∷◌, ◌++◌, length, None, Bool, ◌&&◌, nat_le}
use Rattle.std.specs.Prelude.{Option, Some, if◌then◌else◌}
use Rattle.hid_packet.specs.Message.{CarriesMessage}
use Rattle.hid_packet.specs.Packet.{MESSAGE_TIMEOUT, PING, CBOR, message_length, INIT_PACKET_DATA}
use Rattle.authn_core.specs.Turn.{Start, working_channel}
use Rattle.token_session.specs.declared.input.Timed.{Timed}
use Rattle.token_session.specs.Inputs.{open_at, packets_of, ReceivedInput, channels_allocated, channel_inputs, packet}
use Rattle.token_session.specs.Inputs.{MessageStart, is_last_packet}
use Rattle.token_session.specs.History.{core, received_after, received}
use Rattle.token_session.specs.declared.input.Input.{Input}
use Rattle.token_session.specs.declared.input.Input.TheVariants.{Packet}

-- ---- the arrival of a message in several packets (CTAP 2.1, sections 11.2.4, 11.2.5.1 and 11.2.5.2)

-- The inputs of a list after a history, in order, each with its time and whether it is admitted.
abbrev pub received_after_all : Start → List Timed → List Timed → List ReceivedInput
received_after_all start h [] = []
received_after_all start h (x ∷ xs) = received_after start h x ∷ received_after_all start (x ∷ h) xs

-- The first input arrives less than 500 ms after `since`, and each further input less than 500 ms after the previous
-- one.
abbrev pub ArriveInTime : ℕ → List ReceivedInput → Type 0
ArriveInTime since [] = Unit {0}
ArriveInTime since (e ∷ es) = (e.at < since + MESSAGE_TIMEOUT) × ArriveInTime e.at es

-- After a history without an open message or a pending request, input `x` has the initialization packet of a message on
-- an allocated channel. The inputs `between` follow, and then `last` with the message's last packet. Among them, the
-- packets on this channel are those of the message, in order, and each arrives less than 500 ms after the previous one.
pub record MessageArrives (start : Start) (h : List Timed) (x : Timed) (between : List Timed) (last : ReceivedInput)
    (cid cmd : ℕ) (bytes : List ℕ) : Type 0 where
  pub low : 1 ≤ cid
  pub high : cid ≤ channels_allocated (received start h)
  pub served : (cmd ≡ PING) ⊎ ((cmd ≡ CBOR) × (1 ≤ length bytes))
  pub free : open_at (received start h) (received_after start h x).at ≡ None
  pub idle : working_channel (core start (received start h)) ≡ None
  pub carried : CarriesMessage
      (packet x.input ∷ packets_of (channel_inputs cid (received_after_all start (x ∷ h) between)) ++ packet last.input ∷ []) cid cmd bytes
  pub soon : ArriveInTime (received_after start h x).at (channel_inputs cid (received_after_all start (x ∷ h) between) ++ last ∷ [])

-- ---- the packets of a message that an input completes (CTAP 2.1, section 11.2.4)

-- Each packet has 64 bytes.
abbrev pub AreFullPackets : List (List ℕ) → Type 0
AreFullPackets [] = Unit {0}
AreFullPackets (p ∷ ps) = (length p ≡ 64) × AreFullPackets ps

-- If the input is a packet, the packet has 64 bytes.
abbrev pub HasFullPacket : Input → Type 0
HasFullPacket (Packet p) = length p.0 ≡ 64
HasFullPacket other = Unit {0}

-- Each packet among these inputs has 64 bytes.
abbrev pub HaveFullPackets : List ReceivedInput → Type 0
HaveFullPackets [] = Unit {0}
HaveFullPackets (e ∷ es) = HasFullPacket e.input × HaveFullPackets es

-- Each packet among these inputs has 64 bytes.
abbrev pub ArriveWithFullPackets : List Timed → Type 0
ArriveWithFullPackets [] = Unit {0}
ArriveWithFullPackets (x ∷ xs) = HasFullPacket x.input × ArriveWithFullPackets xs

-- The packets of the open message, if packet `p` completes it: the initialization packet, the packets on its channel
-- since then, and `p`. Otherwise the empty list.
unfoldable pub open_message_packets : Option MessageStart → List ℕ → List (List ℕ)
open_message_packets None p = []
open_message_packets (Some b) p = if is_last_packet b p then b.packet ∷ (packets_of b.own ++ p ∷ []) else []

-- The packets of the message that an input completes, if any: the packet of the input if it is a whole message, or
-- those of the open message if the packet is its last.
unfoldable pub completed_message_packets : Option MessageStart → Bool → Input → List (List ℕ)
completed_message_packets o admitted (Packet p) = if admitted && nat_le (message_length p.0) INIT_PACKET_DATA then p.0 ∷ []
    else open_message_packets o p.0
completed_message_packets o admitted other = []

-- The packets of the message that an input after a history completes, if any.
abbrev pub completed_packets_at : ReceivedInput → List ReceivedInput → List (List ℕ)
completed_packets_at e past = completed_message_packets (open_at past e.at) e.admitted e.input
