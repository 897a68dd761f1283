-- The verdict of the reply table on a packet, the cause if the packet is rejected, and the effect of several packets
-- (CTAP 2.1, section 11.2.4).
use Rattle.std.specs.Prelude.{ℕ, ◌+◌, Bool, true, false, List, take, Option, Some, None, option_map, if◌then◌else◌}
use Rattle.std.specs.Prelude.{◌≡◌, ◌≤◌, ◌<◌, ◌⊎◌, [], ◌∷◌, length, map}
use Rattle.hid_packet.specs.Packet.{BROADCAST, Fields, channel_of, command_of, length_of, data_of, PING, CBOR, fields}
use Rattle.hid_packet.specs.Packet.{MESSAGE_TIMEOUT}
use Rattle.hid_assemble.specs.Table.{Open, PacketClass, Begins, Continues, is_busy_here, packet_class, Stray}
use Rattle.hid_assemble.specs.Table.{WrongNumber, Kept as KeptOn, Whole}
use Rattle.hid_assemble.specs.Assembly.{Assembly, Message, message_after, still_open, accepted}
use Rattle.hid_assemble.specs.Refusals.{expected_sequence_of, sequence_of, busy_channel}
use Rattle.hid_assemble.specs.declared.table.ReplyRow.TheVariants.{CancelsWork, CancelsNothing, NoSuchChannel}
use Rattle.hid_assemble.specs.declared.table.ReplyRow.TheVariants.{InitLength, InitFull, InitNew, InitAgain}
use Rattle.hid_assemble.specs.declared.table.ReplyRow.TheVariants.{BusyElsewhere, BusyHere, BrokenOff, NoSuchCommand}
use Rattle.hid_assemble.specs.declared.table.ReplyRow.TheVariants.{BadLength, Short, Long}
use Rattle.hid_assemble.specs.declared.verdict.Verdict.{Verdict}
use Rattle.hid_assemble.specs.declared.verdict.Verdict.TheVariants.{GreetAndDrop, CancelWork, Ignored, Kept, Finished}
use Rattle.hid_assemble.specs.declared.verdict.Verdict.TheVariants.{Refuse, Greet}
use Rattle.hid_assemble.specs.declared.refusal.Refusal.TheVariants as because

-- ---- the verdict on a packet

-- Whether the packet is ignored, or rejected with ERROR "invalid channel" or "channel busy".
abbrev pub is_noise_verdict : Verdict → Bool
is_noise_verdict Ignored = true
is_noise_verdict (Refuse cid (because.NoSuchChannel given)) = true
is_noise_verdict (Refuse cid (because.BusyElsewhere channel)) = true
is_noise_verdict (Refuse cid because.BusyHere) = true
is_noise_verdict _ = false

-- The verdict on a packet that completes this message.
abbrev pub finished_verdict : Option Message → Verdict
finished_verdict None = Ignored
finished_verdict (Some m) = Finished m.cid m.cmd

-- The verdict on an INIT packet on an allocated channel: the response has the same channel ID, and the channel's
-- pending request is dropped.
abbrev pub init_on_allocated : Option ℕ → ℕ → List ℕ → Verdict
init_on_allocated work cid nonce = if is_busy_here work cid then GreetAndDrop cid cid nonce else Greet cid cid nonce

-- The verdict on a packet, from its classification and the message that it completes, if any.
unfoldable pub class_verdict : ℕ → Option Open → Option ℕ → Fields → Option Message → PacketClass → Verdict
class_verdict given current work f m (Begins CancelsWork) = CancelWork
class_verdict given current work f m (Begins CancelsNothing) = Ignored
class_verdict given current work f m (Begins NoSuchChannel) = Refuse (channel_of f) (because.NoSuchChannel given)
class_verdict given current work f m (Begins InitLength) = Refuse (channel_of f) (because.InitLength (length_of f))
class_verdict given current work f m (Begins InitFull) = Refuse (channel_of f) because.NoChannelLeft
class_verdict given current work f m (Begins InitNew) = Greet BROADCAST (given + 1) (take 8 (data_of f))
class_verdict given current work f m (Begins InitAgain) = init_on_allocated work (channel_of f) (take 8 (data_of f))
class_verdict given current work f m (Begins BusyElsewhere) =
    Refuse (channel_of f) (because.BusyElsewhere (busy_channel (option_map (λ m. m.cid) current) work (channel_of f)))
class_verdict given current work f m (Begins BusyHere) = Refuse (channel_of f) because.BusyHere
class_verdict given current work f m (Begins BrokenOff) = Refuse (channel_of f) (because.BrokenOff (expected_sequence_of current))
class_verdict given current work f m (Begins NoSuchCommand) = Refuse (channel_of f) (because.NoSuchCommand (command_of f))
class_verdict given current work f m (Begins BadLength) =
    Refuse (channel_of f) (because.MessageLength (command_of f) (length_of f))
class_verdict given current work f m (Begins Short) = finished_verdict m
class_verdict given current work f m (Begins Long) = Kept
class_verdict given current work f m (Continues Stray) = Ignored
class_verdict given current work f m (Continues WrongNumber) =
    Refuse (channel_of f) (because.WrongNumber (sequence_of f) (expected_sequence_of current))
class_verdict given current work f m (Continues KeptOn) = Kept
class_verdict given current work f m (Continues Whole) = finished_verdict m

-- The verdict of the reply table on a packet. `work` is the channel of the pending request, if any.
unfoldable pub verdict : Assembly → Option ℕ → Fields → Verdict
verdict a work f =
    let ruling = packet_class a.given a.current work f in
    class_verdict a.given a.current work f (message_after a.current f ruling) ruling

-- ---- the effect of several packets on message assembly, each with the time at which it arrives

-- A packet and the time at which it arrives.
pub record Arrival : Type 0 where
  pub at : ℕ
  pub packet : List ℕ

-- The packets, without their times.
abbrev pub packets_of : List Arrival → List (List ℕ)
packets_of arrivals = map (λ arrival. arrival.packet) arrivals

-- The state when a packet arrives, before the packet is handled: if the incomplete message timed out, it is dropped.
abbrev pub after_arrival : Assembly → Arrival → Assembly
after_arrival a arrival = record { given = a.given; current = still_open a.current arrival.at; finished = a.finished }

-- The state after one more packet, while no request is pending: if the incomplete message timed out, it is dropped;
-- then the packet is handled.
unfoldable pub received_one : Assembly → Arrival → Assembly
received_one a arrival = accepted (after_arrival a arrival) arrival.at None (fields arrival.packet)

-- The verdict on the last packet.
unfoldable pub last_verdict : Assembly → List Arrival → Verdict
last_verdict a [] = Ignored
last_verdict a (arrival ∷ []) = verdict (after_arrival a arrival) None (fields arrival.packet)
last_verdict a (arrival ∷ next ∷ arrivals) = last_verdict (received_one a arrival) (next ∷ arrivals)

-- The state after all packets.
unfoldable pub received : Assembly → List Arrival → Assembly
received a [] = a
received a (arrival ∷ arrivals) = received (received_one a arrival) arrivals

-- The first packet arrives less than 500 ms after `since`, and each further packet less than 500 ms after the previous
-- one.
abbrev pub InTime : ℕ → List Arrival → Type 0
InTime since [] = Unit {0}
InTime since (arrival ∷ arrivals) = (arrival.at < since + MESSAGE_TIMEOUT) × InTime arrival.at arrivals

-- Each packet arrives less than 500 ms after the previous one.
abbrev pub ArriveInTime : List Arrival → Type 0
ArriveInTime [] = Unit {0}
ArriveInTime (arrival ∷ arrivals) = InTime arrival.at arrivals

-- The command and the bytes of a supported message: a PING, or a CBOR message of at least one byte.
abbrev pub IsSupportedMessage : ℕ → List ℕ → Type 0
IsSupportedMessage cmd bytes = (cmd ≡ PING) ⊎ ((cmd ≡ CBOR) × (1 ≤ length bytes))
