-- The packets of a message (CTAP 2.1, section 11.2.4, "Message and packet structure").
use Rattle.std.specs.Prelude.{ℕ, ◌+◌, ◌-◌, List, [], ◌∷◌, zero, suc, ◌++◌, length, take, drop, replicate, ◌≡◌, ◌≤◌}
use Rattle.std.specs.Prelude.{◌<◌, ◌⊎◌, true, false, flat_map, ◌*◌}
use Rattle.byteorder.specs.Endian.{big_bytes}
use Rattle.hid_packet.specs.Packet.{CONT_PACKET_DATA, INIT_PACKET_DATA, channel, is_initialization, command}
use Rattle.hid_packet.specs.Packet.{message_length, sequence, initialization_data, continuation_data, MAX_MESSAGE_LEN}
use Rattle.hid_packet.specs.Packet.{data_capacity}
use Rattle.std.specs.List.{AllByRecursion}
use Rattle.hid_packet.specs.declared.fragments.NextPacket.{NextPacket}
use Rattle.hid_packet.specs.declared.fragments.NextPacket.TheVariants.{Initialization, Continuation}

-- ---- the packets that are written for a message

-- The bytes, padded with zeros to 64.
unfoldable pub padded_packet : List ℕ → List ℕ
padded_packet bytes = bytes ++ replicate (64 - length bytes) 0

-- The initialization packet of a message of `len` bytes.
unfoldable pub initialization_packet : ℕ → ℕ → ℕ → List ℕ → List ℕ
initialization_packet cid cmd len part = padded_packet (big_bytes 4 cid ++ (cmd + 128) ∷ [] ++ big_bytes 2 len ++ part)

-- The continuation packet with this sequence number.
unfoldable pub continuation_packet : ℕ → ℕ → List ℕ → List ℕ
continuation_packet cid number part = padded_packet (big_bytes 4 cid ++ number ∷ [] ++ part)

-- The continuation packets for the remaining data. Sequence numbers have 7 bits, so `most` begins at 128.
unfoldable pub continuation_packets : (most : ℕ) → ℕ → ℕ → List ℕ → List (List ℕ)
continuation_packets zero cid number bytes = []
continuation_packets (suc most) cid number [] = []
continuation_packets (suc most) cid number (b ∷ bytes) =
    continuation_packet cid number (take CONT_PACKET_DATA (b ∷ bytes))
    ∷ continuation_packets most cid (number + 1) (drop CONT_PACKET_DATA (b ∷ bytes))

-- All packets of a message, in order.
unfoldable pub message_packets : ℕ → ℕ → List ℕ → List (List ℕ)
message_packets cid cmd bytes =
    initialization_packet cid cmd (length bytes) (take INIT_PACKET_DATA bytes)
    ∷ continuation_packets 128 cid 0 (drop INIT_PACKET_DATA bytes)

-- ---- when a list of packets carries a message

-- The packets are continuation packets on this channel, with consecutive sequence numbers from `number` on.
abbrev pub AreContinuations : ℕ → ℕ → List (List ℕ) → Type 0
AreContinuations cid number [] = Unit {0}
AreContinuations cid number (packet ∷ packets) =
    (is_initialization packet ≡ false) × (channel packet ≡ cid) × (sequence packet ≡ number)
    × AreContinuations cid (number + 1) packets

-- `count` is the least number of continuation packets that `len` bytes need.
abbrev pub IsLeast : (count len : ℕ) → Type 0
IsLeast count len = ((len ≤ INIT_PACKET_DATA) × (count ≡ 0))
    ⊎ ((len ≤ data_capacity count) × (data_capacity count < len + CONT_PACKET_DATA))

-- The data of a message's packets, concatenated.
abbrev pub joined_data : List ℕ → List (List ℕ) → List ℕ
joined_data first others = initialization_data first ++ flat_map continuation_data others

-- The packets carry this message. The initialization packet has its channel, command and length, the continuation
-- packets have consecutive sequence numbers, and the concatenated data begins with the message's bytes.
pub record Carries (first : List ℕ) (others : List (List ℕ)) (cid cmd : ℕ) (bytes : List ℕ) : Type 0 where
  pub short : length bytes ≤ MAX_MESSAGE_LEN
  pub begins : is_initialization first ≡ true
  pub on : channel first ≡ cid
  pub asks : command first ≡ cmd
  pub counts : message_length first ≡ length bytes
  pub continues : AreContinuations cid 0 others
  pub least : IsLeast (length others) (length bytes)
  pub joins : bytes ≡ take (length bytes) (joined_data first others)

-- The list of packets is not empty, and the packets carry this message.
abbrev pub CarriesMessage : List (List ℕ) → ℕ → ℕ → List ℕ → Type 0
CarriesMessage [] cid cmd bytes = ⊥
CarriesMessage (first ∷ others) cid cmd bytes = Carries first others cid cmd bytes

-- ---- packets of 64 bytes, in which zeros follow the end of the message

-- Each number is below 256.
abbrev pub AreBytes : List ℕ → Type 0
AreBytes bytes = AllByRecursion (λ byte. byte < 256) bytes

-- A packet: 64 bytes.
abbrev pub IsPacket : List ℕ → Type 0
IsPacket packet = (length packet ≡ 64) × AreBytes packet

-- Each is a packet.
abbrev pub ArePackets : List (List ℕ) → Type 0
ArePackets packets = AllByRecursion IsPacket packets

-- The data of a message's packets, concatenated.
abbrev pub data_bytes : List (List ℕ) → List ℕ
data_bytes [] = []
data_bytes (first ∷ others) = joined_data first others

-- The concatenated data of the packets is the message's bytes, followed by zeros.
abbrev pub PaddingIsZero : (bytes : List ℕ) (packets : List (List ℕ)) → Type 0
PaddingIsZero bytes packets = (further : ℕ) × (data_bytes packets ≡ bytes ++ replicate further 0)

-- ---- the packets of a message that have not been sent yet

-- The packets that have not been sent yet: all packets of the message if the initialization packet is the next one, or
-- else the remaining continuation packets.
abbrev pub packets_left : ℕ → NextPacket → List ℕ → List (List ℕ)
packets_left cid (Initialization cmd) rest = message_packets cid cmd rest
packets_left cid (Continuation number) rest = continuation_packets (128 - number) cid number rest

-- The remaining bytes fit into the packets that have not been sent yet.
abbrev pub CanCarry : NextPacket → List ℕ → Type 0
CanCarry (Initialization cmd) rest = (cmd < 128) × (length rest ≤ MAX_MESSAGE_LEN)
CanCarry (Continuation number) rest = length rest ≤ CONT_PACKET_DATA * (128 - number)
