-- The fields of a packet, and the commands and limits of CTAPHID (CTAP 2.1, sections 11.2.4 and 11.2.9).
use Rattle.std.specs.Prelude.{ℕ, ◌+◌, ◌*◌, ◌≡◌, ◌-◌, Bool, ◌&&◌, ◌==◌, nat_le, List, length, take, drop, slice_index}
use Rattle.std.specs.Prelude.{if◌then◌else◌}
use Rattle.byteorder.specs.Endian.{big_number}
use Rattle.hid_packet.specs.declared.packet.View.{View}
use Rattle.hid_packet.specs.declared.packet.View.TheVariants.{Start, More}

-- ---- the commands and the broadcast channel of CTAPHID (CTAP 2.1, sections 11.2.4 and 11.2.9)

abbrev pub PING : ℕ
PING = 0x01

abbrev pub INIT : ℕ
INIT = 0x06

abbrev pub CBOR : ℕ
CBOR = 0x10

abbrev pub CANCEL : ℕ
CANCEL = 0x11

abbrev pub KEEPALIVE : ℕ
KEEPALIVE = 0x3b

abbrev pub ERROR : ℕ
ERROR = 0x3f

-- The broadcast channel, on which a host requests a channel ID.
abbrev pub BROADCAST : ℕ
BROADCAST = 0xffff_ffff

-- The limits of CTAPHID in the standard, and limits derived from them. The code has constants of its own; contracts
-- state that their values are the same.

-- The data bytes in an initialization packet: 64 minus channel, command and length (CTAP 2.1, section 11.2.4).
abbrev pub INIT_PACKET_DATA : ℕ
INIT_PACKET_DATA = 57

-- The data bytes in a continuation packet: 64 minus channel and sequence number (CTAP 2.1, section 11.2.4).
abbrev pub CONT_PACKET_DATA : ℕ
CONT_PACKET_DATA = 59

-- The maximum message length: an initialization packet and 128 continuation packets (CTAP 2.1, section 11.2.4).
abbrev pub MAX_MESSAGE_LEN : ℕ
MAX_MESSAGE_LEN = 7609

-- The maximum number of packets sent for one input: one for a time-out or KEEPALIVE, and the 129 packets of the longest
-- message.
abbrev pub OUTBOX_CAPACITY : ℕ
OUTBOX_CAPACITY = 130

-- The capacity of the outbox's ring buffer, in bytes: 64 for each packet.
abbrev pub RING_SIZE : ℕ
RING_SIZE = 64 * OUTBOX_CAPACITY

-- The maximum number of data bytes stored for an incomplete message: those of 128 packets.
abbrev pub MAX_STORED_LEN : ℕ
MAX_STORED_LEN = 7550

-- The time in milliseconds after which an incomplete message is dropped (CTAP 2.1, section 11.2.5.2).
abbrev pub MESSAGE_TIMEOUT : ℕ
MESSAGE_TIMEOUT = 500

-- The time between two KEEPALIVE packets, in milliseconds (CTAP 2.1, section 11.2.9.1.7).
abbrev pub KEEPALIVE_PERIOD : ℕ
KEEPALIVE_PERIOD = 100

-- The data bytes in an initialization packet and `count` continuation packets.
abbrev pub data_capacity : ℕ → ℕ
data_capacity count = INIT_PACKET_DATA + CONT_PACKET_DATA * count

-- The fields of a packet of 64 bytes (CTAP 2.1, section 11.2.4, "Message and packet structure"). A packet is the list
-- of its bytes.

-- The channel ID: bytes 0 to 3.
unfoldable pub channel : List ℕ → ℕ
channel packet = big_number 4 packet

-- Whether a packet is an initialization packet: bit 7 of byte 4 is set.
unfoldable pub is_initialization : List ℕ → Bool
is_initialization packet = nat_le 128 (slice_index packet 4)

-- The command of an initialization packet, without bit 7.
unfoldable pub command : List ℕ → ℕ
command packet = slice_index packet 4 - 128

-- The message length BCNT of an initialization packet: bytes 5 and 6.
unfoldable pub message_length : List ℕ → ℕ
message_length packet = big_number 2 (drop 5 packet)

-- The data of an initialization packet: bytes 7 to 63.
unfoldable pub initialization_data : List ℕ → List ℕ
initialization_data packet = take INIT_PACKET_DATA (drop 7 packet)

-- The sequence number of a continuation packet: byte 4.
unfoldable pub sequence : List ℕ → ℕ
sequence packet = slice_index packet 4

-- The data of a continuation packet: bytes 5 to 63.
unfoldable pub continuation_data : List ℕ → List ℕ
continuation_data packet = take CONT_PACKET_DATA (drop 5 packet)

-- Whether a packet is an initialization packet with this command.
abbrev pub is_command : ℕ → List ℕ → Bool
is_command asked packet = is_initialization packet && (command packet == asked)

-- The fields of an initialization or continuation packet.
pub data Fields : Type 0 where
  initialization : (channel command length : ℕ) (data_bytes : List ℕ) → Fields
  continuation : (channel sequence : ℕ) (data_bytes : List ℕ) → Fields

-- The fields of a packet.
abbrev pub fields : List ℕ → Fields
fields packet =
    if is_initialization packet
    then initialization (channel packet) (command packet) (message_length packet) (initialization_data packet)
    else continuation (channel packet) (sequence packet) (continuation_data packet)

-- The channel ID.
abbrev pub channel_of : Fields → ℕ
channel_of (initialization cid cmd len part) = cid
channel_of (continuation cid number part) = cid

-- The command of an initialization packet, or 0 for a continuation packet.
abbrev pub command_of : Fields → ℕ
command_of (initialization cid cmd len part) = cmd
command_of (continuation cid number part) = 0

-- The message length of an initialization packet, or 0 for a continuation packet.
abbrev pub length_of : Fields → ℕ
length_of (initialization cid cmd len part) = len
length_of (continuation cid number part) = 0

-- The data bytes.
abbrev pub data_of : Fields → List ℕ
data_of (initialization cid cmd len part) = part
data_of (continuation cid number part) = part

-- The data has the full length: 57 bytes in an initialization packet, 59 bytes in a continuation packet.
abbrev pub FillsPacket : Fields → Type 0
FillsPacket (initialization cid cmd len part) = length part ≡ INIT_PACKET_DATA
FillsPacket (continuation cid number part) = length part ≡ CONT_PACKET_DATA

-- Converts the code's `View` to fields.
abbrev pub to_fields : View → Fields
to_fields (Start cid cmd len part) = initialization cid cmd len part.now
to_fields (More cid seq part) = continuation cid seq part.now
