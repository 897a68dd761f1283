-- Why a packet is rejected: the values compared by a row of the reply table, and the error code in the ERROR packet
-- (CTAP 2.1, section 11.2.9.1.6).
use Rattle.std.specs.Prelude.{ℕ, Option, Some, None, unwrap_or, if◌then◌else◌}
use Rattle.hid_packet.specs.Packet.{Fields, initialization, continuation}
use Rattle.hid_assemble.specs.Table.{Open, is_busy_elsewhere}
use Rattle.hid_assemble.specs.declared.refusal.Refusal.{Refusal}
use Rattle.hid_assemble.specs.declared.refusal.Refusal.TheVariants.{NoSuchCommand, InitLength, MessageLength}
use Rattle.hid_assemble.specs.declared.refusal.Refusal.TheVariants.{WrongNumber, BrokenOff, Overdue, BusyElsewhere}
use Rattle.hid_assemble.specs.declared.refusal.Refusal.TheVariants.{BusyHere, NoSuchChannel, NoChannelLeft}

-- The error code in the ERROR packet (CTAP 2.1, section 11.2.9.1.6).
abbrev pub code_number : Refusal → ℕ
code_number (NoSuchCommand cmd) = 0x01
code_number (InitLength len) = 0x03
code_number (MessageLength cmd len) = 0x03
code_number (WrongNumber came due) = 0x04
code_number (BrokenOff due) = 0x04
code_number (Overdue last at) = 0x05
code_number (BusyElsewhere channel) = 0x06
code_number BusyHere = 0x06
code_number (NoSuchChannel given) = 0x0b
code_number NoChannelLeft = 0x7f

-- The sequence number expected next in the incomplete message, or 0 if there is none.
abbrev pub expected_sequence_of : Option Open → ℕ
expected_sequence_of None = 0
expected_sequence_of (Some m) = m.kept

-- The time of the incomplete message's last packet, or 0 if there is none.
abbrev pub last_packet_time : Option Open → ℕ
last_packet_time None = 0
last_packet_time (Some m) = m.last

-- The sequence number of a continuation packet, or 0 for an initialization packet.
abbrev pub sequence_of : Fields → ℕ
sequence_of (initialization cid cmd len part) = 0
sequence_of (continuation cid number part) = number

-- The other channel that is busy: that of the incomplete message, or else that of the pending request.
abbrev pub busy_channel : Option ℕ → Option ℕ → ℕ → ℕ
busy_channel current work cid = if is_busy_elsewhere current cid then unwrap_or current cid else unwrap_or work cid
