-- The state of message assembly, and how each row of the reply table changes it (CTAP 2.1, section 11.2.4).
use Rattle.std.specs.Prelude.{◌≡◌, ℕ, ◌+◌, ◌≤◌, ◌<◌, ◌⊎◌, Bool, false, ◌==◌, nat_le, List, [], ◌++◌, take, length}
use Rattle.std.specs.Prelude.{Option, Some, None, option_map, if◌then◌else◌}
use Rattle.hid_packet.specs.Packet.{PING, CBOR, Fields, channel_of, command_of, length_of, data_of, data_capacity}
use Rattle.hid_packet.specs.Packet.{INIT_PACKET_DATA, MAX_MESSAGE_LEN, MESSAGE_TIMEOUT}
use Rattle.hid_assemble.specs.Table.{Open, PacketClass, Begins, Continues, MAX_CHANNEL, packet_class, Stray}
use Rattle.hid_assemble.specs.Table.{WrongNumber, Kept, Whole}
use Rattle.hid_assemble.specs.declared.table.ReplyRow.TheVariants.{InitLength, InitNew, InitAgain, BrokenOff, Short}
use Rattle.hid_assemble.specs.declared.table.ReplyRow.TheVariants.{Long}
use Rattle.hid_assemble.specs.declared.assembler.OpenMessage.{OpenMessage}
use Rattle.hid_assemble.specs.declared.assembler.Contents.{Contents}
use Rattle.hid_assemble.specs.declared.assembler.Contents.TheVariants.{Nothing, Open as HoldsOpen, Finished}

-- ---- the state, and its changes

-- A complete message.
pub record Message : Type 0 where
  pub cid : ℕ
  pub cmd : ℕ
  pub bytes : List ℕ

-- The state of message assembly: the number of allocated channels, the incomplete message, if any, and the data of the
-- message that the last packet completed.
pub record Assembly : Type 0 where
  pub given : ℕ
  pub current : Option Open
  pub finished : List ℕ

-- Whether the incomplete message, if any, timed out: 500 ms after its last packet (CTAP 2.1, section 11.2.5.2).
unfoldable pub is_overdue : Option Open → ℕ → Bool
is_overdue None at = false
is_overdue (Some m) at = nat_le (m.last + MESSAGE_TIMEOUT) at

-- The incomplete message, or None if it timed out.
abbrev pub still_open : Option Open → ℕ → Option Open
still_open current at = if is_overdue current at then None else current

-- The number of data bytes stored for the incomplete message: 57 from its initialization packet, and 59 from each
-- continuation packet.
abbrev pub stored_len : Option Open → ℕ
stored_len None = 0
stored_len (Some m) = data_capacity m.kept

-- The number of allocated channels after a packet.
abbrev pub channels_after : ℕ → PacketClass → ℕ
channels_after given (Begins InitNew) = given + 1
channels_after given _ = given

-- The incomplete message after its initialization packet.
abbrev pub open_message : ℕ → Fields → Open
open_message at f = record {
  cid = channel_of f;
  cmd = command_of f;
  len = length_of f;
  bytes = data_of f;
  kept = 0;
  last = at;
}

-- The incomplete message with the data of one more continuation packet.
abbrev pub with_continuation : ℕ → Fields → Open → Open
with_continuation at f m = record {
  cid = m.cid;
  cmd = m.cmd;
  len = m.len;
  bytes = m.bytes ++ data_of f;
  kept = m.kept + 1;
  last = at;
}

-- The incomplete message, or None if it is on this channel.
abbrev pub drop_on : Option Open → ℕ → Option Open
drop_on None cid = None
drop_on (Some m) cid = if m.cid == cid then None else Some m

-- The incomplete message after a packet.
unfoldable pub open_after : Option Open → ℕ → Fields → PacketClass → Option Open
open_after current at f (Begins InitLength) = drop_on current (channel_of f)
open_after current at f (Begins InitAgain) = drop_on current (channel_of f)
open_after current at f (Begins BrokenOff) = None
open_after current at f (Begins Short) = None
open_after current at f (Begins Long) = Some (open_message at f)
open_after current at f (Begins _) = current
open_after current at f (Continues Stray) = current
open_after current at f (Continues WrongNumber) = None
open_after current at f (Continues Kept) = option_map (with_continuation at f) current
open_after current at f (Continues Whole) = None

-- The message that a packet completes: the first `len` bytes of its packets' data.
abbrev pub completed_by : Fields → Open → Message
completed_by f m = record { cid = m.cid; cmd = m.cmd; bytes = take m.len (m.bytes ++ data_of f) }

-- The message that a packet completes, if any.
unfoldable pub message_after : Option Open → Fields → PacketClass → Option Message
message_after current f (Begins Short) = Some (record {
  cid = channel_of f;
  cmd = command_of f;
  bytes = take (length_of f) (data_of f);
})
message_after current f (Continues Whole) = option_map (completed_by f) current
message_after current f _ = None

-- The bytes of a message. Without a message, the empty list.
abbrev pub bytes_of : Option Message → List ℕ
bytes_of None = []
bytes_of (Some m) = m.bytes

-- The state after a packet, by its row of the reply table.
abbrev pub assembly_after_class : Assembly → ℕ → Fields → PacketClass → Assembly
assembly_after_class a at f ruling =
    record {
      given = channels_after a.given ruling;
      current = open_after a.current at f ruling;
      finished = bytes_of (message_after a.current f ruling);
    }

-- The state after a packet with these fields. `work` is the channel of the pending request, if any.
unfoldable pub accepted : Assembly → ℕ → Option ℕ → Fields → Assembly
accepted a at work f = assembly_after_class a at f (packet_class a.given a.current work f)

-- The invariant of an incomplete message: PING or CBOR, on an allocated channel, and longer than the data received so
-- far.
pub record IsOpenMessage (given cid cmd len kept : ℕ) : Type 0 where
  pub low : 1 ≤ cid
  pub high : cid ≤ given
  pub served : (cmd ≡ PING) ⊎ (cmd ≡ CBOR)
  pub longer : INIT_PACKET_DATA < len
  pub longest : len ≤ MAX_MESSAGE_LEN
  pub more : data_capacity kept < len

-- The incomplete message, if any, satisfies the invariant of `IsOpenMessage`.
abbrev pub OpenIsValid : ℕ → Option Open → Type 0
OpenIsValid given None = Unit {0}
OpenIsValid given (Some m) = IsOpenMessage given m.cid m.cmd m.len m.kept × (length m.bytes ≡ data_capacity m.kept)

-- The invariant of the state of message assembly.
pub record IsValidAssembly (a : Assembly) : Type 0 where
  pub channels : a.given ≤ MAX_CHANNEL
  pub current : OpenIsValid a.given a.current
  pub short : length a.finished ≤ MAX_MESSAGE_LEN

-- ---- the state that the fields of an `Assembler` represent

-- Converts the code's incomplete message, whose data is at the beginning of the buffer, to the specification's `Open`.
abbrev pub stored_open_message : List ℕ → OpenMessage → Open
stored_open_message buffer m = record {
  cid = m.cid;
  cmd = m.cmd;
  len = m.len;
  bytes = take (data_capacity m.kept) buffer;
  kept = m.kept;
  last = m.last;
}

-- The incomplete message in the code's state, if any.
abbrev pub stored_open : List ℕ → Contents → Option Open
stored_open buffer Nothing = None
stored_open buffer (HoldsOpen m) = Some (stored_open_message buffer m)
stored_open buffer (Finished len) = None

-- The bytes of the completed message in the code's state. Without a completed message, the empty list.
abbrev pub stored_finished : List ℕ → Contents → List ℕ
stored_finished buffer Nothing = []
stored_finished buffer (HoldsOpen m) = []
stored_finished buffer (Finished len) = take len buffer

-- The state that the code's fields and buffer represent.
unfoldable pub assembly : ℕ → Contents → List ℕ → Assembly
assembly given contents buffer = record {
  given = given;
  current = stored_open buffer contents;
  finished = stored_finished buffer contents;
}

-- The code's fields satisfy the invariant for this number of allocated channels.
abbrev pub AreValidContents : ℕ → Contents → Type 0
AreValidContents given Nothing = Unit {0}
AreValidContents given (HoldsOpen m) = IsOpenMessage given m.cid m.cmd m.len m.kept
AreValidContents given (Finished len) = len ≤ MAX_MESSAGE_LEN

-- The invariant of the code's state and of its buffer.
pub record IsValidState (given : ℕ) (contents : Contents) (buffer : List ℕ) : Type 0 where
  pub channels : given ≤ MAX_CHANNEL
  pub size : length buffer ≡ MAX_MESSAGE_LEN
  pub held : AreValidContents given contents
