-- The two messages whose bytes are stored at a time (CTAP 2.1, section 11.2.4, "Message and packet structure").
use Rattle.std.specs.Prelude.{ℕ, min, Bool, ◌&&◌, nat_le, ◌≡◌, ◌≢◌, ◌≤◌, ◌<◌, ◌-◌, ◌==◌, ◌++◌, ◌⊎◌, ◌||◌, List}
use Rattle.std.specs.Prelude.{length, take, Option, None, Some, IfSome, option_map, if◌then◌else◌}
use Rattle.hid_packet.specs.Packet.{MAX_MESSAGE_LEN, data_capacity, continuation}
use Rattle.hid_packet.specs.Packet.{initialization}
use Rattle.std.specs.Option.{option_and_then}

-- ---- how much of a message was received

-- The bytes of a message of `len` bytes in its initialization packet and `count` continuation packets.
abbrev pub bytes_received : (len count : ℕ) → ℕ
bytes_received len count = min len (data_capacity count)

-- Whether the message is complete. A message over the maximum length is never complete.
abbrev pub is_whole : (len count : ℕ) → Bool
is_whole len count = nat_le len MAX_MESSAGE_LEN && nat_le len (data_capacity count)

-- ---- the stored messages

-- A stored message: the line of its initialization packet, or 0 if the buffer is free, its length, and the bytes
-- received.
pub record KeptMessage : Type 0 where
  pub line : ℕ
  pub size : ℕ
  pub bytes : List ℕ

-- The stored messages, and which buffer was used last.
pub record KeptMessages : Type 0 where
  pub first : KeptMessage
  pub second : KeptMessage
  pub is_first_last : Bool

-- The stored message of this length that begins at a line, with the data of its initialization packet.
abbrev pub new_message : (number size : ℕ) (part : List ℕ) → KeptMessage
new_message number size part = record { line = number; size = size; bytes = take size part }

-- The stored message with the data of one more packet, up to its length.
abbrev pub continued : List ℕ → KeptMessage → KeptMessage
continued part m = record m { bytes = m.bytes ++ take (m.size - length m.bytes) part }

-- The stored message that began at a line, if any.
abbrev pub kept_at : KeptMessages → ℕ → Option KeptMessage
kept_at kept line =
    if line == 0 then None
    else if kept.first.line == line then Some kept.first
    else if kept.second.line == line then Some kept.second
    else None

-- The bytes of a complete message.
abbrev pub all_bytes : KeptMessage → Option (List ℕ)
all_bytes m = if length m.bytes == m.size then Some m.bytes else None

-- The bytes of the complete message that began at a line, if stored.
abbrev pub complete_bytes_at : KeptMessages → ℕ → Option (List ℕ)
complete_bytes_at kept line = option_and_then all_bytes (kept_at kept line)

-- The stored message. If it began at this line, it is dropped.
abbrev pub released : (line : ℕ) → KeptMessage → KeptMessage
released line m = record m { line = if m.line == line then 0 else m.line }

-- The line of the message that a new message evicts: the one in the buffer that was used less recently, or 0 if a
-- buffer is free.
abbrev pub evicted_line : (line : ℕ) → KeptMessages → ℕ
evicted_line line kept =
    let first = (released line kept.first).line in
    let second = (released line kept.second).line in
    if (first == 0) || (second == 0) then 0
    else if kept.is_first_last then second
    else first

-- Whether a message of this length is neither empty nor longer than the maximum.
pub record CanBeKept (size : ℕ) : Type 0 where
  pub some : 0 < size
  pub short : size ≤ MAX_MESSAGE_LEN

-- Every stored message was stored before.
abbrev pub KeepsOnly : (before after : KeptMessages) → Type 0
KeepsOnly before after = (line : ℕ) → IfSome (kept_at after line) (λ m. kept_at before line ≡ Some m)

-- The packet continues a stored message.
abbrev pub Continues : (part : List ℕ) → Option KeptMessage → KeptMessage → Type 0
Continues part before m = option_map (continued part) before ≡ Some m

-- The packet begins a stored message.
abbrev pub Begins : (number size : ℕ) (part : List ℕ) → KeptMessage → Type 0
Begins number size part m = CanBeKept size × (m ≡ new_message number size part)

-- The packet begins or continues the message that began at line `transaction`, if it is stored. The other stored
-- message is unchanged.
pub record AddsData (number size : ℕ) (part : List ℕ) (transaction : ℕ) (before after : KeptMessages) : Type 0 where
  pub own : IfSome (kept_at after transaction) (λ m. Continues part (kept_at before transaction) m ⊎ Begins number size part m)
  pub others : (line : ℕ) → line ≢ transaction → IfSome (kept_at after line) (λ m. kept_at before line ≡ Some m)
