-- The queued packets of an outbox, computed from its entries and the bytes of its ring buffer.
use Rattle.std.specs.Prelude.{◌≡◌, ℕ, ◌+◌, ◌*◌, ◌-◌, ◌<◌, ◌≤◌, List, [], ◌∷◌, ◌++◌, length, take, drop, sum_by}
use Rattle.std.specs.List.{AllByRecursion}
use Rattle.hid_packet.specs.{Message.packets_left, declared.fragments.NextPacket.NextPacket}
use Rattle.hid_packet.specs.declared.queued.Queued.{Queued, TheVariants.Whole, TheVariants.Part}
use Rattle.hid_packet.specs.declared.fragments.NextPacket.TheVariants.{Initialization, Continuation}
use Rattle.hid_packet.specs.Packet.{CONT_PACKET_DATA, MAX_MESSAGE_LEN, OUTBOX_CAPACITY}

-- `len` items of a ring buffer from index `first` on. After the last index, index 0 follows.
abbrev pub window : {X : Type 0} → (first len : ℕ) → List X → List X
window first len ring = take len (drop first ring ++ take first ring)

-- The ring buffer after `front` was written at index `place`, and `back` at index 0.
abbrev pub with_overwritten : (place : ℕ) (front back ring : List ℕ) → List ℕ
with_overwritten place front back ring = back ++ drop (length back)
    (take place ring ++ (front ++ drop (place + length front) ring))

-- The number of bytes of the ring buffer that belong to a queue entry.
abbrev pub entry_len : Queued → ℕ
entry_len Whole = 64
entry_len (Part message) = message.left

-- The packets of a queue entry.
abbrev pub entry_packets : Queued → List ℕ → List (List ℕ)
entry_packets Whole bytes = bytes ∷ []
entry_packets (Part message) bytes = packets_left message.cid message.due bytes

-- The packets of all queue entries, in order.
unfoldable pub queued_packets : List Queued → List ℕ → List (List ℕ)
queued_packets [] bytes = []
queued_packets (entry ∷ more) bytes = entry_packets entry (take (entry_len entry) bytes)
    ++ queued_packets more (drop (entry_len entry) bytes)

-- The message has at least one packet left to send, and its remaining bytes fit into the remaining packets.
abbrev pub HasPacketLeft : NextPacket → ℕ → Type 0
HasPacketLeft (Initialization cmd) left = (cmd < 128) × (left ≤ MAX_MESSAGE_LEN)
HasPacketLeft (Continuation number) left = (0 < left) × (left ≤ CONT_PACKET_DATA * (128 - number))

-- The entry has at least one packet left to send.
abbrev pub HasEntryPacket : Queued → Type 0
HasEntryPacket Whole = Unit {0}
HasEntryPacket (Part message) = HasPacketLeft message.due message.left

-- `bytes` has as many bytes as the entries need, and each entry has a packet left to send.
pub record AreEntriesOf (entries : List Queued) (bytes : List ℕ) : Type 0 where
  pub due : AllByRecursion HasEntryPacket entries
  pub sum : sum_by entry_len entries ≡ length bytes

-- The entries and the bytes of the ring buffer are those of an outbox with `len` packets, within its capacity.
pub record IsQueued (entries : List Queued) (bytes : List ℕ) (len : ℕ) : Type 0 where
  pub held : AreEntriesOf entries bytes
  pub counted : len ≡ length (queued_packets entries bytes)
  pub few : len ≤ OUTBOX_CAPACITY
