-- The reply table: how the transport reacts to a packet (CTAP 2.1, sections 11.2.4, 11.2.5 and 11.2.9, with choices of
-- this project). The row that applies depends on the packet's fields, the number of allocated channels, the incomplete
-- message, and the channel of the pending request.
use Rattle.std.specs.Prelude.{ℕ, ◌+◌, Bool, true, false, not, ◌&&◌, ◌||◌, ◌==◌, nat_le, nat_lt, List, [], ◌∷◌, Option}
use Rattle.std.specs.Prelude.{Some, None, option_map, if◌then◌else◌}
use Rattle.hid_packet.specs.Packet.{PING, INIT, CBOR, CANCEL, BROADCAST}
use Rattle.hid_packet.specs.Packet.{Fields, initialization, continuation}
use Rattle.hid_assemble.specs.declared.table.ReplyRow.{ReplyRow}
use Rattle.hid_assemble.specs.declared.table.ReplyRow.TheVariants.{CancelsWork, CancelsNothing, NoSuchChannel}
use Rattle.hid_assemble.specs.declared.table.ReplyRow.TheVariants.{InitLength, InitFull, InitNew, InitAgain}
use Rattle.hid_assemble.specs.declared.table.ReplyRow.TheVariants.{BusyElsewhere, BusyHere, BrokenOff, NoSuchCommand}
use Rattle.hid_assemble.specs.declared.table.ReplyRow.TheVariants.{BadLength, Short, Long}
use Rattle.hid_packet.specs.Packet.{data_capacity, INIT_PACKET_DATA, MAX_MESSAGE_LEN}

-- An incomplete message: the fields of its initialization packet, its data so far, the number of its continuation
-- packets, and the time of the last packet.
pub record Open : Type 0 where
  pub cid : ℕ
  pub cmd : ℕ
  pub len : ℕ
  pub bytes : List ℕ
  pub kept : ℕ
  pub last : ℕ

-- The highest channel ID that can be allocated.
abbrev pub MAX_CHANNEL : ℕ
MAX_CHANNEL = 0xffff_fffe

-- Whether a channel is allocated: those from 1 to `given` are.
abbrev pub is_allocated : ℕ → ℕ → Bool
is_allocated given cid = nat_le 1 cid && nat_le cid given

-- Whether this channel is the busy one.
abbrev pub is_busy_here : Option ℕ → ℕ → Bool
is_busy_here None cid = false
is_busy_here (Some busy) cid = busy == cid

-- Whether another channel is the busy one.
abbrev pub is_busy_elsewhere : Option ℕ → ℕ → Bool
is_busy_elsewhere None cid = false
is_busy_elsewhere (Some busy) cid = not (busy == cid)

-- The first row whose condition is true, or else the last argument.
abbrev pub first_row : List (Bool × ReplyRow) → ReplyRow → ReplyRow
first_row [] else_row = else_row
first_row (t ∷ ts) else_row = if t.0 then t.1 else first_row ts else_row

-- The row of the reply table for an initialization packet. `current` is the channel of the incomplete message, `work`
-- the channel of the pending request.
unfoldable pub init_packet_row : ℕ → Option ℕ → Option ℕ → ℕ → ℕ → ℕ → ReplyRow
init_packet_row given current work cid cmd len =
    let asks_for_channel = (cid == BROADCAST) && (cmd == INIT) in
    first_row
    (((cmd == CANCEL) && is_busy_here work cid, CancelsWork)
    ∷ (cmd == CANCEL, CancelsNothing)
    ∷ (not (is_allocated given cid || asks_for_channel), NoSuchChannel)
    ∷ ((cmd == INIT) && not (len == 8), InitLength)
    ∷ (asks_for_channel && (given == MAX_CHANNEL), InitFull)
    ∷ (asks_for_channel, InitNew)
    ∷ (cmd == INIT, InitAgain)
    ∷ (is_busy_elsewhere current cid || is_busy_elsewhere work cid, BusyElsewhere)
    ∷ (is_busy_here work cid, BusyHere)
    ∷ (is_busy_here current cid, BrokenOff)
    ∷ (not (cmd == PING || cmd == CBOR), NoSuchCommand)
    ∷ (nat_lt MAX_MESSAGE_LEN len || (cmd == CBOR && (len == 0)), BadLength)
    ∷ (nat_le len INIT_PACKET_DATA, Short)
    ∷ []) Long

-- How a continuation packet relates to the incomplete message. Stray: no message is incomplete on its channel.
-- WrongNumber: it doesn't have the expected sequence number, and the message is dropped. Kept: it is the expected
-- packet. Whole: it is the expected packet, and completes the message.
pub data Continuation : Type 0 where
  Stray : Continuation
  WrongNumber : Continuation
  Kept : Continuation
  Whole : Continuation

-- The kind of a continuation packet, given an incomplete message of `len` bytes on channel `on` with `kept`
-- continuation packets so far.
abbrev pub continuation_kind : (on len kept cid number : ℕ) → Continuation
continuation_kind on len kept cid number =
    if not (on == cid) then Stray
    else if not (number == kept) then WrongNumber
    else if nat_lt (data_capacity (kept + 1)) len then Kept
    else Whole

-- The kind of a continuation packet. Without an incomplete message it is ignored.
unfoldable pub cont_packet_row : Option Open → ℕ → ℕ → Continuation
cont_packet_row None cid number = Stray
cont_packet_row (Some m) cid number = continuation_kind m.cid m.len m.kept cid number

-- The classification of a packet: the table row of an initialization packet, or the kind of a continuation packet.
pub data PacketClass : Type 0 where
  Begins : ReplyRow → PacketClass
  Continues : Continuation → PacketClass

-- The classification of a packet, by the number of allocated channels, the incomplete message, and the channel of the
-- pending request.
unfoldable pub packet_class : ℕ → Option Open → Option ℕ → Fields → PacketClass
packet_class given current work (initialization cid cmd len part) =
    Begins (init_packet_row given (option_map (λ m. m.cid) current) work cid cmd len)
packet_class given current work (continuation cid number part) = Continues (cont_packet_row current cid number)

-- Whether a packet is noise, which changes nothing: a CANCEL without a pending request on its channel; an
-- initialization packet on a channel that isn't allocated, except INIT on the broadcast channel; an initialization
-- packet other than INIT while another channel is busy or a request is pending on its channel; or a continuation packet
-- without an incomplete message on its channel.
abbrev pub is_noise : PacketClass → Bool
is_noise (Begins CancelsNothing) = true
is_noise (Begins NoSuchChannel) = true
is_noise (Begins BusyElsewhere) = true
is_noise (Begins BusyHere) = true
is_noise (Continues Stray) = true
is_noise _ = false
