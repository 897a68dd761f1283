-- The state of a tracker after the lines of a log, which are given newest first.
use Rattle.std.specs.Prelude.{ℕ, Bool, false, ◌&&◌, ◌==◌, nat_le, List, [], ◌++◌, replicate, take, drop, length}
use Rattle.std.specs.Prelude.{Option, Some, None, if◌then◌else◌, ◌≡◌, true, max, ◌∷◌, is_some, is_none, ◌+◌, ◌||◌}
use Rattle.std.specs.Prelude.{nat_lt, count_by, option_map, slice_get, position}
use Rattle.byteorder.specs.Endian.{big_number}
use Rattle.sha2.specs.Sha256.{sha256}
use Rattle.authn_core.specs.Views.{Needed, nothing, presence, key, sign}
use Rattle.hid_packet.specs.Packet.{BROADCAST, CBOR, ERROR, KEEPALIVE, Fields, initialization, continuation, CANCEL}
use Rattle.token_session.specs.declared.input.Input.{Input}
use Rattle.session_walk.specs.Ends.{has_status}
use Rattle.session_walk.specs.declared.answer.ResponseStart.{ResponseStart}
use Rattle.session_walk.specs.declared.awaited.AwaitedReply.{AwaitedReply}
use Rattle.session_walk.specs.declared.awaited.AwaitedReply.TheVariants.{Key, Presence, Signature}
use Rattle.session_walk.specs.declared.rp_id.RpId.{RpId}
use Rattle.session_walk.specs.declared.transaction.Transaction.{Transaction}
use Rattle.session_log.specs.declared.line.Line.{Line}
use Rattle.session_log.specs.declared.line.Line.TheVariants.{Input as InputLine, Sent, Comment, Count}
use Rattle.session_walk.specs.declared.channel.Channel.{Channel}
use Rattle.session_walk.specs.declared.channel.ContinuationMatch.{ContinuationMatch}
use Rattle.session_walk.specs.declared.channel.ResponseMessage.{ResponseMessage}
use Rattle.session_walk.specs.declared.ambiguous.AmbiguousPacket.{AmbiguousPacket}
use Rattle.session_walk.specs.declared.transaction.TransactionEnd.{TransactionEnd}
use Rattle.session_walk.specs.declared.transaction.OpenTransaction.{OpenTransaction}
use Rattle.session_walk.specs.declared.transaction.End.{End}
use Rattle.session_walk.specs.declared.transaction.End.TheVariants.{Status, Answered}
use Rattle.session_walk.specs.declared.tracker.TransactionTracker.{TransactionTracker}
use Rattle.session_walk.specs.Owners.{with_end, is_owner_unknown, is_in_process, continued_message}
use Rattle.session_walk.specs.Owners.{match_if_incomplete}
use Rattle.session_walk.specs.Messages.{is_whole}
use Rattle.std.specs.Option.{option_and_then}
use Rattle.token_session.specs.declared.input.Input.TheVariants as input

-- ---- what a packet of the device states by itself, and the requests to which the caller's replies belong

-- The reply that satisfies a need.
abbrev pub reply_to_need : Needed → Option AwaitedReply
reply_to_need nothing = None
reply_to_need presence = Some Presence
reply_to_need key = Some Key
reply_to_need (sign id signed) = Some Signature

-- The kind of the reply in an input, or None if the input is not a reply of the caller.
abbrev pub kind_of_input : Input → Option AwaitedReply
kind_of_input (input.Packet packet) = None
kind_of_input input.Tick = None
kind_of_input (input.Presence reply) = Some Presence
kind_of_input (input.Key reply) = Some Key
kind_of_input (input.Signature reply) = Some Signature

-- No RP ID.
abbrev pub no_rp_id : RpId
no_rp_id = record { bytes = replicate 253 0; len = 0 }

-- Whether the response is a CBOR response with status 0x00.
abbrev pub is_success : ResponseStart → Bool
is_success answer = (answer.command == CBOR) && has_status 0 answer.status

-- Whether the transaction is an authenticatorGetAssertion.
abbrev pub is_assertion : Option Transaction → Bool
is_assertion None = false
is_assertion (Some transaction) = has_status 2 transaction.command

-- The channel that a response to INIT allocates (CTAP 2.1, section 11.2.9.1.3): the four bytes after the nonce, or the
-- broadcast channel if the response is too short.
abbrev pub allocated_channel : List ℕ → ℕ
allocated_channel part = if nat_le 12 (length part) then big_number 4 (drop 8 part) else BROADCAST

-- The bytes of an RP ID.
abbrev pub rp_id_bytes : RpId → List ℕ
rp_id_bytes rp = if nat_le rp.len (length rp.bytes) then take rp.len rp.bytes else []

-- The identifier of a credential ID or user handle: the first 16 bytes of the hash over the RP ID hash and the ID.
abbrev pub identifier : (rp id : List ℕ) → List ℕ
identifier rp id = take 16 (sha256 (rp ++ id))

-- ---- the latest timestamp, the last input, and the tracker's lists

-- The latest timestamp after one more line.
abbrev pub time_after_line : ℕ → Line → ℕ
time_after_line now (InputLine timed) = max now timed.at
time_after_line now (Sent packet) = now
time_after_line now Comment = now
time_after_line now Count = now

-- The latest timestamp of the lines.
abbrev pub time_of_lines : List Line → ℕ
time_of_lines [] = 0
time_of_lines (line ∷ before) = time_after_line (time_of_lines before) line

-- The line of the last input after one more line.
abbrev pub input_line_after : ℕ → ℕ → Line → ℕ
input_line_after before number (InputLine timed) = number
input_line_after before number (Sent packet) = before
input_line_after before number Comment = before
input_line_after before number Count = before

-- The line of the last input. Lines are numbered from 1.
abbrev pub last_input_line : List Line → ℕ
last_input_line [] = 0
last_input_line (line ∷ before) = input_line_after (last_input_line before) (length before + 1) line

-- The tracker's latest timestamp and line of the last input are those of these lines.
pub record IsTrackerAfter (lines : List Line) (walk : TransactionTracker) : Type 0 where
  pub moment : walk.now ≡ time_of_lines lines
  pub input : walk.input ≡ last_input_line lines

-- The minimum time-out of a message in any device, in milliseconds: a continuation packet that arrives at least this
-- long after the previous packet may be too late (CTAP 2.1, section 11.2.5.2).
abbrev pub MIN_TIMEOUT_MS : ℕ
MIN_TIMEOUT_MS = 100

-- The ambiguous packet after a continuation packet: this packet if it may have arrived too late, or else the previous
-- ambiguous packet.
abbrev pub ambiguous_after : ℕ → Line → Option ContinuationMatch → Option AmbiguousPacket → Option AmbiguousPacket
ambiguous_after number parsed None before = before
ambiguous_after number parsed (Some c) before =
    if nat_le MIN_TIMEOUT_MS c.gap
    then Some (record {
      line = number;
      parsed = parsed;
      transaction = c.transaction;
      is_next = c.is_next;
      is_whole = c.is_whole && is_some c.transaction.command;
      data_len = c.data_len;
    })
    else before

-- The transaction that a continuation packet continues.
abbrev pub continued_transaction : Option ContinuationMatch → Option Transaction
continued_transaction None = None
continued_transaction (Some c) = Some c.transaction

-- The line of the message that a continuation packet continues, or 0.
abbrev pub continued_message_line : Option ContinuationMatch → ℕ
continued_message_line None = 0
continued_message_line (Some c) = if c.is_next then c.transaction.line else 0

-- The transaction of an ambiguous packet, or None if the packet arrived too late.
abbrev pub resolved_transaction : Bool → AmbiguousPacket → Option Transaction
resolved_transaction true d = None
resolved_transaction false d = Some d.transaction

-- The end of a transaction by a complete response: its status, if any.
abbrev pub complete_response_end : Option ℕ → End
complete_response_end (Some status) = Status status
complete_response_end None = Answered

-- The ended transactions, followed by the one that a complete response ends.
abbrev pub answered_by : Option OpenTransaction → Option ℕ → List TransactionEnd → List TransactionEnd
answered_by None status ended = ended
answered_by (Some exchange) status ended = with_end ended exchange (complete_response_end status)

-- The ended transactions, followed by the one that a complete response ends.
abbrev pub answered : ResponseMessage → ℕ → List TransactionEnd → List TransactionEnd
answered last_response message_start ended =
    if (last_response.line == message_start) && is_whole last_response.progress.length last_response.progress.continuations
    then answered_by last_response.exchange last_response.status ended else ended

-- The channel at an index.
abbrev pub IsAt : ℕ → TransactionTracker → Channel → Type 0
IsAt place walk channel = slice_get walk.channels.list place ≡ Some channel

-- Whether a KEEPALIVE states that the request waits for a reply of the caller.
abbrev pub reports_waiting : Option OpenTransaction → Bool
reports_waiting None = false
reports_waiting (Some m) = is_some m.awaited && is_none m.cancelled

-- Whether a request on the channel waits for the caller's reply. With `true`, a KEEPALIVE must state this. With
-- `false`, it suffices that a request may be pending.
abbrev pub may_wait : Bool → Channel → Bool
may_wait true c = reports_waiting c.current
may_wait false c = is_owner_unknown c || (c.has_ambiguous_keepalive || (is_in_process c.current || is_in_process c.contender))

-- The number of channels with a request that waits according to a KEEPALIVE. If there are none, the number of channels
-- with a request that may wait.
abbrev pub waiting_on : List Channel → ℕ
waiting_on channels =
    let parsed = count_by (may_wait true) channels in if parsed == 0 then count_by (may_wait false) channels else parsed

-- The status of a response or KEEPALIVE, or the code of an ERROR.
abbrev pub status_of : (command len : ℕ) → List ℕ → Option ℕ
status_of command len [] = None
status_of command len (first ∷ rest) =
    if ((command == CBOR) || (command == KEEPALIVE)) && nat_lt 0 len || (command == ERROR) then Some first else None

-- The timestamp of the last packet of a message.
abbrev pub packet_time_of : Option OpenTransaction → Option ℕ
packet_time_of None = None
packet_time_of (Some m) = Some m.at

-- The timestamp of the last packet of a channel's current message.
abbrev pub current_time_at : ℕ → TransactionTracker → Option (Option ℕ)
current_time_at place walk = option_map (λ c. packet_time_of c.current) (slice_get walk.channels.list place)

-- Whether the tracked channel has this ID.
abbrev pub has_channel_id : ℕ → Channel → Bool
has_channel_id number c = nat_lt 0 c.used && (c.number == number)

-- The index of the first of the six tracked channels that passes a test.
abbrev pub tracked_index : Option ℕ → Option ℕ
tracked_index None = None
tracked_index (Some place) = if nat_lt place 6 then Some place else None

-- The index of the channel with this ID.
abbrev pub index_on : ℕ → List Channel → Option ℕ
index_on number channels = tracked_index (position (has_channel_id number) channels)

-- The tracked channel with this ID.
abbrev pub channel_on : ℕ → List Channel → Option Channel
channel_on number channels = option_and_then (slice_get channels) (index_on number channels)

-- The line of the initialization packet of the message to which a host's packet belongs, or 0.
abbrev pub host_message : (line : ℕ) → Fields → (now : ℕ) → Channel → ℕ
host_message line (initialization channel command size part) now c = if command == CANCEL then 0 else line
host_message line (continuation channel number part) now c =
    continued_message_line (match_if_incomplete number now (continued_message number c))
