-- The open transactions of a channel after the lines of a log, as a function of those before the last line (CTAP 2.1,
-- sections 11.2.4 and 11.2.5; docs/use/EXPLAINED.md).
use Rattle.std.specs.Prelude.{ℕ, Bool, true, false, not, ◌&&◌, ◌||◌, ◌==◌, nat_le, nat_lt, ◌+◌, ◌-◌, min, max, List, []}
use Rattle.std.specs.Prelude.{◌∷◌, ◌++◌, length, Option, Some, None, if◌then◌else◌}
use Rattle.byteorder.specs.Endian.{big_number}
use Rattle.hid_packet.specs.Packet.{PING, INIT}
use Rattle.hid_packet.specs.Packet.{CONT_PACKET_DATA}
use Rattle.session_walk.specs.Messages.{bytes_received, is_whole}
use Rattle.session_walk.specs.declared.channel.{Channel.Channel, ContinuationMatch.ContinuationMatch, PendingInit.PendingInit}
use Rattle.session_walk.specs.declared.transaction.{TransactionEnd.TransactionEnd, OpenTransaction.OpenTransaction, Transaction.Transaction}
use Rattle.session_walk.specs.declared.transaction.End.{End}
use Rattle.session_walk.specs.declared.transaction.End.TheVariants.{Dropped, Unknown, Replaced}

-- The ended transactions, followed by another one. At most eight are kept.
abbrev pub with_end : List TransactionEnd → OpenTransaction → End → List TransactionEnd
with_end ended exchange end = if nat_lt (length ended) 8 then ended ++ record { exchange = exchange; end = end } ∷ [] else ended

-- The ended transactions, followed by that of the current message, if any.
abbrev pub with_end_of : List TransactionEnd → Option OpenTransaction → End → List TransactionEnd
with_end_of ended None end = ended
with_end_of ended (Some current) end = with_end ended current end

-- Whether the message is complete.
abbrev pub is_complete_message : OpenTransaction → Bool
is_complete_message m = is_whole m.progress.length m.progress.continuations

-- Whether the device is processing the message: it is complete, and neither PING nor INIT.
abbrev pub is_in_process : Option OpenTransaction → Bool
is_in_process None = false
is_in_process (Some m) =
    is_complete_message m && not ((m.transaction.message == PING) || (m.transaction.message == INIT))

-- Whether it is unknown to which of the channel's messages a device packet belongs.
abbrev pub is_owner_unknown : Channel → Bool
is_owner_unknown c = c.is_ambiguous || nat_lt 0 c.ambiguous_count

-- The channel with one more message that may still be pending.
abbrev pub with_unidentified : ℕ → Channel → Channel
with_unidentified line c = record c { ambiguous_count = min 255 (c.ambiguous_count + 1); last_lost_line = max c.last_lost_line line }

-- How `current` ends when `contender`, which a host began while `current` was open, takes its place.
abbrev pub replaced_end : (contender current : OpenTransaction) → (cancelled : Option ℕ) → End
replaced_end contender current (Some line) = Dropped line
replaced_end contender current None = if is_complete_message current then Unknown else Replaced contender.transaction.line

-- How `current` ends when `contender` takes its place: unknown if no packet shows that the device accepted the
-- contender.
abbrev pub end_of_current : Bool → (contender current : OpenTransaction) → End
end_of_current true contender current = replaced_end contender current current.cancelled
end_of_current false contender current = Unknown

-- The channel after the contender replaced its current message. Unless a device packet shows this (true), the current
-- message may still be pending.
abbrev pub without_current : Bool → OpenTransaction → Channel → Channel
without_current true current c = record c { is_ambiguous = false }
without_current false current c =
    with_unidentified current.transaction.line (record c { is_ambiguous = false; last_active_at = max c.last_active_at current.at })

-- The contender becomes the channel's current message.
abbrev pub with_contender_accepted : Bool → OpenTransaction → Option OpenTransaction → Channel → Channel
with_contender_accepted is_shown contender None c = record c { contender = None; current = Some contender }
with_contender_accepted is_shown contender (Some current) c = record (without_current is_shown current c) { contender = None; current = Some contender }

-- The channel after its contender, if any, was accepted.
abbrev pub contender_accepted_by : Bool → Option OpenTransaction → Channel → Channel
contender_accepted_by is_shown None c = c
contender_accepted_by is_shown (Some contender) c = with_contender_accepted is_shown contender c.current c

-- The channel after its contender was accepted, either because a packet shows it or because the contender wasn't
-- refused.
abbrev pub contender_accepted : Bool → Channel → Channel
contender_accepted is_shown c = contender_accepted_by is_shown c.contender c

-- The ended transactions, followed by that of the current message if the contender takes its place.
abbrev pub ends_by_contender_of : Bool → (contender current : Option OpenTransaction) → List TransactionEnd → List TransactionEnd
ends_by_contender_of is_shown None current ended = ended
ends_by_contender_of is_shown (Some contender) None ended = ended
ends_by_contender_of is_shown (Some contender) (Some current) ended = with_end ended current (end_of_current is_shown contender current)

-- The ended transactions, with that of the current message if the contender takes its place.
abbrev pub ends_by_contender : Bool → Channel → List TransactionEnd → List TransactionEnd
ends_by_contender is_shown c ended = ends_by_contender_of is_shown c.contender c.current ended

-- The channel without its current message. The contender becomes the current message.
abbrev pub current_ended_of : Option OpenTransaction → Channel → Channel
current_ended_of None c = c
current_ended_of (Some current) c = record c { current = c.contender; contender = None }

-- The channel without its current message. The contender becomes the current message.
abbrev pub current_ended : Channel → Channel
current_ended c = current_ended_of c.current c

-- The nonce of an INIT, or 0 if it has fewer than 8 bytes.
abbrev pub nonce_of : List ℕ → ℕ
nonce_of part = if nat_le 8 (length part) then big_number 8 part else 0

-- An unanswered INIT.
abbrev pub pending_init : OpenTransaction → List ℕ → PendingInit
pending_init m part = record {
  line = m.transaction.line;
  at = m.at;
  length = m.progress.length;
  nonce = nonce_of part;
}

-- The channel after a new message, which becomes the current message, or the contender if there is a current message.
abbrev pub place_message : OpenTransaction → Option OpenTransaction → Channel → Channel
place_message m None c = record c { current = Some m }
place_message m (Some current) c = record c { contender = Some (record m { delay = m.at - current.at }) }

-- The time in milliseconds after which a device that sent no packet is assumed to process no request.
abbrev pub IDLE_TIMEOUT_MS : ℕ
IDLE_TIMEOUT_MS = 500

-- The channel after a packet of the host. After half a second without packets, no unidentified message is pending.
abbrev pub after_idle : ℕ → Channel → Channel
after_idle at c = record c { last_was_stray = false; ambiguous_count = if nat_le IDLE_TIMEOUT_MS (at - c.last_active_at) then 0 else c.ambiguous_count }

-- The channel after a message began.
abbrev pub channel_with_message : OpenTransaction → Channel → Channel
channel_with_message m before =
    let c = contender_accepted false (after_idle m.at before) in
    place_message m c.current (record c { last_was_init = false })

-- Whether the message is incomplete and expects this sequence number (CTAP 2.1, section 11.2.4).
abbrev pub expects_sequence : ℕ → Option OpenTransaction → Bool
expects_sequence number None = false
expects_sequence number (Some m) = (m.progress.continuations == number) && not (is_complete_message m)

-- The message after a continuation packet.
abbrev pub with_continuation : ℕ → ℕ → OpenTransaction → OpenTransaction
with_continuation number now m =
    if m.progress.continuations == number
    then record m { progress = record m.progress { continuations = min 255 (number + 1) }; at = now }
    else m

-- The relation of a continuation packet to an incomplete message.
abbrev pub continuation_match : ℕ → ℕ → OpenTransaction → ContinuationMatch
continuation_match number now m =
    let after = with_continuation number now m in
    let is_next = m.progress.continuations == number in
    record {
      transaction = m.transaction;
      gap = now - m.at;
      is_next = is_next;
      is_whole = is_next && is_complete_message after;
      data_len = if is_next then bytes_received m.progress.length (min 255 (number + 1)) - bytes_received m.progress.length number
          else CONT_PACKET_DATA;
    }

-- How a continuation packet relates to a message, or None if the message is complete.
abbrev pub match_if_incomplete : ℕ → ℕ → Option OpenTransaction → Option ContinuationMatch
match_if_incomplete number now None = None
match_if_incomplete number now (Some m) = if is_complete_message m then None else Some (continuation_match number now m)

-- The message, if any, after a continuation packet.
abbrev pub message_after_continuation : ℕ → ℕ → Option OpenTransaction → Option OpenTransaction
message_after_continuation number now None = None
message_after_continuation number now (Some m) = Some (if is_complete_message m then m else with_continuation number now m)

-- The message to which a continuation packet belongs.
abbrev pub continued_message : ℕ → Channel → Option OpenTransaction
continued_message number c = if expects_sequence number c.contender then c.contender else c.current

-- Whether the continuation packet is outside any transaction.
abbrev pub is_stray : Option ContinuationMatch → Bool
is_stray None = true
is_stray (Some c) = false

-- The channel after a continuation packet.
abbrev pub channel_continued : ℕ → ℕ → Channel → Channel
channel_continued number now c =
    let stray = is_stray (match_if_incomplete number now (continued_message number c)) in
    if expects_sequence number c.contender
    then record c { contender = message_after_continuation number now c.contender; last_was_stray = stray }
    else record c { current = message_after_continuation number now c.current; last_was_stray = stray }

-- The message, if any, after a CANCEL on this line.
abbrev pub cancelled_by : ℕ → Option OpenTransaction → Option OpenTransaction
cancelled_by line None = None
cancelled_by line (Some m) = Some (record m { cancelled = Some line })

-- The transaction of a message, if any.
abbrev pub transaction_of : Option OpenTransaction → Option Transaction
transaction_of None = None
transaction_of (Some m) = Some m.transaction

-- The channel after a CANCEL, which cancels the request that the device is processing. If there are two such requests,
-- it is unknown which one is cancelled (CTAP 2.1, section 11.2.9.1.5).
abbrev pub channel_cancelled : ℕ → Channel → Channel
channel_cancelled line before =
    let c = record before { last_was_stray = true } in
    if nat_lt 0 c.ambiguous_count then c
    else if is_in_process c.current && is_in_process c.contender then record c { is_ambiguous = true }
    else if is_in_process c.contender then record c { contender = cancelled_by line c.contender }
    else if is_in_process c.current then record c { current = cancelled_by line c.current }
    else c

-- The transaction that a CANCEL cancels, if known.
abbrev pub cancelled_transaction : Channel → Option Transaction
cancelled_transaction c =
    if nat_lt 0 c.ambiguous_count || is_in_process c.current && is_in_process c.contender then None
    else if is_in_process c.contender then transaction_of c.contender
    else if is_in_process c.current then transaction_of c.current
    else None
