-- For a packet of the device: the message on its channel to which the response, KEEPALIVE or ERROR belongs, the
-- transactions that end, and the channel afterwards (CTAP 2.1, sections 11.2.4, 11.2.5 and 11.2.9.1).
use Rattle.std.specs.Prelude.{ℕ, Bool, true, false, not, ◌&&◌, ◌||◌, ◌==◌, nat_le, nat_lt, ◌+◌, ◌-◌, ◌^◌, min, List}
use Rattle.std.specs.Prelude.{Option, Some, None, if◌then◌else◌, is_none}
use Rattle.hid_packet.specs.Packet.{INIT}
use Rattle.session_walk.specs.Messages.{is_whole}
use Rattle.session_walk.specs.Owners.{with_end, with_end_of, is_complete_message, current_ended, is_owner_unknown, with_unidentified, contender_accepted, ends_by_contender}
use Rattle.session_walk.specs.Owners.{is_in_process, transaction_of}
use Rattle.session_walk.specs.declared.awaited.AwaitedReply.{AwaitedReply}
use Rattle.session_walk.specs.declared.awaited.AwaitedReply.TheVariants.{Key, Presence, Signature}
use Rattle.session_walk.specs.declared.answer.{ResponseStart.ResponseStart}
use Rattle.session_walk.specs.declared.channel.{Channel.Channel, ResponseMessage.ResponseMessage}
use Rattle.session_walk.specs.declared.ambiguous.AmbiguousPacket.{AmbiguousPacket}
use Rattle.session_walk.specs.declared.transaction.{TransactionEnd.TransactionEnd, OpenTransaction.OpenTransaction, Transaction.Transaction}
use Rattle.session_walk.specs.declared.transaction.End.{End}
use Rattle.session_walk.specs.declared.transaction.End.TheVariants.{Dropped, Refused, Replaced, Unknown}

-- Whether the transaction of the device's next packet is ambiguous after the input on this line.
abbrev pub is_undecided : ℕ → Option OpenTransaction → Bool → Bool
is_undecided input None unclear = unclear
is_undecided input (Some contender) unclear = unclear || not (contender.transaction.line == input)

-- Whether the transaction of the device's next packet on the channel is ambiguous after the input on this line.
abbrev pub is_owner_undecided : ℕ → Channel → Bool
is_owner_undecided input c = is_undecided input c.contender (is_owner_unknown c)

-- The channel whose current message, if any, may still be pending.
abbrev pub current_unidentified : Option OpenTransaction → Channel → Channel
current_unidentified None c = c
current_unidentified (Some current) c = with_unidentified current.transaction.line c

-- The channel without its current message and its contender. Both may still be pending.
abbrev pub both_unidentified : Channel → Channel
both_unidentified c = let s = contender_accepted false c in record (current_unidentified s.current (current_ended s)) { is_ambiguous = false }

-- The ended transactions, followed by those of the channel's current message and its contender, whose ends are unknown.
abbrev pub with_unknown_ends : Channel → List TransactionEnd → List TransactionEnd
with_unknown_ends c ended = with_end_of (ends_by_contender false c ended) (contender_accepted false c).current Unknown

-- Whether the ambiguous continuation packet, if any, belongs to this message.
abbrev pub is_ambiguous_part_of : Option AmbiguousPacket → OpenTransaction → Bool
is_ambiguous_part_of None current = false
is_ambiguous_part_of (Some d) current = current.transaction.line == d.transaction.line

-- Whether the ambiguous continuation packet has the sequence number that its message expects.
abbrev pub has_expected_sequence : Option AmbiguousPacket → Bool
has_expected_sequence None = false
has_expected_sequence (Some d) = d.is_next

-- The message without the ambiguous continuation packet. If ERROR 05 shows that the packet arrived too late, the
-- message timed out without it (CTAP 2.1, section 11.2.5.2).
abbrev pub without_late : Option AmbiguousPacket → OpenTransaction → OpenTransaction
without_late ambiguous current =
    if is_ambiguous_part_of ambiguous current && has_expected_sequence ambiguous
    then record current { progress = record current.progress { continuations = current.progress.continuations - 1 } }
    else current

-- The channel after its current message, if any, timed out.
abbrev pub timed_out_by : Option AmbiguousPacket → Option OpenTransaction → Channel → Channel
timed_out_by ambiguous None c = c
timed_out_by ambiguous (Some current) c =
    let h = without_late ambiguous current in
    if is_complete_message h then record c { current = Some h } else record c { current = c.contender; contender = None }

-- The channel after its current message, if any, timed out.
abbrev pub timed_out : Option AmbiguousPacket → Channel → Channel
timed_out ambiguous c = timed_out_by ambiguous c.current c

-- The ended transactions, followed by the one that the time-out ends.
abbrev pub ends_by_timeout : Option AmbiguousPacket → Option OpenTransaction → List TransactionEnd → List TransactionEnd
ends_by_timeout ambiguous None ended = ended
ends_by_timeout ambiguous (Some current) ended =
    let h = without_late ambiguous current in if is_complete_message h then ended else with_end ended h (Refused 5)

-- The transaction to which the time-out's ERROR belongs.
abbrev pub timeout_transaction : Option AmbiguousPacket → Option OpenTransaction → Option Transaction
timeout_transaction ambiguous None = None
timeout_transaction ambiguous (Some current) = if is_complete_message (without_late ambiguous current) then None else Some current.transaction

-- Whether there are an ambiguous continuation packet and a message, and the packet belongs to the message.
abbrev pub is_ambiguous_part_of_any : Option AmbiguousPacket → Option OpenTransaction → Bool
is_ambiguous_part_of_any ambiguous None = false
is_ambiguous_part_of_any ambiguous (Some current) = is_ambiguous_part_of ambiguous current

-- Whether the current message ends together with a refused transaction: ERROR 04 for a message that begins inside
-- another message ends both, and so does ERROR 03 for an INIT (CTAP 2.1, sections 11.2.5.3 and 11.2.5.4).
abbrev pub also_ends : Transaction → ℕ → Option OpenTransaction → Bool
also_ends refused code None = false
also_ends refused code (Some current) =
    (code == (if refused.message == INIT then 3 else 4)) && (not (is_complete_message current)
    && nat_lt current.transaction.line refused.line)

-- How a message ends if another message interrupted it and the device refused the other message.
abbrev pub interrupted_end : Transaction → End
interrupted_end refused = if refused.message == INIT then Dropped refused.line else Replaced refused.line

-- Whether the message can have this response: a response has the command of its complete request (CTAP 2.1, section
-- 11.2.4).
abbrev pub can_answer : ResponseStart → Option OpenTransaction → Bool
can_answer answer None = false
can_answer answer (Some m) = is_complete_message m && (m.transaction.message == answer.command)

-- Whether the request wasn't cancelled.
abbrev pub is_uncancelled : Option OpenTransaction → Bool
is_uncancelled None = false
is_uncancelled (Some m) = is_none m.cancelled

-- Whether there is a status and it equals this one.
abbrev pub has_status : ℕ → Option ℕ → Bool
has_status code None = false
has_status code (Some status) = status == code

-- Whether the response belongs to the contender.
abbrev pub is_for_contender : ResponseStart → Channel → Bool
is_for_contender answer c =
    if can_answer answer c.current && can_answer answer c.contender && has_status 0x2d answer.status
    then is_uncancelled c.current
    else can_answer answer c.contender

-- Whether the response fits only one of the channel's two messages.
abbrev pub fits_one_message : ResponseStart → Channel → Bool
fits_one_message answer c = not (is_owner_unknown c) && (can_answer answer c.current || is_for_contender answer c)
    && not (can_answer answer c.current && is_for_contender answer c)

-- The message to which a response belongs.
abbrev pub answered_message : ResponseStart → Channel → Option OpenTransaction
answered_message answer c =
    if fits_one_message answer c then (if can_answer answer c.current then c.current else c.contender) else None

-- The device's last message after a continuation packet, if the packet has the expected sequence number (CTAP 2.1,
-- section 11.2.4).
abbrev pub response_continued : ℕ → ResponseMessage → ResponseMessage
response_continued number last_response =
    if not (is_whole last_response.progress.length last_response.progress.continuations) && (last_response.progress.continuations == number)
    then record last_response { progress = record last_response.progress { continuations = min 255 (number + 1) } }
    else last_response

-- The reply that a request waits for while the device processes it: the same key pair or signature as before, or else a
-- key pair for authenticatorMakeCredential (`is_made`) and a signature for other requests.
abbrev pub key_or_signature : Option AwaitedReply → (is_made : Bool) → AwaitedReply
key_or_signature (Some Key) is_made = Key
key_or_signature (Some Signature) is_made = Signature
key_or_signature before true = Key
key_or_signature before false = Signature

-- The reply that the request waits for, from the status of a KEEPALIVE: 01 processing, 02 user presence needed (CTAP
-- 2.1, section 11.2.9.1.7).
abbrev pub awaited_by : ℕ → OpenTransaction → Option AwaitedReply
awaited_by status m =
    if status == 2 then Some Presence
    else if status == 1 then Some (key_or_signature m.awaited (has_status 1 m.transaction.command))
    else None

-- The channel after a KEEPALIVE for one of its messages.
abbrev pub channel_processing : ℕ → ℕ → Option OpenTransaction → Channel → Channel
channel_processing status now None c = record c { last_keepalive_at = now }
channel_processing status now (Some m) c =
    if is_in_process (Some m)
    then record c {
      last_keepalive_at = now;
      current = Some (record m { awaited = awaited_by status m; keepalives = min (2 ^ 64 - 1) (m.keepalives + 1) });
    }
    else record c { last_keepalive_at = now }

-- The number of KEEPALIVEs for a message, or 0.
abbrev pub keepalive_count : Option OpenTransaction → ℕ
keepalive_count None = 0
keepalive_count (Some m) = m.keepalives

-- Whether the KEEPALIVE became due before the second message arrived.
abbrev pub was_due_before_contender : ℕ → ℕ → Channel → Bool
was_due_before_contender input now c =
    nat_lt 0 (keepalive_count c.current) && (nat_le 100 (now - c.last_keepalive_at) && not (is_owner_undecided input c))

-- The channel after a KEEPALIVE.
abbrev pub after_keepalive : ℕ → ℕ → ℕ → Channel → Channel
after_keepalive status input now c =
    if is_owner_unknown c then c
    else if not (is_in_process c.contender) then channel_processing status now c.current c
    else if not (is_in_process c.current) then (let s = contender_accepted true c in channel_processing status now s.current s)
    else if was_due_before_contender input now c then channel_processing status now c.current c
    else c

-- The transaction of a message, if the device is processing the message.
abbrev pub transaction_if_processing : Option OpenTransaction → Option Transaction
transaction_if_processing m = if is_in_process m then transaction_of m else None

-- The transaction of a KEEPALIVE.
abbrev pub keepalive_transaction : ℕ → ℕ → Channel → Option Transaction
keepalive_transaction input now c =
    if is_owner_unknown c then None
    else if not (is_in_process c.contender) then transaction_if_processing c.current
    else if not (is_in_process c.current) then transaction_of c.contender
    else if was_due_before_contender input now c then transaction_of c.current
    else None

-- Whether an ERROR with this code belongs to the host's last packet, which is outside any transaction. This is so if
-- the current request has had a KEEPALIVE: after a KEEPALIVE, a request isn't refused with code 01, 04, 06 or 0B (CTAP
-- 2.1, section 11.2.9.1.6).
abbrev pub refuses_stray : ℕ → Channel → Bool
refuses_stray code c = c.last_was_stray && (nat_lt 0 (keepalive_count c.current)
    && ((code == 1) || (code == 4) || (code == 6) || (code == 0x0b)))

-- The channel after its contender was refused.
abbrev pub contender_refused : ℕ → Transaction → Channel → Channel
contender_refused code refused c = if also_ends refused code c.current then current_ended c else c
