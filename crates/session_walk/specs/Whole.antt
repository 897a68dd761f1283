-- The state of a channel, and of all channels, after a packet of a host or of the key, including INIT (CTAP 2.1,
-- sections 11.2.4, 11.2.5 and 11.2.9.1).
use Rattle.std.specs.Prelude.{ℕ, Bool, true, false, not, ◌&&◌, ◌||◌, ◌==◌, nat_lt, ◌+◌, ◌-◌, List, []}
use Rattle.std.specs.Prelude.{◌∷◌, ◌++◌, length, drop, remove, position, slice_get, Option, Some}
use Rattle.std.specs.Prelude.{None, is_none, is_some, option_map, unwrap_or, if◌then◌else◌}
use Rattle.hid_packet.specs.Packet.{BROADCAST, ERROR, INIT, KEEPALIVE}
use Rattle.session_walk.specs.Ends.{after_keepalive, has_status, keepalive_transaction, also_ends, contender_refused, can_answer, interrupted_end, is_ambiguous_part_of_any}
use Rattle.session_walk.specs.Ends.{is_owner_undecided, with_unknown_ends, both_unidentified, is_for_contender}
use Rattle.session_walk.specs.Ends.{refuses_stray, timeout_transaction, timed_out, ends_by_timeout}
use Rattle.session_walk.specs.Messages.{is_whole}
use Rattle.session_walk.specs.Owners.{is_in_process, transaction_of, with_unidentified, with_end, with_end_of, pending_init, is_complete_message, current_ended, after_idle, is_owner_unknown}
use Rattle.session_walk.specs.Owners.{nonce_of, contender_accepted, ends_by_contender, IDLE_TIMEOUT_MS}
use Rattle.session_walk.specs.Walks.{is_assertion, is_success, no_rp_id}
use Rattle.session_walk.specs.declared.rp_id.RpId.{RpId}
use Rattle.session_walk.specs.declared.answer.ResponseStart.{ResponseStart}
use Rattle.session_walk.specs.declared.channel.{Channel.Channel, ResponseMessage.ResponseMessage, PendingInit.PendingInit}
use Rattle.session_walk.specs.declared.ambiguous.AmbiguousPacket.{AmbiguousPacket}
use Rattle.session_walk.specs.declared.awaited.AwaitedReply.{AwaitedReply}
use Rattle.session_walk.specs.declared.awaited.AwaitedReply.TheVariants.{Key, Presence, Signature}
use Rattle.session_walk.specs.declared.entry.Role.{Role}
use Rattle.session_walk.specs.declared.entry.Role.TheVariants.{Error, Owned, Reply}
use Rattle.session_walk.specs.declared.transaction.{TransactionEnd.TransactionEnd, OpenTransaction.OpenTransaction, RequestNames.RequestNames}
use Rattle.session_walk.specs.declared.transaction.Transaction.{Transaction}
use Rattle.session_walk.specs.declared.transaction.End.TheVariants.{Cut, Dropped, Forgotten, Refused}

-- The result of a device packet: the channel, the ended transactions, the packet's transaction, and whether the
-- ambiguous continuation packet, if any, arrived too late.
pub record PacketResult : Type 0 where
  pub channel : Channel
  pub ended : List TransactionEnd
  pub transaction : Option OpenTransaction
  pub deferred : Bool

-- Whether the device may be processing an unidentified message.
abbrev pub may_be_processing : ℕ → Channel → Bool
may_be_processing now c = is_owner_unknown c && nat_lt (now - c.last_active_at) IDLE_TIMEOUT_MS

-- No RP ID and no credentials.
abbrev pub no_names : RequestNames
no_names = record {
  rp_id = no_rp_id;
  excluded = None;
  account = None;
  is_silent = false;
  may_name_prior = false;
}

-- An unanswered INIT as an open transaction of its channel.
abbrev pub open_init : ℕ → PendingInit → OpenTransaction
open_init channel g = record {
  transaction = record { channel = channel; line = g.line; message = INIT; command = None };
  progress = record { length = g.length; continuations = 0 };
  at = g.at;
  delay = 0;
  cancelled = None;
  presence_ms = None;
  awaited = None;
  keepalives = 0;
  named = no_names;
}

-- The maximum number of unanswered INITs per channel.
abbrev pub MAX_PENDING_INITS : ℕ
MAX_PENDING_INITS = 4

-- The channel with one more unanswered INIT. If there are already too many, the oldest one is removed.
abbrev pub with_pending_init : OpenTransaction → List ℕ → Channel → Channel
with_pending_init m part c =
    let items = c.pending_inits.items in
    let kept = if nat_lt (length items) MAX_PENDING_INITS then items else drop 1 items in
    record c { last_was_init = true; pending_inits = record { items = kept ++ pending_init m part ∷ [] } }

-- The ended transactions, followed by the oldest unanswered INIT if there are too many.
abbrev pub with_oldest_ended : ℕ → List PendingInit → List TransactionEnd → List TransactionEnd
with_oldest_ended channel [] ended = ended
with_oldest_ended channel (oldest ∷ others) ended =
    if nat_lt (length others + 1) MAX_PENDING_INITS then ended else with_end ended (open_init channel oldest) Forgotten

-- The channel after an INIT began. Until its response, the INIT changes nothing else (CTAP 2.1, section 11.2.9.1.3).
abbrev pub init_begun : OpenTransaction → List ℕ → Channel → Channel
init_begun m part c = with_pending_init m part (contender_accepted false (after_idle m.at c))

-- The ended transactions, followed by those that a new INIT ends.
abbrev pub ends_by_init : OpenTransaction → Channel → List TransactionEnd → List TransactionEnd
ends_by_init m c ended =
    with_oldest_ended c.number c.pending_inits.items (ends_by_contender false (after_idle m.at c) ended)

-- Whether the INIT has this nonce. Without a nonce: whether its length is wrong.
abbrev pub matches_nonce : Option ℕ → PendingInit → Bool
matches_nonce (Some nonce) g = (g.length == 8) && (g.nonce == nonce)
matches_nonce None g = not (g.length == 8)

-- The index of the first INIT that passes the test, or the number of INITs.
abbrev pub init_index : (PendingInit → Bool) → List PendingInit → ℕ
init_index test items = unwrap_or (position test items) (length items)

-- The channel without the INIT at an index.
abbrev pub without_init_at : ℕ → Channel → Channel
without_init_at place c =
    let items = c.pending_inits.items in
    if nat_lt place (length items)
    then record c {
      pending_inits = record { items = remove items place };
      last_was_init = c.last_was_init && not (place + 1 == length items);
    }
    else c

-- The INIT, if any, as an open transaction.
abbrev pub open_init_at : ℕ → Option PendingInit → Option OpenTransaction
open_init_at channel None = None
open_init_at channel (Some g) = Some (open_init channel g)

-- The INIT at an index, as an open transaction.
abbrev pub init_at : ℕ → Channel → Option OpenTransaction
init_at place c = open_init_at c.number (slice_get c.pending_inits.items place)

-- Whether an ERROR with this code can belong to an INIT of 8 bytes: codes 04 and 05 never can, code 06 can only on the
-- broadcast channel, and code 7F always can there. Otherwise, an ERROR can if nothing else is pending (CTAP 2.1,
-- section 11.2.9.1.6).
abbrev pub can_refuse_init : ℕ → Channel → Bool
can_refuse_init code c =
    if (code == 4) || (code == 5) then false
    else if code == 6 then c.number == BROADCAST
    else if (code == 0x7f) && (c.number == BROADCAST) then true
    else is_none c.current && not (is_owner_unknown c)

-- The index of the last unanswered INIT.
abbrev pub last_init_index : Channel → ℕ
last_init_index c = length c.pending_inits.items - 1

-- The index of the INIT to which an ERROR belongs, or the number of INITs if there is none.
abbrev pub refused_init : ℕ → Channel → ℕ
refused_init code c =
    let items = c.pending_inits.items in
    let wrong = init_index (matches_nonce None) items in
    if (code == 3) && nat_lt wrong (length items) then wrong
    else if c.last_was_init && can_refuse_init code c then last_init_index c
    else length items

-- The message that an ERROR refuses at its beginning, if any: an INIT; or the contender, unless it is unknown to which
-- message the ERROR belongs.
abbrev pub refused_start : ℕ → (is_undecided : Bool) → Channel → Option OpenTransaction
refused_start code is_undecided c =
    let place = refused_init code c in
    if nat_lt place (length c.pending_inits.items) then init_at place c
    else if is_undecided || c.last_was_init then None
    else c.contender

-- The channel without the message that `refused_start` returns, if any.
abbrev pub without_refused_start : ℕ → (is_undecided : Bool) → Channel → Channel
without_refused_start code is_undecided c =
    let place = refused_init code c in
    if nat_lt place (length c.pending_inits.items) then without_init_at place c
    else if is_undecided || c.last_was_init then c
    else record c { contender = None }

-- The result of an ERROR that belongs to no transaction.
abbrev pub refuses_nothing : Channel → List TransactionEnd → PacketResult
refuses_nothing c ended = record { channel = c; ended = ended; transaction = None; deferred = false }

-- The result of an ERROR that refuses the last INIT.
abbrev pub last_init_refused_by : ℕ → Option OpenTransaction → Channel → List TransactionEnd → PacketResult
last_init_refused_by code None c ended = refuses_nothing c ended
last_init_refused_by code (Some init) c ended = record {
  channel = without_init_at (last_init_index c) c;
  ended = with_end ended init (Refused code);
  transaction = Some init;
  deferred = false;
}

-- The result of an ERROR without a current message: it refuses the last unanswered INIT, unless a packet outside any
-- transaction came before.
abbrev pub last_init_refused : ℕ → Channel → List TransactionEnd → PacketResult
last_init_refused code c ended =
    if c.last_was_stray then refuses_nothing c ended else last_init_refused_by code (init_at (last_init_index c) c) c ended

-- The result of an ERROR for the current message.
abbrev pub current_refused : ℕ → Option OpenTransaction → Channel → List TransactionEnd → PacketResult
current_refused code None c ended = last_init_refused code c ended
current_refused code (Some current) c ended =
    if refuses_stray code c then refuses_nothing c ended
    else record { channel = current_ended c; ended = with_end ended current (Refused code); transaction = Some current; deferred = false }

-- The result of an ERROR that refuses this message at its beginning. Without such a message, it refuses the current
-- message, unless it is unknown to which message the ERROR belongs.
abbrev pub start_refused : ℕ → (is_undecided : Bool) → Option OpenTransaction → Channel → List TransactionEnd → PacketResult
start_refused code is_undecided (Some start) c ended =
    let refused = with_end ended start (Refused code) in
    record {
      channel = contender_refused code start.transaction c;
      ended = if also_ends start.transaction code c.current then with_end_of refused c.current (interrupted_end start.transaction)
          else refused;
      transaction = Some start;
      deferred = false;
    }
start_refused code true None c ended = record {
  channel = record (both_unidentified c) { last_asserted_rp = no_rp_id };
  ended = with_unknown_ends c ended;
  transaction = None;
  deferred = false;
}
start_refused code false None c ended = current_refused code c.current c ended

-- The result of an ERROR other than a time-out.
abbrev pub error_result : ℕ → ℕ → Channel → List TransactionEnd → PacketResult
error_result code input c ended =
    let is_undecided = is_owner_undecided input c in
    start_refused code is_undecided (refused_start code is_undecided c) (without_refused_start code is_undecided c) ended

-- The result of the initialization packet of a device message: its transaction, and the result for the channel.
pub record StartResult : Type 0 where
  pub channel : Channel
  pub ended : List TransactionEnd
  pub transaction : Option Transaction
  pub deferred : Bool

-- The result of a device packet, with the transaction of its message.
abbrev pub to_start_result : PacketResult → StartResult
to_start_result r =
    record { channel = r.channel; ended = r.ended; transaction = transaction_of r.transaction; deferred = r.deferred }

-- The result of ERROR 05 for the current message: either the message timed out, or another message is refused (CTAP
-- 2.1, section 11.2.5.2).
abbrev pub timeout_or_refusal : Option Transaction → Option AmbiguousPacket → ℕ → Channel → List TransactionEnd → StartResult
timeout_or_refusal (Some transaction) ambiguous input c ended = record {
  channel = timed_out ambiguous c;
  ended = ends_by_timeout ambiguous c.current ended;
  transaction = Some transaction;
  deferred = is_ambiguous_part_of_any ambiguous c.current;
}
timeout_or_refusal None ambiguous input c ended =
    let other = to_start_result (error_result 5 input (timed_out ambiguous c) (ends_by_timeout ambiguous c.current ended)) in
    record other { deferred = is_ambiguous_part_of_any ambiguous c.current }

-- The result of ERROR 05 for the current message.
abbrev pub current_timed_out : Option AmbiguousPacket → ℕ → Channel → List TransactionEnd → StartResult
current_timed_out ambiguous input c ended = timeout_or_refusal (timeout_transaction ambiguous c.current) ambiguous input c ended

-- The result of ERROR 05 for the contender, while the current message is processed.
abbrev pub contender_timed_out : Option AmbiguousPacket → Channel → List TransactionEnd → StartResult
contender_timed_out ambiguous c ended =
    let alone = record c { current = c.contender; contender = None } in
    record {
      channel = record (timed_out ambiguous alone) { current = c.current };
      ended = ends_by_timeout ambiguous c.contender ended;
      transaction = timeout_transaction ambiguous c.contender;
      deferred = is_ambiguous_part_of_any ambiguous c.contender;
    }

-- The result of ERROR 05 if it is unknown which message timed out.
abbrev pub both_lost_by_timeout : Channel → List TransactionEnd → StartResult
both_lost_by_timeout c ended = record {
  channel = record (both_unidentified c) { last_asserted_rp = no_rp_id };
  ended = with_unknown_ends c ended;
  transaction = None;
  deferred = false;
}

-- The result of ERROR 05 for the contender, unless it is unknown which message the device is processing.
abbrev pub contender_timeout_result : Option AmbiguousPacket → Channel → List TransactionEnd → StartResult
contender_timeout_result ambiguous c ended =
    if is_owner_unknown c then both_lost_by_timeout c ended else contender_timed_out ambiguous c ended

-- The result of ERROR 05 while the contender is incomplete. If the current message is complete, the contender timed
-- out. If the contender began less than 100 ms after the last packet of the current message, the device accepted the
-- contender, which then timed out. Otherwise, the current message timed out, unless it is unknown which message did.
abbrev pub one_of_two_timed_out : Option AmbiguousPacket → ℕ → (contender current : OpenTransaction) → Channel → List TransactionEnd → StartResult
one_of_two_timed_out ambiguous input contender current c ended =
    if is_complete_message current then contender_timeout_result ambiguous c ended
    else if nat_lt contender.delay 100 then current_timed_out ambiguous input (contender_accepted true c) (ends_by_contender true c ended)
    else if is_owner_undecided input c then both_lost_by_timeout c ended
    else current_timed_out ambiguous input c ended

-- The result of ERROR 05.
abbrev pub timeout_result : Option AmbiguousPacket → ℕ → (contender current : Option OpenTransaction) → Channel → List TransactionEnd → StartResult
timeout_result ambiguous input (Some contender) (Some current) c ended =
    if is_complete_message contender then current_timed_out ambiguous input c ended else one_of_two_timed_out ambiguous input contender current c ended
timeout_result ambiguous input contender current c ended = current_timed_out ambiguous input c ended

-- The result of an ERROR.
abbrev pub refused : ℕ → ℕ → Option AmbiguousPacket → Channel → List TransactionEnd → StartResult
refused code input ambiguous c ended =
    if code == 5 then timeout_result ambiguous input c.contender c.current c ended
    else record (to_start_result (error_result code input c ended)) { deferred = false }

-- The channel after the response to an INIT, which ends the transaction of an allocated channel (CTAP 2.1, section
-- 11.2.9.1.3).
abbrev pub cleared_by_init : OpenTransaction → Channel → Channel
cleared_by_init init c =
    if c.number == BROADCAST then c
    else record c { is_ambiguous = false; ambiguous_count = if nat_lt c.last_lost_line init.transaction.line then 0 else c.ambiguous_count }

-- Whether the second message, if any, began before the first one.
abbrev pub is_before : OpenTransaction → Option OpenTransaction → Bool
is_before init None = false
is_before init (Some current) = nat_lt current.transaction.line init.transaction.line

-- The result of the response to this INIT.
abbrev pub init_answered : ℕ → Option OpenTransaction → Channel → List TransactionEnd → PacketResult
init_answered place None c ended = record { channel = c; ended = ended; transaction = None; deferred = false }
init_answered place (Some init) c ended =
    let alone = cleared_by_init init (without_init_at place c) in
    let drops = not (c.number == BROADCAST) && is_before init c.current in
    record {
      channel = if drops then current_ended alone else alone;
      ended = if drops then with_end_of ended c.current (Dropped init.transaction.line) else ended;
      transaction = Some init;
      deferred = false;
    }

-- The result of an INIT response, whose nonce identifies the INIT.
abbrev pub answered_init : List ℕ → Channel → List TransactionEnd → PacketResult
answered_init part c ended =
    let place = init_index (matches_nonce (Some (nonce_of part))) c.pending_inits.items in init_answered place (init_at place c) c ended

-- Whether the message is complete and wasn't cancelled.
abbrev pub is_complete_uncancelled : Option OpenTransaction → Bool
is_complete_uncancelled None = false
is_complete_uncancelled (Some current) = is_complete_message current && is_none current.cancelled

-- The result of a response other than to INIT: the response belongs to the complete message with the same command (CTAP
-- 2.1, section 11.2.4).
abbrev pub message_answered : ResponseStart → Channel → List TransactionEnd → PacketResult
message_answered answer c ended =
    let is_held = can_answer answer c.current in
    let is_asked = is_for_contender answer c in
    if not is_held && not is_asked then record { channel = c; ended = ended; transaction = None; deferred = false }
    else if is_owner_unknown c || is_held && is_asked
    then record { channel = record (both_unidentified c) { last_asserted_rp = no_rp_id }; ended = with_unknown_ends c ended; transaction = None; deferred = false }
    else if is_asked && is_complete_uncancelled c.current
    then record { channel = record c { contender = None }; ended = ended; transaction = c.contender; deferred = false }
    else if is_asked then record {
      channel = record (contender_accepted true c) { current = None; contender = None };
      ended = ends_by_contender true c ended;
      transaction = c.contender;
      deferred = false;
    }
    else record { channel = record c { current = c.contender; contender = None }; ended = ended; transaction = c.current; deferred = false }

-- The result of a response.
abbrev pub response_result : ResponseStart → Channel → List TransactionEnd → PacketResult
response_result answer c ended =
    if answer.command == INIT then answered_init answer.part.now c ended
    else message_answered answer c ended

-- The transaction with the RP ID of the last authenticatorGetAssertion, if it is a successful
-- authenticatorGetNextAssertion (CTAP 2.1, section 6.3).
abbrev pub with_asserted_rp : ResponseStart → RpId → OpenTransaction → OpenTransaction
with_asserted_rp answer rp m =
    if has_status 8 m.transaction.command && has_status 0 answer.status then record m { named = record m.named { rp_id = rp } } else m

-- The RP ID of the last successful authenticatorGetAssertion after a response.
abbrev pub asserted_rp_after : ResponseStart → Option OpenTransaction → RpId → RpId
asserted_rp_after answer None rp = rp
asserted_rp_after answer (Some m) rp = if is_success answer && is_assertion (Some m.transaction) then m.named.rp_id else rp

-- The channel with the beginning of a response as the device's last message.
abbrev pub with_response_of : ResponseStart → Option OpenTransaction → Channel → Channel
with_response_of answer exchange c = record c {
  last_response = record { line = answer.line; progress = answer.progress; status = answer.status; exchange = exchange };
  last_asserted_rp = asserted_rp_after answer exchange c.last_asserted_rp;
}

-- The result of a response, in which the response is the device's last message.
abbrev pub with_response : ResponseStart → PacketResult → PacketResult
with_response answer r =
    let exchange = option_map (with_asserted_rp answer r.channel.last_asserted_rp) r.transaction in
    record r { channel = with_response_of answer exchange r.channel; deferred = false }

-- The ended transactions, followed by the one whose incomplete response ends because the device begins another message.
abbrev pub truncated_by : ResponseMessage → List TransactionEnd → List TransactionEnd
truncated_by last_response ended =
    if is_whole last_response.progress.length last_response.progress.continuations then ended else with_end_of ended last_response.exchange (Cut last_response.progress)

-- The channel after its device's last message was closed: no further packet of the message can follow.
abbrev pub response_closed : Channel → Channel
response_closed c = record c {
  last_response = record c.last_response { line = 0; progress = record { length = 0; continuations = 0 }; exchange = None };
}

-- The ended transactions, followed by that of the current message if a KEEPALIVE shows that the device is processing
-- only the contender.
abbrev pub ends_by_keepalive : Channel → List TransactionEnd → List TransactionEnd
ends_by_keepalive c ended =
    if not (is_owner_unknown c) && (is_in_process c.contender && not (is_in_process c.current)) then ends_by_contender true c ended
    else ended

-- The result of a KEEPALIVE (CTAP 2.1, section 11.2.9.1.7).
abbrev pub keepalive_result : ℕ → ℕ → ℕ → Channel → List TransactionEnd → StartResult
keepalive_result status input now c ended = record {
  channel = after_keepalive status input now c;
  ended = ends_by_keepalive c ended;
  transaction = keepalive_transaction input now c;
  deferred = false;
}

-- The result of a device message by its command: ERROR, KEEPALIVE, or a response.
unfoldable pub result_of_command : ResponseStart → ℕ → ℕ → Option AmbiguousPacket → Channel → List TransactionEnd → StartResult
result_of_command answer input now ambiguous c ended =
    if answer.command == ERROR then refused (unwrap_or answer.status 0) input ambiguous c ended
    else if answer.command == KEEPALIVE then keepalive_result (unwrap_or answer.status 0) input now c ended
    else to_start_result (with_response answer (response_result answer c ended))

-- Whether no transaction is open on the channel.
abbrev pub is_idle : Channel → Bool
is_idle c = is_none c.current && (is_none c.contender && ((length c.pending_inits.items == 0)
    && ((c.ambiguous_count == 0) && is_whole c.last_response.progress.length c.last_response.progress.continuations)))

-- The channel after a packet of the device at this time. If its transaction is unknown, a KEEPALIVE on an idle channel
-- shows that a message is pending, and a response shows that one message less is pending.
unfoldable pub after_device_packet : ResponseStart → ℕ → (is_known : Bool) → Channel → Channel
after_device_packet answer now is_known before =
    let c = record before { last_active_at = now; has_ambiguous_keepalive = (answer.command == KEEPALIVE) && not is_known } in
    if is_known then c
    else if answer.command == KEEPALIVE then (if is_idle c then with_unidentified answer.line c else c)
    else if (answer.command == ERROR) || (answer.command == INIT) then c
    else record c { ambiguous_count = c.ambiguous_count - 1 }

-- The role of a device packet, from its transaction. An ERROR without a known transaction is outside any transaction.
abbrev pub device_role : ResponseStart → Option Transaction → Role
device_role answer transaction = if (answer.command == ERROR) && is_none transaction then Error else Owned

-- The result of the initialization packet of a device message on a channel.
abbrev pub after_device_start : ResponseStart → ℕ → ℕ → Option AmbiguousPacket → Channel → List TransactionEnd → StartResult
after_device_start answer input now ambiguous c ended =
    let r = result_of_command answer input now ambiguous (response_closed c) (truncated_by c.last_response ended) in
    record r { channel = after_device_packet answer now (is_some r.transaction) r.channel }

-- The role of a packet outside any open message: `role`, unless the packet may belong to an unidentified message.
abbrev pub role_outside : Role → Channel → Role
role_outside role c = if nat_lt 0 c.ambiguous_count || c.has_ambiguous_keepalive then Owned else role

-- Whether the request needs user presence: authenticatorMakeCredential, authenticatorReset and authenticatorSelection
-- do, and authenticatorGetAssertion unless its option `up` is false (CTAP 2.1, section 6).
abbrev pub needs_presence : OpenTransaction → Bool
needs_presence m =
    has_status 1 m.transaction.command || (has_status 7 m.transaction.command || (has_status 0x0b m.transaction.command
    || (has_status 2 m.transaction.command && not m.named.is_silent)))

-- The request after a reply of the caller (user presence, a key pair or a signature), or None if the request doesn't
-- wait for a reply of this kind. Before the first KEEPALIVE it is unknown which reply is needed, so each is accepted. A
-- key may report PROCESSING while it waits for the user, so user presence is then accepted, too, but once.
abbrev pub request_after_reply : Option AwaitedReply → AwaitedReply → ℕ → OpenTransaction → Option OpenTransaction
request_after_reply (Some Presence) Presence now m = Some (record m { presence_ms = Some (now - m.at); awaited = None })
request_after_reply (Some Key) Key now m = Some (record m { awaited = Some Signature })
request_after_reply None reply now m = Some m
request_after_reply (Some Signature) Signature now m = Some m
request_after_reply (Some awaited) Presence now m = if is_none m.presence_ms && needs_presence m then Some m else None
request_after_reply (Some awaited) reply now m = None

-- The request on a channel to which a reply of the caller belongs.
abbrev pub request_replied : AwaitedReply → ℕ → Option OpenTransaction → Option OpenTransaction
request_replied reply now None = None
request_replied reply now (Some m) = request_after_reply m.awaited reply now m

-- Whether it is unknown to which request of the channel a reply belongs.
abbrev pub is_reply_unclear : Channel → Bool
is_reply_unclear c = is_some c.contender || (is_owner_unknown c || c.has_ambiguous_keepalive)

-- The channel with its current message replaced by this one, if any.
abbrev pub with_current : Option OpenTransaction → Channel → Channel
with_current None c = c
with_current (Some m) c = record c { current = Some m }

-- The channel after a reply of the caller.
abbrev pub channel_replied : AwaitedReply → ℕ → Channel → Channel
channel_replied reply now c = if is_reply_unclear c then c else with_current (request_replied reply now c.current) c

-- The transaction of a reply of the caller, if known.
abbrev pub replied_transaction : AwaitedReply → ℕ → Channel → Option Transaction
replied_transaction reply now c = if is_reply_unclear c then None else transaction_of (request_replied reply now c.current)

-- The role of a reply of the caller: Owned if it belongs to a transaction, even if it is unknown to which one; Reply if
-- no request waits for it.
abbrev pub role_of_reply : AwaitedReply → ℕ → Channel → Role
role_of_reply reply now c =
    if is_reply_unclear c then Owned else if is_some (request_replied reply now c.current) then Owned else Reply

-- The open transaction of a channel, or else the last transaction that got a response on it.
abbrev pub last_transaction : Option Channel → Option OpenTransaction
last_transaction None = None
last_transaction (Some c) = if is_some c.current then c.current else c.last_response.exchange

-- Whether the device's last message on the channel is incomplete.
abbrev pub has_unfinished_response : Option Channel → Bool
has_unfinished_response None = false
has_unfinished_response (Some c) = not (is_whole c.last_response.progress.length c.last_response.progress.continuations)
