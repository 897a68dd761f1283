-- The tracked channels after a packet: which channel is evicted for another one, and how a packet of the device on one
-- channel changes the others (CTAP 2.1, sections 6.3 and 11.2.9.1.3).
use Rattle.std.specs.Prelude.{◌≡◌, ◌<◌, ℕ, Bool, true, false, not, ◌&&◌, ◌||◌, ◌==◌, nat_lt, List, [], ◌∷◌, ◌++◌, map, fold}
use Rattle.std.specs.List.{list_any}
use Rattle.std.specs.Prelude.{option_map, slice_get, slice_set, Option, Some, None, is_none, if◌then◌else◌}
use Rattle.hid_packet.specs.Packet.{BROADCAST, INIT}
use Rattle.session_walk.specs.Messages.{is_whole}
use Rattle.session_walk.specs.Owners.{with_end}
use Rattle.session_walk.specs.Walks.{is_assertion, is_success, no_rp_id}
use Rattle.session_walk.specs.Walks.{channel_on, index_on}
use Rattle.session_walk.specs.Whole.{is_idle, may_be_processing, open_init}
use Rattle.session_walk.specs.declared.answer.ResponseStart.{ResponseStart}
use Rattle.session_walk.specs.declared.channel.{Channel.Channel}
use Rattle.session_walk.specs.declared.transaction.{TransactionEnd.TransactionEnd, MessageProgress.MessageProgress, OpenTransaction.OpenTransaction, Transaction.Transaction}
use Rattle.session_walk.specs.declared.transaction.End.TheVariants.{Cut, Dropped, Forgotten, Open}

-- A transaction that is open at the end of the log.
abbrev pub open_end : OpenTransaction → TransactionEnd
open_end m = record { exchange = m; end = Open }

-- The transaction of the message, or none without a message.
abbrev pub open_message : Option OpenTransaction → List TransactionEnd
open_message None = []
open_message (Some m) = open_end m ∷ []

-- The transaction of a response that is incomplete, if known.
abbrev pub cut_response : MessageProgress → Option OpenTransaction → List TransactionEnd
cut_response progress None = []
cut_response progress (Some m) = record { exchange = m; end = Cut progress } ∷ []

-- The transaction whose response the device is sending on a channel, if any.
abbrev pub responding_transaction : Channel → List TransactionEnd
responding_transaction c =
    let progress = c.last_response.progress in
    if is_whole progress.length progress.continuations then [] else cut_response progress c.last_response.exchange

-- The open transactions of a channel. Each one has the end that applies if no packet follows.
abbrev pub open_transactions : Channel → List TransactionEnd
open_transactions c =
    responding_transaction c ++ (map (λ g. open_end (open_init c.number g)) c.pending_inits.items
    ++ (open_message c.current ++ open_message c.contender))

-- The ended transactions, together with transactions that are no longer tracked.
abbrev pub with_forgotten : List TransactionEnd → List TransactionEnd → List TransactionEnd
with_forgotten ended tracked = fold (λ ends m. with_end ends m.exchange Forgotten) ended tracked

-- The ended transactions, together with transactions that the INIT on a line drops.
abbrev pub with_dropped : ℕ → List TransactionEnd → List TransactionEnd → List TransactionEnd
with_dropped line ended tracked = fold (λ ends m. with_end ends m.exchange (Dropped line)) ended tracked

-- A channel without transactions, whose last packet is on this line.
abbrev pub fresh_channel : (number line : ℕ) → Channel
fresh_channel number line = record {
  number = number;
  used = line;
  current = None;
  contender = None;
  pending_inits = record { items = [] };
  last_was_init = false;
  is_ambiguous = false;
  last_was_stray = false;
  has_ambiguous_keepalive = false;
  ambiguous_count = 0;
  last_lost_line = 0;
  last_active_at = 0;
  last_keepalive_at = 0;
  last_response = record {
    line = 0;
    progress = record { length = 0; continuations = 0 };
    status = None;
    exchange = None;
  };
  last_asserted_rp = no_rp_id;
}

-- A channel whose first tracked packet is on this line, at time `now`. If a channel with an open transaction was
-- evicted before, it may be this channel, and the device may be processing a message that is no longer tracked.
abbrev pub tracked_channel : (has_forgotten : Bool) → (now number line : ℕ) → Channel
tracked_channel true now number line = record (fresh_channel number line) { ambiguous_count = 1; last_active_at = now }
tracked_channel false now number line = fresh_channel number line

-- Whether the first of two channels is evicted before the second: it alone is idle, or both or neither are idle and it
-- was used earlier.
abbrev pub is_evicted_sooner : (is_idle : Bool) → (used : ℕ) → (is_other_idle : Bool) → (other_used : ℕ) → Bool
is_evicted_sooner true used true other = nat_lt used other
is_evicted_sooner true used false other = true
is_evicted_sooner false used true other = false
is_evicted_sooner false used false other = nat_lt used other

-- Whether the first channel is evicted before the second.
abbrev pub is_evicted_before : Channel → Channel → Bool
is_evicted_before c other = is_evicted_sooner (is_idle c) c.used (is_idle other) other.used

-- Whether both channels exist, and the first one is evicted before the second.
abbrev pub yields : Option Channel → Option Channel → Bool
yields None other = false
yields (Some c) None = false
yields (Some c) (Some other) = is_evicted_before c other

-- No channel is evicted before the one at an index.
abbrev pub IsEvictedFirst : ℕ → List Channel → Type 0
IsEvictedFirst place channels = (i : ℕ) → i < 6 → yields (slice_get channels i) (slice_get channels place) ≡ false

-- Whether the device may be processing an unidentified message on any channel.
abbrev pub may_any_be_processing : ℕ → List Channel → Bool
may_any_be_processing now channels = list_any (may_be_processing now) channels

-- The channels after a device allocated this channel. If the channel was in use, the device has restarted.
abbrev pub with_allocated : (number line : ℕ) → Option ℕ → List Channel → List Channel
with_allocated number line None channels = channels
with_allocated number line (Some place) channels = slice_set channels place (fresh_channel number line)

-- The open transactions of the channel, or none without a channel.
abbrev pub open_on : Option Channel → List TransactionEnd
open_on None = []
open_on (Some c) = open_transactions c

-- The channels after the response to the INIT on a line, which allocates this channel.
abbrev pub after_allocation : (number line : ℕ) → List Channel → List Channel
after_allocation number line channels =
    if number == BROADCAST then channels else with_allocated number line (index_on number channels) channels

-- The ended transactions, followed by those that the response to an INIT ends: the transactions open on the channel
-- that it allocates.
abbrev pub ends_by_allocation : (number line : ℕ) → List Channel → List TransactionEnd → List TransactionEnd
ends_by_allocation number line channels ended =
    if number == BROADCAST then ended else with_dropped line ended (open_on (channel_on number channels))

-- The channel after a successful assertion on another channel, or after the response to an unknown request. A device
-- continues only its latest assertion (CTAP 2.1, section 6.3).
abbrev pub without_assertion : Channel → Channel
without_assertion c = record c { last_asserted_rp = no_rp_id }

-- No channel has an assertion to continue, except the one at an index if the packet's transaction is known. Nothing
-- else changes.
abbrev pub AreWithoutAssertion : (place : ℕ) → (is_unknown : Bool) → (old new : List Channel) → Type 0
AreWithoutAssertion place is_unknown old new = (i : ℕ) → slice_get new i
    ≡ option_map (λ c. if is_unknown || not (i == place) then without_assertion c else c) (slice_get old i)

-- The line of the INIT on the broadcast channel to which a packet is the response, if any.
abbrev pub allocating_line : ResponseStart → Option Transaction → Option ℕ
allocating_line answer None = None
allocating_line answer (Some transaction) =
    if (answer.command == INIT) && (transaction.channel == BROADCAST) then Some transaction.line else None

-- Whether authenticatorGetNextAssertion no longer refers to an earlier assertion after the packet: the packet is a
-- successful response to authenticatorGetAssertion or to an unknown request.
abbrev pub replaces_assertion : ResponseStart → Option Transaction → Bool
replaces_assertion answer transaction = is_success answer && (is_none transaction || is_assertion transaction)

-- Whether this is the last request on a channel, and it may refer to a credential created before the log.
abbrev pub may_name_prior : Transaction → Option OpenTransaction → Bool
may_name_prior transaction None = false
may_name_prior transaction (Some last) = (last.transaction.line == transaction.line) && last.named.may_name_prior

-- The earlier of two transactions, of those that began after a line. The first of the two, if any, began after it.
abbrev pub earlier_of : ℕ → Option TransactionEnd → TransactionEnd → Option TransactionEnd
earlier_of line None m = if nat_lt line m.exchange.transaction.line then Some m else None
earlier_of line (Some first) m =
    if nat_lt line m.exchange.transaction.line && nat_lt m.exchange.transaction.line first.exchange.transaction.line
    then Some m else Some first

-- The transaction that began first after a line, among those in the list and `other`.
abbrev pub first_after : ℕ → Option TransactionEnd → List TransactionEnd → Option TransactionEnd
first_after line other ended = fold (earlier_of line) other ended

-- The open transaction, of all channels, that began first after a line.
abbrev pub first_open_transaction_after : ℕ → List Channel → Option TransactionEnd
first_open_transaction_after line channels = fold (λ first c. first_after line first (open_transactions c)) None channels
