-- What the reply table makes of a packet is what the history says: the channels and the open message.
use Rattle.std.proofs.Common.{rules, ◌≡◌, ℕ, ◌+◌, ◌≤◌, true, cond, ◌&&◌, List, [], ◌∷◌, ◌++◌, length, append-nil}
use Rattle.std.proofs.Common.{Option, Some, None, refl, arith, nat_lt, if◌then◌else◌, Bool, false, ◌||◌, not, ◌==◌}
use Rattle.std.proofs.Common.{append_assoc, option_map, sym, subst, nat_le, min}
use Rattle.std.proofs.lemmas.Bool.Decides.{nat_tests}
use Rattle.std.proofs.lemmas.List.Elements.{filter-append}
use Rattle.hid_packet.specs.Packet.{channel, message_length, Fields, channel_of, command, continuation}
use Rattle.hid_packet.specs.Packet.{continuation_data, fields, initialization, initialization_data, is_initialization}
use Rattle.hid_packet.specs.Packet.{sequence}
use Rattle.authn_core.specs.Turn.{Start}
use Rattle.token_session.specs.Inputs.{ReceivedInput, latest_time, is_channel_input, channel_inputs, packet}
use Rattle.token_session.specs.Inputs.{requests_channel, is_packet}
use Rattle.token_session.specs.Inputs.{MessageStart, continues_until, is_long, is_next_packet, is_open}
use Rattle.token_session.specs.Inputs.{time_of_last_packet, open_among, open_at, to_open, completed_message}
use Rattle.token_session.specs.Inputs.{completed_long_message, is_last_packet}
use Rattle.std.proofs.lemmas.List.{map-append, length-append}
use Rattle.std.proofs.lemmas.Bool.{cond_both}
use Rattle.std.proofs.lemmas.Grind.{flat_map-append}
use Rattle.authn_core.proofs.Kept.{IsGiven}
use Rattle.authn_core.specs.State.{Cancel, Drop}
use Rattle.hid_assemble.specs.Table.{Begins, Continues, MAX_CHANNEL, PacketClass, Open, cont_packet_row, first_row}
use Rattle.hid_assemble.specs.Table.{init_packet_row, is_busy_elsewhere, is_allocated, is_busy_here, packet_class}
use Rattle.hid_assemble.specs.declared.table.ReplyRow.{ReplyRow}
use Rattle.hid_assemble.specs.declared.table.ReplyRow.TheVariants.{NoSuchCommand, Short, BadLength, BrokenOff}
use Rattle.hid_assemble.specs.declared.table.ReplyRow.TheVariants.{BusyElsewhere, BusyHere, CancelsNothing}
use Rattle.hid_assemble.specs.declared.table.ReplyRow.TheVariants.{CancelsWork, InitAgain, InitFull, InitLength}
use Rattle.hid_assemble.specs.declared.table.ReplyRow.TheVariants.{InitNew, Long, NoSuchChannel}
use Rattle.hid_assemble.specs.Assembly.{Message, open_message, bytes_of, channels_after, with_continuation}
use Rattle.hid_assemble.specs.Assembly.{message_after, open_after}
use Rattle.hid_assemble.specs.Verdicts.{class_verdict}
use Rattle.hid_packet.specs.Packet.{BROADCAST, CANCEL, CBOR, INIT, PING}
use Rattle.hid_packet.specs.Packet.{data_capacity, INIT_PACKET_DATA, MAX_MESSAGE_LEN}
use Rattle.hid_packet.specs.declared.packet.Packet.{Packet as Packet64}
use Rattle.token_session.specs.History.{admits, packet_event, table_packets}
use Rattle.token_session.specs.Machine.{verdict_event, verdict_packets}
use Rattle.token_session.specs.Machine.{request_event, ping_packets, row_packets}
use Rattle.token_session.specs.declared.input.Input.{Input}
use Rattle.token_session.specs.declared.input.Input.TheVariants.{Packet}

-- ---- how the open message of a history goes on by one input, and as time passes

-- each of these inputs came at t or later
abbrev pub From : ℕ → List ReceivedInput → Type 0
From t [] = Unit {0}
From t (e ∷ es) = (t ≤ e.at) × From t es

pub from_earlier : (es : List ReceivedInput) (s t : ℕ) → s ≤ t → From t es → From s es
from_earlier [] s t h f = tt
from_earlier (e ∷ es) s t h f = (omega (arith, f.0), from_earlier es s t h f.1)

from_one : (L : List ReceivedInput) (x : ReceivedInput) (t : ℕ) → From t L → t ≤ x.at → From t (L ++ x ∷ [])
from_one [] x t f le = (le, tt)
from_one (e ∷ L) x t f le = (f.0, from_one L x t f.1 le)

pub own_from : (c : ℕ) (es : List ReceivedInput) (t : ℕ) → From t es → From t (channel_inputs c es)
unfolding channel_inputs
own_from c [] t f = tt
own_from c (e ∷ es) t f = grind (arith, own_from c es t)

pub own-append : (c : ℕ) (L M : List ReceivedInput) → channel_inputs c (L ++ M) ≡ channel_inputs c L ++ channel_inputs c M
unfolding channel_inputs
own-append c L M = filter-append (is_channel_input c) L M

-- ---- an earlier time, with fewer inputs

pub goes_on_prefix : (os ps : List ReceivedInput) (len m since t u : ℕ) → From t ps → t ≤ u
    → continues_until len m since (os ++ ps) u ≡ true
    → continues_until len m since os t ≡ true
unfolding continues_until
goes_on_prefix [] [] len m since t u f le h = grind (arith, nat_tests)
goes_on_prefix [] (p ∷ ps) len m since t u f le h = let late = f.0 in grind (arith, nat_tests)
goes_on_prefix (o ∷ os) ps len m since t u f le h = grind (arith, goes_on_prefix os ps len (m + 1) o.at t u f le)

-- What is open earlier among fewer inputs is more.
is_open_prefix : (e : ReceivedInput) (L M : List ReceivedInput) (t u : ℕ) → From t M → t ≤ u → is_open e (L ++ M) u ≡ true
    → is_open e L t ≡ true
unfolding is_open
is_open_prefix e x1 x2 t u f le h = grind (arith, goes_on_prefix, own-append, own_from)

-- where nothing is open, nothing that came before is open later
pub none_stays : (h L M : List ReceivedInput) (t u : ℕ) → From t M → t ≤ u → open_among L h t ≡ None
    → open_among (L ++ M) h u ≡ None
unfolding open_among
none_stays [] L M t u f le n = refl
none_stays (e ∷ before) L M t u f le n = search (rules, arith, is_open_prefix, none_stays before (e ∷ L) M t u f le)

-- The times never fall, and nothing is open where a start is admitted.
abbrev pub Lawful : Start → List ReceivedInput → Type 0
Lawful start [] = Unit {0}
Lawful start (e ∷ past) = (latest_time start past ≤ e.at) × (e.admitted ≡ true → open_at past e.at ≡ None) × Lawful start past

pub open_is_admitted : (e : ReceivedInput) (L : List ReceivedInput) (t : ℕ) → is_open e L t ≡ true → e.admitted ≡ true
unfolding is_open
open_is_admitted e L t h = grind arith

-- ---- one more input

-- how an open message goes on by x
unfoldable pub next : ReceivedInput → MessageStart → Option MessageStart
next x b =
    if is_channel_input (channel b.packet) x
    then (if is_next_packet (message_length b.packet) (length b.own) x then Some
    (record { packet = b.packet; at = b.at; own = b.own ++ x ∷ [] }) else None)
    else Some b

abbrev pub then_next : ReceivedInput → Option MessageStart → Option MessageStart
then_next x None = None
then_next x (Some b) = next x b

goes_on_more : (os : List ReceivedInput) (x : ReceivedInput) (len m since n : ℕ) → n ≡ m + length os
    → continues_until len m since (os ++ x ∷ []) x.at ≡ (continues_until len m since os x.at && is_next_packet len n x)
unfolding continues_until
goes_on_more [] x len m since n e = let same : m ≡ n = omega arith in rw same (grind (arith, nat_tests))
goes_on_more (o ∷ os) x len m since n e = grind (arith, goes_on_more os x len (m + 1) o.at n (omega arith))

own_more : (c : ℕ) (x : ReceivedInput) (L : List ReceivedInput)
    → channel_inputs c (L ++ x ∷ []) ≡ cond (is_channel_input c x) (channel_inputs c L ++ x ∷ []) (channel_inputs c L)
unfolding channel_inputs
own_more c x L = grind (arith, filter-append, append-nil)

open_more : (e x : ReceivedInput) (L : List ReceivedInput) → is_open e (L ++ x ∷ []) x.at
    ≡ (is_open e L x.at && cond (is_channel_input (channel (packet e.input)) x)
    (is_next_packet (message_length (packet e.input)) (length (channel_inputs (channel (packet e.input)) L)) x) true)
unfolding is_open
open_more e x x2 = grind (arith, goes_on_more, own_more)

-- What was open goes on by it, and nothing else comes to be open after the newest start.
one_more : (h L : List ReceivedInput) (x : ReceivedInput) (start : Start) → Lawful start h → From (latest_time start h) L → latest_time start h ≤ x.at
    → open_among (L ++ x ∷ []) h x.at ≡ then_next x (open_among L h x.at)
unfolding open_among open_at next
one_more [] L x start l f le = refl
one_more (e ∷ before) L x start l f le =
    let ih = one_more before (e ∷ L) x start l.2 (l.0, from_earlier L (latest_time start before) e.at l.0 f)
    (omega (arith, l.0)) in
    let none : e.admitted ≡ true → open_among (e ∷ (L ++ x ∷ [])) before x.at ≡ None
    = λ a. none_stays before [] (e ∷ (L ++ x ∷ [])) e.at x.at (omega arith, from_one L x e.at f le) le (l.1 a) in
    grind (arith, open_more e x L, own_more (channel (packet e.input)) x L, open_is_admitted e L x.at, ih, none)

-- What is open after one more input.
pub open_next_is : (h : List ReceivedInput) (x : ReceivedInput) (start : Start) → Lawful start h → latest_time start h ≤ x.at
    → open_at (x ∷ h) x.at
    ≡ cond (x.admitted && is_long (packet x.input)) (Some (record { packet = packet x.input; at = x.at; own = [] }))
    (then_next x (open_at h x.at))
unfolding open_at open_among channel_inputs is_open continues_until
open_next_is h x start l le = let soon : nat_lt x.at (x.at + 500) ≡ true = grind (arith, nat_tests) in
    rw soon (grind (arith, one_more h [] x start l tt le))

-- ---- time

goes_on_still : (os : List ReceivedInput) (len m since t u : ℕ) → t ≤ u
    → continues_until len m since os u ≡ (continues_until len m since os t && nat_lt u (time_of_last_packet since os + 500))
unfolding continues_until
goes_on_still [] len m since t u le = grind (arith, nat_tests)
goes_on_still (o ∷ os) len m since t u le = grind (arith, goes_on_still os len (m + 1) o.at t u le)

open_still : (e : ReceivedInput) (L : List ReceivedInput) (t u : ℕ) → t ≤ u
    → is_open e L u ≡ (is_open e L t && nat_lt u (time_of_last_packet e.at (channel_inputs (channel (packet e.input)) L) + 500))
unfolding is_open
open_still e x1 t u le = search (rules, arith, goes_on_still)

abbrev pub still : ℕ → Option MessageStart → Option MessageStart
still u None = None
still u (Some b) = cond (nat_lt u (time_of_last_packet b.at b.own + 500)) (Some b) None

later_open : (h L : List ReceivedInput) (start : Start) (t u : ℕ) → Lawful start h → From (latest_time start h) L → latest_time start h ≤ t
    → t ≤ u
    → open_among L h u ≡ still u (open_among L h t)
unfolding open_among open_at
later_open [] L start t u l f le lu = refl
later_open (e ∷ before) L start t u l f le lu =
    let ih = later_open before (e ∷ L) start t u l.2 (l.0, from_earlier L (latest_time start before) e.at l.0 f)
    (omega (arith, l.0)) lu in
    let none : e.admitted ≡ true → open_among (e ∷ L) before u ≡ None =
    λ a. none_stays before [] (e ∷ L) e.at u (omega arith, f) (omega arith) (l.1 a) in
    rw (open_still e L t u lu) (grind (arith, open_is_admitted e L t, ih, none))

-- what is open at the end of a history, and still at a later time
pub still_open : (h : List ReceivedInput) (start : Start) (u : ℕ) → Lawful start h → latest_time start h ≤ u
    → open_at h u ≡ still u (open_at h (latest_time start h))
unfolding open_at
still_open h start u l le = later_open h [] start (latest_time start h) u l tt (omega arith) le

-- What the reply table makes of a packet is what the history says: the channels, the open message, the finished one and
-- the event. Each part is a proposition on the tests of the table, whatever their values.

-- What an input that came at t makes of the open message.
abbrev pub new_open : ℕ → Option MessageStart → Option ℕ → ℕ → Input → Option MessageStart
new_open g o w t i =
    let e : ReceivedInput = record { at = t; input = i; admitted = is_packet (admits g o w) i } in
    cond (e.admitted && is_long (packet i)) (Some (record { packet = packet i; at = t; own = [] })) (then_next e o)

-- these packets and those of a finished PING are what is sent under the ruling
abbrev SendsAs : ℕ → Option Open → Option ℕ → Fields → List (List ℕ) → PacketClass → Type 0
SendsAs g c w f ps r = ps ++ ping_packets (message_after c f r)
    ≡ verdict_packets (class_verdict g c w f (message_after c f r) r) (bytes_of (message_after c f r))

-- The ruling does to each part what the history says.
pub record Serves (g : ℕ) (o : Option MessageStart) (w : Option ℕ) (t : ℕ) (x : Packet64) (f : Fields) (r : PacketClass) : Type 0
  where
    pub channels : cond (requests_channel x.0) (min (g + 1) MAX_CHANNEL) g ≡ channels_after g r
    pub current : option_map to_open (new_open g o w t (Packet x)) ≡ open_after (option_map to_open o) t f r
    pub message : completed_message o (admits g o w x.0) (Packet x) ≡ message_after (option_map to_open o) f r
    pub event : packet_event w (message_after (option_map to_open o) f r) x.0
        ≡ verdict_event (class_verdict g (option_map to_open o) w f (message_after (option_map to_open o) f r) r)
        (bytes_of (message_after (option_map to_open o) f r))
    pub packets : SendsAs g (option_map to_open o) w f (table_packets g o w (Packet x)) r

-- ---- what is sent

row_sends : (g : ℕ) (c : Option Open) (w : Option ℕ) (p : List ℕ) (cmd len : ℕ) (r : ReplyRow)
    → SendsAs g c w (initialization (channel p) cmd len (initialization_data p)) (row_packets g p r) (Begins r)
unfolding row_packets message_after class_verdict
row_sends g c w p cmd len r = grind (arith, append-nil)

-- ---- a start, by the tests of the table's rows

-- What the rows test of an initialization packet: its channel (`on` which work waits, `known`, `here` a message is
-- open, `apart` from that one or from work), its command, and its length.
pub record Tests : Type 0 where
  pub cancel : Bool
  pub on : Bool
  pub known : Bool
  pub broadcast : Bool
  pub init : Bool
  pub eight : Bool
  pub full : Bool
  pub apart : Bool
  pub here : Bool
  pub served : Bool
  pub over : Bool
  pub empty : Bool
  pub short : Bool

-- the tests of a packet, by the channels of the open message and of waiting work
abbrev tests : ℕ → (current work : Option ℕ) → List ℕ → Tests
tests g current work p = record {
  cancel = command p == CANCEL;
  on = is_busy_here work (channel p);
  known = is_allocated g (channel p);
  broadcast = channel p == BROADCAST;
  init = command p == INIT;
  eight = message_length p == 8;
  full = g == MAX_CHANNEL;
  apart = is_busy_elsewhere current (channel p) || is_busy_elsewhere work (channel p);
  here = is_busy_here current (channel p);
  served = (command p == PING) || (command p == CBOR);
  over = nat_lt MAX_MESSAGE_LEN (message_length p);
  empty = (command p == CBOR) && (message_length p == 0);
  short = nat_le (message_length p) INIT_PACKET_DATA;
}

-- the row of the table that they name
abbrev row : Tests → ReplyRow
row s = first_row
    ((s.cancel && s.on, CancelsWork) ∷ (s.cancel, CancelsNothing)
    ∷ (not (s.known || (s.broadcast && s.init)), NoSuchChannel)
    ∷ (s.init && not s.eight, InitLength) ∷ ((s.broadcast && s.init) && s.full, InitFull)
    ∷ (s.broadcast && s.init, InitNew)
    ∷ (s.init, InitAgain) ∷ (s.apart, BusyElsewhere) ∷ (s.on, BusyHere) ∷ (s.here, BrokenOff)
    ∷ (not s.served, NoSuchCommand)
    ∷ (s.over || s.empty, BadLength) ∷ (s.short, Short) ∷ []) Long

-- what these tests say of one another
pub record Agree (s : Tests) : Type 0 where
  pub init : s.init ≡ true → s.cancel ≡ false
  pub served : s.served ≡ true → (s.cancel ≡ false) × (s.init ≡ false)
  pub on : s.on ≡ true → s.known ≡ true
  pub here : s.here ≡ true → s.known ≡ true
  pub known : s.known ≡ true → s.broadcast ≡ false

agree : (g : ℕ) (o w : Option ℕ) (p : List ℕ) → g ≤ MAX_CHANNEL → IsGiven g o → IsGiven g w → Agree (tests g o w p)
agree g o w p few og wg = grind (arith, nat_tests)

-- whether it is admitted where nothing is open
abbrev admitted : Tests → Bool
admitted s = (s.known && (s.served && not s.empty)) && not (s.apart || s.on)

-- each part, whatever the tests say
channels_row : (s : Tests) (g : ℕ) → Agree s → s.full ≡ (g == MAX_CHANNEL) → g ≤ MAX_CHANNEL
    → cond ((s.init && s.eight) && s.broadcast) (min (g + 1) MAX_CHANNEL) g ≡ channels_after g (Begins (row s))
channels_row s g a full few = grind (arith, nat_tests)

open_none : (s : Tests) (t : ℕ) (f : Fields) (b : MessageStart) → Agree s → s.here ≡ false → to_open b ≡ open_message t f
    → option_map to_open (cond (admitted s && (not s.short && not s.over)) (Some b) None)
    ≡ open_after None t f (Begins (row s))
unfolding open_after
open_none s t f b a alone is = grind arith

message_none : (s : Tests) (f : Fields) (m : Message) → Agree s → s.here ≡ false → (s.short ≡ true → s.over ≡ false)
    → Some m ≡ message_after None f (Begins Short)
    → cond (admitted s && s.short) (Some m) None ≡ message_after None f (Begins (row s))
unfolding message_after
message_none s f m a alone small is = grind arith

event_row : (s : Tests) (w : Option ℕ) (g : ℕ) (o : Option Open) (f : Fields) (m : Option Message) → Agree s
    → is_busy_here w (channel_of f) ≡ s.on
    → m ≡ message_after o f (Begins (row s))
    → cond (s.cancel && s.on) (Some Cancel) (cond ((s.init && s.eight) && s.on) (Some Drop) (request_event m))
    ≡ verdict_event (class_verdict g o w f m (Begins (row s))) (bytes_of m)
unfolding message_after class_verdict
event_row s w g o f m a on is = grind arith

open_some : (s : Tests) (t : ℕ) (f : Fields) (b : MessageStart) → Agree s → s.apart ≡ not s.here → s.on ≡ false
    → (channel b.packet == channel_of f) ≡ s.here
    → option_map to_open (cond (s.here && not s.cancel) None (Some b))
    ≡ open_after (Some (to_open b)) t f (Begins (row s))
unfolding open_after
open_some s t f b a apart idle here = grind arith

message_some : (s : Tests) (f : Fields) (o : Open) → s.apart ≡ not s.here
    → None ≡ message_after (Some o) f (Begins (row s))
unfolding message_after
message_some s f o apart = grind arith

-- the fields of an initialization packet, and of a continuation packet
abbrev starts : List ℕ → Fields
starts p = initialization (channel p) (command p) (message_length p) (initialization_data p)

abbrev goes : List ℕ → Fields
goes p = continuation (channel p) (sequence p) (continuation_data p)

admits_none : (g : ℕ) (w : Option ℕ) (p : List ℕ) → is_initialization p ≡ true
    → admits g None w p ≡ admitted (tests g None w p)
unfolding admits
admits_none g w p st = rw st (grind (arith, nat_tests))

long_is : (p : List ℕ) → is_long p ≡ (not (nat_le (message_length p) INIT_PACKET_DATA) && not
    (nat_lt MAX_MESSAGE_LEN (message_length p)))
unfolding is_long
long_is p = grind (arith, nat_tests)

small : (n : ℕ) → nat_le n INIT_PACKET_DATA ≡ true → nat_lt MAX_MESSAGE_LEN n ≡ false
small n h = grind (arith, nat_tests)

start_none : (g : ℕ) (w : Option ℕ) (t : ℕ) (x : Packet64) → g ≤ MAX_CHANNEL → IsGiven g w
    → is_initialization x.0 ≡ true
    → Serves g None w t x (starts x.0) (Begins (init_packet_row g None w (channel x.0) (command x.0)
    (message_length x.0)))
unfolding requests_channel completed_message completed_long_message packet_event init_packet_row message_after table_packets
start_none g w t x few wg st =
    let s = tests g None w x.0 in
    let a = agree g None w x.0 few tt wg in
    record {
      channels = rw st (channels_row s g a refl few);
      current = rw (admits_none g w x.0 st, long_is x.0) (open_none s t (starts x.0) _ a refl
          (rw (append-nil (initialization_data x.0)) refl));
      message = rw (admits_none g w x.0 st) (message_none s (starts x.0) _ a refl (small (message_length x.0))
          (rw (append-nil (initialization_data x.0)) refl));
      event = rw st (event_row s w g None (starts x.0) _ a refl refl);
      packets = rw st (row_sends g None w x.0 (command x.0) (message_length x.0) (row s));
    }

-- ---- where a message is open

-- No start is admitted.
pub never_admitted : (g : ℕ) (b : MessageStart) (w : Option ℕ) (p : List ℕ) → admits g (Some b) w p ≡ false
unfolding admits
never_admitted g b w p = grind arith

abbrev pub now_came : ℕ → Packet64 → ReceivedInput
now_came t x = record { at = t; input = Packet x; admitted = false }

start_next : (b : MessageStart) (t : ℕ) (x : Packet64) → is_initialization x.0 ≡ true
    → next (now_came t x) b ≡ cond ((channel b.packet == channel x.0) && not (command x.0 == CANCEL)) None (Some b)
unfolding next is_channel_input is_next_packet
start_next b t x st = rw st (grind arith)

start_some : (g : ℕ) (b : MessageStart) (t : ℕ) (x : Packet64) → g ≤ MAX_CHANNEL → IsGiven g (Some (channel b.packet))
    → is_initialization x.0 ≡ true
    → Serves g (Some b) None t x (starts x.0) (Begins (init_packet_row g (Some (channel b.packet)) None (channel x.0)
    (command x.0) (message_length x.0)))
unfolding requests_channel completed_message completed_long_message is_last_packet packet_event init_packet_row table_packets
start_some g b t x few og st =
    let s = tests g (Some (channel b.packet)) None x.0 in
    let a = agree g (Some (channel b.packet)) None x.0 few og tt in
    let apart : s.apart ≡ not s.here = grind arith in
    record {
      channels = rw st (channels_row s g a refl few);
      current = rw (never_admitted g b None x.0, start_next b t x st) (open_some s t (starts x.0) b a apart refl refl);
      message = rw (never_admitted g b None x.0, st) (message_some s (starts x.0) (to_open b) apart);
      event = rw st (event_row s None g (Some (to_open b)) (starts x.0) _ a refl refl);
      packets = rw st (row_sends g (Some (to_open b)) None x.0 (command x.0) (message_length x.0) (row s));
    }

-- ---- continuation packets

last_at_more : (es : List ReceivedInput) (t : ℕ) (e : ReceivedInput) → time_of_last_packet t (es ++ e ∷ []) ≡ e.at
last_at_more [] t e = refl
last_at_more (x ∷ es) t e = last_at_more es x.at e

grown_as : (b : MessageStart) (t : ℕ) (x : Packet64)
    → to_open (record { packet = b.packet; at = b.at; own = b.own ++ now_came t x ∷ [] })
    ≡ with_continuation t (goes x.0) (to_open b)
grown_as b t x = simp (map-append, flat_map-append, append-nil, append_assoc, length-append, last_at_more)

more_next : (b : MessageStart) (t : ℕ) (x : Packet64) → is_initialization x.0 ≡ false
    → next (now_came t x) b ≡ cond (channel b.packet == channel x.0)
    (cond ((sequence x.0 == length b.own) && nat_lt (data_capacity (length b.own + 1)) (message_length b.packet))
    (Some (record { packet = b.packet; at = b.at; own = b.own ++ now_came t x ∷ [] })) None) (Some b)
unfolding next is_channel_input is_next_packet
more_next b t x st = rw st (grind arith)

more_row : (g : ℕ) (o : Option MessageStart) (w : Option ℕ) (t : ℕ) (x : Packet64) → is_initialization x.0 ≡ false
    → Serves g o w t x (goes x.0) (Continues (cont_packet_row (option_map to_open o) (channel x.0) (sequence x.0)))
unfolding requests_channel admits completed_message completed_long_message is_last_packet packet_event cont_packet_row open_after message_after
    class_verdict table_packets
more_row g x1 w t x st = grind (arith, append-nil, append_assoc, flat_map-append, grown_as, more_next)

-- ---- any packet

-- Nothing is open, or a message on a channel that was given out, while no work waits.
abbrev pub OpenGiven : ℕ → Option MessageStart → Option ℕ → Type 0
OpenGiven g None w = Unit {0}
OpenGiven g (Some b) w = (1 ≤ channel b.packet) × (channel b.packet ≤ g) × (w ≡ None)

-- what holds after every history: at most one message is open or waits, on a channel that was given out
pub record Safe (g : ℕ) (o : Option MessageStart) (w : Option ℕ) : Type 0 where
  pub few : g ≤ MAX_CHANNEL
  pub works : IsGiven g w
  pub opens : OpenGiven g o w

start_row : (g : ℕ) (o : Option MessageStart) (w : Option ℕ) (t : ℕ) (x : Packet64) → Safe g o w → is_initialization x.0 ≡ true
    → Serves g o w t x (starts x.0) (packet_class g (option_map to_open o) w (starts x.0))
unfolding packet_class
start_row g None w t x s st = start_none g w t x s.few s.works st
start_row g (Some b) w t x s st =
    subst (λ v. Serves g (Some b) v t x (starts x.0) (packet_class g (Some (to_open b)) v (starts x.0))) (sym (s.opens).2)
    (start_some g b t x s.few ((s.opens).0, (s.opens).1) st)

pub serves : (g : ℕ) (o : Option MessageStart) (w : Option ℕ) (t : ℕ) (x : Packet64) → Safe g o w
    → Serves g o w t x (fields x.0) (packet_class g (option_map to_open o) w (fields x.0))
unfolding packet_class
serves g o w t x s =
    cond_both (is_initialization x.0) (starts x.0) (goes x.0)
    (λ f. Serves g o w t x f (packet_class g (option_map to_open o) w f))
    (λ st. start_row g o w t x s st) (λ st. more_row g o w t x st)
