-- A finished message is carried by its packets, and one input sends at most 130 packets.
use Rattle.std.proofs.Common.{rules, ◌≡◌, ℕ, ◌+◌, ◌-◌, ◌*◌, ◌≤◌, ◌<◌, min, sum_by, true, List, [], ◌∷◌, length}
use Rattle.std.proofs.Common.{Option, Some, None, option_to_list, refl, arith, Bool, false, cond, ◌&&◌, inl, ◌++◌}
use Rattle.std.proofs.Common.{take, drop, flat_map, sym, ◌∙◌, ap, subst, max, nat_le, length-append, length-drop}
use Rattle.std.proofs.Common.{length-take, suc, append-nil, append_assoc}
use Rattle.std.proofs.lemmas.Bool.Decides.{nat_tests}
use Rattle.std.proofs.lemmas.List.Sums.{sum_by-cons}
use Rattle.authn_core.specs.Turn.{Start, CoreState}
use Rattle.ctap_message.specs.Requests.{MAX_STEPS}
use Rattle.hid_packet.specs.Packet.{channel, command, continuation_data, initialization_data, is_initialization}
use Rattle.hid_packet.specs.Packet.{message_length, sequence}
use Rattle.token_session.specs.Inputs.{ReceivedInput, latest_time, channel_inputs, packet, is_channel_input}
use Rattle.token_session.specs.Inputs.{is_packet, channels_allocated}
use Rattle.token_session.specs.Inputs.{MessageStart, continues_until, is_long, is_next_packet, is_open, open_among}
use Rattle.token_session.specs.Inputs.{open_at, message_completed_at, message_start, message, completed_message}
use Rattle.token_session.specs.Inputs.{completed_long_message, is_last_packet, packets_of}
use Rattle.token_session.specs.History.{held, admits, receive, received}
use Rattle.token_session.specs.History.{all_open, append_inputs}
use Rattle.token_session.specs.Meters.{peak_held}
use Rattle.token_session.proofs.Serve.{From, Lawful, from_earlier, none_stays, open_is_admitted, goes_on_prefix}
use Rattle.token_session.proofs.Serve.{own-append, own_from}
use Rattle.std.proofs.lemmas.Bool.{cond_both, false_from_ne_true}
use Rattle.std.proofs.lemmas.List.{length-map, drop_all}
use Rattle.std.proofs.lemmas.Option.{same_Some}
use Rattle.token_session.specs.Carried.{AreFullPackets, HasFullPacket, HaveFullPackets, ArriveWithFullPackets}
use Rattle.token_session.specs.Carried.{completed_message_packets, open_message_packets, completed_packets_at}
use Rattle.hid_assemble.specs.Assembly.{Message}
use Rattle.hid_packet.specs.Message.{Carries, CarriesMessage, AreContinuations, joined_data, IsLeast}
use Rattle.token_session.specs.declared.input.Input.{Input}
use Rattle.token_session.specs.declared.input.Input.TheVariants.{Packet}
use Rattle.token_session.specs.declared.input.Timed.{Timed}
use Rattle.hid_packet.proofs.MessagePackets.{few_written}
use Rattle.hid_packet.specs.Message.{continuation_packets, message_packets}
use Rattle.authn_core.proofs.Kept.{drop_answers_nothing}
use Rattle.authn_core.specs.State.{Answer, Drop, Event}
use Rattle.hid_assemble.specs.declared.verdict.Verdict.{Verdict}
use Rattle.token_session.specs.Machine.{verdict_event, verdict_packets}
use Rattle.token_session.specs.Machine.{event_packets}
use Rattle.token_session.specs.Machine.{MachineState, time_passed, processed_input, turn}
use Rattle.token_session.specs.Machine.{answer_packets, init_response}
use Rattle.hid_packet.specs.declared.packet.Packet.{Packet as Packet64}
use Rattle.token_session.specs.Carried.{MessageArrives, ArriveInTime, received_after_all}
use Rattle.token_session.proofs.Answered.{admitted_first}
use Rattle.token_session.proofs.Follows.{good_judged}

-- ---- at most one message is open, and how much is held of it

none_all : (h L : List ReceivedInput) (t : ℕ) → open_among L h t ≡ None → all_open L h t ≡ []
unfolding open_among all_open
none_all [] L t n = refl
none_all (e ∷ before) L t n = grind (arith, none_all before (e ∷ L) t)

pub one_open : (h L : List ReceivedInput) (start : Start) (t : ℕ) → Lawful start h → From (latest_time start h) L → latest_time start h ≤ t
    → all_open L h t ≡ option_to_list (open_among L h t)
unfolding open_among all_open open_at
one_open [] L start t l f le = refl
one_open (e ∷ before) L start t l f le =
    let none : e.admitted ≡ true → all_open (e ∷ L) before t ≡ [] =
    λ a. none_all before (e ∷ L) t (none_stays before [] (e ∷ L) e.at t (omega arith, f) le (l.1 a)) in
    grind (arith, open_is_admitted e L t, none, one_open before (e ∷ L) start t l.2 (l.0, from_earlier L (latest_time start before) e.at l.0 f) (omega (arith, l.0)))

pub goes_on_below : (os : List ReceivedInput) (len m since t : ℕ) → 57 + 59 * m < len → continues_until len m since os t ≡ true
    → 57 + 59 * (m + length os) < len
unfolding continues_until is_next_packet
goes_on_below [] len m since t lt h = omega arith
goes_on_below (o ∷ os) len m since t lt h = grind (arith, nat_tests, goes_on_below os len (m + 1) o.at t)

-- an open message has at most 127 continuations
abbrev FewOwn : Option MessageStart → Type 0
FewOwn None = Unit {0}
FewOwn (Some b) = 57 + 59 * length b.own ≤ 7550

few_here : (e : ReceivedInput) (L : List ReceivedInput) (t : ℕ) → is_open e L t ≡ true
    → 57 + 59 * length (channel_inputs (channel (packet e.input)) L) ≤ 7550
unfolding is_open is_long
few_here e x1 t h = grind (arith, goes_on_below, nat_tests)

few_own : (h L : List ReceivedInput) (t : ℕ) → FewOwn (open_among L h t)
unfolding open_among
few_own [] L t = tt
few_own (e ∷ before) L t = grind (arith, few_here e L t, few_own before (e ∷ L) t)

pub held_few : (start : Start) (h : List ReceivedInput) → held start h ≤ 7550
unfolding held open_at
held_few start h = grind (arith, few_own h [] (latest_time start h))

-- the most that was held
pub peak_few : (start : Start) (h : List ReceivedInput) → peak_held start h ≤ 7550
unfolding peak_held
peak_few start [] = held_few start []
peak_few start (e ∷ h) = let one = held_few start (e ∷ h) in let others = peak_few start h in omega arith

-- Where each message takes at most four steps for each byte after the first and two more, so do they together.
pub few_steps : (steps : List ℕ → ℕ) → ((m : List ℕ) → steps m ≤ 4 * (length m - 1) + 2) → (ms : List (List ℕ))
    → sum_by steps ms ≤ 4 * sum_by (λ m. length m - 1) ms + 2 * length ms
few_steps steps each [] = omega arith
few_steps steps each (m ∷ ms) = search (rules, arith, sum_by-cons, few_steps steps each ms)

pub few_capped : (steps bytes count : ℕ) → steps ≤ 4 * bytes + 2 * count
    → min steps MAX_STEPS ≤ 4 * min bytes MAX_STEPS + 2 * min count MAX_STEPS
few_capped steps bytes count h = omega arith

-- ---- a finished message is carried by its initialization packet and its channel's own packets

-- each is a packet of channel c
abbrev pub On : ℕ → List ReceivedInput → Type 0
On c [] = Unit {0}
On c (e ∷ es) = (is_channel_input c e ≡ true) × On c es

pub own_on : (c : ℕ) (es : List ReceivedInput) → On c (channel_inputs c es)
unfolding channel_inputs
own_on c [] = tt
own_on c (e ∷ es) = grind (arith, own_on c es)

length_parts : (ps : List (List ℕ)) → AreFullPackets ps → length (flat_map continuation_data ps) ≡ 59 * length ps
unfolding continuation_data
length_parts [] a = refl
length_parts (p ∷ ps) a =
    let one : length (take 59 (drop 5 p)) ≡ 59 = omega (arith, length-take 59 (drop 5 p), length-drop 5 p, a.0) in
    let rest = length_parts ps a.1 in
    omega (arith, length-append (take 59 (drop 5 p)) (flat_map continuation_data ps))

continue_more : (c m n : ℕ) (ps : List (List ℕ)) (p : List ℕ) → n ≡ m + length ps → AreContinuations c m ps
    → is_initialization p ≡ false → channel p ≡ c
    → sequence p ≡ n → AreContinuations c m (ps ++ p ∷ [])
continue_more c m n [] p e k a b s = let same : n ≡ m = omega arith in (a, b, s ∙ same, tt)
continue_more c m n (q ∷ ps) p e k a b s = (k.0, k.1, k.2, continue_more c (m + 1) n ps p (omega arith) k.3 a b s)

all_continue : (os : List ReceivedInput) (c len m since t : ℕ) → On c os → continues_until len m since os t ≡ true
    → AreContinuations c m (packets_of os)
unfolding continues_until is_channel_input is_next_packet
all_continue [] c len m since t o h = tt
all_continue (e ∷ es) c len m since t o h = grind (arith, nat_tests, all_continue es c len (m + 1) e.at t o.1)

are64_more : (ps : List (List ℕ)) (p : List ℕ) → AreFullPackets ps → length p ≡ 64 → AreFullPackets (ps ++ p ∷ [])
are64_more [] p a h = (h, tt)
are64_more (q ∷ ps) p a h = (a.0, are64_more ps p a.1 h)

length_joined : (start : List ℕ) (ps : List (List ℕ)) → length start ≡ 64 → AreFullPackets ps
    → length (joined_data start ps) ≡ 57 + 59 * length ps
unfolding initialization_data
length_joined start ps h a =
    let one : length (take 57 (drop 7 start)) ≡ 57 =
    omega (arith, length-take 57 (drop 7 start), length-drop 7 start, h) in
    let rest = length_parts ps a in
    omega (arith, length-append (take 57 (drop 7 start)) (flat_map continuation_data ps))

-- The start and its own packets, up to the last, carry the bytes that are handed on.
pub last_carries : (b : MessageStart) (t : ℕ) (p : List ℕ) → is_initialization b.packet ≡ true → length b.packet ≡ 64
    → AreFullPackets (packets_of b.own)
    → length p ≡ 64
    → On (channel b.packet) b.own → 58 ≤ message_length b.packet → message_length b.packet ≤ 7609
    → continues_until (message_length b.packet) 0 b.at b.own t ≡ true → is_last_packet b p ≡ true
    → Carries b.packet (packets_of b.own ++ p ∷ []) (channel b.packet) (command b.packet)
    (take (message_length b.packet) (joined_data b.packet (packets_of b.own ++ p ∷ [])))
unfolding is_last_packet
last_carries b t p st l64 a64 p64 channel_inputs low high goes last = grind (arith, all_continue, are64_more, continue_more, goes_on_below, length-append, length-map, length-take, length_joined, nat_tests)

-- Every packet of these inputs has 64 bytes.
pub packets_whole : (c : ℕ) (es : List ReceivedInput) → HaveFullPackets es → AreFullPackets (packets_of (channel_inputs c es))
unfolding channel_inputs is_channel_input
packets_whole c [] h = tt
packets_whole c (e ∷ es) h = grind (arith, packets_whole c es h.1)

-- what is known of an open message
pub record Known (b : MessageStart) (t : ℕ) : Type 0 where
  pub start : is_initialization b.packet ≡ true
  pub whole : length b.packet ≡ 64
  pub parts : AreFullPackets (packets_of b.own)
  pub own_packets : On (channel b.packet) b.own
  pub long : 58 ≤ message_length b.packet
  pub short : message_length b.packet ≤ 7609
  pub goes : continues_until (message_length b.packet) 0 b.at b.own t ≡ true

known_here : (start : Start) (h : List ReceivedInput) (x : Timed) (L : List ReceivedInput) (t : ℕ) → HasFullPacket x.input → HaveFullPackets L
    → is_open (receive start x h) L t ≡ true → Known (message_start (receive start x h) L) t
unfolding is_open is_long receive admits
known_here start h x x3 t w whole o = grind (arith, nat_tests, own_on, packets_whole)

known : (start : Start) (h : List Timed) (L : List ReceivedInput) (t : ℕ) (b : MessageStart) → ArriveWithFullPackets h → HaveFullPackets L
    → open_among L (received start h) t ≡ Some b → Known b t
unfolding open_among received receive
known start [] L t b w v is = cc
known start (x ∷ h) L t b w v is =
    let e = receive start x (received start h) in
    cond_both (is_open e L t) _ _ (λ o. (o ≡ Some b → Known b t))
    (λ o q. subst (λ v. Known v t) (same_Some _ b q) (known_here start (received start h) x L t w.0 v o))
    (λ _ q. known start h (e ∷ L) t b w.1 (w.0, v) q) is

-- a finished long message
long_is : (b : MessageStart) (p : List ℕ) (m : Message) → completed_long_message (Some b) p ≡ Some m
    → (is_last_packet b p ≡ true) × (message b.packet (packets_of b.own ++ p ∷ []) ≡ m)
unfolding completed_long_message
long_is b p m h = grind arith

long_carried : (o : Option MessageStart) (t : ℕ) (p : List ℕ) (m : Message) → ((b : MessageStart) → o ≡ Some b → Known b t)
    → length p ≡ 64
    → completed_long_message o p ≡ Some m
    → CarriesMessage (open_message_packets o p) m.cid m.cmd m.bytes
unfolding completed_long_message open_message_packets
long_carried x0 t p m k whole h = grind (arith, last_carries, long_is)

short_carries : (p : List ℕ) → is_initialization p ≡ true → length p ≡ 64 → message_length p ≤ 57
    → Carries p [] (channel p) (command p) (take (message_length p) (joined_data p []))
short_carries p start whole few =
    let size = length_joined p [] whole tt in
    let exact : length (take (message_length p) (joined_data p [])) ≡ message_length p =
    omega (arith, length-take (message_length p) (joined_data p [])) in
    record {
      short = omega arith;
      begins = start;
      on = refl;
      asks = refl;
      counts = sym exact;
      continues = tt;
      least = inl (omega arith, refl);
      joins = ap (λ n. take n (joined_data p [])) (sym exact);
    }

-- what an input finishes
carried : (o : Option MessageStart) (t : ℕ) (admitted : Bool) (i : Input) (m : Message)
    → ((b : MessageStart) → o ≡ Some b → Known b t) → HasFullPacket i
    → (admitted ≡ true → is_initialization (packet i) ≡ true) → completed_message o admitted i ≡ Some m
    → CarriesMessage (completed_message_packets o admitted i) m.cid m.cmd m.bytes
unfolding completed_message completed_message_packets
carried o t admitted (Packet p) m k whole starts h =
    go (admitted && nat_le (message_length p.0) 57) refl h
  where
    go : (b : Bool) → (admitted && nat_le (message_length p.0) 57) ≡ b
        → cond b (Some (message p.0 [])) (completed_long_message o p.0) ≡ Some m
        → CarriesMessage (cond b (p.0 ∷ []) (open_message_packets o p.0)) m.cid m.cmd m.bytes
    go true e q = grind (arith, nat_tests, same_Some, short_carries)
    go false e q = long_carried o t p.0 m k whole q
carried o t admitted other m k whole starts h = cc

admitted_starts : (g : ℕ) (o : Option MessageStart) (w : Option ℕ) (i : Input) → is_packet (admits g o w) i ≡ true
    → is_initialization (packet i) ≡ true
unfolding admits
admitted_starts g o w i h = grind arith

pub finished_is_carried : (start : Start) (h : List Timed) (x : Timed) (m : Message) → ArriveWithFullPackets (x ∷ h)
    → message_completed_at (receive start x (received start h)) (received start h) ≡ Some m
    → CarriesMessage (completed_packets_at (receive start x (received start h)) (received start h)) m.cid m.cmd m.bytes
unfolding receive open_at
finished_is_carried start h x m w f =
    let past = received start h in
    let t = max (latest_time start past) x.at in
    carried (open_at past t) t _ x.input m (λ b is. known start h [] t b w.1 tt is) w.0 (admitted_starts _ _ _ x.input)
    f

-- ---- one input sends at most 130 packets

no_more : (c : ℕ) → suc (length (continuation_packets 128 c 0 [])) ≤ 1
unfolding continuation_packets
no_more c = omega arith

one_packet : (c k : ℕ) (b : List ℕ) → length b ≤ 57 → length (message_packets c k b) ≤ 1
unfolding message_packets
one_packet c k b h = let e = drop_all 57 b h in rw e (no_more c)

pub drop_sends_nothing : (k : CoreState) (t : ℕ) → event_packets k t (Some Drop) ≡ []
unfolding answer_packets
drop_sends_nothing k t = rw (drop_answers_nothing k t) (grind arith)

answer_few : (c s : Option ℕ) (a : Answer) → length (answer_packets c s a) ≤ 129
unfolding answer_packets
answer_few c s a = grind (arith, few_written)

pub event_few : (k : CoreState) (t : ℕ) (e : Option Event) → length (event_packets k t e) ≤ 129
event_few k t e = grind (arith, answer_few)

pub verdict_few : (k : CoreState) (t : ℕ) (v : Verdict) (bytes : List ℕ)
    → length (verdict_packets v bytes ++ event_packets k t (verdict_event v bytes)) ≤ 129
unfolding init_response
verdict_few k t v bytes = grind (arith, few_written, event_few, drop_sends_nothing, append-nil, nat_tests)

pub time_few : (s : MachineState) (t : ℕ) → length (time_passed s t).packets ≤ 1
unfolding time_passed
time_few s t = grind (arith, one_packet)

below : (a b : List (List ℕ)) → length a ≤ 1 → length b ≤ 129 → length (a ++ b) ≤ 130
below a b h k = omega (arith, length-append a b)

pub served_few : (s : MachineState) (early : List (List ℕ)) (i : Input) → length early ≤ 1
    → length (processed_input s early i).packets ≤ 130
served_few s early other h = grind (arith, below, event_few, verdict_few)

pub turn_few : (s : MachineState) (x : Timed) → length (turn s x).packets ≤ 130
unfolding turn
turn_few s x = grind (arith, served_few, time_few)

-- ---- a message of several packets finishes, whatever other hosts send between

-- ---- the times

judged_at_end : (start : Start) (h : List Timed) (x : Timed)
    → latest_time start (received start h) ≤ (receive start x (received start h)).at
unfolding receive
judged_at_end start h x = omega arith

arrive_from : (start : Start) (h xs : List Timed) → From (latest_time start (received start h)) (received_after_all start h xs)
unfolding received
arrive_from start h [] = tt
arrive_from start h (x ∷ xs) = grind (arith, from_earlier, judged_at_end, arrive_from start (x ∷ h) xs)

end_rises : (start : Start) (xs h : List Timed) → latest_time start (received start h) ≤ latest_time start (received start (append_inputs xs h))
unfolding received
end_rises start [] h = omega arith
end_rises start (x ∷ xs) h = search (rules, arith, judged_at_end, end_rises start xs (x ∷ h))

-- ---- the message stays open

-- Over inputs D after its first packet e, a message stays open at each later time, as long as its own packets go on.
abbrev StaysOpen : ReceivedInput → Start → List Timed → List ReceivedInput → Type 0
StaysOpen e start g D = (M : List ReceivedInput) (t : ℕ) → continues_until (message_length (packet e.input)) 0 e.at
    (channel_inputs (channel (packet e.input)) (D ++ M)) t ≡ true
    → open_among M (received start g) t ≡ Some (message_start e (D ++ M))

-- an admitted long packet
begins_open : (start : Start) (h : List Timed) (x : Timed) → (receive start x (received start h)).admitted ≡ true
    → is_long (packet (receive start x (received start h)).input) ≡ true
    → StaysOpen (receive start x (received start h)) start (x ∷ h) []
unfolding received open_among is_open
begins_open start h x admitted long x5 t goes = search (rules, arith)

-- what isn't admitted opens nothing
skipped : (y : ReceivedInput) (M H : List ReceivedInput) (t : ℕ) → y.admitted ≡ false
    → open_among M (y ∷ H) t ≡ open_among (y ∷ M) H t
unfolding open_among is_open
skipped y M H t e = rw e refl

-- one more input that isn't admitted
one_longer : (e : ReceivedInput) (start : Start) (g : List Timed) (D : List ReceivedInput) (z : Timed)
    → (receive start z (received start g)).admitted ≡ false
    → StaysOpen e start g D
    → StaysOpen e start (z ∷ g) (D ++ receive start z (received start g) ∷ [])
unfolding received
one_longer e start g x3 z away stays x7 t goes = grind (arith, append_assoc, skipped)

-- where a message is open, nothing is admitted
alone : (start : Start) (g : List Timed) (z : Timed)
    → (open_at (received start g) (receive start z (received start g)).at ≡ None → ⊥)
    → (receive start z (received start g)).admitted ≡ false
unfolding received
alone start g z is_open_there = false_from_ne_true _ (λ a. is_open_there ((good_judged start (z ∷ g)).lawful.1 a))

stays_open : (e : ReceivedInput) (start : Start) (zs g : List Timed) (D : List ReceivedInput) (t : ℕ) → StaysOpen e start g D
    → latest_time start (received start (append_inputs zs g)) ≤ t
    → continues_until (message_length (packet e.input)) 0 e.at (channel_inputs (channel (packet e.input)) (D ++ received_after_all start g zs)) t
    ≡ true
    → open_at (received start (append_inputs zs g)) t ≡ Some (message_start e (D ++ received_after_all start g zs))
unfolding received open_at
stays_open e start [] g D t stays le goes = stays [] t goes
stays_open e start (z ∷ zs) g D t stays le goes =
    let y = receive start z (received start g) in
    let c = channel (packet e.input) in
    let n = message_length (packet e.input) in
    let rest = y ∷ received_after_all start (z ∷ g) zs in
    let later : From y.at rest = (omega arith, arrive_from start (z ∷ g) zs) in
    let earlier : y.at ≤ t = let rises = end_rises start zs (z ∷ g) in omega (arith, le, rises) in
    let now = goes_on_prefix (channel_inputs c D) (channel_inputs c rest) n 0 e.at y.at t (own_from c rest y.at later) earlier
    (rw (← (own-append c D rest)) goes) in
    let here : open_at (received start g) y.at ≡ Some (message_start e (D ++ [])) = stays [] y.at (rw (append-nil D) now) in
    let away = alone start g z (λ none. let clash : Some (message_start e (D ++ [])) ≡ None = sym here ∙ none in cc) in
    let same : (D ++ y ∷ []) ++ received_after_all start (z ∷ g) zs ≡ D ++ rest =
    append_assoc D (y ∷ []) (received_after_all start (z ∷ g) zs) in
    let all = stays_open e start zs (z ∷ g) (D ++ y ∷ []) t (one_longer e start g D z away stays) le (rw same goes) in
    rw same at all

-- ---- the packets of a message

all_go_on : (os : List ReceivedInput) (c len m since t : ℕ) (q : ReceivedInput) → On c os
    → AreContinuations c m (packets_of os ++ packet q.input ∷ [])
    → 57 + 59 * (m + length os) < len → ArriveInTime since (os ++ q ∷ []) → t ≡ q.at
    → continues_until len m since os t ≡ true
unfolding continues_until is_next_packet is_channel_input
all_go_on [] c len m since t q on cont capacity soon is = let s = soon.0 in grind (arith, nat_tests)
all_go_on (e ∷ es) c len m since t q on cont capacity soon is = grind (arith, nat_tests, all_go_on es c len (m + 1))

-- the last of those that continue
last_of : (c m : ℕ) (ps : List (List ℕ)) (p : List ℕ) → AreContinuations c m (ps ++ p ∷ [])
    → (is_initialization p ≡ false) × (channel p ≡ c) × (sequence p ≡ m + length ps)
last_of c m [] p h = grind arith
last_of c m (q ∷ ps) p h = grind (arith, last_of c (m + 1) ps p h.3)

-- of several packets, all but the last are full, and the length needs the last
long_of : (n count len : ℕ) → count ≡ n + 1 → IsLeast count len → (57 + 59 * n < len) × (len ≤ 57 + 59 * (n + 1))
long_of n count len e h = grind arith

-- the open message that these packets carry, with the last of them
record Ends (b : MessageStart) (q : List ℕ) (cmd : ℕ) (bytes : List ℕ) : Type 0 where
  more : 57 + 59 * (0 + length b.own) < message_length b.packet
  away : is_initialization q ≡ false
  last : is_last_packet b q ≡ true
  long : is_long b.packet ≡ true
  carried : message b.packet (packets_of b.own ++ q ∷ []) ≡ record { cid = channel b.packet; cmd = cmd; bytes = bytes }

ends : (b : MessageStart) (q : List ℕ) (cmd : ℕ) (bytes : List ℕ)
    → Carries b.packet (packets_of b.own ++ q ∷ []) (channel b.packet) cmd bytes
    → Ends b q cmd bytes
unfolding is_last_packet is_long
ends b q cmd bytes c = grind (arith, last_of, length-append, length-map, long_of, nat_tests)

-- on the channel of the first packet
on_its_channel : (start : Start) (h xs : List Timed) (s t : ℕ) (p q : Packet64) (cmd : ℕ) (bytes : List ℕ)
    → let x : Timed = record { at = s; input = Packet p } in let y : Timed = record { at = t; input = Packet q } in
    MessageArrives start h x xs (receive start y (received start (append_inputs xs (x ∷ h)))) (channel p.0) cmd bytes
    → message_completed_at (receive start y (received start (append_inputs xs (x ∷ h)))) (received start (append_inputs xs (x ∷ h)))
    ≡ Some (record { cid = channel p.0; cmd = cmd; bytes = bytes })
unfolding receive admits completed_message completed_long_message
on_its_channel start h xs s t p q cmd bytes a =
    let x : Timed = record { at = s; input = Packet p } in
    let y : Timed = record { at = t; input = Packet q } in
    let e = receive start x (received start h) in
    let L = received_after_all start (x ∷ h) xs in
    let v = receive start y (received start (append_inputs xs (x ∷ h))) in
    let b = message_start e L in
    let z = ends b q.0 cmd bytes a.carried in
    let admitted : e.admitted ≡ true = rw (a.free, a.idle) (admitted_first (channels_allocated (received start h)) (channel p.0) cmd
    p.0 _ bytes a.carried a.served a.low a.high) in
    let goes = all_go_on b.own (channel p.0) (message_length p.0) 0 e.at v.at v (own_on (channel p.0) L)
    (a.carried).continues z.more a.soon refl in
    let opens = stays_open e start xs (x ∷ h) [] v.at (begins_open start h x admitted z.long)
    (judged_at_end start (append_inputs xs (x ∷ h)) y) goes in
    rw (opens, z.away, z.last) (ap Some z.carried)

pub several_packets_finish : (start : Start) (h xs : List Timed) (x y : Timed) (p q : Packet64) (cid cmd : ℕ)
    (bytes : List ℕ)
    → x.input ≡ Packet p → y.input ≡ Packet q
    → MessageArrives start h x xs (receive start y (received start (append_inputs xs (x ∷ h)))) cid cmd bytes
    → message_completed_at (receive start y (received start (append_inputs xs (x ∷ h)))) (received start (append_inputs xs (x ∷ h)))
    ≡ Some (record { cid = cid; cmd = cmd; bytes = bytes })
several_packets_finish start h xs x y p q cid cmd bytes xp yq = search (rules, arith, on_its_channel)
