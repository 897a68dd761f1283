-- The meters of a history, by one input; noise leaves all as a tick does.
use Rattle.std.proofs.lemmas.Grind.{common_steps}
use Rattle.std.proofs.lemmas.List.Sums.{sum_by-cons}
use Rattle.std.proofs.Common.{ap, arith, rules, ◌≡◌, ℕ, ◌+◌, ◌-◌, ◌*◌, ◌≤◌, List, [], ◌∷◌, length, max, min, sum_by}
use Rattle.std.proofs.Common.{Option, refl, Bool, true, false, append-nil, Some, None, sym, ◌∙◌, suc, Result, Ok}
use Rattle.std.proofs.Common.{IfOk, MatchResult, ◌<◌, ◌++◌, append_assoc, take, get_or, length-take}
use Rattle.hid_assemble.specs.Assembly.{stored_len, message_after, Assembly, accepted, bytes_of, channels_after}
use Rattle.hid_assemble.specs.Assembly.{still_open, open_after}
use Rattle.ctap_message.specs.Requests.{steps_of, MAX_STEPS}
use Rattle.authn_core.specs.Turn.{Start, CoreState, working_channel, turn as turn_of, turn as turn_of_turn}
use Rattle.token_session.specs.declared.input.Timed.{Timed}
use Rattle.token_session.specs.declared.input.Meters.{Meters}
use Rattle.token_session.specs.Machine.{request_in, verdict_event, verdict_packets}
use Rattle.token_session.proofs.Follows.{turn_after, good_judged, time_named, step_sends}
use Rattle.token_session.specs.Inputs.{ReceivedInput, channels_allocated, latest_time}
use Rattle.token_session.specs.History.{state_of, event_at, IsMachineAfter, append_inputs, sent_now, sent_from}
use Rattle.token_session.specs.History.{with_input_number}
use Rattle.token_session.specs.Inputs.{open_at, open_among}
use Rattle.token_session.specs.History.{received, receive, held, core, last_keepalive, sent}
use Rattle.token_session.specs.Machine.{MachineState, turn, start_state, MachineTurn, response_sends_keepalive}
use Rattle.token_session.specs.Machine.{time_passed, processed_input, turn_packets}
use Rattle.cred_table.specs.Rows.{pending_count}
use Rattle.std.specs.List.{cons_option}
use Rattle.token_session.specs.Meters.{AreBounded, peak_rows, peak_pending, requests, peak_held, meters_of, counted}
use Rattle.token_session.specs.Meters.{update_meters, SessionState, IsStateAfter, stepped, session_of}
use Rattle.token_session.specs.Meters.{input_packets_of}
use Rattle.hid_packet.specs.Packet.{Fields, fields}
use Rattle.hid_assemble.specs.Table.{PacketClass, is_noise}
use Rattle.hid_assemble.specs.Verdicts.{class_verdict, verdict}
use Rattle.authn_core.specs.State.{Event, PresenceIs, KeyIs, SignatureIs, Ignored, Setup, State}
use Rattle.authn_core.proofs.Kept.{presence_ignored, key_ignored, signature_ignored}
use Rattle.token_session.specs.declared.input.Input.{Input}
use Rattle.token_session.specs.declared.input.Input.TheVariants.{Packet, Tick, Presence, Key, Signature}
use Rattle.token_session.specs.Noise.{is_noise_among, is_noise_in, is_noise_at, is_noise_after, tick_at, IsSameOrTick}
use Rattle.token_session.specs.Noise.{HasTicksForNoise, is_replaced, quiet_now, quiet_sent, quiet_from, is_ignored}
use Rattle.token_session.specs.Noise.{is_ignored_or_rejected}
use Rattle.std.proofs.lemmas.List.{take_more}
use Rattle.std.proofs.Math.Seq.{take-length}
use Rattle.token_session.specs.Carried.{ArriveWithFullPackets, HasFullPacket}
use Rattle.token_session.specs.Meters.{inputs_done, state_after_inputs, packets_of_inputs}
use Rattle.token_session.specs.declared.driver.DriveFault.{DriveFault}
use Rattle.token_session.specs.declared.driver.BothFault.{BothFault}
use Rattle.hid_assemble.proofs.Rows.{noise_turned}
use Rattle.authn_core.specs.declared.replies.Presence.{Presence as Reply}
use Rattle.authn_core.specs.declared.replies.NewKey.{NewKey}
use Rattle.authn_core.specs.Views.{wants_presence, wants_key, wants_signature}
use Rattle.std.specs.Prelude.{not}

-- ---- the meters that a history names go on by one input

-- the bytes held are those that the history names
pub held_named : (start : Start) (h : List ReceivedInput) → stored_len (state_of start h).current ≡ held start h
unfolding state_of held
held_named start h = grind arith

-- the meters of these requests
abbrev totals : (held rows pending : ℕ) → List (List ℕ) → Meters
totals held rows pending rs = record {
  held = held;
  rows = rows;
  pending = pending;
  requests = min (length rs) MAX_STEPS;
  bytes = min (sum_by (λ bytes. length bytes - 1) rs) MAX_STEPS;
  steps = min (sum_by steps_of rs) MAX_STEPS;
}

counted_more : (request : Option (List ℕ)) (held rows pending : ℕ) (rs : List (List ℕ))
    → counted (totals held rows pending rs) request ≡ totals held rows pending (cons_option request rs)
unfolding counted
counted_more x0 held rows pending rs = grind (arith, common_steps, sum_by-cons)

pub meters_more : (start : Start) (e : ReceivedInput) (h : List ReceivedInput)
    → update_meters (meters_of start h) (held start (e ∷ h)) (length (core start (e ∷ h)).state.rows)
    (pending_count (core start (e ∷ h)).state.pending) (request_in (event_at start e h))
    ≡ meters_of start (e ∷ h)
unfolding meters_of update_meters requests peak_held peak_rows peak_pending
meters_more start e h = search (rules, arith, counted_more)

-- A session that stands after a history stands after the longer one.
pub stands_longer : (s : SessionState) (start : Start) (h : List Timed) (x : Timed) → IsStateAfter s start h
    → IsStateAfter (stepped s x) start (x ∷ h)
unfolding stepped session_of state_of received
stands_longer s start h x b =
    let past = received start h in
    let e = receive start x past in
    rw (b, turn_after (state_of start past) start h x refl, held_named start (e ∷ past), meters_more start e past) refl

-- A turn of the machine, counted, is a step of the session.
pub stepped_is : (m n : MachineState) (k l : Meters) (s : SessionState) (x : Timed) (held rows pending : ℕ)
    → record { machine = m; meters = k } ≡ s
    → n ≡ (turn m x).state → l ≡ counted k (request_in (turn m x).event)
    → held ≡ max l.held (stored_len n.current) → rows ≡ max l.rows (length n.core.state.rows)
    → pending ≡ max l.pending (pending_count n.core.state.pending)
    → record { machine = n; meters = record l { held = held; rows = rows; pending = pending } } ≡ stepped s x
unfolding stepped update_meters
stepped_is m n k l s x held rows pending is state finished held_is rows_are pending_is = search (rules, arith)

-- the session at its start
pub begins : (start : Start) (m : MachineState) (k : Meters) (rows : ℕ) → m ≡ start_state start
    → k ≡ record { held = 0; rows = rows; pending = 0; requests = 0; bytes = 0; steps = 0 }
    → rows ≡ length m.core.state.rows
    → record { machine = m; meters = k } ≡ session_of start []
unfolding start_state session_of state_of meters_of requests peak_held peak_rows peak_pending held channels_allocated open_at open_among
    core last_keepalive
begins start m k rows is first counted = rw (first, counted, is) refl

pub bounded_first : (k : Meters) (rows : ℕ)
    → k ≡ record { held = 0; rows = rows; pending = 0; requests = 0; bytes = 0; steps = 0 } → AreBounded k
bounded_first k rows first = rw first (omega arith)

pub machine_after : (s : SessionState) (start : Start) (h : List Timed) → IsStateAfter s start h
    → IsMachineAfter s.machine start h
unfolding session_of
machine_after s start h b = ap (λ (v : SessionState). v.machine) b

pub session_held : (start : Start) (h : List ReceivedInput) → stored_len (session_of start h).machine.current ≡ held start h
unfolding session_of
session_held start h = held_named start h

-- The meters stay bounded, where each message takes at most four steps for each byte after the first and two more.
pub counted_bounded : (each : (m : List ℕ) → steps_of m ≤ 4 * (length m - 1) + 2) (m : Meters)
    (request : Option (List ℕ)) → AreBounded m
    → AreBounded (counted m request)
unfolding counted
counted_bounded each m request h = grind (arith, each)

-- ---- noise leaves all as a tick leaves it: of one turn, of a session's step, and of histories

-- What a turn leaves after, beside the packets: the state, and what a request that it finished took to read.
pub record Leaves (t : MachineTurn) (u : MachineTurn) : Type 0 where
  pub state : t.state ≡ u.state
  pub request : request_in t.event ≡ request_in u.event

-- what a packet with these fields leaves under a ruling
abbrev ruled : MachineState → Fields → List (List ℕ) → PacketClass → MachineTurn
ruled s f early r =
    let m = message_after s.current f r in
    let v = class_verdict s.given s.current (working_channel s.core) f m r in
    turn_packets s.now (channels_after s.given r) (open_after s.current s.now f r) s.core s.keepalive_at early
    (verdict_packets v (bytes_of m)) (verdict_event v (bytes_of m))

row_leaves : (s : MachineState) (f : Fields) (early : List (List ℕ)) (r : PacketClass) → is_noise r ≡ true
    → Leaves (ruled s f early r) (processed_input s early Tick)
unfolding open_after message_after class_verdict
row_leaves s f early r h = record { state = grind arith; request = grind arith }

-- An event that leaves the authenticator as it is, and that it doesn't answer, leaves what a tick leaves.
event_leaves : (s : MachineState) (early : List (List ℕ)) (e : Event)
    → turn_of (s.core).setup (s.core).state s.now e ≡ record { state = (s.core).state; answer = Ignored; why = None }
    → request_in (Some e) ≡ None
    → Leaves (turn_packets s.now s.given s.current s.core s.keepalive_at early [] (Some e)) (processed_input s early Tick)
unfolding response_sends_keepalive
event_leaves s early e ignored unread = rw ignored (record { state = grind arith; request = unread })

served_leaves : (s : MachineState) (early : List (List ℕ)) (i : Input) → is_noise_in s i ≡ true
    → Leaves (processed_input s early i) (processed_input s early Tick)
unfolding accepted verdict
served_leaves s early (Packet p) h = search (rules, arith, row_leaves)
served_leaves s early (Presence reply) h = event_leaves s early (PresenceIs reply)
    (presence_ignored (s.core).setup (s.core).state s.now reply (grind arith)) refl
served_leaves s early (Key key) h = event_leaves s early (KeyIs key)
    (key_ignored (s.core).setup (s.core).state s.now key (grind arith)) refl
served_leaves s early (Signature sig) h = event_leaves s early (SignatureIs sig)
    (signature_ignored (s.core).setup (s.core).state s.now sig (grind arith)) refl
served_leaves s early Tick h = cc

pub noise_leaves : (s : MachineState) (x : Timed) → is_noise_at s x ≡ true → Leaves (turn s x) (turn s (tick_at x.at))
unfolding turn is_noise_at
noise_leaves s x h = search (rules, arith, served_leaves)

-- whether an input is noise, by the parts of a session when time has passed
pub noise_now : (s : MachineState) (latest keepalive_at at now : ℕ) (a : Assembly) (k : CoreState) (i : Input)
    (answer : Bool)
    → record { now = latest; given = a.given; current = a.current; core = k; keepalive_at = keepalive_at } ≡ s
    → now ≡ max latest at
    → answer ≡ is_noise_among a.given (still_open a.current now) k i
    → answer ≡ is_noise_at s (record { at = at; input = i })
unfolding is_noise_at time_passed
noise_now s latest keepalive_at at now a k i answer is moment told = rw (← is, told, moment) refl

-- To a session, noise is a tick.
pub noise_steps : (s : SessionState) (x : Timed) → is_noise_at s.machine x ≡ true
    → stepped s x ≡ stepped s (tick_at x.at)
unfolding stepped
noise_steps s x h = search (rules, arith, noise_leaves)

-- A tick sends the packets of time alone.
pub tick_sends : (s : MachineState) (at : ℕ) → (turn s (tick_at at)).packets ≡ (time_passed s (max s.now at)).packets
unfolding turn
tick_sends s at = append-nil _

-- What is noise to the state that a history names is noise after that history.
pub noise_is_named : (s : MachineState) (start : Start) (h : List Timed) (x : Timed) → IsMachineAfter s start h
    → is_noise_at s x ≡ is_noise_after start (receive start x (received start h)) (received start h)
unfolding is_noise_at is_noise_after receive state_of
noise_is_named s start h x b = grind (arith, good_judged, time_named)

-- Histories: first what one input makes of a session that stands after both.
stepped_alike : (start : Start) (h : List Timed) (x y : Timed) → IsSameOrTick start h x y
    → stepped (session_of start (received start h)) x ≡ stepped (session_of start (received start h)) y
unfolding session_of
stepped_alike start h x y x4 = grind (arith, noise_is_named, noise_steps)

-- Sessions after quiet histories hold the same.
pub quiet_alike : (start : Start) (h g : List Timed) → HasTicksForNoise start h g
    → session_of start (received start h) ≡ session_of start (received start g)
quiet_alike start [] [] q = refl
quiet_alike start (x ∷ h) (y ∷ g) q =
    let s = session_of start (received start h) in
    sym (stands_longer s start h x refl) ∙ stepped_alike start h x y q.1
    ∙ stands_longer s start g y (quiet_alike start h g q.0)
quiet_alike start h g q = absurd q

-- The packets that one input sends after both, the second with the same input or with a tick.
now_same : (start : Start) (h g : List Timed) (x : Timed) → IsMachineAfter (state_of start (received start h)) start g
    → sent_now start g x ≡ quiet_now start h x x
unfolding sent_now quiet_now receive
now_same start h g x b =
    let s = state_of start (received start h) in
    let never : is_replaced x.input x.input ≡ false = grind arith in
    rw never (sym (step_sends s start g x b) ∙ step_sends s start h x refl)

now_tick : (start : Start) (h g : List Timed) (x : Timed) → IsMachineAfter (state_of start (received start h)) start g
    → is_noise_after start (receive start x (received start h)) (received start h) ≡ true
    → sent_now start g (tick_at x.at) ≡ quiet_now start h x (tick_at x.at)
unfolding quiet_now receive state_of is_noise_after
now_tick start h g x b noise =
    let past = received start h in
    let replaced : is_replaced x.input Tick ≡ true = grind arith in
    rw replaced (sym (step_sends (state_of start past) start g (tick_at x.at) b) ∙ tick_sends (state_of start past) x.at
    ∙ ap (λ (v : MachineTurn). v.packets) (time_named start (max (latest_time start past) x.at) past (good_judged start h)
    (omega arith)))

quiet_sends_now : (start : Start) (h g : List Timed) (x y : Timed) → HasTicksForNoise start h g → IsSameOrTick start h x y
    → sent_now start g y ≡ quiet_now start h x y
unfolding session_of
quiet_sends_now start h g x y q x6 = grind (arith, now_same, now_tick, quiet_alike)

-- The quiet history sends what the other sends, less the packets of service at the replaced inputs.
pub quiet_sends : (start : Start) (h g : List Timed) → HasTicksForNoise start h g
    → sent start (received start g) ≡ quiet_sent start h g
unfolding sent received sent_now quiet_sent
quiet_sends start [] [] q = refl
quiet_sends start (x ∷ h) (y ∷ g) q = search (rules, arith, quiet_sends_now, quiet_sends start h g)
quiet_sends start h g q = absurd q

-- Lists of inputs that make quiet histories of quiet histories.
same_length : (start : Start) (h g : List Timed) → HasTicksForNoise start h g → length h ≡ length g
same_length start [] [] q = refl
same_length start (x ∷ h) (y ∷ g) q = ap (λ n. suc n) (same_length start h g q.0)
same_length start h g q = absurd q

onto_length : (xs h : List Timed) → length (append_inputs xs h) ≡ length xs + length h
onto_length [] h = omega arith
onto_length (x ∷ xs) h = onto_length xs (x ∷ h) ∙ omega arith

shorter : (xs ys : List Timed) (start : Start) (h g : List Timed) → length xs ≡ length ys
    → HasTicksForNoise start (append_inputs xs h) (append_inputs ys g) → HasTicksForNoise start h g
shorter [] [] start h g n q = q
shorter (x ∷ xs) (y ∷ ys) start h g n q = (shorter xs ys start (x ∷ h) (y ∷ g) (omega (arith, n)) q).0
shorter xs ys start h g n q = absurd (omega (arith, n))

runs_alike : (xs ys : List Timed) (n : ℕ) (start : Start) (h g : List Timed) → length xs ≡ length ys
    → HasTicksForNoise start (append_inputs xs h) (append_inputs ys g)
    → sent_from n start g ys ≡ quiet_from n start h xs ys
runs_alike [] [] n start h g l q = refl
runs_alike (x ∷ xs) (y ∷ ys) n start h g l q =
    grind (arith, quiet_sends_now, shorter, runs_alike xs ys (n + 1) start (x ∷ h) (y ∷ g))
runs_alike xs ys n start h g l q = absurd (omega (arith, l))

pub quiet_runs : (n : ℕ) (start : Start) (h g xs ys : List Timed) → HasTicksForNoise start h g
    → HasTicksForNoise start (append_inputs xs h) (append_inputs ys g)
    → sent_from n start g ys ≡ quiet_from n start h xs ys
quiet_runs n start h g xs ys q longer = grind (arith, onto_length, runs_alike, same_length)

-- ---- a drive goes on by one input

driven_append : (xs : List Timed) (s : SessionState) (x : Timed) → state_after_inputs s (xs ++ x ∷ []) ≡ stepped (state_after_inputs s xs) x
driven_append [] s x = refl
driven_append (y ∷ xs) s x = driven_append xs (stepped s y) x

sends_append : (xs : List Timed) (s : SessionState) (x : Timed) (n m : ℕ) → n + length xs ≡ m
    → packets_of_inputs n s (xs ++ x ∷ []) ≡ packets_of_inputs n s xs ++ with_input_number m (input_packets_of (state_after_inputs s xs) x)
sends_append [] s x n m e = let same : m ≡ n = omega arith in rw same (append-nil (with_input_number n (input_packets_of s x)))
sends_append (y ∷ xs) s x n m e = rw (append_assoc, sends_append xs (stepped s y) x (n + 1) m (omega arith)) refl

pub driven_more : (xs : List Timed) (i : ℕ) (s v w : SessionState) (x d : Timed) → i < length xs → x ≡ get_or xs i d
    → w ≡ stepped v x
    → v ≡ state_after_inputs s (take i xs) → w ≡ state_after_inputs s (take (i + 1) xs)
driven_more xs i s v w x d h is e f = grind (arith, common_steps, driven_append, take_more)

pub sends_more : (xs : List Timed) (i : ℕ) (s v : SessionState) (ps : List (List ℕ)) (old now next : List (ℕ × List ℕ))
    (x d : Timed)
    → i < length xs → x ≡ get_or xs i d
    → next ≡ now ++ with_input_number i ps → ps ≡ input_packets_of v x → v ≡ state_after_inputs s (take i xs)
    → now ≡ old ++ packets_of_inputs 0 s (take i xs)
    → next ≡ old ++ packets_of_inputs 0 s (take (i + 1) xs)
sends_more xs i s v ps old now next x d h is a b f e = grind (arith, append_assoc, length-take, sends_append, take_more)

whole_append : (xs : List Timed) (x : Timed) → ArriveWithFullPackets xs → HasFullPacket x.input → ArriveWithFullPackets (xs ++ x ∷ [])
whole_append [] x w is = (is, tt)
whole_append (y ∷ xs) x w is = (w.0, whole_append xs x w.1 is)

pub whole_more : (xs : List Timed) (i : ℕ) (x d : Timed) → i < length xs → x ≡ get_or xs i d → ArriveWithFullPackets (take i xs)
    → HasFullPacket x.input
    → ArriveWithFullPackets (take (i + 1) xs)
whole_more xs i x d h is w one = rw (take_more xs i d h, ← is) (whole_append (take i xs) x w one)

pub capacity_here : (now all : List (ℕ × List ℕ)) (places : ℕ) → now ≡ all → length now + 130 ≤ places
    → length all + 130 ≤ places
capacity_here now all places e h = let n = ap (length {A = ℕ × List ℕ}) e in omega (arith, n)

-- A session that stands after a history is driven along it.
pub driven_stands : (xs : List Timed) (s : SessionState) (start : Start) (h : List Timed) → IsStateAfter s start h
    → IsStateAfter (state_after_inputs s xs) start (append_inputs xs h)
driven_stands [] s start h b = b
driven_stands (x ∷ xs) s start h b = driven_stands xs (stepped s x) start (x ∷ h) (stands_longer s start h x b)

pub driven_follows : (xs : List Timed) (s : SessionState) (start : Start) (n : ℕ) (h : List Timed)
    → IsStateAfter s start h
    → packets_of_inputs n s xs ≡ sent_from n start h xs
driven_follows [] s start n h b = refl
driven_follows (x ∷ xs) s start n h b = grind (arith, machine_after, stands_longer, step_sends, driven_follows xs (stepped s x) start (n + 1) (x ∷ h) (stands_longer s start h x b))

-- a drive whose meters are passed on, and its fault as that of one of two
abbrev IsPassed : Result Meters DriveFault → Meters → Type 0
IsPassed r m = let passed : Result Meters BothFault = Ok m in MatchResult r (λ x. passed ≡ Ok x) (λ e. ⊥)

-- Two drives by which quiet histories go on.
pub drives_alike : (start : Start) (h g xs ys : List Timed) (s t : SessionState) (r q : Result Meters DriveFault)
    (m k : Meters) (old new : List (ℕ × List ℕ))
    → IsPassed r m → IsPassed q k → HasTicksForNoise start h g → HasTicksForNoise start (append_inputs xs h) (append_inputs ys g)
    → IsStateAfter s start (append_inputs (take (inputs_done (length xs) r) xs) h)
    → IsStateAfter t start (append_inputs (take (inputs_done (length ys) q) ys) g)
    → IfOk r (λ m. m ≡ s.meters) → IfOk q (λ k. k ≡ t.meters)
    → new ≡ old ++ sent_from 0 start g (take (inputs_done (length ys) q) ys)
    → (s ≡ t) × (m ≡ k) × (new ≡ old ++ quiet_from 0 start h xs ys)
drives_alike start h g xs ys s t x7 q m k old new is x14 quiet longer stands x18 counts x20 sent =
    grind (arith, quiet_alike, quiet_runs, take-length)

-- ---- an input is noise just where it is turned away

-- a reply is ignored just where the waiting work doesn't need it
presence_taken : (u : Setup) (s : State) (t : ℕ) (p : Reply)
    → not (wants_presence s.work) ≡ is_ignored (turn_of_turn u s t (PresenceIs p)).answer
presence_taken u s t p = unfold turn_of_turn in grind arith

key_taken : (u : Setup) (s : State) (t : ℕ) (key : Option NewKey)
    → not (wants_key s.work) ≡ is_ignored (turn_of_turn u s t (KeyIs key)).answer
key_taken u s t key = unfold turn_of_turn in grind arith

signature_taken : (u : Setup) (s : State) (t : ℕ) (sig : Option (List ℕ))
    → not (wants_signature s.work) ≡ is_ignored (turn_of_turn u s t (SignatureIs sig)).answer
signature_taken u s t sig = unfold turn_of_turn in grind arith

pub noise_turned_away : (a : Assembly) (core : CoreState) (now : ℕ) (i : Input)
    → is_noise_among a.given a.current core i ≡ is_ignored_or_rejected a core now i
noise_turned_away a core now (Packet p) = noise_turned a (working_channel core) (fields p.0)
noise_turned_away a core now (Presence reply) = presence_taken core.setup core.state now reply
noise_turned_away a core now (Key key) = key_taken core.setup core.state now key
noise_turned_away a core now (Signature sig) = signature_taken core.setup core.state now sig
noise_turned_away a core now Tick = refl
