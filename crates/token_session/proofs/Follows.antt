-- The machine follows the history, by one input and as time passes.
use Rattle.std.proofs.Common.{rules, ◌≡◌, ℕ, ◌+◌, ◌<◌, ◌≤◌, ◌==◌, Bool, true, false, cond, not, ◌&&◌, suc, zero, List}
use Rattle.std.proofs.Common.{[], ◌∷◌, drop, Option, refl, arith, ◌-◌, Some, None, option_map, nat_le, ◌++◌, max}
use Rattle.std.proofs.Common.{append_assoc, append-nil, sym, ◌∙◌, ap, subst, min}
use Rattle.std.proofs.lemmas.Bool.Decides.{nat_tests}
use Rattle.std.proofs.lemmas.List.Folds.{list_any-append}
use Rattle.authn_core.specs.State.{Event, Request}
use Rattle.authn_core.specs.Turn.{Start, Work, CoreState, waiting, working_channel}
use Rattle.hid_assemble.specs.Assembly.{Message, Assembly, is_overdue, still_open, accepted}
use Rattle.hid_packet.specs.Packet.{KEEPALIVE}
use Rattle.hid_packet.specs.Packet.{command, is_initialization, channel}
use Rattle.hid_packet.specs.Message.{padded_packet, initialization_packet, continuation_packet, continuation_packets}
use Rattle.hid_packet.specs.Message.{message_packets}
use Rattle.token_session.specs.Machine.{event_packets, keepalive_due, keepalive_packets, event_core, reply_event}
use Rattle.token_session.specs.Inputs.{ReceivedInput, latest_time, is_channel_input, is_packet, requests_channel}
use Rattle.token_session.specs.Inputs.{channels_allocated}
use Rattle.token_session.specs.Machine.{response_sends_keepalive, event_sends_keepalive, MachineState, time_passed}
use Rattle.token_session.specs.Machine.{MachineTurn, turn, processed_input, turn_packets, machine, start_state}
use Rattle.token_session.specs.Inputs.{MessageStart, open_at, completed_message, completed_long_message}
use Rattle.token_session.specs.Inputs.{is_last_packet, is_long, is_next_packet, to_open}
use Rattle.token_session.specs.History.{is_timed_out, has_keepalive, event_at, state_of, IsMachineAfter, append_inputs}
use Rattle.token_session.specs.History.{run_sent, run_state, sent_from, sent_now}
use Rattle.token_session.specs.History.{time_packets, core, timeout_packets, event_after, last_keepalive}
use Rattle.token_session.specs.History.{service_packets, table_packets, admits, event, packet_event, receive}
use Rattle.token_session.specs.History.{received, sent_at}
use Rattle.token_session.specs.declared.input.Input.{Input}
use Rattle.token_session.specs.Machine.{answer_packets, init_response, ping_packets, row_packets, error}
use Rattle.hid_assemble.specs.Table.{Open, MAX_CHANNEL}
use Rattle.token_session.specs.declared.input.Meters.{Meters}
use Rattle.token_session.specs.Meters.{SessionState, counted}
use Rattle.hid_assemble.specs.Refusals.{last_packet_time}
use Rattle.hid_assemble.specs.declared.refusal.Refusal.{Refusal}
use Rattle.hid_assemble.specs.declared.refusal.Refusal.TheVariants.{Overdue}
use Rattle.token_session.specs.History.{time_cause, verdict_cause, event_cause, input_cause}
use Rattle.hid_assemble.specs.declared.verdict.Verdict.{Verdict}
use Rattle.hid_assemble.specs.Verdicts.{verdict}
use Rattle.token_session.specs.declared.input.Input.TheVariants.{Packet}
use Rattle.token_session.specs.declared.input.Timed.{Timed}
use Rattle.std.specs.Option.{option_or}
use Rattle.token_session.specs.declared.cause.Cause.{Cause}
use Rattle.token_session.specs.Machine.{assembly_after, input_event, input_verdict, request_in, verdict_packets}
use Rattle.authn_core.proofs.Kept.{IsGiven, work_stays_given}
use Rattle.hid_packet.specs.declared.packet.Packet.{Packet as Packet64}
use Rattle.token_session.proofs.Serve.{next, OpenGiven, Safe, never_admitted, new_open, Lawful, open_next_is, still}
use Rattle.token_session.proofs.Serve.{still_open as still_open_of_serve, serves}
use Rattle.std.proofs.lemmas.List.Sums.{sum_by-cons}
use Rattle.token_session.specs.Inputs as messages

-- ---- what sends a KEEPALIVE: time where it is due, and an event that says so

begins : (cid cmd len : ℕ) (part : List ℕ) → is_initialization (initialization_packet cid cmd len part) ≡ true
unfolding is_initialization initialization_packet padded_packet
begins cid cmd len part = grind (arith, nat_tests)

asks : (cid cmd len : ℕ) (part : List ℕ) → command (initialization_packet cid cmd len part) ≡ cmd
unfolding command initialization_packet padded_packet
asks cid cmd len part = omega arith

goes : (cid number : ℕ) (part : List ℕ) → number < 128 → is_initialization (continuation_packet cid number part) ≡ false
unfolding is_initialization continuation_packet padded_packet
goes cid number part h = grind (arith, nat_tests)

none_among : (most cid number : ℕ) (bytes : List ℕ) → number + most ≤ 128
    → has_keepalive (continuation_packets most cid number bytes) ≡ false
unfolding continuation_packets
none_among zero cid number bytes h = refl
none_among (suc most) cid number [] h = refl
none_among (suc most) cid number (b ∷ bytes) h =
    search (rules, arith, goes, none_among most cid (number + 1) (drop 59 (b ∷ bytes)))

-- A message is a KEEPALIVE exactly where its command is.
of_written : (cid cmd : ℕ) (bytes : List ℕ) → has_keepalive (message_packets cid cmd bytes) ≡ (cmd == KEEPALIVE)
unfolding message_packets
of_written cid cmd bytes = grind (arith, asks, begins, none_among)

table_silent : (g : ℕ) (o : Option MessageStart) (w : Option ℕ) (i : Input) → has_keepalive (table_packets g o w i) ≡ false
unfolding table_packets row_packets init_response
table_silent g o w i = grind (arith, of_written)

ping_silent : (m : Option Message) → has_keepalive (ping_packets m) ≡ false
ping_silent m = grind (arith, nat_tests, of_written)

event_noted : (k : CoreState) (t : ℕ) (e : Option Event) → has_keepalive (event_packets k t e) ≡ event_sends_keepalive k t e
unfolding answer_packets response_sends_keepalive
event_noted k t e = grind (arith, of_written)

time_noted : (c : Bool) (o : Option MessageStart) (w : Option Work) (l t : ℕ)
    → has_keepalive (cond c (timeout_packets o) (cond (keepalive_due w l t) (keepalive_packets w) []))
    ≡ (not c && keepalive_due w l t)
unfolding keepalive_due
time_noted c o w l t = grind (arith, of_written)

-- when the last KEEPALIVE was sent, after one more input
pub last_noted : (start : Start) (e : ReceivedInput) (past : List ReceivedInput)
    → last_keepalive start (e ∷ past)
    ≡ cond (event_sends_keepalive (core start past) e.at (event_after (core start past) e past)) e.at
    (cond (not (is_timed_out (open_at past (latest_time start past)) (open_at past e.at)) && keepalive_due (waiting (core start past))
    (last_keepalive start past) e.at) e.at (last_keepalive start past))
unfolding last_keepalive service_packets time_packets
last_noted start e past = simp (list_any-append, table_silent, ping_silent, event_noted, time_noted) (grind arith)

-- ---- time passes: a message is given up, or the authenticator may send a KEEPALIVE

-- the state, by the parts of a machine
abbrev pub whole : ℕ → Assembly → CoreState → ℕ → MachineState
whole n a k b = record { now = n; given = a.given; current = a.current; core = k; keepalive_at = b }

-- the assembly after the passing of time
abbrev pub passed_to : Assembly → ℕ → Assembly
passed_to a t = record { given = a.given; current = still_open a.current t; finished = a.finished }

-- whether a KEEPALIVE is due, by the time since the last
pub due : (t last gap : ℕ) → gap ≡ t - last → 100 ≤ gap → nat_le (last + 100) t ≡ true
due t last gap e h = grind (arith, nat_tests)

pub early : (t last gap : ℕ) → gap ≡ t - last → gap < 100 → nat_le (last + 100) t ≡ false
early t last gap e h = grind (arith, nat_tests)

-- A session, as time has passed to t, with what it sent.
pub record IsPassed (v : SessionState) (t : ℕ) (new : SessionState) (sent : List (List ℕ)) (cause : Option Refusal)
    : Type 0 where
  pub state : new.machine ≡ (time_passed v.machine t).state
  pub meters : new.meters ≡ v.meters
  pub packets : sent ≡ (time_passed v.machine t).packets
  pub why : cause ≡ time_cause v.machine.current t

-- the channel of a message that is given up
abbrev dropped : Option Open → ℕ → Option ℕ
dropped c t = cond (is_overdue c t) (option_map (λ m. m.cid) c) None

-- a message that is overdue is given up
pub never : (c : Option Open) (t : ℕ) → is_overdue c t ≡ true → None ≡ dropped c t → ⊥
unfolding is_overdue
never c t late none = grind arith

-- where no message is overdue, the assembly stays, and no message is given up
pub stays : (a : Assembly) (t : ℕ) → is_overdue a.current t ≡ false → a ≡ passed_to a t
stays a t early = rw early refl

pub none_dropped : (c : Option Open) (t : ℕ) → is_overdue c t ≡ false → None ≡ dropped c t
none_dropped c t early = rw early refl

module _ (n b t : ℕ) (a d : Assembly) (k : CoreState) (m : Meters) (v : SessionState) (sent : List (List ℕ))
    (is : record { machine = whole n a k b; meters = m } ≡ v) (kept : d ≡ passed_to a t) where
  pub late_passed : (x : ℕ) → Some x ≡ dropped a.current t → sent ≡ error x 5
      → (last : ℕ) → last ≡ last_packet_time a.current
      → IsPassed v t (record { machine = whole t d k b; meters = m }) sent (Some (Overdue last t))
  unfolding time_passed is_overdue time_cause
  late_passed x r s last l =
      rw (← is, kept, s, l) (record { state = grind arith; meters = refl; packets = grind arith; why = grind arith })

  -- where no message is overdue
  pub due_passed : None ≡ dropped a.current t → keepalive_due (waiting k) b t ≡ true
      → sent ≡ keepalive_packets (waiting k)
      → IsPassed v t (record { machine = whole t d k t; meters = m }) sent None
  unfolding time_passed is_overdue time_cause
  due_passed r due s =
      rw (← is, kept, s) (record { state = grind arith; meters = refl; packets = grind arith; why = grind arith })

  pub quiet_passed : None ≡ dropped a.current t → keepalive_due (waiting k) b t ≡ false → sent ≡ []
      → IsPassed v t (record { machine = whole t d k b; meters = m }) sent None
  unfolding time_passed is_overdue time_cause
  quiet_passed r due s =
      rw (← is, kept, s) (record { state = grind arith; meters = refl; packets = grind arith; why = grind arith })

-- ---- an input that is served by what the transport makes of it is the composed turn

-- An input was served: what is left after it, and what it sent.
pub record IsServed (v : SessionState) (early : List (List ℕ)) (i : Input) (left : SessionState) (sent : List (List ℕ))
    (cause : Option Cause) : Type 0 where
  pub state : left.machine ≡ (processed_input v.machine early i).state
  pub meters : left.meters ≡ counted v.meters (request_in (processed_input v.machine early i).event)
  pub packets : sent ≡ (processed_input v.machine early i).packets
  pub why : cause ≡ input_cause v.machine i

module _ (n b : ℕ) (a d : Assembly) (k : CoreState) (m : Meters) (v : SessionState) (early : List (List ℕ))
    (w : Option ℕ)
    (is : record { machine = whole n a k b; meters = m } ≡ v) (ew : w ≡ working_channel k)
    (i : Input) (ed : d ≡ assembly_after a n w i) (V : Verdict) (eV : V ≡ input_verdict a w i) where
  turned : (E : Option Event) → E ≡ input_event i V d.finished
      → turn_packets n d.given d.current k b early (verdict_packets V d.finished) E ≡ processed_input v.machine early i
  unfolding accepted verdict
  turned E eE = rw (← is, eE, eV) (input_turn i ed)
    where
      input_turn : (i : Input) → d ≡ assembly_after a n w i
          → turn_packets n d.given d.current k b early (verdict_packets (input_verdict a w i) d.finished)
          (input_event i (input_verdict a w i) d.finished)
          ≡ processed_input (whole n a k b) early i
      input_turn (Packet x) ed = rw (ed, ew) refl
      input_turn other ed = rw ed refl

  caused : (E : Option Event) → E ≡ input_event i V d.finished
      → option_or (verdict_cause V) (event_cause k n E) ≡ input_cause v.machine i
  unfolding accepted verdict
  caused E eE = rw (← is, eE, eV) (input_caused i ed)
    where
      input_caused : (i : Input) → d ≡ assembly_after a n w i
          → option_or (verdict_cause (input_verdict a w i)) (event_cause k n (input_event i (input_verdict a w i) d.finished))
          ≡ input_cause (whole n a k b) i
      input_caused (Packet x) ed = rw (ed, ew) refl
      input_caused other ed = refl

  -- by an input that is no event
  pub served_quietly : None ≡ input_event i V d.finished → (out : List (List ℕ)) →
      out ≡ early ++ verdict_packets V d.finished
      → IsServed v early i (record { machine = whole n d k b; meters = m }) out (option_or (verdict_cause V) None)
  unfolding counted
  served_quietly eE out es =
      let turn = turned None eE in
      record {
        state = ap (λ (t : MachineTurn). t.state) turn;
        meters = ap (λ (s : SessionState). s.meters) is ∙ ap
            (λ (t : MachineTurn). counted v.meters (request_in t.event)) turn;
        packets = es ∙ ap (λ (ps : List (List ℕ)). early ++ ps) (sym (append-nil (verdict_packets V d.finished)))
            ∙ ap (λ (t : MachineTurn). t.packets) turn;
        why = caused None eE;
      }

  module _ (e : Event) (eE : Some e ≡ input_event i V d.finished) (old : List (List ℕ))
      (eo : old ≡ early ++ verdict_packets V d.finished) where
    -- by an event
    pub served_by : (k' : CoreState) (b' : ℕ) (m' : Meters) (out : List (List ℕ)) → k' ≡ event_core k n (Some e)
        → b' ≡ cond (event_sends_keepalive k n (Some e)) n b → m' ≡ counted m (request_in (Some e)) →
        out ≡ old ++ event_packets k n (Some e)
        → IsServed v early i (record { machine = whole n d k' b'; meters = m' }) out
        (option_or (verdict_cause V) (event_cause k n (Some e)))
    served_by k' b' m' out ek eb em es =
        let turn = turned (Some e) eE in
        record {
          state = (λ j. whole n d (ek j) (eb j)) ∙ ap (λ (t : MachineTurn). t.state) turn;
          meters = em ∙ ap (λ (s : SessionState). counted s.meters (request_in (Some e))) is
              ∙ ap (λ (t : MachineTurn). counted v.meters (request_in t.event)) turn;
          packets = es ∙ ap (λ (ps : List (List ℕ)). ps ++ event_packets k n (Some e)) eo ∙ append_assoc early _ _
              ∙ ap (λ (t : MachineTurn). t.packets) turn;
          why = caused (Some e) eE;
        }

pub step_turn : (v mid : MachineState) (t : ℕ) (x : Timed) (early : List (List ℕ)) → t ≡ max v.now x.at
    → mid ≡ (time_passed v t).state
    → early ≡ (time_passed v t).packets
    → processed_input mid early x.input ≡ turn v x
unfolding turn
step_turn v mid t x early a b e = rw (b, e, a) refl

pub at_most : (a b : ℕ) → a ≡ b → a ≤ b
at_most a b e = omega arith

-- ---- after every input at most one message is open or waits, on a channel that was given

-- a message is finished on a channel that was given out, where no work waits
abbrev MessageGiven : ℕ → Option ℕ → Option Message → Type 0
MessageGiven g w None = Unit {0}
MessageGiven g w (Some m) = (1 ≤ m.cid) × (m.cid ≤ g) × (w ≡ None)

-- a request comes on such a channel, where no work waits
abbrev pub EventGiven : ℕ → Option ℕ → Option Event → Type 0
EventGiven g w (Some (Request cid bytes)) = (1 ≤ cid) × (cid ≤ g) × (w ≡ None)
EventGiven g w e = Unit {0}

packet_given : (g : ℕ) (w : Option ℕ) (m : Option Message) (p : List ℕ) → MessageGiven g w m
    → EventGiven g w (packet_event w m p)
unfolding packet_event
packet_given g w m p h = grind arith

finished_given : (g : ℕ) (o : Option MessageStart) (w : Option ℕ) (x : Packet64) → OpenGiven g o w
    → MessageGiven g w (completed_message o (admits g o w x.0) (Packet x))
unfolding completed_message completed_long_message admits
finished_given g o w x h = grind (arith, nat_tests)

-- Where a message is open after a packet, it is on a channel that was given, no work waits, and none is finished.
abbrev IsAlone : ℕ → Option ℕ → Option Message → MessageStart → Type 0
IsAlone g w m b = (1 ≤ channel b.packet) × (channel b.packet ≤ g) × (w ≡ None) × (m ≡ None)

begun_alone : (g : ℕ) (w : Option ℕ) (t : ℕ) (x : Packet64) (b : MessageStart) → new_open g None w t (Packet x) ≡ Some b
    → IsAlone g w (completed_message None (admits g None w x.0) (Packet x)) b
unfolding completed_message completed_long_message admits is_long
begun_alone g w t x b e = grind (arith, nat_tests)

still_alone : (g : ℕ) (a : MessageStart) (w : Option ℕ) (t : ℕ) (x : Packet64) (b : MessageStart) → OpenGiven g (Some a) w
    → new_open g (Some a) w t (Packet x) ≡ Some b
    → IsAlone g w (completed_message (Some a) (admits g (Some a) w x.0) (Packet x)) b
unfolding completed_message completed_long_message is_last_packet next is_channel_input is_next_packet
still_alone g a w t x b h e = let f = rw (never_admitted g a w x.0) at e in rw (never_admitted g a w x.0) (grind arith)

packet_alone : (g : ℕ) (o : Option MessageStart) (w : Option ℕ) (t : ℕ) (x : Packet64) (b : MessageStart) → OpenGiven g o w
    → new_open g o w t (Packet x) ≡ Some b
    → IsAlone g w (completed_message o (admits g o w x.0) (Packet x)) b
packet_alone g None w t x b h e = begun_alone g w t x b e
packet_alone g (Some a) w t x b h e = still_alone g a w t x b h e

-- no channel is given out
none_given : (w : Option ℕ) → IsGiven 0 w → w ≡ None
none_given w h = grind arith

event_works : (g : ℕ) (k : CoreState) (t : ℕ) (e : Option Event) → IsGiven g (working_channel k) → EventGiven g (working_channel k) e
    → IsGiven g (working_channel (event_core k t e))
event_works g k t x3 w h = search (rules, arith, work_stays_given)

-- what is idle stays idle where no request comes
still_idle : (k : CoreState) (t : ℕ) (e : Option Event) → working_channel k ≡ None → EventGiven 0 (working_channel k) e
    → working_channel (event_core k t e) ≡ None
still_idle k t e idle h = none_given _ (event_works 0 k t e (rw idle tt) h)

abbrev pub finished_by : ℕ → Option MessageStart → Option ℕ → Input → Option Message
finished_by g o w i = completed_message o (is_packet (admits g o w) i) i

-- the event of an input
pub event_given : (g : ℕ) (o : Option MessageStart) (w : Option ℕ) (i : Input) → OpenGiven g o w
    → EventGiven g w (event w (finished_by g o w i) i)
unfolding event
event_given g o w other h = grind (arith, finished_given, packet_given)

input_alone : (g : ℕ) (o : Option MessageStart) (k : CoreState) (t : ℕ) (i : Input) (b : MessageStart) → OpenGiven g o (working_channel k)
    → new_open g o (working_channel k) t i ≡ Some b
    → OpenGiven g (Some b) (working_channel (event_core k t (event (working_channel k) (finished_by g o (working_channel k) i) i)))
unfolding event next is_channel_input
input_alone g o k t (Packet x) b h e =
    let a = packet_alone g o (working_channel k) t x b h e in
    (a.0, a.1, still_idle k t _ a.2 (packet_given 0 (working_channel k) _ x.0 (rw a.3 tt)))
input_alone g (Some c) k t other b h e =
    let same : c ≡ b = cc in
    subst (λ v. OpenGiven g (Some v) (working_channel (event_core k t (reply_event other)))) same
    (h.0, h.1, still_idle k t (reply_event other) h.2 tt)
input_alone g None k t other b h e = cc

-- After an input at most one message is open or waits.
pub input_safe : (g : ℕ) (o : Option MessageStart) (k : CoreState) (t : ℕ) (i : Input) (n : Option MessageStart)
    → Safe g o (working_channel k)
    → new_open g o (working_channel k) t i ≡ n
    → Safe g n (working_channel (event_core k t (event (working_channel k) (finished_by g o (working_channel k) i) i)))
input_safe g o k t i x5 s e = grind (arith, event_given, event_works, input_alone)

-- ---- the machine follows the history

-- What holds after every history.
pub record Good (start : Start) (h : List ReceivedInput) : Type 0 where
  pub lawful : Lawful start h
  pub safe : Safe (channels_allocated h) (open_at h (latest_time start h)) (working_channel (core start h))

still_given : (g t : ℕ) (w : Option ℕ) (o : Option MessageStart) → OpenGiven g o w → OpenGiven g (still t o) w
still_given g t w o h = grind arith

pub safe_at : (start : Start) (t : ℕ) (h : List ReceivedInput) → Good start h → latest_time start h ≤ t
    → Safe (channels_allocated h) (open_at h t) (working_channel (core start h))
safe_at start t h good le =
    record {
      few = (good.safe).few;
      works = (good.safe).works;
      opens = rw (still_open_of_serve h start t good.lawful le) (still_given (channels_allocated h) t (working_channel (core start h)) _
          (good.safe).opens);
    }

-- ---- time

-- the state that a history names, when time has passed to t
abbrev late : Start → List ReceivedInput → ℕ → MachineState
late start h t = record {
  now = t;
  given = channels_allocated h;
  current = option_map to_open (open_at h t);
  core = core start h;
  keepalive_at = cond (not (is_timed_out (open_at h (latest_time start h)) (open_at h t)) && keepalive_due (waiting (core start h))
      (last_keepalive start h) t) t (last_keepalive start h);
}

pub time_named : (start : Start) (t : ℕ) (h : List ReceivedInput) → Good start h → latest_time start h ≤ t
    → time_passed (state_of start h) t
    ≡ record { state = late start h t; packets = time_packets start h (last_keepalive start h) t; event = None }
unfolding state_of time_packets time_passed is_overdue
time_named start t h good le = rw (still_open_of_serve h start t good.lawful le) (grind (arith, nat_tests))

-- ---- service

given_more : (e : ReceivedInput) (h : List ReceivedInput)
    → channels_allocated (e ∷ h) ≡ cond (is_packet requests_channel e.input) (min (channels_allocated h + 1) MAX_CHANNEL) (channels_allocated h)
unfolding channels_allocated
given_more e h = rw (sum_by-cons (λ (v : ReceivedInput). cond (is_packet requests_channel v.input) 1 0) e h) (grind arith)

given_few : (h : List ReceivedInput) → channels_allocated h ≤ MAX_CHANNEL
unfolding channels_allocated
given_few h = omega arith

given_rises : (e : ReceivedInput) (h : List ReceivedInput) → channels_allocated h ≤ channels_allocated (e ∷ h)
given_rises e h = let few = given_few h in rw (given_more e h) (grind arith)

-- the input is judged so at t
abbrev pub judged_at : Start → ℕ → List ReceivedInput → Input → ReceivedInput
judged_at start t h i =
    record { at = t; input = i; admitted = is_packet (admits (channels_allocated h) (open_at h t) (working_channel (core start h))) i }

-- what the history names, as a turn
abbrev goal_turn : Start → ReceivedInput → List ReceivedInput → MachineTurn
goal_turn start e h = record { state = state_of start (e ∷ h); packets = sent_at start e h; event = event_at start e h }

-- An input that does to each part what the history says leads to the state that it names.
named_turn : (start : Start) (e : ReceivedInput) (h : List ReceivedInput) (g : ℕ) (c : Option Open) (packets : List (List ℕ))
    (ev : Option Event)
    → g ≡ channels_allocated (e ∷ h) → c ≡ option_map to_open (open_at (e ∷ h) e.at)
    → packets ≡ table_packets (channels_allocated h) (open_at h e.at) (working_channel (core start h)) e.input
    ++ ping_packets (completed_message (open_at h e.at) e.admitted e.input)
    → ev ≡ event_at start e h
    → turn_packets e.at g c (core start h) (late start h e.at).keepalive_at
    (time_packets start h (last_keepalive start h) e.at) packets ev ≡ goal_turn start e h
unfolding state_of sent_at service_packets core
named_turn start e h g c packets ev eg ec ep ee = rw (eg, ec, ep, ee, last_noted start e h) refl

served_named : (start : Start) (t : ℕ) (h : List ReceivedInput) (i : Input) → Good start h → latest_time start h ≤ t
    → processed_input (late start h t) (time_packets start h (last_keepalive start h) t) i
    ≡ goal_turn start (judged_at start t h i) h
unfolding event completed_message table_packets accepted verdict next is_channel_input
served_named start t h (Packet x) good le =
    let e = judged_at start t h (Packet x) in
    let w = working_channel (core start h) in
    let s = serves (channels_allocated h) (open_at h t) w t x (safe_at start t h good le) in
    named_turn start e h _ _ _ _ (sym (given_more e h ∙ s.channels))
    (sym (ap (option_map to_open) (open_next_is h e start good.lawful le) ∙ s.current))
    (sym s.packets ∙ ap (λ m. table_packets (channels_allocated h) (open_at h t) w (Packet x) ++ ping_packets m) (sym s.message))
    (sym s.event ∙ ap (λ m. packet_event w m x.0) (sym s.message))
served_named start t h other good le =
    let e = judged_at start t h other in
    named_turn start e h _ _ _ _ (sym (given_more e h)) (sym
    (ap (option_map to_open) (open_next_is h e start good.lawful le) ∙ grind arith)) refl refl

-- One input: the machine's turn on the state that a history names gives the state that the longer history names, and
-- its packets.
pub follows : (start : Start) (h : List ReceivedInput) (x : Timed) → Good start h
    → turn (state_of start h) x ≡ goal_turn start (receive start x h) h
unfolding turn receive state_of
follows start h x good = grind (arith, served_named, time_named)

-- ---- all histories

admitted_alone : (g : ℕ) (o : Option MessageStart) (w : Option ℕ) (i : Input) → is_packet (admits g o w) i ≡ true → o ≡ None
unfolding admits
admitted_alone g o w i h = grind arith

safe_more : (g k : ℕ) (o : Option MessageStart) (w : Option ℕ) → g ≤ k → k ≤ MAX_CHANNEL → Safe g o w → Safe k o w
safe_more g k o w le few s = search (rules, arith)

-- What holds after a history holds after a longer one.
good_longer : (start : Start) (h : List ReceivedInput) (x : Timed) → Good start h → Good start (receive start x h ∷ h)
unfolding receive core
good_longer start h x good =
    let t = max (latest_time start h) x.at in
    let le : latest_time start h ≤ t = omega arith in
    let e = judged_at start t h x.input in
    record {
      lawful = (le, admitted_alone (channels_allocated h) (open_at h t) (working_channel (core start h)) x.input, good.lawful);
      safe = safe_more (channels_allocated h) _ _ _ (given_rises e h) (given_few (e ∷ h))
          (input_safe (channels_allocated h) (open_at h t) (core start h) t x.input _ (safe_at start t h good le)
          (sym (open_next_is h e start good.lawful le)));
    }

pub good_judged : (start : Start) (h : List Timed) → Good start (received start h)
unfolding received channels_allocated core open_at messages.open_among
good_judged start [] = record { lawful = tt; safe = record { few = omega arith; works = tt; opens = tt } }
good_judged start (x ∷ h) = good_longer start (received start h) x (good_judged start h)

-- The machine over a history is in the state that the history names, and each input sends the packets that the history
-- says.
pub machine_follows : (start : Start) (h : List Timed) → machine start h ≡ state_of start (received start h)
unfolding machine received start_state state_of channels_allocated core open_at messages.open_among last_keepalive
machine_follows start [] = refl
machine_follows start (x ∷ h) = grind (arith, follows, good_judged, machine_follows start h)

-- what a turn makes of a state that stands after a history
pub turn_after : (s : MachineState) (start : Start) (h : List Timed) (x : Timed) → IsMachineAfter s start h
    → turn s x ≡ record { state = state_of start (received start (x ∷ h)); packets = sent_now start h x; event = event_at start (receive start x (received start h)) (received start h) }
unfolding received sent_now
turn_after s start h x b = ap (λ v. turn v x) b ∙ follows start (received start h) x (good_judged start h)

pub step_after : (s : MachineState) (start : Start) (h : List Timed) (x : Timed) → IsMachineAfter s start h
    → IsMachineAfter (turn s x).state start (x ∷ h)
step_after s start h x b = ap (λ (v : MachineTurn). v.state) (turn_after s start h x b)

pub step_sends : (s : MachineState) (start : Start) (h : List Timed) (x : Timed) → IsMachineAfter s start h
    → (turn s x).packets ≡ sent_now start h x
step_sends s start h x b = ap (λ (v : MachineTurn). v.packets) (turn_after s start h x b)

pub run_after : (xs : List Timed) (s : MachineState) (start : Start) (h : List Timed) → IsMachineAfter s start h
    → IsMachineAfter (run_state s xs) start (append_inputs xs h)
run_after [] s start h b = b
run_after (x ∷ xs) s start h b = run_after xs (turn s x).state start (x ∷ h) (step_after s start h x b)

pub run_sends : (xs : List Timed) (s : MachineState) (start : Start) (n : ℕ) (h : List Timed) → IsMachineAfter s start h
    → run_sent n s xs ≡ sent_from n start h xs
run_sends [] s start n h b = refl
run_sends (x ∷ xs) s start n h b = grind (arith, step_after, step_sends, run_sends xs)
