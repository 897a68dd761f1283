-- Two kinds of state that send and count alike have the same log, and a session has that of its history.
use Rattle.std.proofs.Common.{ℕ, List, [], ◌∷◌, ◌++◌, ◌≡◌, ◌+◌, ◌^◌, Bool, cond, take, Option, Result, Ok, Err, inl}
use Rattle.std.proofs.Common.{inr, is_some, refl, sym, ◌∙◌, arith, IfErr, Some, ap}
use Rattle.session_log.specs.Semantics.{IsPacket, ArePackets, with_line_feed}
use Rattle.token_session.specs.declared.input.Meters.{Meters}
use Rattle.session_log.specs.declared.fault.LogFault.{LogFault}
use Rattle.session_log.specs.declared.fault.LogFault.TheVariants.{Memory, BadLine, TooLong, Differs, Read, Write}
use Rattle.session_log.specs.declared.fault.LogFault.TheVariants.{TooManyLines}
use Rattle.session_log.specs.declared.line.Line.{Line}
use Rattle.session_log.specs.Grammar.{parsed}
use Rattle.session_log.specs.Semantics.{LineSemantics, replay_text}
use Rattle.session_log.specs.Replay.{output_of, Played, played, play_all, parsed_line_text, state_after_parsed}
use Rattle.session_log.specs.Replay.{first_fault, parsed_line_fault, line_fault, fault_of}
use Rattle.session_log.specs.Lines.{lines, whole_lines}
use Rattle.session_log.specs.Replay.{Ending, Done, Refused, Unread, Unwritten, ending_of_fault, ending_of, read_fails}
use Rattle.session_log.specs.Replay.{write_fails}
use Rattle.session_log.specs.Replay.{AreWritten, IsDone, IsPlayed, IsRefused, IsUnread, IsUnwritten, IsWithinLine}
use Rattle.session_log.specs.Replay.{IsFaultOfLinesRead, ReadsUpToFault, ReadsTo, PlaysWholeLog, Logs, Plays, Writes}
use Rattle.session_log.specs.Replay.{next_text, next_state, FinishesLog, IsEndFault, PlaysWholeLogWithMeters}
use Rattle.std.proofs.KnownBytes.{Appends-kept}
use Rattle.session_log.specs.Command.{PlaysThrough, PlaysLog}
use Rattle.session_log.specs.Replay.{AllSend}
use Rattle.session_log.specs.Lines.{Counts, IsAtEndOfInput, ReadsAndWrites}
use Rattle.session_log.proofs.Through.{closes, closes_not, first_is_last}
use Rattle.authn_core.specs.Turn.{Start}
use Rattle.token_session.specs.declared.input.Timed.{Timed}
use Rattle.cred_table.specs.Rows.{ValidRows}
use Rattle.token_session.specs.Answered.{AgreesWithExchanges, packets_sent_now}
use Rattle.token_session.specs.Meters.{IsStateAfterValidStart, stepped, input_packets_of, SessionState, IsStateAfter}
use Rattle.token_session.specs.Meters.{session_of}
use Rattle.token_session.proofs.Answered.{told_now_is}
use Rattle.token_session.specs.History.{received}
use Rattle.token_session.specs.History.{state_of}
use Rattle.token_session.proofs.Metering.{stands_longer, machine_after}
use Rattle.token_session.proofs.Metering.{noise_is_named}
use Rattle.token_session.proofs.Follows.{step_sends}
use Rattle.session_log.specs.declared.command.ReplayMode.TheVariants.{Check, Quiet}
use Rattle.session_log.specs.Check.{Compared, log_comparison, first_comparison, missing, comparison_fault}
use Rattle.session_log.specs.Check.{comparison_after, check_machine, check_history}
use Rattle.session_log.specs.Replay.{session_semantics, history_semantics, exchange_semantics, replay_exchanges}
use Rattle.session_log.specs.Replay.{machine, history, quiet_machine, quiet_history, live_machine, live_history}
use Rattle.session_log.specs.Replay.{session_needs, history_needs}

-- ---- lists of packets

pub ArePackets-snoc : (packets : List (List ℕ)) (packet : List ℕ) → ArePackets packets → IsPacket packet
    → ArePackets (packets ++ packet ∷ [])
ArePackets-snoc [] packet h k = (k, tt)
ArePackets-snoc (p ∷ ps) packet h k = (h.0, ArePackets-snoc ps packet h.1 k)

-- ---- two kinds of state that send and count the same have the same log

-- b stands after what a names, and stays so
pub record Follows {A B : Type 0} (v : LineSemantics A) (w : LineSemantics B) (R : A → B → Type 0) : Type 0 where
  pub stops : (a : A) (b : B) (l : Line) → R a b → v.stops a l ≡ w.stops b l
  pub moves : (a : A) (b : B) (l : Line) → R a b → R (v.moves a l) (w.moves b l)
  pub writes : (a : A) (b : B) (line : List ℕ) (l : Line) → R a b → v.writes a line l ≡ w.writes b line l
  pub lacks : (a : A) (b : B) → R a b → v.lacks a ≡ w.lacks b
  pub ending : (a : A) (b : B) → R a b → v.ending a ≡ w.ending b
  pub counts : (a : A) (b : B) → R a b → v.counts a ≡ w.counts b

pub record Alike {A B : Type 0} (R : A → B → Type 0) (p : Played A) (q : Played B) : Type 0 where
  pub text : p.text ≡ q.text
  pub fault : p.fault ≡ q.fault
  pub state : R p.state q.state

either : {A B : Type 0} (R : A → B → Type 0) (c : Bool) (p x : Played A) (q y : Played B) → Alike R p q → Alike R x y
    → Alike R (cond c p x) (cond c q y)
either R c p x q y h k = search arith

module _ {A B : Type 0} {v : LineSemantics A} {w : LineSemantics B} {R : A → B → Type 0} (f : Follows v w R) where
  by_line : (a : A) (b : B) → R a b → (line : List ℕ) (l : Option Line)
      → (parsed_line_text v a line l ≡ parsed_line_text w b line l) × R (state_after_parsed v a l) (state_after_parsed w b l)
  by_line a b h line l = search arith

  same_stop : (n : ℕ) (a : A) (b : B) → R a b → (l : Option Line) → parsed_line_fault v n a l ≡ parsed_line_fault w n b l
  same_stop n a b h l = search arith

  same_fault : (n : ℕ) (a : A) (b : B) → R a b → (line : List ℕ) → line_fault v n a line ≡ line_fault w n b line
  same_fault n a b r line = rw (same_stop n a b r (parsed line)) refl

  pub alike : (n : ℕ) (a : A) (b : B) → R a b → (lines : List (List ℕ))
      → Alike R (played v n a lines) (played w n b lines)
  alike n a b r [] = record { text = refl; fault = refl; state = r }
  alike n a b r (line ∷ more) =
      let here = by_line a b r line (parsed line) in
      let rest = alike (n + 1) (state_after_parsed v a (parsed line)) (state_after_parsed w b (parsed line)) here.1 more in
      rw (same_fault n a b r line) (either R (is_some (line_fault w n b line)) _ _ _ _ (search arith) (search arith))

  faults_alike : (p : Played A) (q : Played B) → Alike R p q → fault_of v p ≡ fault_of w q
  faults_alike p q h = λ i. first_fault (f.lacks p.state q.state h.state i) (h.fault i)

  log_alike : (p : Played A) (q : Played B) → Alike R p q → output_of v p ≡ output_of w q
  log_alike p q h = search arith

  -- what comes next is alike
  next_alike : (a : A) (b : B) → R a b → (others : List (List ℕ)) → (next_text v a others ≡ next_text w b others)
      × R (next_state v a others) (next_state w b others)
  next_alike a b h others = search (arith, by_line)

  module _ (s t : A) (b : B) (r : R s b) (bytes text : List ℕ) where
    -- what an answer means in one semantics, it means in the other
    done_alike : IsDone v s t bytes text → (c : B) × R t c × IsDone w b c bytes text
    done_alike h = let same = alike 1 s b r (lines bytes) in
        ((play_all w b bytes).state, rw h.stands same.state, search (arith, faults_alike, log_alike))

    refused_alike : (e : LogFault) → IsRefused v s t bytes text e → (c : B) × R t c × IsRefused w b c bytes text e
    refused_alike e h = let same = alike 1 s b r (lines bytes) in
        ((play_all w b bytes).state, rw h.stands same.state, search (arith, faults_alike))

    unread_alike : (n : ℕ) → IsUnread v s t bytes text n → (c : B) × R t c × IsUnread w b c bytes text n
    unread_alike n h = let same = alike 1 s b r (whole_lines bytes) in
        ((played w 1 b (whole_lines bytes)).state, rw h.stands same.state, search arith)

    unwritten_alike : IsUnwritten v s t bytes text → (c : B) × R t c × IsUnwritten w b c bytes text
    unwritten_alike h =
        let same = alike 1 s b r h.first in
        let all = log_alike (play_all v s bytes) (play_all w b bytes) (alike 1 s b r (lines bytes)) in
        let next = next_alike (played v 1 s h.first).state (played w 1 b h.first).state same.state h.others in (
          next_state w (played w 1 b h.first).state h.others,
          rw h.stands next.1,
          record {
            first = h.first;
            others = h.others;
            front = h.front;
            rest = h.rest;
            cut = h.cut;
            faultless = cc;
            written = cc;
            broken = cc;
            missing = h.missing;
            stands = refl;
            beginning = (h.beginning.0, cc);
          },
        )

    pub makes_alike : (ending : Ending) → PlaysWholeLog v s t bytes text ending
        → (c : B) × R t c × PlaysWholeLog w b c bytes text ending
    makes_alike Done h = done_alike h
    makes_alike (Refused e) h = refused_alike e h
    makes_alike (Unread n) h = unread_alike n h
    makes_alike Unwritten h = unwritten_alike h

    written_alike : IsPlayed v s t bytes text → (c : B) × R t c × AreWritten w b c bytes text
    written_alike h = let same = alike 1 s b r (lines bytes) in
        ((play_all w b bytes).state, rw h.stands same.state, search arith)

    pub plays_alike : (ending : Ending) → Plays v s t bytes text ending
        → (c : B) × R t c × Writes w b c bytes text ending
    plays_alike Done h = written_alike h
    plays_alike (Refused e) h = refused_alike e h
    plays_alike (Unread n) h = unread_alike n h
    plays_alike Unwritten h = unwritten_alike h

    pub logs_alike : (answer : Result Meters LogFault) → Logs v s t bytes text answer
        → (c : B) × R t c × Logs w b c bytes text answer
    logs_alike (Ok m) h = let found = makes_alike Done h.0 in
        (found.0, found.1, (found.2, h.1 ∙ f.counts t found.0 found.1))
    logs_alike (Err e) h = let found = makes_alike (ending_of_fault e) h.0 in (found.0, found.1, (found.2, tt))

  module _ (s : A) (b : B) (r : R s b) where
    -- how far is read to find a fault
    near_alike : (bytes : List ℕ) (n : ℕ) → IsWithinLine v s bytes n → IsWithinLine w b bytes n
    near_alike bytes n h = let same = alike 1 s b r (whole_lines h.before) in search (arith, h.before, h.front)

    shown_alike : (bytes : List ℕ) (all : Type 0) (n : ℕ) (e : LogFault) → IsFaultOfLinesRead v s bytes all n e
        → IsFaultOfLinesRead w b bytes all n e
    shown_alike bytes all n e (inl h) = inl (h.0, sym (alike 1 s b r (take n (whole_lines bytes))).fault ∙ h.1)
    shown_alike bytes all n e (inr h) = inr h

    reaches_alike : (bytes : List ℕ) (all : Type 0) (e : LogFault) → ReadsUpToFault v s bytes all e → ReadsUpToFault w b bytes all e
    reaches_alike bytes all (BadLine n) h = (near_alike bytes n h.0, shown_alike bytes all n (BadLine n) h.1)
    reaches_alike bytes all (TooLong n) h = (near_alike bytes n h.0, h.1, h.2)
    reaches_alike bytes all (Differs l k) (inl h) =
        inl (h.0, near_alike bytes h.0 h.1, shown_alike bytes all h.0 (Differs l k) h.2)
    reaches_alike bytes all (Differs l k) (inr h) = inr (sym (alike 1 s b r (lines bytes)).fault ∙ h.0, h.1)
    reaches_alike bytes all TooManyLines h = near_alike bytes (2 ^ 32) h
    reaches_alike bytes all (Read n) h = h
    reaches_alike bytes all Write h = h
    reaches_alike bytes all (Memory n) h = h

    pub reads_alike : (left left' : Option (List ℕ)) (all : Type 0) (ending : Ending)
        → ReadsTo v s left left' all ending → ReadsTo w b left left' all ending
    reads_alike left left' all ending h = search (arith, reaches_alike)

-- ---- lines that were played, and then the end of their log. A source is i and then j, a target o and then p

module _ {S I O : Type 0} (semantics : LineSemantics S) (s t : S) (left : I → Option (List ℕ)) (unread : I → ℕ) (ended : I → Bool)
    (taken : O → Option (List ℕ)) (unwritten : O → ℕ) (i j : I) (o p : O) where
  -- what is said of an ending, and this where it is none
  abbrev Ends : Ending → (List ℕ → List ℕ → Type 0) → Type 0 → Type 0
  Ends ending Says All =
      ReadsAndWrites (left i) (left j) (taken o) (taken p) Says × ReadsTo semantics s (left i) (left j) (IsAtEndOfInput left ended j)
      ending
      × (Counts unread (i, j) (read_fails ending) × Counts unwritten (o, p) (write_fails ending) × All)

  -- a fault that was passed on
  pub stops : {A : Type 0} (r : Result A LogFault) (e : LogFault) → r ≡ Err e
      → ReadsAndWrites (left i) (left j) (taken o) (taken p) (λ bytes text. Plays semantics s t bytes text (ending_of_fault e))
      → ReadsTo semantics s (left i) (left j) (IsAtEndOfInput left ended j) (ending_of_fault e)
      → Counts unread (i, j) (read_fails (ending_of_fault e)) → Counts unwritten (o, p) (write_fails (ending_of_fault e))
      → PlaysThrough semantics s (λ bytes text. Plays semantics s t bytes text (ending_of r)) left unread ended taken unwritten
      r (i, j) (o, p)
  stops r e is moves reach reads writes = rw is (moves, reach, (reads, writes, tt))

  -- a fault ends a log as it ended its lines
  pub fails_with : {A X : Type 0} (r : Result A LogFault) (e : LogFault) → r ≡ Err e
      → Ends (ending_of_fault e) (λ bytes text. Plays semantics s t bytes text (ending_of_fault e)) X
      → PlaysThrough semantics s (λ bytes text. PlaysWholeLogWithMeters semantics s t bytes text r) left unread ended taken unwritten r
      (i, j) (o, p)
  fails_with r e is h = search arith

  -- What is said of a whole log, without what is known of the packets that were sent.
  pub makes : {A : Type 0} (r : Result A LogFault)
      → PlaysThrough semantics s (λ bytes text. PlaysWholeLogWithMeters semantics s t bytes text r) left unread ended taken unwritten r
      (i, j) (o, p) → PlaysThrough semantics s (λ bytes text. PlaysWholeLog semantics s t bytes text (ending_of r)) left unread ended
      taken unwritten
      r (i, j) (o, p)
  makes r h = ((h.0.0, h.0.1, h.0.2, h.0.3, h.0.4.0), h.1, h.2)

  -- the same, where what was counted is answered
  pub logs_fault : {X Y : Type 0} (r : Result Meters LogFault) (e : LogFault) → r ≡ Err e
      → Ends (ending_of_fault e) (λ bytes text. PlaysWholeLog semantics s t bytes text (ending_of_fault e) × X) Y
      → PlaysThrough semantics s (λ bytes text. Logs semantics s t bytes text r) left unread ended taken unwritten r (i, j)
      (o, p)
  logs_fault r e is h = rw is ((h.0.0, h.0.1, h.0.2, h.0.3, (h.0.4.0, tt)), h.1, (h.2.0, h.2.1, tt))

  pub logs_whole : (m : Meters) → m ≡ semantics.counts t
      → Ends Done (λ bytes text. PlaysWholeLog semantics s t bytes text Done
      × AllSend semantics s (lines bytes)) (IsAtEndOfInput left ended j)
      → PlaysThrough semantics s (λ bytes text. Logs semantics s t bytes text (Ok m)) left unread ended taken unwritten (Ok m)
      (i, j) (o, p)
  logs_whole m is h = ((h.0.0, h.0.1, h.0.2, h.0.3, (h.0.4.0, is)), h.1, h.2)

-- what comes after the last line ends a log without a fault in its lines
pub ends_with : {S A I O : Type 0} (semantics : LineSemantics S) (s t : S) (left : I → Option (List ℕ)) (unread : I → ℕ) (ended : I
    → Bool) (taken : O → Option (List ℕ)) (unwritten : O → ℕ) (i j : I) (o between p : O) (r : Result A LogFault)
    → IfErr r IsEndFault → FinishesLog semantics taken unwritten t (between, p) (ending_of r)
    → Ends semantics s t left unread ended taken unwritten i j o between Done (IsPlayed semantics s t) (IsAtEndOfInput left ended j)
    → PlaysThrough semantics s (λ bytes text. PlaysWholeLogWithMeters semantics s t bytes text r) left unread ended taken unwritten r
    (i, j) (o, p)
ends_with semantics s t left unread ended taken unwritten i j o between p (Ok x) own close h =
    let m = closes taken unwritten _ _ _ (between, p) h.0.2 h.0.3 h.0.4 close.0 close.1 in
    (m, tt, (h.2.0, close.1.1 ∙ h.2.1, h.2.2))
ends_with semantics s t left unread ended taken unwritten i j o between p (Err (Differs line packet)) own close h =
    let faulty = first_is_last semantics s t h.0.0 h.0.1 (Some (Differs line packet)) h.0.4 close.0 in
    let kept = Appends-kept (taken o) (taken between) (taken p) h.0.1 h.0.3 close.1 in (
      (h.0.0, h.0.1, h.0.2, kept, (search (arith, faulty), tt)),
      (h.0.0, h.0.2, inr (h.0.4.faultless, h.2.2)),
      (h.2.0, close.2 ∙ h.2.1, tt),
    )
ends_with semantics s t left unread ended taken unwritten i j o between p (Err Write) own close h =
    let m = closes_not taken unwritten _ _ _ (between, p) h.0.2 h.0.3 h.0.4 close.0 close.1 in
    ((m.0, m.1, m.2, m.3, (m.4, tt)), tt, (h.2.0, close.1.1 ∙ ap (λ k. k + 1) h.2.1, tt))
ends_with semantics s t left unread ended taken unwritten i j o between p (Err e) own close h = absurd own

-- What a log means in one semantics, it means in the other.
pub there : {A B Q I O : Type 0} {v : LineSemantics A} {w : LineSemantics B} {R : A → B → Type 0} → (f : Follows v w R)
    → (s : A) (b : B) → R s b → (V : List ℕ → List ℕ → Type 0) (T : B → Type 0) (W : B → List ℕ → List ℕ → Type 0)
    → ((bytes text : List ℕ) → V bytes text → (c : B) × T c × W c bytes text)
    → (left : I → Option (List ℕ)) (unread : I → ℕ) (ended : I → Bool) (taken : O → Option (List ℕ)) (unwritten : O → ℕ)
    → (r : Result Q LogFault) (input : I × I) (output : O × O)
    → PlaysThrough v s V left unread ended taken unwritten r input output
    → (c : B) × T c × PlaysThrough w b (W c) left unread ended taken unwritten r input output
there f s b k V T W alike left unread ended taken unwritten r input output h =
    let found = alike h.0.0 h.0.1 h.0.4 in
    let reads = reads_alike f s b k (left input.0) (left input.1) (IsAtEndOfInput left ended input.1) (ending_of r) h.1 in
    (found.0, found.1, ((h.0.0, h.0.1, h.0.2, h.0.3, found.2), reads, h.2))

-- ---- a session after a history sends and counts what the history names

module _ (start : Start) where
  counted : (s : SessionState) (h : List Timed) → IsStateAfter s start h → s.meters ≡ (history start).counts h
  unfolding session_of
  counted s h r = ap (λ (z : SessionState). z.meters) r

  wrote : (s : SessionState) (h : List Timed) (line : List ℕ) (l : Line) → IsStateAfter s start h
      → replay_text session_semantics s line l ≡ replay_text (history_semantics start) h line l
  wrote s h line l r = search (arith, step_sends, machine_after)

  pub follows : Follows machine (history start) (λ s h. IsStateAfter s start h)
  follows = search (arith, wrote, counted, stands_longer)

  -- Made quiet.

  noised : (s : SessionState) (h : List Timed) (line : List ℕ) (l : Line) → IsStateAfter s start h
      → quiet_machine.writes s line l ≡ (quiet_history start).writes h line l
  noised s h line l r = search (arith, noise_is_named, machine_after)

  quiet_follows : Follows quiet_machine (quiet_history start) (λ s h. IsStateAfter s start h)
  quiet_follows = search (arith, noised, counted, stands_longer)

  -- With what is needed.

  needed_after : (s : SessionState) (h : List Timed) → IsStateAfter s start h → session_needs s ≡ history_needs start h
  unfolding session_of state_of
  needed_after s h r = ap session_needs r

  told : (s : SessionState) (h : List Timed) (line : List ℕ) (l : Line) → IsStateAfter s start h
      → live_machine.writes s line l ≡ (live_history start).writes h line l
  told s h line l r = search (arith, step_sends, machine_after, needed_after, stands_longer)

  pub live_follows : Follows live_machine (live_history start) (λ s h. IsStateAfter s start h)
  live_follows = search (arith, told, counted, stands_longer)

-- What is told of a history, likewise.

module _ (start : Start) (is : (h : List Timed) → AgreesWithExchanges start h) where
  told_stays : (s : SessionState) (h : List Timed) (x : Timed) → IsStateAfterValidStart s start h
      → IsStateAfterValidStart (stepped s x) start (x ∷ h)
  told_stays s h x f = record { lawful = f.lawful; stands = stands_longer s start h x f.stands }

  told_sends : (s : SessionState) (h : List Timed) (x : Timed) → IsStateAfterValidStart s start h
      → input_packets_of s x ≡ packets_sent_now start h x
  told_sends s h x f = step_sends s.machine start h x (machine_after s start h f.stands)
      ∙ told_now_is start h x (is h) (is (x ∷ h))

  retold : (s : SessionState) (h : List Timed) (line : List ℕ) (l : Line) → IsStateAfterValidStart s start h
      → replay_text session_semantics s line l ≡ replay_text (exchange_semantics start) h line l
  retold s h line l f = search (arith, told_sends)

  told_counts : (s : SessionState) (h : List Timed) → IsStateAfterValidStart s start h → s.meters ≡ (exchange_semantics start).counts h
  told_counts s h f = counted start s h f.stands

  pub tells : Follows machine (replay_exchanges start) (λ s h. IsStateAfterValidStart s start h)
  tells = search (arith, retold, told_counts, told_stays)

pub lines_history : (left left' taken taken' : Option (List ℕ)) (s t : SessionState) (ending : Ending) (all : Type 0)
    → ReadsAndWrites left left' taken taken' (λ bytes text. Plays live_machine s t bytes text ending)
    → ReadsTo live_machine s left left' all ending → (start : Start) (h : List Timed) → IsStateAfter s start h
    → (later : List Timed) × IsStateAfter t start later
    × ReadsAndWrites left left' taken taken' (λ bytes text. Writes (live_history start) h later bytes text ending)
    × ReadsTo (live_history start) h left left' all ending
lines_history left left' taken taken' s t ending all m reach start h stands =
    let found = plays_alike (live_follows start) s t h stands m.0 m.1 ending m.4 in
    let reads = reads_alike (live_follows start) s h stands left left' all ending reach in
    (found.0, found.1, (m.0, m.1, m.2, m.3, found.2), reads)

-- What a log means of a session, it means of each history that the session stands after.
module _ {I O : Type 0} (left : I → Option (List ℕ)) (unread : I → ℕ) (with_line_feed : I → Bool) (taken : O → Option (List ℕ))
    (unwritten : O → ℕ) (input : I × I) (output : O × O) where
  pub logs_history : (v : LineSemantics SessionState) (w : Start → LineSemantics (List Timed))
      → ((start : Start) → Follows v (w start) (λ s h. IsStateAfter s start h))
      → (s t : SessionState) (r : Result Meters LogFault)
      → PlaysThrough v s (λ bytes text. Logs v s t bytes text r) left unread with_line_feed taken unwritten r input output
      → (start : Start) (h : List Timed) → IsStateAfter s start h → (later : List Timed) × IsStateAfter t start later
      × PlaysThrough (w start) h (λ bytes text. Logs (w start) h later bytes text r) left unread with_line_feed taken unwritten r
      input output
  logs_history v w f s t r through start h stands =
      there (f start) s h stands (λ bytes text. Logs v s t bytes text r) (IsStateAfter t start)
      (λ later bytes text. Logs (w start) h later bytes text r)
      (λ bytes text m. logs_alike (f start) s t h stands bytes text r m)
      left unread with_line_feed taken unwritten r input output through

  pub logs_told : ((start : Start) (h : List Timed) → ValidRows start.capacity start.rows → AgreesWithExchanges start h)
      → (s t : SessionState) (r : Result Meters LogFault)
      → PlaysThrough machine s (λ bytes text. Logs machine s t bytes text r) left unread with_line_feed taken unwritten r input
      output
      → (start : Start) (h : List Timed) → IsStateAfterValidStart s start h → (later : List Timed) × IsStateAfterValidStart t start later
      × PlaysThrough (replay_exchanges start) h (λ bytes text. Logs (replay_exchanges start) h later bytes text r) left unread
      with_line_feed taken unwritten r input output
  logs_told law s t r through start h f =
      let told = tells start (λ k. law start k f.lawful) in
      there told s h f (λ bytes text. Logs machine s t bytes text r) (IsStateAfterValidStart t start)
      (λ later bytes text. Logs (replay_exchanges start) h later bytes text r)
      (λ bytes text m. logs_alike told s t h f bytes text r m)
      left unread with_line_feed taken unwritten r input output through

  pub quiets_history : {A : Type 0} (s t : SessionState) (r : Result A LogFault)
      → PlaysThrough quiet_machine s (λ bytes text. PlaysWholeLog quiet_machine s t bytes text (ending_of r)) left unread with_line_feed
      taken unwritten r input output
      → (start : Start) (h : List Timed) → IsStateAfter s start h
      → PlaysLog Quiet start h left unread with_line_feed taken unwritten r t input output
  quiets_history s t r through start h stands =
      let q = there (quiet_follows start) s h stands
      (λ bytes text. PlaysWholeLog quiet_machine s t bytes text (ending_of r)) (IsStateAfter t start)
      (λ later bytes text. PlaysWholeLog (quiet_history start) h later bytes text (ending_of r))
      (λ bytes text m. makes_alike (quiet_follows start) s t h stands bytes text (ending_of r) m)
      left unread with_line_feed taken unwritten r input output through in
      (q.0, q.1, q.2.0, q.2.1, q.2.2)

-- Compared.

-- all but what the session holds is the same
abbrev onto_history : List Timed → Compared SessionState → Compared (List Timed)
onto_history h c = log_comparison h c.lines c.input c.found c.due c.inputs c.packets

module _ (start : Start) where
  abbrev IsBeside : Compared SessionState → Compared (List Timed) → Type 0
  IsBeside c d = IsStateAfter c.session start d.session × (d ≡ onto_history d.session c)

  same_stops : (c : Compared SessionState) (d : Compared (List Timed)) (l : Line) → IsBeside c d
      → comparison_fault c l ≡ comparison_fault d l
  same_stops c d l r = search arith

  same_moves : (c : Compared SessionState) (d : Compared (List Timed)) (l : Line) → IsBeside c d
      → IsBeside (comparison_after session_semantics c l) (comparison_after (history_semantics start) d l)
  same_moves c d l r = search (arith, step_sends, machine_after, stands_longer)

  check_follows : Follows check_machine (check_history start) (IsBeside)
  check_follows = record {
    stops = same_stops;
    moves = same_moves;
    writes = λ c d line l r. refl;
    lacks = λ c d r. sym (ap missing r.1);
    ending = λ c d r. sym (ap (λ (z : Compared (List Timed)). (check_history start).ending z) r.1);
    counts = λ c d r. counted start c.session d.session r.0;
  }

pub checks_history : {A I O : Type 0} (left : I → Option (List ℕ)) (unread : I → ℕ) (with_line_feed : I → Bool) (taken : O
    → Option (List ℕ)) (unwritten : O → ℕ) (input : I × I) (output : O
    × O) (s : SessionState) (t : Compared SessionState) (r : Result A LogFault)
    → PlaysThrough check_machine (first_comparison s) (λ bytes text. PlaysWholeLog check_machine (first_comparison s) t bytes text (ending_of r)) left
    unread with_line_feed taken unwritten r input output
    → (start : Start) (h : List Timed) → IsStateAfter s start h
    → PlaysLog Check start h left unread with_line_feed taken unwritten r t.session input output
checks_history left unread with_line_feed taken unwritten input output s t r through start h stands =
    let q = there (check_follows start) (first_comparison s) (first_comparison h) (stands, refl)
    (λ bytes text. PlaysWholeLog check_machine (first_comparison s) t bytes text (ending_of r))
    (λ later. IsStateAfter t.session start later.session)
    (λ later bytes text. PlaysWholeLog (check_history start) (first_comparison h) later bytes text (ending_of r))
    (λ bytes text m. let found = makes_alike (check_follows start) (first_comparison s) t (first_comparison h) (stands, refl) bytes text
    (ending_of r) m in
    (found.0, found.1.0, found.2)) left unread with_line_feed taken unwritten r input output through in
    (q.0, q.1, q.2.0, q.2.1, q.2.2)

-- a session at its start stands after the empty history
pub begins : (s : SessionState) (start : Start) → s ≡ session_of start [] → IsStateAfter s start []
unfolding received
begins s start e = e
