-- What a player makes of a line, and logs that are compared.
use Rattle.std.proofs.Common.{◌≡◌, ◌≤◌, ◌<◌, ℕ, [], ◌∷◌, length, length-append, List, Option, None, Some, IfErr, OnOk}
use Rattle.std.proofs.Common.{Result, Ok, Err, inl, inr, ◌⊎◌, refl, sym, ap, ◌∙◌, subst, arith, Bool, ◌-◌, ◌^◌, ◌==◌}
use Rattle.std.proofs.Common.{cond, not, ◌+◌, true, false, is_some, suc, ◌++◌, sum_by}
use Rattle.std.proofs.KnownBytes.{Appends-nil, Keeps-refl}
use Rattle.hid_packet.specs.declared.packet.Packet.{Packet}
use Rattle.session_log.specs.declared.fault.LogFault.{LogFault}
use Rattle.session_log.specs.declared.fault.LogFault.TheVariants.{Differs}
use Rattle.session_log.specs.declared.line.Line.{Line}
use Rattle.session_log.specs.declared.line.Line.TheVariants.{Sent, Count, Comment, Input}
use Rattle.session_log.specs.Replay.{ending_of}
use Rattle.session_log.specs.Replay.{parsed_line_fault, played, first_fault, fault_of, line_fault, state_after}
use Rattle.session_log.specs.Replay.{state_after_parsed}
use Rattle.session_log.specs.Grammar.{parsed}
use Rattle.session_log.specs.Lines.{WritesLogLine}
use Rattle.session_log.specs.Semantics.{with_line_feed}
use Rattle.session_log.specs.Semantics.{LineSemantics, InputSemantics}
use Rattle.session_log.specs.Replay.{FinishesLog, IsEndFault, IsLineFault, PlaysLine, Logs, PlaysWholeLog}
use Rattle.session_log.proofs.Through.{on_any, sound_first, played_sound, played_faulty, first_is_line}
use Rattle.session_log.specs.Command.{PlaysThrough, without_meters}
use Rattle.token_session.specs.declared.input.Meters.{Meters}
use Rattle.token_session.specs.declared.input.Timed.{Timed}
use Rattle.std.specs.Cmp.Lexicographic.{pointwise, same_text, other_text}
use Rattle.std.specs.Option.{option_eq}
use Rattle.token_session.specs.Meters.{SessionState}
use Rattle.session_log.specs.Check.{Compared, after_first, differs_from, log_comparison, due_packets, missing_of}
use Rattle.session_log.specs.Check.{comparison_after, comparison_fault, first_comparison, difference, check_semantics}
use Rattle.session_log.specs.Replay.{session_semantics}
use Rattle.session_log.specs.declared.check_player.CheckPlayer.{CheckPlayer}
use Rattle.std.proofs.lemmas.List.Sums.{sum_by-cons}
use Rattle.session_log.proofs.Cutting.{no_some}
use Rattle.session_log.specs.Check.{inputs, line_inputs}
use Rattle.session_log.specs.Check.{Groups, prepend_packet, prepend_line, found_groups, sent_groups, line_numbers}
use Rattle.session_log.specs.Check.{input_lines, DifferFirst, IsFirstDifference}

-- ---- what a player makes of one line, and of the end of the lines

-- the fault of a write is one of any line, and of the end
written_at : {F A : Type 0} (taken : F → Option (List ℕ)) (failed : F → ℕ) (target : F × F) (text : List ℕ)
    (r : Result A LogFault) (n : ℕ) → WritesLogLine taken failed target text r → IfErr r (IsLineFault n) × IfErr r IsEndFault
written_at taken failed target text (Ok x) n put = (tt, tt)
written_at taken failed target text (Err e) n put = (subst (IsLineFault n) (sym put.0) tt, subst IsEndFault (sym put.0) tt)

-- a short line fits with its line feed
pub fits_ended : (line text : List ℕ) → text ≡ with_line_feed line → length line < 256 → length text ≤ 256
fits_ended line text is short = omega (arith, ap length is, length-append line (10 ∷ []))

-- nothing was written, without a fault and with one
abbrev quietly : Result (Unit {0}) LogFault
quietly = Ok tt

abbrev loudly : LogFault → Result (Unit {0}) LogFault
loudly e = Err e

module _ {S F : Type 0} (semantics : LineSemantics S) (taken : F → Option (List ℕ)) (failed : F → ℕ) where
  -- what is said of line n, and X of a player that goes on
  abbrev Played : {A : Type 0} → Type 0 → ℕ → S → S → List ℕ → F × F → Result A LogFault → Type 0
  Played X n s t line target r =
      record {
        played : PlaysLine semantics taken failed n s t line target (ending_of r);
        own : IfErr r (IsLineFault n);
        next : OnOk r X;
      }

  -- the text for a line that says this was handed over
  pub writes_for : {A X : Type 0} (n : ℕ) (s t : S) (line : List ℕ) (l : Line) (target : F × F) (r : Result A LogFault)
      (text : List ℕ) → parsed line ≡ Some l → semantics.stops s l ≡ None → t ≡ semantics.moves s l → semantics.sound s l
      → text ≡ semantics.writes s line l → WritesLogLine taken failed target text r → X → Played X n s t line target r
  writes_for n s t line l target r text is sound stood packets same put next =
      record { played = search arith; own = (written_at taken failed target text r n put).0; next = on_any r next }

  -- nothing is written for it
  pub writes_none : {X : Type 0} (n : ℕ) (s t : S) (line : List ℕ) (l : Line) (w : F) → parsed line ≡ Some l →
      semantics.stops s l ≡ None
      → t ≡ semantics.moves s l → semantics.sound s l → [] ≡ semantics.writes s line l → X
      → Played X n s t line (w, w) quietly
  writes_none n s t line l w is sound stood packets same next =
      writes_for n s t line l (w, w) quietly [] is sound stood packets same (Appends-nil (taken w), refl) next

  -- it shows a difference
  pub differs_for : (X : Type 0) (n : ℕ) (s : S) (line : List ℕ) (l : Line) (w : F) (input packet : ℕ) (e : LogFault)
      → parsed line ≡ Some l → semantics.stops s l ≡ Some (Differs input packet) → e ≡ Differs input packet
      → Played X n s s line (w, w) (loudly e)
  differs_for X n s line l w input packet e is stops same =
      subst (λ (f : LogFault). Played X n s s line (w, w) (loudly f)) (sym same)
      (record { played = (ap (parsed_line_fault semantics n s) is ∙ stops, refl, Keeps-refl (taken w), refl); own = tt; next = tt })

  -- what an earlier run sent or counted is dropped
  abbrev IsDropped : S → List ℕ → Line → Type 0
  IsDropped s line l =
      (semantics.stops s l ≡ None) × (s ≡ semantics.moves s l) × semantics.sound s l × ([] ≡ semantics.writes s line l)

  pub drops : {X : Type 0} (n : ℕ) (s : S) (line : List ℕ) (l : Line) (w : F) →
      ((x : Packet) × (l ≡ Sent x)) ⊎ (l ≡ Count)
      → parsed line ≡ Some l → ((x : Packet) → IsDropped s line (Sent x)) → IsDropped s line Count → X
      → Played X n s s line (w, w) quietly
  drops n s line l w (inl h) is sent count next = let d = sent h.0 in
      writes_none n s s line (Sent h.0) w (is ∙ ap Some h.1) d.0 d.1 d.2 d.3 next
  drops n s line l w (inr h) is sent count next =
      writes_none n s s line Count w (is ∙ ap Some h) count.0 count.1 count.2 count.3 next

  -- what is said of the end of the lines, and X of the player
  abbrev Closed : {A : Type 0} → Type 0 → S → F × F → Result A LogFault → Type 0
  Closed X s target r =
      record { closed : FinishesLog semantics taken failed s target (ending_of r); own : IfErr r IsEndFault; same : X }

  -- the text at the end was handed over
  pub closes_by : {A X : Type 0} (s : S) (target : F × F) (r : Result A LogFault) (text : List ℕ) → semantics.lacks s ≡ None
      → text ≡ semantics.ending s → WritesLogLine taken failed target text r → X
      → Closed X s target r
  closes_by s target r text none is put same =
      record { closed = search arith; own = (written_at taken failed target text r 0 put).1; same = same }

  -- something is missing there
  pub closes_at : {X : Type 0} (s : S) (w : F) (input packet : ℕ) (e : LogFault)
      → semantics.lacks s ≡ Some (Differs input packet) → e ≡ Differs input packet → X → Closed X s (w, w) (loudly e)
  closes_at {X = X} s w input packet e lacks same x =
      subst (λ (f : LogFault). Closed X s (w, w) (loudly f)) (sym same)
      (record { closed = (lacks, Keeps-refl (taken w), refl); own = tt; same = x })

-- ---- what is said of an answer with meters is said of it without them

pub plays_unmetered : {I O : Type 0} (semantics : LineSemantics (List Timed)) (h later : List Timed) (left : I
    → Option (List ℕ)) (unread : I → ℕ) (ended : I → Bool) (taken : O → Option (List ℕ)) (unwritten : O
    → ℕ) (answer : Result Meters LogFault) (input : I × I) (output : O × O)
    → PlaysThrough semantics h (λ bytes text. Logs semantics h later bytes text answer) left unread ended taken unwritten answer
    input output
    → PlaysThrough semantics h (λ bytes text. PlaysWholeLog semantics h later bytes text (ending_of (without_meters answer))) left unread
    ended taken unwritten (without_meters answer) input output
plays_unmetered semantics h later left unread ended taken unwritten answer input output k = search arith

-- ---- where a comparison stands, and what the packet decides that is due next

abbrev pub standing : CheckPlayer → SessionState → Compared SessionState
standing o s = log_comparison s o.lines o.input o.found (due_packets o.awaited o.outbox) o.inputs o.packets

pub is_silent : (o : Option Packet) → false ≡ is_some o → o ≡ None
is_silent None h = refl
is_silent (Some x) h = cc

pub is_due : (o : Option Packet) (rest : List (List ℕ)) (f : LogFault) → true ≡ is_some o
    → missing_of (due_packets o rest) f ≡ Some f
is_due None rest f h = cc
is_due (Some x) rest f h = refl

-- a comment or a count leaves all but the number of lines
pub passes : (c : Compared SessionState) (n : ℕ) (l : Line) → (l ≡ Comment) ⊎ (l ≡ Count) → n ≡ c.lines + 1
    → (comparison_fault c l ≡ None) × (record c { lines = n } ≡ comparison_after session_semantics c l)
passes c n l (inl h) at = search (arith, at)
passes c n l (inr h) at = search (arith, at)

-- a count that rises by one in a line, or stays, or begins again
pub rises : {m n l a b : ℕ} → m ≡ n → n ≡ l + 1 → a ≤ l → b ≡ a + 1 → b ≤ m
rises here at below is = omega (arith, here, at, below, is)

pub stays : {m n l a b : ℕ} → m ≡ n → n ≡ l + 1 → a ≤ l → b ≡ a → b ≤ m
stays here at below is = omega (arith, here, at, below, is)

pub begins : {m b : ℕ} → b ≡ 0 → b ≤ m
begins is = omega (arith, is)

-- a count has space for one more
pub at_most : (n l k : ℕ) → n ≡ l + 1 → n ≤ 2 ^ 32 → k ≤ l → k < 2 ^ 64 - 1
at_most n l k is few below = omega arith

pub not_full : (n l k : ℕ) → n ≡ l + 1 → n < 2 ^ 32 → k ≤ l → k < 2 ^ 64 - 1
not_full n l k is few below = omega arith

-- another packet is due than this, or this one
unlike : (b : Bool) → true ≡ not b → b ≡ false
unlike true h = cc
unlike false h = refl

like : (b : Bool) → false ≡ not b → b ≡ true
like true h = refl
like false h = cc

module _ (eq : Packet → Packet → Bool) (same : (p q : Packet) → eq p q ≡ pointwise ◌==◌ p.0 q.0) (rest : List (List ℕ))
    (packet : Packet) (f : LogFault) where
  pub is_other : (o : Option Packet) → true ≡ not (option_eq eq o (Some packet))
      → differs_from (due_packets o rest) packet.0 f ≡ Some f
  is_other None h = refl
  is_other (Some p) h = ap (λ (b : Bool). cond b None (Some f)) (sym (same p packet) ∙ unlike (eq p packet) h)

  pub is_next : (o : Option Packet) → false ≡ not (option_eq eq o (Some packet))
      → (differs_from (due_packets o rest) packet.0 f ≡ None) × (after_first (due_packets o rest) ≡ rest)
  is_next None h = cc
  is_next (Some p) h = (ap (λ (b : Bool). cond b None (Some f)) (sym (same p packet) ∙ like (eq p packet) h), refl)

-- ---- what a log that was compared has

-- The fault of a first line, and what follows where it has none.

module _ {S : Type 0} (semantics : LineSemantics S) (n : ℕ) (s : S) (line : List ℕ) where
  own_fault : line_fault semantics n s line ≡ None → parsed_line_fault semantics n s (parsed line) ≡ None
  own_fault h = search arith

  own_difference : (l k : ℕ) → line_fault semantics n s line ≡ Some (Differs l k)
      → parsed_line_fault semantics n s (parsed line) ≡ Some (Differs l k)
  own_difference l k h = search arith

  faulty_here : (more : List (List ℕ)) (f : LogFault) → line_fault semantics n s line ≡ Some f
      → fault_of semantics (played semantics n s (line ∷ more)) ≡ Some f
  faulty_here more f e = ap (fault_of semantics) (played_faulty semantics n s line more f e) ∙ first_is_line (semantics.lacks s) f

  sound_here : (more : List (List ℕ)) → line_fault semantics n s line ≡ None
      → fault_of semantics (played semantics n s (line ∷ more))
      ≡ fault_of semantics (played semantics (n + 1) (state_after semantics s line) more)
  sound_here more e = ap (fault_of semantics) (played_sound semantics n s line more e)

  -- if nothing is wrong in a log, nothing is in its first line
  first_is_sound : (more : List (List ℕ)) → fault_of semantics (played semantics n s (line ∷ more)) ≡ None
      → line_fault semantics n s line ≡ None
  first_is_sound more h = no_some (line_fault semantics n s line) (λ f e. cc (sym (faulty_here more f e) ∙ h))

none_differs : (due : List (List ℕ)) (packet : List ℕ) (f : LogFault) → differs_from due packet f ≡ None
    → due ≡ packet ∷ after_first due
none_differs [] packet f h = cc
none_differs (p ∷ due) packet f h = search (arith, same_text p packet)

with_one_more : (packet : List ℕ) (groups : Groups) → sum_by length (prepend_packet packet groups)
    ≡ suc (sum_by length groups)
with_one_more packet [] = refl
with_one_more packet (group ∷ more) = search (arith, sum_by-cons)

abbrev CountsOn : {S : Type 0} → Compared S → Compared S → List Timed → Groups → Type 0
CountsOn c d xs groups = (d.inputs ≡ c.inputs + length xs) × (d.packets ≡ c.packets + sum_by length groups)

-- of an input of whose packets some were found before
abbrev found_before : Groups → ℕ → ℕ
found_before [] seen = seen
found_before (group ∷ more) seen = 0

record Differing (seen : ℕ) (found sent : Groups) (numbers : List ℕ) (line packet : ℕ) : Type 0 where
  at : ℕ
  first : IsFirstDifference found sent numbers line at
  count : packet ≡ found_before first.before seen + at

none_before : (before : Groups) → found_before before 0 ≡ 0
none_before before = search arith

-- a first difference, by its parts
abbrev by_parts : {found sent : Groups} {numbers : List ℕ} {line at : ℕ} (before : Groups)
    (common rest due : List (List ℕ)) (later further : Groups) (earlier others : List ℕ)
    → found ≡ before ++ (common ++ rest) ∷ later → sent ≡ before ++ (common ++ due) ∷ further
    → numbers ≡ earlier ++ line ∷ others → length earlier ≡ length before → DifferFirst rest due
    → at ≡ length common + 1 → IsFirstDifference found sent numbers line at
by_parts before common rest due later further earlier others e f k level differ count = record {
  before = before;
  common = common;
  rest = rest;
  due = due;
  later = later;
  further = further;
  earlier = earlier;
  others = others;
  found_are = e;
  sent_are = f;
  lines_are = k;
  level = level;
  differ = differ;
  count = count;
}

-- the packets that come next differ
differs_now : (seen line packet input : ℕ) (rest due : List (List ℕ)) (found sent later further : Groups)
    (others : List ℕ) → DifferFirst rest due → found ≡ rest ∷ later → sent ≡ due ∷ further → line ≡ input
    → packet ≡ seen + 1 → Differing seen found sent (input ∷ others) line packet
differs_now seen line packet input rest due found sent later further others differ e f is_line count =
    record { at = 1; first = by_parts [] [] rest due later further [] others e f (cc) refl differ refl; count = count }

-- an input whose packets were all found stands before
after_input : (seen line packet input : ℕ) (found sent : Groups) (numbers : List ℕ)
    → Differing 0 found sent numbers line packet → Differing seen ([] ∷ found) ([] ∷ sent) (input ∷ numbers) line packet
after_input seen line packet input found sent numbers d = record {
  at = d.at;
  first = by_parts ([] ∷ before) common rest due later further (input ∷ earlier) others
      (ap (λ (gs : Groups). [] ∷ gs) e) (ap (λ (gs : Groups). [] ∷ gs) f)
      (ap (λ (ns : List ℕ). input ∷ ns) k) (ap suc level) differ count;
  count = search (arith, d.count, none_before before);
}
  where
    open d.first use {before, common, rest, due, later, further, earlier, others, level, differ, count}
    open d.first use {found_are as e, sent_are as f, lines_are as k}

-- a packet that was found stands before
after_packet : (seen line packet : ℕ) (p : List ℕ) (found sent : Groups) (numbers : List ℕ)
    → Differing (seen + 1) found sent numbers line packet
    → Differing seen (prepend_packet p found) (prepend_packet p sent) numbers line packet
after_packet seen line packet p found sent numbers d =
    go d.first.before d.first.earlier d.first.found_are d.first.sent_are d.first.lines_are d.first.level d.count
  where
    open d.first use {common, rest, due, later, further, others, differ, count as long}

    go : (before : Groups) (earlier : List ℕ) → found ≡ before ++ (common ++ rest) ∷ later
        → sent ≡ before ++ (common ++ due) ∷ further → numbers ≡ earlier ++ line ∷ others
        → length earlier ≡ length before → packet ≡ found_before before (seen + 1) + d.at
        → Differing seen (prepend_packet p found) (prepend_packet p sent) numbers line packet
    go [] earlier e f k level count = record {
      at = suc d.at;
      first = by_parts [] (p ∷ common) rest due later further earlier others (ap (prepend_packet p) e) (ap (prepend_packet p) f)
          k level differ (omega (arith, long));
      count = omega (arith, count);
    }
    go (group ∷ more) earlier e f k level count = record {
      at = d.at;
      first = by_parts ((p ∷ group) ∷ more) common rest due later further earlier others (ap (prepend_packet p) e)
          (ap (prepend_packet p) f) k level differ long;
      count = count;
    }

-- a first group there always is
some_group : (ls : List (List ℕ)) → (group : List (List ℕ)) × (more : Groups) × (found_groups ls ≡ group ∷ more)
some_group [] = ([], [], refl)
some_group (line ∷ rest) = go (parsed line) (some_group rest)
  where
    go : (l : Option Line) → ((group : List (List ℕ)) × (more : Groups) × (found_groups rest ≡ group ∷ more))
        → (group : List (List ℕ)) × (more : Groups) × (prepend_line l (found_groups rest) ≡ group ∷ more)
    go (Some (Input x)) s = ([], found_groups rest, refl)
    go (Some (Sent p)) s = (p.0 ∷ s.0, s.1, ap (prepend_packet p.0) s.2)
    go l s = s

line_in : Option LogFault → ℕ
line_in (Some (Differs l k)) = l
line_in _ = 0

packet_in : Option LogFault → ℕ
packet_in (Some (Differs l k)) = k
packet_in _ = 0

-- a packet is missing
missing_differs : (due : List (List ℕ)) (input seen line packet : ℕ) → missing_of due (Differs input (seen + 1))
    ≡ Some (Differs line packet) → DifferFirst [] due × (line ≡ input) × (packet ≡ seen + 1)
unfolding line_in packet_in
missing_differs due input seen line packet h = search arith

missing_differs_last : (due : List (List ℕ)) (input seen line packet : ℕ)
    → first_fault (missing_of due (Differs input (seen + 1))) None ≡ Some (Differs line packet)
    → DifferFirst [] due × (line ≡ input) × (packet ≡ seen + 1)
unfolding line_in packet_in
missing_differs_last due input seen line packet h = search arith

-- a packet differs, or is too many
packet_differs : (due : List (List ℕ)) (q : List ℕ) (group : List (List ℕ)) (input seen line packet : ℕ)
    → differs_from due q (Differs input (seen + 1)) ≡ Some (Differs line packet)
    → DifferFirst (q ∷ group) due × (line ≡ input) × (packet ≡ seen + 1)
unfolding line_in packet_in
packet_differs due q group input seen line packet h = search (arith, other_text)

module _ {S : Type 0} (course : InputSemantics S) where
  abbrev compares : LineSemantics (Compared S)
  compares = check_semantics course

  pub check_is_silent : (n : ℕ) (c : Compared S) (ls : List (List ℕ)) → (played compares n c ls).text ≡ []
  check_is_silent n c [] = refl
  check_is_silent n c (line ∷ more) =
      search (arith, played_faulty, played_sound, check_is_silent (n + 1) (state_after compares c line) more)

  -- No difference: the groups are those that are sent.

  line_groups : (n : ℕ) (c : Compared S) (l : Option Line) (groups : Groups) (xs : List Timed)
      → parsed_line_fault compares n c l ≡ None → groups
      ≡ (state_after_parsed compares c l).due ∷ sent_groups course (state_after_parsed compares c l).session xs
      → prepend_line l groups ≡ c.due ∷ sent_groups course c.session (line_inputs l ++ xs)
  line_groups n c l groups xs h k = search (arith, none_differs)

  pub same_groups : (n : ℕ) (c : Compared S) (ls : List (List ℕ)) → fault_of compares (played compares n c ls) ≡ None
      → found_groups ls ≡ c.due ∷ sent_groups course c.session (inputs ls)
  same_groups n c [] h = search arith
  same_groups n c (line ∷ more) h =
      let e = first_is_sound compares n c line more h in
      line_groups n c (parsed line) (found_groups more) (inputs more) (own_fault compares n c line e)
      (same_groups (n + 1) (state_after compares c line) more (cc (sound_here compares n c line more e)))

  -- What was counted.

  line_counts : (n : ℕ) (c d : Compared S) (l : Option Line) (groups : Groups) (xs : List Timed)
      → parsed_line_fault compares n c l ≡ None → CountsOn (state_after_parsed compares c l) d xs groups
      → CountsOn c d (line_inputs l ++ xs) (prepend_line l groups)
  line_counts n c d l groups xs h k = search (arith, with_one_more)

  pub counts_on : (n : ℕ) (c : Compared S) (ls : List (List ℕ)) → (played compares n c ls).fault ≡ None
      → CountsOn c (played compares n c ls).state (inputs ls) (found_groups ls)
  counts_on n c [] h = (omega arith, omega arith)
  counts_on n c (line ∷ more) h =
      let e = sound_first compares n c line more h in
      let step = played_sound compares n c line more e in
      rw step
      (line_counts n c (played compares (n + 1) (state_after compares c line) more).state (parsed line) (found_groups more)
      (inputs more) (own_fault compares n c line e) (counts_on (n + 1) (state_after compares c line) more cc))

  -- The first difference.

  -- at the first line
  here_differs : (n : ℕ) (c : Compared S) (l : Option Line) (rest : List (List ℕ)) (xs : List Timed) (others : List ℕ)
      (line packet : ℕ) → parsed_line_fault compares n c l ≡ Some (Differs line packet)
      → Differing c.found (prepend_line l (found_groups rest)) (c.due ∷ sent_groups course c.session (line_inputs l ++ xs))
      (c.input ∷ others) line packet
  here_differs n c (Some (Input x)) rest xs others line packet h =
      let d = missing_differs c.due c.input c.found line packet h in
      differs_now c.found line packet c.input [] c.due ([] ∷ found_groups rest) _ (found_groups rest)
      (sent_groups course c.session (x ∷ xs)) others d.0 refl refl d.1 d.2
  here_differs n c (Some (Sent p)) rest xs others line packet h =
      let some = some_group rest in
      let d = packet_differs c.due p.0 some.0 c.input c.found line packet h in
      differs_now c.found line packet c.input (p.0 ∷ some.0) c.due (prepend_packet p.0 (found_groups rest)) _ some.1
      (sent_groups course c.session xs) others d.0 (ap (prepend_packet p.0) some.2) refl d.1 d.2
  here_differs n c l rest xs others line packet h = cc

  -- at a later one
  later_differs : (n : ℕ) (c : Compared S) (l : Option Line) (groups : Groups) (xs : List Timed) (others : List ℕ)
      (line packet : ℕ) → n ≡ c.lines + 1 → parsed_line_fault compares n c l ≡ None
      → Differing (state_after_parsed compares c l).found groups
      ((state_after_parsed compares c l).due ∷ sent_groups course (state_after_parsed compares c l).session xs)
      ((state_after_parsed compares c l).input ∷ others) line packet
      → Differing c.found (prepend_line l groups) (c.due ∷ sent_groups course c.session (line_inputs l ++ xs))
      (c.input ∷ line_numbers n l ++ others) line packet
  later_differs n c None groups xs others line packet at own d = cc
  later_differs n c (Some (Input x)) groups xs others line packet at own d = search (arith, after_input)
  later_differs n c (Some (Sent p)) groups xs others line packet at own d =
      let sent = sent_groups course c.session xs in
      subst
      (λ (due : List (List ℕ)). Differing c.found (prepend_packet p.0 groups) (due ∷ sent) (c.input ∷ others) line
      packet) (sym (none_differs c.due p.0 (difference c) own))
      (after_packet c.found line packet p.0 groups (after_first c.due ∷ sent) (c.input ∷ others) d)
  later_differs n c (Some l) groups xs others line packet at own d = d

  lines_after : (n : ℕ) (c : Compared S) (l : Option Line) → parsed_line_fault compares n c l ≡ None
      → (state_after_parsed compares c l).lines ≡ c.lines + 1
  lines_after n c l h = search arith

  differing : (n : ℕ) (c : Compared S) (ls : List (List ℕ)) (line packet : ℕ) → n ≡ c.lines + 1
      → fault_of compares (played compares n c ls) ≡ Some (Differs line packet)
      → Differing c.found (found_groups ls) (c.due ∷ sent_groups course c.session (inputs ls))
      (c.input ∷ input_lines n ls) line packet
  differing n c [] line packet at h =
      let d = missing_differs_last c.due c.input c.found line packet h in
      differs_now c.found line packet c.input [] c.due ([] ∷ []) (c.due ∷ []) [] [] [] d.0 refl refl d.1 d.2
  differing n c (line ∷ more) at_line packet at h =
      go (λ later faulty. differing (n + 1) (state_after compares c line) more at_line packet later faulty)
      (line_fault compares n c line) refl
    where
      go :
          (n + 1 ≡ (state_after compares c line).lines + 1
          → fault_of compares (played compares (n + 1) (state_after compares c line) more) ≡ Some (Differs at_line packet)
          → Differing (state_after compares c line).found (found_groups more)
          ((state_after compares c line).due ∷ sent_groups course (state_after compares c line).session (inputs more))
          ((state_after compares c line).input ∷ input_lines (n + 1) more) at_line packet)
          → (o : Option LogFault) → line_fault compares n c line ≡ o
          → Differing c.found (found_groups (line ∷ more)) (c.due ∷ sent_groups course c.session (inputs (line ∷ more)))
          (c.input ∷ input_lines n (line ∷ more)) at_line packet
      go rest (Some f) e =
          let is : Some f ≡ Some (Differs at_line packet) = sym (faulty_here compares n c line more f e) ∙ h in
          here_differs n c (parsed line) more (inputs more) (line_numbers n (parsed line) ++ input_lines (n + 1) more) at_line
          packet (own_difference compares n c line at_line packet (e ∙ is))
      go rest None e =
          let own = own_fault compares n c line e in
          later_differs n c (parsed line) (found_groups more) (inputs more) (input_lines (n + 1) more) at_line packet at
          own
          (rest (ap (λ (k : ℕ). k + 1) (at ∙ sym (lines_after n c (parsed line) own)))
          (sym (sound_here compares n c line more e) ∙ h))

  pub first_difference : (s : S) (ls : List (List ℕ)) (line packet : ℕ)
      → fault_of compares (played compares 1 (first_comparison s) ls) ≡ Some (Differs line packet)
      → IsFirstDifference (found_groups ls) ([] ∷ sent_groups course s (inputs ls)) (0 ∷ input_lines 1 ls) line packet
  first_difference s ls line packet h = let d = differing 1 (first_comparison s) ls line packet refl h in
      let is : packet ≡ d.at = search (arith, none_before) in rw is d.first
