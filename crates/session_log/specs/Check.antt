-- Comparing the packets in a log with those that the session sends.
use Rattle.std.specs.Prelude.{ℕ, List, [], ◌∷◌, ◌++◌, Option, Some, None, ◌≡◌, ◌≢◌, ◌+◌, length, ◌==◌, if◌then◌else◌}
use Rattle.token_session.specs.declared.input.Timed.{Timed}
use Rattle.session_log.specs.declared.line.Line.{Line}
use Rattle.session_log.specs.Grammar.{parsed}
use Rattle.session_log.specs.declared.line.Line.TheVariants.{Input, Sent, Comment, Count}
use Rattle.session_log.specs.Semantics.{InputSemantics, same_line, LineSemantics}
use Rattle.std.specs.Cmp.Lexicographic.{pointwise}
use Rattle.authn_core.specs.Turn.{Start}
use Rattle.hid_packet.specs.declared.packet.Packet.{Packet}
use Rattle.token_session.specs.Meters.{SessionState}
use Rattle.session_log.specs.declared.fault.LogFault.{LogFault}
use Rattle.session_log.specs.declared.fault.LogFault.TheVariants.{Differs}
use Rattle.session_log.specs.Replay.{session_semantics, history_semantics}

-- ---- the inputs in a log

-- The input of a parsed line, if the line is an input.
abbrev pub line_inputs : Option Line → List Timed
line_inputs None = []
line_inputs (Some Count) = []
line_inputs (Some (Sent packet)) = []
line_inputs (Some Comment) = []
line_inputs (Some (Input timed)) = timed ∷ []

-- The inputs in these lines, in order.
abbrev pub inputs : List (List ℕ) → List Timed
inputs [] = []
inputs (line ∷ more) = line_inputs (parsed line) ++ inputs more

-- The packets in a log, and those that the session sends for the inputs in the log. Both are in groups: the packets
-- before the first input, and then the packets of each input.

-- Lists of packets, one for each group, in order.
abbrev pub Groups : Type 0
Groups = List (List (List ℕ))

-- The groups after a packet was added at the beginning of the first group.
abbrev pub prepend_packet : List ℕ → Groups → Groups
prepend_packet packet [] = (packet ∷ []) ∷ []
prepend_packet packet (group ∷ more) = (packet ∷ group) ∷ more

-- The groups of a log that has one more line at its beginning.
abbrev pub prepend_line : Option Line → Groups → Groups
prepend_line None groups = groups
prepend_line (Some (Input timed)) groups = [] ∷ groups
prepend_line (Some (Sent packet)) groups = prepend_packet packet.0 groups
prepend_line (Some Comment) groups = groups
prepend_line (Some Count) groups = groups

-- The groups of packets in a log.
abbrev pub found_groups : List (List ℕ) → Groups
found_groups [] = [] ∷ []
found_groups (line ∷ more) = prepend_line (parsed line) (found_groups more)

-- The groups of packets that the session sends for the inputs.
abbrev pub sent_groups : {S : Type 0} → InputSemantics S → S → List Timed → Groups
sent_groups course s [] = []
sent_groups course s (x ∷ xs) = course.sends s x ∷ sent_groups course (course.turned s x) xs

-- The number of the line in a list if the line is an input, or else the empty list.
abbrev pub line_numbers : ℕ → Option Line → List ℕ
line_numbers n None = []
line_numbers n (Some (Input timed)) = n ∷ []
line_numbers n (Some (Sent packet)) = []
line_numbers n (Some Comment) = []
line_numbers n (Some Count) = []

-- The line numbers of all inputs. `n` is the number of the first line.
abbrev pub input_lines : ℕ → List (List ℕ) → List ℕ
input_lines n [] = []
input_lines n (line ∷ more) = line_numbers n (parsed line) ++ input_lines (n + 1) more

-- The two lists differ in their first packets: the packets are not equal, or one list is empty and the other is not.
abbrev pub DifferFirst : (found sent : List (List ℕ)) → Type 0
DifferFirst [] [] = ⊥
DifferFirst (p ∷ ps) [] = Unit {0}
DifferFirst [] (q ∷ qs) = Unit {0}
DifferFirst (p ∷ ps) (q ∷ qs) = p ≢ q

-- The first difference between the packets found in a log and the packets that the session sends, both in groups.
-- `numbers` are the line numbers of the groups. All groups before that of `line` are equal, and in this group packet
-- number `packet`, counted from 1, is the first that differs, is missing or is one too many.
pub record IsFirstDifference (found sent : Groups) (numbers : List ℕ) (line packet : ℕ) : Type 0 where
  pub before : Groups
  pub common : List (List ℕ)
  pub rest : List (List ℕ)
  pub due : List (List ℕ)
  pub later : Groups
  pub further : Groups
  pub earlier : List ℕ
  pub others : List ℕ
  pub found_are : found ≡ before ++ (common ++ rest) ∷ later
  pub sent_are : sent ≡ before ++ (common ++ due) ∷ further
  pub lines_are : numbers ≡ earlier ++ line ∷ others
  pub level : length earlier ≡ length before
  pub differ : DifferFirst rest due
  pub count : packet ≡ length common + 1

-- ---- the comparison, line by line. In a log, the packets sent for an input follow the line of the input

-- The state of a comparison after some lines: the session's state, the number of lines, the line number of the last
-- input (0 before the first input), how many of its packets were found in the log, its remaining packets, and the total
-- numbers of inputs and of equal packets.
pub record Compared (S : Type 0) : Type 0 where
  pub session : S
  pub lines : ℕ
  pub input : ℕ
  pub found : ℕ
  pub due : List (List ℕ)
  pub inputs : ℕ
  pub packets : ℕ

-- A state of a comparison with these fields.
abbrev pub log_comparison : {S : Type 0} → S → (lines input found : ℕ) → (due : List (List ℕ)) → (inputs packets : ℕ)
    → Compared S
log_comparison s lines input found due inputs packets =
    record { session = s; lines = lines; input = input; found = found; due = due; inputs = inputs; packets = packets }

-- The state of a comparison before the first line.
abbrev pub first_comparison : {S : Type 0} → S → Compared S
first_comparison s = log_comparison s 0 0 0 [] 0 0

-- The error for the next packet of the last input: it differs, is missing, or is one too many.
abbrev pub difference : {S : Type 0} → Compared S → LogFault
difference c = Differs c.input (c.found + 1)

-- The error, if at least one expected packet remains.
abbrev pub missing_of : List (List ℕ) → LogFault → Option LogFault
missing_of [] fault = None
missing_of (p ∷ due) fault = Some fault

-- The error for a missing packet, if at least one expected packet remains.
abbrev pub missing : {S : Type 0} → Compared S → Option LogFault
missing c = missing_of c.due (difference c)

-- The error, unless the packet equals the next expected packet.
abbrev pub differs_from : List (List ℕ) → List ℕ → LogFault → Option LogFault
differs_from [] packet fault = Some fault
differs_from (p ∷ due) packet fault = if pointwise ◌==◌ p packet then None else Some fault

-- The error of a line, if any: a packet that differs, or an input before which a packet is missing.
abbrev pub comparison_fault : {S : Type 0} → Compared S → Line → Option LogFault
comparison_fault c (Input timed) = missing c
comparison_fault c (Sent packet) = differs_from c.due packet.0 (difference c)
comparison_fault c Comment = None
comparison_fault c Count = None

-- The packets after the first one.
abbrev pub after_first : List (List ℕ) → List (List ℕ)
after_first [] = []
after_first (p ∷ due) = due

-- The state of a comparison after a line.
abbrev pub comparison_after : {S : Type 0} → InputSemantics S → Compared S → Line → Compared S
comparison_after course c (Input timed) = record {
  session = course.turned c.session timed;
  lines = c.lines + 1;
  input = c.lines + 1;
  found = 0;
  due = course.sends c.session timed;
  inputs = c.inputs + 1;
  packets = c.packets;
}
comparison_after course c (Sent packet) = record {
  session = c.session;
  lines = c.lines + 1;
  input = c.input;
  found = c.found + 1;
  due = after_first c.due;
  inputs = c.inputs;
  packets = c.packets + 1;
}
comparison_after course c Comment = record c { lines = c.lines + 1 }
comparison_after course c Count = record c { lines = c.lines + 1 }

-- The semantics of `check`. Nothing is written before the end of the log.
abbrev pub check_semantics : {S : Type 0} → InputSemantics S → LineSemantics (Compared S)
check_semantics course = record {
  stops = comparison_fault;
  moves = comparison_after course;
  sound = λ c l. Unit {0};
  writes = λ c line l. [];
  lacks = missing;
  ending = λ c. same_line c.inputs c.packets;
  counts = λ c. course.counts c.session;
}

-- The semantics of `check`; the state is a session's state.
abbrev pub check_machine : LineSemantics (Compared SessionState)
check_machine = check_semantics session_semantics

-- The semantics of `check`; the state is the history.
abbrev pub check_history : Start → LineSemantics (Compared (List Timed))
check_history start = check_semantics (history_semantics start)

-- The expected packets that remain: the next one, if any, and those after it.
abbrev pub due_packets : Option Packet → List (List ℕ) → List (List ℕ)
due_packets None rest = []
due_packets (Some packet) rest = packet.0 ∷ rest
