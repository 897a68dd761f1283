-- The output of a call that plays a log, and what its result means.
use Rattle.std.specs.Prelude.{ℕ, ◌+◌, ◌^◌, nat_le, nat_lt, List, [], ◌∷◌, ◌++◌, length, Option, Some, None, is_some}
use Rattle.std.specs.Prelude.{is_none, if◌then◌else◌, ◌≡◌, ◌<◌, Bool, true, false, Result, Ok, Err, ◌≤◌, take, IfOk}
use Rattle.std.specs.Prelude.{OnOk, ◌⊎◌}
use Rattle.session_log.specs.declared.fault.LogFault.{LogFault}
use Rattle.session_log.specs.declared.line.Line.{Line}
use Rattle.session_log.specs.declared.fault.LogFault.TheVariants.{BadLine, TooLong, TooManyLines, Memory, Differs}
use Rattle.session_log.specs.declared.fault.LogFault.TheVariants.{Read, Write}
use Rattle.session_log.specs.Lines.{lines, whole_lines, last_piece, WritesAll, WriteFails}
use Rattle.session_log.specs.Grammar.{parsed}
use Rattle.session_log.specs.Semantics.{LineSemantics, InputSemantics, replay_semantics, quiet_semantics, live_semantics}
use Rattle.std.specs.Io.KnownBytes.{Appends, Consumes, Keeps}
use Rattle.authn_core.specs.Turn.{Start}
use Rattle.authn_core.specs.Views.{Needed, needs}
use Rattle.token_session.specs.Answered.{packets_sent_now}
use Rattle.token_session.specs.declared.input.Timed.{Timed}
use Rattle.token_session.specs.History.{sent_now, core, receive, received}
use Rattle.token_session.specs.Noise.{is_noise_at, is_noise_after}
use Rattle.token_session.specs.Meters.{SessionState, stepped, input_packets_of, meters_of}
use Rattle.token_session.specs.declared.input.Meters.{Meters}

-- ---- the output log, as a function of the input log

-- The text for a parsed line.
abbrev pub parsed_line_text : {S : Type 0} → LineSemantics S → S → List ℕ → Option Line → List ℕ
parsed_line_text semantics s line None = []
parsed_line_text semantics s line (Some l) = semantics.writes s line l

-- The text for a line.
abbrev pub line_text : {S : Type 0} → LineSemantics S → S → List ℕ → List ℕ
line_text semantics s line = parsed_line_text semantics s line (parsed line)

-- The state after a parsed line.
abbrev pub state_after_parsed : {S : Type 0} → LineSemantics S → S → Option Line → S
state_after_parsed semantics s None = s
state_after_parsed semantics s (Some l) = semantics.moves s l

-- The state after a line.
abbrev pub state_after : {S : Type 0} → LineSemantics S → S → List ℕ → S
state_after semantics s line = state_after_parsed semantics s (parsed line)

-- The error of line `n`, if any, from its parsed form: it is not a log line, or `semantics` rejects it.
abbrev pub parsed_line_fault : {S : Type 0} → LineSemantics S → ℕ → S → Option Line → Option LogFault
parsed_line_fault semantics n s None = Some (BadLine n)
parsed_line_fault semantics n s (Some l) = semantics.stops s l

-- The error of line `n`, if any. A log has at most 2^32-1 lines, and a line has at most 255 bytes.
abbrev pub line_fault : {S : Type 0} → LineSemantics S → ℕ → S → List ℕ → Option LogFault
line_fault semantics n s line =
    if nat_le (2 ^ 32) n then Some TooManyLines
    else if nat_lt 255 (length line) then Some (TooLong n)
    else parsed_line_fault semantics n s (parsed line)

-- The result of playing lines: the text for the lines before the first invalid line, the error of that line, if any,
-- and the state after the valid lines.
pub record Played (S : Type 0) : Type 0 where
  pub text : List ℕ
  pub fault : Option LogFault
  pub state : S

-- The result with a text inserted before its text.
abbrev pub with_text_before : {S : Type 0} → List ℕ → Played S → Played S
with_text_before text p = record { text = text ++ p.text; fault = p.fault; state = p.state }

-- The result of playing lines. `n` is the number of the first line.
abbrev pub played : {S : Type 0} → LineSemantics S → ℕ → S → List (List ℕ) → Played S
played semantics n s [] = record { text = []; fault = None; state = s }
played semantics n s (line ∷ more) =
    if is_some (line_fault semantics n s line) then record { text = []; fault = line_fault semantics n s line; state = s }
    else with_text_before (line_text semantics s line) (played semantics (n + 1) (state_after semantics s line) more)

-- The result of playing all lines of the bytes.
abbrev pub play_all : {S : Type 0} → LineSemantics S → S → List ℕ → Played S
play_all semantics s bytes = played semantics 1 s (lines bytes)

-- The text after the last line.
abbrev pub last_text : {S : Type 0} → LineSemantics S → S → List ℕ
last_text semantics s = if is_none (semantics.lacks s) then semantics.ending s else []

-- The whole output: the texts of the lines and, if no line is invalid, the text after the last line.
abbrev pub output_of : {S : Type 0} → LineSemantics S → Played S → List ℕ
output_of semantics p = p.text ++ (if is_none p.fault then last_text semantics p.state else [])

-- The first of two errors, if any: that of a line, or else that at the end of the log.
abbrev pub first_fault : (last line : Option LogFault) → Option LogFault
first_fault None line = line
first_fault (Some fault) None = Some fault
first_fault (Some fault) (Some first) = Some first

-- The first error of playing a log, if any.
abbrev pub fault_of : {S : Type 0} → LineSemantics S → Played S → Option LogFault
fault_of semantics p = first_fault (semantics.lacks p.state) p.fault

-- The output for a whole log.
abbrev pub log : {S : Type 0} → LineSemantics S → S → List ℕ → List ℕ
log semantics s bytes = output_of semantics (play_all semantics s bytes)

-- ---- the semantics of log lines; the state is a session's state, or the history of all inputs

-- The effect of inputs on a session's state.
abbrev pub session_semantics : InputSemantics SessionState
session_semantics = record { turned = λ s x. stepped s x; sends = λ s x. input_packets_of s x; counts = λ s. s.meters }

-- The effect of inputs on a history, which is the list of all inputs, newest first. The packets and the meters are
-- those that the history defines.
abbrev pub history_semantics : Start → InputSemantics (List Timed)
history_semantics start = record {
  turned = λ h x. x ∷ h;
  sends = λ h x. sent_now start h x;
  counts = λ h. meters_of start (received start h);
}

-- The semantics of `replay`; the state is a session's state.
abbrev pub machine : LineSemantics SessionState
machine = replay_semantics session_semantics

-- The semantics of `replay`; the state is the history.
abbrev pub history : Start → LineSemantics (List Timed)
history start = replay_semantics (history_semantics start)

-- Like `history_semantics`, but the packets are defined by the start and by the exchanges so far (each event and the
-- authenticator's answer to it), without an authenticator's state.
abbrev pub exchange_semantics : Start → InputSemantics (List Timed)
exchange_semantics start = record {
  turned = λ h x. x ∷ h;
  sends = λ h x. packets_sent_now start h x;
  counts = λ h. meters_of start (received start h);
}

-- Like `history`, with the packets of `exchange_semantics`.
abbrev pub replay_exchanges : Start → LineSemantics (List Timed)
replay_exchanges start = replay_semantics (exchange_semantics start)

-- The semantics of `quiet`; the state is a session's state.
abbrev pub quiet_machine : LineSemantics SessionState
quiet_machine = quiet_semantics session_semantics (λ s x. is_noise_at s.machine x)

-- The semantics of `quiet`; the state is the history.
abbrev pub quiet_history : Start → LineSemantics (List Timed)
quiet_history start = quiet_semantics (history_semantics start) (λ h x. is_noise_after start (receive start x (received start h))
    (received start h))

-- What the pending request of a session needs.
abbrev pub session_needs : SessionState → Needed
session_needs s = needs s.machine.core.state.work

-- What the pending request after a history needs.
abbrev pub history_needs : Start → List Timed → Needed
history_needs start h = needs (core start (received start h)).state.work

-- The semantics of `live`; the state is a session's state.
abbrev pub live_machine : LineSemantics SessionState
live_machine = live_semantics session_semantics session_needs

-- The semantics of `live`; the state is the history.
abbrev pub live_history : Start → LineSemantics (List Timed)
live_history start = live_semantics (history_semantics start) (history_needs start)

-- The text that was written to the target is a log with the same output from state `s`, unless it has 2^32 or more
-- lines.
abbrev pub RepeatsIn : LineSemantics SessionState → Option (List ℕ) → Option (List ℕ) → SessionState → Type 0
RepeatsIn semantics taken taken' s = (text : List ℕ) × Appends taken taken' text
    × (length (lines text) < 2 ^ 32 → log semantics s text ≡ text)

-- Like `RepeatsIn`, for a replay on a session's state.
abbrev pub Repeats : Option (List ℕ) → Option (List ℕ) → SessionState → Type 0
Repeats = RepeatsIn machine

-- ---- a condition on all packets that are written while lines are played

-- For a parsed line, the condition on the packets that are sent is true.
abbrev pub SendsPackets : {S : Type 0} → LineSemantics S → S → Option Line → Type 0
SendsPackets semantics s None = Unit {0}
SendsPackets semantics s (Some l) = semantics.sound s l

-- For each of these lines, the condition on the packets that are sent is true.
abbrev pub AllSend : {S : Type 0} → LineSemantics S → S → List (List ℕ) → Type 0
AllSend semantics s [] = Unit {0}
AllSend semantics s (line ∷ more) = SendsPackets semantics s (parsed line) × AllSend semantics (state_after semantics s line) more

-- Each of the meters is below 2^64.
pub record FitsMeters (m : Meters) : Type 0 where
  pub held : m.held < 2 ^ 64
  pub rows : m.rows < 2 ^ 64
  pub pending : m.pending < 2 ^ 64
  pub requests : m.requests < 2 ^ 64
  pub bytes : m.bytes < 2 ^ 64
  pub steps : m.steps < 2 ^ 64

-- ---- how playing a log ends

-- How playing a log ends: at the end of the log, at an invalid line, at a failed read in a line, or at a failed write.
pub data Ending : Type 0 where
  Done : Ending
  Refused : (fault : LogFault) → Ending
  Unread : (line : ℕ) → Ending
  Unwritten : Ending

-- The ending that this error causes.
abbrev pub ending_of_fault : LogFault → Ending
ending_of_fault (BadLine n) = Refused (BadLine n)
ending_of_fault (TooLong n) = Refused (TooLong n)
ending_of_fault (Differs line packet) = Refused (Differs line packet)
ending_of_fault TooManyLines = Refused TooManyLines
ending_of_fault (Memory n) = Refused (Memory n)
ending_of_fault (Read n) = Unread n
ending_of_fault Write = Unwritten

-- The ending of a call that plays a log, from its result.
abbrev pub ending_of : {A : Type 0} → Result A LogFault → Ending
ending_of (Ok x) = Done
ending_of (Err fault) = ending_of_fault fault

-- Whether playing ended because a read of the source failed.
abbrev pub read_fails : Ending → Bool
read_fails (Unread n) = true
read_fails _ = false

-- Whether playing ended because a write to the target failed.
abbrev pub write_fails : Ending → Bool
write_fails Unwritten = true
write_fails _ = false

-- ---- what each result of a call that plays a log means

-- No error occurred, and the output for the whole log was written.
pub record IsDone {S : Type 0} (semantics : LineSemantics S) (s t : S) (bytes text : List ℕ) : Type 0 where
  pub faultless : fault_of semantics (play_all semantics s bytes) ≡ None
  pub written : text ≡ log semantics s bytes
  pub stands : t ≡ (play_all semantics s bytes).state

-- No line is invalid, the texts for all lines were written, and for each line the condition on the packets that are
-- sent is true.
pub record IsPlayed {S : Type 0} (semantics : LineSemantics S) (s t : S) (bytes text : List ℕ) : Type 0 where
  pub sends : AllSend semantics s (lines bytes)
  pub faultless : (play_all semantics s bytes).fault ≡ None
  pub written : text ≡ (play_all semantics s bytes).text
  pub stands : t ≡ (play_all semantics s bytes).state

-- No line is invalid, and the texts for all lines were written. The packets that are sent may be any.
pub record AreWritten {S : Type 0} (semantics : LineSemantics S) (s t : S) (bytes text : List ℕ) : Type 0 where
  pub faultless : (play_all semantics s bytes).fault ≡ None
  pub written : text ≡ (play_all semantics s bytes).text
  pub stands : t ≡ (play_all semantics s bytes).state

-- This is the first error in the log, and the texts for the lines before it were written.
pub record IsRefused {S : Type 0} (semantics : LineSemantics S) (s t : S) (bytes text : List ℕ) (f : LogFault) : Type 0 where
  pub faulty : fault_of semantics (play_all semantics s bytes) ≡ Some f
  pub written : text ≡ (play_all semantics s bytes).text
  pub stands : t ≡ (play_all semantics s bytes).state

-- Reading failed in line `n`. All lines before it are valid, and their texts were written.
pub record IsUnread {S : Type 0} (semantics : LineSemantics S) (s t : S) (bytes text : List ℕ) (n : ℕ) : Type 0 where
  pub faultless : (played semantics 1 s (whole_lines bytes)).fault ≡ None
  pub written : text ≡ (played semantics 1 s (whole_lines bytes)).text
  pub stands : t ≡ (played semantics 1 s (whole_lines bytes)).state
  pub named : n ≡ length (whole_lines bytes) + 1
  pub short : length (last_piece bytes) < 256
  pub counted : 2 ^ 32 ≤ n → last_piece bytes ≡ []

-- The next text that is written: that for the next line, or the text after the last line.
abbrev pub next_text : {S : Type 0} → LineSemantics S → S → List (List ℕ) → List ℕ
next_text semantics s [] = last_text semantics s
next_text semantics s (line ∷ more) = line_text semantics s line

-- The state after the next line. After the last line, the state stays the same.
abbrev pub next_state : {S : Type 0} → LineSemantics S → S → List (List ℕ) → S
next_state semantics s [] = s
next_state semantics s (line ∷ more) = state_after semantics s line

-- The texts for the lines `first` were written, and writing the next text failed. The state is the one after the line
-- of that text.
pub record IsUnwritten {S : Type 0} (semantics : LineSemantics S) (s t : S) (bytes text : List ℕ) : Type 0 where
  pub first : List (List ℕ)
  pub others : List (List ℕ)
  pub front : List ℕ
  pub rest : List ℕ
  pub cut : lines bytes ≡ first ++ others
  pub faultless : (played semantics 1 s first).fault ≡ None
  pub written : text ≡ (played semantics 1 s first).text ++ front
  pub broken : next_text semantics (played semantics 1 s first).state others ≡ front ++ rest
  pub missing : 0 < length rest
  pub stands : t ≡ next_state semantics (played semantics 1 s first).state others
  pub beginning : (missing : List ℕ) × (log semantics s bytes ≡ text ++ missing)

-- The meaning of an ending after these bytes were read, this text was written, and the state changed from `s` to `t`.
-- At the end of the log, `AtEnd` holds.
abbrev pub EndingMeans : {S : Type 0} → LineSemantics S → S → S → List ℕ → List ℕ → Type 0 → Ending → Type 0
EndingMeans semantics s t bytes text AtEnd Done = AtEnd
EndingMeans semantics s t bytes text AtEnd (Refused fault) = IsRefused semantics s t bytes text fault
EndingMeans semantics s t bytes text AtEnd (Unread n) = IsUnread semantics s t bytes text n
EndingMeans semantics s t bytes text AtEnd Unwritten = IsUnwritten semantics s t bytes text

-- The meaning of an ending for a part of a log, without the text after the last line.
abbrev pub Plays : {S : Type 0} → LineSemantics S → S → S → List ℕ → List ℕ → Ending → Type 0
Plays semantics s t bytes text ending = EndingMeans semantics s t bytes text (IsPlayed semantics s t bytes text) ending

-- Like `Plays`, without the condition on the packets that are sent.
abbrev pub Writes : {S : Type 0} → LineSemantics S → S → S → List ℕ → List ℕ → Ending → Type 0
Writes semantics s t bytes text ending = EndingMeans semantics s t bytes text (AreWritten semantics s t bytes text) ending

-- The meaning of an ending for a whole log.
abbrev pub PlaysWholeLog : {S : Type 0} → LineSemantics S → S → S → List ℕ → List ℕ → Ending → Type 0
PlaysWholeLog semantics s t bytes text ending = EndingMeans semantics s t bytes text (IsDone semantics s t bytes text) ending

-- Like `PlaysWholeLog`. Also, without an error, the condition on the packets that are sent is true for each line.
abbrev pub PlaysWholeLogWithMeters : {S A : Type 0} → LineSemantics S → S → S → List ℕ → List ℕ → Result A LogFault → Type 0
PlaysWholeLogWithMeters semantics s t bytes text r = PlaysWholeLog semantics s t bytes text (ending_of r) × OnOk r (AllSend semantics s (lines bytes))

-- Like `PlaysWholeLog`. Also, without an error, the result contains the meters at the end of the log.
abbrev pub Logs : {S : Type 0} → LineSemantics S → S → S → List ℕ → List ℕ → Result Meters LogFault → Type 0
Logs semantics s t bytes text r = PlaysWholeLog semantics s t bytes text (ending_of r) × IfOk r (λ m. m ≡ semantics.counts t)

-- The meaning of an ending for one line: its text was written; or the line is invalid, and nothing was written; or
-- writing failed.
abbrev pub PlaysLine : {S F : Type 0} → LineSemantics S → (F → Option (List ℕ)) → (F → ℕ) → ℕ → S → S → List ℕ → (F × F)
    → Ending → Type 0
PlaysLine semantics taken failed n s t line target Done =
    (parsed_line_fault semantics n s (parsed line) ≡ None) × (t ≡ state_after semantics s line) × SendsPackets semantics s (parsed line)
    × WritesAll taken failed target (line_text semantics s line)
PlaysLine semantics taken failed n s t line target (Refused fault) =
    (parsed_line_fault semantics n s (parsed line) ≡ Some fault) × (t ≡ s) × Keeps (taken target.0) (taken target.1)
    × (failed target.1 ≡ failed target.0)
PlaysLine semantics taken failed n s t line target (Unread m) = ⊥
PlaysLine semantics taken failed n s t line target Unwritten =
    (parsed_line_fault semantics n s (parsed line) ≡ None) × (t ≡ state_after semantics s line)
    × WriteFails taken failed target (line_text semantics s line)

-- The meaning of an ending for the text after the last line: the text was written; or there is an error at the end of
-- the log, and nothing was written; or writing failed.
abbrev pub FinishesLog : {S F : Type 0} → LineSemantics S → (F → Option (List ℕ)) → (F → ℕ) → S → (F × F) → Ending → Type 0
FinishesLog semantics taken failed s target Done = (semantics.lacks s ≡ None) × WritesAll taken failed target (semantics.ending s)
FinishesLog semantics taken failed s target (Refused fault) =
    (semantics.lacks s ≡ Some fault) × Keeps (taken target.0) (taken target.1) × (failed target.1 ≡ failed target.0)
FinishesLog semantics taken failed s target (Unread n) = ⊥
FinishesLog semantics taken failed s target Unwritten = (semantics.lacks s ≡ None) × WriteFails taken failed target (semantics.ending s)

-- The errors that are possible for line `n` once its length and number were checked: an invalid line, a difference, or
-- a failed write.
abbrev pub IsLineFault : ℕ → LogFault → Type 0
IsLineFault n (BadLine m) = m ≡ n
IsLineFault n (TooLong m) = ⊥
IsLineFault n (Differs line packet) = Unit {0}
IsLineFault n (Read m) = ⊥
IsLineFault n Write = Unit {0}
IsLineFault n TooManyLines = ⊥
IsLineFault n (Memory m) = ⊥

-- The bytes consist of `n - 1` complete and valid lines, and at most 256 bytes after them.
pub record IsWithinLine {S : Type 0} (semantics : LineSemantics S) (s : S) (bytes : List ℕ) (n : ℕ) : Type 0 where
  pub before : List ℕ
  pub front : List ℕ
  pub cut : bytes ≡ before ++ front
  pub whole : last_piece before ≡ []
  pub faultless : (played semantics 1 s (whole_lines before)).fault ≡ None
  pub count : n ≡ length (whole_lines before) + 1
  pub near : length front ≤ 256

-- Line `n` was read completely, and this error is the first one in the lines up to `n`; or everything was read.
abbrev pub IsFaultOfLinesRead : {S : Type 0} → LineSemantics S → S → List ℕ → Type 0 → ℕ → LogFault → Type 0
IsFaultOfLinesRead semantics s bytes all n fault =
    ((n ≤ length (whole_lines bytes)) × ((played semantics 1 s (take n (whole_lines bytes))).fault ≡ Some fault)) ⊎ all

-- How many bytes were read to find this error. For an invalid line, the line was read completely, or everything was
-- read. For a line that is too long, exactly 256 bytes of it were read. For a difference, a line was read completely,
-- as for an invalid line, or everything was read.
abbrev pub ReadsUpToFault : {S : Type 0} → LineSemantics S → S → List ℕ → Type 0 → LogFault → Type 0
ReadsUpToFault semantics s bytes all (BadLine n) = IsWithinLine semantics s bytes n × IsFaultOfLinesRead semantics s bytes all n (BadLine n)
ReadsUpToFault semantics s bytes all (TooLong n) = IsWithinLine semantics s bytes n × (n ≡ length (whole_lines bytes) + 1)
    × (length (last_piece bytes) ≡ 256)
ReadsUpToFault semantics s bytes all (Differs line packet) =
    ((n : ℕ) × IsWithinLine semantics s bytes n × IsFaultOfLinesRead semantics s bytes all n (Differs line packet))
    ⊎ (((play_all semantics s bytes).fault ≡ None) × all)
ReadsUpToFault semantics s bytes all TooManyLines = IsWithinLine semantics s bytes (2 ^ 32)
ReadsUpToFault semantics s bytes all (Read n) = ⊥
ReadsUpToFault semantics s bytes all Write = ⊥
ReadsUpToFault semantics s bytes all (Memory n) = ⊥

-- How many bytes were read at this ending. Nothing is stated unless the ending is an error in the log.
abbrev pub ReadsUpToEnding : {S : Type 0} → LineSemantics S → S → List ℕ → Type 0 → Ending → Type 0
ReadsUpToEnding semantics s bytes all (Refused fault) = ReadsUpToFault semantics s bytes all fault
ReadsUpToEnding semantics s bytes all _ = Unit {0}

-- If the ending is an error in the log, the source was read as far as `ReadsUpToFault` states.
abbrev pub ReadsTo : {S : Type 0} → LineSemantics S → S → Option (List ℕ) → Option (List ℕ) → Type 0 → Ending → Type 0
ReadsTo semantics s left left' all (Refused fault) = (bytes : List ℕ) × Consumes left left' bytes
    × ReadsUpToFault semantics s bytes all fault
ReadsTo semantics s left left' all _ = Unit {0}

-- The errors that are possible at the end of a log: a missing packet, or a failed write of the text after the last
-- line.
abbrev pub IsEndFault : LogFault → Type 0
IsEndFault (Differs line packet) = Unit {0}
IsEndFault Write = Unit {0}
IsEndFault _ = ⊥
