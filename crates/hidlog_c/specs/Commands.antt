-- The result of a command on a log.
use Rattle.std.specs.Prelude.{ℕ, Result, Ok, Err, ◌≡◌, ◌≢◌, ◌⊎◌, ◌≤◌, true, false, List, [], ◌++◌, length, take, OnOk}
use Rattle.std.specs.Prelude.{Bool, ℤ, pos, ◌∷◌, Option, Some, None}
use Rattle.cred_table.specs.declared.fault.SnapshotFault.{SnapshotFault}
use Rattle.cred_table.specs.Snapshots.{refusal_number, Refuses}
use Rattle.session_log.specs.declared.fault.LogFault.{LogFault}
use Rattle.session_log.specs.declared.fault.LogFault.TheVariants.{Memory, BadLine, TooLong, Differs, Read, Write}
use Rattle.session_log.specs.declared.fault.LogFault.TheVariants.{TooManyLines}
use Rattle.session_log.specs.Grammar.{fault_number}
use Rattle.hidlog_c.specs.declared.outcome.CResult.{CResult}
use Rattle.cred_table.specs.declared.row.Row.{Row}
use Rattle.session_log.specs.declared.command.ReplayMode.{ReplayMode}
use Rattle.session_log.specs.declared.command.ReplayMode.TheVariants.{Check, Live, Quiet, Replay}
use Rattle.session_log.specs.Check.{first_comparison, check_history}
use Rattle.session_log.specs.Semantics.{LineSemantics}
use Rattle.session_log.specs.Replay.{ReadsUpToEnding, PlaysWholeLog, Ending, ending_of, read_fails, write_fails}
use Rattle.session_log.specs.Replay.{history, live_history, quiet_history, Plays, Writes, live_machine}
use Rattle.hidlog_c.specs.declared.capacity.TheConstants.{CAPACITY}
use Rattle.hidlog_c.specs.Key.{start_with, DeviceState, no_causes}
use Rattle.hidlog_c.specs.Begin.{IsSnapshotOrEmpty}
use Rattle.session_show.specs.Shown.{IsLineText, IsTextUpTo, read_only_semantics}
use Rattle.session_show.specs.declared.detail.Detail.{Detail}
use Rattle.session_show.specs.declared.detail.Detail.TheVariants.{Explained, Fixed}
use Rattle.authn_core.specs.Turn.{Start}
use Rattle.token_session.specs.declared.input.Timed.{Timed}
use Rattle.token_session.specs.Meters.{SessionState, IsStateAfter}
use Rattle.hidlog_c.specs.declared.fault.TheConstants.{ERR_NOT_INITIALIZED, ERR_PACKETS_QUEUED}

-- ---- the result of a command as numbers

-- The number of the line that an error concerns, or 0.
abbrev pub line_of : LogFault → ℕ
line_of (BadLine n) = n
line_of (TooLong n) = n
line_of (Differs line packet) = line
line_of (Read n) = n
line_of Write = 0
line_of TooManyLines = 0
line_of (Memory n) = n

-- The number of the first packet that differs, or 0 for other errors.
abbrev pub packet_of : LogFault → ℕ
packet_of (Differs line packet) = packet
packet_of _ = 0

-- Converts the result of a command that wrote this many bytes to a C struct.
abbrev pub to_c_result : {A : Type 0} → Result A LogFault → ℕ → CResult
to_c_result (Ok x) written = record { status = 0; fault = 0; line = 0; packet = 0; written = written }
to_c_result (Err f) written = record {
  status = 1;
  fault = fault_number f;
  line = line_of f;
  packet = packet_of f;
  written = written;
}

-- The C struct for a rejected snapshot: nothing was written.
abbrev pub refused : SnapshotFault → CResult
refused f = record { status = 2; fault = refusal_number f; line = 0; packet = 0; written = 0 }

-- ---- the result of a command: how many bytes of the log were read, the output in the buffer, and the status

-- Playing the log from state `x` ends with `ending`: it reads `bytes`, leaves `rest` unread, and writes `text`. The
-- bytes after an invalid line have no effect on the result.
abbrev pub PlaysSliceIn : {S : Type 0} → LineSemantics S → S → (bytes rest text : List ℕ) → Ending → Type 0
PlaysSliceIn {S} semantics x bytes rest text ending = (later : S) × PlaysWholeLog semantics x later bytes text ending
    × ReadsUpToEnding semantics x bytes (rest ≡ []) ending

-- Like `PlaysSliceIn`, for a command (replay, live, check or quiet) on a new session with these credentials.
abbrev pub PlaysSlice : ReplayMode → List Row → (bytes rest text : List ℕ) → Ending → Type 0
PlaysSlice Replay rows bytes rest text ending = PlaysSliceIn (history (start_with rows)) [] bytes rest text ending
PlaysSlice Live rows bytes rest text ending = PlaysSliceIn (live_history (start_with rows)) [] bytes rest text ending
PlaysSlice Check rows bytes rest text ending =
    PlaysSliceIn (check_history (start_with rows)) (first_comparison []) bytes rest text ending
PlaysSlice Quiet rows bytes rest text ending = PlaysSliceIn (quiet_history (start_with rows)) [] bytes rest text ending

-- The command read `bytes`, the beginning of `log`, and wrote the first `written` bytes of `out`. Without an error the
-- whole log was read. No read failed. After a failed write the buffer is full. `P` holds for the bytes that were read,
-- the unread rest, the text and the ending.
pub record IsWritten (log out : List ℕ) (written : ℕ) (answer : Result (Unit {0}) LogFault)
    (P : List ℕ → List ℕ → List ℕ → Ending → Type 0) : Type 0 where
  pub bytes : List ℕ
  pub rest : List ℕ
  pub log_is : log ≡ bytes ++ rest
  pub all : OnOk answer (rest ≡ [])
  pub readable : read_fails (ending_of answer) ≡ false
  pub fits : written ≤ length out
  pub full : write_fails (ending_of answer) ≡ true → written ≡ length out
  pub does : P bytes rest (take written out) (ending_of answer)

-- Either the command played the log with the credentials of the snapshot, and `outcome` is the corresponding C result;
-- or the snapshot was rejected, and the buffer is not changed. A pair is the buffer before and after the call.
abbrev pub RunsCommand : ReplayMode → (log snapshot : List ℕ) → (List ℕ × List ℕ) → CResult → Type 0
RunsCommand command log snapshot out outcome =
    ((rows : List Row) × (answer : Result (Unit {0}) LogFault) × IsSnapshotOrEmpty snapshot rows
    × (outcome ≡ to_c_result answer outcome.written)
    × IsWritten log out.1 outcome.written answer (PlaysSlice command rows))
    ⊎ ((fault : SnapshotFault) × (snapshot ≢ []) × Refuses CAPACITY snapshot fault × (outcome ≡ refused fault)
    × (out.1 ≡ out.0))

-- ---- the result of writing a readable form of a log

-- The level of detail of the readable form.
abbrev pub detail_for : (explained : Bool) → Detail
detail_for true = Explained
detail_for false = Fixed

-- Showing the log ends with `ending`: it reads `bytes`, leaves `rest` unread, and writes `text`. If a line is invalid,
-- the text shows the lines before it, and the bytes after it have no effect on the result.
abbrev pub Shows : Detail → (bytes rest text : List ℕ) → Ending → Type 0
Shows detail bytes rest text ending =
    ((lines : List ℕ) × Plays read_only_semantics tt tt bytes lines ending × IsTextUpTo (IsLineText detail) lines text ending)
    × ReadsUpToEnding read_only_semantics tt bytes (rest ≡ []) ending

-- The log was shown, and `outcome` is the corresponding C result.
abbrev pub IsShown : Detail → (log out : List ℕ) → CResult → Type 0
IsShown detail log out outcome = (answer : Result (Unit {0}) LogFault) × (outcome ≡ to_c_result answer outcome.written)
    × IsWritten log out outcome.written answer (Shows detail)

-- ---- log lines that are played on a key's session

-- Playing the lines as `session_log::live` does takes the session from state `s` to `t`, ending with `ending`: it reads
-- `bytes`, leaves `rest` unread, and writes `text`.
abbrev pub PlaysLines : SessionState → SessionState → (bytes rest text : List ℕ) → Ending → Type 0
PlaysLines s t bytes rest text ending = Plays live_machine s t bytes text ending
    × ReadsUpToEnding live_machine s bytes (rest ≡ []) ending

-- Like `PlaysLines`, on a history `h`, which the inputs in the lines extend to `later`.
abbrev pub PlaysLinesOnHistory : Start → List Timed → List Timed → (bytes rest text : List ℕ) → Ending → Type 0
PlaysLinesOnHistory start h later bytes rest text ending = Writes (live_history start) h later bytes text ending
    × ReadsUpToEnding (live_history start) h bytes (rest ≡ []) ending

-- For each history that leads to state `s`, the inputs in the lines extend it to a history that leads to state `t`, and
-- the written text is the one that the definitions in specs/ give for that history.
abbrev pub FollowsLines : SessionState → SessionState → (log out : List ℕ) → (written : ℕ) → Result (Unit {0}) LogFault
    → Type 0
FollowsLines s t log out written answer = (start : Start) (h : List Timed) → IsStateAfter s start h
    → (later : List Timed) × IsStateAfter t start later × IsWritten log out written answer (PlaysLinesOnHistory start h later)

-- The lines were played, and `outcome` is the corresponding C result.
abbrev pub ArePlayed : SessionState → SessionState → (log out : List ℕ) → CResult → Type 0
ArePlayed s t log out outcome = (answer : Result (Unit {0}) LogFault) × (outcome ≡ to_c_result answer outcome.written)
    × IsWritten log out outcome.written answer (PlaysLines s t) × FollowsLines s t log out outcome.written answer

-- The device with another session, without queued packets and causes.
abbrev pub with_session : DeviceState → SessionState → DeviceState
with_session d t = record { aaguid = d.aaguid; session = t; waiting = []; causes = no_causes }

-- The result of playing lines on a key: the lines are played if no packet is queued; otherwise nothing changes. A pair
-- is the caller's memory before and after the call.
abbrev pub PlaysOn : DeviceState → List (List ℕ) → Option DeviceState → (log : List ℕ) → (List ℕ × List ℕ)
    → (CResult × CResult) → ℤ → Type 0
PlaysOn d [] after log out outcome result = (t : SessionState) × (after ≡ Some (with_session d t))
    × ArePlayed d.session t log out.1 outcome.1 × (result ≡ pos outcome.1.status)
PlaysOn d (packet ∷ more) after log out outcome result =
    (after ≡ Some d) × (out.1 ≡ out.0) × (outcome.1 ≡ outcome.0) × (result ≡ ERR_PACKETS_QUEUED)

-- The effect of playing lines on a key, and the call's return value.
abbrev pub ReplaysLines : (before after : Option DeviceState) → (log : List ℕ) → (List ℕ × List ℕ) →
    (CResult × CResult)
    → ℤ → Type 0
ReplaysLines None after log out outcome result =
    (after ≡ None) × (out.1 ≡ out.0) × (outcome.1 ≡ outcome.0) × (result ≡ ERR_NOT_INITIALIZED)
ReplaysLines (Some d) after log out outcome result = PlaysOn d d.waiting after log out outcome result
