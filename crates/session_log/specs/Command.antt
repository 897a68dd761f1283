-- The results of the program's commands.
use Rattle.std.specs.Prelude.{ℕ, Bool, List, [], Option, OnOk, Result, Ok, Err, replicate}
use Rattle.authn_core.specs.Turn.{Start}
use Rattle.cred_table.specs.declared.row.Row.{Row}
use Rattle.token_session.specs.declared.input.{Meters.Meters, Timed.Timed}
use Rattle.token_session.specs.Meters.{SessionState, IsStateAfter}
use Rattle.session_log.specs.declared.{command.ReplayMode.ReplayMode, fault.LogFault.LogFault}
use Rattle.session_log.specs.declared.command.ReplayMode.TheVariants.{Check, Live, Quiet, Replay}
use Rattle.session_log.specs.{Check.first_comparison, Check.check_history, Semantics.LineSemantics, Replay.PlaysWholeLog, Replay.ReadsTo}
use Rattle.session_log.specs.Replay.{ending_of, read_fails, write_fails}
use Rattle.session_log.specs.Replay.{history, live_history, quiet_history}
use Rattle.session_log.specs.Lines.{Counts, IsAtEndOfInput, ReadsAndWrites}

-- The start of the program's session: an AAGUID of sixteen zero bytes, time 0, capacity for 64 credentials, and no
-- credentials.
abbrev pub program_start : Start
program_start = record { aaguid = replicate 16 0; moment = 0; capacity = 64; rows = [] }

-- The start of the program's session with these credentials.
abbrev pub start_with : List Row → Start
start_with rows = record program_start { rows = rows }

-- The exit status of the program: Ok for status 0, or Err with another status.
abbrev pub Status : Type 0
Status = Result (Unit {0}) ℕ

-- The exit status for a result: 1 for any error.
abbrev pub status_of : {A : Type 0} → Result A LogFault → Status
status_of (Ok x) = Ok tt
status_of (Err fault) = Err 1

-- The result of playing a log, without the meters.
abbrev pub without_meters : Result Meters LogFault → Result (Unit {0}) LogFault
without_meters (Ok meters) = Ok tt
without_meters (Err fault) = Err fault

-- If the error is a failed read, the source's count of failures increases by one; if it is a failed write, the target's
-- count does. Otherwise the counts stay the same. Without an error, the source is at its end. Each pair is a source or
-- a target, before and after the call.
abbrev pub IsCounted : {A I O : Type 0} → (left : I → Option (List ℕ)) → (unread : I → ℕ) → (ended : I → Bool)
    → (unwritten : O → ℕ) → Result A LogFault → (I × I) → (O × O) → Type 0
IsCounted left unread ended unwritten answer input output =
    Counts unread input (read_fails (ending_of answer))
    × Counts unwritten output (write_fails (ending_of answer))
    × OnOk answer (IsAtEndOfInput left ended input.1)

-- Playing a log from state `s`: `Says` holds for the bytes that were read and the text that was written. The result
-- doesn't depend on the bytes after an invalid line.
abbrev pub PlaysThrough : {S A I O : Type 0} → LineSemantics S → S → (List ℕ → List ℕ → Type 0)
    → (left : I → Option (List ℕ)) → (unread : I → ℕ) → (ended : I → Bool) → (taken : O → Option (List ℕ))
    → (unwritten : O → ℕ) → Result A LogFault → (I × I) → (O × O) → Type 0
PlaysThrough semantics s Says left unread ended taken unwritten answer input output =
    ReadsAndWrites (left input.0) (left input.1) (taken output.0) (taken output.1) Says
    × ReadsTo semantics s (left input.0) (left input.1) (IsAtEndOfInput left ended input.1) (ending_of answer)
    × IsCounted left unread ended unwritten answer input output

-- Playing a log from state `x`, with a start and the history in `x`, leads to the session state `s`. The text is the
-- one that `semantics` defines for the log.
abbrev pub PlaysIn : {S A I O : Type 0} → LineSemantics S → (S → List Timed) → S → Start
    → (left : I → Option (List ℕ)) → (unread : I → ℕ) → (ended : I → Bool) → (taken : O → Option (List ℕ))
    → (unwritten : O → ℕ)
    → Result A LogFault → SessionState → (I × I) → (O × O) → Type 0
PlaysIn {S} semantics history_in x start left unread ended taken unwritten answer s input output =
    (later : S) × IsStateAfter s start (history_in later)
    × ReadsAndWrites (left input.0) (left input.1) (taken output.0) (taken output.1)
    (λ bytes text. PlaysWholeLog semantics x later bytes text (ending_of answer))
    × ReadsTo semantics x (left input.0) (left input.1) (IsAtEndOfInput left ended input.1) (ending_of answer)
    × IsCounted left unread ended unwritten answer input output

-- Playing a log with a command (replay, live, check or quiet) on a session with this start and this history leads to
-- the session state `s`.
abbrev pub PlaysLog : {A I O : Type 0} → ReplayMode → Start → List Timed
    → (left : I → Option (List ℕ)) → (unread : I → ℕ) → (ended : I → Bool) → (taken : O → Option (List ℕ))
    → (unwritten : O → ℕ)
    → Result A LogFault → SessionState → (I × I) → (O × O) → Type 0
PlaysLog Replay start h left unread ended taken unwritten answer s input output =
    PlaysIn (history start) (λ later. later) h start left unread ended taken unwritten answer s input output
PlaysLog Live start h left unread ended taken unwritten answer s input output =
    PlaysIn (live_history start) (λ later. later) h start left unread ended taken unwritten answer s input output
PlaysLog Check start h left unread ended taken unwritten answer s input output =
    PlaysIn (check_history start) (λ later. later.session) (first_comparison h) start left unread ended taken unwritten answer s
    input output
PlaysLog Quiet start h left unread ended taken unwritten answer s input output =
    PlaysIn (quiet_history start) (λ later. later) h start left unread ended taken unwritten answer s input output
