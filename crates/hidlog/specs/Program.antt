-- The environment of the program, the message for each error, and the output.
use Rattle.std.specs.Prelude.{◌<◌, ◌-◌, ◌^◌, ℕ, Bool, List, Option, None, ◌≡◌, ◌+◌, true, ◌++◌, length, take, drop}
use Rattle.std.specs.Prelude.{Some, ◌⊎◌, false, [], ◌∷◌, Result, Err, codes, Ok}
use Rattle.hidlog.specs.declared.host.Host.{Host}
use Rattle.hidlog.specs.declared.caller_streams.CallerStream.{CallerStream}
use Rattle.hidlog.specs.declared.caller_streams.CallerStream.TheVariants.{Source, Named as NamedFile}
use Rattle.hidlog.specs.declared.logs.Stream.{Stream}
use Rattle.hidlog.specs.declared.logs.Stream.TheVariants.{Standard, Named}
use Rattle.std.specs.Bool.{MatchBool}
use Rattle.std.specs.Io.KnownBytes.{Keeps}
use Rattle.clap.specs.declared.error.kind.ErrorKind.{ErrorKind}
use Rattle.clap.specs.declared.error.kind.ErrorKind.TheVariants.{DisplayHelp, DisplayVersion}
use Rattle.cred_table.specs.declared.fault.SnapshotFault.{SnapshotFault}
use Rattle.cred_table.specs.declared.fault.SnapshotFault.TheVariants.{NotSnapshot, TooMany, RowBroken, Memory}
use Rattle.session_log.specs.Lines.{IsAtEndOfInput, WritesAll, WriteFails}
use Rattle.session_log.specs.declared.fault.LogFault.{LogFault}
use Rattle.session_log.specs.declared.fault.LogFault.TheVariants.{Write}
use Rattle.session_log.specs.Command.{Status}
use Rattle.hidlog.specs.declared.fault.ProgramFault.{ProgramFault}
use Rattle.hidlog.specs.declared.fault.ProgramFault.TheVariants.{Memory as OutOfMemory, Log, LogOpenError}
use Rattle.hidlog.specs.declared.fault.ProgramFault.TheVariants.{SnapshotReadError, RefusedSnapshot}
use Rattle.hidlog.specs.declared.fault.ProgramFault.TheVariants.{SnapshotWriteError}

-- ---- the program's environment: its files, its log, its output and its error output

-- The ghost functions of `Files` (src/files.rt), of `Logs` (src/logs.rt) over `Source`, of `Output`
-- (src/buffered_output.rt) over `Target`, and of a `Target` for error messages.
pub record Model (D I O F : Type 0) : Type 1 where
  pub holds : D → List ℕ → List ℕ → Type 0
  pub unreadable : D → List ℕ → Type 0
  pub written : D → List ℕ → List ℕ → D → Type 0
  pub unwritten : D → List ℕ → List ℕ → D → Type 0
  pub unwritable : D → List ℕ → Type 0
  pub opened : I → List ℕ → I → Type 0
  pub unopenable : I → List ℕ → Type 0
  pub left : I → Option (List ℕ)
  pub unread : I → ℕ
  pub ended : I → Bool
  pub taken : O → Option (List ℕ)
  pub unput : O → ℕ
  pub waits : O → List ℕ
  pub parsed : F → Option (List ℕ)
  pub unsaid : F → ℕ

-- The count of failures of each part can still increase by one.
abbrev pub CanFail : {D I O F : Type 0} → Model D I O F → Host D I O F → Type 0
CanFail model host = (model.unread host.input < 2 ^ 64 - 1) × (model.unput host.output < 2 ^ 64 - 1)
    × (model.unsaid host.faults < 2 ^ 64 - 1)

-- ---- the unread bytes of a stream, which is standard input or a file

-- The unread bytes of the stream, if known.
abbrev pub stream_left : {I F : Type 0} → (I → Option (List ℕ)) → (F → Option (List ℕ)) → Stream I F → Option (List ℕ)
stream_left input file (Standard s) = input s
stream_left input file (Named s) = file s

-- The unread bytes of a caller's stream, if known. Those of a file aren't known.
abbrev pub caller_left : {S : Type 0} → (S → Option (List ℕ)) → CallerStream S → Option (List ℕ)
caller_left left (Source s) = left s
caller_left left (NamedFile f) = None

-- ---- the unread bytes of the program's input, and the contents of the files that it writes

-- The bytes from index `at` up to index `end`.
abbrev pub unread : List ℕ → ℕ → ℕ → List ℕ
unread held at end = drop at (take end held)

-- The bytes of a file after a piece was written at offset `at`.
abbrev pub overwritten_at : List ℕ → ℕ → List ℕ → List ℕ
overwritten_at has at piece = take at has ++ (piece ++ drop (at + length piece) has)

-- The file at the path has exactly these bytes, if the contents of files are known.
abbrev pub IsWritten : {F : Type 0} → (is_at : List ℕ → F → Type 0) → (is_known : Bool) → (has : F → Option (List ℕ))
    → (path bytes : List ℕ) → F → Type 0
IsWritten is_at is_known has path bytes file = is_at path file × (is_known ≡ true → has file ≡ Some bytes)

-- ---- the program's results and output. A pair is a source or a target before and after the call

-- The text, or only the beginning of it after a failed write, was written to a target.
abbrev pub IsWrittenTo : {F : Type 0} → (F → Option (List ℕ)) → (F → ℕ) → (F × F) → List ℕ → Type 0
IsWrittenTo taken failed target text = WritesAll taken failed target text ⊎ WriteFails taken failed target text

-- A text was written to a target. If all of it was written, an explanation may follow.
abbrev pub IsExplained : {F : Type 0} → (F → Option (List ℕ)) → (F → ℕ) → (F × F) → List ℕ → Type 0
IsExplained {F} taken failed target text = WriteFails taken failed target text
    ⊎ ((told : F) × WritesAll taken failed (target.0, told) text
    × ((target.1 ≡ told) ⊎ ((more : List ℕ) × IsWrittenTo taken failed (told, target.1) more)))

-- The message of an error was written to a target. If errors are explained, an explanation may follow.
abbrev pub IsReported : {F : Type 0} → (explained : Bool) → (F → Option (List ℕ)) → (F → ℕ) → (F × F) → List ℕ → Type 0
IsReported explained taken failed target text =
    MatchBool explained (IsExplained taken failed target text) (IsWrittenTo taken failed target text)

-- At most one text was written to a target.
abbrev pub WritesAtMostOne : {F : Type 0} → (F → Option (List ℕ)) → (F → ℕ) → (F × F) → Type 0
WritesAtMostOne taken failed target = ((taken target.1 ≡ taken target.0) × (failed target.1 ≡ failed target.0))
    ⊎ ((more : List ℕ) × IsWrittenTo taken failed target more)

-- The whole source was read, and no read or write failed.
abbrev pub IsWhole : {I O : Type 0} → (I → Option (List ℕ)) → (I → Bool) → (I → ℕ) → (O → ℕ) → (I × I) → (O × O) →
    Type 0
IsWhole left ended unread unput input output = IsAtEndOfInput left ended input.1
    × (unread input.1 ≡ unread input.0) × (unput output.1 ≡ unput output.0)

-- The result of playing a log: success, or an error of the log.
abbrev pub PlayResult : Type 0
PlayResult = Result (Unit {0}) LogFault

-- After playing a log with the result `answer`, the buffered output was written, and the result `ended` is the same; or
-- writing failed, and `ended` is the error of a failed write. If a write failed before or the count of failures is at
-- its maximum, nothing is written.
abbrev pub FlushesPending : {O : Type 0} → (O → Option (List ℕ)) → (O → ℕ) → (waits : O → List ℕ) → PlayResult → (O × O) → PlayResult →
    Type 0
FlushesPending taken failed waits answer output ended =
    ((ended ≡ answer) × Keeps (taken output.0) (taken output.1) × (failed output.1 ≡ failed output.0)
    × (waits output.1 ≡ []))
    ⊎ ((ended ≡ Err Write) × Keeps (taken output.0) (taken output.1) × (failed output.1 ≡ failed output.0 + 1)
    × (0 < length (waits output.1)))
    ⊎ (((answer ≡ Err Write) ⊎ (failed output.0 ≡ 2 ^ 64 - 1)) × (ended ≡ Err Write) × (output.1 ≡ output.0))

-- The message for a failed allocation.
abbrev pub no_memory : List ℕ
no_memory = codes "hidlog: no memory" ++ 10 ∷ []

-- The message for a failed write.
abbrev pub writing_failed : List ℕ
writing_failed = codes "hidlog: writing failed" ++ 10 ∷ []

-- The message for an argument that is not UTF-8.
abbrev pub not_text : List ℕ
not_text = codes "hidlog: an argument is not UTF-8" ++ 10 ∷ []

-- The message for a snapshot that cannot be read.
abbrev pub cannot_read : List ℕ
cannot_read = codes "hidlog: cannot read snapshot" ++ 10 ∷ []

-- The message for a log that cannot be read.
abbrev pub cannot_read_log : List ℕ
cannot_read_log = codes "hidlog: cannot read log" ++ 10 ∷ []

-- The message for a snapshot that is rejected with this error.
abbrev pub refused : SnapshotFault → List ℕ
refused NotSnapshot = codes "hidlog: snapshot refused: 1" ++ 10 ∷ []
refused TooMany = codes "hidlog: snapshot refused: 2" ++ 10 ∷ []
refused (RowBroken place) = codes "hidlog: snapshot refused: 3" ++ 10 ∷ []
refused Memory = no_memory

-- The message for a snapshot that cannot be written.
abbrev pub cannot_write : List ℕ
cannot_write = codes "hidlog: cannot write snapshot" ++ 10 ∷ []

-- Whether clap's message is written to standard output: help and version are.
abbrev pub is_help : ErrorKind → Bool
is_help DisplayHelp = true
is_help DisplayVersion = true
is_help _ = false

-- ---- the message for an error, and its exit status

-- The exit status for an error.
abbrev pub exit_status : ProgramFault → ℕ
exit_status (Log fault) = 1
exit_status (LogOpenError path error) = 1
exit_status _ = 2

-- The message for an error. Messages of log errors are not specified here.
abbrev pub text_of : ProgramFault → List ℕ
text_of OutOfMemory = no_memory
text_of (Log fault) = []
text_of (LogOpenError path error) = cannot_read_log
text_of (SnapshotReadError path error) = cannot_read
text_of (RefusedSnapshot path fault bytes) = refused fault
text_of (SnapshotWriteError path unwritten) = cannot_write

-- The text reported for an error: the message of a log error, which is specified elsewhere; a message alone; or a
-- message that is followed by a reason if texts are explained.
pub data FaultText : Type 0 where
  of_log : FaultText
  alone : (code : ℕ) (text : List ℕ) → FaultText
  reasoned : (code : ℕ) (text : List ℕ) → FaultText

-- Converts an error of the code to the text reported for it.
abbrev pub to_fault_text : ProgramFault → FaultText
to_fault_text OutOfMemory = alone 2 no_memory
to_fault_text (Log fault) = of_log
to_fault_text (LogOpenError path error) = reasoned 1 cannot_read_log
to_fault_text (SnapshotReadError path error) = reasoned 2 cannot_read
to_fault_text (RefusedSnapshot path fault bytes) = reasoned 2 (refused fault)
to_fault_text (SnapshotWriteError path unwritten) = reasoned 2 cannot_write

-- The result of working on a log: success, or the text reported for an error.
abbrev pub RunResult : Type 0
RunResult = Result (Unit {0}) FaultText

-- Converts a result with the program's error type to a `RunResult`.
abbrev pub to_result : {A : Type 0} → Result A ProgramFault → RunResult
to_result (Ok x) = Ok tt
to_result (Err fault) = Err (to_fault_text fault)

-- Converts the result of playing a log to a `RunResult`.
abbrev pub to_run_result : PlayResult → RunResult
to_run_result (Ok x) = Ok tt
to_run_result (Err fault) = Err of_log

-- Exactly this error was reported, and the exit status is that of the error. A pair is a target before and after the
-- call.
abbrev pub WritesFault : {F : Type 0} → (explained : Bool) → (F → Option (List ℕ)) → (F → ℕ) → FaultText → Status → (F × F) →
    Type 0
WritesFault explained parsed unsaid of_log status faults = status ≡ Err 1
WritesFault explained parsed unsaid (alone code text) status faults = (status ≡ Err code) × IsWrittenTo parsed unsaid faults text
WritesFault explained parsed unsaid (reasoned code text) status faults =
    (status ≡ Err code) × IsReported explained parsed unsaid faults text
