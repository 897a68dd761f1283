-- The effect of each command on the host: its files, log, output and error output.
use Rattle.std.specs.Prelude.{◌≡◌, ◌⊎◌, ℕ, true, List, [], Option, Some, None, Ok, Err, ◌+◌, ◌∷◌, MatchOption, ◌≢◌}
use Rattle.std.specs.Prelude.{◌<◌, ◌-◌, ◌^◌, Bool, false, MatchResult, IsSomeAnd, OnOk, OnErr, codes}
use Rattle.cred_table.specs.declared.fault.SnapshotFault.{SnapshotFault}
use Rattle.cred_table.specs.declared.row.Row.{Row}
use Rattle.cred_table.specs.Snapshots.{IsSnapshot, Loads, Refuses as RefusesSnapshot}
use Rattle.token_session.specs.Meters.{SessionState}
use Rattle.hidlog.specs.Program.{RunResult, alone, reasoned, FaultText, of_log, WritesFault, to_run_result}
use Rattle.hidlog.specs.Program.{cannot_read, cannot_write, no_memory, refused, cannot_read_log, writing_failed}
use Rattle.hidlog.specs.Program.{PlayResult, IsWrittenTo, IsWhole, WritesAtMostOne, FlushesPending, is_help}
use Rattle.std.specs.Io.KnownBytes.{Consumes}
use Rattle.session_log.specs.Check.{first_comparison, check_history}
use Rattle.session_log.specs.Replay.{Ending, Done, Refused, Unread, Unwritten, ending_of_fault, fault_of, play_all}
use Rattle.session_log.specs.Replay.{ending_of, ReadsTo}
use Rattle.session_log.specs.declared.fault.LogFault.{LogFault}
use Rattle.session_log.specs.Command.{start_with, IsCounted, PlaysLog, Status}
use Rattle.session_log.specs.Lines.{IsAtEndOfInput, WritesLogLine}
use Rattle.hidlog.specs.CommandLine.{named, Task, argument_errors, parsed_command_line, explains, play, check, show}
use Rattle.hidlog.specs.Program.{Model}
use Rattle.std.specs.Bool.{MatchBool}
use Rattle.clap.specs.Words.{IsAmong}
use Rattle.clap.specs.declared.error.kind.ErrorKind.{ErrorKind}
use Rattle.clap.specs.declared.error.kind.ErrorKind.TheVariants.{OutOfMemory}
use Rattle.authn_core.specs.Turn.{Start}
use Rattle.session_log.specs.declared.command.ReplayMode.{ReplayMode}
use Rattle.session_log.specs.declared.command.ReplayMode.TheVariants.{Check, Live}
use Rattle.session_show.specs.Shown.{IsLineText, Shows, read_only_semantics}
use Rattle.session_show.specs.declared.detail.Detail.{Detail}
use Rattle.session_show.specs.declared.detail.Detail.TheVariants.{Explained, Fixed}
use Rattle.hidlog.specs.declared.args.ShowFormat.{ShowFormat}
use Rattle.hidlog.specs.declared.args.ShowFormat.TheVariants.{Lines}
use Rattle.hidlog.specs.declared.host.Host.{Host}

-- The snapshot from which a session starts, and the snapshot to which its credentials are saved. The contents of files
-- are those of `Files` (src/files.rt).

-- The rows are those of the snapshot at the path. Without a path, there are no rows.
abbrev pub OpenSource : {D : Type 0} → (D → List ℕ → List ℕ → Type 0) → D → Option (List ℕ) → List Row → Type 0
OpenSource holds files None rows = rows ≡ []
OpenSource holds files (Some path) rows = (text : List ℕ) × holds files path text × Loads 64 text (Ok tt) rows

-- The file at the path cannot be read, its snapshot is rejected, or an allocation failed.
abbrev pub FailsToOpen : {D : Type 0} → (D → List ℕ → List ℕ → Type 0) → (D → List ℕ → Type 0) → D → Option (List ℕ)
    → RunResult → Type 0
FailsToOpen holds unreadable files None came = ⊥
FailsToOpen holds unreadable files (Some path) came =
    ((came ≡ Err (reasoned 2 cannot_read)) × unreadable files path)
    ⊎ ((came ≡ Err (alone 2 no_memory))
    ⊎ ((text : List ℕ) × (fault : SnapshotFault) × (came ≡ Err (reasoned 2 (refused fault))) × holds files path text
    × RefusesSnapshot 64 text fault))

-- The bytes of a snapshot of the session's credentials.
abbrev pub IsSaved : SessionState → List ℕ → Type 0
IsSaved s bytes = (rows : List Row) × (rows ≡ s.machine.core.state.rows) × IsSnapshot true 64 rows bytes

-- A snapshot of the credentials was written to the path; or writing failed; or an allocation failed. Without a path,
-- nothing was written. A pair is the files before and after.
abbrev pub Saves : {D : Type 0} → (D → List ℕ → List ℕ → D → Type 0) → (D → List ℕ → List ℕ → D → Type 0)
    → Option (List ℕ) → SessionState → RunResult → (D × D) → Type 0
Saves written unwritten None s came files = (came ≡ Ok tt) × (files.1 ≡ files.0)
Saves written unwritten (Some path) s came files =
    ((bytes : List ℕ) × IsSaved s bytes
    × (((came ≡ Ok tt) × written files.0 path bytes files.1)
    ⊎ ((came ≡ Err (reasoned 2 cannot_write)) × unwritten files.0 path bytes files.1)))
    ⊎ ((came ≡ Err (alone 2 no_memory)) × (files.1 ≡ files.0))

-- The file at the path is not writable.
abbrev pub FailsToSave : {D : Type 0} → (D → List ℕ → Type 0) → D → Option (List ℕ) → RunResult → Type 0
FailsToSave unwritable files None came = ⊥
FailsToSave unwritable files (Some path) came = (came ≡ Err (reasoned 2 cannot_write)) × unwritable files path

-- ---- comparing several logs one after the other. A pair is a source before and after

module _ {D I O F : Type 0} (model : Model D I O F) where
  -- The whole log was read, and its packets are exactly those sent by a key that starts with the credentials of the
  -- snapshot at the path.
  abbrev pub IsSame : Option (List ℕ) → D → (I × I) → Type 0
  IsSame load files input = (rows : List Row) × (bytes : List ℕ) × OpenSource model.holds files load rows
      × Consumes (model.left input.0) (model.left input.1) bytes
      × (fault_of (check_history (start_with rows)) (play_all (check_history (start_with rows)) (first_comparison []) bytes) ≡ None)
      × IsAtEndOfInput model.left model.ended input.1

  -- The log at this path, or on standard input, has no difference, as `IsSame` defines it.
  abbrev pub IsSameAt : Option (List ℕ) → D → (log : List ℕ) → (I × I) → Type 0
  IsSameAt load files log input = (start : I)
      × MatchOption (named (Some log)) (Unit {0}) (λ path. model.opened input.0 path start)
      × IsSame load files (start, input.1)

  -- The logs were read one after the other, and no log has a difference.
  abbrev pub AreSame : Option (List ℕ) → D → (logs : List (List ℕ)) → (I × I) → Type 0
  AreSame load files [] input = input.1 ≡ input.0
  AreSame load files (log ∷ logs) input =
      (between : I) × IsSameAt load files log (input.0, between) × AreSame load files logs (between, input.1)

  -- How checking these bytes ended on a key that starts with these credentials: with the first error in the log, such
  -- as a difference; with a failed read; or without memory for the report. A pair is a source before and after.
  abbrev pub EndsCheck : List Row → Ending → (bytes : List ℕ) → (I × I) → Type 0
  EndsCheck rows Done bytes input = ⊥
  EndsCheck rows (Refused fault) bytes input =
      fault_of (check_history (start_with rows)) (play_all (check_history (start_with rows)) (first_comparison []) bytes)
      ≡ Some fault
  EndsCheck rows (Unread line) bytes input = model.unread input.1 ≡ model.unread input.0 + 1
  EndsCheck rows Unwritten bytes input = Unit {0}

  -- Checking the log ended with this error.
  abbrev pub HasFault : Option (List ℕ) → D → LogFault → (I × I) → Type 0
  HasFault load files fault input = (rows : List Row) × (bytes : List ℕ) × OpenSource model.holds files load rows
      × Consumes (model.left input.0) (model.left input.1) bytes
      × EndsCheck rows (ending_of_fault fault) bytes input

  -- The log at this path, or on standard input, cannot be opened; or the snapshot cannot be loaded; or checking the log
  -- ended with an error.
  abbrev pub FailsAt : Option (List ℕ) → D → (log : List ℕ) → FaultText → (I × I) → Type 0
  FailsAt load files log told input =
      ((told ≡ reasoned 1 cannot_read_log)
      × MatchOption (named (Some log)) (Unit {0}) (λ path. model.unopenable input.0 path))
      ⊎ FailsToOpen model.holds model.unreadable files load (Err told)
      ⊎ ((start : I) × (fault : LogFault) × (told ≡ of_log)
      × MatchOption (named (Some log)) (Unit {0}) (λ path. model.opened input.0 path start)
      × HasFault load files fault (start, input.1))

  -- The logs were read one after the other up to the first that fails, as `FailsAt` defines it. The logs before it have
  -- no difference.
  abbrev pub HasFailure : Option (List ℕ) → D → (logs : List (List ℕ)) → I → Type 0
  HasFailure load files [] input = ⊥
  HasFailure load files (log ∷ logs) input =
      ((told : FaultText) × (after : I) × FailsAt load files log told (input, after))
      ⊎ ((between : I) × IsSameAt load files log (input, between) × HasFailure load files logs between)

-- ---- the effect of each command. `old` is the host before the command, and `new` after it

-- The path for `--save`, if it is checked before the log is read. Only `live` does that, because its input may arrive
-- slowly.
abbrev pub checked_save_path : ReplayMode → Option (List ℕ) → Option (List ℕ)
checked_save_path Live save = save
checked_save_path _ save = None

-- The logs to compare, or standard input if there are no paths.
abbrev pub logs_or_input : List (List ℕ) → List (List ℕ)
logs_or_input [] = codes "-" ∷ []
logs_or_input (log ∷ logs) = log ∷ logs

-- The log was shown in this format. In the format with text for each line, each text begins with the line's number, and
-- only as much of the log was read as is needed to find an error. In the other formats, without an error the whole log
-- was read, and no read or write failed. A pair is a source or a target before and after.
abbrev pub ShowsIn : {I O : Type 0} → ShowFormat → Detail → (left : I → Option (List ℕ)) → (unread : I → ℕ) →
    (ended : I → Bool)
    → (taken : O → Option (List ℕ)) → (unput : O → ℕ) → PlayResult → (I × I) → (O × O) → Type 0
ShowsIn Lines detail left unread ended taken unput answer input output =
    Shows (IsLineText detail) (left input.0, left input.1) (taken output.0, taken output.1) (ending_of answer)
    × ReadsTo read_only_semantics tt (left input.0) (left input.1) (IsAtEndOfInput left ended input.1) (ending_of answer)
    × IsCounted left unread ended unput answer input output
ShowsIn _ detail left unread ended taken unput answer input output =
    OnOk answer (IsWhole left ended unread unput input output)

-- The level of detail of texts with or without explanations.
abbrev pub detail_for : (explained : Bool) → Detail
detail_for true = Explained
detail_for false = Fixed

module _ {D I O F : Type 0} (model : Model D I O F) where
  -- The log at the path, or standard input without a path, is opened, and then `Goes` holds. If the log cannot be
  -- opened, the exit status is 1, and nothing is written.
  abbrev pub Reads : Option (List ℕ) → (Host D I O F → Type 0) → RunResult → (old new : Host D I O F) → Type 0
  Reads log Goes came old new =
      ((came ≡ Err (reasoned 1 cannot_read_log)) × (new ≡ old) × IsSomeAnd (named log) (model.unopenable old.input))
      ⊎ ((begun : I) × MatchOption (named log) (begun ≡ old.input) (λ path. model.opened old.input path begun)
      × Goes record old { input = begun })

  -- The log is played on a new session with the credentials of the snapshot at the path. If the snapshot cannot be
  -- loaded, the exit status is 2, the log is not read, and nothing is written.
  abbrev pub StartsFromSnapshot : Option (List ℕ) → (Start → Type 0) → RunResult → (old new : Host D I O F) → Type 0
  StartsFromSnapshot path Goes came old new =
      ((new ≡ old) × FailsToOpen model.holds model.unreadable old.files path came)
      ⊎ ((rows : List Row) × OpenSource model.holds old.files path rows × Goes (start_with rows))

  -- The log was played on the new session, and the buffered output was written. If no error occurred, the credentials
  -- were then saved at the path, if any.
  abbrev pub RunsOn : ReplayMode → Option (List ℕ) → RunResult → (old new : Host D I O F) → Start → Type 0
  RunsOn command save came old new start =
      (answer : PlayResult) × (whole : PlayResult) × (s : SessionState) × (put : O)
      × PlaysLog command start [] model.left model.unread model.ended model.taken model.unput answer s
      (old.input, new.input) (old.output, put)
      × FlushesPending model.taken model.unput model.waits answer (put, new.output) whole
      × MatchResult whole (λ _. Saves model.written model.unwritten save s came (old.files, new.files))
      (λ _. (came ≡ Err of_log) × (new.files ≡ old.files))
      × (new.faults ≡ old.faults)

  -- The command plays the log on a session with the credentials of a snapshot, and then saves the session's
  -- credentials. If the file for `--save` is checked first and is not writable, the exit status is 2, the log is not
  -- read, and nothing is written.
  abbrev pub RunsCommand : ReplayMode → (load save log : Option (List ℕ)) → RunResult → (old new : Host D I O F) → Type 0
  RunsCommand command load save log came old new =
      Reads log (λ read. StartsFromSnapshot load (λ start.
      ((new ≡ read) × FailsToSave model.unwritable read.files (checked_save_path command save) came)
      ⊎ RunsOn command save came read new start) came read new) came old new

  -- The log was shown, and then the buffered output was written.
  abbrev pub ShowsLog : ShowFormat → Detail → RunResult → (old new : Host D I O F) → Type 0
  ShowsLog form detail came old new = (answer : PlayResult) × (whole : PlayResult) × (put : O) × (came ≡ to_run_result whole)
      × ShowsIn form detail model.left model.unread model.ended model.taken model.unput answer (old.input, new.input)
      (old.output, put)
      × FlushesPending model.taken model.unput model.waits answer (put, new.output) whole
      × (new.files ≡ old.files) × (new.faults ≡ old.faults)

  -- The exit status is that of the result. If the result is an error, it was reported.
  abbrev pub Reports : (explained : Bool) → RunResult → Status → (old new : Host D I O F) → Type 0
  Reports explained (Ok x) status old new = (status ≡ Ok tt) × (new ≡ old)
  Reports explained (Err told) status old new =
      (new ≡ record old { faults = new.faults }) × WritesFault explained model.parsed model.unsaid told status
      (old.faults, new.faults)

  -- A command played a log, and its result was reported.
  abbrev pub DoesCommand : ReplayMode → (load save log : Option (List ℕ)) → (explained : Bool) → Status →
      (old new : Host D I O F)
      → Type 0
  DoesCommand command load save log explained status old new = (came : RunResult) × (played : Host D I O F)
      × RunsCommand command load save log came old played × Reports explained came status played new

  -- A report could not be written, or the count of failures of a stream is at its maximum.
  abbrev pub CannotReport : Host D I O F → Type 0
  CannotReport host = (0 < model.unput host.output) ⊎ (model.unread host.input ≡ 2 ^ 64 - 1)
      ⊎ (model.unsaid host.faults ≡ 2 ^ 64 - 1)

  -- The logs were compared, and the files are not changed. The exit status is 0 only if no log has a difference and the
  -- reports were written. A status other than 0 means that a log fails or that a report could not be written; 2 means
  -- that the snapshot cannot be loaded.
  abbrev pub Compares : Option (List ℕ) → (logs : List (List ℕ)) → Status → (old new : Host D I O F) → Type 0
  Compares load logs status old new = (new.files ≡ old.files)
      × OnOk status (AreSame model load old.files logs (old.input, new.input)
      × (model.unput new.output ≡ model.unput old.output))
      × OnErr status (HasFailure model load old.files logs old.input ⊎ CannotReport new)
      × (status ≡ Err 2 → (told : FaultText) × FailsToOpen model.holds model.unreadable old.files load (Err told))

  -- The task was carried out. With several logs or `--json`, logs are compared one by one.
  abbrev pub CarriesOut : Task → Detail → (explained : Bool) → Status → (old new : Host D I O F) → Type 0
  CarriesOut (play command load save log) detail explained status old new =
      DoesCommand command load save log explained status old new
  CarriesOut (check load all true logs) detail explained status old new = Compares load (logs_or_input logs) status old new
  CarriesOut (check load all false []) detail explained status old new =
      DoesCommand Check load None None explained status old new
  CarriesOut (check load all false (log ∷ [])) detail explained status old new =
      DoesCommand Check load None (Some log) explained status old new
  CarriesOut (check load all false (log ∷ next ∷ logs)) detail explained status old new =
      Compares load (log ∷ next ∷ logs) status old new
  CarriesOut (show form wide log) detail explained status old new = (came : RunResult) × (shown : Host D I O F)
      × Reads log (λ read. ShowsLog form detail came read shown) came old shown
      × Reports explained came status shown new

  -- An allocation failed, and the failure was reported.
  abbrev pub LacksMemory : Status → (old new : Host D I O F) → Type 0
  LacksMemory status old new = (status ≡ Err 2) × (new ≡ record old { faults = new.faults })
      × IsWrittenTo model.parsed model.unsaid (old.faults, new.faults) no_memory

  -- An error in the arguments was reported.
  abbrev pub Refuses : Status → (old new : Host D I O F) → Type 0
  Refuses status old new = (status ≡ Err 2) × (new ≡ record old { faults = new.faults })
      × ((text : List ℕ) × IsWrittenTo model.parsed model.unsaid (old.faults, new.faults) text)

  -- The help was written; or writing failed, and the failure was reported.
  abbrev pub WritesHelp : Status → (old new : Host D I O F) → Type 0
  WritesHelp status old new = (text : List ℕ) × (answer : PlayResult) × (ended : PlayResult) × (put : O)
      × WritesLogLine model.taken model.unput (old.output, put) text answer
      × FlushesPending model.taken model.unput model.waits answer (put, new.output) ended
      × MatchResult ended (λ _. (status ≡ Ok tt) × (new ≡ record old { output = new.output }))
      (λ _. (status ≡ Err 2) × (new ≡ record old { output = new.output; faults = new.faults })
      × IsWrittenTo model.parsed model.unsaid (old.faults, new.faults) writing_failed)

  -- clap's message of this kind was written, or an allocation failed and was reported.
  abbrev pub WritesClapMessage : ErrorKind → Status → (old new : Host D I O F) → Type 0
  WritesClapMessage kind status old new = LacksMemory status old new
      ⊎ ((kind ≢ OutOfMemory) × MatchBool (is_help kind) (WritesHelp status old new) (Refuses status old new))

  -- The task that the arguments specify was carried out, or an allocation failed. If the arguments are invalid, clap's
  -- message was written. Texts are explained with `--explain`, or by default if they go to a terminal.
  abbrev pub Answers : List (List ℕ) → Status → (old new : Host D I O F) → Type 0
  Answers words status old new = MatchOption (parsed_command_line words)
      ((kind : ErrorKind) × IsAmong kind (OutOfMemory ∷ argument_errors words) × WritesClapMessage kind status old new)
      (λ asked. CarriesOut asked.0 (detail_for (explains asked.1 old.terminals.output))
      (explains asked.1 old.terminals.faults)
      status old new
      ⊎ LacksMemory status old new)

  -- Like `Answers`. Afterwards, at most one more text was written to the error output, and more of the log may have
  -- been read.
  abbrev pub Plays : List (List ℕ) → Status → (old new : Host D I O F) → Type 0
  Plays words status old new = (ran : Host D I O F) × Answers words status old ran
      × (new ≡ record ran { input = new.input; faults = new.faults })
      × WritesAtMostOne model.parsed model.unsaid (ran.faults, new.faults)

  -- The program ran with these arguments on a source with the unread bytes `left` and a target that had accepted the
  -- bytes `taken`, as `Plays` defines it; or an allocation failed before, and the failure was reported to `faults`.
  abbrev pub PlaysOver : (left taken : Option (List ℕ)) → (faults : F) → List (List ℕ) → Status → Type 0
  PlaysOver left taken faults words status =
      ((old : Host D I O F) × (new : Host D I O F) × (model.left old.input ≡ left) × (model.taken old.output ≡ taken)
      × (old.faults ≡ faults) × Plays words status old new)
      ⊎ ((status ≡ Err 2) × ((after : F) × IsWrittenTo model.parsed model.unsaid (faults, after) no_memory))
