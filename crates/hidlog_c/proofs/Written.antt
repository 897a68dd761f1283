-- A device after lines were played on it, and what a call wrote to a lent buffer.
use Rattle.std.proofs.Common.{◌≡◌, ◌≤◌, ◌++◌, ℕ, ℤ, pos, List, [], length, take, drop, Some, Result, Ok, Err, to_z}
use Rattle.std.proofs.Common.{w32, refl, arith, sym, ap, ◌∙◌, append_assoc, length-append, length-drop}
use Rattle.std.proofs.Common.{length-take-le, take-append-drop, ◌+◌, ◌<◌, Bool, true, false, ◌∷◌, Option, OnOk, inl}
use Rattle.std.proofs.Common.{inr, if◌then◌else◌, subst}
use Rattle.std.proofs.lemmas.Int.{to_z_pos}
use Rattle.std.proofs.lemmas.List.{drop-append-le, append_cancel_right}
use Rattle.session_log.specs.declared.fault.LogFault.{LogFault}
use Rattle.token_session.specs.Meters.{SessionState}
use Rattle.token_session.specs.declared.cause.Causes.{Causes as TwoCauses}
use Rattle.hidlog_c.specs.declared.outcome.CResult.{CResult}
use Rattle.hidlog_c.specs.Changed.{SavesLen}
use Rattle.hidlog_c.specs.Key.{DeviceState, no_causes}
use Rattle.hidlog_c.specs.Commands.{ArePlayed, PlaysOn}
use Rattle.hidlog_c.specs.Commands.{to_c_result}
use Rattle.session_log.specs.declared.fault.LogFault.TheVariants.{Memory, BadLine, TooLong, Differs, Read, Write}
use Rattle.session_log.specs.declared.fault.LogFault.TheVariants.{TooManyLines}
use Rattle.session_log.specs.declared.command.ReplayMode.{ReplayMode}
use Rattle.session_log.specs.declared.source.SliceIn.{SliceIn}
use Rattle.session_log.specs.Replay.{Ending, Done, Refused, Unread, Unwritten, ending_of, read_fails, write_fails}
use Rattle.session_log.specs.Replay.{ReadsUpToEnding, IsFaultOfLinesRead, PlaysWholeLog, ReadsUpToFault, ReadsTo}
use Rattle.cred_table.specs.declared.row.Row.{Row}
use Rattle.session_log.specs.Check.{Compared, first_comparison, check_history}
use Rattle.session_log.specs.Command.{IsCounted, PlaysLog}
use Rattle.session_log.specs.Semantics.{LineSemantics}
use Rattle.session_log.specs.Lines.{IsAtEndOfInput, ReadsAndWrites}
use Rattle.session_log.specs.Replay.{history, live_history, quiet_history}
use Rattle.session_log.specs.declared.command.ReplayMode.TheVariants.{Check, Live, Quiet, Replay}
use Rattle.token_session.specs.declared.input.Timed.{Timed}
use Rattle.hidlog_c.specs.Commands.{IsWritten, PlaysSlice, PlaysSliceIn}
use Rattle.hidlog_c.specs.declared.buffer_target.BufferTarget.{BufferTarget}
use Rattle.hidlog_c.specs.Key.{start_with}

-- ---- a device after lines were played on it, and after a snapshot of it was written

-- the status of an outcome is a small number
status_small : (answer : Result (Unit {0}) LogFault) (outcome : CResult) (written : ℕ)
    → outcome ≡ to_c_result answer written → outcome.status ≤ 1
status_small (Ok x) outcome written is = let e = ap (λ (o : CResult). o.status) is in omega (arith, e)
status_small (Err f) outcome written is = let e = ap (λ (o : CResult). o.status) is in omega (arith, e)

pub status_as : (s t : SessionState) (log out : List ℕ) (outcome : CResult) → ArePlayed s t log out outcome
    → to_z w32 outcome.status ≡ pos outcome.status
status_as s t log out outcome played =
    let small = status_small played.0 outcome outcome.written played.1 in
    to_z_pos w32 outcome.status (omega (arith, small))

-- what lines do, they do to the device in which the session is
pub plays_on : (aaguid : List ℕ) (s t : SessionState) (waiting : List (List ℕ)) (causes : TwoCauses) (log : List ℕ)
    (out : List ℕ × List ℕ) (outcome : CResult × CResult) (result : ℤ) → waiting ≡ [] → ArePlayed s t log out.1 outcome.1
    → result ≡ pos outcome.1.status
    → PlaysOn (record { aaguid = aaguid; session = s; waiting = waiting; causes = causes }) waiting
    (Some (record { aaguid = aaguid; session = t; waiting = waiting; causes = no_causes })) log out outcome result
plays_on aaguid s t waiting causes log out outcome result none played answer = rw none (t, refl, played, answer)

-- a snapshot in the first bytes of a buffer is in its front
pub saves_len : (n : ℕ) (d : DeviceState) (out front : List ℕ) (len : ℕ) → n ≤ length out → length front ≡ n
    → SavesLen d (take n out, front) len → SavesLen d (out, front ++ drop n out) len
saves_len n d out front len within sized (rows, has, (space, saved, snapshot, is, new)) =
    let all = length-take-le n out within in
    let parts = ap length new ∙ length-append saved (drop len (take n out)) in
    let left = length-drop len (take n out) in
    let short : len ≤ length (take n out) = omega (arith, sized, all, parts, left, is) in (
      rows,
      has,
      (
        omega (arith, space, all, within),
        saved,
        snapshot,
        is,
        ap (λ x. x ++ drop n out) new ∙ append_assoc saved (drop len (take n out)) (drop n out)
            ∙ ap (λ x. saved ++ x)
            (sym (drop-append-le len (take n out) (drop n out) short) ∙ ap (drop len) (take-append-drop n out)),
      ),
    )

-- ---- what a call that plays a log over a slice into a lent buffer did

-- to what begins with the name of a borrow a text was appended
appended : (old new : ℕ) (none front text : List ℕ) → none ≡ [] → new ∷ front ≡ (old ∷ none) ++ text → front ≡ text
appended old new none front text e q = ap (drop 1) (q ∙ ap (λ l. (old ∷ l) ++ text) e)

same_log : (first_comparison log : List ℕ) → Some first_comparison ≡ Some log → first_comparison ≡ log
same_log first_comparison log e = cc

unread : (b : Bool) → 0 ≡ (if b then 0 + 1 else 0) → b ≡ false
unread true e = absurd (omega arith)
unread false e = refl

failed_once : (b : Bool) (old new : ℕ) → new ≡ (if b then old + 1 else old) → b ≡ true → 0 < new
failed_once true old new e p = omega arith
failed_once false old new e p = cc

-- what the reader still holds, whether it ended, and what the writer has taken
abbrev left : SliceIn → Option (List ℕ)
left reader = Some reader.rest.now

abbrev ended : SliceIn → Bool
ended reader = reader.ended

abbrev taken : BufferTarget → Option (List ℕ)
taken writer = Some (writer.buffer.ghost_name ∷ take writer.len writer.buffer.now)

-- that all was read, in other words
module _ {S : Type 0} (semantics : LineSemantics S) (s : S) (bytes : List ℕ) (X Y : Type 0) (so : X → Y) where
  shown_so : (n : ℕ) (f : LogFault) → IsFaultOfLinesRead semantics s bytes X n f → IsFaultOfLinesRead semantics s bytes Y n f
  shown_so n f (inl h) = inl h
  shown_so n f (inr h) = inr (so h)

  reaches_so : (f : LogFault) → ReadsUpToFault semantics s bytes X f → ReadsUpToFault semantics s bytes Y f
  reaches_so (BadLine n) h = (h.0, shown_so n (BadLine n) h.1)
  reaches_so (Differs l k) (inl h) = inl (h.0, h.1, shown_so h.0 (Differs l k) h.2)
  reaches_so (Differs l k) (inr h) = inr (h.0, so h.1)
  reaches_so Write h = h
  reaches_so f h = h

-- a known log was read to here
finds : {S : Type 0} (semantics : LineSemantics S) (s : S) (log bytes rest : List ℕ) (all : Type 0) (ending : Ending)
    → log ≡ bytes ++ rest → (all → rest ≡ []) → ReadsTo semantics s (Some log) (Some rest) all ending
    → ReadsUpToEnding semantics s bytes (rest ≡ []) ending
finds semantics s log bytes rest all (Refused f) e so h =
    let same = append_cancel_right h.0 bytes rest (sym h.1 ∙ e) in
    reaches_so semantics s bytes all (rest ≡ []) so f (subst (λ (b : List ℕ). ReadsUpToFault semantics s b all f) same h.2)
finds semantics s log bytes rest all Done e so h = tt
finds semantics s log bytes rest all ending e so h = tt

on_all : {A X Y : Type 0} (r : Result A LogFault) → (X → Y) → OnOk r X → OnOk r Y
on_all (Ok x) so h = so h
on_all (Err f) so h = tt

-- What a call promises of a log over a slice and of a lent buffer, as one that hands both in sees it, where Q holds of
-- the
-- bytes that were read and of the text. A pair is the reader before and after the call, or the writer.
pub written : {S : Type 0} (semantics : LineSemantics S) (s : S) (answer : Result (Unit {0}) LogFault) (log : List ℕ)
    (reader : SliceIn × SliceIn) (writer : BufferTarget × BufferTarget) (Q : List ℕ → List ℕ → Ending → Type 0) (P : List ℕ → List ℕ
    → List ℕ → Ending → Type 0) → ((bytes rest text : List ℕ) → Q bytes text (ending_of answer)
    → ReadsUpToEnding semantics s bytes (rest ≡ []) (ending_of answer) → P bytes rest text (ending_of answer))
    → Some reader.0.rest.now ≡ Some log → take writer.0.len writer.0.buffer.now ≡ []
    → ReadsAndWrites (left reader.0) (left reader.1) (taken writer.0) (taken writer.1) (λ bytes text. Q bytes text
    (ending_of answer)) → ReadsTo semantics s (left reader.0) (left reader.1) (IsAtEndOfInput left ended reader.1)
    (ending_of answer) → OnOk answer (IsAtEndOfInput left ended reader.1) → 0 ≡
    (if read_fails (ending_of answer) then 0 + 1 else 0) → writer.1.failures ≡
    (if write_fails (ending_of answer) then writer.0.failures + 1 else writer.0.failures)
    → IsWritten log writer.1.buffer.now writer.1.len answer P
written semantics s answer log reader writer Q P so given none (bytes, text, reads, writes, q) reach whole unfailed counted
    =
    let first_comparison = reader.0.rest.now in
    let rest = reader.1.rest.now in
    let out = take writer.1.len writer.1.buffer.now in
    let is : out ≡ text = appended writer.0.buffer.ghost_name writer.1.buffer.ghost_name _ out text none writes in
    record {
      bytes = bytes;
      rest = rest;
      log_is = sym (same_log first_comparison log given) ∙ reads;
      all = on_all answer (λ all. all.1) whole;
      readable = unread (read_fails (ending_of answer)) unfailed;
      fits = writer.1.fits;
      full = λ fails. writer.1.full
          (failed_once (write_fails (ending_of answer)) writer.0.failures writer.1.failures counted fails);
      does = subst (λ t. P bytes rest t (ending_of answer)) (sym is)
          (so bytes rest text q (finds semantics s first_comparison bytes rest _ (ending_of answer) reads (λ all. all.1) reach));
    }

-- What follows from a log that was played in some semantics follows from what a command did.
pub by_command : (command : ReplayMode) (rows : List Row) {I O : Type 0} (left : I → Option (List ℕ)) (unread : I → ℕ)
    (ended : I → Bool) (taken : O → Option (List ℕ)) (unwritten : O → ℕ) (answer : Result (Unit {0}) LogFault)
    (s : SessionState) (input : I × I) (output : O × O) (Q : (List ℕ → List ℕ → List ℕ → Ending → Type 0) → Type 0)
    → ((S : Type 0) (semantics : LineSemantics S) (x later : S) → ReadsAndWrites (left input.0) (left input.1) (taken output.0)
    (taken output.1) (λ bytes text. PlaysWholeLog semantics x later bytes text (ending_of answer))
    → ReadsTo semantics x (left input.0) (left input.1) (IsAtEndOfInput left ended input.1) (ending_of answer)
    → IsCounted left unread ended unwritten answer input output → Q (PlaysSliceIn semantics x)) → PlaysLog command
    (start_with rows) [] left unread ended taken unwritten answer s input output → Q (PlaysSlice command rows)
by_command Replay rows left unread ended taken unwritten answer s input output Q so p =
    so (List Timed) (history (start_with rows)) [] p.0 p.2 p.3 p.4
by_command Live rows left unread ended taken unwritten answer s input output Q so p =
    so (List Timed) (live_history (start_with rows)) [] p.0 p.2 p.3 p.4
by_command Check rows left unread ended taken unwritten answer s input output Q so p =
    so (Compared (List Timed)) (check_history (start_with rows)) (first_comparison []) p.0 p.2 p.3 p.4
by_command Quiet rows left unread ended taken unwritten answer s input output Q so p =
    so (List Timed) (quiet_history (start_with rows)) [] p.0 p.2 p.3 p.4
