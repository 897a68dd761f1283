use Rattle.std.proofs.Common.{◌≡◌, ◌<◌, ◌+◌, ℕ, List, [], ◌∷◌, ◌++◌, length, take, drop, Err, refl, sym, ap, ◌∙◌, subst}
use Rattle.std.{proofs.Common.arith, specs.Io.KnownBytes.Consumes}
use Rattle.std.proofs.KnownBytes.{Consumes-nil, Appends-nil, Appends-trans}
use Rattle.std.proofs.lemmas.{List.nil_from_length, Result.err_from_is_err_and}
use Rattle.session_log.proofs.{Cutting.last_line, Cutting.in_count}
use Rattle.std.proofs.Common.{Result, append-nil, ◌-◌}
use Rattle.session_log.specs.Replay.{Done, Ending, ending_of_fault, ending_of, read_fails, write_fails}
use Rattle.session_log.specs.{Replay.ReadsTo, Lines.lines, Replay.line_text, Lines.IsUnfinished}
use Rattle.session_log.specs.{Lines.Counts, Lines.IsAtEndOfInput, declared.fault.LogFault.LogFault}
use Rattle.session_log.proofs.Through.{through_none, played_none}
use Rattle.session_log.proofs.{Cutting.line_in_front, Through.stops_unwritten}
use Rattle.session_log.proofs.Through.{read_on, short_in_front, some_left}
use Rattle.session_log.proofs.Through.{on_any, on_err, counts_none, counts_on, plays_counts, plays_unread}
use Rattle.session_log.proofs.Lasts.{faulty_in_front, faulty_last, none_bad}
use Rattle.session_show.specs.Shown.{Shows, ShowsLine, WritesEnd, WritesLine, read_only_semantics, rule_for_format, unknown_bytes, failures_of}
use Rattle.session_show.specs.declared.log_writer.OutputFormat.{OutputFormat}
use Rattle.session_show.proofs.Told.{as_err, behind_nothing, behind_reach, behind_reads, behind_writes, shown_on, told_behind}
use Rattle.session_show.proofs.Told.{told_last, told_line, told_none, told_to_line, told_to_read, unwritten_back}
use Rattle.session_show.proofs.log_writer.write_log.Goals as goal

abbrev fails_by : LogFault → Result (Unit {0}) LogFault
fails_by e = Err e

pub lines-init : goal.lines-init
lines-init g c =
    let left = g.S.Source.left in
    record {
      reads = refl;
      writes = refl;
      counted = omega arith;
      format = refl;
      done = (
        [],
        [],
        subst (Consumes (left c.args.reader.now) (left c.args.reader.now)) (sym c.new-window.ensures)
            (Consumes-nil (left c.args.reader.now)),
        through_none read_only_semantics tt,
        ([], Appends-nil (g.T.Target.taken c.args.writer.now), told_none (rule_for_format c.args.log_writer.now.format)),
      );
    }

pub lines-preserved : goal.lines-preserved
lines-preserved g c =
    let left = g.S.Source.left in
    let taken = g.T.Target.taken in
    let failed = g.T.Target.failed in
    let before = c.lines.invariant.done in
    let has = rw c.in-Some.is at c.in_ok-end.ensures.found in
    let w = c.next_line.new.window in
    let line = c.split_at.result.0.now in
    let is_line : line ≡ take c.in-Some.end w = c.split_at.ensures.front
    ∙ ap (take c.in-Some.end) c.as_slice.ensures.value in
    let shown = c.in_ok-write_next_line.ensures.shown in
    let same = c.lines.invariant.format in
    let text = subst (λ (f : OutputFormat). WritesLine (rule_for_format f) c.lines.number line
    (taken c.lines.writer, taken c.write_next_line.new.writer) Done) same c.in_ok-write_next_line.ensures.text in
    let read = read_on (left c.args.reader.now) (left c.lines.reader) (left c.next_line.new.reader) before.0
    c.lines.window w before.2 c.in_ok-end.ensures.bytes in
    let next = shown_on (left c.args.reader.now) (left c.next_line.new.reader) before.0 before.1 w c.drop_front.new.self
    line c.lines.number c.in-Some.end read before.3 has is_line c.drop_front.ensures shown.0 shown.2 in
    record {
      reads = ◌∙◌ {b = g.S.Source.failed c.lines.reader} c.in_ok-end.ensures.reads c.lines.invariant.reads;
      writes = shown.3.1 ∙ c.lines.invariant.writes;
      counted = omega (arith, has.counted);
      format = c.in_ok-write_next_line.ensures.format ∙ same;
      done = (
        before.0 ++ take (c.in-Some.end + 1) w,
        before.1 ++ line_text read_only_semantics tt line,
        next.0,
        next.1,
        (
          before.4.0 ++ text.0,
          Appends-trans (taken c.args.writer.now) (taken c.lines.writer) (taken c.write_next_line.new.writer) before.4.0 text.0
              before.4.1 text.1,
          told_line (rule_for_format c.args.log_writer.now.format) before.1 before.4.0 line text.0 c.lines.number before.4.2.0 before.4.2.1 shown.0
              text.2,
        ),
      );
    }

pub returns-in_err-end : goal.returns-in_err-end
returns-in_err-end g c =
    let left = g.S.Source.left in
    let before = c.lines.invariant.done in
    let e = c.in_err-end.field-0.0 in
    let r = c.from_residual.result in
    let w = c.next_line.new.window in
    let all = IsAtEndOfInput left g.S.Source.ended c.next_line.new.reader in
    let stopped = c.in_err-end.ensures.stopped in
    let from = err_from_is_err_and r c.from_residual.ensures.1 in
    let is : r ≡ Err e = from.1 ∙ ap (λ (f : LogFault). Err f) from.2 in
    let read = read_on (left c.args.reader.now) (left c.lines.reader) (left c.next_line.new.reader) before.0
    c.lines.window w before.2 c.in_err-end.ensures.bytes in
    record {
      shown = as_err r e (λ (q : Ending). Shows (rule_for_format c.args.log_writer.now.format) (left c.args.reader.now, left c.next_line.new.reader)
          (g.T.Target.taken c.args.writer.now, g.T.Target.taken c.lines.writer) q) is
          (told_to_read (rule_for_format c.args.log_writer.now.format) (left c.args.reader.now) (left c.next_line.new.reader)
          (g.T.Target.taken c.args.writer.now) (g.T.Target.taken c.lines.writer)
          before.0 before.1 before.4.0 w c.lines.number e read before.3 before.4.1 before.4.2.0 stopped);
      reach = as_err r e (λ (q : Ending). ReadsTo read_only_semantics tt (left c.args.reader.now) (left c.next_line.new.reader) all
          q) is
          (none_bad before.3 (left c.args.reader.now) (left c.next_line.new.reader) w read all e
          c.lines.invariant.counted stopped);
      end = on_err all r e is;
      reads = as_err r e (λ (q : Ending). Counts g.S.Source.failed (c.args.reader.now, c.next_line.new.reader)
          (read_fails q)) is
          (counts_on (g.S.Source.failed c.lines.reader) (g.S.Source.failed c.args.reader.now) (g.S.Source.failed
          c.next_line.new.reader) (read_fails (ending_of_fault e)) c.lines.invariant.reads c.in_err-end.ensures.reads);
      writes = as_err r e (λ (q : Ending). Counts g.T.Target.failed (c.args.writer.now, c.lines.writer) (write_fails q))
          is
          (counts_none _ _ _ (stops_unwritten c.lines.number w e stopped) c.lines.invariant.writes);
    }

pub returns-in_err-write_next_line : goal.returns-in_err-write_next_line
returns-in_err-write_next_line g c =
    let left = g.S.Source.left in
    let taken = g.T.Target.taken in
    let failed = g.T.Target.failed in
    let before = c.lines.invariant.done in
    let e = c.in_err-write_next_line.field-0.0 in
    let r = c.from_residual-in_err-write_next_line.result in
    let w = c.next_line.new.window in
    let all = IsAtEndOfInput left g.S.Source.ended c.next_line.new.reader in
    let has = rw c.in-Some.is at c.in_ok-end.ensures.found in
    let line = c.split_at.result.0.now in
    let is_line : line ≡ take c.in-Some.end w = c.split_at.ensures.front
    ∙ ap (take c.in-Some.end) c.as_slice.ensures.value in
    let shown = c.in_err-write_next_line.ensures.shown in
    let from = err_from_is_err_and r c.from_residual-in_err-write_next_line.ensures.1 in
    let is : r ≡ Err e = from.1 ∙ ap (λ (f : LogFault). Err f) from.2 in
    let read = read_on (left c.args.reader.now) (left c.lines.reader) (left c.next_line.new.reader) before.0
    c.lines.window w before.2 c.in_ok-end.ensures.bytes in
    record {
      shown = as_err r e (λ (q : Ending). Shows (rule_for_format c.args.log_writer.now.format) (left c.args.reader.now, left c.next_line.new.reader)
          (taken c.args.writer.now, taken c.write_next_line.new.writer) q) is
          (told_to_line (rule_for_format c.args.log_writer.now.format) (left c.args.reader.now) (left c.next_line.new.reader)
          (taken c.args.writer.now) (taken c.lines.writer) (taken c.write_next_line.new.writer)
          (failed c.lines.writer, failed c.write_next_line.new.writer) before.0 before.1 before.4.0 w line
          (lines (drop (c.in-Some.end + 1) w)) c.lines.number e read before.3 before.4.1 before.4.2.0
          (line_in_front w c.in-Some.end has.feed ∙ ap (λ (l : List ℕ). l ∷ lines (drop (c.in-Some.end + 1) w))
          (sym is_line))
          (omega (arith, ap length is_line, short_in_front w c.lines.number c.in-Some.end has)) has.counted shown
          (subst (λ (f : OutputFormat). WritesLine (rule_for_format f) c.lines.number line
          (taken c.lines.writer, taken c.write_next_line.new.writer) (ending_of_fault e)) c.lines.invariant.format c.in_err-write_next_line.ensures.text));
      reach = as_err r e (λ (q : Ending). ReadsTo read_only_semantics tt (left c.args.reader.now) (left c.next_line.new.reader) all
          q) is
          (faulty_in_front before.3 (left c.args.reader.now) (left c.next_line.new.reader) w read all unknown_bytes
          failures_of
          (failed c.lines.writer, failed c.write_next_line.new.writer) tt c.in-Some.end e c.in_err-write_next_line.ensures.own has
          (subst (λ (l : List ℕ). ShowsLine c.lines.number l (failed c.lines.writer, failed c.write_next_line.new.writer)
          (ending_of_fault e)) is_line shown));
      end = on_err all r e is;
      reads = as_err r e (λ (q : Ending). Counts g.S.Source.failed (c.args.reader.now, c.next_line.new.reader)
          (read_fails q)) is
          (counts_none _ _ _ (plays_unread read_only_semantics unknown_bytes failures_of c.lines.number tt tt line
          (failed c.lines.writer, failed c.write_next_line.new.writer) (ending_of_fault e) shown)
          (◌∙◌ {b = g.S.Source.failed c.lines.reader} c.in_ok-end.ensures.reads c.lines.invariant.reads));
      writes = as_err r e (λ (q : Ending). Counts failed (c.args.writer.now, c.write_next_line.new.writer) (write_fails q)) is
          (counts_on (failed c.lines.writer) (failed c.args.writer.now) _ _ c.lines.invariant.writes
          (plays_counts read_only_semantics unknown_bytes failures_of c.lines.number tt tt line
          (failed c.lines.writer, failed c.write_next_line.new.writer) (ending_of_fault e) shown));
    }

-- the last piece stands in the window
pub returns-in_err-write_next_line-2 : goal.returns-in_err-write_next_line-2
returns-in_err-write_next_line-2 g c =
    let left = g.S.Source.left in
    let taken = g.T.Target.taken in
    let failed = g.T.Target.failed in
    let before = c.lines.invariant.done in
    let format = c.args.log_writer.now.format in
    let e = c.in_err-write_next_line-2.field-0.0 in
    let r = c.from_residual-in_err-write_next_line-2.result in
    let window = c.next_line.new.window in
    let w = c.as_slice-2.result.now in
    let is : w ≡ window = c.as_slice-2.ensures.value in
    let at = rw c.in_default.is at c.in_ok-end.ensures.found in
    let some : 0 < length w = some_left (length w) (λ e. cc (c.if-is_empty.ensures.1 (sym is ∙ nil_from_length w e))) in
    let small : length window < 256 = at.0.short in
    let all = IsAtEndOfInput left g.S.Source.ended c.next_line.new.reader in
    let read = read_on (left c.args.reader.now) (left c.lines.reader) (left c.next_line.new.reader) before.0
    c.lines.window window before.2 c.in_ok-end.ensures.bytes in
    let last = subst (IsUnfinished c.lines.number) (sym is) at.0 in
    let shown = c.in_err-write_next_line-2.ensures.shown in
    let from = err_from_is_err_and r c.from_residual-in_err-write_next_line-2.ensures.1 in
    let stopped : r ≡ Err e = from.1 ∙ ap (λ (f : LogFault). Err f) from.2 in
    record {
      shown = as_err r e (λ (q : Ending). Shows (rule_for_format format) (left c.args.reader.now, left c.next_line.new.reader)
          (taken c.args.writer.now, taken c.write_next_line-2.new.writer) q) stopped
          (told_to_line (rule_for_format format) (left c.args.reader.now) (left c.next_line.new.reader)
          (taken c.args.writer.now) (taken c.lines.writer) (taken c.write_next_line-2.new.writer)
          (failed c.lines.writer, failed c.write_next_line-2.new.writer) before.0 before.1 before.4.0 w w [] c.lines.number e
          (subst (λ (l : List ℕ). Consumes (left c.args.reader.now) (left c.next_line.new.reader) (before.0 ++ l))
          (sym is) read)
          before.3 before.4.1 before.4.2.0 (last_line w last.no_feed some) last.short
          (in_count c.lines.number w last.counted some) shown
          (subst (λ (f : OutputFormat). WritesLine (rule_for_format f) c.lines.number w
          (taken c.lines.writer, taken c.write_next_line-2.new.writer) (ending_of_fault e)) c.lines.invariant.format
          c.in_err-write_next_line-2.ensures.text));
      reach = as_err r e (λ (q : Ending). ReadsTo read_only_semantics tt (left c.args.reader.now) (left c.next_line.new.reader) all
          q) stopped
          (faulty_last before.3 (left c.args.reader.now) (left c.next_line.new.reader) window read all
          (fails_by e) c.in_err-write_next_line-2.ensures.own (omega (arith, small)) at.1);
      end = on_err all r e stopped;
      reads = as_err r e (λ (q : Ending). Counts g.S.Source.failed (c.args.reader.now, c.next_line.new.reader)
          (read_fails q)) stopped
          (counts_none _ _ _ (plays_unread read_only_semantics unknown_bytes failures_of c.lines.number tt tt w
          (failed c.lines.writer, failed c.write_next_line-2.new.writer) (ending_of_fault e) shown)
          (◌∙◌ {b = g.S.Source.failed c.lines.reader} c.in_ok-end.ensures.reads c.lines.invariant.reads));
      writes = as_err r e (λ (q : Ending). Counts failed (c.args.writer.now, c.write_next_line-2.new.writer) (write_fails q)) stopped
          (counts_on (failed c.lines.writer) (failed c.args.writer.now) _ _ c.lines.invariant.writes
          (plays_counts read_only_semantics unknown_bytes failures_of c.lines.number tt tt w
          (failed c.lines.writer, failed c.write_next_line-2.new.writer) (ending_of_fault e) shown));
    }

-- nothing is left of whole lines
pub returns-then-number-eq1 : goal.returns-then-number-eq1
returns-then-number-eq1 g c =
    let left = g.S.Source.left in
    let before = c.lines.invariant.done in
    let format = c.args.log_writer.now.format in
    let w = c.next_line.new.window in
    let none : w ≡ [] = c.if-is_empty.ensures.0 refl in
    let at = rw c.in_default.is at c.in_ok-end.ensures.found in
    let told = before.4.2.0 in
    record {
      shown = (
        before.0 ++ [],
        before.4.0,
        subst (λ (l : List ℕ). Consumes (left c.args.reader.now) (left c.next_line.new.reader) (before.0 ++ l)) none
            (read_on (left c.args.reader.now) (left c.lines.reader) (left c.next_line.new.reader) before.0
            c.lines.window w before.2 c.in_ok-end.ensures.bytes),
        before.4.1,
        (
          before.1,
          played_none before.3,
          record {
            before = before.4.0;
            behind = [];
            text_is = sym (append-nil before.4.0);
            shown = told;
            last = behind_nothing format (length told.told);
          },
        ),
      );
      reach = tt;
      end = at.1;
      reads = ◌∙◌ {b = g.S.Source.failed c.lines.reader} c.in_ok-end.ensures.reads c.lines.invariant.reads;
      writes = c.lines.invariant.writes;
    }

pub overflow_sub-number : goal.overflow_sub-number
overflow_sub-number g c = omega (arith, c.lines.invariant.done.4.2.1)

pub returns-then-is_empty : goal.returns-then-is_empty
returns-then-is_empty g c =
    let left = g.S.Source.left in
    let taken = g.T.Target.taken in
    let failed = g.T.Target.failed in
    let before = c.lines.invariant.done in
    let format = c.args.log_writer.now.format in
    let r = c.write_after_last_line.result in
    let w = c.next_line.new.window in
    let none : w ≡ [] = c.if-is_empty.ensures.0 refl in
    let at = rw c.in_default.is at c.in_ok-end.ensures.found in
    let all = IsAtEndOfInput left g.S.Source.ended c.next_line.new.reader in
    let read = read_on (left c.args.reader.now) (left c.lines.reader) (left c.next_line.new.reader) before.0
    c.lines.window w before.2 c.in_ok-end.ensures.bytes in
    let count = before.4.2.1 in
    let tells = subst (λ (f : OutputFormat). WritesEnd (rule_for_format f) taken failed (c.lines.number - 1) (c.lines.writer, c.write_after_last_line.new.writer) (ending_of r))
    c.lines.invariant.format c.write_after_last_line.ensures in
    record {
      shown = told_behind (rule_for_format format) taken failed r (left c.args.reader.now) (left c.next_line.new.reader)
          (taken c.args.writer.now) (c.lines.writer, c.write_after_last_line.new.writer) (before.0 ++ []) before.1 before.4.0 (c.lines.number - 1)
          (subst (λ (l : List ℕ). Consumes (left c.args.reader.now) (left c.next_line.new.reader) (before.0 ++ l)) none
          read)
          (played_none before.3) before.4.1 before.4.2.0 (omega (arith, count))
          (unwritten_back before.3 (omega (arith, count, c.if-number-eq1))) tells;
      reach = behind_reach (rule_for_format format) taken failed (c.lines.number - 1) (c.lines.writer, c.write_after_last_line.new.writer) (ending_of r)
          (left c.args.reader.now) (left c.next_line.new.reader) all tells;
      end = on_any r at.1;
      reads = counts_none _ _ _ (behind_reads (rule_for_format format) taken failed (c.lines.number - 1) (c.lines.writer, c.write_after_last_line.new.writer) (ending_of r)
          tells)
          (◌∙◌ {b = g.S.Source.failed c.lines.reader} c.in_ok-end.ensures.reads c.lines.invariant.reads);
      writes = counts_on (failed c.lines.writer) (failed c.args.writer.now) _ _ c.lines.invariant.writes
          (behind_writes (rule_for_format format) taken failed (c.lines.number - 1) (c.lines.writer, c.write_after_last_line.new.writer) (ending_of r) tells);
    }

pub returns : goal.returns
returns g c =
    let left = g.S.Source.left in
    let taken = g.T.Target.taken in
    let failed = g.T.Target.failed in
    let before = c.lines.invariant.done in
    let format = c.args.log_writer.now.format in
    let r = c.write_after_last_line-2.result in
    let window = c.next_line.new.window in
    let w = c.as_slice-2.result.now in
    let is : w ≡ window = c.as_slice-2.ensures.value in
    let at = rw c.in_default.is at c.in_ok-end.ensures.found in
    let some : 0 < length w = some_left (length w) (λ e. cc (c.if-is_empty.ensures.1 (sym is ∙ nil_from_length w e))) in
    let all = IsAtEndOfInput left g.S.Source.ended c.next_line.new.reader in
    let read = read_on (left c.args.reader.now) (left c.lines.reader) (left c.next_line.new.reader) before.0
    c.lines.window window before.2 c.in_ok-end.ensures.bytes in
    let shown = c.in_ok-write_next_line-2.ensures.shown in
    let same = c.lines.invariant.format in
    let text = subst (λ (f : OutputFormat). WritesLine (rule_for_format f) c.lines.number w
    (taken c.lines.writer, taken c.write_next_line-2.new.writer) Done) same c.in_ok-write_next_line-2.ensures.text in
    let last = told_last (rule_for_format format) before.0 before.1 before.4.0 w text.0 c.lines.number before.3 before.4.2.0
    before.4.2.1 (subst (IsUnfinished c.lines.number) (sym is) at.0) some shown.0 shown.2 text.2 in
    let tells = subst (λ (f : OutputFormat). WritesEnd (rule_for_format f) taken failed c.lines.number (c.write_next_line-2.new.writer, c.write_after_last_line-2.new.writer) (ending_of r))
    (c.in_ok-write_next_line-2.ensures.format ∙ same) c.write_after_last_line-2.ensures in
    record {
      shown = told_behind (rule_for_format format) taken failed r (left c.args.reader.now) (left c.next_line.new.reader)
          (taken c.args.writer.now) (c.write_next_line-2.new.writer, c.write_after_last_line-2.new.writer) (before.0 ++ w) _ (before.4.0 ++ text.0) c.lines.number
          (subst (λ (l : List ℕ). Consumes (left c.args.reader.now) (left c.next_line.new.reader) (before.0 ++ l))
          (sym is) read)
          last.0
          (Appends-trans (taken c.args.writer.now) (taken c.lines.writer) (taken c.write_next_line-2.new.writer) before.4.0 text.0
          before.4.1 text.1)
          last.1.0 last.1.1 last.2 tells;
      reach = behind_reach (rule_for_format format) taken failed c.lines.number (c.write_next_line-2.new.writer, c.write_after_last_line-2.new.writer) (ending_of r) (left c.args.reader.now)
          (left c.next_line.new.reader) all tells;
      end = on_any r at.1;
      reads = counts_none _ _ _ (behind_reads (rule_for_format format) taken failed c.lines.number (c.write_next_line-2.new.writer, c.write_after_last_line-2.new.writer) (ending_of r) tells)
          (◌∙◌ {b = g.S.Source.failed c.lines.reader} c.in_ok-end.ensures.reads c.lines.invariant.reads);
      writes = counts_on (failed c.write_next_line-2.new.writer) (failed c.args.writer.now) _ _
          (shown.3.1 ∙ c.lines.invariant.writes)
          (behind_writes (rule_for_format format) taken failed c.lines.number (c.write_next_line-2.new.writer, c.write_after_last_line-2.new.writer) (ending_of r) tells);
    }
