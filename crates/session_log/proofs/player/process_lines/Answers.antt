use Rattle.std.proofs.Common.{◌≡◌, ◌<◌, ◌+◌, ◌-◌, ◌^◌, ℕ, List, sym, subst, [], ◌++◌, length, take, Err, refl, ap, ◌∙◌}
use Rattle.std.proofs.{Common.arith, lemmas.List.nil_from_length, lemmas.Result.err_from_is_err_and}
use Rattle.std.proofs.KnownBytes.{Consumes-nil, Appends-nil}
use Rattle.session_log.specs.{Replay.ending_of_fault, Replay.ending_of, Replay.PlaysLine, Lines.IsAtEndOfInput}
use Rattle.session_log.proofs.{Cutting.ends_in_feed, Cutting.last_text, Through.through_none, Through.played_none}
use Rattle.session_log.proofs.{SemanticsLaws.stops, Cutting.in_count, Through.stops_unwritten}
use Rattle.session_log.proofs.Through.{read_on, goes_on, stops_reading, stops_in_front, ends, some_left}
use Rattle.session_log.proofs.Through.{on_any, on_err, on_ok, counts_none, counts_on, plays_counts, plays_unread}
use Rattle.session_log.proofs.Lasts.{faulty_in_front, faulty_last, none_bad}
use Rattle.session_log.proofs.player.process_lines.Goals as goal

pub lines-init : goal.lines-init
lines-init g c = search (arith, Consumes-nil, Appends-nil, through_none)

pub lines-preserved : goal.lines-preserved
lines-preserved g c =
    let before = c.lines.invariant.done in
    let has = rw c.in-Some.is at c.in_ok-end.ensures.found in
    let played = c.in_ok-process_first_line.ensures.played in
    let new = c.process_first_line.new in
    let w = c.next_line.new.window in
    let i = g.S.Source.left c.args.reader.now in
    let k = g.S.Source.left c.next_line.new.reader in
    let read = read_on i (g.S.Source.left c.lines.reader) k before.0 c.lines.window w before.2 c.in_ok-end.ensures.bytes
    in
    record {
      reads = ◌∙◌ {b = g.S.Source.failed c.lines.reader} c.in_ok-end.ensures.reads c.lines.invariant.reads;
      writes = played.3.1 ∙ c.lines.invariant.writes;
      ready = c.in_ok-process_first_line.ensures.next;
      counted = omega (arith, has.counted);
      done = goes_on before.4 i k (g.T.Target.taken c.args.writer.now) w read g.T.Target.taken g.T.Target.failed
          (c.lines.writer, new.writer) (g.P.Player.state new.player new.session) before.3 c.in-Some.end has new.window
          c.in_ok-process_first_line.ensures.rest played.0 played.1 played.2 played.3;
    }

pub returns-in_err-end : goal.returns-in_err-end
returns-in_err-end g c =
    let before = c.lines.invariant.done in
    let r = c.from_residual.result in
    let e = c.in_err-end.field-0.0 in
    let stopped = c.in_err-end.ensures.stopped in
    let from = err_from_is_err_and r c.from_residual.ensures.1 in
    let is : r ≡ Err e = from.1 ∙ ap Err from.2 in
    let semantics = g.P.Player.semantics in
    let state = g.P.Player.state in
    let w = c.next_line.new.window in
    let i = g.S.Source.left c.args.reader.now in
    let k = g.S.Source.left c.next_line.new.reader in
    let first = g.T.Target.taken c.args.writer.now in
    let read = read_on i (g.S.Source.left c.lines.reader) k before.0 c.lines.window w before.2
    c.in_err-end.ensures.bytes in
    let all = IsAtEndOfInput g.S.Source.left g.S.Source.ended c.next_line.new.reader in
    record {
      played =
          stops semantics (state c.args.player.now c.args.session.now) (state c.lines.player c.lines.session)
          g.S.Source.left g.S.Source.failed g.S.Source.ended g.T.Target.taken g.T.Target.failed
          c.args.reader.now c.next_line.new.reader c.args.writer.now c.lines.writer r e is
          (stops_reading before.4 i k first w read (g.T.Target.taken c.lines.writer) e before.3 stopped)
          (none_bad before.4 i k w read all e c.lines.invariant.counted stopped)
          (counts_on _ _ _ _ c.lines.invariant.reads c.in_err-end.ensures.reads)
          (counts_none _ _ _ (stops_unwritten c.lines.number w e stopped) c.lines.invariant.writes);
      ready = on_err _ r e is;
    }

pub returns-in_err-process_first_line : goal.returns-in_err-process_first_line
returns-in_err-process_first_line g c =
    let before = c.lines.invariant.done in
    let r = c.from_residual-in_err-process_first_line.result in
    let e = c.in_err-process_first_line.field-0.0 in
    let has = rw c.in-Some.is at c.in_ok-end.ensures.found in
    let played = c.in_err-process_first_line.ensures.played in
    let from = err_from_is_err_and r c.from_residual-in_err-process_first_line.ensures.1 in
    let is : r ≡ Err e = from.1 ∙ ap Err from.2 in
    let semantics = g.P.Player.semantics in
    let state = g.P.Player.state in
    let new = c.process_first_line.new in
    let s = state c.lines.player c.lines.session in
    let t = state new.player new.session in
    let w = c.next_line.new.window in
    let line = take c.in-Some.end w in
    let taken = g.T.Target.taken in
    let failed = g.T.Target.failed in
    let i = g.S.Source.left c.args.reader.now in
    let k = g.S.Source.left c.next_line.new.reader in
    let first = taken c.args.writer.now in
    let read = read_on i (g.S.Source.left c.lines.reader) k before.0 c.lines.window w before.2 c.in_ok-end.ensures.bytes
    in
    let all = IsAtEndOfInput g.S.Source.left g.S.Source.ended c.next_line.new.reader in
    let unread = plays_unread semantics taken failed c.lines.number s t line (c.lines.writer, new.writer) (ending_of_fault e)
    played in
    let counts = plays_counts semantics taken failed c.lines.number s t line (c.lines.writer, new.writer) (ending_of_fault e)
    played in
    let reads = ◌∙◌ {b = g.S.Source.failed c.lines.reader} c.in_ok-end.ensures.reads c.lines.invariant.reads in
    record {
      played =
          stops semantics (state c.args.player.now c.args.session.now) t g.S.Source.left g.S.Source.failed g.S.Source.ended
          taken failed c.args.reader.now c.next_line.new.reader c.args.writer.now new.writer r e is
          (stops_in_front before.4 i k first w read taken failed (c.lines.writer, new.writer) t before.3 c.in-Some.end
          has e played)
          (faulty_in_front before.4 i k w read all taken failed (c.lines.writer, new.writer) t c.in-Some.end e
          c.in_err-process_first_line.ensures.own has played)
          (counts_none _ _ _ unread reads)
          (counts_on _ _ _ _ c.lines.invariant.writes counts);
      ready = on_err _ r e is;
    }

pub returns-then-is_empty : goal.returns-then-is_empty
returns-then-is_empty g c =
    let before = c.lines.invariant.done in
    let w = c.next_line.new.window in
    let none : w ≡ [] = c.if-is_empty.ensures.0 refl in
    let at = rw c.in_default.is at c.in_ok-end.ensures.found in
    let read = read_on _ _ _ before.0 c.lines.window w before.2 c.in_ok-end.ensures.bytes in
    let reads = ◌∙◌ {b = g.S.Source.failed c.lines.reader} c.in_ok-end.ensures.reads c.lines.invariant.reads in
    record {
      played = (
        (before.0 ++ [], before.1, rw none at read, before.3, played_none before.4),
        tt,
        (reads, c.lines.invariant.writes, at.1),
      );
      ready = (c.lines.number, c.lines.invariant.counted, c.lines.invariant.ready);
    }

pub returns : goal.returns
returns g c =
    let before = c.lines.invariant.done in
    let r = c.process_first_line-2.result in
    let new = c.process_first_line-2.new in
    let semantics = g.P.Player.semantics in
    let s = g.P.Player.state c.lines.player c.lines.session in
    let t = g.P.Player.state new.player new.session in
    let w = c.next_line.new.window in
    let taken = g.T.Target.taken in
    let failed = g.T.Target.failed in
    let at = rw c.in_default.is at c.in_ok-end.ensures.found in
    let some = some_left (length w) (λ e. cc (c.if-is_empty.ensures.1 (nil_from_length w e))) in
    let few : c.lines.number < 2 ^ 32 = in_count c.lines.number w at.0.counted some in
    let last = last_text w c.end_line.new.self c.len-end.result c.end_line.ensures c.len-end.ensures.value at.0.short in
    let i = g.S.Source.left c.args.reader.now in
    let k = g.S.Source.left c.next_line.new.reader in
    let from = taken c.args.writer.now in
    let read = read_on i (g.S.Source.left c.lines.reader) k before.0 c.lines.window w before.2 c.in_ok-end.ensures.bytes
    in
    let played = subst (λ (l : List ℕ). PlaysLine semantics taken failed c.lines.number s t l (c.lines.writer, new.writer)
    (ending_of r)) last.0
    c.process_first_line-2.ensures.played in
    let unread = plays_unread semantics taken failed c.lines.number s t w (c.lines.writer, new.writer) (ending_of r) played
    in
    let counts = plays_counts semantics taken failed c.lines.number s t w (c.lines.writer, new.writer) (ending_of r) played
    in
    let reads = ◌∙◌ {b = g.S.Source.failed c.lines.reader} c.in_ok-end.ensures.reads c.lines.invariant.reads in
    record {
      played = (
        ends before.4 i k from w read taken failed (c.lines.writer, new.writer) t before.3 r at.0 some played,
        faulty_last before.4 i k w read
            (IsAtEndOfInput g.S.Source.left g.S.Source.ended c.next_line.new.reader) r c.process_first_line-2.ensures.own
            (omega (arith, at.0.short)) at.1,
        (
          counts_none _ _ _ unread reads,
          counts_on _ _ _ _ c.lines.invariant.writes counts,
          on_any r at.1,
        ),
      );
      ready = on_ok r (λ h. (c.lines.number + 1, omega (arith, few), h)) c.process_first_line-2.ensures.next;
    }

pub process_first_line-requires : goal.process_first_line-requires
process_first_line-requires g c =
    let has = rw c.in-Some.is at c.in_ok-end.ensures.found in
    let w = c.next_line.new.window in
    let write = subst (λ (k : ℕ). k < 2 ^ 64 - 1) (sym c.lines.invariant.writes) c.requires.write in
    let whole = ends_in_feed w c.in-Some.end has.feed in
    (assumption c.well_formed, (write, (whole, (has.within, (has.short, (has.counted, c.lines.invariant.ready))))))

pub process_first_line-requires-2 : goal.process_first_line-requires-2
process_first_line-requires-2 g c =
    let at = rw c.in_default.is at c.in_ok-end.ensures.found in
    let w = c.next_line.new.window in
    let some = some_left (length w) (λ e. cc (c.if-is_empty.ensures.1 (nil_from_length w e))) in
    let few = in_count c.lines.number w at.0.counted some in
    let last = last_text w c.end_line.new.self c.len-end.result c.end_line.ensures c.len-end.ensures.value at.0.short in
    let write = subst (λ (k : ℕ). k < 2 ^ 64 - 1) (sym c.lines.invariant.writes) c.requires.write in
    (assumption c.well_formed, (write, (last.1, (last.2, (last.3, (few, c.lines.invariant.ready))))))

pub next_line-requires : goal.next_line-requires
next_line-requires g c = subst (λ (k : ℕ). k < 2 ^ 64 - 1) (sym c.lines.invariant.reads) c.requires.read

pub end_line-requires : goal.end_line-requires
end_line-requires g c = (rw c.in_default.is at c.in_ok-end.ensures.found).0.short
