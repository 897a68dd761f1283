use Rattle.std.proofs.Common.{◌≡◌, Ok, Err, ap, ◌∙◌, subst}
use Rattle.std.proofs.lemmas.Result.{err_from_is_err_and}
use Rattle.session_log.{specs.Replay.FitsMeters, proofs.Through.on_err, proofs.SemanticsLaws.logs_fault, proofs.SemanticsLaws.logs_whole}
use Rattle.session_log.specs.Replay.{live_history, live_machine, session_needs, session_semantics}
use Rattle.session_log.proofs.SemanticsLaws.{live_follows, logs_history}
use Rattle.session_log.proofs.Again.{live_again, live_logs, live_replayed, repeats_in, replay_logs}
use Rattle.session_log.proofs.live_player.live.Goals as goal

pub returns-in_err-process_log : goal.returns-in_err-process_log
returns-in_err-process_log g c =
    let r = c.from_residual.result in
    let e = c.in_err-process_log.field-0.0 in
    let from = err_from_is_err_and r c.from_residual.ensures.1 in
    let is : r ≡ Err e = from.1 ∙ ap Err from.2 in
    let s = c.args.session.now in
    let new = c.process_log.new in
    let through =
    logs_fault live_machine s new.session g.S.Source.left g.S.Source.failed g.S.Source.ended g.T.Target.taken
    g.T.Target.failed c.args.reader.now new.reader c.args.writer.now new.writer r e is c.in_err-process_log.ensures in
    record {
      lived = through;
      again = on_err _ r e is;
      replays = on_err _ r e is;
      history = logs_history g.S.Source.left g.S.Source.failed g.S.Source.ended g.T.Target.taken g.T.Target.failed
          (c.args.reader.now, new.reader) (c.args.writer.now, new.writer) live_machine live_history live_follows s
          new.session r through;
    }

pub returns : goal.returns
returns g c =
    let s = c.args.session.now in
    let new = c.process_log.new in
    let h = c.in_ok-process_log.ensures in
    let logs = live_logs session_semantics session_needs in
    let copies = live_replayed session_semantics session_needs in
    let again = live_again session_semantics session_needs in
    let through =
    logs_whole live_machine s new.session g.S.Source.left g.S.Source.failed g.S.Source.ended g.T.Target.taken
    g.T.Target.failed c.args.reader.now new.reader c.args.writer.now new.writer _ c.meters_u64.ensures.value h in
    let held = subst FitsMeters c.meters_u64.ensures.value c.meters_u64.ensures.fits in
    record {
      lived = through;
      again = repeats_in logs logs again _ _ s _ _ _ h.0.3 h.0.4.0 h.0.4.0.faultless h.0.4.1 held;
      replays = repeats_in logs (replay_logs session_semantics) copies _ _ s _ _ _ h.0.3 h.0.4.0 h.0.4.0.faultless h.0.4.1 held;
      history = logs_history g.S.Source.left g.S.Source.failed g.S.Source.ended g.T.Target.taken g.T.Target.failed
          (c.args.reader.now, new.reader) (c.args.writer.now, new.writer) live_machine live_history live_follows s
          new.session (Ok c.meters_u64.result) through;
    }

pub meters_u64-requires : goal.meters_u64-requires
meters_u64-requires g c = assumption c.well_formed
