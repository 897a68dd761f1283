use Rattle.std.proofs.Common.{◌<◌, ◌-◌, ◌^◌, ℕ, Err, ap, sym, subst, ◌∙◌}
use Rattle.std.proofs.lemmas.Result.{err_from_is_err_and}
use Rattle.session_log.proofs.SemanticsLaws.{ends_with, fails_with}
use Rattle.session_log.proofs.player.process_log.Goals as goal

pub returns-in_err-process_lines : goal.returns-in_err-process_lines
returns-in_err-process_lines g c =
    let state = g.P.Player.state in
    let new = c.process_lines.new in
    let r = c.from_residual.result in
    let from = err_from_is_err_and r c.from_residual.ensures.1 in
    fails_with g.P.Player.semantics (state c.args.player.now c.args.session.now) (state new.player new.session)
    g.S.Source.left g.S.Source.failed g.S.Source.ended g.T.Target.taken g.T.Target.failed c.args.reader.now new.reader
    c.args.writer.now new.writer r c.in_err-process_lines.field-0.0 (from.1 ∙ ap Err from.2)
    c.in_err-process_lines.ensures.played

pub returns : goal.returns
returns g c =
    let state = g.P.Player.state in
    let new = c.process_lines.new in
    rw (c.finish.ensures.same new.session)
    (ends_with g.P.Player.semantics (state c.args.player.now c.args.session.now) (state new.player new.session)
    g.S.Source.left g.S.Source.failed g.S.Source.ended g.T.Target.taken g.T.Target.failed c.args.reader.now new.reader
    c.args.writer.now new.writer c.finish.new.writer c.finish.result c.finish.ensures.own c.finish.ensures.closed
    c.in_ok-process_lines.ensures.played)

pub finish-requires : goal.finish-requires
finish-requires g c =
    let played = c.in_ok-process_lines.ensures in
    let write = subst (λ (k : ℕ). k < 2 ^ 64 - 1) (sym played.played.2.1) c.requires.write in
    (assumption c.well_formed, (write, played.ready))
