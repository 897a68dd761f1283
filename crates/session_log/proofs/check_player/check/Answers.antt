use Rattle.std.proofs.Common.{refl, subst}
use Rattle.session_log.specs.{Check.check_machine, Command.PlaysThrough, Replay.ending_of, Replay.PlaysWholeLog}
use Rattle.session_log.proofs.{Groups.standing, SemanticsLaws.checks_history, SemanticsLaws.makes}
use Rattle.session_log.proofs.check_player.check.Goals as goal

pub returns : goal.returns
returns g c =
    let s = c.args.session.now in
    let new = c.process_log.new in
    let r = c.process_log.result in
    let from = standing c.new-player.result s in
    let to = standing new.player new.session in
    let through = subst
    (λ b. PlaysThrough check_machine b (λ bytes text. PlaysWholeLog check_machine b to bytes text (ending_of r)) g.S.Source.left
    g.S.Source.failed
    g.S.Source.ended g.T.Target.taken g.T.Target.failed r (c.args.reader.now, new.reader)
    (c.args.writer.now, new.writer)) (c.new-player.ensures.begun s)
    (makes check_machine from to g.S.Source.left g.S.Source.failed g.S.Source.ended g.T.Target.taken g.T.Target.failed
    c.args.reader.now new.reader c.args.writer.now new.writer r c.process_log.ensures) in
    record {
      checked = (to, refl, through);
      history = checks_history g.S.Source.left g.S.Source.failed g.S.Source.ended g.T.Target.taken g.T.Target.failed
          (c.args.reader.now, new.reader) (c.args.writer.now, new.writer) s to r through;
    }
