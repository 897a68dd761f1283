use Rattle.std.proofs.Common.{rules}
use Rattle.session_log.specs.{Replay.Plays, Replay.Writes, Replay.live_history, Replay.live_machine}
use Rattle.hidlog_c.{specs.Commands.PlaysLinesOnHistory, specs.Commands.PlaysLines, proofs.Written.written}
use Rattle.hidlog_c.proofs.lines.play.Goals as goal

pub returns-clause-does : goal.returns-clause-does
returns-clause-does c =
    let s = c.args.session.now in
    let t = c.process_live_lines.new.session in
    let parsed = c.process_live_lines.ensures in
    written live_machine s c.process_live_lines.result c.args.log.now (c.new.result, c.process_live_lines.new.reader)
    (c.args.writer.now, c.process_live_lines.new.writer) (Plays live_machine s t) (PlaysLines s t)
    (λ bytes rest text plays finds. (plays, finds))
    c.new.ensures.left (search rules) parsed.played parsed.reach parsed.end parsed.reads parsed.writes

pub returns-clause-history : goal.returns-clause-history
returns-clause-history c = λ start h stands.
    let parsed = c.process_live_lines.ensures in
    let found = parsed.history start h stands in (
      found.0,
      found.1,
      written (live_history start) h c.process_live_lines.result c.args.log.now (c.new.result, c.process_live_lines.new.reader)
          (c.args.writer.now, c.process_live_lines.new.writer) (Writes (live_history start) h found.0)
          (PlaysLinesOnHistory start h found.0)
          (λ bytes rest text plays finds. (plays, finds)) c.new.ensures.left (search rules) found.2 found.3 parsed.end
          parsed.reads parsed.writes,
    )
