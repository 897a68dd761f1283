use Rattle.std.proofs.Common.{[], rules}
use Rattle.session_log.specs.Replay.{PlaysWholeLog}
use Rattle.hidlog_c.specs.{Commands.IsWritten, Commands.PlaysSliceIn, Key.start_with}
use Rattle.hidlog_c.proofs.Written.{by_command, written}
use Rattle.hidlog_c.proofs.commands.play.Goals as goal

pub returns-clause-does : goal.returns-clause-does
returns-clause-does c = λ rows stands.
    let after = c.play.new in
    by_command c.args.command rows _ _ _ _ _ c.play.result after.session _ _
    (IsWritten c.args.log.now after.writer.buffer.now after.writer.len c.play.result)
    (λ S semantics x later moves reach counted.
    written semantics x c.play.result c.args.log.now (c.new.result, after.reader) (c.args.writer.now, after.writer)
    (PlaysWholeLog semantics x later)
    (PlaysSliceIn semantics x) (λ bytes rest text made finds. (later, made, finds)) c.new.ensures.left (search rules) moves
    reach
    counted.2 counted.0 counted.1) (c.play.ensures.plays (start_with rows) [] stands)
