use Rattle.std.proofs.Common.{subst}
use Rattle.session_log.specs.Replay.{ending_of}
use Rattle.session_show.specs.{Shown.Shows, Shown.rule_for_format, declared.log_writer.OutputFormat.OutputFormat}
use Rattle.session_show.proofs.show_log.explain.Goals as goal

pub returns-clause-shown : goal.returns-clause-shown
returns-clause-shown g c =
    subst (λ (f : OutputFormat). Shows (rule_for_format f) (g.S.Source.left c.args.reader.now, g.S.Source.left c.write_log.new.reader)
    (g.T.Target.taken c.args.writer.now, g.T.Target.taken c.write_log.new.writer) (ending_of c.write_log.result))
    c.new.ensures c.write_log.ensures.shown
