use Rattle.std.proofs.Common.{inl, sym}
use Rattle.clap.specs.Words.{kind_of}
use Rattle.hidlog.specs.{CommandLine.task_and_verbosity, CommandLine.to_texts, Program.to_result}
use Rattle.hidlog.proofs.CommandLine.{done, unasked}
use Rattle.hidlog.proofs.host.Host.run.Goals as goal

pub returns-in-Err-clause-answered : goal.returns-in-Err-clause-answered
returns-in-Err-clause-answered g c =
    rw c.of.ensures (unasked _ (to_texts c.args.words.now) (kind_of c.in-Err.error) c.in-Err.ensures.answer
    c.write_clap_message.ensures.explains
    (kind_of c.in-Err.error, c.in-Err.ensures.answer, c.write_clap_message.ensures.explains))

pub returns-in-Play-clause-answered : goal.returns-in-Play-clause-answered
returns-in-Play-clause-answered g c =
    done _ _ (to_texts c.args.words.now) (task_and_verbosity c.in-Ok.asked) c.in-Ok.ensures.task
    (inl (rw (c.in-Play.is, sym c.explains-explains.ensures) c.run_command.ensures.does))

pub returns-clause-answered : goal.returns-clause-answered
returns-clause-answered g c =
    done _ _ (to_texts c.args.words.now) (task_and_verbosity c.in-Ok.asked) c.in-Ok.ensures.task
    (inl (rw (c.in-Show.is, sym c.explains-explains.ensures, sym c.explains-is_explained.ensures) (
      to_result c.show_log-came.result,
      c.show_log-came.new.self,
      c.show_log-came.ensures,
      c.report_result.ensures.reports,
    )))
