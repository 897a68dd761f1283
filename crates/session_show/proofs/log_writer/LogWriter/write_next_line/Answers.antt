use Rattle.std.proofs.Common.{◌∙◌, sym}
use Rattle.session_show.proofs.Told.{broken_line}
use Rattle.session_show.proofs.log_writer.LogWriter.write_next_line.Goals as goal

pub returns-in-Err-put_with_line_number-clause-shown : goal.returns-in-Err-put_with_line_number-clause-shown
returns-in-Err-put_with_line_number-clause-shown g c = broken_line c.args.number c.args.line.now _ _ c.in-Some.parsed
    (sym c.parse_line.ensures ∙ c.in-Some.is) c.in-Err-put_with_line_number.ensures.1
