use Rattle.std.proofs.Common.{append_assoc, arith, length-drop, length-take}
use Rattle.session_log.proofs.Spelled.{pieces_more, one_less}
use Rattle.session_log.proofs.line_writer.push_signed.Goals as goal

pub loop-rest-preserved : goal.loop-rest-preserved
loop-rest-preserved c = search (arith, pieces_more, length-take, length-drop, one_less, append_assoc)
