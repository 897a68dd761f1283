use Rattle.std.proofs.Common.{arith}
use Rattle.session_log.proofs.{SemanticsLaws.quiets_history, SemanticsLaws.makes}
use Rattle.session_log.proofs.quiet_player.quiet.Goals as goal

pub returns : goal.returns
returns g c = search (arith, makes, quiets_history)
