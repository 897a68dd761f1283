use Rattle.std.proofs.lemmas.{Grind.common_steps, List.drop-take, List.take-take, List.take-append-le}
use Rattle.std.proofs.Common.{arith, length-take-le}
use Rattle.session_log.proofs.window.get_after.Goals as goal

pub returns-clause-kept : goal.returns-clause-kept
returns-clause-kept g c = grind (arith, common_steps, length-take-le, drop-take, take-append-le, take-take)
