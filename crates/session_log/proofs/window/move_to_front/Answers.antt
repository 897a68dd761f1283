use Rattle.std.proofs.{lemmas.Grind.common_steps, lemmas.List.Edits.take-paste, Common.arith, Common.length-drop}
use Rattle.session_log.proofs.window.move_to_front.Goals as goal

pub returns : goal.returns
returns c = grind (arith, common_steps, take-paste, length-drop)
