use Rattle.session_log.{specs.Lines.lines, specs.Replay.history_semantics, proofs.Groups.first_difference}
use Rattle.session_log.proofs.laws.differences_are_the_first.Goals as goal

pub returns : goal.returns
returns c = λ start h bytes line packet differs. first_difference (history_semantics start) h (lines bytes) line packet differs
