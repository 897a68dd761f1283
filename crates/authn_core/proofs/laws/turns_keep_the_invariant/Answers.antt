use Rattle.authn_core.proofs.Histories.{turn_keeps}
use Rattle.authn_core.proofs.laws.turns_keep_the_invariant.Goals as goal

pub returns : goal.returns
returns c = λ u s t e r. (turn_keeps u s t e r).0
