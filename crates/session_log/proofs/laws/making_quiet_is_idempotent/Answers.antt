use Rattle.session_log.proofs.Quieted.{quiet_again}
use Rattle.session_log.proofs.laws.making_quiet_is_idempotent.Goals as goal

pub returns-clause-faultless : goal.returns-clause-faultless
returns-clause-faultless c = λ start h bytes sound. (quiet_again start h bytes sound).0

pub returns-clause-text : goal.returns-clause-text
returns-clause-text c = λ start h bytes sound. (quiet_again start h bytes sound).1
