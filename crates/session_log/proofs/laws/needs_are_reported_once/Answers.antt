use Rattle.session_log.proofs.Spelled.{last_says, pieces_joined, pieces_short}
use Rattle.session_log.proofs.laws.needs_are_reported_once.Goals as goal

pub returns-clause-last : goal.returns-clause-last
returns-clause-last c = last_says

pub returns-clause-joined : goal.returns-clause-joined
returns-clause-joined c = pieces_joined

pub returns-clause-short : goal.returns-clause-short
returns-clause-short c = pieces_short
