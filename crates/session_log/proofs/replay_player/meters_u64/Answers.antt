use Rattle.std.proofs.Common.{arith}
use Rattle.session_log.proofs.replay_player.meters_u64.Goals as goal

pub meters-requires : goal.meters-requires
meters-requires g c = assumption c.well_formed

pub returns-clause-fits : goal.returns-clause-fits
returns-clause-fits g c = grind arith
