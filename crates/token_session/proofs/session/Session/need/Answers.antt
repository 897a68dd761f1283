use Rattle.token_session.proofs.Sizes.{core_within, table_within}
use Rattle.token_session.proofs.session.Session.need.Goals as goal

pub need-requires-room-T-Table : goal.need-requires-room-T-Table
need-requires-room-T-Table g c κs = search table_within

pub need-requires : goal.need-requires
need-requires g c = search core_within
