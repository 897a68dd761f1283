use Rattle.token_session.proofs.Sizes.{core_within, table_within}
use Rattle.token_session.proofs.session.Session.table.Goals as goal

pub table-requires-room-T-Table : goal.table-requires-room-T-Table
table-requires-room-T-Table g c κs = search table_within

pub table-requires : goal.table-requires
table-requires g c = search core_within
