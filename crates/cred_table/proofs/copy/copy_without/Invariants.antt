use Rattle.cred_table.proofs.Stored.{Copied}
use Rattle.cred_table.proofs.copy.copy_without.Given as goal

abbrev pub invariant-loop-row : goal.invariant-loop-row
invariant-loop-row g l = Copied l.id (g.T.Table.rows l.from) l.row-iterator (g.U.Table.rows l.to)
