use Rattle.std.proofs.Common.{◌≡◌, ◌++◌}
use Rattle.cred_table.proofs.load_snapshot.load_rows.Given as goal

abbrev pub invariant-loop-row : goal.invariant-loop-row
invariant-loop-row g l = g.T.Table.rows l.table ++ l.row-iterator ≡ l.fn.rows.list.items
