use Rattle.std.{proofs.Common.◌≤◌, specs.Vec.vec_capacity}
use Rattle.cred_table.proofs.SavedRows.{Written}
use Rattle.cred_table.proofs.save_snapshot.write_rows.Given as goal

abbrev pub invariant-loop-row : goal.invariant-loop-row
invariant-loop-row g l = record {
  written : Written (g.T.Table.rows l.table) l.row-iterator l.fn.out.items l.out.items;
  capacity : vec_capacity l.fn.out ≤ vec_capacity l.out;
}
