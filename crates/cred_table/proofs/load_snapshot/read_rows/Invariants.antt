use Rattle.cred_table.specs.Snapshots.{ReadsFirstRows}
use Rattle.cred_table.proofs.load_snapshot.read_rows.Given as goal

abbrev pub invariant-loop-place : goal.invariant-loop-place
invariant-loop-place g l = ReadsFirstRows l.named l.place l.fn.cursor l.cursor l.rows.list.items
