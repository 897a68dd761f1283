use Rattle.cred_table.proofs.SavedRows.{Put}
use Rattle.ctap_cbor.specs.Writing.{SameBuffer}
use Rattle.cred_table.proofs.save_snapshot.put_snapshot.Given as goal

abbrev pub invariant-loop-row : goal.invariant-loop-row
invariant-loop-row g l = record {
  put : Put (g.T.Table.rows l.table) l.row-iterator l.fn.sink l.sink;
  same : SameBuffer l.fn.sink l.sink;
}
