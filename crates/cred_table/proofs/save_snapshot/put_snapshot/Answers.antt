use Rattle.std.proofs.Common.{arith, rules}
use Rattle.cred_table.proofs.SavedRows.{one_put, all_put}
use Rattle.cred_table.proofs.save_snapshot.put_snapshot.Goals as goal

pub loop-row-preserved : goal.loop-row-preserved
loop-row-preserved g c = grind (arith, one_put)

pub returns-clause-appends : goal.returns-clause-appends
returns-clause-appends g c =
    all_put g.row.C (g.T.Table.rows c.args.table.now) c.loop-row.row-iterator c.args.sink.now c.loop-row.sink
    (g.met.T.Table.lawful c.args.table.now) c.in-None.ensures.steps.0 c.loop-row.invariant.put

pub returns-clause-typed : goal.returns-clause-typed
returns-clause-typed g c = search (rules, arith)
