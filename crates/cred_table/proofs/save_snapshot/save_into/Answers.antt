use Rattle.std.proofs.Common.{arith}
use Rattle.cred_table.proofs.SavedRows.{saved_into}
use Rattle.cred_table.proofs.save_snapshot.save_into.Goals as goal

pub returns : goal.returns
returns g c =
    let table = c.args.table.now in
    let space = c.if-out.false in
    saved_into g.row.C (g.T.Table.rows table) c.args.out.now c.snapshot_into.new.buffer c.snapshot_into.result
    (g.met.T.Table.capacity table).1 (g.met.T.Table.lawful table) c.snapshot_into.ensures.typed
    (omega (arith, space)) c.snapshot_into.ensures.front c.snapshot_into.ensures.rest c.snapshot_into.ensures.within
