use Rattle.std.proofs.Common.{arith}
use Rattle.cred_table.proofs.Stored.{may_be_put, one_copied, one_left_out}
use Rattle.cred_table.proofs.copy.copy_without.Goals as goal

pub put-requires : goal.put-requires
put-requires g c =
    let m = may_be_put g.row.C c.args.id.now (g.T.Table.rows c.args.from.now) c.loop-row.row-iterator c.next.new.self
    c.in-Some.row.now c.copy_row.result (g.U.Table.rows c.loop-row.to) (g.met.T.Table.lawful c.args.from.now)
    c.in-Some.ensures.steps c.copy_row.ensures c.loop-row.invariant in
    record { capacity = m.space; fresh = m.fresh; alone = m.alone }

pub loop-row-preserved-then-ne : goal.loop-row-preserved-then-ne
loop-row-preserved-then-ne g c = grind (arith, one_copied)

pub loop-row-preserved : goal.loop-row-preserved
loop-row-preserved g c = grind (arith, one_left_out)
