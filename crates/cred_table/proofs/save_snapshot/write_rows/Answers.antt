use Rattle.std.proofs.Common.{arith}
use Rattle.cred_table.proofs.SavedRows.{one_written, heads_within, row_within, all_written, on_err}
use Rattle.cred_table.proofs.save_snapshot.write_rows.Goals as goal

pub returns-in_err-write_header-clause-full : goal.returns-in_err-write_header-clause-full
returns-in_err-write_header-clause-full g c = grind (arith, heads_within)

pub loop-row-preserved : goal.loop-row-preserved
loop-row-preserved g c = grind (arith, one_written)

pub returns-in_err-write_row-clause-full : goal.returns-in_err-write_row-clause-full
returns-in_err-write_row-clause-full g c =
    let within = row_within (g.T.Table.rows c.args.table.now) c.loop-row.row-iterator c.next.new.self c.in-Some.row.now
    c.args.out.now.items c.loop-row.out.items c.in-Some.ensures.steps c.loop-row.invariant.written in
    let short = c.in_err-write_row.ensures.full in
    let capacity = c.loop-row.invariant.capacity in
    on_err c.from_residual-in_err-write_row.result (omega arith)

pub returns-clause-saved : goal.returns-clause-saved
returns-clause-saved g c =
    let table = c.args.table.now in
    all_written g.row.C (g.T.Table.rows table) c.loop-row.row-iterator c.args.out.now.items c.loop-row.out.items
    (g.met.T.Table.capacity table).1 (g.met.T.Table.lawful table) c.in-None.ensures.steps.0
    c.loop-row.invariant.written
