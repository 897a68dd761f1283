use Rattle.std.proofs.Common.{arith, sym, ◌∙◌}
use Rattle.cred_table.proofs.Stored.{no_clash}
use Rattle.cred_table.proofs.load_snapshot.put_new.Goals as goal

pub put-requires-clause-fresh : goal.put-requires-clause-fresh
put-requires-clause-fresh g c = grind (arith, no_clash)

pub put-requires-clause-alone : goal.put-requires-clause-alone
put-requires-clause-alone g c = (no_clash c.args.row (g.T.Table.rows c.args.table.now) (sym c.clashes.ensures
    ∙ c.if-clashes.false)).1
