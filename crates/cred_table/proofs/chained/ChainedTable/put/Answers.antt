use Rattle.std.proofs.{lemmas.Grind.common_steps, Common.arith}
use Rattle.cred_table.{specs.Slots.rows_in, proofs.Stored.Lawful-put}
use Rattle.cred_table.proofs.Stored.{none_replaced, stored_last}
use Rattle.cred_table.proofs.chained.ChainedTable.put.Goals as goal

pub invariant_of-self : goal.invariant_of-self
invariant_of-self g c =
    let rows = rows_in c.args.self.now.chains in
    let alone = none_replaced c.args.row rows c.requires.alone in
    let lawful = Lawful-put g.row.C c.args.row rows c.args.self.now.lawful c.requires.capacity c.requires.fresh alone in
    record {
      linked = c.fill.ensures.linked;
      lawful = grind (arith, lawful);
      counted = grind (arith, common_steps);
      some = c.args.self.now.some;
      few = c.args.self.now.few;
    }

pub returns-clause-stored : goal.returns-clause-stored
returns-clause-stored g c = grind (arith, none_replaced, stored_last)

pub overflow_add-self : goal.overflow_add-self
overflow_add-self g c = omega arith
