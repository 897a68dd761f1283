use Rattle.std.proofs.Common.{arith, sym, subst, List}
use Rattle.cred_table.specs.{declared.row.Row.Row, Rows.ValidRows}
use Rattle.cred_table.proofs.{Stored.none_replaced, Stored.stored_last, Stored.Lawful-put}
use Rattle.cred_table.proofs.listed.ListedTable.put.Goals as goal

pub invariant_of-self : goal.invariant_of-self
invariant_of-self g c =
    let before = c.args.self.now in
    let alone = none_replaced c.args.row before.list.items c.requires.alone in
    let P : List Row → Type 0 = λ rows. ValidRows g.row.C rows in
    record {
      lawful = subst P (sym c.push.ensures.items)
          (Lawful-put g.row.C c.args.row before.list.items before.lawful c.requires.capacity c.requires.fresh alone);
      some = before.some;
      few = before.few;
    }

pub returns-clause-stored : goal.returns-clause-stored
returns-clause-stored g c = grind (arith, none_replaced, stored_last)
