use Rattle.std.proofs.Common.{sym, subst, List, arith}
use Rattle.cred_table.specs.{declared.row.Row.Row, Rows.ValidRows}
use Rattle.cred_table.proofs.{Stored.written_is, Stored.counter_is, Stored.Lawful-raised}
use Rattle.cred_table.proofs.listed.ListedTable.raise.Goals as goal

pub overflow_add-row : goal.overflow_add-row
overflow_add-row g c = grind (arith, counter_is)

pub invariant_of-self : goal.invariant_of-self
invariant_of-self g c =
    let before = c.args.self.now in
    let written =
    written_is c.args.id.now before.list.items c.as_mut_slice.result.now c.index-as_mut_slice-place.result
    c.place-place.result before.lawful.distinct c.requires.there c.place-place.ensures.value
    c.as_mut_slice.ensures.value c.index-as_mut_slice-place.is in
    let P : List Row → Type 0 = λ rows. ValidRows g.row.C rows in
    record {
      lawful = subst P (sym written) (Lawful-raised g.row.C c.args.id.now before.list.items before.lawful);
      some = before.some;
      few = before.few;
    }

pub returns-clause-raised : goal.returns-clause-raised
returns-clause-raised g c = grind (arith, written_is)

pub returns-clause-value : goal.returns-clause-value
returns-clause-value g c = grind (arith, counter_is)
