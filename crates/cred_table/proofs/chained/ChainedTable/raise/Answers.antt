use Rattle.std.proofs.{lemmas.Grind.common_steps, Common.arith}
use Rattle.cred_table.specs.Slots.{slots_by_age, rows_in}
use Rattle.cred_table.proofs.{Stored.Lawful-raised, Filled.raised_is, Filled.counter_slot}
use Rattle.cred_table.proofs.chained.ChainedTable.raise.Goals as goal

pub raise-requires : goal.raise-requires
raise-requires g c = grind (arith, counter_slot)

pub invariant_of-self : goal.invariant_of-self
invariant_of-self g c =
    let chains = c.args.self.now.chains in
    let raised = raised_is chains.slots c.args.id.now (slots_by_age chains) c.number-number.result
    c.args.self.now.lawful.distinct
    c.number-number.ensures.held c.number-number.ensures.named in
    let lawful = Lawful-raised g.row.C c.args.id.now (rows_in chains) c.args.self.now.lawful in
    record {
      linked = c.raise.ensures.linked;
      lawful = grind (arith, raised, lawful);
      counted = grind (arith, common_steps);
      some = c.args.self.now.some;
      few = c.args.self.now.few;
    }

pub returns-clause-raised : goal.returns-clause-raised
returns-clause-raised g c = grind (arith, raised_is)

pub returns-clause-value : goal.returns-clause-value
returns-clause-value g c = grind (arith, counter_slot)
