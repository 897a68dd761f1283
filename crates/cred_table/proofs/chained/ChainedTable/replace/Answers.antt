use Rattle.std.proofs.lemmas.Grind.{common_steps}
use Rattle.std.proofs.Common.{◌∙◌, List, ◌++◌, ◌∷◌, [], ap, arith}
use Rattle.cred_table.{specs.declared.row.Row.Row, proofs.Filled.but_without}
use Rattle.cred_table.specs.Slots.{slots_by_age, row_at, rows_in}
use Rattle.cred_table.proofs.Stored.{id_found, replaced_is, Lawful-replace}
use Rattle.cred_table.proofs.chained.ChainedTable.replace.Goals as goal

pub number-number-requires : goal.number-number-requires
number-number-requires g c = grind (arith, id_found)

pub invariant_of-self : goal.invariant_of-self
invariant_of-self g c =
    let chains = c.args.self.now.chains in
    let kept = but_without (row_at chains.slots) c.args.old.now (slots_by_age chains) c.number-number.result
    c.args.self.now.lawful.distinct c.number-number.ensures.held c.number-number.ensures.named in
    let lawful = Lawful-replace g.row.C c.args.old.now c.args.new (rows_in chains) c.args.self.now.lawful
    c.requires.fresh c.requires.same_user in
    record {
      linked = c.fill.ensures.linked;
      lawful = grind (arith, kept, lawful);
      counted = grind (arith, common_steps);
      some = c.args.self.now.some;
      few = c.args.self.now.few;
    }

pub returns-clause-appended : goal.returns-clause-appended
returns-clause-appended g c = grind (arith, but_without)

pub returns-clause-stored : goal.returns-clause-stored
returns-clause-stored g c = λ discoverable.
    let table = c.args.self.now in
    let kept = c.unlink.ensures.rows ∙ but_without (row_at table.chains.slots) c.args.old.now
    (slots_by_age table.chains) c.number-number.result table.lawful.distinct c.number-number.ensures.held
    c.number-number.ensures.named in
    c.fill.ensures.rows ∙ (ap (λ (l : List Row). l ++ c.args.new ∷ []) kept
    ∙ replaced_is g.row.C c.args.old.now c.args.new (rows_in table.chains) table.lawful discoverable
    c.requires.same_user)
