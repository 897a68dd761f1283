use Rattle.cred_table.proofs.Filled.{raise}
use Rattle.cred_table.proofs.chains.Chains.raise.Goals as goal

pub raise-requires : goal.raise-requires
raise-requires g c = record { there = c.requires.linked.inside c.args.number c.requires.held; below = c.requires.below }

pub returns-clause-linked : goal.returns-clause-linked
returns-clause-linked g c = (raise c.args.self.now c.args.number c.raise.new.slots c.requires.linked c.requires.held
    c.raise.ensures.slots).0

pub returns-clause-rows : goal.returns-clause-rows
returns-clause-rows g c = (raise c.args.self.now c.args.number c.raise.new.slots c.requires.linked c.requires.held
    c.raise.ensures.slots).1
