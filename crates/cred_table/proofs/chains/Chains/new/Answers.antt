use Rattle.std.proofs.Common.{◌≤◌, length, arith}
use Rattle.cred_table.proofs.Filled.{new}
use Rattle.cred_table.proofs.chains.Chains.new.Goals as goal

pub returns-clause-linked : goal.returns-clause-linked
returns-clause-linked g c =
    let some : 1 ≤ length c.link_all.new.slots = omega arith in
    new c.link_all.new.slots some c.link_all.ensures
