use Rattle.std.proofs.Common.{arith, rules}
use Rattle.cred_table.proofs.Filled.{take_free}
use Rattle.cred_table.proofs.chains.Chains.take_free.Goals as goal

pub returns-clause-linked : goal.returns-clause-linked
returns-clause-linked g c = search (rules, arith, take_free)
