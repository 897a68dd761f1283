use Rattle.std.proofs.Common.{rules}
use Rattle.cred_table.proofs.Typed.{cut_is}
use Rattle.cred_table.proofs.truncate.cut_name.Goals as goal

pub returns-clause-only : goal.returns-clause-only
returns-clause-only c = cut_is c.args.name.now _ (search rules)
