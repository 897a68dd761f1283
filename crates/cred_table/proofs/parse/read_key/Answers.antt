use Rattle.std.proofs.Common.{arith, ◌-◌}
use Rattle.cred_table.proofs.Typed.{key_read}
use Rattle.cred_table.proofs.parse.read_key.Goals as goal

pub returns : goal.returns
returns c = key_read (5 - c.args.level) c.args.key c.args.cursor.now c.read_item.new.cursor _ _ (omega arith)
    c.read_item.ensures c.check_key.ensures
