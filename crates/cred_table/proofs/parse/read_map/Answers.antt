use Rattle.std.proofs.Common.{arith, ◌-◌}
use Rattle.cred_table.proofs.Typed.{map_read}
use Rattle.cred_table.proofs.parse.read_map.Goals as goal

pub returns : goal.returns
returns c = map_read (5 - c.args.level) c.args.count c.args.cursor.now c.read_item.new.cursor _ _ (omega arith) (omega arith)
    c.read_item.ensures c.check_map.ensures
