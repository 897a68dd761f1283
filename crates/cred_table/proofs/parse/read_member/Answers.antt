use Rattle.std.proofs.Common.{◌-◌}
use Rattle.cred_table.proofs.Typed.{key_missed, key_then}
use Rattle.cred_table.proofs.parse.read_member.Goals as goal

pub returns-in_err-read_key : goal.returns-in_err-read_key
returns-in_err-read_key c = rw c.from_residual.ensures (key_missed (5 - c.args.level) c.args.key c.args.cursor.now
    c.read_key.new.cursor c.read_key.new.cursor c.in_err-read_key.ensures)

pub returns : goal.returns
returns c = key_then (5 - c.args.level) c.args.key _ c.args.cursor.now c.read_key.new.cursor c.read_item.new.cursor
    c.in_ok-read_key.ensures c.read_item.ensures
