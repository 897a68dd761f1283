use Rattle.cred_table.proofs.Typed.{flag_read}
use Rattle.cred_table.proofs.parse.read_flag.Goals as goal

pub returns : goal.returns
returns c = flag_read c.args.key c.args.cursor.now c.read_member.new.cursor _ _ c.read_member.ensures c.flag_of_item.ensures
