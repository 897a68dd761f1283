use Rattle.cred_table.proofs.Typed.{count_read}
use Rattle.cred_table.proofs.parse.read_count.Goals as goal

pub returns : goal.returns
returns c = count_read 2 c.args.cursor.now c.read_member.new.cursor _ _ c.read_member.ensures c.count_of_item.ensures
