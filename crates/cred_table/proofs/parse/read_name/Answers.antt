use Rattle.cred_table.proofs.Typed.{name_read}
use Rattle.cred_table.proofs.parse.read_name.Goals as goal

pub returns : goal.returns
returns c = rw c.if-not-named.false (name_read 8 c.args.cursor.now c.read_member.new.cursor _ _ c.read_member.ensures
    c.name_of_item.ensures)
