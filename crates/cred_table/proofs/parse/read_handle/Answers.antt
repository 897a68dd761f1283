use Rattle.cred_table.proofs.Typed.{short_read}
use Rattle.cred_table.proofs.parse.read_handle.Goals as goal

pub returns : goal.returns
returns c = short_read c.args.key c.args.cursor.now c.read_member.new.cursor _ _ c.read_member.ensures
    c.handle_of.ensures
