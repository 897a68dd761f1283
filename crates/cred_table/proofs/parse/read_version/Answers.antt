use Rattle.cred_table.proofs.Typed.{version_read}
use Rattle.cred_table.proofs.parse.read_version.Goals as goal

pub returns : goal.returns
returns c = version_read 1 c.args.cursor.now c.read_member.new.cursor _ _ c.read_member.ensures c.has_names_of_item.ensures
