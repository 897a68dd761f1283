use Rattle.cred_table.proofs.Typed.{hash_read}
use Rattle.cred_table.proofs.parse.read_hash.Goals as goal

pub returns : goal.returns
returns c = hash_read c.args.key c.args.cursor.now c.read_member.new.cursor _ _ c.read_member.ensures c.hash_of_item.ensures
