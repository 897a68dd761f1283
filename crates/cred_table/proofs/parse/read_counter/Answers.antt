use Rattle.cred_table.proofs.Typed.{counter_read}
use Rattle.cred_table.proofs.parse.read_counter.Goals as goal

pub returns : goal.returns
returns c = counter_read c.args.key c.args.cursor.now c.read_member.new.cursor _ _ c.read_member.ensures
    c.counter_of_item.ensures
