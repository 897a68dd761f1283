use Rattle.std.proofs.Common.{◌-◌}
use Rattle.ctap_message.proofs.Collecting.{texts_read}
use Rattle.ctap_message.proofs.descriptor.read_texts.Goals as goal

pub returns : goal.returns
returns c = texts_read (5 - c.args.level) c.read_array.result _ c.read_array.new.entries c.args.cursor.now
    c.read_array.new.cursor c.read_array.ensures
