use Rattle.std.proofs.Common.{◌-◌}
use Rattle.ctap_message.specs.{Members.descriptor_types, Fields.descriptor_in, Collected.to_descriptor}
use Rattle.ctap_message.proofs.{Collecting.map_read, Collecting.descriptor_start}
use Rattle.ctap_message.proofs.descriptor.read_descriptor.Goals as goal

pub returns : goal.returns
returns c =
    map_read to_descriptor descriptor_types descriptor_in (5 - c.args.level) c.in_ok-typed.typed
    _ c.read_map.new.members c.args.cursor.now c.read_map.new.cursor c.in_ok-typed.ensures descriptor_start
