use Rattle.std.proofs.Common.{arith, ◌-◌}
use Rattle.ctap_cbor.specs.Views.{to_part, head_tree}
use Rattle.ctap_message.{specs.Members.descriptor_types, specs.Fields.descriptor_in, proofs.Collecting.adds_head}
use Rattle.ctap_message.specs.Collected.{to_descriptor, descriptor_next}
use Rattle.ctap_message.proofs.Collecting.{descriptor_grows, descriptor_heads, transports_arm}
use Rattle.ctap_message.proofs.descriptor.DescriptorMembers.member.Goals as goal

pub returns-in-Text-transports : goal.returns-in-Text-transports
returns-in-Text-transports c = grind (arith, transports_arm)

pub returns-in_ok-value-in_default : goal.returns-in_ok-value-in_default
returns-in_ok-value-in_default c =
    adds_head to_descriptor descriptor_types descriptor_in descriptor_next (5 - c.args.level) (to_part c.args.key)
    (to_part c.in_ok-value-in_default.value) c.put.result c.args.self.now c.put.new.self c.args.cursor.now
    c.read_whole_item.new.self
    descriptor_grows (descriptor_heads (head_tree (to_part c.args.key)) c.put.ensures.plain)
    c.in_ok-value-in_default.ensures c.put.ensures.typed c.put.ensures.value
