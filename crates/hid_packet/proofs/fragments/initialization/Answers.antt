use Rattle.std.proofs.Common.{◌+◌, ◌∙◌, arith, length, length-append}
use Rattle.hid_packet.{specs.Message.initialization_packet, proofs.MessagePackets.filled}
use Rattle.hid_packet.proofs.fragments.initialization.Goals as goal

pub returns : goal.returns
unfolding initialization_packet
returns c = c.write_init_packet.ensures ∙ filled _ (7 + length c.args.part.now) (simp length-append (omega arith))
