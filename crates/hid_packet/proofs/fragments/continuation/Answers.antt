use Rattle.std.proofs.Common.{◌+◌, ◌∙◌, arith, length, length-append}
use Rattle.hid_packet.{specs.Message.continuation_packet, proofs.MessagePackets.filled}
use Rattle.hid_packet.proofs.fragments.continuation.Goals as goal

pub returns : goal.returns
unfolding continuation_packet
returns c = c.write_cont_packet.ensures ∙ filled _ (5 + length c.args.part.now) (simp length-append (omega arith))
