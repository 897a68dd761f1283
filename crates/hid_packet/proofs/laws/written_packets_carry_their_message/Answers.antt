use Rattle.hid_packet.{specs.Message.message_packets, proofs.MessagePackets.written_carries}
use Rattle.hid_packet.proofs.laws.written_packets_carry_their_message.Goals as goal

pub returns : goal.returns
unfolding message_packets
returns c = written_carries
