use Rattle.token_session.proofs.Answered.{one_packet_finishes}
use Rattle.token_session.proofs.laws.messages_of_one_packet_finish.Goals as goal

pub returns : goal.returns
returns c = one_packet_finishes
