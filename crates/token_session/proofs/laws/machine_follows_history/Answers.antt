use Rattle.token_session.proofs.Follows.{machine_follows, step_sends}
use Rattle.token_session.proofs.laws.machine_follows_history.Goals as goal

pub returns : goal.returns
returns c = record { state = machine_follows; packets = λ start h x. step_sends _ start h x (machine_follows start h) }
