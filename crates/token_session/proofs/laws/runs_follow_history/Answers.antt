use Rattle.token_session.proofs.Follows.{run_after, run_sends}
use Rattle.token_session.proofs.laws.runs_follow_history.Goals as goal

pub returns : goal.returns
returns c =
    record { state = λ s start h xs. run_after xs s start h; packets = λ s start n h xs. run_sends xs s start n h }
