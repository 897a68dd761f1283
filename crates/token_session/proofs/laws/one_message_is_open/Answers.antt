use Rattle.std.proofs.Common.{[]}
use Rattle.token_session.specs.{Inputs.open_at, History.received}
use Rattle.token_session.proofs.{Carrying.one_open, Carrying.held_few, Follows.good_judged}
use Rattle.token_session.proofs.laws.one_message_is_open.Goals as goal

pub returns : goal.returns
unfolding open_at
returns c = record {
  one = λ start t h le. one_open (received start h) [] start t (good_judged start h).lawful tt le;
  held = λ start h. held_few start (received start h);
}
