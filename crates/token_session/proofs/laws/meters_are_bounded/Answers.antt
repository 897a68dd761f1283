use Rattle.ctap_message.specs.Requests.{steps_of}
use Rattle.token_session.specs.{History.received, Meters.meters_of, Meters.requests}
use Rattle.token_session.proofs.Carrying.{peak_few, few_steps, few_capped}
use Rattle.token_session.proofs.laws.meters_are_bounded.Goals as goal

pub returns : goal.returns
unfolding meters_of
returns c = record {
  held = λ start h. peak_few start (received start h);
  steps = λ start h. few_capped _ _ _ (few_steps steps_of c.steps_are_bounded.ensures
      (requests start (received start h)));
}
