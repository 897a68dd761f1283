use Rattle.std.proofs.Common.{arith, length, ◌≤◌, ◌∙◌, subst, List}
use Rattle.token_session.specs.Inputs.{ReceivedInput}
use Rattle.hid_packet.specs.Packet.{MAX_MESSAGE_LEN}
use Rattle.cred_table.specs.declared.row.Row.{Row}
use Rattle.token_session.{specs.History.received, specs.History.held, specs.History.core, proofs.Carrying.held_few}
use Rattle.token_session.proofs.Answered.{core_is, first_ready}
use Rattle.token_session.proofs.Headline.{turns_send_sent, all_carried, all_few}
use Rattle.token_session.proofs.laws.every_history_is_answered.Goals as goal

pub returns : goal.returns
returns c = record {
  answered = λ start h lawful.
      let told = c.answers_follow_history.ensures.told start h lawful in
      let least = held_few start (received start h) in
      let few : held start (received start h) ≤ MAX_MESSAGE_LEN = omega (arith, least) in
      let kept : length (core start (received start h)).state.rows ≤ start.capacity =
      rw (core_is start (received start h)) (c.rows_follow_history.ensures.lawful _ _ (first_ready start) lawful).few in
      record {
        sent = turns_send_sent start h ∙ told.packets;
        held = subst (λ (j : List ReceivedInput). held start j ≤ MAX_MESSAGE_LEN) told.inputs few;
        rows = subst (λ (r : List Row). length r ≤ start.capacity) told.rows kept;
      };
  bounded = λ start h lawful packets. record {
    carried = all_carried start h packets;
    pending = rw (core_is start (received start h)) (c.rows_follow_history.ensures.pending _ _ (first_ready start) lawful
        (omega arith));
    steps = all_few c.steps_are_bounded.ensures start (received start h);
  };
}
