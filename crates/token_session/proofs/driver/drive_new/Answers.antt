use Rattle.std.proofs.Common.{[], length, take}
use Rattle.token_session.specs.{Meters.inputs_done, History.received}
use Rattle.token_session.proofs.{Headline.meters_named, Headline.run_answered, Headline.whole_reverse, Sizes.session_small}
use Rattle.token_session.proofs.driver.drive_new.Goals as goal

pub returns : goal.returns
unfolding received
returns g c =
    let begun = c.new-session.ensures.value in
    let done = take (inputs_done (length c.args.inputs.now) c.drive.result) c.args.inputs.now in
    let lawful = c.args.rows.lawful in
    record {
      answered = run_answered _ done c.drive.new.sent.items (rw c.clear.ensures at (c.drive.ensures.sent _ [] begun))
          (c.every_history_is_answered.ensures.answered _ _ lawful);
      bounded = c.every_history_is_answered.ensures.bounded _ _ lawful (whole_reverse done c.drive.ensures.whole);
      numbers = rw c.clear.ensures at (c.drive.ensures.told _ [] c.new-session.ensures.follows);
      meters = meters_named _ c.args.inputs.now c.drive.result c.drive.new.session (c.drive.ensures.after _ [] begun)
          c.drive.ensures.meters;
      full = c.drive.ensures.full;
      capacity = rw (c.clear.ensures, begun) at c.drive.ensures.run.capacity;
    }

pub new-session-requires : goal.new-session-requires
new-session-requires g c = (search, search session_small)

pub drive-requires : goal.drive-requires
drive-requires g c = (search session_small, search)
