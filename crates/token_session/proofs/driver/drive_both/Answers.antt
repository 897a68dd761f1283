use Rattle.token_session.proofs.Metering.{drives_alike}
use Rattle.token_session.proofs.driver.drive_both.Goals as goal

pub returns-clause-alike : goal.returns-clause-alike
returns-clause-alike g c = λ start h k b b' q longer.
    drives_alike start h k c.args.inputs.now c.args.quiet.now c.drive.new.session c.drive-2.new.session c.drive.result
    c.drive-2.result _ _ _ _
    c.in_ok-one.ensures.cases c.in_ok-two.ensures.cases q longer (c.drive.ensures.after start h b)
    (c.drive-2.ensures.after start k b')
    c.drive.ensures.meters c.drive-2.ensures.meters (c.drive-2.ensures.sent start k b')

pub drive-requires : goal.drive-requires
drive-requires g c = (assumption c.well_formed, assumption c.well_formed)

pub drive-requires-2 : goal.drive-requires-2
drive-requires-2 g c = (assumption c.well_formed, assumption c.well_formed)
