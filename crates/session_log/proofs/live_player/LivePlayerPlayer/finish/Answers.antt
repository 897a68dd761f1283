use Rattle.std.proofs.Common.{refl, ap}
use Rattle.session_log.{specs.Replay.live_machine, specs.Semantics.meters_line, proofs.Groups.closes_by}
use Rattle.session_log.proofs.live_player.LivePlayerPlayer.finish.Goals as goal

pub returns : goal.returns
returns g c =
    closes_by live_machine g.T.Target.taken g.T.Target.failed c.args.session.now
    (c.args.writer.now, c.put_meters.new.writer)
    c.put_meters.result _ refl (ap meters_line c.meters.ensures.value) c.put_meters.ensures.puts (λ s. refl)

pub put_meters-requires : goal.put_meters-requires
put_meters-requires g c = c.requires.write

pub meters-requires : goal.meters-requires
meters-requires g c = assumption c.well_formed
