use Rattle.std.proofs.Common.{arith}
use Rattle.session_log.{specs.Replay.history, specs.Replay.live_history, proofs.Groups.plays_unmetered}
use Rattle.session_log.proofs.command.ReplayMode.play.Goals as goal

pub returns-in-Replay : goal.returns-in-Replay
returns-in-Replay g c =
    let after = c.replay.new in
    rw (c.in-Replay.is, c.discard_meters.ensures) (record {
      plays = λ start h stands.
          let found = c.replay.ensures.history start h stands in
          let q =
          plays_unmetered (history start) h found.0 g.S.Source.left g.S.Source.failed g.S.Source.ended g.T.Target.taken
          g.T.Target.failed _ (c.args.reader.now, after.reader) (c.args.writer.now, after.writer) found.2 in
          (found.0, found.1, q.0, q.1, q.2);
      grown = search;
    })

pub returns-in-Live : goal.returns-in-Live
returns-in-Live g c =
    let after = c.live.new in
    rw (c.in-Live.is, c.discard_meters-in-Live.ensures) (record {
      plays = λ start h stands.
          let found = c.live.ensures.history start h stands in
          let q =
          plays_unmetered (live_history start) h found.0 g.S.Source.left g.S.Source.failed g.S.Source.ended
          g.T.Target.taken g.T.Target.failed _ (c.args.reader.now, after.reader) (c.args.writer.now, after.writer)
          found.2 in
          (found.0, found.1, q.0, q.1, q.2);
      grown = search;
    })

pub returns-in-Check : goal.returns-in-Check
returns-in-Check g c = search arith

pub returns-in-Quiet : goal.returns-in-Quiet
returns-in-Quiet g c = search arith

pub replay-requires : goal.replay-requires
replay-requires g c = (assumption c.well_formed, (c.requires.reads, c.requires.writes))

pub live-requires : goal.live-requires
live-requires g c = (assumption c.well_formed, (c.requires.reads, c.requires.writes))

pub check-requires : goal.check-requires
check-requires g c = (assumption c.well_formed, (c.requires.reads, c.requires.writes))

pub quiet-requires : goal.quiet-requires
quiet-requires g c = (assumption c.well_formed, (c.requires.reads, c.requires.writes))
