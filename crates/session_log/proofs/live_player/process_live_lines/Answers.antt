use Rattle.session_log.{specs.Replay.ending_of, proofs.SemanticsLaws.lines_history}
use Rattle.session_log.proofs.live_player.process_live_lines.Goals as goal

pub returns : goal.returns
returns g c =
    let h = c.process_lines.ensures.played in
    let session = c.process_lines.new.session in
    let found = lines_history _ _ _ _ c.args.session.now session (ending_of c.process_lines.result) _ h.0 h.1 in
    record { played = h.0; end = h.2.2; reach = h.1; history = found; reads = h.2.0; writes = h.2.1 }
