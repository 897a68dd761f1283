use Rattle.std.proofs.Common.{ℕ, List, Some, to_z, w32, subst}
use Rattle.hidlog_c.specs.{declared.outcome.CResult.CResult, Key.DeviceState, Key.no_causes, Commands.PlaysOn}
use Rattle.hidlog_c.proofs.Written.{plays_on, status_as}
use Rattle.hidlog_c.proofs.device.Device.play.Goals as goal

pub returns : goal.returns
returns c =
    let s = c.self.inside in
    let t = c.play_lines.new.session in
    let out : List ℕ × List ℕ = (c.args.out.now, c.play_lines.new.out) in
    let outcome : CResult × CResult = (c.args.outcome.now, c.play_lines.result) in
    subst
    (λ (d : DeviceState). PlaysOn d d.waiting (Some (record { aaguid = s.aaguid; session = t; waiting = s.outbox; causes = no_causes }))
    c.args.log.now out outcome (to_z w32 c.play_lines.result.status)) c.self.view_is
    (plays_on s.aaguid s.session t s.outbox s.causes c.args.log.now out outcome (to_z w32 c.play_lines.result.status)
    (c.is_empty.ensures.0 c.if-not-is_empty.false) c.play_lines.ensures
    (status_as s.session t c.args.log.now c.play_lines.new.out c.play_lines.result c.play_lines.ensures))
