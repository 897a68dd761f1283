use Rattle.std.proofs.Common.{◌≡◌, Bool, cond, Some, refl, sym, ◌∙◌, ap}
use Rattle.session_log.specs.{Replay.quiet_machine, Grammar.parsed, Semantics.with_line_feed, Semantics.tick_text}
use Rattle.session_log.specs.declared.line.Line.TheVariants.{Comment, Input}
use Rattle.session_log.proofs.Groups.{drops, writes_for}
use Rattle.session_log.proofs.quiet_player.QuietPlayerPlayer.play.Goals as goal

pub returns-then-noise : goal.returns-then-noise
returns-then-noise g c =
    let line = c.args._line.now in
    let x = c.in-Input.timed in
    let is : parsed line ≡ Some (Input x) = c.requires.means ∙ ap Some c.in-Input.is in
    let noise = sym c.if-noise.true ∙ c.noise-noise.ensures.state in
    writes_for quiet_machine g.T.Target.taken g.T.Target.failed c.args._number c.args.session.now c.step.new.self line
    (Input x) (c.args.writer.now, c.put_tick.new.writer) c.put_tick.result (with_line_feed (tick_text x.at)) is refl
    c.step.ensures.state tt (ap (λ (b : Bool). with_line_feed (cond b (tick_text x.at) line)) noise) c.put_tick.ensures
    c.drop_packets.ensures

pub returns-else-noise : goal.returns-else-noise
returns-else-noise g c =
    let line = c.args._line.now in
    let x = c.in-Input.timed in
    let is : parsed line ≡ Some (Input x) = c.requires.means ∙ ap Some c.in-Input.is in
    let noise = sym c.if-noise.false ∙ c.noise-noise.ensures.state in
    writes_for quiet_machine g.T.Target.taken g.T.Target.failed c.args._number c.args.session.now c.step.new.self line
    (Input x) (c.args.writer.now, c.put_text-else-noise.new.writer) c.put_text-else-noise.result
    c.args.text.now is refl c.step.ensures.state tt
    (c.requires.ended ∙ ap (λ (b : Bool). with_line_feed (cond b (tick_text x.at) line)) noise) c.put_text-else-noise.ensures
    c.drop_packets.ensures

pub returns-in-Comment : goal.returns-in-Comment
returns-in-Comment g c =
    let s = c.args.session.now in
    let is : parsed c.args._line.now ≡ Some Comment = c.requires.means ∙ ap Some c.in-Comment.is in
    writes_for quiet_machine g.T.Target.taken g.T.Target.failed c.args._number s s _ Comment
    (c.args.writer.now, c.put_text.new.writer) c.put_text.result _ is refl refl tt c.requires.ended c.put_text.ensures
    c.requires.ready

pub returns-in-Sent : goal.returns-in-Sent
returns-in-Sent g c =
    drops quiet_machine g.T.Target.taken g.T.Target.failed c.args._number c.args.session.now c.args._line.now
    c.args.meaning c.args.writer.now c.in-Sent.is c.requires.means (λ x. (refl, refl, tt, refl)) (refl, refl, tt, refl)
    c.requires.ready

pub step-requires : goal.step-requires
step-requires g c = (assumption c.well_formed, c.requires.ready)

pub put_tick-requires : goal.put_tick-requires
put_tick-requires g c = c.requires.write

pub put_text-requires-else-noise : goal.put_text-requires-else-noise
put_text-requires-else-noise g c = c.requires.write

pub put_text-requires : goal.put_text-requires
put_text-requires g c = c.requires.write

pub noise-noise-requires : goal.noise-noise-requires
noise-noise-requires g c = assumption c.well_formed
