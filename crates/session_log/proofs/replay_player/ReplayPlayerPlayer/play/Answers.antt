use Rattle.std.proofs.Common.{◌≡◌, Some, flat_map, ◌++◌, refl, ◌∙◌, ap, subst}
use Rattle.session_log.specs.{Replay.machine, Grammar.parsed, Semantics.ArePackets, Semantics.sent_text}
use Rattle.session_log.specs.declared.line.Line.TheVariants.{Comment, Input}
use Rattle.session_log.proofs.Groups.{drops, fits_ended, writes_for}
use Rattle.session_log.proofs.replay_player.ReplayPlayerPlayer.play.Goals as goal

pub returns-in-Input : goal.returns-in-Input
returns-in-Input g c =
    let line = c.args._line.now in
    let x = c.in-Input.timed in
    let is : parsed line ≡ Some (Input x) = c.requires.means ∙ ap Some c.in-Input.is in
    let text = c.args.text.now ++ flat_map sent_text c.step.new.outbox in
    writes_for machine g.T.Target.taken g.T.Target.failed c.args._number c.args.session.now c.step.new.self line
    (Input x) (c.args.writer.now, c.put_input.new.writer) c.put_input.result text is refl
    c.step.ensures.state (subst ArePackets c.step.ensures.packets c.put_input.ensures.packets)
    (λ i. c.requires.ended i ++ flat_map sent_text (c.step.ensures.packets i)) c.put_input.ensures.puts
    c.put_input.ensures.empty

pub returns-in-Comment : goal.returns-in-Comment
returns-in-Comment g c =
    let s = c.args.session.now in
    let is : parsed c.args._line.now ≡ Some Comment = c.requires.means ∙ ap Some c.in-Comment.is in
    writes_for machine g.T.Target.taken g.T.Target.failed c.args._number s s _ Comment
    (c.args.writer.now, c.put_text.new.writer) c.put_text.result _ is refl refl tt c.requires.ended c.put_text.ensures
    c.requires.ready

pub returns-in-Sent : goal.returns-in-Sent
returns-in-Sent g c =
    drops machine g.T.Target.taken g.T.Target.failed c.args._number c.args.session.now c.args._line.now c.args.meaning
    c.args.writer.now c.in-Sent.is c.requires.means (λ x. (refl, refl, tt, refl)) (refl, refl, tt, refl)
    c.requires.ready

pub step-requires : goal.step-requires
step-requires g c = (assumption c.well_formed, c.requires.ready)

pub put_input-requires : goal.put_input-requires
put_input-requires g c =
    let short = fits_ended c.args._line.now _ c.requires.ended c.requires.short in
    record { write = c.requires.write; short = short; few = c.step.ensures.few }

pub put_text-requires : goal.put_text-requires
put_text-requires g c = c.requires.write
