use Rattle.std.proofs.Common.{◌≡◌, Bool, cond, Some, [], flat_map, ◌++◌, refl, sym, ◌∙◌, ap, subst}
use Rattle.authn_core.specs.{Views.IsValidNeed, Views.to_needed}
use Rattle.token_session.specs.Meters.{stepped}
use Rattle.session_log.specs.{Replay.live_machine, Replay.session_needs, Semantics.need_lines, Grammar.parsed}
use Rattle.session_log.specs.Semantics.{ArePackets, with_line_feed, sent_text}
use Rattle.session_log.specs.declared.line.Line.TheVariants.{Comment, Input}
use Rattle.session_log.proofs.Groups.{drops, fits_ended, writes_for, writes_none}
use Rattle.session_log.proofs.live_player.LivePlayerPlayer.play.Goals as goal

pub returns-in-Input : goal.returns-in-Input
returns-in-Input g c =
    let s = c.args.session.now in
    let line = c.args.line.now in
    let x = c.in-Input.timed in
    let is : parsed line ≡ Some (Input x) = c.requires.means ∙ ap Some c.in-Input.is in
    let need : to_needed c.need.result ≡ session_needs (stepped s x) =
    c.need.ensures.value ∙ ap session_needs c.step.ensures.state in
    let text =
    c.args.text.now ++ flat_map sent_text c.step.new.outbox ++ flat_map with_line_feed (need_lines (to_needed c.need.result)) in
    writes_for live_machine g.T.Target.taken g.T.Target.failed c.args._number s c.step.new.self line (Input x)
    (c.args.writer.now, c.put_input_with_need.new.writer) c.put_input_with_need.result text is refl c.step.ensures.state
    (subst ArePackets c.step.ensures.packets c.put_input_with_need.ensures.packets, subst IsValidNeed need c.need.ensures.sized)
    (λ i. c.requires.ended i ++ flat_map sent_text (c.step.ensures.packets i) ++ flat_map with_line_feed (need_lines (need i)))
    c.put_input_with_need.ensures.puts c.put_input_with_need.ensures.empty

pub returns-then-is_need_line : goal.returns-then-is_need_line
returns-then-is_need_line g c =
    let s = c.args.session.now in
    let line = c.args.line.now in
    let is : parsed line ≡ Some Comment = c.requires.means ∙ ap Some c.in-Comment.is in
    let own = sym c.if-is_need_line.true ∙ c.is_need_line.ensures in
    writes_none live_machine g.T.Target.taken g.T.Target.failed c.args._number s s line Comment c.args.writer.now is
    refl refl tt (ap (λ (b : Bool). cond b [] (with_line_feed line)) own) c.requires.ready

pub returns-else-is_need_line : goal.returns-else-is_need_line
returns-else-is_need_line g c =
    let s = c.args.session.now in
    let line = c.args.line.now in
    let is : parsed line ≡ Some Comment = c.requires.means ∙ ap Some c.in-Comment.is in
    let other = sym c.if-is_need_line.false ∙ c.is_need_line.ensures in
    writes_for live_machine g.T.Target.taken g.T.Target.failed c.args._number s s line Comment
    (c.args.writer.now, c.put_text.new.writer) c.put_text.result c.args.text.now is refl refl tt
    (c.requires.ended ∙ ap (λ (b : Bool). cond b [] (with_line_feed line)) other) c.put_text.ensures c.requires.ready

pub returns-in-Sent : goal.returns-in-Sent
returns-in-Sent g c =
    drops live_machine g.T.Target.taken g.T.Target.failed c.args._number c.args.session.now c.args.line.now
    c.args.meaning c.args.writer.now c.in-Sent.is c.requires.means (λ x. (refl, refl, tt, refl)) (refl, refl, tt, refl)
    c.requires.ready

pub step-requires : goal.step-requires
step-requires g c = (assumption c.well_formed, c.requires.ready)

pub put_input_with_need-requires : goal.put_input_with_need-requires
put_input_with_need-requires g c =
    let short = fits_ended c.args.line.now _ c.requires.ended c.requires.short in
    record { write = c.requires.write; short = short; few = c.step.ensures.few; sized = c.need.ensures.sized }

pub put_text-requires : goal.put_text-requires
put_text-requires g c = c.requires.write

pub need-requires : goal.need-requires
need-requires g c = assumption c.well_formed
