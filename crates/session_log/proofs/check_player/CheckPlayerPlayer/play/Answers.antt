use Rattle.std.proofs.Common.{◌≡◌, ◌+◌, ℕ, Option, Some, refl, ap, sym, ◌∙◌}
use Rattle.hid_packet.specs.declared.packet.Packet.{Packet}
use Rattle.session_log.specs.Check.{check_machine, log_comparison, due_packets, missing_of, comparison_after}
use Rattle.session_log.specs.{Replay.session_semantics, declared.fault.LogFault.TheVariants.Differs}
use Rattle.session_log.specs.declared.line.Line.TheVariants.{Input, Sent}
use Rattle.session_log.proofs.Groups.{begins, is_due, is_next, is_other, is_silent, not_full, passes, rises, standing}
use Rattle.session_log.proofs.{Groups.stays, Groups.differs_for, Groups.writes_none}
use Rattle.session_log.proofs.check_player.CheckPlayerPlayer.play.Goals as goal

pub returns-then-ne : goal.returns-then-ne
returns-then-ne g c =
    let o = c.args.self.now in
    let s = standing o c.args.session.now in
    let x = Sent c.in-Sent.packet in
    let f = Differs o.input (o.found + 1) in
    let stops = is_other _ (λ p q. refl) o.outbox c.in-Sent.packet f o.awaited c.if-ne.ensures in
    differs_for check_machine g.T.Target.taken g.T.Target.failed (Unit {0}) c.args.number s c.args._line.now x
    c.args._writer.now o.input (o.found + 1) c.difference.result (c.requires.means ∙ ap Some c.in-Sent.is) stops
    c.difference.ensures

pub returns-else-ne : goal.returns-else-ne
returns-else-ne g c =
    let o = c.args.self.now in
    let s = standing o c.args.session.now in
    let t = standing c.match_packet.new.self c.args.session.now in
    let x = Sent c.in-Sent.packet in
    let f = Differs o.input (o.found + 1) in
    let next = is_next _ (λ p q. refl) o.outbox c.in-Sent.packet f o.awaited c.if-ne.ensures in
    let ready = c.requires.ready in
    let took = c.match_packet.ensures in
    let at = ready.0 in
    let stood : t ≡ comparison_after session_semantics s x =
    λ i. log_comparison c.args.session.now ((took.lines ∙ at) i) (took.input i) (took.found i) ((took.due ∙ sym next.1) i)
    (took.inputs i) (took.packets i) in
    writes_none check_machine g.T.Target.taken g.T.Target.failed c.args.number s t c.args._line.now x c.args._writer.now
    (c.requires.means ∙ ap Some c.in-Sent.is) next.0 stood tt refl (
      ap (λ (k : ℕ). k + 1) (sym took.lines),
      rises took.lines at ready.1 took.found,
      stays took.lines at ready.2 took.inputs,
      rises took.lines at ready.3 took.packets,
      took.all,
    )

pub returns-then-is_some : goal.returns-then-is_some
returns-then-is_some g c =
    let o = c.args.self.now in
    differs_for check_machine g.T.Target.taken g.T.Target.failed (Unit {0}) c.args.number
    (standing o c.args.session.now) c.args._line.now (Input c.in-Input.timed) c.args._writer.now o.input (o.found + 1)
    c.difference-then-is_some.result (c.requires.means ∙ ap Some c.in-Input.is)
    (is_due o.awaited o.outbox (Differs o.input (o.found + 1)) c.if-is_some.ensures) c.difference-then-is_some.ensures

pub returns-else-is_some : goal.returns-else-is_some
returns-else-is_some g c =
    let o = c.args.self.now in
    let x = Input c.in-Input.timed in
    let s = standing o c.args.session.now in
    let t = standing c.begin_input.new.self c.step.new.self in
    let f = Differs o.input (o.found + 1) in
    let none =
    ap (λ (a : Option Packet). missing_of (due_packets a o.outbox) f) (is_silent o.awaited c.if-is_some.ensures) in
    let begun = c.begin_input.ensures in
    let ready = c.requires.ready in
    let at = ready.0 in
    let stood : t ≡ comparison_after session_semantics s x =
    λ i. log_comparison (c.step.ensures.state i) ((begun.lines ∙ at) i) ((begun.input ∙ at) i) (begun.found i)
    ((begun.due ∙ c.step.ensures.packets) i) (begun.inputs i) (begun.packets i) in
    writes_none check_machine g.T.Target.taken g.T.Target.failed c.args.number s t c.args._line.now x c.args._writer.now
    (c.requires.means ∙ ap Some c.in-Input.is) none stood tt refl (
      ap (λ (k : ℕ). k + 1) (sym begun.lines),
      begins begun.found,
      rises begun.lines at ready.2 begun.inputs,
      stays begun.lines at ready.3 begun.packets,
      begun.all,
    )

pub returns-in-Comment : goal.returns-in-Comment
returns-in-Comment g c =
    let s = standing c.args.self.now c.args.session.now in
    let n = c.args.number in
    let ready = c.requires.ready in
    let passed = passes s n c.args.meaning c.in-Comment.is ready.0 in
    writes_none check_machine g.T.Target.taken g.T.Target.failed n s (record s { lines = n }) c.args._line.now
    c.args.meaning c.args._writer.now c.requires.means passed.0 passed.1 tt refl
    (refl, stays refl ready.0 ready.1 refl, stays refl ready.0 ready.2 refl, stays refl ready.0 ready.3 refl, ready.4)

pub difference-requires : goal.difference-requires
difference-requires g c = not_full c.args.number _ _ c.requires.ready.0 c.requires.few c.requires.ready.1

pub difference-requires-then-is_some : goal.difference-requires-then-is_some
difference-requires-then-is_some g c = not_full c.args.number _ _ c.requires.ready.0 c.requires.few c.requires.ready.1

pub match_packet-requires : goal.match_packet-requires
match_packet-requires g c =
    let ready = c.requires.ready in
    record {
      found = not_full c.args.number _ _ ready.0 c.requires.few ready.1;
      packets = not_full c.args.number _ _ ready.0 c.requires.few ready.3;
    }

pub step-requires : goal.step-requires
step-requires g c =
    (assumption c.well_formed, c.requires.ready.4 (is_silent c.args.self.now.awaited c.if-is_some.ensures))

pub begin_input-requires : goal.begin_input-requires
begin_input-requires g c = not_full c.args.number _ _ c.requires.ready.0 c.requires.few c.requires.ready.2
