use Rattle.std.proofs.Common.{◌≡◌, ◌≤◌, ℕ, [], ◌∷◌, ap, arith, length, refl, sym, ◌∙◌}
use Rattle.hid_packet.proofs.MessagePackets.{few_written}
use Rattle.token_session.specs.Meters.{SessionState}
use Rattle.token_session.specs.Machine.{keepalive_due}
use Rattle.token_session.proofs.Follows.{due, early, due_passed, late_passed, quiet_passed, never, stays, none_dropped}
use Rattle.token_session.proofs.Sizes.{core_within, table_within}
use Rattle.token_session.proofs.session.Session.pass_time.Goals as goal

later : (latest at : ℕ) (inside view : SessionState) → latest ≤ inside.machine.now → inside ≡ view → view.machine.now ≤ at → latest ≤ at
later latest at inside view h is to = omega (arith, ap (λ (v : SessionState). v.machine.now) is)

pub returns-then-overdue : goal.returns-then-overdue
returns-then-overdue g c =
    let p = late_passed _ _ c.args.at _ c.pass.new.self _ _ _ _ c.self.view_is c.pass.ensures.state _
    c.in_ok-cid.ensures.dropped (rw (c.put_message.ensures, c.requires.sent, c.code.ensures) refl) _ c.last-last.ensures in
    record { state = p.state; meters = p.meters; packets = p.packets; why = p.why }

pub returns-in_err-cid : goal.returns-in_err-cid
returns-in_err-cid g c = absurd (never _ c.args.at (sym c.overdue.ensures ∙ c.if-overdue.true) c.in_err-cid.ensures.dropped)

pub returns-in_default : goal.returns-in_default
unfolding keepalive_due
returns-in_default g c =
    let early_is = sym c.overdue.ensures ∙ c.if-overdue.false in
    let p = quiet_passed _ _ c.args.at c.self.inside.assembler c.self.inside.assembler _ _ _ _ c.self.view_is (stays _ _ early_is)
    (none_dropped _ _ early_is) (rw c.in_default.ensures refl) c.requires.sent in
    record { state = p.state; meters = p.meters; packets = p.packets; why = p.why }

pub returns-then-saturating_sub-ge-KEEPALIVE_PERIOD : goal.returns-then-saturating_sub-ge-KEEPALIVE_PERIOD
unfolding keepalive_due
returns-then-saturating_sub-ge-KEEPALIVE_PERIOD g c =
    let is = due c.args.at c.self.inside.authenticator.keepalive_at _ c.saturating_sub.ensures
    c.if-saturating_sub-ge-KEEPALIVE_PERIOD.true in
    let early_is = sym c.overdue.ensures ∙ c.if-overdue.false in
    let p = due_passed _ _ c.args.at c.self.inside.assembler c.self.inside.assembler _ _ _ _ c.self.view_is (stays _ _ early_is)
    (none_dropped _ _ early_is) (rw (c.in-Some.ensures, is) refl)
    (rw (c.put_message-then-saturating_sub-ge-KEEPALIVE_PERIOD.ensures, c.requires.sent, c.in-Some.ensures, c.number.ensures) refl) in
    record { state = p.state; meters = p.meters; packets = p.packets; why = p.why }

pub returns-else-saturating_sub-ge-KEEPALIVE_PERIOD : goal.returns-else-saturating_sub-ge-KEEPALIVE_PERIOD
unfolding keepalive_due
returns-else-saturating_sub-ge-KEEPALIVE_PERIOD g c =
    let is = early c.args.at c.self.inside.authenticator.keepalive_at _ c.saturating_sub.ensures
    c.if-saturating_sub-ge-KEEPALIVE_PERIOD.false in
    let early_is = sym c.overdue.ensures ∙ c.if-overdue.false in
    let p = quiet_passed _ _ c.args.at c.self.inside.assembler c.self.inside.assembler _ _ _ _ c.self.view_is (stays _ _ early_is)
    (none_dropped _ _ early_is) (rw (c.in-Some.ensures, is) refl) c.requires.sent in
    record { state = p.state; meters = p.meters; packets = p.packets; why = p.why }

pub put_message-requires-clause-space : goal.put_message-requires-clause-space
put_message-requires-clause-space g c =
    omega (arith, ap length c.requires.sent, few_written c.in_ok-cid.cid 63 (c.code.result ∷ []))

pub put_message-requires-then-saturating_sub-ge-KEEPALIVE_PERIOD-clause-space : goal.put_message-requires-then-saturating_sub-ge-KEEPALIVE_PERIOD-clause-space
put_message-requires-then-saturating_sub-ge-KEEPALIVE_PERIOD-clause-space g c =
    omega (arith, ap length c.requires.sent, few_written c.in-Some.work.cid 59 (c.number.result ∷ []))

pub invariant_of-self : goal.invariant_of-self
invariant_of-self g c = (later _ _ _ _ c.self.invariant.0 c.self.view_is c.requires.later, c.self.invariant.1)

pub invariant_of-self-in_default : goal.invariant_of-self-in_default
invariant_of-self-in_default g c = (later _ _ _ _ c.self.invariant.0 c.self.view_is c.requires.later, c.self.invariant.1)

pub invariant_of-self-then-saturating_sub-ge-KEEPALIVE_PERIOD : goal.invariant_of-self-then-saturating_sub-ge-KEEPALIVE_PERIOD
invariant_of-self-then-saturating_sub-ge-KEEPALIVE_PERIOD g c = (later _ _ _ _ c.self.invariant.0 c.self.view_is c.requires.later, c.self.invariant.1)

pub invariant_of-self-else-saturating_sub-ge-KEEPALIVE_PERIOD : goal.invariant_of-self-else-saturating_sub-ge-KEEPALIVE_PERIOD
invariant_of-self-else-saturating_sub-ge-KEEPALIVE_PERIOD g c = (later _ _ _ _ c.self.invariant.0 c.self.view_is c.requires.later, c.self.invariant.1)

pub work-requires-room-T-Table : goal.work-requires-room-T-Table
work-requires-room-T-Table g c κs = search table_within

pub work-requires : goal.work-requires
work-requires g c = search core_within
