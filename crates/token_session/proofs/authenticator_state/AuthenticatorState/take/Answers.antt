use Rattle.std.proofs.Common.{◌≡◌, Some, None, refl, append-nil, arith}
use Rattle.authn_core.specs.Views.{to_event}
use Rattle.token_session.specs.{Machine.answer_packets, Machine.response_sends_keepalive, Machine.request_in}
use Rattle.token_session.{specs.Meters.counted, proofs.Metering.counted_bounded}
use Rattle.token_session.proofs.Sizes.{core_held, table_held}
use Rattle.token_session.proofs.authenticator_state.AuthenticatorState.take.Goals as goal

pub returns-in-Request-clause-meters : goal.returns-in-Request-clause-meters
unfolding counted
returns-in-Request-clause-meters g c = grind (
  arith,
  c.send.ensures.others,
  c.in-Request.is,
  c.saturating_sub-parameter_bytes.ensures,
  c.saturating_add-meters.ensures,
  c.saturating_add-meters-in-Request.ensures,
  c.saturating_add-meters-in-Request-2.ensures,
  c.last_steps.ensures,
  c.take-turn.ensures.turn,
)

pub returns-in-Request-clause-bounded : goal.returns-in-Request-clause-bounded
returns-in-Request-clause-bounded g c = rw (returns-in-Request-clause-meters g c)
    (counted_bounded c.steps_are_bounded.ensures _ _ c.requires.bounded)

pub returns-in-Some-clause-meters : goal.returns-in-Some-clause-meters
unfolding counted
returns-in-Some-clause-meters g c =
    let none : request_in (Some (to_event c.args.event.now)) ≡ None = grind (arith, c.in-Presence.is) in
    rw (none, c.send-in-Some.ensures.others) refl

pub returns-in_default-clause-keepalive : goal.returns-in_default-clause-keepalive
unfolding response_sends_keepalive
returns-in_default-clause-keepalive g c = grind (arith, c.in-Presence.is, c.work-before.ensures)

pub returns-in_default-clause-meters : goal.returns-in_default-clause-meters
unfolding counted
returns-in_default-clause-meters g c =
    let none : request_in (Some (to_event c.args.event.now)) ≡ None = grind (arith, c.in-Presence.is) in
    rw none refl

pub returns-in_default-clause-packets : goal.returns-in_default-clause-packets
unfolding answer_packets
returns-in_default-clause-packets g c = grind (arith, c.in-Presence.is, c.work-before.ensures, append-nil)

pub work-before-requires-room-T-Table : goal.work-before-requires-room-T-Table
work-before-requires-room-T-Table g c κs = search table_held

pub work-before-requires : goal.work-before-requires
work-before-requires g c = search core_held

pub take-turn-requires-room-T-Table : goal.take-turn-requires-room-T-Table
take-turn-requires-room-T-Table g c κs = search table_held

pub last_steps-requires-room-T-Table : goal.last_steps-requires-room-T-Table
last_steps-requires-room-T-Table g c κs = search table_held

pub last_steps-requires : goal.last_steps-requires
last_steps-requires g c = search core_held

pub take-turn-requires : goal.take-turn-requires
take-turn-requires g c = search core_held

pub send-requires : goal.send-requires
send-requires g c = (
  assumption c.well_formed,
  grind (arith, c.requires.few, c.in-Request.is, c.work-before.ensures, c.take-turn.ensures.turn.answer),
)

pub send-requires-in-Some : goal.send-requires-in-Some
send-requires-in-Some g c = (
  assumption c.well_formed,
  grind (arith, c.requires.few, c.in-Presence.is, c.in-Some.is, c.work-before.ensures, c.take-turn.ensures.turn.answer),
)

pub returns-in-Some-clause-bounded : goal.returns-in-Some-clause-bounded
returns-in-Some-clause-bounded g c = rw c.send-in-Some.ensures.others c.requires.bounded

pub returns-in_default-clause-bounded : goal.returns-in_default-clause-bounded
returns-in_default-clause-bounded g c = c.requires.bounded
