use Rattle.std.proofs.Common.{◌≡◌, ℕ, ◌≤◌, ◌∷◌, max, refl, ap, ◌∙◌, arith}
use Rattle.token_session.proofs.{Carrying.time_few, Carrying.turn_few, Follows.step_sends, Follows.step_turn}
use Rattle.token_session.proofs.Answered.{told_now_is}
use Rattle.token_session.proofs.Metering.{stepped_is, stands_longer, machine_after}
use Rattle.token_session.specs.{declared.input.Timed.Timed, Machine.request_in, Machine.MachineTurn}
use Rattle.token_session.specs.Meters.{SessionState, counted}
use Rattle.token_session.specs.Machine.{time_passed}
use Rattle.token_session.specs.History.{time_cause, input_cause, causes_of, causes_after}
use Rattle.token_session.proofs.Sizes.{core_within, table_within}
use Rattle.token_session.proofs.session.Session.step.Goals as goal

pub serve-why-requires : goal.serve-why-requires
serve-why-requires g c =
    (assumption c.well_formed, rw c.pass_time-time.ensures.packets (time_few (c.args.self.now).machine c.max-now.result))

pub returns-clause-state : goal.returns-clause-state
returns-clause-state g c =
    let x : Timed = record { at = c.args.at; input = c.args.input } in
    let at : c.max-now.result ≡ max (c.args.self.now).machine.now c.args.at =
    c.max-now.ensures ∙ ap (λ (s : SessionState). max s.machine.now c.args.at) c.self.view_is in
    let turned = step_turn (c.args.self.now).machine _ c.max-now.result x _ at c.pass_time-time.ensures.state
    c.pass_time-time.ensures.packets in
    stepped_is (c.args.self.now).machine _ (c.args.self.now).meters _ c.args.self.now x _ _ _ refl
    (ap (λ (s : SessionState). s.machine) c.self-2.view_is ∙ c.serve-why.ensures.state
    ∙ ap (λ (t : MachineTurn). t.state) turned)
    (ap (λ (s : SessionState). s.meters) c.self-2.view_is ∙ c.serve-why.ensures.meters
    ∙ (λ i. counted (c.pass_time-time.ensures.meters i) (request_in (turned i).event)))
    (c.max-self-inside.ensures ∙ ap (max _) c.held.ensures.bytes) (c.max-self-inside-2.ensures
    ∙ ap (max _) c.credentials.ensures.value) (c.max-self-inside-3.ensures ∙ ap (max _) c.pending.ensures.value)

pub returns-clause-packets : goal.returns-clause-packets
returns-clause-packets g c =
    let x : Timed = record { at = c.args.at; input = c.args.input } in
    let at : c.max-now.result ≡ max (c.args.self.now).machine.now c.args.at =
    c.max-now.ensures ∙ ap (λ (s : SessionState). max s.machine.now c.args.at) c.self.view_is in
    c.serve-why.ensures.packets
    ∙ ap (λ (t : MachineTurn). t.packets) (step_turn (c.args.self.now).machine _ c.max-now.result x _ at
    c.pass_time-time.ensures.state c.pass_time-time.ensures.packets)

pub returns-clause-few : goal.returns-clause-few
returns-clause-few g c =
    rw (returns-clause-packets g c) (turn_few (c.args.self.now).machine
    (record { at = c.args.at; input = c.args.input }))

pub returns-clause-after : goal.returns-clause-after
returns-clause-after g c = λ start h b. returns-clause-state g c
    ∙ stands_longer c.args.self.now start h (record { at = c.args.at; input = c.args.input }) b

pub returns-clause-sent : goal.returns-clause-sent
returns-clause-sent g c = λ start h b.
    returns-clause-packets g c
    ∙ step_sends (c.args.self.now).machine start h (record { at = c.args.at; input = c.args.input })
    (machine_after _ start h b)

pub returns-clause-follows : goal.returns-clause-follows
returns-clause-follows g c = λ start h f.
    record { lawful = f.lawful; stands = returns-clause-after g c start h f.stands }

pub returns-clause-told : goal.returns-clause-told
returns-clause-told g c = λ start h f.
    let x : Timed = record { at = c.args.at; input = c.args.input } in
    returns-clause-sent g c start h f.stands
    ∙ told_now_is start h x (c.answers_follow_history.ensures.told start h f.lawful)
    (c.answers_follow_history.ensures.told start (x ∷ h) f.lawful)

pub returns-clause-why : goal.returns-clause-why
unfolding causes_of
returns-clause-why g c =
    let at : c.max-now.result ≡ max (c.args.self.now).machine.now c.args.at =
    c.max-now.ensures ∙ ap (λ (s : SessionState). max s.machine.now c.args.at) c.self.view_is in
    let time = c.pass_time-time.ensures.why ∙ ap (time_cause (c.args.self.now).machine.current) at in
    let input = c.serve-why.ensures.why ∙ ap (λ m. input_cause m c.args.input)
    (c.pass_time-time.ensures.state ∙ ap (λ t. (time_passed (c.args.self.now).machine t).state) at) in
    λ i. record { time = time i; input = input i }

pub returns-clause-named : goal.returns-clause-named
unfolding causes_after
returns-clause-named g c = λ start h b.
    returns-clause-why g c
    ∙ ap (λ m. causes_of m (record { at = c.args.at; input = c.args.input })) (machine_after _ start h b)

later : (latest at now to : ℕ) → latest ≡ now → to ≡ max latest at → now ≤ to
later latest at now to e m = omega arith

pub pass_time-time-requires : goal.pass_time-time-requires
pass_time-time-requires g c = (assumption c.well_formed, (c.requires, later _ c.args.at _ _ (ap (λ (v : SessionState). v.machine.now) c.self.view_is) c.max-now.ensures))

pub credentials-requires-room-T-Table : goal.credentials-requires-room-T-Table
credentials-requires-room-T-Table g c κs = search table_within

pub credentials-requires : goal.credentials-requires
credentials-requires g c = search core_within

pub pending-requires-room-T-Table : goal.pending-requires-room-T-Table
pending-requires-room-T-Table g c κs = search table_within

pub pending-requires : goal.pending-requires
pending-requires g c = search core_within

pub overflow_cast-credentials : goal.overflow_cast-credentials
overflow_cast-credentials g c = omega (arith, c.credentials.ensures.few.0, c.credentials.ensures.few.1)

pub invariant_of-self : goal.invariant_of-self
invariant_of-self g c = (c.self-2.invariant.0, c.self-2.invariant.1)
