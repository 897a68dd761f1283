use Rattle.std.proofs.Common.{ap, arith}
use Rattle.authn_core.specs.Turn.{CoreContents}
use Rattle.token_session.specs.{History.received, Machine.start_state}
use Rattle.token_session.proofs.{Metering.begins, Metering.bounded_first, Follows.whole, Follows.at_most}
use Rattle.token_session.proofs.Sizes.{core_within, table_within}
use Rattle.token_session.proofs.session.Session.load.Goals as goal

pub returns : goal.returns
unfolding start_state received
returns g c =
    let e = c.in_ok-load.ensures in
    let begun = begins _ _ _ _ (λ i. whole c.args.start (c.new-self-inside.ensures.value i) (e.2 i).core 0)
    c.first_meters-self-inside.ensures c.credentials.ensures.value in
    record {
      value = (e.0, e.1, begun);
      follows = (e.0, e.1, record { lawful = e.1.1.lawful; stands = begun });
    }

pub load-requires-room-T-Table : goal.load-requires-room-T-Table
load-requires-room-T-Table g c κs = search table_within

pub credentials-requires-room-T-Table : goal.credentials-requires-room-T-Table
credentials-requires-room-T-Table g c κs = search table_within

pub credentials-requires : goal.credentials-requires
credentials-requires g c = search core_within

pub load-requires : goal.load-requires
load-requires g c = search core_within

pub invariant_of-self : goal.invariant_of-self
invariant_of-self g c = (rw c.in_err-load.ensures.1 c.self.invariant.0, c.self.invariant.1)

pub invariant_of-self-2 : goal.invariant_of-self-2
invariant_of-self-2 g c = (
  at_most _ _ (ap (λ (h : CoreContents). h.latest) c.in_ok-load.ensures.2),
  bounded_first _ _ c.first_meters-self-inside.ensures,
)

pub overflow_cast-credentials : goal.overflow_cast-credentials
overflow_cast-credentials g c = omega (arith, c.credentials.ensures.few.0, c.credentials.ensures.few.1)
