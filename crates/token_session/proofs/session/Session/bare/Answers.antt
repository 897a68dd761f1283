use Rattle.std.proofs.Common.{ap, length, sym, refl, arith}
use Rattle.authn_core.specs.Turn.{CoreContents}
use Rattle.token_session.specs.{History.received, Machine.start_state}
use Rattle.token_session.proofs.{Metering.begins, Metering.bounded_first, Follows.whole, Follows.at_most}
use Rattle.token_session.proofs.Sizes.{core_within, table_within}
use Rattle.token_session.proofs.session.Session.bare.Goals as goal

pub returns-clause-value : goal.returns-clause-value
unfolding start_state
returns-clause-value g c =
    begins _ _ _ _ (λ i. whole c.args.start (c.new.ensures.value i) (c.empty_core.ensures i).core 0)
    c.first_meters.ensures (ap (λ (h : CoreContents). length h.core.state.rows) (sym c.empty_core.ensures))

pub returns-clause-follows : goal.returns-clause-follows
unfolding received
returns-clause-follows g c = record {
  lawful = record { distinct = refl; one_each = refl; few = omega arith };
  stands = returns-clause-value g c;
}

pub invariant_of-result : goal.invariant_of-result
invariant_of-result g c =
    (at_most _ _ (ap (λ (h : CoreContents). h.latest) c.empty_core.ensures), bounded_first _ _ c.first_meters.ensures)

pub empty_core-requires : goal.empty_core-requires
empty_core-requires g c = (search core_within, (search table_within, (c.requires.some, c.requires.few)))
