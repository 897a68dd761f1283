use Rattle.std.proofs.Common.{ap, length, sym, ◌∙◌}
use Rattle.authn_core.specs.Turn.{CoreContents}
use Rattle.token_session.specs.{History.received, Machine.start_state}
use Rattle.token_session.proofs.{Metering.begins, Metering.bounded_first, Follows.whole, Follows.at_most}
use Rattle.token_session.proofs.Sizes.{core_within, table_within}
use Rattle.token_session.proofs.session.Session.new.Goals as goal

pub returns-clause-value : goal.returns-clause-value
unfolding start_state
returns-clause-value g c =
    begins _ _ _ _ (λ i. whole c.args.start (c.new.ensures.value i) (c.new-2.ensures i).core 0)
    c.first_meters.ensures (c.len-credentials.ensures ∙ ap (λ (h : CoreContents). length h.core.state.rows)
    (sym c.new-2.ensures))

pub returns-clause-follows : goal.returns-clause-follows
unfolding received
returns-clause-follows g c = record { lawful = c.args.rows.lawful; stands = returns-clause-value g c }

pub invariant_of-result : goal.invariant_of-result
invariant_of-result g c =
    (at_most _ _ (ap (λ (h : CoreContents). h.latest) c.new-2.ensures), bounded_first _ _ c.first_meters.ensures)

pub len-credentials-requires : goal.len-credentials-requires
len-credentials-requires g c = assumption c.well_formed

pub new-requires-2-room-T-Table : goal.new-requires-2-room-T-Table
new-requires-2-room-T-Table g c κs = search table_within

pub new-requires-2 : goal.new-requires-2
new-requires-2 g c = search core_within
