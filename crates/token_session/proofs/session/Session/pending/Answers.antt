use Rattle.std.proofs.Common.{ap, ◌∙◌}
use Rattle.cred_table.specs.Rows.{pending_count}
use Rattle.token_session.specs.Meters.{SessionState}
use Rattle.token_session.proofs.Sizes.{core_within, table_within}
use Rattle.token_session.proofs.session.Session.pending.Goals as goal

pub pending-requires-room-T-Table : goal.pending-requires-room-T-Table
pending-requires-room-T-Table g c κs = search table_within

pub pending-requires : goal.pending-requires
pending-requires g c = search core_within

pub returns : goal.returns
returns g c = record {
  value = c.pending.ensures.value
      ∙ ap (λ (v : SessionState). pending_count v.machine.core.state.pending) c.self.view_is;
  limit = c.pending.ensures.few;
}
