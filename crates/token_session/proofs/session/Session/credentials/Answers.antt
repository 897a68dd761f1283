use Rattle.std.proofs.Common.{ap, length, ◌∙◌}
use Rattle.token_session.specs.Meters.{SessionState}
use Rattle.token_session.proofs.Sizes.{core_within, table_within}
use Rattle.token_session.proofs.session.Session.credentials.Goals as goal

pub credentials-requires-room-T-Table : goal.credentials-requires-room-T-Table
credentials-requires-room-T-Table g c κs = search table_within

pub credentials-requires : goal.credentials-requires
credentials-requires g c = search core_within

pub returns : goal.returns
returns g c = record {
  value = c.credentials.ensures.value ∙ ap (λ (v : SessionState). length v.machine.core.state.rows) c.self.view_is;
  limit = c.credentials.ensures.few.0;
}
