use Rattle.std.proofs.Common.{ap, ◌∙◌}
use Rattle.cred_table.specs.Rows.{pending_count}
use Rattle.authn_core.specs.Turn.{CoreContents}
use Rattle.authn_core.proofs.authenticator.Core.pending.Goals as goal

pub returns : goal.returns
returns g c =
    let held = ap (λ (h : CoreContents). pending_count h.core.state.pending) c.self.view_is in
    record { value = c.len.ensures.value ∙ held; few = c.len.ensures.few }
