use Rattle.std.proofs.Common.{length, ap, ◌∙◌, arith}
use Rattle.authn_core.specs.Turn.{CoreContents}
use Rattle.authn_core.proofs.authenticator.Core.credentials.Goals as goal

pub returns : goal.returns
returns g c = record {
  value = c.len.ensures ∙ ap (λ (h : CoreContents). length h.core.state.rows) c.self.view_is;
  few = (omega (arith, (g.met.T.Table.lawful c.self.inside.table).few), (g.met.T.Table.capacity c.self.inside.table).1);
}
