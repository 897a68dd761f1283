use Rattle.std.proofs.Common.{◌≡◌, ◌∙◌, refl, sym, ap, subst, slice_index_or, length, arith}
use Rattle.hidlog_c.specs.Key.{DeviceState}
use Rattle.hidlog_c.proofs.device.Device.credential.Goals as goal

pub returns : goal.returns
returns c =
    let row = c.row.result.now in
    let place = c.args.place in
    let found : DeviceState → Type 0 = λ d. slice_index_or d.session.machine.core.state.rows place row ≡ row in
    let inside : slice_index_or c.self.inside.session.machine.core.state.rows place row ≡ row =
    ap (λ held. slice_index_or held place row) (sym c.table.ensures) ∙ sym c.row.ensures in
    let counted : c.credentials.result ≡ length c.args.self.now.session.machine.core.state.rows =
    subst (λ (d : DeviceState). c.credentials.result ≡ length d.session.machine.core.state.rows) c.self.view_is
    c.credentials.ensures.value in (
      (λ within. ((row, subst found c.self.view_is inside, c.to_c_credential.ensures), refl)),
      (λ beyond. absurd (omega (arith, counted))),
    )
