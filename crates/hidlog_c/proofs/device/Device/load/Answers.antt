use Rattle.std.proofs.Common.{◌≡◌, ◌∙◌, ap, refl, subst, List, ℕ, []}
use Rattle.token_session.specs.Meters.{IsStateAfterValidStart}
use Rattle.hidlog_c.specs.{Key.DeviceState, Key.start_of}
use Rattle.hidlog_c.proofs.device.Device.load.Goals as goal

pub returns-clause-started : goal.returns-clause-started
returns-clause-started c =
    let loaded = c.in_ok-load.ensures.follows in
    let same = ap (λ (d : DeviceState). d.aaguid) c.self.view_is in (
      loaded.0,
      loaded.1,
      (
        same,
        ap (λ (d : DeviceState). d.waiting) c.self.view_is ∙ c.requires.idle,
        refl,
        subst (λ (aaguid : List ℕ). IsStateAfterValidStart c.load.new.self (start_of aaguid c.args.at loaded.0) []) same
            loaded.2,
      ),
    )
