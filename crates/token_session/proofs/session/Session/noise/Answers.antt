use Rattle.std.proofs.Common.{ap, ◌∙◌}
use Rattle.token_session.specs.Meters.{SessionState}
use Rattle.token_session.proofs.{Metering.noise_now, Metering.noise_is_named, Metering.machine_after}
use Rattle.token_session.proofs.session.Session.noise.Goals as goal

pub returns-clause-state : goal.returns-clause-state
returns-clause-state g c =
    noise_now _ c.self.inside.latest c.self.inside.authenticator.keepalive_at c.args.at c.max-now.result
    c.self.inside.assembler c.self.inside.authenticator.core.core c.args.input.now
    _ (ap (λ (v : SessionState). v.machine) c.self.view_is) c.max-now.ensures c.is_noise.ensures

pub returns-clause-history : goal.returns-clause-history
returns-clause-history g c = λ start h b.
    returns-clause-state g c
    ∙ noise_is_named (c.args.self.now).machine start h (record { at = c.args.at; input = c.args.input.now })
    (machine_after _ start h b)
