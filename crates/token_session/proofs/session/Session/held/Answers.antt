use Rattle.std.proofs.Common.{ap, ◌∙◌}
use Rattle.hid_assemble.specs.Assembly.{stored_len}
use Rattle.token_session.{specs.History.received, specs.Meters.SessionState, proofs.Metering.session_held}
use Rattle.token_session.proofs.session.Session.held.Goals as goal

pub returns-clause-named : goal.returns-clause-named
returns-clause-named g c = λ start h b.
    c.held.ensures.bytes ∙ ap (λ (v : SessionState). stored_len v.machine.current) (c.self.view_is ∙ b)
    ∙ session_held start (received start h)

pub returns-clause-bytes : goal.returns-clause-bytes
returns-clause-bytes g c =
    c.held.ensures.bytes ∙ ap (λ (v : SessionState). stored_len v.machine.current) c.self.view_is

pub returns-clause-limit : goal.returns-clause-limit
returns-clause-limit g c = rw c.held.ensures.bytes c.held.ensures.limit
