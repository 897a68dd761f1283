use Rattle.std.proofs.Common.{Some, refl, arith}
use Rattle.authn_core.specs.State.{PresenceIs, KeyIs, SignatureIs}
use Rattle.token_session.specs.Meters.{counted}
use Rattle.token_session.proofs.{Carrying.event_few, Sizes.keeper_within}
use Rattle.token_session.proofs.session.Session.serve.Goals as goal

pub take-requires : goal.take-requires
take-requires g c =
    let few = event_few c.self.inside.authenticator.core.core c.self.inside.latest (Some (PresenceIs c.in-Presence.reply)) in
    (search keeper_within, (c.self.invariant.0, (c.self.invariant.1, omega (arith, c.requires, few))))

pub take-requires-in-Key : goal.take-requires-in-Key
take-requires-in-Key g c =
    let few = event_few c.self.inside.authenticator.core.core c.self.inside.latest (Some (KeyIs c.in-Key.key)) in
    (search keeper_within, (c.self.invariant.0, (c.self.invariant.1, omega (arith, c.requires, few))))

pub take-requires-in-Signature : goal.take-requires-in-Signature
take-requires-in-Signature g c =
    let few = event_few c.self.inside.authenticator.core.core c.self.inside.latest
    (Some (SignatureIs c.in-Signature.signature)) in
    (search keeper_within, (c.self.invariant.0, (c.self.invariant.1, omega (arith, c.requires, few))))

pub returns-in-Tick-clause-meters : goal.returns-in-Tick-clause-meters
unfolding counted
returns-in-Tick-clause-meters g c = rw c.in-Tick.is refl

pub invariant_of-self : goal.invariant_of-self
invariant_of-self g c = (c.take.ensures.latest, c.take.ensures.bounded)

pub invariant_of-self-in-Key : goal.invariant_of-self-in-Key
invariant_of-self-in-Key g c = (c.take-in-Key.ensures.latest, c.take-in-Key.ensures.bounded)

pub invariant_of-self-in-Signature : goal.invariant_of-self-in-Signature
invariant_of-self-in-Signature g c = (c.take-in-Signature.ensures.latest, c.take-in-Signature.ensures.bounded)
