use Rattle.std.proofs.Common.{arith}
use Rattle.authn_core.specs.Turn.{turn}
use Rattle.authn_core.proofs.authenticator.Core.take.Goals as goal

pub returns-in-Request-clause-turn : goal.returns-in-Request-clause-turn
unfolding turn
returns-in-Request-clause-turn g c =
    let read = c.parse_request-request.ensures.request in let took = rw read at c.serve.ensures in
    grind (arith, c.in-Request.is, c.parse_request-request.ensures.steps)

pub returns-in-Request-clause-why : goal.returns-in-Request-clause-why
unfolding turn
returns-in-Request-clause-why g c =
    let read = c.parse_request-request.ensures.request in let took = rw read at c.serve.ensures in
    grind (arith, c.in-Request.is)
