use Rattle.std.proofs.Common.{arith}
use Rattle.authn_core.proofs.Histories.{pending_raised, find_raised}
use Rattle.authn_core.proofs.authenticator.Core.sign.Goals as goal

pub returns : goal.returns
returns g c = let signed = rw c.assertion-data.ensures.value at c.to_sign.ensures.value in grind arith

pub invariant_of-self : goal.invariant_of-self
invariant_of-self g c = grind (arith, pending_raised)

pub wait-requires : goal.wait-requires
wait-requires g c = grind (arith, find_raised)
