use Rattle.std.proofs.Common.{rules, arith}
use Rattle.authn_core.proofs.authenticator.Core.on_make_key_pair.Goals as goal

pub wait-requires : goal.wait-requires
wait-requires g c = search (rules, arith)

pub returns : goal.returns
returns g c = let signed = rw c.created-data.ensures.value at c.to_sign-signed.ensures.value in grind arith
