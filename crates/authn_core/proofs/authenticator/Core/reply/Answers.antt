use Rattle.std.proofs.Common.{arith}
use Rattle.authn_core.proofs.authenticator.Core.reply.Goals as goal

-- the work stays where the reply isn't its
pub returns-in_default-2 : goal.returns-in_default-2
returns-in_default-2 g c = grind arith steps 40000000

pub returns-in-AwaitMakeSignature-Signature : goal.returns-in-AwaitMakeSignature-Signature
returns-in-AwaitMakeSignature-Signature g c = grind arith steps 40000000
