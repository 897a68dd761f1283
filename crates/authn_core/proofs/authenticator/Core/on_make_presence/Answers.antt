use Rattle.std.proofs.Common.{arith}
use Rattle.authn_core.proofs.authenticator.Core.on_make_presence.Goals as goal

pub returns : goal.returns
returns g c = grind arith

pub returns-then-not-is_some : goal.returns-then-not-is_some
returns-then-not-is_some g c = grind arith
