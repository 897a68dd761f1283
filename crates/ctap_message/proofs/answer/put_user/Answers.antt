use Rattle.std.proofs.Common.{arith, append_assoc, append-nil}
use Rattle.ctap_cbor.specs.Grammar.{head}
use Rattle.ctap_message.proofs.answer.put_user.Goals as goal

pub returns-in-Some-clause-appends : goal.returns-in-Some-clause-appends
unfolding head
returns-in-Some-clause-appends c = grind (arith, append-nil, append_assoc)
