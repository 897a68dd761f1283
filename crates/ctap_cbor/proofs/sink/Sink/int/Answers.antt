use Rattle.std.proofs.Common.{arith, rules}
use Rattle.ctap_cbor.proofs.sink.Sink.int.Goals as goal

pub returns-else-value-ge0-clause-appends : goal.returns-else-value-ge0-clause-appends
returns-else-value-ge0-clause-appends c = search (rules, arith)
