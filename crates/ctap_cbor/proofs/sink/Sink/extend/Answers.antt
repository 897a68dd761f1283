use Rattle.std.proofs.Common.{refl, arith}
use Rattle.ctap_cbor.proofs.Written.{spliced}
use Rattle.ctap_cbor.proofs.sink.Sink.extend.Goals as goal

pub returns-clause-appends : goal.returns-clause-appends
returns-clause-appends c = spliced c.args.self.now _ c.args.bytes.now c.copy_from_slice.new.self _
    c.copy_from_slice.ensures.after (omega arith) refl refl c.requires
