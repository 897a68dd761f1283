use Rattle.ctap_cbor.proofs.Parsing.{halts_never}
use Rattle.ctap_cbor.proofs.laws.canonical_is_accepted.Goals as goal

pub returns : goal.returns
returns c = halts_never
