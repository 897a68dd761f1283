use Rattle.ctap_cbor.proofs.Outcomes as lemmas
use Rattle.ctap_cbor.proofs.laws.trees_are_computed.Goals as goal

pub returns : goal.returns
returns c = lemmas.trees_are_computed
