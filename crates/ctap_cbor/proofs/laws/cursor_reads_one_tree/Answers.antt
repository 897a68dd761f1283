use Rattle.ctap_cbor.proofs.Parsing.{passes_only}
use Rattle.ctap_cbor.proofs.laws.cursor_reads_one_tree.Goals as goal

pub returns : goal.returns
returns c = passes_only
