use Rattle.std.proofs.Common.{arith}
use Rattle.ctap_cbor.proofs.Cursors.{all_bytes}
use Rattle.ctap_cbor.proofs.Outcomes as lemmas
use Rattle.ctap_cbor.proofs.laws.cursor_agrees_with_check.Goals as goal

pub returns : goal.returns
returns c = lemmas.cursor_agrees_with_check c.args.bytes.now (all_bytes c.args.bytes.now (λ i. omega (arith, c.type_inv.bytes i)))
