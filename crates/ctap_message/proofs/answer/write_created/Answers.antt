use Rattle.std.proofs.Common.{append_assoc, append-nil}
use Rattle.ctap_cbor.specs.Grammar.{head}
use Rattle.ctap_message.specs.Responses.{created_tree, created_answer}
use Rattle.ctap_message.proofs.answer.write_created.Goals as goal

pub returns : goal.returns
unfolding created_tree created_answer head
returns c =
    let a = rw c.unwrap.ensures at c.try_extend_from_slice.ensures.ok in
    let b = rw c.unwrap-2.ensures at c.try_extend_from_slice-2.ensures.ok in
    let d = rw c.unwrap-3.ensures at c.try_extend_from_slice-3.ensures.ok in
    rw (c.put_bytes.ensures.appends, d, b, a, c.clear.ensures) (simp (append_assoc, append-nil, c.requires.auth))
