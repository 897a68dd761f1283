use Rattle.std.{proofs.Common.append_assoc, specs.Option.option_copied}
use Rattle.ctap_cbor.specs.Grammar.{head}
use Rattle.ctap_message.specs.Responses.{with_number}
use Rattle.ctap_message.proofs.Responses.{user_then, joined, assertion_text}
use Rattle.ctap_message.proofs.answer.write_assertion.Goals as goal

pub returns : goal.returns
unfolding head
returns c =
    let user = option_copied c.args.user in
    let a = rw c.unwrap.ensures at c.try_extend_from_slice.ensures.ok in
    let b = rw c.unwrap-2.ensures at c.try_extend_from_slice-2.ensures.ok in
    let d = rw c.unwrap-3.ensures at c.try_extend_from_slice-3.ensures.ok in
    let e = rw c.unwrap-4.ensures at c.try_extend_from_slice-4.ensures.ok in
    let f = rw c.unwrap-5.ensures at c.try_extend_from_slice-5.ensures.ok in
    rw (c.put_number.ensures, c.put_user.ensures.appends, append_assoc, user_then user (with_number c.args.number), c.put_bytes.ensures.appends, f, e, d, b, a)
    (rw (joined c.push-2.new.self.items, c.push-2.ensures.items, c.push.ensures.items, c.clear.ensures, assertion_text c.args.id.now c.args.auth.now c.args.sig.now user c.args.number)
    (simp (c.map_head.ensures, c.told-id, c.requires.auth)))
