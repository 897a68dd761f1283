use Rattle.std.proofs.Common.{◌/◌, arith, length, sym, ◌∙◌}
use Rattle.session_log.proofs.Decoding.{refused_rest, decoded_rest}
use Rattle.session_log.proofs.hex_digits.decode_rest.Goals as goal

pub returns-in_err-group : goal.returns-in_err-group
returns-in_err-group c =
    let group = rw c.copy_from_slice.ensures.after at c.in_err-group.ensures in
    rw c.from_residual.ensures
    (refused_rest c.args.digits.now _ c.requires.pairs (omega (arith, c.requires.few, c.requires.pairs)) group)

pub returns : goal.returns
returns c =
    let group = rw c.copy_from_slice.ensures.after at c.in_ok-group.ensures in
    let bytes = decoded_rest c.args.digits.now _ c.requires.pairs (omega (arith, c.requires.few, c.requires.pairs)) c.in_ok-group.group group in
    search (arith, bytes, c.copy_from_slice-2.ensures.after, c.requires.pairs)
