use Rattle.std.proofs.Common.{◌+◌, ◌*◌, arith, sym, ap, ◌∙◌}
use Rattle.std.specs.Result.{result_ok}
use Rattle.std.proofs.lemmas.List.{length-set}
use Rattle.hex.proofs.Pairs.{decode_done, decode_sized-pairs}
use Rattle.session_log.proofs.Decoding.{decoded_more, not_decoded}
use Rattle.session_log.proofs.hex_digits.decode_group.Goals as goal

pub pairs-preserved : goal.pairs-preserved
pairs-preserved c =
    let before = c.pairs.invariant in (
      length-set c.pairs.bytes c.pairs.i _ ∙ before.0,
      before.1,
      decoded_more _ _ c.pairs.i _ _ (omega (arith, before.1)) (omega (arith, before.0))
          (c.digit_values-values.ensures (2 * c.pairs.i) (omega (arith, before.1)))
          (c.digit_values-values.ensures (2 * c.pairs.i + 1) (omega (arith, before.1))) c.pairs.are_digits before.2,
    )

pub returns-then-are_digits : goal.returns-then-are_digits
returns-then-are_digits c =
    let both = c.pairs.invariant in
    let all = rw c.if-are_digits.true at both.2 in
    sym (ap result_ok (decode_sized-pairs _ 16 (omega (arith, both.1)) (omega (arith, both.1))
    ∙ decode_done _ c.pairs.bytes c.pairs.i (omega (arith, both.0)) (omega (arith, both.1)) all))

pub returns-else-are_digits : goal.returns-else-are_digits
returns-else-are_digits c =
    let both = c.pairs.invariant in
    let failed = rw c.if-are_digits.false at both.2 in
    not_decoded _ 16 (omega (arith, both.1)) failed
