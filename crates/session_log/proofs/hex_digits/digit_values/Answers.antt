use Rattle.std.proofs.Common.{◌∙◌, arith}
use Rattle.std.proofs.lemmas.List.{length-set}
use Rattle.session_log.proofs.Decoding.{values_more}
use Rattle.session_log.proofs.hex_digits.digit_values.Goals as goal

pub digits-preserved : goal.digits-preserved
digits-preserved c =
    let both = c.digits.invariant in (
      length-set c.digits.values c.digits.i _ ∙ both.0,
      values_more c.args.digits.now c.digits.values c.digits.i _ (omega (arith, both.0)) c.digit_value.ensures both.1,
    )
