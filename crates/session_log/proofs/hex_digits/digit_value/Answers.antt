use Rattle.std.proofs.Common.{arith}
use Rattle.session_log.proofs.Decoding.{digit_has_value}
use Rattle.session_log.proofs.hex_digits.digit_value.Goals as goal

pub returns-then-letter-lt6 : goal.returns-then-letter-lt6
returns-then-letter-lt6 c = search (arith, digit_has_value c.args.digit)

pub returns-else-letter-lt6 : goal.returns-else-letter-lt6
returns-else-letter-lt6 c = search (arith, digit_has_value c.args.digit)
