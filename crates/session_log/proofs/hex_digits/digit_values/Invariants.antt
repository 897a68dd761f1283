use Rattle.std.proofs.Common.{◌≡◌, ◌<◌, ℕ, length, slice_index}
use Rattle.hex.specs.Hex.{hex_digit_value}
use Rattle.session_log.specs.Grammar.{value_below_16}
use Rattle.session_log.proofs.hex_digits.digit_values.Given as goal

abbrev pub invariant-digits : goal.invariant-digits
invariant-digits l = (length l.values ≡ 32) × ((k : ℕ) → k < l.i
    → hex_digit_value (slice_index l.digits k) ≡ value_below_16 (slice_index l.values k))
