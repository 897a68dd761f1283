use Rattle.std.proofs.Common.{◌≡◌, ◌≤◌, ◌*◌, ◌-◌, length, take, Some}
use Rattle.std.specs.Result.{result_ok}
use Rattle.hex.specs.Hex.{decode_pairs}
use Rattle.session_log.proofs.hex_digits.decode_digits.Given as goal

abbrev pub invariant-loop-group : goal.invariant-loop-group
invariant-loop-group l = (l.done ≤ length l.bytes) × (result_ok (decode_pairs 0 (take (2 * l.done) l.digits)) ≡ Some (take l.done l.bytes))

abbrev pub decreases-loop-group : goal.decreases-loop-group
decreases-loop-group l = length l.bytes - l.done
