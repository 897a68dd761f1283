use Rattle.std.proofs.Common.{◌≡◌, ◌++◌, ◌*◌, ℕ, length, replicate}
use Rattle.session_log.proofs.hex_digits.trim_groups.Given as goal

abbrev pub invariant-loop-front : goal.invariant-loop-front
invariant-loop-front g l = (n : ℕ) × (l.bytes ≡ l.used ++ replicate (g.row.N * n) l.byte)

abbrev pub decreases-loop-front : goal.decreases-loop-front
decreases-loop-front g l = length l.used
