use Rattle.std.proofs.Common.{◌≡◌, length}
use Rattle.session_log.proofs.Decoding.{Decoded}
use Rattle.session_log.proofs.hex_digits.decode_group.Given as goal

abbrev pub invariant-pairs : goal.invariant-pairs
invariant-pairs l = (length l.bytes ≡ 16) × (length l.digits ≡ 32) × Decoded l.are_digits l.digits l.bytes l.i
