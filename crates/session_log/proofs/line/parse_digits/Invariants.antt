use Rattle.std.proofs.Common.{drop}
use Rattle.session_log.proofs.Spelled.{SoFar}
use Rattle.session_log.proofs.line.parse_digits.Given as goal

-- the digits before this one write the number
abbrev pub invariant-loop-byte : goal.invariant-loop-byte
invariant-loop-byte l = SoFar l.digits (drop l.byte-index l.digits) l.number
