use Rattle.std.proofs.Common.{◌≡◌, List, ℕ, ◌++◌, length}
use Rattle.std.specs.Io.KnownBytes.{Appends}
use Rattle.session_log.proofs.target.put_all.Given as goal

-- what was taken and what is left are the piece
abbrev pub invariant-loop-rest : goal.invariant-loop-rest
invariant-loop-rest g l =
    let taken = g.T.Target.taken in
    record {
      same : g.T.Target.failed l.writer ≡ g.T.Target.failed l.fn.writer;
      done : (first : List ℕ) × (l.piece ≡ first ++ l.rest) × Appends (taken l.fn.writer) (taken l.writer) first;
    }

abbrev pub decreases-loop-rest : goal.decreases-loop-rest
decreases-loop-rest g l = length l.rest
