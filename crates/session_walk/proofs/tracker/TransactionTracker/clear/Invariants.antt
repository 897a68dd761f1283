use Rattle.session_walk.specs.Lines.{KeepsAll}
use Rattle.session_walk.specs.Messages.{KeepsOnly}
use Rattle.session_walk.specs.Lines.{EndsNothing}
use Rattle.session_walk.proofs.tracker.TransactionTracker.clear.Given as goal

abbrev pub invariant-loop-ended : goal.invariant-loop-ended
invariant-loop-ended l = KeepsOnly l.fn.self.pool l.pool
    × (EndsNothing l.fn.self → KeepsAll l.fn.self.pool l.pool)
