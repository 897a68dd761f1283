use Rattle.std.proofs.Common.{◌≡◌, drop}
use Rattle.session_walk.specs.Channels.{first_after}
use Rattle.session_walk.proofs.transaction.TransactionEnds.first_after.Given as goal

abbrev pub invariant-loop-ended : goal.invariant-loop-ended
invariant-loop-ended l = first_after l.line l.first (drop l.ended-index l.self.0.items)
    ≡ first_after l.line l.fn.other l.self.0.items
