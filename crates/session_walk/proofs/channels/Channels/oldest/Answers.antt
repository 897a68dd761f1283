use Rattle.std.proofs.Common.{arith}
use Rattle.session_walk.proofs.Keeps.{kept, taken}
use Rattle.session_walk.proofs.channels.Channels.oldest.Goals as goal
use Rattle.session_walk.proofs.channels.Channels.oldest.Goals.{then-is_evicted_before, else-is_evicted_before}

pub loop-place-preserved : goal.loop-place-preserved
loop-place-preserved c =
    let invariant = c.loop-place.invariant in
    elim c.if-is_evicted_before.branch [
      | then-is_evicted_before w ↦ rw w.oldest-is (
        omega (arith, c.loop-place-test.true),
        omega arith,
        taken _ _ _ _ _ c.index-self-place.is c.index-self-oldest.is invariant.1
            (grind (arith, w.if-is_evicted_before, c.is_evicted_before.ensures)) invariant.2,
      )
      | else-is_evicted_before w ↦ rw w.oldest-is (
        invariant.0,
        omega (arith, invariant.1),
        kept _ _ _ _ _ c.index-self-place.is c.index-self-oldest.is
            (grind (arith, w.if-is_evicted_before, c.is_evicted_before.ensures)) invariant.2,
      )
    ]
