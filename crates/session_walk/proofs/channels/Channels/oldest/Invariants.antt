use Rattle.std.proofs.Common.{◌<◌, ◌≤◌, ℕ, ◌≡◌, false, slice_get}
use Rattle.session_walk.specs.Channels.{yields}
use Rattle.session_walk.proofs.channels.Channels.oldest.Given as goal

abbrev pub invariant-loop-place : goal.invariant-loop-place
invariant-loop-place l = (l.oldest < 6) × (l.oldest ≤ l.place)
    × ((i : ℕ) → i < l.place → yields (slice_get l.self.list i) (slice_get l.self.list l.oldest) ≡ false)
