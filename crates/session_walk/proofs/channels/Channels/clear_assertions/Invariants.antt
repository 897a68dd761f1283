use Rattle.std.proofs.Common.{◌<◌, ℕ, ◌≡◌, ◌||◌, ◌==◌, not, slice_get, option_map, if◌then◌else◌}
use Rattle.session_walk.specs.Channels.{without_assertion}
use Rattle.session_walk.proofs.channels.Channels.clear_assertions.Given as goal

abbrev pub invariant-loop-other : goal.invariant-loop-other
invariant-loop-other l = (l.self.has_forgotten ≡ l.fn.self.has_forgotten)
    × ((i : ℕ) → i < l.other → slice_get l.self.list i
    ≡ option_map (λ c. if l.is_unknown || not (i == l.place) then without_assertion c else c) (slice_get l.fn.self.list i))
    × ((i : ℕ) → (i < l.other → ⊥) → slice_get l.self.list i ≡ slice_get l.fn.self.list i)
