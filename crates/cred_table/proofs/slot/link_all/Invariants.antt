use Rattle.std.proofs.Common.{◌≡◌, ℕ, ◌<◌, length}
use Rattle.cred_table.specs.Slots.{slot_at, next_free}
use Rattle.cred_table.proofs.slot.link_all.Given as goal

abbrev pub invariant-loop-place : goal.invariant-loop-place
invariant-loop-place l = (k : ℕ) → k < l.place → (slot_at l.slots k).next ≡ next_free (length l.slots) k
