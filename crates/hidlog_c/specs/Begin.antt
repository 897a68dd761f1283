-- The credentials that a command's session starts with.
use Rattle.std.specs.Prelude.{◌≡◌, ℕ, List, [], Ok}
use Rattle.cred_table.specs.{declared.row.Row.Row, Snapshots.Loads}
use Rattle.hidlog_c.specs.declared.capacity.TheConstants.{CAPACITY}

-- The rows are those of the snapshot, or there are none if the snapshot has no bytes.
abbrev pub IsSnapshotOrEmpty : List ℕ → List Row → Type 0
IsSnapshotOrEmpty [] rows = rows ≡ []
IsSnapshotOrEmpty snapshot rows = Loads CAPACITY snapshot (Ok tt) rows
