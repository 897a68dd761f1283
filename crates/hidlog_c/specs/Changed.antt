-- Adding and removing credentials of a key, and the snapshot of its credentials.
use Rattle.std.specs.Prelude.{◌≡◌, ◌≢◌, ◌⊎◌, ◌<◌, ◌≤◌, ℕ, ℤ, pos, true, List, [], ◌∷◌, ◌++◌, length, take, Option, Some}
use Rattle.std.specs.{Prelude.None, Prelude.is_some, List.find, Str.IsUtf8}
use Rattle.authn_core.specs.Views.{needs, nothing}
use Rattle.cred_table.specs.{declared.row.Row.Row, Snapshots.clashes, Rows.has_id, Rows.without}
use Rattle.cred_table.specs.Snapshots.{SavesInto, max_snapshot_len}
use Rattle.hidlog_c.specs.declared.{capacity.TheConstants.CAPACITY, structs.Credential.Credential}
use Rattle.hidlog_c.specs.declared.fault.TheConstants.{ERR_NOT_INITIALIZED, ERR_PACKETS_QUEUED, ERR_INVALID_ARGUMENT, ERR_BUFFER_TOO_SMALL, ERR_BUSY}
use Rattle.hidlog_c.specs.declared.fault.TheConstants.{ERR_DUPLICATE_USER, ERR_FULL}
use Rattle.hidlog_c.specs.{Key.DeviceState, Reports.bit, Key.IsStarted}

-- The device's table has these rows.
abbrev pub HasRows : DeviceState → List Row → Type 0
HasRows d rows = rows ≡ d.session.machine.core.state.rows

-- No packet is queued, and no request is pending.
abbrev pub IsIdle : DeviceState → Type 0
IsIdle d = (d.waiting ≡ []) × (needs d.session.machine.core.state.work ≡ nothing)

-- The error if a key cannot start a new session: ERR_PACKETS_QUEUED if packets are queued, or else ERR_BUSY if a
-- request is pending.
abbrev pub IsBusy : DeviceState → ℤ → Type 0
IsBusy d result = ((d.waiting ≢ []) × (result ≡ ERR_PACKETS_QUEUED))
    ⊎ ((d.waiting ≡ []) × (needs d.session.machine.core.state.work ≢ nothing) × (result ≡ ERR_BUSY))

-- A new session began at time `at`, with these credentials.
abbrev pub StartsWith : DeviceState → Option DeviceState → (at : ℕ) → List Row → Type 0
StartsWith d after at rows = (e : DeviceState) × (after ≡ Some e) × IsStarted e d.aaguid at rows

-- The C struct `c` describes the credential in the table row `row`.
pub record Describes (c : Credential) (row : Row) : Type 0 where
  pub rp : row.rp ≡ c.rp
  pub id : row.id ≡ c.id
  pub x : row.x ≡ c.x
  pub y : row.y ≡ c.y
  pub user : row.user.items ≡ take c.user_id_len c.user
  pub user_id_len : c.user_id_len ≤ 64
  pub name : row.name ≡ take c.user_name_len c.name
  pub user_name_len : c.user_name_len ≤ 64
  pub discoverable : bit row.discoverable ≡ c.discoverable
  pub counter : row.counter ≡ c.counter

-- The C struct is not a valid credential.
abbrev pub DescribesNoRow : Credential → Type 0
DescribesNoRow c = (row : Row) → IsUtf8 row.name → Describes c row → ⊥

-- The rows with a credential appended. An earlier row with the same ID is removed.
abbrev pub with_row : Row → List Row → List Row
with_row row rows = without row.id rows ++ row ∷ []

-- The credential was added, and a new session began.
abbrev pub IsAdded : DeviceState → Option DeviceState → (at : ℕ) → Credential → Type 0
IsAdded d after at c = (row : Row) × (rows : List Row) × IsIdle d × Describes c row × HasRows d rows
    × StartsWith d after at (with_row row rows)

-- The error if a credential cannot be added, checked in this order: the key is busy; the struct is invalid; the key is
-- full; another discoverable credential has the same RP and user handle.
abbrev pub IsNotAdded : DeviceState → Credential → ℤ → Type 0
IsNotAdded d c result = IsBusy d result ⊎ (IsIdle d × ((DescribesNoRow c × (result ≡ ERR_INVALID_ARGUMENT))
    ⊎ ((row : Row) × (rows : List Row) × Describes c row × HasRows d rows
    × (((CAPACITY ≤ length (without row.id rows)) × (result ≡ ERR_FULL))
    ⊎ ((length (without row.id rows) < CAPACITY) × (clashes row (without row.id rows) ≡ true) × (result ≡ ERR_DUPLICATE_USER))))))

-- The effect of adding a credential, and the call's return value.
abbrev pub Adds : (before after : Option DeviceState) → (at : ℕ) → Credential → ℤ → Type 0
Adds None after at c result = (after ≡ None) × (result ≡ ERR_NOT_INITIALIZED)
Adds (Some d) after at c result =
    (IsAdded d after at c × (result ≡ pos 0)) ⊎ ((after ≡ Some d) × IsNotAdded d c result)

-- The credential with this ID was removed, and a new session began.
abbrev pub IsRemoved : DeviceState → Option DeviceState → (at : ℕ) → (id : List ℕ) → Type 0
IsRemoved d after at id = (rows : List Row) × IsIdle d × HasRows d rows × (is_some (find (has_id id) rows) ≡ true)
    × StartsWith d after at (without id rows)

-- The error if a credential cannot be removed: the key is busy, or it has no credential with this ID.
abbrev pub IsNotRemoved : DeviceState → (id : List ℕ) → ℤ → Type 0
IsNotRemoved d id result = IsBusy d result
    ⊎ (IsIdle d × (rows : List Row) × HasRows d rows × (find (has_id id) rows ≡ None) × (result ≡ ERR_INVALID_ARGUMENT))

-- The effect of removing a credential, and the call's return value.
abbrev pub Removes : (before after : Option DeviceState) → (at : ℕ) → (id : List ℕ) → ℤ → Type 0
Removes None after at id result = (after ≡ None) × (result ≡ ERR_NOT_INITIALIZED)
Removes (Some d) after at id result =
    (IsRemoved d after at id × (result ≡ pos 0)) ⊎ ((after ≡ Some d) × IsNotRemoved d id result)

-- The effect of removing all credentials, and the call's return value.
abbrev pub Clears : (before after : Option DeviceState) → (at : ℕ) → ℤ → Type 0
Clears None after at result = (after ≡ None) × (result ≡ ERR_NOT_INITIALIZED)
Clears (Some d) after at result = (IsIdle d × StartsWith d after at [] × (result ≡ pos 0))
    ⊎ ((after ≡ Some d) × IsBusy d result)

-- A snapshot of `len` bytes is written to the start of the buffer. A pair is the buffer before and after the call.
abbrev pub SavesLen : DeviceState → (List ℕ × List ℕ) → (len : ℕ) → Type 0
SavesLen d out len = (rows : List Row) × HasRows d rows × SavesInto CAPACITY rows out.0 out.1 (Some len)

-- The snapshot was written, and the call returned its length.
abbrev pub IsSaved : DeviceState → (List ℕ × List ℕ) → ℤ → Type 0
IsSaved d out result = (len : ℕ) × SavesLen d out len × (result ≡ pos len)

-- The snapshot was written; or the buffer is shorter than the maximum length of a snapshot, and is not changed.
abbrev pub SavesRows : DeviceState → (List ℕ × List ℕ) → ℤ → Type 0
SavesRows d out result = IsSaved d out result
    ⊎ ((length out.0 < max_snapshot_len CAPACITY) × (out.1 ≡ out.0) × (result ≡ ERR_BUFFER_TOO_SMALL))

-- The effect of saving a snapshot, and the call's return value.
abbrev pub SavesKey : Option DeviceState → (List ℕ × List ℕ) → ℤ → Type 0
SavesKey None out result = (out.1 ≡ out.0) × (result ≡ ERR_NOT_INITIALIZED)
SavesKey (Some d) out result = SavesRows d out result
