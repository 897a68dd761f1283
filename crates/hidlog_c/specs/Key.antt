-- A key in C: its state before and after a call, and the return value of the call.
use Rattle.std.specs.Prelude.{◌≡◌, ℕ, ℤ, pos, List, [], ◌∷◌, length, Option, Some, None, Ok, ◌&&◌, nat_eq, nat_le}
use Rattle.std.specs.Prelude.{if◌then◌else◌, ◌≢◌, ◌⊎◌, replicate}
use Rattle.authn_core.specs.Turn.{Start}
use Rattle.token_session.specs.declared.input.Timed.{Timed}
use Rattle.token_session.specs.Answered.{packets_sent_now}
use Rattle.token_session.specs.Meters.{SessionState, IsStateAfterValidStart, stepped, input_packets_of}
use Rattle.token_session.specs.History.{causes_of}
use Rattle.token_session.specs.declared.cause.Causes.{Causes as TwoCauses}
use Rattle.hidlog_c.specs.declared.fault.TheConstants.{ERR_NOT_INITIALIZED, ERR_PACKETS_QUEUED, ERR_NO_PACKET}
use Rattle.hidlog_c.specs.declared.fault.TheConstants.{ERR_INVALID_ARGUMENT, ERR_ALREADY_INITIALIZED}
use Rattle.hidlog_c.specs.declared.fault.TheConstants.{ERR_NOT_A_SNAPSHOT, ERR_FULL, ERR_BAD_CREDENTIAL, NO_MEMORY}
use Rattle.cred_table.specs.declared.row.Row.{Row}
use Rattle.cred_table.specs.Snapshots.{Refuses}
use Rattle.hidlog_c.specs.declared.capacity.TheConstants.{CAPACITY}
use Rattle.authn_core.specs.declared.replies.Presence.{Presence as Reply}
use Rattle.authn_core.specs.declared.replies.Presence.TheVariants.{Granted, Denied, TimedOut}
use Rattle.token_session.specs.declared.input.Input.{Input}
use Rattle.token_session.specs.declared.input.Input.TheVariants.{Signature}
use Rattle.cred_table.specs.declared.fault.SnapshotFault.{SnapshotFault}
use Rattle.cred_table.specs.declared.fault.SnapshotFault.TheVariants.{NotSnapshot, TooMany, RowBroken}
use Rattle.cred_table.specs.declared.fault.SnapshotFault.TheVariants.{Memory as OutOfMemory}
use Rattle.hidlog_c.specs.Begin.{IsSnapshotOrEmpty}

-- ---- the state, and its changes

-- A device: the authenticator's AAGUID, its session, its queued packets, and the causes for which its last input was
-- refused.
pub record DeviceState : Type 0 where
  pub aaguid : List ℕ
  pub session : SessionState
  pub waiting : List (List ℕ)
  pub causes : TwoCauses

-- No cause: nothing was refused.
abbrev pub no_causes : TwoCauses
no_causes = record { time = None; input = None }

-- The device after an input: the session processes the input, and the packets that it sends are queued.
abbrev pub device_after : DeviceState → Timed → DeviceState
device_after d x = record {
  aaguid = d.aaguid;
  session = stepped d.session x;
  waiting = input_packets_of d.session x;
  causes = causes_of d.session.machine x;
}

-- The device after a call with an input. If packets are queued, the call is rejected, and the device is not changed.
abbrev pub device_after_input : DeviceState → List (List ℕ) → Timed → Option DeviceState
device_after_input d [] x = Some (device_after d x)
device_after_input d (packet ∷ more) x = Some d

-- The device after a call with an input, or None if the key is not initialized.
abbrev pub after_input : Option DeviceState → Timed → Option DeviceState
after_input None x = None
after_input (Some d) x = device_after_input d d.waiting x

-- The return value of a call with an input on an initialized key: the number of packets sent for the input, or
-- ERR_PACKETS_QUEUED.
abbrev pub device_return_value : DeviceState → List (List ℕ) → Timed → ℤ
device_return_value d [] x = pos (length (input_packets_of d.session x))
device_return_value d (packet ∷ more) x = ERR_PACKETS_QUEUED

-- The return value of a call with an input.
abbrev pub input_return_value : Option DeviceState → Timed → ℤ
input_return_value None x = ERR_NOT_INITIALIZED
input_return_value (Some d) x = device_return_value d d.waiting x

-- For each history that leads to the session's state, the history extended by the input leads to its new state, and
-- exactly the packets that the definitions in specs/ give for the input are queued.
abbrev pub FollowsHistory : DeviceState → Timed → Type 0
FollowsHistory d x = (start : Start) (h : List Timed) → IsStateAfterValidStart d.session start h
    → IsStateAfterValidStart (device_after d x).session start (x ∷ h) × ((device_after d x).waiting ≡ packets_sent_now start h x)

-- A call with an input: the state of the key after it, and its return value.
pub record TakesInput (before after : Option DeviceState) (x : Timed) (result : ℤ) : Type 0 where
  pub state : after ≡ after_input before x
  pub return_value : result ≡ input_return_value before x
  pub history : (d : DeviceState) → before ≡ Some d → d.waiting ≡ [] → FollowsHistory d x

-- The device without its first queued packet.
abbrev pub without_first : DeviceState → List (List ℕ) → Option DeviceState
without_first d [] = Some d
without_first d (packet ∷ more) = Some (record d { waiting = more })

-- The device after a call of hidlog_key_read_packet.
abbrev pub device_after_read : Option DeviceState → Option DeviceState
device_after_read None = None
device_after_read (Some d) = without_first d d.waiting

-- The queued packets of a key.
abbrev pub queued_packets_of : Option DeviceState → List (List ℕ)
queued_packets_of None = []
queued_packets_of (Some d) = d.waiting

-- The first queued packet. If no packet is queued, the old content.
abbrev pub first_packet_or : List ℕ → List (List ℕ) → List ℕ
first_packet_or old [] = old
first_packet_or old (packet ∷ more) = packet

-- The number of queued packets after the first one. If no packet is queued, ERR_NO_PACKET.
abbrev pub packets_left_or_error : List (List ℕ) → ℤ
packets_left_or_error [] = ERR_NO_PACKET
packets_left_or_error (packet ∷ more) = pos (length more)

-- The return value of a call of hidlog_key_read_packet.
abbrev pub read_return_value : Option DeviceState → ℤ
read_return_value None = ERR_NOT_INITIALIZED
read_return_value (Some d) = packets_left_or_error d.waiting

-- A call of hidlog_key_read_packet: the state of the key after it, the caller's packet, and the return value. A pair is
-- the caller's packet before and after the call.
pub record ReadsPacket (before after : Option DeviceState) (packet : List ℕ × List ℕ) (result : ℤ) : Type 0 where
  pub state : after ≡ device_after_read before
  pub packet_is : packet.1 ≡ first_packet_or packet.0 (queued_packets_of before)
  pub return_value : result ≡ read_return_value before

-- ---- arguments of C calls as inputs of the session

-- The user presence reply for a number of enum hidlog_presence.
abbrev pub parsed_presence_number : ℕ → Option Reply
parsed_presence_number n =
    if nat_eq n 0 then Some Granted else if nat_eq n 1 then Some Denied else if nat_eq n 2 then Some TimedOut else None

-- A signature input of 1 to 72 bytes, or None for any other length.
abbrev pub signature_input : List ℕ → Option Input
signature_input bytes =
    if nat_le 1 (length bytes) && nat_le (length bytes) 72 then Some (Signature (Some bytes)) else None

-- The error number of a call with an invalid argument.
abbrev pub refusal_of : Option DeviceState → ℤ
refusal_of None = ERR_NOT_INITIALIZED
refusal_of (Some d) = ERR_INVALID_ARGUMENT

-- The effect of a call whose argument may be invalid (None). In that case the call returns an error, and the key is not
-- changed.
abbrev pub TakesCheckedInput : (before after : Option DeviceState) → (at : ℕ) → Option Input → ℤ → Type 0
TakesCheckedInput before after at None result = (after ≡ before) × (result ≡ refusal_of before)
TakesCheckedInput before after at (Some input) result = TakesInput before after (record { at = at; input = input }) result

-- ---- initializing a key

-- The start of a session with the capacity of this library.
abbrev pub start_of : (aaguid : List ℕ) → (moment : ℕ) → List Row → Start
start_of aaguid moment rows = record { aaguid = aaguid; moment = moment; capacity = CAPACITY; rows = rows }

-- The start of a command's session: an AAGUID of sixteen zero bytes, time 0, and these credentials.
abbrev pub start_with : List Row → Start
start_with rows = start_of (replicate 16 0) 0 rows

-- The error number of a rejected snapshot.
abbrev pub refusal : SnapshotFault → ℤ
refusal NotSnapshot = ERR_NOT_A_SNAPSHOT
refusal TooMany = ERR_FULL
refusal (RowBroken place) = ERR_BAD_CREDENTIAL
refusal OutOfMemory = NO_MEMORY

-- The device has a new session with these credentials, and neither queued packets nor causes.
abbrev pub IsStarted : DeviceState → (aaguid : List ℕ) → (moment : ℕ) → List Row → Type 0
IsStarted d aaguid moment rows =
    (d.aaguid ≡ aaguid) × (d.waiting ≡ []) × (d.causes ≡ no_causes) × IsStateAfterValidStart d.session (start_of aaguid moment rows) []

-- The key has a new session with the credentials of the snapshot.
abbrev pub Begins : (aaguid : List ℕ) → (moment : ℕ) → (snapshot : List ℕ) → Option DeviceState → Type 0
Begins aaguid moment snapshot after = (rows : List Row) × (d : DeviceState) × IsSnapshotOrEmpty snapshot rows
    × (after ≡ Some d) × IsStarted d aaguid moment rows

-- The snapshot is rejected, and the key is not initialized.
abbrev pub IsRefused : (snapshot : List ℕ) → Option DeviceState → ℤ → Type 0
IsRefused snapshot after result = (fault : SnapshotFault) × (snapshot ≢ []) × Refuses CAPACITY snapshot fault
    × (after ≡ None) × (result ≡ refusal fault)

-- The effect of initializing a key. An initialized key is not changed.
abbrev pub Initializes : (before after : Option DeviceState) → (aaguid : List ℕ) → (moment : ℕ) → (snapshot : List ℕ) → ℤ
    → Type 0
Initializes (Some d) after aaguid moment snapshot result = (after ≡ Some d) × (result ≡ ERR_ALREADY_INITIALIZED)
Initializes None after aaguid moment snapshot result =
    (Begins aaguid moment snapshot after × (result ≡ pos 0)) ⊎ IsRefused snapshot after result
