-- The values that the calls on a key store for their C caller.
use Rattle.std.specs.Prelude.{◌≡◌, ◌<◌, ◌≤◌, ℕ, ℤ, pos, ◌-◌, List, ◌++◌, length, replicate, Bool, true, false, Option}
use Rattle.std.specs.Prelude.{Some, None, slice_index_or, if◌then◌else◌, nat_eq}
use Rattle.authn_core.specs.Views.{Needed, needs, nothing, presence, key, sign}
use Rattle.cred_table.specs.declared.row.Row.{Row}
use Rattle.cred_table.specs.Rows.{pending_count}
use Rattle.token_session.specs.declared.input.Meters.{Meters}
use Rattle.hidlog_c.specs.declared.fault.TheConstants.{ERR_INVALID_ARGUMENT, ERR_NOT_INITIALIZED}
use Rattle.hidlog_c.specs.declared.structs.CNeed.{CNeed}
use Rattle.hidlog_c.specs.declared.structs.Credential.{Credential}
use Rattle.hidlog_c.specs.declared.structs.CStats.{CStats}
use Rattle.hidlog_c.specs.Key.{DeviceState}
use Rattle.ctap_cbor.specs.Items.{number_of}
use Rattle.ctap_message.specs.declared.fault.RequestFault.{RequestFault}
use Rattle.hid_assemble.specs.declared.refusal.Refusal.{Refusal as TransportRefusal}
use Rattle.authn_core.specs.declared.refusal.Refusal.{Refusal as CommandRefusal}
use Rattle.token_session.specs.declared.cause.Cause.{Cause}
use Rattle.token_session.specs.declared.cause.Cause.TheVariants.{Transport, Request, Command}
use Rattle.token_session.specs.declared.cause.Causes.{Causes as TwoCauses}
use Rattle.hidlog_c.specs.declared.causes.CauseReport.{CauseReport}
use Rattle.ctap_message.specs.declared.fault.RequestFault.TheVariants as fault
use Rattle.hid_assemble.specs.declared.refusal.Refusal.TheVariants as transport
use Rattle.authn_core.specs.declared.refusal.Refusal.TheVariants as command

-- ---- statistics, what the pending request needs, and credentials

-- The bytes, padded with zeros to length n.
abbrev pub with_zeros : ℕ → List ℕ → List ℕ
with_zeros n bytes = bytes ++ replicate (n - length bytes) 0

-- A need of this kind, without bytes to sign.
abbrev pub plain_need : ℕ → CNeed
plain_need kind = record { kind = kind; to_sign_len = 0; id = replicate 32 0; signed = replicate 196 0 }

-- Converts a need to a C struct.
abbrev pub to_c_need : Needed → CNeed
to_c_need nothing = plain_need 0
to_c_need presence = plain_need 1
to_c_need key = plain_need 2
to_c_need (sign id signed) = record { kind = 3; to_sign_len = length signed; id = id; signed = with_zeros 196 signed }

-- A Boolean as a number: 0 or 1.
abbrev pub bit : Bool → ℕ
bit true = 1
bit false = 0

-- Converts a row to a C struct.
abbrev pub to_c_credential : Row → Credential
to_c_credential row = record {
  rp = row.rp;
  id = row.id;
  x = row.x;
  y = row.y;
  user = with_zeros 64 row.user.items;
  name = with_zeros 64 row.name;
  user_id_len = length row.user.items;
  user_name_len = length row.name;
  discoverable = bit row.discoverable;
  counter = row.counter;
}

-- Converts meters to a C struct.
abbrev pub to_c_stats : Meters → CStats
to_c_stats m = record {
  requests = m.requests;
  bytes = m.bytes;
  steps = m.steps;
  held = m.held;
  rows = m.rows;
  pending = m.pending;
  unused = 0;
}

-- What the pending request needs is stored, and the return value is the number of its kind.
abbrev pub ReportsNeed : Option DeviceState → CNeed × CNeed → ℤ → Type 0
ReportsNeed None need result = (need.1 ≡ need.0) × (result ≡ ERR_NOT_INITIALIZED)
ReportsNeed (Some d) need result = (need.1 ≡ to_c_need (needs d.session.machine.core.state.work))
    × (result ≡ pos need.1.kind)

-- The credential at index `place` is stored. If the index is out of range, nothing is stored.
abbrev pub ReportsRow : List Row → ℕ → Credential × Credential → ℤ → Type 0
ReportsRow rows place credential result =
    (place < length rows → ((row : Row) × (slice_index_or rows place row ≡ row) × (credential.1 ≡ to_c_credential row))
    × (result ≡ pos 0))
    × (length rows ≤ place → (credential.1 ≡ credential.0) × (result ≡ ERR_INVALID_ARGUMENT))

-- The effect of reading a credential, and the call's return value.
abbrev pub ReportsCredential : Option DeviceState → ℕ → Credential × Credential → ℤ → Type 0
ReportsCredential None place credential result = (credential.1 ≡ credential.0) × (result ≡ ERR_NOT_INITIALIZED)
ReportsCredential (Some d) place credential result =
    ReportsRow d.session.machine.core.state.rows place credential result

-- The effect of reading the key's statistics, and the call's return value.
abbrev pub ReportsStats : Option DeviceState → CStats × CStats → ℤ → Type 0
ReportsStats None meters result = (meters.1 ≡ meters.0) × (result ≡ ERR_NOT_INITIALIZED)
ReportsStats (Some d) meters result = (meters.1 ≡ to_c_stats d.session.meters) × (result ≡ pos 0)

-- A count, or ERR_NOT_INITIALIZED if the key is not initialized.
abbrev pub count_or : (DeviceState → ℕ) → Option DeviceState → ℤ
count_or count None = ERR_NOT_INITIALIZED
count_or count (Some d) = pos (count d)

-- The number of credentials of a device.
abbrev pub credential_count : DeviceState → ℕ
credential_count d = length d.session.machine.core.state.rows

-- The number of pending assertions of a device.
abbrev pub pending_assertions : DeviceState → ℕ
pending_assertions d = pending_count d.session.machine.core.state.pending

-- The number of queued packets of a device.
abbrev pub waiting_packets : DeviceState → ℕ
waiting_packets d = length d.waiting

-- ---- the causes for which a key refused its last input, as the numbers of enum hidlog_cause_code in hidlog.h

-- The report of a cause without compared values.
abbrev pub without_values : ℕ → ℕ → CauseReport
without_values code status = record { code = code; status = status; first = 0; second = 0 }

-- The report of a cause with two compared values.
abbrev pub with_values : ℕ → ℕ → ℕ → ℕ → CauseReport
with_values code status first second = record { code = code; status = status; first = first; second = second }

-- The report of a cause of the transport.
abbrev pub transport_report : TransportRefusal → CauseReport
transport_report (transport.NoSuchCommand cmd) = with_values 1 0x01 cmd 0
transport_report (transport.InitLength len) = with_values 2 0x03 len 0
transport_report (transport.MessageLength cmd len) = with_values 3 0x03 cmd len
transport_report (transport.WrongNumber came due) = with_values 4 0x04 came due
transport_report (transport.BrokenOff due) = with_values 5 0x04 due 0
transport_report (transport.Overdue last at) = with_values 6 0x05 last at
transport_report (transport.BusyElsewhere channel) = with_values 7 0x06 channel 0
transport_report transport.BusyHere = without_values 8 0x06
transport_report (transport.NoSuchChannel given) = with_values 9 0x0b given 0
transport_report transport.NoChannelLeft = without_values 10 0x7f

-- The report of the first failed check of a request.
abbrev pub request_report : RequestFault → CauseReport
request_report fault.Empty = without_values 20 0x03
request_report (fault.NoSuchCommand byte) = with_values 21 0x01 byte 0
request_report (fault.Trailing count) = with_values 22 0x03 count 0
request_report (fault.NotCanonical found) = with_values 23 0x12 found.at (number_of found.kind)
request_report fault.WrongType = without_values 24 0x11
request_report (fault.Missing asked parameter) = with_values 25 0x14 asked parameter
request_report (fault.EntryNotWhole asked parameter) = with_values 26 0x14 asked parameter
request_report (fault.HashLength len) = with_values 27 0x03 len 0
request_report (fault.UserIdLength len) = with_values 28 0x03 len 0
request_report fault.PinUvAuthParam = without_values 29 0x02
request_report fault.NoAlgorithm = without_values 30 0x26
request_report fault.UvOption = without_values 31 0x2c
request_report fault.UpOption = without_values 32 0x2c
request_report fault.RkOption = without_values 33 0x2b
request_report fault.EnterpriseAttestation = without_values 34 0x02

-- A Boolean as a number: 0 or 1.
abbrev pub bit_of : Bool → ℕ
bit_of true = 1
bit_of false = 0

-- The report of a refused command.
abbrev pub command_report : CommandRefusal → CauseReport
command_report (command.BadRequest status) = without_values 35 status
command_report command.Cancelled = without_values 50 0x2d
command_report command.Denied = without_values 51 0x27
command_report command.NoConsentInTime = without_values 52 0x27
command_report command.TimedOut = without_values 53 0x2f
command_report command.Excluded = without_values 54 0x19
command_report command.Full = without_values 55 0x28
command_report command.KeyRefused = without_values 56 0x7f
command_report command.KeyIdTaken = without_values 57 0x7f
command_report command.SignatureRefused = without_values 58 0x7f
command_report (command.NoCredential listed) = with_values 59 0x2e (bit_of listed) 0
command_report command.CounterSpent = without_values 60 0x15
command_report command.NothingPending = without_values 61 0x30
command_report (command.PendingElsewhere channel) = with_values 62 0x30 channel 0
command_report (command.NextTooLate since at) = with_values 63 0x30 since at
command_report (command.ResetTooLate since at) = with_values 64 0x30 since at

-- The report of a cause.
abbrev pub report_of : Cause → CauseReport
report_of (Transport why) = transport_report why
report_of (Request why) = request_report why
report_of (Command why) = command_report why

-- The cause of dropping a message that timed out before the input, if any.
abbrev pub time_cause_of : Option TransportRefusal → Option Cause
time_cause_of None = None
time_cause_of (Some overdue) = Some (Transport overdue)

-- The cause of refusing the input if `is_input` is true; otherwise the cause of dropping a message that timed out
-- before the input.
abbrev pub cause_at : TwoCauses → (is_input : Bool) → Option Cause
cause_at causes true = causes.input
cause_at causes false = time_cause_of causes.time

-- The report of the cause is stored, and the return value is the number of bytes of text in the output buffer. Without
-- a cause nothing is written, and the return value is 0.
abbrev pub ReportsOne : Option Cause → CauseReport × CauseReport → List ℕ × List ℕ → ℤ → Type 0
ReportsOne None report out result = (report.1 ≡ report.0) × (out.1 ≡ out.0) × (result ≡ pos 0)
ReportsOne (Some cause) report out result = (report.1 ≡ report_of cause)
    × ((n : ℕ) × (n ≤ length out.1) × (result ≡ pos n))

-- Selector 0 selects the cause of a time-out, and selector 1 the cause of refusing the input.
abbrev pub parsed_which : ℕ → Option Bool
parsed_which which = if nat_eq which 0 then Some false else if nat_eq which 1 then Some true else None

-- The selected cause is reported. Any selector other than 0 and 1 is an error.
abbrev pub ReportsWhich : Option Bool → TwoCauses → CauseReport × CauseReport → List ℕ × List ℕ → ℤ → Type 0
ReportsWhich None causes report out result = (report.1 ≡ report.0) × (out.1 ≡ out.0) × (result ≡ ERR_INVALID_ARGUMENT)
ReportsWhich (Some is_input) causes report out result = ReportsOne (cause_at causes is_input) report out result

-- The selected cause is reported, unless the key is not initialized. A pair is the caller's memory before and after the
-- call.
abbrev pub ReportsCause : Option DeviceState → (which : ℕ) → CauseReport × CauseReport → List ℕ × List ℕ → ℤ → Type 0
ReportsCause None which report out result = (report.1 ≡ report.0) × (out.1 ≡ out.0) × (result ≡ ERR_NOT_INITIALIZED)
ReportsCause (Some d) which report out result = ReportsWhich (parsed_which which) d.causes report out result
