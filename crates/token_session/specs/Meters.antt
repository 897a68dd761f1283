-- Processing a list of inputs in a session, and the meters of a session.
use Rattle.std.specs.Prelude.{◌≡◌, ◌≤◌, ℕ, ◌+◌, ◌-◌, ◌*◌, List, [], ◌∷◌, length, max, min, sum_by, Option, Some, None}
use Rattle.std.specs.Prelude.{◌<◌, ◌++◌, take, Result, Ok, Err}
use Rattle.std.specs.List.{cons_option}
use Rattle.hid_assemble.specs.Assembly.{stored_len}
use Rattle.authn_core.specs.Turn.{Start}
use Rattle.cred_table.specs.Rows.{ValidRows, pending_count}
use Rattle.ctap_message.specs.Requests.{steps_of, MAX_STEPS}
use Rattle.token_session.specs.declared.input.Timed.{Timed}
use Rattle.token_session.specs.declared.input.Meters.{Meters}
use Rattle.token_session.specs.Machine.{request_in, MachineState, MachineTurn, turn}
use Rattle.token_session.specs.Inputs.{ReceivedInput}
use Rattle.token_session.specs.History.{state_of, received, held, core, event_after, with_input_number}
use Rattle.token_session.specs.declared.input.Sent.{Sent}
use Rattle.token_session.specs.declared.driver.BothFault.{BothFault}
use Rattle.token_session.specs.declared.driver.DriveFault.{DriveFault}
use Rattle.token_session.specs.declared.driver.DriveFault.TheVariants.{Full}
use Rattle.token_session.specs.declared.driver.BothFault.TheVariants.{Full as BothFull}
use Rattle.hid_packet.specs.Packet.{OUTBOX_CAPACITY}

-- ---- the meters of a session: as a history defines them, and as each input changes them

-- The messages of all requests in a history, newest first.
unfoldable pub requests : Start → List ReceivedInput → List (List ℕ)
requests start [] = []
requests start (e ∷ past) = cons_option (request_in (event_after (core start past) e past)) (requests start past)

-- The maximum number of data bytes of an open message that were stored, at the start and after each input.
unfoldable pub peak_held : Start → List ReceivedInput → ℕ
peak_held start [] = held start []
peak_held start (e ∷ past) = max (peak_held start past) (held start (e ∷ past))

-- The maximum number of credentials, at the start and after each input.
unfoldable pub peak_rows : Start → List ReceivedInput → ℕ
peak_rows start [] = length (core start []).state.rows
peak_rows start (e ∷ past) = max (peak_rows start past) (length (core start (e ∷ past)).state.rows)

-- The maximum number of pending assertions, at the start and after each input.
unfoldable pub peak_pending : Start → List ReceivedInput → ℕ
peak_pending start [] = pending_count (core start []).state.pending
peak_pending start (e ∷ past) = max (peak_pending start past) (pending_count (core start (e ∷ past)).state.pending)

-- The meters that a history defines.
unfoldable pub meters_of : Start → List ReceivedInput → Meters
meters_of start h = record {
  held = peak_held start h;
  rows = peak_rows start h;
  pending = peak_pending start h;
  requests = min (length (requests start h)) MAX_STEPS;
  bytes = min (sum_by (λ bytes. length bytes - 1) (requests start h)) MAX_STEPS;
  steps = min (sum_by steps_of (requests start h)) MAX_STEPS;
}

-- The meters after an input that completed a request, if any: the number of requests, the number of bytes after the
-- command bytes, and the number of parsing steps increase.
unfoldable pub counted : Meters → Option (List ℕ) → Meters
counted m None = m
counted m (Some message) = record m {
  requests = min (m.requests + 1) MAX_STEPS;
  bytes = min (m.bytes + (length message - 1)) MAX_STEPS;
  steps = min (m.steps + steps_of message) MAX_STEPS;
}

-- The meters after an input, from the numbers of stored bytes, credentials and pending assertions then.
unfoldable pub update_meters : Meters → (held rows pending : ℕ) → Option (List ℕ) → Meters
update_meters m held rows pending request =
    let n = counted m request in
    record n { held = max n.held held; rows = max n.rows rows; pending = max n.pending pending }

-- Parsing takes at most four steps for each byte after the command byte, and two more for each request.
abbrev pub AreBounded : Meters → Type 0
AreBounded m = m.steps ≤ 4 * m.bytes + 2 * m.requests

-- A session: the composed machine's state, and the meters.
pub record SessionState : Type 0 where
  pub machine : MachineState
  pub meters : Meters

-- The meters after an input of the composed machine.
abbrev pub with_turn_metered : Meters → MachineTurn → Meters
with_turn_metered m t =
    update_meters m (stored_len t.state.current) (length t.state.core.state.rows) (pending_count t.state.core.state.pending)
    (request_in t.event)

-- The session after one more input.
unfoldable pub stepped : SessionState → Timed → SessionState
stepped s x = record {
  machine = (turn s.machine x).state;
  meters = with_turn_metered s.meters (turn s.machine x);
}

-- The packets that are sent for the input.
abbrev pub input_packets_of : SessionState → Timed → List (List ℕ)
input_packets_of s x = (turn s.machine x).packets

-- The session that a history defines.
unfoldable pub session_of : Start → List ReceivedInput → SessionState
session_of start h = record { machine = state_of start h; meters = meters_of start h }

-- The session's state is the one that the history defines.
abbrev pub IsStateAfter : SessionState → Start → List Timed → Type 0
IsStateAfter s start h = s ≡ session_of start (received start h)

-- The session's state is the one that the history defines, and the credentials at the start are valid, as in every
-- table.
pub record IsStateAfterValidStart (s : SessionState) (start : Start) (h : List Timed) : Type 0 where
  pub lawful : ValidRows start.capacity start.rows
  pub stands : IsStateAfter s start h

-- Processing a list of inputs in a session, and collecting the packets that are sent, each with the number of its
-- input.

-- A packet that was sent, with the number of its input.
abbrev pub numbered_packet : Sent → ℕ × List ℕ
numbered_packet s = (s.input, (s.packet).0)

-- The packet without the number of its input.
abbrev pub packet_of : Sent → List ℕ
packet_of s = (s.packet).0

-- The session after the inputs of a list.
abbrev pub state_after_inputs : SessionState → List Timed → SessionState
state_after_inputs s [] = s
state_after_inputs s (x ∷ xs) = state_after_inputs (stepped s x) xs

-- The packets that are sent for a list of inputs, each with the number of its input. The first input has the number
-- `n`.
abbrev pub packets_of_inputs : ℕ → SessionState → List Timed → List (ℕ × List ℕ)
packets_of_inputs n s [] = []
packets_of_inputs n s (x ∷ xs) = with_input_number n (input_packets_of s x) ++ packets_of_inputs (n + 1) (stepped s x) xs

-- The number of an error of driving one session, as programs print it.
abbrev pub drive_number : DriveFault → ℕ
drive_number (Full done) = 1

-- The number of an error of driving two sessions, as programs print it.
abbrev pub drive_both_number : BothFault → ℕ
drive_both_number (BothFull first second) = 1

-- How many of the `n` inputs were processed.
abbrev pub inputs_done : {A : Type 0} → ℕ → Result A DriveFault → ℕ
inputs_done n (Ok x) = n
inputs_done n (Err (Full done)) = done

-- How many of the `n` inputs were processed in the first run.
abbrev pub first_inputs_done : {A : Type 0} → ℕ → Result A BothFault → ℕ
first_inputs_done n (Ok x) = n
first_inputs_done n (Err (BothFull first second)) = first

-- How many of the `n` inputs were processed in the second run.
abbrev pub second_inputs_done : {A : Type 0} → ℕ → Result A BothFault → ℕ
second_inputs_done n (Ok x) = n
second_inputs_done n (Err (BothFull first second)) = second

-- Before each of the first `done` inputs, the list had capacity for 130 more packets.
abbrev pub HadCapacity : ℕ → List (ℕ × List ℕ) → SessionState → List Timed → ℕ → Type 0
HadCapacity places old s xs done = (j : ℕ) → j < done → length
    (old ++ packets_of_inputs 0 s (take j xs)) + OUTBOX_CAPACITY ≤ places

-- The first `done` inputs were processed: the session and the list of packets are exactly those after these inputs, and
-- before each of them the list had capacity for 130 more packets.
pub record IsDriven (places : ℕ) (old new : SessionState) (before after : List (ℕ × List ℕ)) (inputs : List Timed)
    (done : ℕ) : Type 0 where
  pub state : new ≡ state_after_inputs old (take done inputs)
  pub packets : after ≡ before ++ packets_of_inputs 0 old (take done inputs)
  pub capacity : HadCapacity places before old inputs done
