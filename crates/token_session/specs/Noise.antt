-- Noise: inputs that change nothing except the time, so that a tick could replace them. Whether an input is noise
-- depends on the state after time has passed to its timestamp.
use Rattle.std.specs.Prelude.{◌≡◌, ℕ, ◌+◌, ◌⊎◌, Bool, true, false, not, List, [], ◌∷◌, ◌++◌, max, Option, option_map}
use Rattle.std.specs.Prelude.{if◌then◌else◌}
use Rattle.hid_packet.specs.Packet.{fields}
use Rattle.hid_assemble.specs.Table as table
use Rattle.hid_assemble.specs.Table.{Open, packet_class}
use Rattle.hid_assemble.specs.{Assembly.Assembly, Verdicts.is_noise_verdict, Verdicts.verdict}
use Rattle.authn_core.specs.State.{Answer, Ignored, PresenceIs, KeyIs, SignatureIs}
use Rattle.authn_core.specs.Turn.{Start, CoreState, core_answer, working_channel}
use Rattle.authn_core.specs.Views.{wants_presence, wants_key, wants_signature}
use Rattle.token_session.specs.declared.input.{Input.Input, Timed.Timed}
use Rattle.token_session.specs.declared.input.Input.TheVariants.{Packet, Tick, Presence, Key, Signature}
use Rattle.token_session.specs.{Machine.MachineState, Machine.time_passed, Inputs.ReceivedInput, Inputs.channels_allocated, History.with_input_number}
use Rattle.token_session.specs.Inputs.{open_at, to_open}
use Rattle.token_session.specs.History.{core, received_after, received, last_keepalive, sent_at, time_packets}

-- Whether an input is noise, given the allocated channels, the open message and the authenticator. For a packet, the
-- reply table decides; a reply of the caller is noise if it is not needed; a tick is not noise.
abbrev pub is_noise_among : ℕ → Option Open → CoreState → Input → Bool
is_noise_among channels_allocated current core (Packet p) = table.is_noise (packet_class channels_allocated current (working_channel core) (fields p.0))
is_noise_among channels_allocated current core (Presence reply) = not (wants_presence core.state.work)
is_noise_among channels_allocated current core (Key key) = not (wants_key core.state.work)
is_noise_among channels_allocated current core (Signature signature) = not (wants_signature core.state.work)
is_noise_among channels_allocated current core Tick = false

-- Whether an input is noise in a state of the composed machine.
abbrev pub is_noise_in : MachineState → Input → Bool
is_noise_in s i = is_noise_among s.given s.current s.core i

-- Whether an input is noise after time has passed to its timestamp.
unfoldable pub is_noise_at : MachineState → Timed → Bool
is_noise_at s x = is_noise_in (time_passed s (max s.now x.at)).state x.input

-- Whether an input is noise after a history.
unfoldable pub is_noise_after : Start → ReceivedInput → List ReceivedInput → Bool
is_noise_after start e past = is_noise_among (channels_allocated past) (option_map to_open (open_at past e.at))
    (core start past) e.input

-- Whether the authenticator ignores a reply.
abbrev pub is_ignored : Answer → Bool
is_ignored Ignored = true
is_ignored answer = false

-- Whether an input is ignored, or refused because of its channel. This is an equivalent definition of noise, by the
-- result of the input.
abbrev pub is_ignored_or_rejected : Assembly → CoreState → (now : ℕ) → Input → Bool
is_ignored_or_rejected a core now (Packet p) = is_noise_verdict (verdict a (working_channel core) (fields p.0))
is_ignored_or_rejected a core now (Presence reply) = is_ignored (core_answer core now (PresenceIs reply))
is_ignored_or_rejected a core now (Key key) = is_ignored (core_answer core now (KeyIs key))
is_ignored_or_rejected a core now (Signature signature) = is_ignored (core_answer core now (SignatureIs signature))
is_ignored_or_rejected a core now Tick = false

-- A tick at this time.
abbrev pub tick_at : ℕ → Timed
tick_at at = record { at = at; input = Tick }

-- `y` is the input `x` after history `h`, or `x` is noise and `y` is a tick at the same time.
abbrev pub IsSameOrTick : Start → List Timed → (x y : Timed) → Type 0
IsSameOrTick start h x y = (y ≡ x) ⊎ ((y ≡ tick_at x.at) ×
    (is_noise_after start (received_after start h x) (received start h) ≡ true))

-- The second history is the first one with some, all or none of its noise replaced by ticks.
abbrev pub HasTicksForNoise : Start → (h g : List Timed) → Type 0
HasTicksForNoise start [] [] = Unit {0}
HasTicksForNoise start [] (y ∷ g) = ⊥
HasTicksForNoise start (x ∷ h) [] = ⊥
HasTicksForNoise start (x ∷ h) (y ∷ g) = HasTicksForNoise start h g × IsSameOrTick start h x y

-- Whether the second input is a tick that replaces another input.
abbrev pub is_replaced : (i j : Input) → Bool
is_replaced Tick j = false
is_replaced i Tick = true
is_replaced i j = false

-- The packets that are sent for an input after a history. If a tick replaces the input, only those that are sent
-- because time passed.
abbrev pub quiet_packets : Start → List ReceivedInput → ReceivedInput → Input → List (List ℕ)
quiet_packets start past e j = if is_replaced e.input j then time_packets start past (last_keepalive start past) e.at
    else sent_at start e past

-- The packets that are sent for `x` after `h`. If the tick `y` replaces `x`, only those that are sent because time
-- passed.
unfoldable pub quiet_now : Start → List Timed → (x y : Timed) → List (List ℕ)
quiet_now start h x y = quiet_packets start (received start h) (received_after start h x) y.input

-- The packets that are sent for a history, except those for inputs that ticks replace in the second history.
unfoldable pub quiet_sent : Start → (h g : List Timed) → List (List ℕ)
quiet_sent start [] g = []
quiet_sent start (x ∷ h) [] = []
quiet_sent start (x ∷ h) (y ∷ g) = quiet_sent start h g ++ quiet_now start h x y

-- The packets that are sent for a list of inputs after a history, except those for inputs that ticks replace in the
-- second list, in order, each with the number of its input.
abbrev pub quiet_from : ℕ → Start → (h xs ys : List Timed) → List (ℕ × List ℕ)
quiet_from n start h [] ys = []
quiet_from n start h (x ∷ xs) [] = []
quiet_from n start h (x ∷ xs) (y ∷ ys) = with_input_number n (quiet_now start h x y) ++ quiet_from (n + 1) start (x ∷ h) xs ys
