-- Worked histories, by computation: a reader's check that the definitions say what is meant. Code and definitions share
-- the fields, the error codes, the greeting and the authenticator's turns, and only these rows look at them from
-- outside.
use Rattle.std.proofs.Common.{arith, inl, inr}
use Prim.Native.String.{String}
use Rattle.std.specs.Prelude.{◌≡◌, ℕ, ◌+◌, ◌-◌, ◌*◌, nat_lt, if◌then◌else◌, codes, List, [], ◌∷◌, ◌++◌, length, refl}
use Rattle.std.specs.Prelude.{replicate, reverse, true, zero, suc, Option, Some, None}
use Rattle.cred_table.specs.declared.row.Row.{Row}
use Rattle.authn_core.specs.{State.AwaitSelectionPresence, State.Waits, Turn.Start}
use Rattle.authn_core.specs.Turn as core_turn
use Rattle.ctap_message.specs.{Responses.assertion_answer, Responses.info_answer, Requests.read_of}
use Rattle.hid_assemble.specs.Assembly.{Message, accepted, is_overdue, message_after, open_after}
use Rattle.hid_assemble.specs.Verdicts.{class_verdict, verdict}
use Rattle.hid_assemble.specs.Table.{cont_packet_row, init_packet_row, packet_class}
use Rattle.hid_packet.specs.Message.{continuation_packet, continuation_packets, initialization_packet, padded_packet, message_packets}
use Rattle.hid_packet.specs.Packet.{channel, command, continuation_data, initialization_data, is_initialization}
use Rattle.hid_packet.specs.Packet.{message_length, sequence}
use Rattle.token_session.specs.Carried.{MessageArrives, received_after_all}
use Rattle.token_session.specs.Inputs.{requests_channel, channels_allocated, is_channel_input, channel_inputs}
use Rattle.token_session.specs.Inputs.{completed_message, message_completed_at, completed_long_message, continues_until, is_last_packet, is_long, is_next_packet}
use Rattle.token_session.specs.Inputs.{is_open, open_among, open_at, packets_of}
use Rattle.token_session.specs.History.{admits, core, event, held, receive, received, last_keepalive, packet_event, sent}
use Rattle.token_session.specs.History.{sent_at, service_packets, table_packets, time_packets}
use Rattle.token_session.specs.{History.append_inputs, History.run_sent, Machine.keepalive_due, declared.input.Timed.Timed}
use Rattle.token_session.specs.Machine.{MachineState, response_sends_keepalive, machine, time_passed, start_state, turn}
use Rattle.token_session.specs.Machine.{answer_packets, init_response, row_packets}
use Rattle.token_session.specs.declared.input.Input.TheVariants.{Packet, Signature, Tick}

abbrev digit : ℕ → ℕ
digit c = if nat_lt c 58 then c - 48 else c - 87

abbrev bytes_of : List ℕ → List ℕ
bytes_of (high ∷ low ∷ digits) = (16 * digit high + digit low) ∷ bytes_of digits
bytes_of digits = []

-- the bytes that hexadecimal digits spell
abbrev hex : String → List ℕ
hex digits = bytes_of (codes digits)

abbrev pad : List ℕ → List ℕ
pad x = x ++ replicate (64 - length x) 0

abbrev came : ℕ → List ℕ → Timed
came t x = record { at = t; input = Packet (record { 0 = pad x }) }

abbrev tick : ℕ → Timed
tick t = record { at = t; input = Tick }

-- the inputs of a list in order, after two INITs
abbrev init_line : List ℕ
init_line = hex "ffffffff860008" ++ replicate 8 1

abbrev greeted : ℕ → List ℕ
greeted c = pad (hex "ffffffff860011" ++ replicate 8 1 ++ hex "000000" ++ c ∷ hex "020100000c")

-- an AAGUID of sixteen zero bytes, and the time 0
abbrev at_zero : Start
at_zero = record { aaguid = replicate 16 0; moment = 0; capacity = 64; rows = [] }

sent_by : List Timed → List (List ℕ)
unfolding channel is_initialization command message_length initialization_data sequence continuation_data padded_packet
    initialization_packet continuation_packet continuation_packets message_packets read_of core_turn.turn init_packet_row
    cont_packet_row packet_class init_response row_packets table_packets answer_packets response_sends_keepalive is_overdue
    keepalive_due open_after message_after accepted class_verdict verdict time_passed turn start_state machine received
    sent held requests_channel channels_allocated is_channel_input channel_inputs is_next_packet continues_until is_long is_open open_among open_at is_last_packet completed_long_message
    completed_message packet_event event core admits receive last_keepalive time_packets service_packets sent_at
sent_by xs = sent at_zero (received at_zero (reverse xs))

-- the first lines of the plainest log
init_and_ping : sent_by (came 0 init_line ∷ came 5 (hex "00000001810003616263") ∷ []) ≡ greeted 1
    ∷ pad (hex "00000001810003616263") ∷ []
init_and_ping = unfold sent_by in refl

-- Two channels are given at 0; what these inputs send is dropped.
abbrev begun_with_two : List Timed → List Timed
begun_with_two xs = came 0 init_line ∷ came 0 init_line ∷ xs

abbrev one : List ℕ → List ℕ
one x = 0 ∷ 0 ∷ 0 ∷ 1 ∷ x

abbrev two : List ℕ → List ℕ
two x = 0 ∷ 0 ∷ 0 ∷ 2 ∷ x

abbrev after_two : List (List ℕ) → List (List ℕ)
after_two ps = greeted 1 ∷ greeted 2 ∷ ps

-- PING of 100 bytes, its bytes 1s and 2s
abbrev ping_100 : List ℕ
ping_100 = one (hex "810064" ++ replicate 57 1)

abbrev number : ℕ → List ℕ
number k = one (k ∷ replicate 43 2 ++ 9 ∷ 9 ∷ [])

abbrev ping_100_back : List (List ℕ)
ping_100_back = ping_100 ∷ pad (one (hex "00" ++ replicate 43 2)) ∷ []

error_1 : ℕ → List ℕ
error_1 code = pad (one (hex "bf0001" ++ code ∷ []))

two_hosts : sent_by (begun_with_two (came 0 ping_100 ∷ came 10 (two (hex "81000161")) ∷ came 20 (number 0) ∷ []))
    ≡ after_two (pad (two (hex "bf000106")) ∷ ping_100_back)
two_hosts = unfold sent_by in refl

wrong_sequence : sent_by (begun_with_two (came 0 ping_100 ∷ came 0 (two (hex "00")) ∷ came 0 (number 1)
    ∷ came 0 (number 0) ∷ []))
    ≡ after_two (error_1 4 ∷ [])
wrong_sequence = unfold sent_by error_1 in refl

init_on_open : sent_by (begun_with_two (came 0 ping_100 ∷ came 0 (one (hex "860008" ++ replicate 8 8))
    ∷ came 0 (number 0) ∷ []))
    ≡ after_two (pad (one (hex "860011" ++ replicate 8 8 ++ hex "00000001020100000c")) ∷ [])
init_on_open = unfold sent_by in refl

init_of_seven : sent_by (begun_with_two (came 0 ping_100 ∷ came 0 (one (hex "860007" ++ replicate 7 8))
    ∷ came 0 (number 0) ∷ []))
    ≡ after_two (error_1 3 ∷ [])
init_of_seven = unfold sent_by error_1 in refl

init_elsewhere : sent_by (begun_with_two (came 0 ping_100 ∷ came 0 init_line ∷ came 0 (number 0) ∷ []))
    ≡ after_two (greeted 3 ∷ ping_100_back)
init_elsewhere = unfold sent_by in refl

in_time : sent_by (begun_with_two (came 1000 ping_100 ∷ came 1499 (number 0) ∷ [])) ≡ after_two ping_100_back
in_time = unfold sent_by in refl

late : sent_by (begun_with_two (came 2000 ping_100 ∷ tick 2300 ∷ came 2400 (one (hex "910000")) ∷ came 2500 (number 0)
    ∷ [])) ≡ after_two (error_1 5 ∷ [])
late = unfold sent_by error_1 in refl

earlier : sent_by (begun_with_two (came 3000 ping_100 ∷ came 900 (number 0) ∷ [])) ≡ after_two ping_100_back
earlier = unfold sent_by in refl

broken_off : sent_by (begun_with_two (came 0 ping_100 ∷ came 10 (one (hex "910000")) ∷ came 20 (one (hex "810000"))
    ∷ came 30 (one (hex "810000")) ∷ []))
    ≡ after_two (error_1 4 ∷ pad (one (hex "810000")) ∷ [])
broken_off = unfold sent_by error_1 in refl

-- the packets 0 .. n-1 after the first
abbrev numbers_from : ℕ → ℕ → List Timed
numbers_from zero k = []
numbers_from (suc n) k = came 0 (one (k ∷ replicate 59 2)) ∷ numbers_from n (k + 1)

abbrev back_from : ℕ → ℕ → List (List ℕ)
back_from zero k = []
back_from (suc n) k = one (k ∷ replicate 59 2) ∷ back_from n (k + 1)

-- 57 + 10 * 59 = 647 = 2 * 256 + 135
ten : sent_by (begun_with_two (came 0 (one (hex "810287" ++ replicate 57 1)) ∷ numbers_from 10 0))
    ≡ after_two (one (hex "810287" ++ replicate 57 1) ∷ back_from 10 0)
ten = unfold sent_by in refl

forty : sent_by (begun_with_two (came 0 (one (hex "810971" ++ replicate 57 1)) ∷ numbers_from 40 0))
    ≡ after_two (one (hex "810971" ++ replicate 57 1) ∷ back_from 40 0)
forty = unfold sent_by in refl

longest : sent_by (begun_with_two (came 0 (one (hex "811db9" ++ replicate 57 1)) ∷ numbers_from 128 0))
    ≡ after_two (one (hex "811db9" ++ replicate 57 1) ∷ back_from 128 0)
longest = unfold sent_by in refl

too_long : sent_by (begun_with_two (came 0 (one (hex "811dba" ++ replicate 57 1)) ∷ came 1 (number 0) ∷ []))
    ≡ after_two (error_1 3 ∷ [])
too_long = unfold sent_by error_1 in refl

-- PING of 0, 57 and 58 bytes
ping_0 : sent_by (begun_with_two (came 0 (one (hex "810000")) ∷ [])) ≡ after_two (pad (one (hex "810000")) ∷ [])
ping_0 = unfold sent_by in refl

ping_57 : sent_by (begun_with_two (came 0 (one (hex "810039" ++ replicate 57 7)) ∷ []))
    ≡ after_two (one (hex "810039" ++ replicate 57 7) ∷ [])
ping_57 = unfold sent_by in refl

ping_58 : sent_by (begun_with_two (came 0 (one (hex "81003a" ++ replicate 57 7)) ∷ came 0 (one (hex "0007")) ∷ []))
    ≡ after_two (one (hex "81003a" ++ replicate 57 7) ∷ pad (one (hex "0007")) ∷ [])
ping_58 = unfold sent_by in refl

-- commands that aren't served, a channel that wasn't given, a CBOR message without a byte and one that isn't served
refusals : sent_by (begun_with_two (came 0 (one (hex "830000")) ∷ came 1 (hex "00000003810000")
    ∷ came 2 (one (hex "900000")) ∷ came 3 (one (hex "90000106")) ∷ []))
    ≡ after_two (error_1 1 ∷ pad (hex "00000003bf00010b") ∷ error_1 3 ∷ pad (one (hex "90000101")) ∷ [])
refusals = unfold sent_by error_1 in refl

-- authenticatorGetInfo's answer, for that AAGUID, as a CBOR message on channel 1
info_1 : List (List ℕ)
unfolding message_packets initialization_packet continuation_packet continuation_packets padded_packet
info_1 = message_packets 1 0x10 (info_answer (replicate 16 0))

get_info : sent_by (begun_with_two (came 0 (one (hex "90000104")) ∷ [])) ≡ after_two info_1
get_info = unfold sent_by info_1 in refl

-- a byte after its command
get_info_refused : sent_by (begun_with_two (came 0 (one (hex "9000020400")) ∷ []))
    ≡ after_two (pad (one (hex "90000103")) ∷ [])
get_info_refused = unfold sent_by in refl

-- Work waits for the user's presence on channel 1 since the time 0.
abbrev waiting : MachineState
waiting = record { now = 0; given = 2; current = None; core = record { setup = record { aaguid = replicate 16 0; began = 0; capacity = 64 }; state = record { rows = []; pending = None; work = Some (record { cid = 1; task = AwaitSelectionPresence }) } }; keepalive_at = 0 }

runs : MachineState → List Timed → List (ℕ × List ℕ)
unfolding channel is_initialization command message_length initialization_data sequence continuation_data padded_packet
    initialization_packet continuation_packet continuation_packets message_packets read_of core_turn.turn init_packet_row
    cont_packet_row packet_class init_response row_packets table_packets answer_packets response_sends_keepalive is_overdue
    keepalive_due open_after message_after accepted class_verdict verdict time_passed turn start_state machine received
    sent held requests_channel channels_allocated is_channel_input channel_inputs is_next_packet continues_until is_long is_open open_among open_at is_last_packet completed_long_message
    completed_message packet_event event core admits receive last_keepalive time_packets service_packets sent_at
runs s xs = run_sent 0 s xs

-- busy, a new channel, KEEPALIVE at 100 and 200 but not at 150, an idle CANCEL and a real one
waits : runs waiting (came 20 (two (hex "81000107")) ∷ came 25 (one (hex "81000107")) ∷ came 26 init_line ∷ tick 100
    ∷ tick 150 ∷ tick 200
    ∷ came 210 (two (hex "910000")) ∷ came 220 (one (hex "910000")) ∷ came 230 (one (hex "910000")) ∷ tick 500 ∷ [])
    ≡ (0, pad (two (hex "bf000106"))) ∷ (1, error_1 6) ∷ (2, greeted 3) ∷ (3, pad (one (hex "bb000102")))
    ∷ (5, pad (one (hex "bb000102")))
    ∷ (7, pad (one (hex "9000012d"))) ∷ []
waits = unfold runs error_1 in refl

-- INIT on its channel drops the work, which is answered by nothing from then on
drops : runs waiting (came 30 (one (hex "860008" ++ replicate 8 9)) ∷ tick 500 ∷ came 510 (one (hex "910000")) ∷ [])
    ≡ (0, pad (one (hex "860011" ++ replicate 8 9 ++ hex "00000001020100000c"))) ∷ []
drops = unfold runs in refl

-- time first, service then
cancel_in_time : runs waiting (came 100 (one (hex "910000")) ∷ []) ≡ (0, pad (one (hex "bb000102")))
    ∷ (0, pad (one (hex "9000012d"))) ∷ []
cancel_in_time = unfold runs in refl

-- A KEEPALIVE is sent as work begins and as its status changes, and not where it stays.
keepalives : List (List (List ℕ))
unfolding answer_packets message_packets initialization_packet continuation_packets padded_packet
keepalives = answer_packets (Some 1) None (Waits 2) ∷ answer_packets (Some 1) (Some 2) (Waits 1)
    ∷ answer_packets (Some 1) (Some 2) (Waits 2) ∷ []

begins_and_changes : keepalives ≡ (pad (one (hex "bb000102")) ∷ []) ∷ (pad (one (hex "bb000101")) ∷ []) ∷ [] ∷ []
begins_and_changes = unfold keepalives in refl

-- A KEEPALIVE is due at 100 ms and not at 99.
due : runs waiting (tick 99 ∷ tick 100 ∷ tick 199 ∷ tick 200 ∷ []) ≡ (1, pad (one (hex "bb000102")))
    ∷ (3, pad (one (hex "bb000102"))) ∷ []
due = unfold runs in refl

-- all channels were given out
abbrev full : MachineState
full = record { now = 0; given = 4294967294; current = None; core = record { setup = record { aaguid = replicate 16 0; began = 0; capacity = 64 }; state = record { rows = []; pending = None; work = None } }; keepalive_at = 0 }

-- INIT asks for one more, and then for one in vain with a length of 7; CANCEL there isn't answered, a command that
-- isn't served is refused for its channel
none_left : runs full (came 0 init_line ∷ came 0 (hex "ffffffff860007") ∷ came 0 (hex "ffffffff91")
    ∷ came 0 (hex "ffffffff83") ∷ [])
    ≡ (0, pad (hex "ffffffffbf00017f")) ∷ (1, pad (hex "ffffffffbf000103")) ∷ (3, pad (hex "ffffffffbf00010b")) ∷ []
none_left = unfold runs in refl

-- An assertion is pending for channel 1, by a credential with the counter 4.
credential : Row
credential = record { rp = replicate 32 7; id = replicate 32 0xaa; x = []; y = []; user = record { items = 1 ∷ [] }; discoverable = true; counter = 4; name = [] }

pending : MachineState
pending = record { now = 0; given = 2; current = None; core = record { setup = record { aaguid = replicate 16 0; began = 0; capacity = 64 }; state = record { rows = credential ∷ []; pending = Some (record { cid = 1; hash = replicate 32 34; presence = true; moment = 0; ids = replicate 32 0xaa ∷ [] }); work = None } }; keepalive_at = 0 }

-- what the second of two inputs sends
second_sends : Timed → Timed → List (List ℕ)
unfolding channel is_initialization command message_length initialization_data sequence continuation_data read_of
    core_turn.turn init_packet_row cont_packet_row packet_class init_response row_packets table_packets answer_packets
    response_sends_keepalive is_overdue keepalive_due open_after message_after accepted class_verdict verdict time_passed
    turn start_state machine received sent held requests_channel channels_allocated is_channel_input channel_inputs is_next_packet continues_until is_long is_open open_among
    open_at is_last_packet completed_long_message completed_message packet_event event core admits receive last_keepalive time_packets
    service_packets sent_at pending credential
second_sends x y = (turn (turn pending x).state y).packets

-- The next assertion is signed and answered on the channel that asked: the hash of the RP id, UP and the counter 5.
signature_answered : second_sends (came 10 (one (hex "90000108")))
    (record { at = 20; input = Signature (Some (0x30 ∷ [])) })
    ≡ message_packets 1 0x10 (assertion_answer (replicate 32 0xaa) (replicate 32 7 ++ 0x01 ∷ 0x00 ∷ 0x00 ∷ 0x00 ∷ 0x05 ∷ [])
    (0x30 ∷ []) (Some (1 ∷ [])) None)
signature_answered = unfold second_sends in refl

-- A PING of three packets at 0, 300 and 700, with another host's PING, a CANCEL of its own channel and a tick between.
finishes_at : List Timed → List Timed → Timed → Option Message
unfolding channel is_initialization command message_length initialization_data sequence continuation_data padded_packet
    initialization_packet continuation_packet continuation_packets message_packets read_of core_turn.turn init_packet_row
    cont_packet_row packet_class init_response row_packets table_packets answer_packets response_sends_keepalive is_overdue
    keepalive_due open_after message_after accepted class_verdict verdict time_passed turn start_state machine received
    sent held requests_channel channels_allocated is_channel_input channel_inputs is_next_packet continues_until is_long is_open open_among open_at is_last_packet completed_long_message
    completed_message packet_event event core admits receive last_keepalive time_packets service_packets sent_at
finishes_at h between last = message_completed_at (receive at_zero last (received at_zero (append_inputs between h)))
    (received at_zero (append_inputs between h))

own_between : List Timed → List Timed → List (List ℕ)
unfolding channel is_initialization command message_length initialization_data sequence continuation_data padded_packet
    initialization_packet continuation_packet continuation_packets message_packets read_of core_turn.turn init_packet_row
    cont_packet_row packet_class init_response row_packets table_packets answer_packets response_sends_keepalive is_overdue
    keepalive_due open_after message_after accepted class_verdict verdict time_passed turn start_state machine received
    sent held requests_channel channels_allocated is_channel_input channel_inputs is_next_packet continues_until is_long is_open open_among open_at is_last_packet completed_long_message
    completed_message packet_event event core admits receive last_keepalive time_packets service_packets sent_at
own_between h between = packets_of (channel_inputs 1 (received_after_all at_zero h between))

abbrev first_of_three : List Timed
first_of_three = came 0 (one (hex "81007e" ++ replicate 57 1)) ∷ came 0 init_line ∷ came 0 init_line ∷ []

abbrev between_three : List Timed
between_three = came 10 (two (hex "81000161")) ∷ came 300 (one (hex "00" ++ replicate 59 2))
    ∷ came 400 (one (hex "910000")) ∷ tick 600 ∷ []

three_finish : finishes_at first_of_three between_three (came 700 (one (hex "01" ++ replicate 10 3)))
    ≡ Some (record { cid = 1; cmd = 1; bytes = replicate 57 1 ++ replicate 59 2 ++ replicate 10 3 })
three_finish = unfold finishes_at in refl

-- only the middle one is the channel's own, and 500 ms later it is too late
own_is_middle : own_between first_of_three between_three ≡ one (hex "00" ++ replicate 59 2) ∷ []
own_is_middle = unfold own_between in refl

too_late : finishes_at first_of_three between_three (came 800 (one (hex "01" ++ replicate 10 3))) ≡ None
too_late = unfold finishes_at in refl

-- so the message arrives, by the law's own premises
arrives : MessageArrives at_zero (came 0 init_line ∷ came 0 init_line ∷ []) (came 0 (one (hex "81007e" ++ replicate 57 1)))
    between_three (receive at_zero (came 700 (one (hex "01" ++ replicate 10 3)))
    (received at_zero (append_inputs between_three first_of_three))) 1 1
    (replicate 57 1 ++ replicate 59 2 ++ replicate 10 3)
unfolding channel is_initialization command message_length initialization_data sequence continuation_data padded_packet
    initialization_packet continuation_packet continuation_packets message_packets read_of core_turn.turn init_packet_row
    cont_packet_row packet_class init_response row_packets table_packets answer_packets response_sends_keepalive is_overdue
    keepalive_due open_after message_after accepted class_verdict verdict time_passed turn start_state machine received
    sent held requests_channel channels_allocated is_channel_input channel_inputs is_next_packet continues_until is_long is_open open_among open_at is_last_packet completed_long_message
    completed_message packet_event event core admits receive last_keepalive time_packets service_packets sent_at
arrives = record {
  low = omega arith;
  high = omega arith;
  served = inl refl;
  free = refl;
  idle = refl;
  carried = record { short = omega arith; begins = refl; on = refl; asks = refl; counts = refl; continues = (refl, refl, refl, (refl, refl, refl, tt)); least = inr (omega arith, omega arith); joins = refl };
  soon = (omega arith, (omega arith, tt));
}
