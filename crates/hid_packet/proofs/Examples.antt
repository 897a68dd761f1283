-- The definitions at worked packets: a reader's check that they say what CTAP 2.1 says.
use Rattle.std.proofs.Common.{◌≡◌, ℕ, ◌-◌, List, [], ◌∷◌, ◌++◌, length, replicate, refl}
use Rattle.hid_packet.specs.Packet.{Fields, initialization, continuation, fields, channel, is_initialization, command}
use Rattle.hid_packet.specs.Packet.{message_length, initialization_data, sequence, continuation_data}
use Rattle.hid_packet.specs.Message.{message_packets, initialization_packet, continuation_packet, continuation_packets, padded_packet}

-- x, and zeros after it
abbrev pad : List ℕ → List ℕ
pad x = x ++ replicate (64 - length x) 0

fields_of : List ℕ → Fields
unfolding channel is_initialization command message_length initialization_data sequence continuation_data
fields_of packet = fields packet

packets_of : ℕ → ℕ → List ℕ → List (List ℕ)
unfolding message_packets initialization_packet continuation_packet continuation_packets padded_packet
packets_of cid cmd bytes = message_packets cid cmd bytes

-- PING of `abc` on channel 1
ping : fields_of (pad (0 ∷ 0 ∷ 0 ∷ 1 ∷ 0x81 ∷ 0 ∷ 3 ∷ 0x61 ∷ 0x62 ∷ 0x63 ∷ []))
    ≡ initialization 1 1 3 (0x61 ∷ 0x62 ∷ 0x63 ∷ replicate 54 0)
unfolding fields_of
ping = refl

-- INIT on the broadcast channel
init : fields_of (pad (255 ∷ 255 ∷ 255 ∷ 255 ∷ 0x86 ∷ 0 ∷ 8 ∷ [])) ≡ initialization 4294967295 6 8 (replicate 57 0)
unfolding fields_of
init = refl

-- a continuation packet with sequence number 127
last_continuation : fields_of (0 ∷ 0 ∷ 0 ∷ 2 ∷ 0x7f ∷ replicate 59 9) ≡ continuation 2 127 (replicate 59 9)
unfolding fields_of
last_continuation = refl

-- no byte, and 57 bytes: one packet
empty_ping : packets_of 1 1 [] ≡ pad (0 ∷ 0 ∷ 0 ∷ 1 ∷ 0x81 ∷ 0 ∷ 0 ∷ []) ∷ []
unfolding packets_of
empty_ping = refl

full_packet : packets_of 1 1 (replicate 57 9) ≡ (0 ∷ 0 ∷ 0 ∷ 1 ∷ 0x81 ∷ 0 ∷ 0x39 ∷ replicate 57 9) ∷ []
unfolding packets_of
full_packet = refl

-- 58 bytes: a continuation packet with sequence number 0 and one byte
one_more : packets_of 1 1 (replicate 58 9) ≡ (0 ∷ 0 ∷ 0 ∷ 1 ∷ 0x81 ∷ 0 ∷ 0x3a ∷ replicate 57 9)
    ∷ pad (0 ∷ 0 ∷ 0 ∷ 1 ∷ 0 ∷ 9 ∷ []) ∷ []
unfolding packets_of
one_more = refl

-- 7609 bytes: 129 packets
longest : length (packets_of 1 1 (replicate 7609 9)) ≡ 129
unfolding packets_of
longest = refl
