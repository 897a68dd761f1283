-- The packets that are written for a message, and that no others carry it.
use Rattle.std.proofs.Common.{rules, ◌≡◌, ℕ, ◌+◌, ◌-◌, ◌<◌, suc, zero, min, List, [], ◌∷◌, ◌++◌, length, take, drop}
use Rattle.std.proofs.Common.{replicate, refl, arith, ◌*◌, ◌/◌, ◌%◌, ◌^◌, ◌≤◌, get_or, ◌∙◌, ap, ap₂, true, false, inl}
use Rattle.std.proofs.Common.{inr, flat_map, append_assoc, append-nil, zero-add, sym, subst, nat_le, length-append}
use Rattle.std.proofs.Common.{length-drop}
use Rattle.std.proofs.lemmas.List.{drop-replicate, take_min, drop_min, replicate-append-replicate, take-append-drop}
use Rattle.std.proofs.lemmas.List.{take_all, length-take, length-replicate, take_at, drop_at, drop_more, drop-drop}
use Rattle.hid_packet.specs.Message.{padded_packet, initialization_packet, continuation_packet, continuation_packets}
use Rattle.hid_packet.specs.Message.{message_packets}
use Rattle.hid_packet.specs.Message.{packets_left, CanCarry}
use Rattle.hid_packet.specs.declared.fragments.NextPacket.{NextPacket}
use Rattle.hid_packet.specs.declared.fragments.NextPacket.TheVariants.{Initialization, Continuation}
use Rattle.std.proofs.lemmas.Bool.Decides.{nat_tests}
use Rattle.std.proofs.lemmas.Nat.{div-mul-add}
use Rattle.std.proofs.Math.Nat.{pow-succ', mod-eq_of_lt, mul-add-div_right, mul-add-mod_self_right, mul_assoc}
use Rattle.std.proofs.Math.Nat.{one-le-pow}
use Rattle.std.specs.Int.{byte_at}
use Rattle.byteorder.specs.Endian.{big_bytes, big_number}
use Rattle.byteorder.specs.Numbers.{big_from-cons, big_from-lt, big_number-reads_back}
use Rattle.hid_packet.specs.Message.{AreBytes, IsPacket, ArePackets, PaddingIsZero}
use Rattle.std.proofs.lemmas.Bool.{cases_lt}
use Rattle.std.proofs.Math.ListN.{drop_of_length-le}
use Rattle.std.proofs.Math.Seq.{take-append_seam}
use Rattle.hid_packet.specs.Packet.{channel, is_initialization, command, message_length, initialization_data}
use Rattle.hid_packet.specs.Packet.{sequence, continuation_data}
use Rattle.hid_packet.specs.Message.{AreContinuations, IsLeast, joined_data, Carries, CarriesMessage}

-- ---- how a packet is filled, and how the packets of a message follow one another

-- bytes in front of what is left of 64 zeros
pub filled : (bytes : List ℕ) (n : ℕ) → length bytes ≡ n → bytes ++ drop n (replicate 64 0) ≡ padded_packet bytes
unfolding padded_packet
filled bytes n e = rw (drop-replicate {X = ℕ}, e) refl

-- one continuation packet more
pub one_continuation : (most cid number : ℕ) (bytes : List ℕ) → 0 < most → 0 < length bytes
    → continuation_packets most cid number bytes
    ≡ continuation_packet cid number (take 59 bytes) ∷ continuation_packets (most - 1) cid (number + 1) (drop 59 bytes)
unfolding continuation_packets
one_continuation zero cid number bytes some left = absurd (omega arith)
one_continuation (suc most) cid number [] some left = absurd (omega arith)
one_continuation (suc most) cid number (b ∷ bytes) some left = search (rules, arith)

pub no_continuation : (most cid number : ℕ) (bytes : List ℕ) → length bytes ≡ 0 →
    continuation_packets most cid number bytes ≡ []
unfolding continuation_packets
no_continuation x0 cid number bytes none = search (rules, arith)

-- What is left of a message after its initialization packet.
pub first_taken : (cid cmd n : ℕ) (due : NextPacket) (rest front back packet : List ℕ) (now : List (List ℕ))
    → packets_left cid due rest ≡ now → due ≡ Initialization cmd → n ≡ min 57 (length rest) → front ≡ take n rest →
    back ≡ drop n rest
    → packet ≡ initialization_packet cid cmd (length rest) front → now ≡ packet ∷ continuation_packets 128 cid 0 back
unfolding message_packets
first_taken cid cmd n due rest front back packet now left is least f b p = grind (arith, drop_min, take_min)

-- What is left of a message after a continuation packet.
pub next_taken : (cid number n : ℕ) (due : NextPacket) (rest front back packet : List ℕ) (now : List (List ℕ))
    → packets_left cid due rest ≡ now → due ≡ Continuation number → CanCarry due rest → 0 < length rest
    → n ≡ min 59 (length rest) → front ≡ take n rest → back ≡ drop n rest
    → packet ≡ continuation_packet cid number front → now ≡ packet
    ∷ continuation_packets (128 - (number + 1)) cid (number + 1) back
next_taken cid number n due rest front back packet now left is fits some least f b p =
    grind (arith, drop_min, one_continuation, take_min)

-- Nothing is left where no byte is.
pub none_taken : (cid number : ℕ) (due : NextPacket) (rest : List ℕ) (now : List (List ℕ))
    → packets_left cid due rest ≡ now → due ≡ Continuation number → length rest ≡ 0 → now ≡ []
none_taken cid number due rest now left is none = search (rules, arith, no_continuation)

-- ---- numbers and the bytes that spell them, highest first

byte_at_is : (k x : ℕ) → byte_at k x ≡ x / 256 ^ k % 256
byte_at_is x0 x = grind (arith, nat_tests)

some_power : (n : ℕ) → 0 < 256 ^ n
some_power n = let h = one-le-pow n 256 (omega arith) in omega arith

-- what stands above a number's lowest n bytes doesn't change them
low_bytes : (n above low : ℕ) → big_bytes n (above * 256 ^ n + low) ≡ big_bytes n low
low_bytes zero above low = refl
low_bytes (suc n) above low = grind (arith, byte_at_is, mul-add-div_right, mul-add-mod_self_right, mul_assoc, pow-succ', some_power, low_bytes n (above * 256) low)

byte_below : (xs : List ℕ) → AreBytes xs → (k : ℕ) → get_or xs k 0 < 256
byte_below [] all k = omega arith
byte_below (x ∷ xs) all zero = all.0
byte_below (x ∷ xs) all (suc k) = byte_below xs all.1 k

-- The bytes of the number that n bytes spell are these bytes.
pub bytes_of_number : (n : ℕ) (xs : List ℕ) → n ≤ length xs → AreBytes xs → big_bytes n (big_number n xs) ≡ take n xs
bytes_of_number zero xs h all = refl
bytes_of_number (suc n) [] h all = absurd (omega arith)
bytes_of_number (suc n) (x ∷ xs) h all =
    let rest = big_number n xs in
    let below : rest < 256 ^ n = big_from-lt 0 n xs (byte_below xs all.1) in
    let moved : big_number (suc n) (x ∷ xs) ≡ x * 256 ^ n + rest = ap (λ r. x * 256 ^ n + r) (big_from-cons 0 n x xs) in
    let top : byte_at n (x * 256 ^ n + rest) ≡ x =
    byte_at_is n (x * 256 ^ n + rest) ∙ ap (λ q. q % 256) (div-mul-add x (256 ^ n) rest below) ∙ mod-eq_of_lt all.0 in
    ap (λ number. big_bytes (suc n) number) moved
    ∙ ap₂ ◌∷◌ top (low_bytes n x rest ∙ bytes_of_number n xs (omega arith) all.1)

-- Bytes joined, and parts of bytes, are bytes.
pub bytes-append : (xs ys : List ℕ) → AreBytes xs → AreBytes ys → AreBytes (xs ++ ys)
bytes-append [] ys a b = b
bytes-append (x ∷ xs) ys a b = (a.0, bytes-append xs ys a.1 b)

pub bytes-take : (n : ℕ) (xs : List ℕ) → AreBytes xs → AreBytes (take n xs)
bytes-take zero xs a = tt
bytes-take (suc n) [] a = tt
bytes-take (suc n) (x ∷ xs) a = (a.0, bytes-take n xs a.1)

pub bytes-drop : (n : ℕ) (xs : List ℕ) → AreBytes xs → AreBytes (drop n xs)
bytes-drop zero xs a = a
bytes-drop (suc n) [] a = tt
bytes-drop (suc n) (x ∷ xs) a = bytes-drop n xs a.1

pub bytes-zeros : (n : ℕ) → AreBytes (replicate n 0)
bytes-zeros zero = tt
bytes-zeros (suc n) = (omega arith, bytes-zeros n)

pub bytes-big_bytes : (n x : ℕ) → AreBytes (big_bytes n x)
bytes-big_bytes zero x = tt
bytes-big_bytes (suc n) x = grind (arith, nat_tests, bytes-big_bytes n x)

-- ---- the written packets carry their message

-- data bytes and the zeros after them fill a packet
all_data : (k : ℕ) (part : List ℕ) → length part ≤ k → take k (part ++ replicate (k - length part) 0) ≡ part
    ++ replicate (k - length part) 0
all_data k part short = grind (arith, length-append, length-replicate, take_all)

-- The fields of the packets that are written.
module _ (cid cmd len : ℕ) (part : List ℕ) where
  channel-initialization : cid < 2 ^ 32 → channel (initialization_packet cid cmd len part) ≡ cid
  unfolding channel initialization_packet padded_packet
  channel-initialization fits =
      let zeros = replicate (64 - length (big_bytes 4 cid ++ (cmd + 128) ∷ [] ++ big_bytes 2 len ++ part)) 0 in
      big_number-reads_back 4 cid ((cmd + 128) ∷ [] ++ big_bytes 2 len ++ part ++ zeros) fits

  is_initialization-initialization : is_initialization (initialization_packet cid cmd len part) ≡ true
  unfolding is_initialization initialization_packet padded_packet
  is_initialization-initialization = above (cmd + 128) (omega arith)
    where
      above : (n : ℕ) → 128 ≤ n → nat_le 128 n ≡ true
      above n h = grind (arith, nat_tests)

  command-initialization : command (initialization_packet cid cmd len part) ≡ cmd
  unfolding command initialization_packet padded_packet
  command-initialization = less cmd
    where
      less : (n : ℕ) → n + 128 - 128 ≡ n
      less n = omega arith

  message_length-initialization : len < 2 ^ 16 → message_length (initialization_packet cid cmd len part) ≡ len
  unfolding message_length initialization_packet padded_packet
  message_length-initialization fits =
      let zeros = replicate (64 - length (big_bytes 4 cid ++ (cmd + 128) ∷ [] ++ big_bytes 2 len ++ part)) 0 in
      big_number-reads_back 2 len (part ++ zeros) fits

  data-initialization : length part ≤ 57 → initialization_data (initialization_packet cid cmd len part) ≡ part
      ++ replicate (57 - length part) 0
  unfolding initialization_data initialization_packet padded_packet
  data-initialization short =
      let rest : 64 - length (big_bytes 4 cid ++ (cmd + 128) ∷ [] ++ big_bytes 2 len ++ part) ≡ 57 - length part =
      omega arith in
      ap (λ k. take 57 (part ++ replicate k 0)) rest ∙ all_data 57 part short

module _ (cid number : ℕ) (part : List ℕ) where
  channel-continuation : cid < 2 ^ 32 → channel (continuation_packet cid number part) ≡ cid
  unfolding channel continuation_packet padded_packet
  channel-continuation fits =
      big_number-reads_back 4 cid (number ∷ part ++ replicate (64 - length (big_bytes 4 cid ++ number ∷ [] ++ part)) 0)
      fits

  is_initialization-continuation : number < 128 → is_initialization (continuation_packet cid number part) ≡ false
  unfolding is_initialization continuation_packet padded_packet
  is_initialization-continuation h = below number h
    where
      below : (n : ℕ) → n < 128 → nat_le 128 n ≡ false
      below n h = grind (arith, nat_tests)

  sequence-continuation : sequence (continuation_packet cid number part) ≡ number
  unfolding sequence continuation_packet padded_packet
  sequence-continuation = refl

  data-continuation : length part ≤ 59 → continuation_data (continuation_packet cid number part) ≡ part
      ++ replicate (59 - length part) 0
  unfolding continuation_data continuation_packet padded_packet
  data-continuation short =
      let rest : 64 - length (big_bytes 4 cid ++ number ∷ [] ++ part) ≡ 59 - length part = omega arith in
      ap (λ k. take 59 (part ++ replicate k 0)) rest ∙ all_data 59 part short

-- Where the first k bytes fill up with zeros and the others do, all of the bytes do.
pub fill_up : (k n : ℕ) (bytes : List ℕ)
    → (take k bytes ++ replicate (k - length (take k bytes)) 0) ++ (drop k bytes ++ replicate n 0) ≡ bytes
    ++ replicate (k - length (take k bytes) + n) 0
fill_up k n bytes = elim (cases_lt (length bytes) k) [
  | inl few ↦
      let all : take k bytes ≡ bytes = take_all k bytes (omega arith) in
      let none : drop k bytes ≡ [] = drop_of_length-le bytes (omega arith) in
      rw (all, none, append_assoc, replicate-append-replicate) refl
  | inr many ↦
      let full : k - length (take k bytes) ≡ 0 = omega (arith, length-take k bytes) in
      rw (full, append-nil, ← append_assoc, take-append-drop, zero-add) refl
]

-- The data of continuation packets are the bytes, and zeros after them.
data_continuations : (most cid number : ℕ) (bytes : List ℕ) → length bytes ≤ 59 * most
    → (further : ℕ) × (flat_map continuation_data (continuation_packets most cid number bytes) ≡ bytes
    ++ replicate further 0)
unfolding continuation_packets
data_continuations zero cid number [] fits = (0, refl)
data_continuations zero cid number (b ∷ bytes) fits = absurd (omega arith)
data_continuations (suc most) cid number [] fits = (0, refl)
data_continuations (suc most) cid number (b ∷ bytes) fits =
    let all = b ∷ bytes in
    let part = data-continuation cid number (take 59 all) (omega (arith, length-take 59 all)) in
    let rest = data_continuations most cid (number + 1) (drop 59 all) (omega (arith, length-drop 59 all)) in
    (_, ap₂ ◌++◌ part rest.1 ∙ fill_up 59 rest.0 all)

continues_all : (most cid number : ℕ) (bytes : List ℕ) → cid < 2 ^ 32 → number + most ≤ 128
    → AreContinuations cid number (continuation_packets most cid number bytes)
unfolding continuation_packets
continues_all zero cid number bytes fits below = tt
continues_all (suc most) cid number [] fits below = tt
continues_all (suc most) cid number (b ∷ bytes) fits below =
    let part = take 59 (b ∷ bytes) in (
      is_initialization-continuation cid number part (omega arith),
      channel-continuation cid number part fits,
      sequence-continuation cid number part,
      continues_all most cid (number + 1) (drop 59 (b ∷ bytes)) fits (omega arith),
    )

-- how many continuation packets there are
length-continuation_packets : (most cid number : ℕ) (bytes : List ℕ) → length bytes ≤ 59 * most
    → (length bytes ≤ 59 * length (continuation_packets most cid number bytes))
    × (59 * length (continuation_packets most cid number bytes) < length bytes + 59)
unfolding continuation_packets
length-continuation_packets zero cid number bytes fits = (omega arith, omega arith)
length-continuation_packets (suc most) cid number [] fits = (omega arith, omega arith)
length-continuation_packets (suc most) cid number (b ∷ bytes) fits =
    let all = b ∷ bytes in
    let dropped = length-drop 59 all in
    let rest = length-continuation_packets most cid (number + 1) (drop 59 all) (omega (arith, dropped)) in
    (omega (arith, dropped, rest.0), omega (arith, dropped, rest.1))

-- The data of the written packets, joined, are the message, and zeros after it.
pub data_written : (cid cmd : ℕ) (bytes : List ℕ) → length bytes ≤ 7609
    → (further : ℕ) × (joined_data (initialization_packet cid cmd (length bytes) (take 57 bytes))
    (continuation_packets 128 cid 0 (drop 57 bytes)) ≡ bytes ++ replicate further 0)
data_written cid cmd bytes short =
    let part = data-initialization cid cmd (length bytes) (take 57 bytes) (omega (arith, length-take 57 bytes)) in
    let rest = data_continuations 128 cid 0 (drop 57 bytes) (omega (arith, length-drop 57 bytes)) in
    (_, ap₂ ◌++◌ part rest.1 ∙ fill_up 57 rest.0 bytes)

least_of : (len count : ℕ) → (len - 57 ≤ 59 * count) → (59 * count < (len - 57) + 59) → IsLeast count len
least_of len count enough few = grind (arith, nat_tests)

-- as many continuation packets as are needed
pub least_continuations : (cid : ℕ) (bytes : List ℕ) → length bytes ≤ 7609
    → IsLeast (length (continuation_packets 128 cid 0 (drop 57 bytes))) (length bytes)
least_continuations cid bytes short =
    let dropped = length-drop 57 bytes in
    let count = length-continuation_packets 128 cid 0 (drop 57 bytes) (omega (arith, dropped)) in
    least_of _ _ (omega (arith, dropped, count.0)) (omega (arith, dropped, count.1))

pub written_carries : (cid cmd : ℕ) (bytes : List ℕ) → cid < 2 ^ 32 → length bytes ≤ 7609
    → Carries (initialization_packet cid cmd (length bytes) (take 57 bytes))
    (continuation_packets 128 cid 0 (drop 57 bytes)) cid cmd bytes
written_carries cid cmd bytes fits short =
    let part = take 57 bytes in
    record {
      short = short;
      begins = is_initialization-initialization cid cmd (length bytes) part;
      on = channel-initialization cid cmd (length bytes) part fits;
      asks = command-initialization cid cmd (length bytes) part;
      counts = message_length-initialization cid cmd (length bytes) part (omega arith);
      continues = continues_all 128 cid 0 (drop 57 bytes) fits (omega arith);
      least = least_continuations cid bytes short;
      joins = sym (rw (data_written cid cmd bytes short).1 (take-append_seam bytes _));
    }

-- There is one least number.
pub one_least : (a b len : ℕ) → IsLeast a len → IsLeast b len → a ≡ b
one_least a b len x3 x4 = search (rules, arith)

-- Packets carry at most one message.
pub one_message : (packets : List (List ℕ)) (c d k l : ℕ) (a b : List ℕ) → CarriesMessage packets c k a →
    CarriesMessage packets d l b
    → (c ≡ d) × (k ≡ l) × (a ≡ b)
one_message x0 c d k l a b x y = search (rules, arith)

pub fewest_written : (cid cmd : ℕ) (bytes : List ℕ) → length bytes ≤ 7609 →
    IsLeast (length (message_packets cid cmd bytes) - 1) (length bytes)
unfolding message_packets
fewest_written cid cmd bytes short =
    subst (λ n. IsLeast n (length bytes)) (omega arith) (least_continuations cid bytes short)

-- as many as `packets_for` counts
pub length-written : (cid cmd count : ℕ) (bytes : List ℕ) → length bytes ≤ 7609 → 1 ≤ count →
    IsLeast (count - 1) (length bytes) → length (message_packets cid cmd bytes) ≡ count
unfolding message_packets
length-written cid cmd count bytes short some least = grind (arith, least_continuations, one_least)

-- one continuation packet for each 59 bytes after the first 57, rounded up
pub least-rounded_up : (len : ℕ) → IsLeast (1 + (len + 1) / 59 - 1) len
least-rounded_up len = grind (arith, nat_tests)

-- A message has at most 129 packets.
few_continuations : (most cid number : ℕ) (bytes : List ℕ) → length (continuation_packets most cid number bytes) ≤ most
unfolding continuation_packets
few_continuations zero cid number bytes = omega arith
few_continuations (suc most) cid number [] = omega arith
few_continuations (suc most) cid number (b ∷ bytes) =
    let rest = few_continuations most cid (number + 1) (drop 59 (b ∷ bytes)) in omega arith

pub few_written : (cid cmd : ℕ) (bytes : List ℕ) → length (message_packets cid cmd bytes) ≤ 129
unfolding message_packets
few_written cid cmd bytes = let rest = few_continuations 128 cid 0 (drop 57 bytes) in omega arith

-- ---- the written packets have 64 bytes

whole_padded : (bytes : List ℕ) → length bytes ≤ 64 → AreBytes bytes → IsPacket (padded_packet bytes)
unfolding padded_packet
whole_padded bytes fits all = grind (arith, bytes-append, bytes-zeros, length-append, length-replicate)

whole_initialization : (cid cmd len : ℕ) (part : List ℕ) → cmd < 128 → length part ≤ 57 → AreBytes part →
    IsPacket (initialization_packet cid cmd len part)
unfolding initialization_packet
whole_initialization cid cmd len part low fits all =
    let beyond : AreBytes ((cmd + 128) ∷ (big_bytes 2 len ++ part)) =
    (omega arith, bytes-append (big_bytes 2 len) part (bytes-big_bytes 2 len) all) in
    whole_padded _ (omega arith) (bytes-append (big_bytes 4 cid) ((cmd + 128) ∷ (big_bytes 2 len ++ part))
    (bytes-big_bytes 4 cid) beyond)

whole_continuation : (cid number : ℕ) (part : List ℕ) → number < 128 → length part ≤ 59 → AreBytes part →
    IsPacket (continuation_packet cid number part)
unfolding continuation_packet
whole_continuation cid number part low fits all =
    whole_padded _ (omega arith) (bytes-append (big_bytes 4 cid) (number ∷ part) (bytes-big_bytes 4 cid)
    (omega arith, all))

whole_continuations : (most cid number : ℕ) (bytes : List ℕ) → number + most ≤ 128 → AreBytes bytes →
    ArePackets (continuation_packets most cid number bytes)
unfolding continuation_packets
whole_continuations zero cid number bytes below all = tt
whole_continuations (suc most) cid number [] below all = tt
whole_continuations (suc most) cid number (b ∷ bytes) below all =
    let part = take 59 (b ∷ bytes) in (
      whole_continuation cid number part (omega arith) (omega (arith, length-take 59 (b ∷ bytes)))
          (bytes-take 59 (b ∷ bytes) all),
      whole_continuations most cid (number + 1) (drop 59 (b ∷ bytes)) (omega arith) (bytes-drop 59 (b ∷ bytes) all),
    )

pub whole_written : (cid cmd : ℕ) (bytes : List ℕ) → cmd < 128 → AreBytes bytes → ArePackets (message_packets cid cmd bytes)
unfolding message_packets
whole_written cid cmd bytes low all = (
  whole_initialization cid cmd (length bytes) (take 57 bytes) low (omega (arith, length-take 57 bytes))
      (bytes-take 57 bytes all),
  whole_continuations 128 cid 0 (drop 57 bytes) (omega arith) (bytes-drop 57 bytes all),
)

pub zeros_written : (cid cmd : ℕ) (bytes : List ℕ) → length bytes ≤ 7609 →
    PaddingIsZero bytes (message_packets cid cmd bytes)
unfolding message_packets
zeros_written = data_written

-- ---- no packets but the written ones carry their message with zeros after it

-- A packet is its fields, one after the other.
module _ (packet : List ℕ) (whole : IsPacket packet) where
  split_header : packet ≡ big_bytes 4 (channel packet) ++ get_or packet 4 0 ∷ drop 5 packet
  unfolding channel
  split_header =
      sym (take-append-drop 4 packet)
      ∙ ap₂ ◌++◌ (sym (bytes_of_number 4 packet (omega arith) whole.1)) (drop_more packet 4 0 (omega arith))

  split_initialization : is_initialization packet ≡ true
      → packet ≡ big_bytes 4 (channel packet) ++ (command packet + 128)
      ∷ (big_bytes 2 (message_length packet) ++ initialization_data packet)
  unfolding is_initialization command message_length initialization_data
  split_initialization begins =
      let kind : get_or packet 4 0 ≡ get_or packet 4 0 - 128 + 128 = grind (arith, nat_tests) in
      let beyond : drop 2 (drop 5 packet) ≡ take 57 (drop 7 packet) =
      drop-drop 2 5 packet ∙ sym (take_all 57 (drop 7 packet) (omega (arith, length-drop 7 packet))) in
      let rest : drop 5 packet ≡ big_bytes 2 (big_number 2 (drop 5 packet)) ++ take 57 (drop 7 packet) =
      sym (take-append-drop 2 (drop 5 packet))
      ∙ ap₂ ◌++◌ (sym (bytes_of_number 2 (drop 5 packet) (omega (arith, length-drop 5 packet))
      (bytes-drop 5 packet whole.1))) beyond in
      split_header ∙ ap₂ (λ n (r : List ℕ). big_bytes 4 (channel packet) ++ n ∷ r) kind rest

  split_continuation : packet ≡ big_bytes 4 (channel packet) ++ sequence packet ∷ continuation_data packet
  unfolding sequence continuation_data
  split_continuation =
      split_header
      ∙ ap (λ (r : List ℕ). big_bytes 4 (channel packet) ++ get_or packet 4 0 ∷ r)
      (sym (take_all 59 (drop 5 packet) (omega (arith, length-drop 5 packet))))

  length-initialization_data : length (initialization_data packet) ≡ 57
  unfolding initialization_data
  length-initialization_data = omega (arith, length-take 57 (drop 7 packet), length-drop 7 packet)

  length-continuation_data : length (continuation_data packet) ≡ 59
  unfolding continuation_data
  length-continuation_data = omega (arith, length-take 59 (drop 5 packet), length-drop 5 packet)

  -- With zeros after its part of a message, it is the packet that is written for the part.
  only_initialization : (part : List ℕ) → is_initialization packet ≡ true →
      initialization_data packet ≡ part ++ replicate (57 - length part) 0
      → packet ≡ initialization_packet (channel packet) (command packet) (message_length packet) part
  unfolding initialization_packet padded_packet
  only_initialization part begins is =
      let front = big_bytes 4 (channel packet) ++ (command packet + 128) ∷ [] ++ big_bytes 2 (message_length packet) in
      let zeros : 57 - length part ≡ 64 - length (front ++ part) = omega arith in
      split_initialization begins ∙ ap (λ d. front ++ d) (is ∙ ap (λ k. part ++ replicate k 0) zeros)

  only_continuation : (part : List ℕ) → continuation_data packet ≡ part ++ replicate (59 - length part) 0
      → packet ≡ continuation_packet (channel packet) (sequence packet) part
  unfolding continuation_packet padded_packet
  only_continuation part is =
      let front = big_bytes 4 (channel packet) ++ sequence packet ∷ [] in
      let zeros : 59 - length part ≡ 64 - length (front ++ part) = omega arith in
      split_continuation ∙ ap (λ d. front ++ d) (is ∙ ap (λ k. part ++ replicate k 0) zeros)

-- The data of one packet, in front of other data: together they are bytes, and zeros after them.
module _ (k n : ℕ) (front back bytes : List ℕ) (full : length front ≡ k) (e : front ++ back ≡ bytes ++ replicate n 0)
  where
    zeros_left : ℕ
    zeros_left = n - (k - length (take k bytes))

    cut : front ++ back ≡ (take k bytes ++ replicate (k - length (take k bytes)) 0)
        ++ (drop k bytes ++ replicate zeros_left 0)
    unfolding zeros_left
    cut =
        let count = ap length e in
        let split : n ≡ k - length (take k bytes) + (n - (k - length (take k bytes))) =
        omega (arith, length-take k bytes, length-append front back, length-append bytes (replicate n 0), length-replicate {A = ℕ} n 0) in
        e ∙ ap (λ m. bytes ++ replicate m 0) split ∙ sym (fill_up k _ bytes)

    filled_length : length (take k bytes ++ replicate (k - length (take k bytes)) 0) ≡ k
    filled_length = omega (arith, length-take k bytes, length-append (take k bytes) (replicate (k - length (take k bytes)) 0), length-replicate {A = ℕ} (k - length (take k bytes)) 0)

    front_is : front ≡ take k bytes ++ replicate (k - length (take k bytes)) 0
    front_is = sym (take_at front back k full) ∙ ap (take k) cut ∙ take_at _ _ k filled_length

    back_is : back ≡ drop k bytes ++ replicate zeros_left 0
    back_is = sym (drop_at front back k full) ∙ ap (drop k) cut ∙ drop_at _ _ k filled_length

-- the continuation packets
only_continuations : (most cid number n : ℕ) (bytes : List ℕ) (others : List (List ℕ)) → ArePackets others →
    AreContinuations cid number others
    → length others ≤ most → 59 * length others < length bytes + 59 →
    flat_map continuation_data others ≡ bytes ++ replicate n 0
    → others ≡ continuation_packets most cid number bytes
only_continuations most cid number n bytes [] whole continues few least e =
    sym (no_continuation most cid number bytes (omega (arith, ap length e, length-append bytes (replicate n 0))))
only_continuations most cid number n bytes (packet ∷ others) whole continues few least e =
    let full = length-continuation_data packet whole.0 in
    let front = front_is 59 n (continuation_data packet) (flat_map continuation_data others) bytes full e in
    let back = back_is 59 n (continuation_data packet) (flat_map continuation_data others) bytes full e in
    let one : packet ≡ continuation_packet cid number (take 59 bytes) =
    only_continuation packet whole.0 (take 59 bytes) front
    ∙ ap₂ (λ c s. continuation_packet c s (take 59 bytes)) continues.1 continues.2 in
    let more = only_continuations (most - 1) cid (number + 1) _ (drop 59 bytes) others whole.1 continues.3 (omega arith)
    (omega (arith, length-drop 59 bytes)) back in
    ap₂ ◌∷◌ one more ∙ sym (one_continuation most cid number bytes (omega arith) (omega arith))

pub only_written : (packets : List (List ℕ)) (cid cmd : ℕ) (bytes : List ℕ) → CarriesMessage packets cid cmd bytes
    → ArePackets packets → PaddingIsZero bytes packets → packets ≡ message_packets cid cmd bytes
unfolding message_packets
only_written [] cid cmd bytes carried whole zeros = absurd carried
only_written (first ∷ others) cid cmd bytes carried whole zeros =
    let full = length-initialization_data first whole.0 in
    let front = front_is 57 zeros.0 (initialization_data first) (flat_map continuation_data others) bytes full zeros.1
    in
    let back = back_is 57 zeros.0 (initialization_data first) (flat_map continuation_data others) bytes full zeros.1 in
    let one : first ≡ initialization_packet cid cmd (length bytes) (take 57 bytes) =
    only_initialization first whole.0 (take 57 bytes) carried.begins front
    ∙ ap₂ (λ c k. initialization_packet c k (message_length first) (take 57 bytes)) carried.on carried.asks
    ∙ ap (λ n. initialization_packet cid cmd n (take 57 bytes)) carried.counts in
    let short = carried.short in
    let dropped = length-drop 57 bytes in
    let few = few_others (length others) (length bytes) carried.least in
    ap₂ ◌∷◌ one (only_continuations 128 cid 0 _ (drop 57 bytes) others whole.1 carried.continues (omega arith)
    (omega arith) back)
  where
    few_others : (count len : ℕ) → IsLeast count len → 59 * count < len - 57 + 59
    few_others count len x2 = search (rules, arith)
