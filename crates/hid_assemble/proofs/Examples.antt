-- The reply table at worked packets: each row, and which of two rows that apply comes first.
use Rattle.std.proofs.Common.{◌≡◌, ℕ, Bool, true, false, [], Option, Some, None, refl}
use Rattle.hid_packet.specs.Packet.{PING, INIT, CBOR, CANCEL, BROADCAST}
use Rattle.hid_packet.specs.Packet.{Fields, initialization, continuation}
use Rattle.hid_assemble.specs.Table.{Open, PacketClass, Begins, Continues, MAX_CHANNEL, init_packet_row, is_noise}
use Rattle.hid_assemble.specs.Table.{cont_packet_row, packet_class}
use Rattle.hid_assemble.specs.declared.table.ReplyRow.TheVariants.{CancelsWork, CancelsNothing, NoSuchChannel}
use Rattle.hid_assemble.specs.declared.table.ReplyRow.TheVariants.{InitLength, InitFull, InitNew, InitAgain}
use Rattle.hid_assemble.specs.declared.table.ReplyRow.TheVariants.{BusyElsewhere, BusyHere, BrokenOff, NoSuchCommand}
use Rattle.hid_assemble.specs.declared.table.ReplyRow.TheVariants.{BadLength, Short, Long}
use Rattle.hid_assemble.specs.Table.{Stray, WrongNumber, Whole}

row : ℕ → Option Open → Option ℕ → Fields → PacketClass
unfolding packet_class init_packet_row cont_packet_row
row given current work f = packet_class given current work f

abbrev open_1 : Open
open_1 = record { cid = 1; cmd = PING; len = 100; bytes = []; kept = 0; last = 0 }

-- CANCEL looks at no channel: on one that wasn't given out, on the broadcast channel, and while another channel works
cancel_not_given : row 2 None None (initialization 9 CANCEL 0 []) ≡ Begins CancelsNothing
unfolding row
cancel_not_given = refl

cancel_broadcast : row 2 None None (initialization BROADCAST CANCEL 0 []) ≡ Begins CancelsNothing
unfolding row
cancel_broadcast = refl

cancel_elsewhere : row 2 None (Some 1) (initialization 2 CANCEL 0 []) ≡ Begins CancelsNothing
unfolding row
cancel_elsewhere = refl

cancel_here : row 2 None (Some 1) (initialization 1 CANCEL 300 []) ≡ Begins CancelsWork
unfolding row
cancel_here = refl

-- a channel that wasn't given out, before all else
zero : row 2 None None (initialization 0 PING 0 []) ≡ Begins NoSuchChannel
unfolding row
zero = refl

broadcast_ping : row 2 None None (initialization BROADCAST PING 0 []) ≡ Begins NoSuchChannel
unfolding row
broadcast_ping = refl

init_of_7_not_given : row 2 None None (initialization 9 INIT 7 []) ≡ Begins NoSuchChannel
unfolding row
init_of_7_not_given = refl

unknown_not_given : row 2 None None (initialization 9 3 0 []) ≡ Begins NoSuchChannel
unfolding row
unknown_not_given = refl

not_given_while_busy : row 2 (Some open_1) None (initialization 9 PING 0 []) ≡ Begins NoSuchChannel
unfolding row
not_given_while_busy = refl

-- INIT, whatever is open or waits
init_of_7_broadcast_full : row MAX_CHANNEL None None (initialization BROADCAST INIT 7 []) ≡ Begins InitLength
unfolding row
init_of_7_broadcast_full = refl

init_full : row MAX_CHANNEL None None (initialization BROADCAST INIT 8 []) ≡ Begins InitFull
unfolding row
init_full = refl

init_new_while_busy : row 2 (Some open_1) None (initialization BROADCAST INIT 8 []) ≡ Begins InitNew
unfolding row
init_new_while_busy = refl

init_again_elsewhere : row 2 (Some open_1) None (initialization 2 INIT 8 []) ≡ Begins InitAgain
unfolding row
init_again_elsewhere = refl

init_of_9_with_work : row 2 None (Some 1) (initialization 1 INIT 9 []) ≡ Begins InitLength
unfolding row
init_of_9_with_work = refl

-- busy before the command and the length
unknown_while_busy : row 2 (Some open_1) None (initialization 2 3 0 []) ≡ Begins BusyElsewhere
unfolding row
unknown_while_busy = refl

too_long_while_busy : row 2 (Some open_1) None (initialization 2 PING 7610 []) ≡ Begins BusyElsewhere
unfolding row
too_long_while_busy = refl

unknown_with_work : row 2 None (Some 1) (initialization 1 3 0 []) ≡ Begins BusyHere
unfolding row
unknown_with_work = refl

empty_cbor_with_work : row 2 None (Some 1) (initialization 1 CBOR 0 []) ≡ Begins BusyHere
unfolding row
empty_cbor_with_work = refl

unknown_on_open : row 2 (Some open_1) None (initialization 1 3 0 []) ≡ Begins BrokenOff
unfolding row
unknown_on_open = refl

-- the command before the length
unknown_too_long : row 2 None None (initialization 1 3 7610 []) ≡ Begins NoSuchCommand
unfolding row
unknown_too_long = refl

empty_cbor : row 2 None None (initialization 1 CBOR 0 []) ≡ Begins BadLength
unfolding row
empty_cbor = refl

too_long : row 2 None None (initialization 1 PING 7610 []) ≡ Begins BadLength
unfolding row
too_long = refl

empty_ping : row 2 None None (initialization 1 PING 0 []) ≡ Begins Short
unfolding row
empty_ping = refl

of_57 : row 2 None None (initialization 1 CBOR 57 []) ≡ Begins Short
unfolding row
of_57 = refl

of_58 : row 2 None None (initialization 1 CBOR 58 []) ≡ Begins Long
unfolding row
of_58 = refl

of_7609 : row 2 None None (initialization 1 PING 7609 []) ≡ Begins Long
unfolding row
of_7609 = refl

-- continuation packets, of 100 bytes on channel 1 with none kept
other_channel : row 2 (Some open_1) None (continuation 2 0 []) ≡ Continues Stray
unfolding row
other_channel = refl

wrong_number : row 2 (Some open_1) None (continuation 1 1 []) ≡ Continues WrongNumber
unfolding row
wrong_number = refl

last_one : row 2 (Some open_1) None (continuation 1 0 []) ≡ Continues Whole
unfolding row
last_one = refl

nothing_open : row 2 None (Some 1) (continuation 1 0 []) ≡ Continues Stray
unfolding row
nothing_open = refl

-- ---- noise

noise : ℕ → Option Open → Option ℕ → Fields → Bool
unfolding row
noise given current work f = is_noise (row given current work f)

-- each row of noise, and beside it the packet or the state that makes it count
cancel_for_nothing : noise 2 None None (initialization 1 CANCEL 0 []) ≡ true
unfolding noise row
cancel_for_nothing = refl

cancel_for_work : noise 2 None (Some 1) (initialization 1 CANCEL 0 []) ≡ false
unfolding noise row
cancel_for_work = refl

on_no_channel : noise 2 None None (initialization 3 PING 0 []) ≡ true
unfolding noise row
on_no_channel = refl

on_the_last_channel : noise 2 None None (initialization 2 PING 0 []) ≡ false
unfolding noise row
on_the_last_channel = refl

init_on_no_channel : noise 2 None None (initialization 3 INIT 8 []) ≡ true
unfolding noise row
init_on_no_channel = refl

init_on_broadcast : noise 2 None None (initialization BROADCAST INIT 8 []) ≡ false
unfolding noise row
init_on_broadcast = refl

while_another_is_open : noise 2 (Some open_1) None (initialization 2 PING 0 []) ≡ true
unfolding noise row
while_another_is_open = refl

while_its_own_is_open : noise 2 (Some open_1) None (initialization 1 PING 0 []) ≡ false
unfolding noise row
while_its_own_is_open = refl

init_while_another_is_open : noise 2 (Some open_1) None (initialization 2 INIT 8 []) ≡ false
unfolding noise row
init_while_another_is_open = refl

while_another_works : noise 2 None (Some 1) (initialization 2 PING 0 []) ≡ true
unfolding noise row
while_another_works = refl

while_it_works : noise 2 None (Some 1) (initialization 1 PING 0 []) ≡ true
unfolding noise row
while_it_works = refl

while_none_works : noise 2 None None (initialization 1 PING 0 []) ≡ false
unfolding noise row
while_none_works = refl

continues_another : noise 2 (Some open_1) None (continuation 2 0 []) ≡ true
unfolding noise row
continues_another = refl

continues_nothing : noise 2 None None (continuation 1 0 []) ≡ true
unfolding noise row
continues_nothing = refl

continues_it : noise 2 (Some open_1) None (continuation 1 0 []) ≡ false
unfolding noise row
continues_it = refl

breaks_it : noise 2 (Some open_1) None (continuation 1 1 []) ≡ false
unfolding noise row
breaks_it = refl

-- refused for what it asks, though nothing changes
refused_command : noise 2 None None (initialization 1 3 0 []) ≡ false
unfolding noise row
refused_command = refl

refused_length : noise 2 None None (initialization 1 PING 7610 []) ≡ false
unfolding noise row
refused_length = refl

refused_init : noise 2 None None (initialization 1 INIT 7 []) ≡ false
unfolding noise row
refused_init = refl
