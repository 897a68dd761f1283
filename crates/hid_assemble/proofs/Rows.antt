-- What the row of the reply table says of a packet, and which rows are noise.
use Rattle.std.proofs.Common.{◌≡◌, ℕ, ◌+◌, ◌*◌, ◌≤◌, ◌<◌, false, not, ◌&&◌, ◌||◌, ◌==◌, nat_le, nat_lt, ◌⊎◌, Option}
use Rattle.std.proofs.Common.{sym, subst, arith, length-take, rules, List, [], length, Some, refl, length-append}
use Rattle.std.proofs.Common.{true, ◌∙◌}
use Rattle.std.proofs.lemmas.Bool.Decides.{nat_tests}
use Rattle.hid_packet.specs.Packet.{PING, INIT, CBOR, CANCEL, BROADCAST}
use Rattle.hid_assemble.specs.declared.table.ReplyRow.{ReplyRow}
use Rattle.hid_assemble.specs.Assembly.{IsOpenMessage, Assembly, IsValidAssembly, OpenIsValid, drop_on, open_after}
use Rattle.hid_assemble.specs.Assembly.{message_after, assembly_after_class, accepted}
use Rattle.hid_assemble.specs.declared.table.ReplyRow.TheVariants.{InitNew, Short, Long}
use Rattle.hid_assemble.specs.Table.{Continuation, Kept, Whole, MAX_CHANNEL, is_allocated, is_busy_here}
use Rattle.hid_assemble.specs.Table.{init_packet_row, continuation_kind, Open, Begins, Continues, cont_packet_row}
use Rattle.hid_assemble.specs.Table.{packet_class, PacketClass, is_noise}
use Rattle.hid_assemble.proofs.Receiving.{cond_case, init_row, begin_row, by_command}
use Rattle.hid_packet.specs.Packet.{MAX_MESSAGE_LEN}
use Rattle.std.proofs.lemmas.Grind.{common_steps}
use Rattle.hid_packet.specs.Packet.{Fields, initialization, continuation, FillsPacket}
use Rattle.hid_assemble.specs.Verdicts.{is_noise_verdict, class_verdict, verdict}

-- ---- what the row of a packet says of it

-- what the row of an initialization packet says of it
abbrev pub RowSays : (given cid cmd len : ℕ) → ReplyRow → Type 0
RowSays given cid cmd len InitNew = given < MAX_CHANNEL
RowSays given cid cmd len Short = len ≤ 57
RowSays given cid cmd len Long = IsOpenMessage given cid cmd len 0
RowSays given cid cmd len _ = Unit {0}

-- and what a continuation packet says of the message that goes on
abbrev pub ContinuationSays : (len kept : ℕ) → Continuation → Type 0
ContinuationSays len kept Kept = 57 + 59 * (kept + 1) < len
ContinuationSays len kept Whole = len ≤ 57 + 59 * (kept + 1)
ContinuationSays len kept _ = Unit {0}

free : (given : ℕ) → given ≤ MAX_CHANNEL → (given == MAX_CHANNEL) ≡ false → given < MAX_CHANNEL
free given few h = grind (arith, nat_tests)

init_says : (given cid cmd len : ℕ) → given ≤ MAX_CHANNEL → RowSays given cid cmd len (init_row given cid len)
unfolding init_row
init_says given cid cmd len few = grind (arith, nat_tests)

served : (cmd : ℕ) → not ((cmd == PING) || (cmd == CBOR)) ≡ false → (cmd ≡ PING) ⊎ (cmd ≡ CBOR)
served cmd h = grind (arith, nat_tests)

within : (cmd len : ℕ) → (nat_lt MAX_MESSAGE_LEN len || ((cmd == CBOR) && (len == 0))) ≡ false → len ≤ MAX_MESSAGE_LEN
within cmd len h = grind (arith, nat_tests)

begin_says : (given : ℕ) (current work : Option ℕ) (cid cmd len : ℕ) → 1 ≤ cid → cid ≤ given →
    RowSays given cid cmd len (begin_row current work cid cmd len)
unfolding begin_row
begin_says given current work cid cmd len low high = grind (arith, nat_tests)

channel_given : (given cid cmd : ℕ) → not ((nat_le 1 cid && nat_le cid given) || ((cid == BROADCAST) && (cmd == INIT)))
    ≡ false
    → (cmd == INIT) ≡ false → (1 ≤ cid) × (cid ≤ given)
channel_given given cid cmd h other = grind (arith, nat_tests)

pub row_says : (given : ℕ) (current work : Option ℕ) (cid cmd len : ℕ) → given ≤ MAX_CHANNEL
    → RowSays given cid cmd len (init_packet_row given current work cid cmd len)
row_says given current work cid cmd len few =
    let P = RowSays given cid cmd len in
    subst P (sym (by_command given current work cid cmd len))
    (cond_case P (cmd == CANCEL) _ _
    (λ _. cond_case P (is_busy_here work cid) _ _ (λ _. tt) (λ _. tt))
    (λ _. cond_case P (not (is_allocated given cid || ((cid == BROADCAST) && (cmd == INIT)))) _ _ (λ _. tt)
    (λ known. cond_case P (cmd == INIT) _ _ (λ _. init_says given cid cmd len few)
    (λ other. let on = channel_given given cid cmd known other in
    begin_says given current work cid cmd len on.0 on.1))))

pub continuation_says : (on len kept cid number : ℕ) → ContinuationSays len kept (continuation_kind on len kept cid number)
continuation_says on len kept cid number = grind (arith, nat_tests)

-- ---- what is kept stays lawful, whatever the packet

more_channels : (given : ℕ) (current : Option Open) → OpenIsValid given current → OpenIsValid (given + 1) current
more_channels given x1 h = search (rules, arith)

dropped : (given cid : ℕ) (current : Option Open) → OpenIsValid given current →
    OpenIsValid given (drop_on current cid)
dropped given cid x2 h = search (rules, arith)

-- the same channels, and nothing finished
same : (given : ℕ) (current : Option Open) → given ≤ 4294967294 → OpenIsValid given current →
    IsValidAssembly (record { given = given; current = current; finished = [] })
same given current few h = record { channels = few; current = h; short = omega arith }

begins : (a : Assembly) (at cid cmd len : ℕ) (part : List ℕ) (row : ReplyRow) → length part ≡ 57 → IsValidAssembly a →
    RowSays a.given cid cmd len row
    → IsValidAssembly (assembly_after_class a at (initialization cid cmd len part) (Begins row))
unfolding open_after message_after
begins a at cid cmd len part x6 full h says = grind (arith, dropped, length-take, more_channels, same)

-- a continuation packet, by the open message
goes_on : (given at cid number : ℕ) (part finished : List ℕ) (m : Open) (c : Continuation) → length part ≡ 59 →
    given ≤ 4294967294 → OpenIsValid given (Some m)
    → ContinuationSays m.len m.kept c → IsValidAssembly (assembly_after_class (record
    { given = given; current = Some m; finished = finished }) at (continuation cid number part) (Continues c))
unfolding open_after message_after
goes_on given at cid number part finished m x7 full few h says = grind (arith, length-append, length-take, same)

continued : (a : Assembly) (o : Option Open) (at cid number : ℕ) (part : List ℕ) → a.current ≡ o → length part ≡ 59 →
    IsValidAssembly a
    → IsValidAssembly (assembly_after_class a at (continuation cid number part) (Continues (cont_packet_row a.current cid number)))
unfolding cont_packet_row open_after message_after
continued a x1 at cid number part e full h = grind (arith, common_steps, continuation_says, goes_on, same)

pub stays_lawful : (a : Assembly) (at : ℕ) (work : Option ℕ) (f : Fields) → FillsPacket f → IsValidAssembly a →
    IsValidAssembly (accepted a at work f)
unfolding accepted packet_class
stays_lawful a at work (initialization cid cmd len part) full h = search (rules, arith, begins, row_says)
stays_lawful a at work (continuation cid number part) full h = continued a a.current at cid number part refl full h

-- ---- noise is what is turned away, and nothing else is

-- a packet that begins something, under any row
begins_turned : (g : ℕ) (o : Option Open) (w : Option ℕ) (cid cmd len : ℕ) (part : List ℕ) (r : PacketClass)
    → packet_class g o w (initialization cid cmd len part) ≡ r
    → is_noise r ≡ is_noise_verdict (class_verdict g o w (initialization cid cmd len part)
    (message_after o (initialization cid cmd len part) r) r)
unfolding packet_class message_after class_verdict
begins_turned g o w cid cmd len part r e = grind (arith)

-- one that continues: the last of a message is only so where one is open
continues_turned : (g : ℕ) (o : Option Open) (w : Option ℕ) (cid number : ℕ) (part : List ℕ) (r : PacketClass)
    → packet_class g o w (continuation cid number part) ≡ r
    → is_noise r ≡ is_noise_verdict (class_verdict g o w (continuation cid number part)
    (message_after o (continuation cid number part) r) r)
unfolding packet_class cont_packet_row message_after class_verdict
continues_turned g o w cid number part r e = grind (arith)

pub noise_turned : (a : Assembly) (w : Option ℕ) (f : Fields)
    → is_noise (packet_class a.given a.current w f) ≡ is_noise_verdict (verdict a w f)
unfolding verdict
noise_turned a w (initialization cid cmd len part) = begins_turned a.given a.current w cid cmd len part _ refl
noise_turned a w (continuation cid number part) = continues_turned a.given a.current w cid number part _ refl

noise_kept : (a : Assembly) (at : ℕ) (f : Fields) (r : PacketClass) → is_noise r ≡ true
    → assembly_after_class a at f r ≡ record { given = a.given; current = a.current; finished = [] }
unfolding message_after open_after
noise_kept a at f r h = grind arith

pub turned_kept : (a : Assembly) (at : ℕ) (w : Option ℕ) (f : Fields) → is_noise_verdict (verdict a w f) ≡ true
    → accepted a at w f ≡ record { given = a.given; current = a.current; finished = [] }
unfolding accepted
turned_kept a at w f h = noise_kept a at f _ (noise_turned a w f ∙ h)
