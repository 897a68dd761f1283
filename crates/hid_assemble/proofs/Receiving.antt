-- A message is finished by its packets, and the rows of packets that leave it as it is.
use Rattle.std.proofs.Common.{◌≡◌, ℕ, ◌≤◌, ◌<◌, Bool, true, false, cond, ◌==◌, nat_le, nat_lt, refl, arith, rules}
use Rattle.std.proofs.Common.{not, ◌&&◌, ◌||◌, Option, List, Some, None, sym, ◌∙◌, ap, subst, ◌+◌, [], ◌++◌, length}
use Rattle.std.proofs.Common.{take, drop, option_map, length-take-le, ◌*◌, ◌⊎◌, ◌∷◌, flat_map, append-nil}
use Rattle.std.proofs.Common.{append_assoc}
use Rattle.std.proofs.lemmas.Bool.Decides.{nat_tests}
use Rattle.hid_packet.specs.Packet.{PING, INIT, CBOR, CANCEL, BROADCAST}
use Rattle.hid_assemble.specs.declared.table.ReplyRow.{ReplyRow}
use Rattle.hid_assemble.specs.declared.table.ReplyRow.TheVariants.{CancelsWork, CancelsNothing, NoSuchChannel}
use Rattle.hid_assemble.specs.declared.table.ReplyRow.TheVariants.{InitLength, InitFull, InitNew, InitAgain}
use Rattle.hid_assemble.specs.declared.table.ReplyRow.TheVariants.{BusyElsewhere, BusyHere, BrokenOff, NoSuchCommand}
use Rattle.hid_assemble.specs.declared.table.ReplyRow.TheVariants.{BadLength, Short, Long}
use Rattle.hid_assemble.specs.Table.{MAX_CHANNEL, is_allocated, is_busy_here, is_busy_elsewhere, init_packet_row}
use Rattle.hid_assemble.specs.Table.{cont_packet_row, packet_class, Open, Begins, Continues, Kept, Whole, PacketClass}
use Rattle.hid_packet.specs.Packet.{MAX_MESSAGE_LEN}
use Rattle.hid_packet.specs.Packet.{Fields, initialization, continuation, channel_of, fields, channel}
use Rattle.hid_packet.specs.Packet.{is_initialization, command, message_length, sequence, initialization_data}
use Rattle.hid_packet.specs.Packet.{continuation_data}
use Rattle.hid_assemble.specs.Assembly.{Assembly, open_after, accepted, IsValidAssembly, OpenIsValid, message_after}
use Rattle.hid_assemble.specs.Assembly.{assembly_after_class, is_overdue, still_open}
use Rattle.std.proofs.lemmas.List.{take-append-le}
use Rattle.std.proofs.Math.Seq.{take-append_seam}
use Rattle.hid_assemble.specs.declared.assembler.Contents.{Contents}
use Rattle.hid_assemble.specs.declared.assembler.Contents.TheVariants.{Open as HoldsOpen, Finished}
use Rattle.hid_assemble.specs.Assembly.{stored_open, stored_finished, assembly, IsValidState, AreValidContents}
use Rattle.hid_packet.specs.Message.{AreContinuations, IsLeast, Carries, CarriesMessage}
use Rattle.hid_assemble.specs.Verdicts.{Arrival, packets_of, received_one, received, last_verdict, InTime}
use Rattle.hid_assemble.specs.Verdicts.{ArriveInTime, IsSupportedMessage}
use Rattle.hid_assemble.specs.declared.verdict.Verdict.TheVariants.{Finished as FinishedVerdict}
use Rattle.hid_assemble.specs.Verdicts.{verdict, class_verdict}

-- ---- facts from tests

pub cond_case : {A : Type 0} (P : A → Type 0) (b : Bool) (x y : A) → (b ≡ true → P x) → (b ≡ false → P y) →
    P (cond b x y)
cond_case P true x y p q = p refl
cond_case P false x y p q = q refl

pub equal : (a b : ℕ) → (a == b) ≡ true → a ≡ b
equal a b h = grind (arith, nat_tests)

pub at_most : (a b : ℕ) → nat_le a b ≡ true → a ≤ b
at_most a b h = grind (arith, nat_tests)

pub above : (a b : ℕ) → nat_le a b ≡ false → b < a
above a b h = grind (arith, nat_tests)

pub below : (a b : ℕ) → nat_lt a b ≡ true → a < b
below a b h = grind (arith, nat_tests)

-- ---- the rows of an initialization packet by the kind of its command: CANCEL, INIT, and any other

unfoldable pub init_row : ℕ → ℕ → ℕ → ReplyRow
init_row given cid len =
    cond (not (len == 8)) InitLength (cond (cid == BROADCAST) (cond (given == MAX_CHANNEL) InitFull InitNew) InitAgain)

unfoldable pub begin_row : Option ℕ → Option ℕ → ℕ → ℕ → ℕ → ReplyRow
begin_row current work cid cmd len =
    cond (is_busy_elsewhere current cid || is_busy_elsewhere work cid) BusyElsewhere
    (cond (is_busy_here work cid) BusyHere
    (cond (is_busy_here current cid) BrokenOff
    (cond (not (cmd == PING || cmd == CBOR)) NoSuchCommand
    (cond (nat_lt MAX_MESSAGE_LEN len || (cmd == CBOR && (len == 0))) BadLength
    (cond (nat_le len 57) Short Long)))))

kinds : (cancel work strange init length_is broadcast full : Bool) (r : ReplyRow)
    → cond (cancel && work) CancelsWork (cond cancel CancelsNothing
    (cond strange NoSuchChannel (cond (init && length_is) InitLength
    (cond ((broadcast && init) && full) InitFull (cond (broadcast && init) InitNew (cond init InitAgain r))))))
    ≡ cond cancel (cond work CancelsWork CancelsNothing) (cond strange NoSuchChannel
    (cond init (cond length_is InitLength (cond broadcast (cond full InitFull InitNew) InitAgain)) r))
kinds x0 w s i l b f r = search (rules, arith)

pub by_command : (given : ℕ) (current work : Option ℕ) (cid cmd len : ℕ) →
    init_packet_row given current work cid cmd len
    ≡ cond (cmd == CANCEL) (cond (is_busy_here work cid) CancelsWork CancelsNothing)
    (cond (not (is_allocated given cid || ((cid == BROADCAST) && (cmd == INIT)))) NoSuchChannel
    (cond (cmd == INIT) (init_row given cid len) (begin_row current work cid cmd len)))
unfolding init_packet_row init_row begin_row
by_command given current work cid cmd len = grind (arith, nat_tests)

-- ---- what leaves an open message as it was

apart : (a b : ℕ) → (a ≡ b → ⊥) → (a == b) ≡ false
apart a b never = grind (arith, nat_tests)

module _ (at : ℕ) (m : Open) (work : Option ℕ) where
  -- an initialization packet of another channel
  foreign_start : (given cid cmd len : ℕ) (part : List ℕ) → (m.cid == cid) ≡ false
      → open_after (Some m) at (initialization cid cmd len part)
      (Begins (init_packet_row given (Some m.cid) work cid cmd len)) ≡ Some m
  unfolding init_row begin_row open_after
  foreign_start given cid cmd len part other =
      let P : ReplyRow → Type 0 = λ row. open_after (Some m) at (initialization cid cmd len part) (Begins row)
      ≡ Some m in
      let drops : cond (m.cid == cid) None (Some m) ≡ Some m = rw other refl in
      subst P (sym (by_command given (Some m.cid) work cid cmd len))
      (cond_case P (cmd == CANCEL) _ _
      (λ _. cond_case P (is_busy_here work cid) _ _ (λ _. refl) (λ _. refl))
      (λ _. cond_case P (not (is_allocated given cid || ((cid == BROADCAST) && (cmd == INIT)))) _ _ (λ _. refl)
      (λ _. cond_case P (cmd == INIT) _ _
      (λ _. cond_case P (not (len == 8)) _ _ (λ _. drops)
      (λ _. cond_case P (cid == BROADCAST) _ _ (λ _. cond_case P (given == MAX_CHANNEL) _ _ (λ _. refl) (λ _. refl))
      (λ _. drops)))
      (λ _. rw other refl))))

  foreign_more : (cid number : ℕ) (part : List ℕ) → (m.cid == cid) ≡ false
      → open_after (Some m) at (continuation cid number part) (Continues (cont_packet_row (Some m) cid number))
      ≡ Some m
  unfolding cont_packet_row open_after
  foreign_more cid number part other = rw other refl

  foreign_kept : (given : ℕ) (f : Fields) → (m.cid == channel_of f) ≡ false →
      open_after (Some m) at f (packet_class given (Some m) work f) ≡ Some m
  unfolding packet_class
  foreign_kept given (initialization cid cmd len part) other = foreign_start given cid cmd len part other
  foreign_kept given (continuation cid number part) other = foreign_more cid number part other

  cancel_kept : (given cid len : ℕ) (part : List ℕ) → open_after (Some m) at (initialization cid CANCEL len part)
      (Begins (init_packet_row given (Some m.cid) work cid CANCEL len)) ≡ Some m
  unfolding init_packet_row open_after
  cancel_kept given cid len part =
      cond_case (λ row. open_after (Some m) at (initialization cid CANCEL len part) (Begins row) ≡ Some m)
      (is_busy_here work cid) _ _ (λ _. refl) (λ _. refl)

pub foreign_packet : (a : Assembly) (at : ℕ) (work : Option ℕ) (f : Fields) (m : Open) → a.current ≡ Some m →
    (channel_of f ≡ m.cid → ⊥)
    → (accepted a at work f).current ≡ a.current
unfolding accepted
foreign_packet a at work f m is other =
    let apart_from : (m.cid == channel_of f) ≡ false = apart m.cid (channel_of f) (λ e. other (sym e)) in
    ap (λ o. open_after o at f (packet_class a.given o work f)) is ∙ foreign_kept at m work a.given f apart_from ∙ sym is

pub cancel_packet : (a : Assembly) (at : ℕ) (work : Option ℕ) (cid len : ℕ) (part : List ℕ) (m : Open) →
    a.current ≡ Some m
    → (accepted a at work (initialization cid CANCEL len part)).current ≡ a.current
unfolding accepted packet_class
cancel_packet a at work cid len part m is =
    ap (λ o. open_after o at (initialization cid CANCEL len part)
    (packet_class a.given o work (initialization cid CANCEL len part))) is
    ∙ cancel_kept at m work a.given cid len part ∙ sym is

-- ---- what the fields of an assembler tell of what is kept

lawful_in : (given : ℕ) (contents : Contents) (buffer : List ℕ) → length buffer ≡ 7609 → AreValidContents given contents
    → OpenIsValid given (stored_open buffer contents) × (length (stored_finished buffer contents) ≤ 7609)
lawful_in given x1 buffer size h = search (rules, arith, length-take-le)

pub lawful : (given : ℕ) (contents : Contents) (buffer : List ℕ) (a : Assembly) → assembly given contents buffer ≡ a →
    IsValidState given contents buffer → IsValidAssembly a
unfolding assembly
lawful given contents buffer a is kept = search (rules, arith, lawful_in)

pub given-is : (given : ℕ) (contents : Contents) (buffer : List ℕ) (a : Assembly) → assembly given contents buffer ≡ a →
    given ≡ a.given
unfolding assembly
given-is given contents buffer a is = ap (λ (x : Assembly). x.given) is

-- A channel more was given out.
pub one_more : (given : ℕ) (contents : Contents) (buffer : List ℕ) → IsValidState given contents buffer →
    given < MAX_CHANNEL → IsValidState (given + 1) contents buffer
one_more given contents buffer kept few = grind (arith, nat_tests)

-- The data of an initialization packet stands at the buffer's head.
module _ (given : ℕ) (contents : Contents) (buffer : List ℕ) (a : Assembly) (is : assembly given contents buffer ≡ a)
    (at cid cmd len size : ℕ) (work : Option ℕ) (part now : List ℕ)
    (full : length part ≡ 57) (e : now ≡ part ++ drop size buffer) where
  abbrev row : ReplyRow → Type 0
  row r = init_packet_row a.given (option_map (λ m. m.cid) a.current) work cid cmd len ≡ r

  pub short_state : row Short → len ≤ 57 → assembly given (Finished len) now
      ≡ accepted a at work (initialization cid cmd len part)
  unfolding assembly accepted packet_class open_after message_after
  short_state r fits =
      let bytes : take len now ≡ take len part = ap (take len) e
      ∙ take-append-le len part (drop size buffer) (omega (arith, fits)) in
      (λ i. record { given = given-is given contents buffer a is i; current = None; finished = bytes i })
      ∙ sym (ap (λ x. assembly_after_class a at (initialization cid cmd len part) (Begins x)) r)

  pub long_state : row Long →
      assembly given (HoldsOpen (record { cid = cid; cmd = cmd; len = len; kept = 0; last = at })) now
      ≡ accepted a at work (initialization cid cmd len part)
  unfolding assembly accepted packet_class open_after message_after
  long_state r =
      let bytes : take 57 now ≡ part = ap (take 57) e ∙ subst (λ n. take n (part ++ drop size buffer) ≡ part) full
      (take-append_seam part (drop size buffer)) in
      (λ i. record { given = given-is given contents buffer a is i; current = Some (record { cid = cid; cmd = cmd; len = len; bytes = bytes i; kept = 0; last = at }); finished = [] })
      ∙ sym (ap (λ x. assembly_after_class a at (initialization cid cmd len part) (Begins x)) r)

-- ---- the packets of a message finish it

-- the fields of either kind of packet
starts : (p : List ℕ) → is_initialization p ≡ true → fields p
    ≡ initialization (channel p) (command p) (message_length p) (initialization_data p)
starts p h = rw h refl

goes : (p : List ℕ) → is_initialization p ≡ false → fields p
    ≡ continuation (channel p) (sequence p) (continuation_data p)
goes p h = rw h refl

-- A ruling that is known says what is kept.
kept_as : (a : Assembly) (at : ℕ) (f : Fields) (ruling : PacketClass) → packet_class a.given a.current None f ≡ ruling →
    accepted a at None f ≡ assembly_after_class a at f ruling
unfolding accepted
kept_as a at f ruling h = ap (assembly_after_class a at f) h

in_time : (given at since : ℕ) (m : Open) (finished : List ℕ) → m.last ≡ since → at < since + 500
    → ◌≡◌ {A = Assembly} (record { given = given; current = still_open (Some m) at; finished = finished })
    (record { given = given; current = Some m; finished = finished })
unfolding is_overdue
in_time given at since m finished same soon = grind (arith, nat_tests)

-- the row of the continuation packet that is due
due_row : (given : ℕ) (m : Open) (number : ℕ) (part : List ℕ) (last : Bool) → number ≡ m.kept →
    nat_lt (57 + 59 * (m.kept + 1)) m.len ≡ last
    → packet_class given (Some m) None (continuation m.cid number part) ≡ Continues (cond last Kept Whole)
unfolding packet_class cont_packet_row
due_row given m number part last same test = grind (arith, nat_tests)

-- the continuation packets that are left finish the open message
continues : (arrivals : List Arrival) (given since : ℕ) (m : Open) (finished : List ℕ) → 0 < length arrivals →
    m.last ≡ since → InTime since arrivals
    → AreContinuations m.cid m.kept (packets_of arrivals) → m.len ≤ 57 + 59 * (m.kept + length arrivals) →
    57 + 59 * (m.kept + length arrivals) < m.len + 59
    → received (record { given = given; current = Some m; finished = finished }) arrivals
    ≡ record { given = given; current = None; finished = take m.len (m.bytes ++ flat_map continuation_data (packets_of arrivals)) }
unfolding received received_one open_after message_after
continues [] given since m finished some last time follow enough few = absurd (omega arith)
continues (x ∷ []) given since m finished some last time follow enough few =
    let p = x.packet in
    let f = continuation (channel p) (sequence p) (continuation_data p) in
    let test : nat_lt (57 + 59 * (m.kept + 1)) m.len ≡ false = grind (arith, nat_tests) in
    let row = due_row given m (sequence p) (continuation_data p) false follow.2 test in
    let same : fields p ≡ continuation m.cid (sequence p) (continuation_data p) =
    goes p follow.0 ∙ ap (λ c. continuation c (sequence p) (continuation_data p)) follow.1 in
    let now : Assembly = record { given = given; current = Some m; finished = finished } in
    ap (λ a. accepted a x.at None (fields p)) (in_time given x.at since m finished last time.0)
    ∙ ap (accepted now x.at None) same
    ∙ kept_as now x.at (continuation m.cid (sequence p) (continuation_data p)) (Continues Whole) row
    ∙ ap (λ bs. record { given = given; current = None; finished = take m.len (m.bytes ++ bs) })
    (sym (append-nil (continuation_data p)))
continues (x ∷ y ∷ more) given since m finished some last time follow enough few =
    let p = x.packet in
    let test : nat_lt (57 + 59 * (m.kept + 1)) m.len ≡ true = grind (arith, nat_tests) in
    let row = due_row given m (sequence p) (continuation_data p) true follow.2 test in
    let same : fields p ≡ continuation m.cid (sequence p) (continuation_data p) =
    goes p follow.0 ∙ ap (λ c. continuation c (sequence p) (continuation_data p)) follow.1 in
    let now : Assembly = record { given = given; current = Some m; finished = finished } in
    let grown : Open = record { cid = m.cid; cmd = m.cmd; len = m.len; bytes = m.bytes ++ continuation_data p; kept = m.kept + 1; last = x.at } in
    ap (λ a. received (accepted a x.at None (fields p)) (y ∷ more)) (in_time given x.at since m finished last time.0)
    ∙ ap (λ f. received (accepted now x.at None f) (y ∷ more)) same
    ∙ ap (λ a. received a (y ∷ more)) (kept_as now x.at (continuation m.cid (sequence p) (continuation_data p))
    (Continues Kept) row)
    ∙ continues (y ∷ more) given x.at grown [] (omega arith) refl time.1 follow.3 (omega arith) (omega arith)
    ∙ ap (λ bs. record { given = given; current = None; finished = take m.len bs })
    (append_assoc m.bytes (continuation_data p) (flat_map continuation_data (packets_of (y ∷ more))))

-- the row of an initialization packet where nothing is open
served_tests : (given cid cmd len : ℕ) → 1 ≤ cid → cid ≤ given → (cmd ≡ 1) ⊎ ((cmd ≡ 16) × (1 ≤ len)) → len ≤ 7609
    → ((cmd == CANCEL) ≡ false) × (not (is_allocated given cid || ((cid == BROADCAST) && (cmd == INIT))) ≡ false)
    × ((cmd == INIT) ≡ false)
    × (not ((cmd == PING) || (cmd == CBOR)) ≡ false) × ((nat_lt MAX_MESSAGE_LEN len || ((cmd == CBOR) && (len == 0)))
    ≡ false)
served_tests given cid cmd len low high x6 fits = grind (arith, nat_tests)

admitted_row : (given cid cmd len : ℕ) (part : List ℕ) (short : Bool) → 1 ≤ cid → cid ≤ given →
    (cmd ≡ 1) ⊎ ((cmd ≡ 16) × (1 ≤ len)) → len ≤ 7609 → nat_le len 57 ≡ short
    → packet_class given None None (initialization cid cmd len part) ≡ Begins (cond short Short Long)
unfolding packet_class begin_row
admitted_row given cid cmd len part short low high served fits test = grind (arith, by_command, served_tests)

many : (count len : ℕ) → 0 < count → IsLeast count len → (57 < len) × (len ≤ 57 + 59 * count)
    × (57 + 59 * count < len + 59)
many count len some x3 = search (rules, arith)

one : (len : ℕ) → IsLeast 0 len → len ≤ 57
one len x1 = search (rules, arith)

length-packets_of : (arrivals : List Arrival) → length (packets_of arrivals) ≡ length arrivals
length-packets_of [] = refl
length-packets_of (x ∷ xs) = let rest = length-packets_of xs in omega arith

-- the initialization packet, by its message
abbrev begins_with : ℕ → ℕ → List ℕ → List ℕ → Fields
begins_with cid cmd bytes p = initialization cid cmd (length bytes) (initialization_data p)

first_fields : (p : List ℕ) (others : List (List ℕ)) (cid cmd : ℕ) (bytes : List ℕ) → Carries p others cid cmd bytes →
    fields p ≡ begins_with cid cmd bytes p
first_fields p others cid cmd bytes c = grind (arith, nat_tests)

-- With nothing open, the packets of a message that is admitted finish it with its bytes.
pub message_finishes : (a : Assembly) (arrivals : List Arrival) (cid cmd : ℕ) (bytes : List ℕ) → a.current ≡ None →
    1 ≤ cid → cid ≤ a.given → IsSupportedMessage cmd bytes
    → CarriesMessage (packets_of arrivals) cid cmd bytes → ArriveInTime arrivals
    → received a arrivals ≡ record { given = a.given; current = None; finished = bytes }
unfolding received received_one open_after message_after is_overdue
message_finishes a [] cid cmd bytes none low high served c time = absurd c
message_finishes a (x ∷ []) cid cmd bytes none low high served c time =
    let p = x.packet in
    let now : Assembly = record { given = a.given; current = None; finished = a.finished } in
    let short : nat_le (length bytes) 57 ≡ true = let few = one (length bytes) c.least in grind (arith, nat_tests) in
    let row = admitted_row a.given cid cmd (length bytes) (initialization_data p) true low high served c.short short in
    ap (λ o. accepted (record { given = a.given; current = still_open o x.at; finished = a.finished }) x.at None
    (fields p)) none
    ∙ ap (accepted now x.at None) (first_fields p [] cid cmd bytes c)
    ∙ kept_as now x.at (begins_with cid cmd bytes p) (Begins Short) row
    ∙ ap (λ bs. record { given = a.given; current = None; finished = bs })
    (ap (take (length bytes)) (sym (append-nil (initialization_data p))) ∙ sym c.joins)
message_finishes a (x ∷ y ∷ more) cid cmd bytes none low high served c time =
    let p = x.packet in
    let now : Assembly = record { given = a.given; current = None; finished = a.finished } in
    let count = length-packets_of (y ∷ more) in
    let size = many (length (packets_of (y ∷ more))) (length bytes) (omega arith) c.least in
    let long : nat_le (length bytes) 57 ≡ false = let more_than = size.0 in grind (arith, nat_tests) in
    let row = admitted_row a.given cid cmd (length bytes) (initialization_data p) false low high served c.short long in
    let begun : Open = record
    { cid = cid; cmd = cmd; len = length bytes; bytes = initialization_data p; kept = 0; last = x.at } in
    ap (λ o. received (accepted (record { given = a.given; current = still_open o x.at; finished = a.finished }) x.at
    None (fields p)) (y ∷ more)) none
    ∙ ap (λ f. received (accepted now x.at None f) (y ∷ more)) (first_fields p (packets_of (y ∷ more)) cid cmd bytes c)
    ∙ ap (λ b. received b (y ∷ more)) (kept_as now x.at (begins_with cid cmd bytes p) (Begins Long) row)
    ∙ continues (y ∷ more) a.given x.at begun [] (omega arith) refl time c.continues (omega (arith, size.1))
    (omega (arith, size.2))
    ∙ ap (λ bs. record { given = a.given; current = None; finished = bs }) (sym c.joins)

-- A ruling that is known says what the verdict is.
verdict_as : (a : Assembly) (f : Fields) (ruling : PacketClass) → packet_class a.given a.current None f ≡ ruling
    → verdict a None f ≡ class_verdict a.given a.current None f (message_after a.current f ruling) ruling
unfolding verdict
verdict_as a f ruling h = ap (λ r. class_verdict a.given a.current None f (message_after a.current f r) r) h

continues_verdict : (arrivals : List Arrival) (given since : ℕ) (m : Open) (finished : List ℕ) → 0 < length arrivals →
    m.last ≡ since → InTime since arrivals
    → AreContinuations m.cid m.kept (packets_of arrivals) → m.len ≤ 57 + 59 * (m.kept + length arrivals) →
    57 + 59 * (m.kept + length arrivals) < m.len + 59
    → last_verdict (record { given = given; current = Some m; finished = finished }) arrivals ≡ FinishedVerdict m.cid m.cmd
unfolding last_verdict received_one open_after message_after class_verdict
continues_verdict [] given since m finished some last time follow enough few = absurd (omega arith)
continues_verdict (x ∷ []) given since m finished some last time follow enough few =
    let p = x.packet in
    let test : nat_lt (57 + 59 * (m.kept + 1)) m.len ≡ false = grind (arith, nat_tests) in
    let row = due_row given m (sequence p) (continuation_data p) false follow.2 test in
    let same : fields p ≡ continuation m.cid (sequence p) (continuation_data p) =
    goes p follow.0 ∙ ap (λ c. continuation c (sequence p) (continuation_data p)) follow.1 in
    let now : Assembly = record { given = given; current = Some m; finished = finished } in
    ap (λ a. verdict a None (fields p)) (in_time given x.at since m finished last time.0)
    ∙ ap (verdict now None) same
    ∙ verdict_as now (continuation m.cid (sequence p) (continuation_data p)) (Continues Whole) row
continues_verdict (x ∷ y ∷ more) given since m finished some last time follow enough few =
    let p = x.packet in
    let test : nat_lt (57 + 59 * (m.kept + 1)) m.len ≡ true = grind (arith, nat_tests) in
    let row = due_row given m (sequence p) (continuation_data p) true follow.2 test in
    let same : fields p ≡ continuation m.cid (sequence p) (continuation_data p) =
    goes p follow.0 ∙ ap (λ c. continuation c (sequence p) (continuation_data p)) follow.1 in
    let now : Assembly = record { given = given; current = Some m; finished = finished } in
    let grown : Open = record { cid = m.cid; cmd = m.cmd; len = m.len; bytes = m.bytes ++ continuation_data p; kept = m.kept + 1; last = x.at } in
    ap (λ a. last_verdict (accepted a x.at None (fields p)) (y ∷ more))
    (in_time given x.at since m finished last time.0)
    ∙ ap (λ f. last_verdict (accepted now x.at None f) (y ∷ more)) same
    ∙ ap (λ a. last_verdict a (y ∷ more)) (kept_as now x.at (continuation m.cid (sequence p) (continuation_data p))
    (Continues Kept) row)
    ∙ continues_verdict (y ∷ more) given x.at grown [] (omega arith) refl time.1 follow.3 (omega arith) (omega arith)

pub message_told : (a : Assembly) (arrivals : List Arrival) (cid cmd : ℕ) (bytes : List ℕ) → a.current ≡ None →
    1 ≤ cid → cid ≤ a.given → IsSupportedMessage cmd bytes
    → CarriesMessage (packets_of arrivals) cid cmd bytes → ArriveInTime arrivals
    → last_verdict a arrivals ≡ FinishedVerdict cid cmd
unfolding last_verdict received_one open_after message_after is_overdue class_verdict
message_told a [] cid cmd bytes none low high served c time = absurd c
message_told a (x ∷ []) cid cmd bytes none low high served c time =
    let p = x.packet in
    let now : Assembly = record { given = a.given; current = None; finished = a.finished } in
    let short : nat_le (length bytes) 57 ≡ true = let few = one (length bytes) c.least in grind (arith, nat_tests) in
    let row = admitted_row a.given cid cmd (length bytes) (initialization_data p) true low high served c.short short in
    ap (λ o. verdict (record { given = a.given; current = still_open o x.at; finished = a.finished }) None (fields p))
    none
    ∙ ap (verdict now None) (first_fields p [] cid cmd bytes c)
    ∙ verdict_as now (begins_with cid cmd bytes p) (Begins Short) row
message_told a (x ∷ y ∷ more) cid cmd bytes none low high served c time =
    let p = x.packet in
    let now : Assembly = record { given = a.given; current = None; finished = a.finished } in
    let count = length-packets_of (y ∷ more) in
    let size = many (length (packets_of (y ∷ more))) (length bytes) (omega arith) c.least in
    let long : nat_le (length bytes) 57 ≡ false = let more_than = size.0 in grind (arith, nat_tests) in
    let row = admitted_row a.given cid cmd (length bytes) (initialization_data p) false low high served c.short long in
    let begun : Open = record
    { cid = cid; cmd = cmd; len = length bytes; bytes = initialization_data p; kept = 0; last = x.at } in
    ap (λ o. last_verdict (accepted (record { given = a.given; current = still_open o x.at; finished = a.finished })
    x.at None (fields p)) (y ∷ more)) none
    ∙ ap (λ f. last_verdict (accepted now x.at None f) (y ∷ more))
    (first_fields p (packets_of (y ∷ more)) cid cmd bytes c)
    ∙ ap (λ b. last_verdict b (y ∷ more)) (kept_as now x.at (begins_with cid cmd bytes p) (Begins Long) row)
    ∙ continues_verdict (y ∷ more) a.given x.at begun [] (omega arith) refl time c.continues (omega (arith, size.1))
    (omega (arith, size.2))
