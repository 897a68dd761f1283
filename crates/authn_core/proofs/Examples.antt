-- Turns, and what has to be signed, by computation.
use Rattle.std.proofs.Common.{◌≡◌, ℕ, List, [], ◌∷◌, Bool, true, false, Option, Some, None, replicate, refl, ◌++◌}
use Rattle.cred_table.specs.declared.row.Row.{Row}
use Rattle.cred_table.specs.Rows.{ids}
use Rattle.cred_table.specs.Rows.{PendingAssertions}
use Rattle.ctap_message.specs.Requests.{read_of}
use Rattle.authn_core.specs.declared.replies.Presence.TheVariants.{Granted, Denied, TimedOut}
use Rattle.authn_core.specs.State.{Setup, MakeState, AssertState, Task, AwaitResetPresence, AwaitSelectionPresence}
use Rattle.authn_core.specs.State.{AwaitMakePresence, AwaitKeyPair, AwaitAssertPresence, AwaitAssertSignature, State}
use Rattle.authn_core.specs.State.{Request, PresenceIs, KeyIs, SignatureIs, Cancel, Answer, Answered, Waits, Ignored}
use Rattle.authn_core.specs.State.{Event}
use Rattle.authn_core.specs.Turn.{turn}
use Rattle.authn_core.specs.Turn.{applicable_rows, assertion_turn, number_of_credentials}
use Rattle.ctap_message.specs.Requests.{Selection}
use Rattle.ctap_message.specs.Responses.{assertion_answer}
use Rattle.authn_core.specs.Marks.{TimedEvent, SignedAssertion}
use Rattle.authn_core.specs.Marks.{counters_increase}
use Rattle.authn_core.specs.Signed.{requests_of}
use Rattle.authn_core.specs.Views.{needs, sign}

-- ---- turns by computation

abbrev pub setup : Setup
setup = record { aaguid = replicate 16 0; began = 0; capacity = 2 }

abbrev pub row : (id : ℕ) → (counter : ℕ) → Row
row id counter = record { rp = replicate 32 7; id = replicate 32 id; x = []; y = []; user = record { items = id ∷ [] }; discoverable = true; counter = counter; name = [] }

abbrev pub waiting : List (List ℕ) → Option PendingAssertions
waiting ids = Some (record { cid = 1; hash = replicate 32 34; presence = true; moment = 1000; ids = ids })

abbrev idle : State
idle = record { rows = row 0xaa 0 ∷ row 0xab 4 ∷ []; pending = None; work = None }

-- the work with this task waits
abbrev at : Task → State
at task = record { rows = idle.rows; pending = None; work = Some (record { cid = 1; task = task }) }

abbrev asked : State
asked = record { rows = idle.rows; pending = waiting (replicate 32 0xaa ∷ []); work = None }

-- a selection asks for presence, empties what is pending, and is answered by its status alone
selects : (turn setup asked 1100 (Request 1 (0x0b ∷ []))).answer ≡ Waits 2
selects = unfold turn read_of in refl

selects_empties : (turn setup asked 1100 (Request 1 (0x0b ∷ []))).state.pending ≡ None
selects_empties = unfold turn read_of in refl

granted : (turn setup (at AwaitSelectionPresence) 150 (PresenceIs Granted)).answer ≡ Answered (0x00 ∷ [])
granted = unfold turn in refl

denied : (turn setup (at AwaitSelectionPresence) 150 (PresenceIs Denied)).answer ≡ Answered (0x27 ∷ [])
denied = unfold turn in refl

timed_out : (turn setup (at AwaitSelectionPresence) 150 (PresenceIs TimedOut)).answer ≡ Answered (0x2f ∷ [])
timed_out = unfold turn in refl

long_selection : (turn setup idle 160 (Request 1 (0x0b ∷ 0x00 ∷ []))).answer ≡ Answered (0x03 ∷ [])
long_selection = unfold turn read_of in refl

-- a reset within ten seconds of the start, and after them
resets : (turn setup idle 10000 (Request 1 (0x07 ∷ []))).answer ≡ Waits 2
resets = unfold turn read_of in refl

late_reset : (turn setup idle 10001 (Request 1 (0x07 ∷ []))).answer ≡ Answered (0x30 ∷ [])
late_reset = unfold turn read_of in refl

reset_granted : (turn setup (at AwaitResetPresence) 20000 (PresenceIs Granted)).state.rows ≡ []
reset_granted = unfold turn in refl

reset_late : (turn setup (at AwaitResetPresence) 50 (PresenceIs TimedOut)).answer ≡ Answered (0x2f ∷ [])
reset_late = unfold turn in refl

-- a getNextAssertion within thirty seconds on the channel that asked, else not
next_in_time : (turn setup asked 31000 (Request 1 (0x08 ∷ []))).answer ≡ Waits 1
next_in_time = unfold turn read_of in refl

next_late : (turn setup asked 31001 (Request 1 (0x08 ∷ []))).answer ≡ Answered (0x30 ∷ [])
next_late = unfold turn read_of in refl

next_elsewhere : (turn setup asked 1200 (Request 2 (0x08 ∷ []))).answer ≡ Answered (0x30 ∷ [])
next_elsewhere = unfold turn read_of in refl

next_elsewhere_empties : (turn setup asked 1200 (Request 2 (0x08 ∷ []))).state.pending ≡ None
next_elsewhere_empties = unfold turn read_of in refl

next_raises : (turn setup asked 1200 (Request 1 (0x08 ∷ []))).state.rows ≡ row 0xaa 1 ∷ row 0xab 4 ∷ []
next_raises = unfold turn read_of in refl

-- a counter that can't be raised
abbrev spent : State
spent = record { rows = row 0xaa 4294967295 ∷ []; pending = waiting (replicate 32 0xaa ∷ []); work = None }

next_spent : (turn setup spent 1200 (Request 1 (0x08 ∷ []))).answer ≡ Answered (0x15 ∷ [])
next_spent = unfold turn read_of in refl

-- a full table: a new user finds no room, a known one does
abbrev making_of : (user : ℕ) → MakeState
making_of user = record
    { hash = replicate 32 17; rp = replicate 32 7; user = user ∷ []; name = []; discoverable = true }

full : (turn setup (at (AwaitMakePresence (making_of 3) false)) 50 (PresenceIs Granted)).answer ≡ Answered (0x28 ∷ [])
full = unfold turn in refl

replacing : (turn setup (at (AwaitMakePresence (making_of 0xaa) false)) 50 (PresenceIs Granted)).answer ≡ Waits 1
replacing = unfold turn in refl

excluded_first : (turn setup (at (AwaitMakePresence (making_of 3) true)) 50 (PresenceIs TimedOut)).answer ≡ Answered (0x19 ∷ [])
excluded_first = unfold turn in refl

-- a key whose id is there already, also that of the row that would be replaced
known_id : (turn setup (at (AwaitKeyPair (making_of 0xaa))) 60 (KeyIs
    (Some (record { id = replicate 32 0xaa; x = []; y = [] })))).answer
    ≡ Answered (0x7f ∷ [])
known_id = unfold turn in refl

-- a signature where a key is needed
not_needed : (turn setup (at (AwaitKeyPair (making_of 0xaa))) 60 (SignatureIs None)).answer ≡ Ignored
not_needed = unfold turn in refl

cancelled : (turn setup (at (AwaitKeyPair (making_of 0xaa))) 60 Cancel).answer ≡ Answered (0x2d ∷ [])
cancelled = unfold turn in refl

-- a registration and a sign-in that the user denies, or doesn't answer in time
make_denied : (turn setup (at (AwaitMakePresence (making_of 3) false)) 50 (PresenceIs Denied)).answer ≡ Answered (0x27 ∷ [])
make_denied = unfold turn in refl

make_late : (turn setup (at (AwaitMakePresence (making_of 3) false)) 50 (PresenceIs TimedOut)).answer ≡ Answered (0x27 ∷ [])
make_late = unfold turn in refl

abbrev asserting : AssertState
asserting =
    record { hash = replicate 32 34; rp = replicate 32 7; id = replicate 32 0xaa; presence = true; number = None }

assert_denied : (turn setup (at (AwaitAssertPresence asserting)) 50 (PresenceIs Denied)).answer ≡ Answered (0x27 ∷ [])
assert_denied = unfold turn in refl

assert_late : (turn setup (at (AwaitAssertPresence asserting)) 50 (PresenceIs TimedOut)).answer ≡ Answered (0x27 ∷ [])
assert_late = unfold turn in refl

-- no key for a registration, and no signature for a sign-in
no_key : (turn setup (at (AwaitKeyPair (making_of 0xaa))) 60 (KeyIs None)).answer ≡ Answered (0x7f ∷ [])
no_key = unfold turn in refl

no_signature : (turn setup (at (AwaitAssertSignature asserting 5 [])) 60 (SignatureIs None)).answer ≡ Answered (0x7f ∷ [])
no_signature = unfold turn in refl

-- an RP without a credential, and an allow list that names none of the RP's
abbrev asks_for : (rp : ℕ) → Bool → List (List ℕ) → Answer
asks_for rp given allow = (assertion_turn idle.rows 1000 1 (replicate 32 34) (replicate 32 rp) true given
    (ids (applicable_rows idle.rows (replicate 32 rp) given allow))).answer

none_found : asks_for 8 false [] ≡ Answered (0x2e ∷ [])
none_found = refl

none_allowed : asks_for 7 true (replicate 32 0xac ∷ []) ≡ Answered (0x2e ∷ [])
none_allowed = refl

-- the number of credentials: of one it is left out, and with an allow list too
number_told : (number_of_credentials false 1 ≡ None) × (number_of_credentials false 2 ≡ Some 2) × (number_of_credentials true 2 ≡ None)
number_told = (refl, refl, refl)

-- ---- what came, what has to be signed and what is answered, by computation

-- The newest request is heard through a getNextAssertion, and what can't be read asks nothing.
abbrev came : Event → TimedEvent
came e = record { at = 0; event = e }

goes_on : (requests_of (came (Request 1 (0x08 ∷ [])) ∷ came Cancel ∷ came (Request 1 (0x0b ∷ [])) ∷ [])).asked
    ≡ Some Selection
goes_on = unfold requests_of read_of in refl

unread : (requests_of (came (Request 1 (0x08 ∷ [])) ∷ came (Request 1 (0x0b ∷ 0x00 ∷ [])) ∷ came (Request 1 (0x0b ∷ []))
    ∷ [])).asked ≡ None
unread = unfold requests_of read_of in refl

-- the next assertion of a request with presence, by a row with the counter 4
abbrev pending : State
pending = record { rows = (record (row 0xaa 4) { user = record { items = 1 ∷ [] } }) ∷ []; pending = waiting (replicate 32 0xaa ∷ []); work = None }

-- the hash of the RP id, the flag UP, the counter 5 in four bytes
abbrev data_signed : List ℕ
data_signed = replicate 32 7 ++ 0x01 ∷ 0x00 ∷ 0x00 ∷ 0x00 ∷ 0x05 ∷ []

signed_is : needs (turn setup pending 1200 (Request 1 (0x08 ∷ []))).state.work
    ≡ sign (replicate 32 0xaa) (data_signed ++ replicate 32 34)
signed_is = unfold turn read_of in refl

answered_is : (turn setup (turn setup pending 1200 (Request 1 (0x08 ∷ []))).state 1300
    (SignatureIs (Some (0x30 ∷ [])))).answer
    ≡ Answered (assertion_answer (replicate 32 0xaa) data_signed (0x30 ∷ []) (Some (1 ∷ [])) None)
answered_is = unfold turn read_of in refl

-- counters that rise, stay or fall; another credential's, and one of an id that was made again
abbrev text : (id making counter : ℕ) → SignedAssertion
text id making counter = record { id = id ∷ []; making = making; counter = counter }

rising : counters_increase (text 1 0 3 ∷ text 2 0 9 ∷ text 1 0 2 ∷ []) ≡ true
rising = refl

staying : counters_increase (text 1 0 2 ∷ text 2 0 9 ∷ text 1 0 2 ∷ []) ≡ false
staying = refl

falling : counters_increase (text 1 0 1 ∷ text 2 0 9 ∷ text 1 0 2 ∷ []) ≡ false
falling = refl

made_again : counters_increase (text 1 1 1 ∷ text 1 0 2 ∷ []) ≡ true
made_again = refl
