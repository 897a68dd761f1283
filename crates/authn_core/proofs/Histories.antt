-- The rows, the pending credentials and the bytes to sign after a history.
use Rattle.std.proofs.Common.{rules, ◌≡◌, ℕ, ◌+◌, ◌≤◌, List, [], ◌∷◌, ◌++◌, append-nil, length, filter, reverse, Bool}
use Rattle.std.proofs.Common.{true, false, cond, Option, Some, None, IfSome, option_map, is_some, Result, Ok, refl}
use Rattle.std.proofs.Common.{arith, flat_map, option_to_list, ap, subst, map, take, not, ◌&&◌, ◌||◌, sym}
use Rattle.std.specs.Str.{bytes_eq}
use Rattle.std.proofs.lemmas.Grind.{common_steps, flat_map-append}
use Rattle.std.proofs.lemmas.Slice.Eq.{bytes_eq-Decides}
use Rattle.std.proofs.lemmas.List.{length-map, length-reverse}
use Rattle.std.specs.List.{AllByRecursion, find, list_any}
use Rattle.cred_table.specs.declared.row.Row.{Row}
use Rattle.cred_table.specs.Rows.{PendingAssertions, pending_count}
use Rattle.cred_table.specs.Rows.{ValidRows, has_id, is_named, same_id, no_two, rows_incremented, rows_with}
use Rattle.cred_table.specs.Rows.{is_listed, ids, counter_of, is_user}
use Rattle.cred_table.proofs.Chain.{same_bytes}
use Rattle.cred_table.proofs.Stored.{Lawful-raised, Lawful-stored, length-filter, one_replaced}
use Rattle.ctap_message.specs.Requests.{ParsedRequest, GetAssertion, MakeCredential}
use Rattle.ctap_message.specs.Members.{has_entries}
use Rattle.ctap_message.specs.Members.{ids_of}
use Rattle.ctap_message.specs.Requests.{read_of}
use Rattle.authn_core.specs.declared.replies.NewKey.{NewKey}
use Rattle.authn_core.specs.Turn.{applicable_rows, assertion_turn, user_handle_in, find_allowed}
use Rattle.authn_core.specs.Marks.{TimedEvent, core_at, CredentialChange, event_change, apply_change, is_replaced_by}
use Rattle.authn_core.specs.Marks.{is_incremented, is_kept, row_if_kept, rows_among, MayFollow, Orderly}
use Rattle.authn_core.specs.Marks.{SignedAssertion, changes, creates_id, creation_count, incremented_by, signs_by}
use Rattle.authn_core.specs.Marks.{signed_after_change, signed_assertions, is_same_assertion, all_differ}
use Rattle.authn_core.specs.Marks.{replaces_credential, rows_after_changes}
use Rattle.sha2.specs.Sha256.{sha256}
use Rattle.authn_core.specs.State.{Setup, MakeState, State, Event, Request, AwaitAssertSignature, PendingTask, Task}
use Rattle.authn_core.specs.State.{AwaitMakeSignature, SignatureIs}
use Rattle.authn_core.specs.Turn.{has_capacity, new_row, has_listed_credential}
use Rattle.authn_core.specs.Turn.{CoreState, request_turn, turn, core_after, Start, first_state, task_reply_turn}
use Rattle.authn_core.specs.Turn.{reply_turn}
use Rattle.authn_core.specs.Turn.{AllHaveRows, Ready, PendingReady, WorkReady}
use Rattle.authn_core.specs.Views.{needs, sign}
use Rattle.authn_core.specs.Marks.{exceeds_all, counters_increase, IsPendingSignature, IsNewest}
use Rattle.std.proofs.lemmas.Bool.Decides.{nat_tests}
use Rattle.fido_authdata.specs.AuthData.{assertion_bytes}
use Rattle.authn_core.specs.Signed.{LatestRequests, with_request, with_event, requests_of, rp_id_hash_of, IsSigned}
use Rattle.authn_core.specs.Signed.{assertion_asked, TaskSignsFor, WorkSignsFor, AreRpCredentials, PendingFor}
use Rattle.authn_core.specs.Signed.{IsGranted, IsSigningFor}
use Rattle.authn_core.specs.Answers.{applicable_ids}
use Rattle.authn_core.specs.Answers.{is_excluded, is_full}

-- ---- turns keep a state ready and its rows lawful, and no more is pending than there is room for

-- ---- rows

-- a row that is found passes, and has what all rows have
pub found : (P : Row → Type 0) (q : Row → Bool) (rows : List Row) → AllByRecursion P rows
    → IfSome (find q rows) (λ r. P r × (q r ≡ true))
found P q [] a = tt
found P q (x ∷ rows) a = grind (arith, found P q rows)

pub all_along : {X : Type 0} (P Q : X → Type 0) (l : List X) → ((x : X) → P x → Q x) → AllByRecursion P l
    → AllByRecursion Q l
all_along P Q [] f h = tt
all_along P Q (x ∷ l) f h = (f x h.0, all_along P Q l f h.1)

listed_all : (P : List ℕ → Type 0) (rp : List ℕ) (rows past : List Row)
    → AllByRecursion (λ r. bytes_eq r.rp rp ≡ true → P r.id) rows
    → AllByRecursion P (ids past) → AllByRecursion P (ids (reverse (filter (is_listed rp) rows) ++ past))
listed_all P rp [] past h a = a
listed_all P rp (r ∷ rows) past h a =
    grind (arith, common_steps, listed_all P rp rows past h.1, listed_all P rp rows (r ∷ past) h.1)

-- What holds of each row of the RP holds of those that may sign.
pub applicable_all : (P : List ℕ → Type 0) (rows : List Row) (rp : List ℕ) (given : Bool) (allow : List (List ℕ))
    → AllByRecursion (λ r. bytes_eq r.rp rp ≡ true → P r.id) rows
    → AllByRecursion P (ids (applicable_rows rows rp given allow))
applicable_all P rows rp false l h = rw append-nil at (listed_all P rp rows [] h tt)
applicable_all P rows rp true [] h = tt
applicable_all P rows rp true (id ∷ l) h =
    grind
    (arith, applicable_all P rows rp true l h, found (λ r. bytes_eq r.rp rp ≡ true → P r.id) (is_named rp id) rows)

all_there : (rows : List Row) → AllByRecursion (λ r. is_some (find (has_id r.id) rows) ≡ true) rows
all_there [] = tt
all_there (r ∷ rows) = (grind (arith, same_bytes), all_along _ _ rows (λ x e. grind arith) (all_there rows))

pub applicable_there : (rows : List Row) (rp : List ℕ) (given : Bool) (allow : List (List ℕ))
    → AllHaveRows rows (ids (applicable_rows rows rp given allow))
applicable_there rows rp given allow = applicable_all _ rows rp given allow
    (all_along _ _ rows (λ r h _. h) (all_there rows))

-- in rows that stand apart, no later row has the id
apart : (id : List ℕ) (x : Row) (rows : List Row) → has_id id x ≡ true → list_any (same_id x) rows ≡ false
    → find (has_id id) rows ≡ None
apart id x [] e h = refl
apart id x (s ∷ rows) e h = grind (arith, bytes_eq-Decides, apart id x rows)

-- in rows that stand apart, each is found by its id
pub all_found : (rows : List Row) → no_two same_id rows ≡ true
    → AllByRecursion (λ r. find (has_id r.id) rows ≡ Some r) rows
all_found [] d = tt
all_found (x ∷ rows) d = grind (arith, all_along, apart, same_bytes, all_found rows)

-- Raising raises the one counter, and changes nothing else.
pub find_raised : (q id : List ℕ) (rows : List Row)
    → find (has_id q) (rows_incremented id rows) ≡ option_map (λ r. cond (bytes_eq q id) (record r { counter = r.counter + 1 }) r)
    (find (has_id q) rows)
find_raised q id [] = refl
find_raised q id (r ∷ rows) = grind (arith, bytes_eq-Decides, find_raised q id rows)

-- ---- turns

pub pending_raised : (id : List ℕ) (rows : List Row) (p : Option PendingAssertions) → PendingReady rows p
    → PendingReady (rows_incremented id rows) p
pending_raised id rows p h = grind (arith, all_along, find_raised)

-- What holds of the rows after each change of them holds after a turn.
rows_case : (P : List Row → Type 0) (u : Setup) (s : State) (t : ℕ) (e : Event) → WorkReady u.capacity s.rows s.work
    → P s.rows → P []
    → ((id : List ℕ) → P (rows_incremented id s.rows)) → ((m : MakeState) (key : NewKey) → (has_capacity u.capacity m s.rows ≡ true)
    × (is_some (find (has_id key.id) s.rows) ≡ false) → P (rows_with (new_row m key) s.rows)) → P (turn u s t e).state.rows
unfolding turn
rows_case P u s t e w h none raise make = grind arith

turn_lawful : (u : Setup) (s : State) (t : ℕ) (e : Event) → Ready u.capacity s → ValidRows u.capacity s.rows
    → ValidRows u.capacity (turn u s t e).state.rows
turn_lawful u s t e r h =
    rows_case (ValidRows u.capacity) u s t e r.work h (record { distinct = refl; one_each = refl; few = omega arith })
    (λ id. Lawful-raised u.capacity id _ h)
    (λ m key f. Lawful-stored u.capacity (new_row m key) s.rows h (grind arith) (grind (arith, one_replaced)))

requested_keeps : (u : Setup) (rows : List Row) (p : Option PendingAssertions) (t cid : ℕ) (read : Result ParsedRequest ℕ)
    → PendingReady rows p
    → let x = (request_turn u rows p t cid read).state in
    Ready u.capacity x × (length rows ≤ u.capacity → pending_count p ≤ u.capacity →
    pending_count x.pending ≤ u.capacity)
requested_keeps u rows p t cid (Ok (GetAssertion hash rp_id allow up)) h =
    let all = applicable_there rows (sha256 rp_id) (has_entries allow) (ids_of allow) in
    let few : length rows ≤ u.capacity →
    length (ids (applicable_rows rows (sha256 rp_id) (has_entries allow) (ids_of allow))) ≤ u.capacity + 1
    = λ l. grind (arith, length-map, length-reverse, length-filter) in
    (grind (arith, find_raised, pending_raised), λ l _. grind arith)
requested_keeps u rows p t cid read h = (grind (arith, find_raised, pending_raised), λ l f. grind arith)

pub turn_keeps : (u : Setup) (s : State) (t : ℕ) (e : Event) → Ready u.capacity s
    → let x = (turn u s t e).state in Ready u.capacity x
    × (ValidRows u.capacity s.rows → ValidRows u.capacity x.rows × (pending_count s.pending ≤ u.capacity →
    pending_count x.pending ≤ u.capacity))
unfolding turn
turn_keeps u s t (Request cid bytes) h =
    let r = requested_keeps u s.rows s.pending t cid (read_of bytes) h.pending in
    (r.0, λ l. (turn_lawful u s t (Request cid bytes) h l, λ f. r.1 l.few f))
turn_keeps u s t reply h =
    (grind (arith, find_raised, pending_raised), λ l. (turn_lawful u s t reply h l, λ f. grind arith))

-- ---- histories

-- what holds of the authenticator after every history
pub record Sound (start k : CoreState) : Type 0 where
  pub setup : k.setup ≡ start.setup
  pub ready : Ready k.setup.capacity k.state
  pub lawful : ValidRows k.setup.capacity k.state.rows
  pub few : pending_count start.state.pending ≤ start.setup.capacity → pending_count k.state.pending ≤ k.setup.capacity

pub core_sound : (start : CoreState) (h : List TimedEvent) → Ready start.setup.capacity start.state
    → ValidRows start.setup.capacity start.state.rows
    → Sound start (core_at start h)
unfolding core_at
core_sound start [] r l = record { setup = refl; ready = r; lawful = l; few = λ f. f }
core_sound start (x ∷ past) r l = search (rules, arith, turn_keeps, core_sound start past r l)

-- The rows and the texts to sign after a history. A turn changes the rows as its mark says, and marks one after another
-- leave what the filters name. A text to sign that a turn adds is what is to be signed, and holds a greater counter
-- than
-- all before it by the same row.

-- ---- what a mark does

pub mark_keeps : (rows : List Row) → apply_change (record { made = None; raises = None; resets = false }) rows ≡ rows
mark_keeps [] = refl
mark_keeps (r ∷ rows) = grind (arith, mark_keeps rows)

pub mark_resets : (rows : List Row) → apply_change (record { made = None; raises = None; resets = true }) rows ≡ []
mark_resets [] = refl
mark_resets (r ∷ rows) = mark_resets rows

pub mark_raises : (id : List ℕ) (rows : List Row)
    → apply_change (record { made = None; raises = Some id; resets = false }) rows ≡ rows_incremented id rows
mark_raises id [] = refl
mark_raises id (r ∷ rows) = grind (arith, mark_raises id rows)

pub mark_makes : (new : Row) (rows : List Row)
    → apply_change (record { made = Some new; raises = None; resets = false }) rows ≡ rows_with new rows
mark_makes new [] = refl
mark_makes new (r ∷ rows) = grind (arith, mark_makes new rows)

-- what is ignored leaves the work
pub raises_none : (w : Option PendingTask) → incremented_by w w ≡ None
raises_none w = grind (arith, same_bytes)

-- Every turn does to the rows what its mark says.
pub turn_marked : (u : Setup) (s : State) (t : ℕ) (e : Event) → MayFollow s.work e
    → (turn u s t e).state.rows ≡ apply_change (event_change s.work e (turn u s t e).state.work) s.rows
unfolding turn
turn_marked u s t e c = grind (arith, mark_keeps, mark_resets, mark_raises, mark_makes, raises_none)

-- ---- what marks leave

-- What is asked of a row doesn't depend on its counter.
replaced_same : (n : ℕ) (r : Row) (o : Option Row) → is_replaced_by o (record r { counter = n }) ≡ is_replaced_by o r
replaced_same n r o = grind arith

raised_same : (n : ℕ) (r : Row) (o : Option (List ℕ)) → is_incremented o (record r { counter = n }) ≡ is_incremented o r
raised_same n r o = grind arith

left_counted : (n : ℕ) (r : Row) (ms : List CredentialChange) → row_if_kept ms (record r { counter = n })
    ≡ cond (is_kept ms r) ((record r { counter = n + length (filter (λ m. is_incremented m.raises r) ms) }) ∷ []) []
left_counted n r ms = simp (replaced_same n r, raised_same n r)

-- the marks of one step and then later ones
one_left : (m : CredentialChange) (later : List CredentialChange) (r : Row) → row_if_kept (m ∷ later) r ≡ flat_map (row_if_kept later) (row_if_kept (m ∷ []) r)
one_left m later r = grind (arith, left_counted)

pub all_left : (m : CredentialChange) (later : List CredentialChange) (rows : List Row)
    → flat_map (row_if_kept (m ∷ later)) rows ≡ flat_map (row_if_kept later) (flat_map (row_if_kept (m ∷ [])) rows)
all_left m later [] = refl
all_left m later (r ∷ rows) = grind (arith, one_left, all_left m later rows)

-- no later marks leave all
pub none_later : (rows : List Row) → flat_map (row_if_kept []) rows ≡ rows
none_later [] = refl
none_later (r ∷ rows) = grind (arith, none_later rows)

-- ---- the rows after a history

-- the rows after a history, with later marks, are those that the filters name
pub rows_left : (start : CoreState) (h : List TimedEvent) (later : List CredentialChange) → Orderly start h
    → flat_map (row_if_kept later) (core_at start h).state.rows ≡ rows_among start.state.rows later (changes start h)
unfolding core_at changes Orderly rows_among
rows_left start [] later o = refl
rows_left start (x ∷ past) later o = grind (arith, all_left, flat_map-append, turn_marked, rows_left start past)

-- ---- what text a turn adds

abbrev pub signed_of : Option PendingTask → List ℕ
signed_of None = []
signed_of (Some w) = elim w.task as (λ k. List ℕ) [ AwaitAssertSignature a n d ↦ d | k ↦ [] ]

-- A text that a turn adds is of the row that it raises, with the raised counter.
pub record IsAdded (h : List CredentialChange) (rows : List Row) (s : State) (t : SignedAssertion) : Type 0 where
  pub making : t.making ≡ creation_count t.id h
  pub there : is_some (find (has_id t.id) rows) ≡ true
  pub counter : t.counter ≡ counter_of t.id rows + 1
  pub raises : s.rows ≡ rows_incremented t.id rows
  pub needed : needs s.work ≡ sign t.id (signed_of s.work)

-- Where it adds none, a state that waits for an assertion's signature is the one before.
abbrev pub Adds : (h : List CredentialChange) (before now : State) → Option SignedAssertion → Type 0
Adds h before now None = (id : List ℕ) → signs_by id now.work ≡ true → now ≡ before
Adds h before now (Some t) = IsAdded h before.rows now t

requested_adds : (h : List CredentialChange) (u : Setup) (s : State) (t cid : ℕ) (read : Result ParsedRequest ℕ)
    → PendingReady s.rows s.pending
    → let x = (request_turn u s.rows s.pending t cid read).state in
    Adds h (record s { work = None }) x (signed_after_change h (incremented_by None x.work) x.work)
requested_adds h u s t cid read p = search (rules, arith, applicable_there)

pub turn_adds : (h : List CredentialChange) (u : Setup) (s : State) (t : ℕ) (e : Event) → MayFollow s.work e → Ready u.capacity s
    → let x = (turn u s t e).state in Adds h s x (signed_after_change h (incremented_by s.work x.work) x.work)
unfolding turn
turn_adds h u s t e c r = grind (arith, raises_none, requested_adds)

-- ---- what the counters are above

-- every row with the id has a counter of at least n
abbrev pub AllAbove : List ℕ → ℕ → List Row → Type 0
AllAbove id n rows = AllByRecursion (λ r. has_id id r ≡ true → n ≤ r.counter) rows

-- a mark that makes no row of the id lowers none of its counters
above_marked : (id : List ℕ) (n : ℕ) (m : CredentialChange) (rows : List Row) → creates_id id m ≡ false → AllAbove id n rows
    → AllAbove id n (apply_change m rows)
above_marked id n m [] e h = grind arith
above_marked id n m (r ∷ rows) e h = grind (arith, above_marked id n m rows e h.1)

-- A text is of an earlier making, or the rows with its id are above it.
pub record Bounded (h : List CredentialChange) (rows : List Row) (t : SignedAssertion) : Type 0 where
  pub earlier : t.making ≤ creation_count t.id h
  pub above : t.making ≡ creation_count t.id h → AllAbove t.id t.counter rows

bounded_more : (h : List CredentialChange) (rows : List Row) (m : CredentialChange) (t : SignedAssertion) → Bounded h rows t
    → Bounded (m ∷ h) (apply_change m rows) t
bounded_more h rows m t b = grind (arith, above_marked)

new_above : (h : List CredentialChange) (rows : List Row) (id : List ℕ) (ts : List SignedAssertion) → is_some (find (has_id id) rows) ≡ true
    → AllByRecursion (Bounded h rows) ts →
    exceeds_all (record { id = id; making = creation_count id h; counter = counter_of id rows + 1 }) ts ≡ true
new_above h rows id [] e b = refl
new_above h rows id (t ∷ ts) e b =
    let counters = found (λ r. has_id t.id r ≡ true → t.counter ≤ r.counter) (has_id id) rows in
    grind (arith, bytes_eq-Decides, new_above h rows id ts e b.1)

-- ---- what holds of the texts of every history

-- `work` is that of the start.
pub record Tells (work : Option PendingTask) (h : List CredentialChange) (s : State) (ts : List SignedAssertion) : Type 0 where
  pub bounded : AllByRecursion (Bounded h s.rows) ts
  pub rise : counters_increase ts ≡ true
  pub newest : work ≡ None → (id : List ℕ) → signs_by id s.work ≡ true → IsNewest ts s

text_is : (h : List CredentialChange) (rows : List Row) (s : State) (t : SignedAssertion) → IsAdded h rows s t → IsPendingSignature t s
text_is h rows s t a = grind (arith, find_raised, same_bytes)

tells_more : (work : Option PendingTask) (h : List CredentialChange) (s x : State) (m : CredentialChange) (o : Option SignedAssertion) (ts : List SignedAssertion)
    → x.rows ≡ apply_change m s.rows → no_two same_id x.rows ≡ true → Adds h s x o → Tells work h s ts
    → Tells work (m ∷ h) x (option_to_list o ++ ts)
tells_more work h s x m None ts e d a b = grind (arith, all_along, bounded_more)
tells_more work h s x m (Some t) ts e d a b = record {
  bounded =
      let above = all_along _ _ x.rows (λ r f k. grind (arith, bytes_eq-Decides, find_raised)) (all_found x.rows d) in
      (record { earlier = grind arith; above = λ _. above }, all_along _ _ ts (λ t q. rw e (bounded_more h s.rows m t q)) b.bounded);
  rise = grind (arith, new_above h s.rows t.id ts a.there b.bounded);
  newest = λ _ _ _. record { text = t; past = ts; first = refl; told = text_is h s.rows x t a };
}

pub history_tells : (start : CoreState) (h : List TimedEvent) → Ready start.setup.capacity start.state
    → ValidRows start.setup.capacity start.state.rows
    → Orderly start h → Tells start.state.work (changes start h) (core_at start h).state (signed_assertions start h)
unfolding core_at changes signed_assertions Orderly
history_tells start [] r l o = record { bounded = tt; rise = refl; newest = λ n id w. grind arith }
history_tells start (x ∷ past) r l o =
    let k = core_at start past in
    tells_more start.state.work (changes start past) k.state (core_after k x.at x.event).state _ _ (signed_assertions start past)
    (turn_marked k.setup k.state x.at x.event o.0) (core_sound start (x ∷ past) r l).lawful.distinct
    (turn_adds (changes start past) k.setup k.state x.at x.event o.0 (core_sound start past r l).ready)
    (history_tells start past r l o.1)

-- texts that rise differ
none_same : (t : SignedAssertion) (ts : List SignedAssertion) → exceeds_all t ts ≡ true → list_any (is_same_assertion t) ts ≡ false
none_same t [] h = refl
none_same t (x ∷ ts) h = grind (arith, none_same t ts)

pub rise_differ : (ts : List SignedAssertion) → counters_increase ts ≡ true → all_differ ts ≡ true
rise_differ [] h = refl
rise_differ (t ∷ ts) h = grind (arith, none_same, rise_differ ts)

pub told : (h : List CredentialChange) (before now : State) (o : Option SignedAssertion) (ts : List SignedAssertion) (t : SignedAssertion) → Adds h before now o
    → option_to_list o ++ ts ≡ t ∷ ts → IsPendingSignature t now
told h before now None ts t a e = absurd (let n : length ts ≡ length (t ∷ ts) = ap length e in omega arith)
told h before now (Some x) ts t a e = subst (λ v. IsPendingSignature v now) (cc) (text_is h before.rows now x a)

-- ---- every turn keeps what is to be signed that of the newest request, and a signature is answered with what was signed

-- ---- turns

pending_raised_signed : (asked : Option ParsedRequest) (id : List ℕ) (rows : List Row) (p : Option PendingAssertions) → PendingFor asked rows p
    → PendingFor asked (rows_incremented id rows) p
pending_raised_signed asked id rows p h = grind (arith, all_along, find_raised)

begins_signs : (aaguid : List ℕ) (h : LatestRequests) (rows : List Row) (t cid : ℕ) (hash rp : List ℕ) (up given : Bool)
    (l : List (List ℕ))
    → assertion_asked h.asked ≡ Some (record { rp = rp; presence = up; hash = hash }) → AreRpCredentials rp rows l
    → IsSigningFor aaguid h (assertion_turn rows t cid hash rp up given l).state
begins_signs aaguid h rows t cid hash rp up given l c a =
    grind (arith, nat_tests, find_raised, pending_raised_signed, same_bytes)

requested_signs : (u : Setup) (h : LatestRequests) (rows : List Row) (p : Option PendingAssertions) (t cid : ℕ) (read : Result ParsedRequest ℕ)
    → no_two same_id rows ≡ true → PendingFor h.asked rows p → IsGranted h.granted p
    → IsSigningFor u.aaguid (with_request h read) (request_turn u rows p t cid read).state
requested_signs u h rows p t cid (Ok (GetAssertion hash rp_id allow up)) d f k =
    let rp = sha256 rp_id in
    let all = applicable_all (λ id. rp_id_hash_of id rows ≡ Some rp) rows rp (has_entries allow) (ids_of allow)
    (all_along _ _ rows (λ r f e. grind (arith, bytes_eq-Decides)) (all_found rows d)) in
    begins_signs u.aaguid _ rows t cid hash rp up _ _ refl all
requested_signs u h rows p t cid read d f k = grind (arith, find_raised, same_bytes, pending_raised_signed)

-- Every turn keeps the invariant, where a request comes only while no work waits.
pub turn_signs : (u : Setup) (s : State) (t : ℕ) (e : Event) (h : LatestRequests) → MayFollow s.work e → ValidRows u.capacity s.rows
    → IsSigningFor u.aaguid h s → IsSigningFor u.aaguid (with_event e h) (turn u s t e).state
unfolding turn
turn_signs u s t e h c l g = grind (arith, find_raised, pending_raised_signed, requested_signs, same_bytes)

-- ---- histories

pub signs_at : (start : Start) (h : List TimedEvent) → ValidRows start.capacity start.rows → Orderly (first_state start) h
    → IsSigningFor start.aaguid (requests_of h) (core_at (first_state start) h).state
unfolding core_at requests_of Orderly
signs_at start [] l o = record { pending = tt; granted = tt; work = tt }
signs_at start (x ∷ past) l o =
    let k = core_at (first_state start) past in
    let s = core_sound (first_state start) past (record { pending = tt; work = tt }) l in
    rw s.setup (turn_signs (first_state start).setup k.state x.at x.event (requests_of past) o.0 (rw s.setup at s.lawful)
    (signs_at start past l o.1))

-- A signature is answered with what was to be signed, by what was asked and what waits.
task_answers : (u : Setup) (s : State) (t : ℕ) (asked : Option ParsedRequest) (granted : Bool) (keys : List NewKey) (cid : ℕ)
    (k : Task)
    (id signed sig : List ℕ) → TaskSignsFor u.aaguid (record { asked = asked; granted = granted; keys = keys }) s.rows k
    → needs (Some (record { cid = cid; task = k })) ≡ sign id signed
    → IsSigned u.aaguid (Some (record { cid = cid; task = k })) id signed sig
    (task_reply_turn u s t cid k (SignatureIs (Some sig))).answer asked
task_answers u s t (Some (GetAssertion hash rp_id allow up)) granted keys cid (AwaitAssertSignature a n d) id signed sig w e =
    (assertion_bytes a.rp a.presence n, user_handle_in (find (has_id a.id) s.rows), a.number, grind arith, grind arith)
task_answers u s t (Some (MakeCredential hash rp_id user_id user_name discoverable exclude)) granted keys cid
    (AwaitMakeSignature m key d) id signed sig w e =
    (new_row m key, refl, grind arith, refl, grind arith)
task_answers u s t asked granted keys cid k id signed sig w e = grind arith

pub work_answers : (u : Setup) (s : State) (t : ℕ) (h : LatestRequests) (v : Option PendingTask) (id signed sig : List ℕ)
    → WorkSignsFor u.aaguid h s.rows v
    → needs v ≡ sign id signed → IsSigned u.aaguid v id signed sig (reply_turn u s t v (SignatureIs (Some sig))).answer
    h.asked
work_answers u s t h None id signed sig w e = cc
work_answers u s t h (Some v) id signed sig w e = task_answers u s t h.asked h.granted h.keys v.cid v.task id signed sig
    w e

-- ---- each answer of a turn is the one that what happened before it names

-- ---- rows

-- the rows with later marks, and with one mark more
rows_later : (start : List Row) (later h : List CredentialChange) →
    rows_among start later h ≡ flat_map (row_if_kept later) (rows_after_changes start h)
unfolding rows_among
rows_later start later [] = ap (flat_map (row_if_kept later)) (sym (none_later start))
rows_later start later (m ∷ past) = rw (rows_later start (m ∷ []) past, rows_later start (m ∷ later) past)
    (grind (arith, flat_map-append, all_left, none_later))

pub rows_marked : (start : List Row) (m : CredentialChange) (h : List CredentialChange) → rows_after_changes start (m ∷ h) ≡ apply_change m (rows_after_changes start h)
unfolding rows_among
rows_marked start m h = rw (rows_later start (m ∷ []) h) (grind arith)

-- ---- tests of rows

pub any_find : (q : Row → Bool) (rows : List Row) → is_some (find q rows) ≡ list_any q rows
any_find q [] = refl
any_find q (r ∷ rows) = grind (arith, any_find q rows)

any_false : {X : Type 0} (xs : List X) → list_any (λ x. false) xs ≡ false
any_false [] = refl
any_false (x ∷ xs) = any_false xs

-- an id names a row of the RP where a row of the RP has one of the ids
named_first : (rp id : List ℕ) (ids : List (List ℕ)) (rows : List Row)
    → is_excluded rows rp (id ∷ ids) ≡ (is_some (find (is_named rp id) rows) || is_excluded rows rp ids)
named_first rp id ids [] = refl
named_first rp id ids (r ∷ rows) = grind (arith, named_first rp id ids rows)

none_named : (rp : List ℕ) (rows : List Row) → is_excluded rows rp [] ≡ false
none_named rp [] = refl
none_named rp (r ∷ rows) = grind (arith, none_named rp rows)

pub excluded_named : (rp : List ℕ) (rows : List Row) (ids : List (List ℕ)) →
    has_listed_credential rp rows ids ≡ is_excluded rows rp ids
excluded_named rp rows [] = sym (none_named rp rows)
excluded_named rp rows (id ∷ ids) = rw (named_first rp id ids rows, excluded_named rp rows ids) refl

-- a row is replaced where one of the RP and user is found
replaced_found : (rp user : List ℕ) (discoverable : Bool) (rows : List Row)
    → list_any (replaces_credential rp user discoverable) rows ≡ (discoverable && is_some (find (is_user rp user) rows))
replaced_found rp user false rows = any_false rows
replaced_found rp user true [] = refl
replaced_found rp user true (r ∷ rows) = grind (arith, replaced_found rp user true rows)

pub full_fits : (capacity : ℕ) (m : MakeState) (rows : List Row)
    → has_capacity capacity m rows ≡ not (is_full capacity rows m.rp m.user m.discoverable)
full_fits capacity m rows = rw (replaced_found m.rp m.user m.discoverable rows) (grind arith)

-- ---- who signs

named_one : (rp id : List ℕ) (rows : List Row)
    → map (λ (r : Row). r.id) (option_to_list (find (is_named rp id) rows))
    ≡ cond (list_any (λ r. bytes_eq r.rp rp && bytes_eq r.id id) rows) (id ∷ []) []
named_one rp id [] = refl
named_one rp id (r ∷ rows) = grind (arith, bytes_eq-Decides, named_one rp id rows)

first_named : (rp : List ℕ) (rows : List Row) (ids : List (List ℕ))
    → map (λ (r : Row). r.id) (option_to_list (find_allowed rp rows ids))
    ≡ take 1 (filter (λ id. list_any (λ r. bytes_eq r.rp rp && bytes_eq r.id id) rows) ids)
first_named rp rows [] = refl
first_named rp rows (id ∷ ids) = grind (arith, named_one rp id rows, first_named rp rows ids)

pub signers_apply : (rows : List Row) (rp : List ℕ) (given : Bool) (allow : List (List ℕ))
    → map (λ (r : Row). r.id) (applicable_rows rows rp given allow) ≡ applicable_ids rows rp given allow
signers_apply rows rp given allow = search (rules, arith, first_named)
