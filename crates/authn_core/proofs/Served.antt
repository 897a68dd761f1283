-- What is pending is what the history names, and so is each response to a request.
use Rattle.std.proofs.Common.{◌≡◌, ℕ, ◌+◌, List, [], ◌∷◌, drop, length, Bool, true, false, ◌&&◌, cond, Option, Some}
use Rattle.std.proofs.Common.{None, refl, arith, rules, ◌==◌, nat_le, if◌then◌else◌, zero, suc, slice_get, option_map}
use Rattle.std.proofs.Common.{Result, Ok, Err, sym, ap, ◌∙◌}
use Rattle.std.specs.List.{list_all, find}
use Rattle.cred_table.specs.declared.row.Row.{Row}
use Rattle.cred_table.specs.Rows.{new_pending}
use Rattle.cred_table.specs.Rows.{counter_of, rows_incremented, has_id, same_id, no_two}
use Rattle.cred_table.proofs.Chain.{same_bytes}
use Rattle.ctap_message.specs.Requests.{ParsedRequest, MakeCredential, GetAssertion, Reset, GetNextAssertion, Selection}
use Rattle.ctap_message.specs.Requests.{GetInfo}
use Rattle.ctap_message.specs.Members.{ids_of}
use Rattle.authn_core.specs.declared.replies.Presence.TheVariants.{Granted}
use Rattle.authn_core.specs.Turn.{TaskReady, AllHaveRows}
use Rattle.authn_core.specs.Signed.{AreRpCredentials, rp_id_hash_of}
use Rattle.authn_core.specs.State.{AssertState, Task, AwaitResetPresence, AwaitSelectionPresence, AwaitMakePresence}
use Rattle.authn_core.specs.State.{AwaitKeyPair, AwaitMakeSignature, AwaitAssertPresence, AwaitAssertSignature}
use Rattle.authn_core.specs.State.{PendingTask, State, Event, PresenceIs, KeyIs, SignatureIs, Answer, Waits, Ignored}
use Rattle.authn_core.specs.State.{status, await_reply, TurnResult, await_signature, respond_refusal}
use Rattle.authn_core.specs.Turn.{new_make_state, has_listed_credential}
use Rattle.authn_core.specs.Turn.{Start, first_state, task_reply_turn, request_turn}
use Rattle.authn_core.specs.Marks.{CredentialChange, apply_change}
use Rattle.authn_core.specs.Answers.{Exchange, PendingRequest, rows_after, begin_pending_request}
use Rattle.authn_core.specs.Answers.{AssertionSeries, applicable_ids, continues_series, answers_assertion}
use Rattle.authn_core.specs.Answers.{answered_assertions, assertion_for, new_series, is_get_next_assertion}
use Rattle.authn_core.specs.Answers.{number_of_applicable, assertion_by, next_assertion, is_in_time}
use Rattle.authn_core.specs.Answers.{may_continue_series, latest_series}
use Rattle.authn_core.specs.Answers.{new_credential, created_credential, reply_answer, incremented_credential}
use Rattle.authn_core.specs.Answers.{is_reset_granted, requested_assertion, status_response, presence_needed}
use Rattle.authn_core.specs.Answers.{still_processing, begin_assertion_answer, request_answer}
use Rattle.authn_core.proofs.Histories.{any_find, excluded_named, full_fits, mark_keeps, mark_resets, mark_raises}
use Rattle.authn_core.proofs.Histories.{mark_makes, all_along, find_raised, signers_apply, all_found, applicable_all}
use Rattle.authn_core.proofs.Histories.{applicable_there}
use Rattle.std.proofs.lemmas.Slice.Eq.{bytes_eq-Decides}
use Rattle.std.specs.Option.{option_or}
use Rattle.ctap_message.specs.Members.{has_entries}
use Rattle.authn_core.specs.declared.refusal.Refusal.{Refusal}
use Rattle.authn_core.specs.Turn.{assertion_turn, sign_pending_row, next_assertion_turn}
use Rattle.sha2.specs.Sha256.{sha256}

-- What a state holds is what happened before it, and a reply keeps it so: each answer to a reply is the one that what
-- happened names.

-- ---- what holds between turns

-- what waits is for the request that isn't answered yet, after the replies that it took
abbrev pub TaskTold : List Row → Task → ParsedRequest → (took : List Event) → Option AssertState → Type 0
TaskTold rows AwaitResetPresence Reset [] a = a ≡ None
TaskTold rows AwaitSelectionPresence Selection [] a = a ≡ None
TaskTold rows (AwaitMakePresence m excluded) (MakeCredential hash rp_id user_id user_name rk exclude) [] a =
    (a ≡ None) × (m ≡ new_make_state hash rp_id user_id user_name rk) × (excluded ≡ has_listed_credential m.rp rows (ids_of exclude))
TaskTold rows (AwaitKeyPair m) (MakeCredential hash rp_id user_id user_name rk exclude) (PresenceIs reply ∷ []) a =
    (a ≡ None) × (m ≡ new_make_state hash rp_id user_id user_name rk)
TaskTold rows (AwaitMakeSignature m key signed) (MakeCredential hash rp_id user_id user_name rk exclude)
    (KeyIs (Some k) ∷ took) a =
    (a ≡ None) × (m ≡ new_make_state hash rp_id user_id user_name rk) × (key ≡ k)
TaskTold rows (AwaitAssertPresence x) (GetAssertion hash rp_id allow true) [] a = a ≡ Some x
TaskTold rows (AwaitAssertSignature x counter signed) (GetAssertion hash rp_id allow false) [] a =
    (a ≡ Some x) × (counter ≡ counter_of x.id rows)
TaskTold rows (AwaitAssertSignature x counter signed) (GetAssertion hash rp_id allow up) (PresenceIs reply ∷ took) a =
    (a ≡ Some x) × (counter ≡ counter_of x.id rows)
TaskTold rows (AwaitAssertSignature x counter signed) GetNextAssertion [] a = (a ≡ Some x) × (counter ≡ counter_of x.id rows)
TaskTold rows task asked took a = ⊥

abbrev pub JobTold : List Row → Option PendingTask → (cid await_reply : ℕ) → ParsedRequest → (took : List Event) → Option AssertState →
    Type 0
JobTold rows None cid await_reply asked took a = ⊥
JobTold rows (Some work) cid await_reply asked took a =
    (work.cid ≡ cid) × (status work.task ≡ await_reply) × TaskTold rows work.task asked took a

abbrev pub WorkTold : Start → List Row → Option PendingTask → Option PendingRequest → Type 0
WorkTold start rows work None = work ≡ None
WorkTold start rows work (Some u) = JobTold rows work u.cid u.status u.asked u.took
    (assertion_for start u.before u.asked)

-- ---- replies

pub reply_answers : (start : Start) (s : State) (at cid : ℕ) (task : Task) (asked : ParsedRequest) (took : List Event)
    (a : Option AssertState) (e : Event)
    → TaskTold s.rows task asked took a
    → (task_reply_turn (first_state start).setup s at cid task e).answer ≡ reply_answer start s.rows a asked took e
reply_answers start s at cid task asked took a e h = grind (arith, excluded_named, full_fits, any_find)

abbrev pub made_by_reply : ParsedRequest → (took : List Event) → (reply : Event) → Option Row
made_by_reply asked took (SignatureIs (Some sig)) = new_credential asked took
made_by_reply asked took reply = None

pub made_same : (u : PendingRequest) (e : Event) → created_credential (Some u) e ≡ made_by_reply u.asked u.took e
made_same u e = grind arith

pub reply_rows : (start : Start) (s : State) (at cid : ℕ) (task : Task) (asked : ParsedRequest) (took : List Event)
    (a : Option AssertState) (e : Event)
    → TaskTold s.rows task asked took a
    → let t = task_reply_turn (first_state start).setup s at cid task e in
    t.state.rows ≡ apply_change
    (record { made = made_by_reply asked took e; raises = incremented_credential a t.answer; resets = is_reset_granted asked e })
    s.rows
reply_rows start s at cid task asked took a e h = grind (arith, mark_keeps, mark_resets, mark_raises, mark_makes)

-- what waits after a reply with this answer
abbrev pub StillTold : List Row → Option PendingTask → (cid await_reply : ℕ) → ParsedRequest → (took : List Event) →
    Option AssertState →
    Event → Answer → Type 0
StillTold rows work cid await_reply asked took a e (Waits now) = JobTold rows work cid now asked (e ∷ took) a
StillTold rows work cid await_reply asked took a e Ignored = JobTold rows work cid await_reply asked took a
StillTold rows work cid await_reply asked took a e answer = work ≡ None

pub reply_waits : (start : Start) (s : State) (at cid : ℕ) (task : Task) (asked : ParsedRequest) (took : List Event)
    (a : Option AssertState) (e : Event)
    → TaskTold s.rows task asked took a → s.work ≡ Some (record { cid = cid; task = task }) →
    TaskReady start.capacity s.rows task
    → let t = task_reply_turn (first_state start).setup s at cid task e in
    StillTold t.state.rows t.state.work cid (status task) asked took a e t.answer
reply_waits start s at cid task asked took a e h w r = grind (arith, find_raised, same_bytes)

-- ---- what is pending

abbrev pub busy : Option PendingTask → ℕ
busy None = 0
busy (Some work) = 1

-- the time runs from the latest assertion
abbrev pub IsLatest : Option PendingTask → (moment : ℕ) → List Exchange → Type 0
IsLatest (Some work) moment done = Unit {0}
IsLatest None moment [] = ⊥
IsLatest None moment (x ∷ older) = moment ≡ x.at

abbrev pub is_assertion : Task → Bool
is_assertion (AwaitAssertPresence a) = true
is_assertion (AwaitAssertSignature a counter signed) = true
is_assertion task = false

abbrev pub Asserts : Option PendingTask → Type 0
Asserts None = Unit {0}
Asserts (Some work) = is_assertion work.task ≡ true

-- of the ids, those are pending that follow the answered ones and the one that is waited for
pub record Going (cid : ℕ) (hash rp : List ℕ) (presence : Bool) (all : List (List ℕ)) (done : List Exchange)
    (s : State) : Type 0 where
  pub moment : ℕ
  pub ids : s.pending ≡ new_pending cid hash presence moment (drop (length done + busy s.work) all)
  pub each : AreRpCredentials rp s.rows (drop (length done + busy s.work) all)
  pub latest : IsLatest s.work moment done
  pub work : Asserts s.work

-- of a series that goes on, else nothing is pending
abbrev pub GoingOrNot : Bool → (cid : ℕ) → (hash rp : List ℕ) → Bool → List (List ℕ) → List Exchange → State → Type 0
GoingOrNot true cid hash rp presence all done s = Going cid hash rp presence all done s
GoingOrNot false cid hash rp presence all done s = s.pending ≡ None

abbrev pub PendingTold : Start → State → Option AssertionSeries → Type 0
PendingTold start s None = s.pending ≡ None
PendingTold start s (Some x) = GoingOrNot (list_all (λ y. continues_series y.event y.answer) x.since) x.cid x.hash x.rp
    x.presence
    (applicable_ids (rows_after start x.before) x.rp x.given x.allow) (answered_assertions x) s

pub all_raised : (rp id : List ℕ) (rows : List Row) (ids : List (List ℕ)) → AreRpCredentials rp rows ids →
    AreRpCredentials rp (rows_incremented id rows) ids
all_raised rp id rows ids h = all_along _ _ ids (λ q e. grind (arith, find_raised)) h

pub reply_goes : (start : Start) (s : State) (at on : ℕ) (task : Task) (e : Event) (b : Bool) (cid : ℕ)
    (hash rp : List ℕ) (presence : Bool)
    (all : List (List ℕ)) (done : List Exchange) (m : CredentialChange)
    → s.work ≡ Some (record { cid = on; task = task }) → GoingOrNot b cid hash rp presence all done s
    → let t = task_reply_turn (first_state start).setup s at on task e in
    let x : Exchange = record { at = at; event = e; answer = t.answer; did = m } in
    GoingOrNot (continues_series e t.answer && b) cid hash rp presence all (cond (answers_assertion e t.answer) (x ∷ done) done)
    t.state
reply_goes start s at on task e false cid hash rp presence all done m w g = grind arith
reply_goes start s at on (AwaitAssertPresence a) (PresenceIs Granted) true cid hash rp presence all done m w g =
    let d : drop (length done + 1) all ≡ drop (length done + busy s.work) all = rw w refl in
    record {
      moment = g.moment;
      ids = rw d g.ids;
      each = rw d (all_raised rp a.id s.rows _ g.each);
      latest = tt;
      work = refl;
    }
reply_goes start s at on (AwaitAssertSignature a counter signed) (SignatureIs (Some sig)) true cid hash rp presence all done m w
    g = grind arith
reply_goes start s at on task e true cid hash rp presence all done m w g = grind arith

-- ---- each answer to a request is the one that what happened names, and what waits and is pending is then as it says

-- ---- requests

abbrev pub assertion_of_read : Start → List Exchange → Result ParsedRequest ℕ → Option AssertState
assertion_of_read start past (Ok asked) = assertion_for start past asked
assertion_of_read start past (Err code) = None

pub asked_read : (start : Start) (past : List Exchange) (cid status : ℕ) (read : Result ParsedRequest ℕ)
    → requested_assertion start (begin_pending_request cid status past read) ≡ assertion_of_read start past read
asked_read start past cid status read = search (rules, arith)

-- what waits after a request with this answer
abbrev pub BeginsTold : List Row → Option PendingTask → (cid : ℕ) → Result ParsedRequest ℕ → Option AssertState → Answer → Type 0
BeginsTold rows work cid (Ok asked) a (Waits now) = JobTold rows work cid now asked [] a
BeginsTold rows work cid read a answer = work ≡ None

pub begins_answers : (rows : List Row) (at cid : ℕ) (hash rp : List ℕ) (presence given : Bool) (ids : List (List ℕ))
    → (assertion_turn rows at cid hash rp presence given ids).answer
    ≡ begin_assertion_answer rows (status_response 0x2e) (cond presence presence_needed still_processing)
    (assertion_by hash rp presence (number_of_applicable given (length ids)) (slice_get ids 0))
begins_answers rows at cid hash rp presence given ids = grind arith

pub begins_rows : (rows : List Row) (at cid : ℕ) (hash rp : List ℕ) (presence given : Bool) (ids : List (List ℕ))
    → let t = assertion_turn rows at cid hash rp presence given ids in
    t.state.rows ≡ apply_change
    (record { made = None; raises = incremented_credential (assertion_by hash rp presence (number_of_applicable given (length ids)) (slice_get ids 0)) t.answer; resets = false }) rows
begins_rows rows at cid hash rp presence given ids = grind (arith, mark_keeps, mark_raises)

-- what is asked is an assertion, with presence or without
abbrev pub AsksWith : Bool → ParsedRequest → Type 0
AsksWith presence (GetAssertion hash rp_id allow up) = up ≡ presence
AsksWith presence asked = ⊥

pub begins_waits : (rows : List Row) (at cid : ℕ) (asked : ParsedRequest) (hash rp : List ℕ) (presence given : Bool)
    (ids : List (List ℕ))
    → AsksWith presence asked → AllHaveRows rows ids → let t = assertion_turn rows at cid hash rp presence given ids in
    BeginsTold t.state.rows t.state.work cid (Ok asked) (assertion_by hash rp presence (number_of_applicable given (length ids))
    (slice_get ids 0)) t.answer
begins_waits rows at cid asked hash rp presence given ids k h = grind (arith, find_raised, same_bytes)

-- ---- getNextAssertion

pub next_answers : (rows : List Row) (at on cid moment : ℕ) (hash rp : List ℕ) (presence : Bool) (ids : List (List ℕ)) →
    AreRpCredentials rp rows ids
    → (next_assertion_turn rows (new_pending on hash presence moment ids) at cid).answer
    ≡ cond (on == cid && nat_le at (moment + 30000)) (begin_assertion_answer rows (status_response 0x30) still_processing
    (assertion_by hash rp presence None (slice_get ids 0))) (status_response 0x30)
next_answers rows at on cid moment hash rp presence ids h = grind arith

pub next_rows : (rows : List Row) (at on cid moment : ℕ) (hash rp : List ℕ) (presence : Bool) (ids : List (List ℕ))
    → let t = next_assertion_turn rows (new_pending on hash presence moment ids) at cid in
    t.state.rows ≡ apply_change
    (record { made = None; raises = incremented_credential (assertion_by hash rp presence None (slice_get ids 0)) t.answer; resets = false }) rows
next_rows rows at on cid moment hash rp presence ids = grind (arith, mark_keeps, mark_raises)

pub next_waits : (rows : List Row) (at on cid moment : ℕ) (hash rp : List ℕ) (presence : Bool) (ids : List (List ℕ)) →
    AreRpCredentials rp rows ids
    → let t = next_assertion_turn rows (new_pending on hash presence moment ids) at cid in
    BeginsTold t.state.rows t.state.work cid (Ok GetNextAssertion) (assertion_by hash rp presence None (slice_get ids 0))
    t.answer
next_waits rows at on cid moment hash rp presence ids h = grind (arith, find_raised, same_bytes)

pub nth_drop : {X : Type 0} (n : ℕ) (xs : List X) → slice_get xs n ≡ slice_get (drop n xs) 0
nth_drop zero xs = refl
nth_drop (suc n) [] = refl
nth_drop (suc n) (x ∷ xs) = nth_drop n xs

pub drop_one : {X : Type 0} (n : ℕ) (xs : List X) → drop (suc n) xs ≡ drop 1 (drop n xs)
drop_one zero xs = refl
drop_one (suc n) [] = refl
drop_one (suc n) (x ∷ xs) = drop_one n xs

-- a request with this answer begins a series, or goes on with one
abbrev pub where_taken : Answer → Option AssertionSeries → Option AssertionSeries
where_taken (Waits status) o = o
where_taken answer o = None

abbrev pub series_begun : (cid : ℕ) → List Exchange → Result ParsedRequest ℕ → Answer → Option AssertionSeries
series_begun cid past read answer = where_taken answer (new_series cid past read)

abbrev pub next_goes_on : Result ParsedRequest ℕ → Answer → Bool
next_goes_on read (Waits status) = is_get_next_assertion read
next_goes_on read answer = false

abbrev pub since_too : Exchange → Option AssertionSeries → Option AssertionSeries
since_too y o = option_map (λ (x : AssertionSeries). record x { since = y ∷ x.since }) o

-- A request was served: its answer, what was done to the rows, what waits, and what is pending.
pub record Served (start : Start) (past : List Exchange) (before : List Row) (at cid : ℕ) (read : Result ParsedRequest ℕ)
    (t : TurnResult) : Type 0 where
  pub answer : t.answer ≡ request_answer start past at cid read
  pub rows : t.state.rows ≡ apply_change
      (record { made = None; raises = incremented_credential (assertion_of_read start past read) t.answer; resets = false }) before
  pub work : BeginsTold t.state.rows t.state.work cid read (assertion_of_read start past read) t.answer
  pub pending : (y : Exchange) → answers_assertion y.event y.answer ≡ false →
      continues_series y.event y.answer ≡ next_goes_on read t.answer
      → PendingTold start t.state (option_or (series_begun cid past read t.answer) (since_too y (latest_series past)))

abbrev pub GoesIfBegun : (cid : ℕ) (hash rp : List ℕ) (presence : Bool) (ids : List (List ℕ)) → State → Answer → Type 0
GoesIfBegun cid hash rp presence ids s (Waits status) = Going cid hash rp presence ids [] s
GoesIfBegun cid hash rp presence ids s answer = s.pending ≡ None

pub begins_if : (why : Refusal) (b up : Bool) (rows : List Row) (at cid : ℕ) (hash rp : List ℕ) (presence : Bool) (a : AssertState)
    (id : List ℕ) (ids : List (List ℕ)) → AreRpCredentials rp rows ids
    → let p = new_pending cid hash presence at ids in
    let t = if b then (if up then await_reply rows p cid (AwaitAssertPresence a) else await_signature rows p cid a) else respond_refusal rows None why
    in
    GoesIfBegun cid hash rp presence (id ∷ ids) t.state t.answer
begins_if why false up rows at cid hash rp presence a id ids h = refl
begins_if why true true rows at cid hash rp presence a id ids h = search (rules, arith)
begins_if why true false rows at cid hash rp presence a id ids h =
    record { moment = at; ids = refl; each = all_raised rp a.id rows ids h; latest = tt; work = refl }

pub begins_goes : (rows : List Row) (at cid : ℕ) (hash rp : List ℕ) (presence given : Bool) (ids : List (List ℕ)) →
    AreRpCredentials rp rows ids
    → let t = assertion_turn rows at cid hash rp presence given ids in GoesIfBegun cid hash rp presence ids t.state t.answer
begins_goes rows at cid hash rp presence given [] h = refl
begins_goes rows at cid hash rp presence given (id ∷ ids) h = search (rules, arith, begins_if)

abbrev pub waits_on : Answer → Bool
waits_on (Waits status) = true
waits_on answer = false

pub begun_pending : (start : Start) (s : State) (y : Exchange) (o : Option AssertionSeries) (answer : Answer) (x : AssertionSeries) →
    x.since ≡ []
    → (waits_on answer ≡ false → continues_series y.event y.answer ≡ false)
    → GoesIfBegun x.cid x.hash x.rp x.presence (applicable_ids (rows_after start x.before) x.rp x.given x.allow) s answer
    → PendingTold start s (option_or (where_taken answer (Some x)) (since_too y o))
begun_pending start s y o answer x e g h = grind arith

pub stops : (read : Result ParsedRequest ℕ) (answer : Answer) → waits_on answer ≡ false → next_goes_on read answer ≡ false
stops read answer h = grind arith

-- ---- what a getNextAssertion leaves pending

abbrev pub IsAsserting : Option PendingTask → Type 0
IsAsserting None = ⊥
IsAsserting (Some work) = is_assertion work.task ≡ true

-- the ids that follow, where one is signed for, else nothing
abbrev pub NextLeft : Bool → (on : ℕ) (hash rp : List ℕ) (presence : Bool) (moment : ℕ) → List (List ℕ) → State → Type 0
NextLeft true on hash rp presence moment ids s =
    (s.pending ≡ new_pending on hash presence moment ids) × AreRpCredentials rp s.rows ids × IsAsserting s.work
NextLeft false on hash rp presence moment ids s = s.pending ≡ None

pub row_if : (why : Refusal) (b : Bool) (rows : List Row) (on cid moment : ℕ) (hash rp : List ℕ) (presence : Bool) (a : AssertState)
    (ids : List (List ℕ)) → AreRpCredentials rp rows ids
    → let t = if b then await_signature rows (new_pending on hash presence moment ids) cid a else respond_refusal rows None why in
    NextLeft (waits_on t.answer) on hash rp presence moment ids t.state
row_if why true rows on cid moment hash rp presence a ids h = (refl, all_raised rp a.id rows ids h, refl)
row_if why false rows on cid moment hash rp presence a ids h = refl

pub row_left : (o : Option Row) (rows : List Row) (on cid moment : ℕ) (hash rp : List ℕ) (presence : Bool) (id : List ℕ)
    (ids : List (List ℕ)) → AreRpCredentials rp rows ids
    → let t = sign_pending_row rows (new_pending on hash presence moment ids) cid hash presence id o in
    NextLeft (waits_on t.answer) on hash rp presence moment ids t.state
row_left None rows on cid moment hash rp presence id ids h = refl
row_left (Some row) rows on cid moment hash rp presence id ids h = search (rules, arith, row_if)

pub next_if : (why : Refusal) (b : Bool) (rows : List Row) (on cid moment : ℕ) (hash rp : List ℕ) (presence : Bool) (id : List ℕ)
    (ids : List (List ℕ)) → AreRpCredentials rp rows ids
    → let t = if b then sign_pending_row rows (new_pending on hash presence moment ids) cid hash presence id
    (find (has_id id) rows) else respond_refusal rows None why in
    NextLeft (waits_on t.answer) on hash rp presence moment ids t.state
next_if why b rows on cid moment hash rp presence id ids h = search (rules, arith, row_left)

pub next_left : (rows : List Row) (at on cid moment : ℕ) (hash rp : List ℕ) (presence : Bool) (ids : List (List ℕ)) →
    AreRpCredentials rp rows ids
    → let t = next_assertion_turn rows (new_pending on hash presence moment ids) at cid in
    NextLeft (waits_on t.answer) on hash rp presence moment (drop 1 ids) t.state
next_left rows at on cid moment hash rp presence ids h = search (rules, arith, next_if)

pub one_more : (n b w : ℕ) (all : List (List ℕ)) → b ≡ 1 → w ≡ 0 → drop (n + b) all ≡ drop 1 (drop (n + w) all)
one_more n b w all e z = search (rules, arith, drop_one)

pub busy_one : (w : Option PendingTask) → IsAsserting w → busy w ≡ 1
busy_one w h = search (rules, arith)

pub asserts_so : (w : Option PendingTask) → IsAsserting w → Asserts w
asserts_so w h = search (rules, arith)

pub latest_so : (w : Option PendingTask) (moment : ℕ) (done : List Exchange) → IsAsserting w → IsLatest w moment done
latest_so w moment done h = search (rules, arith)

pub left_goes : (b : Bool) (on : ℕ) (hash rp : List ℕ) (presence : Bool) (moment : ℕ) (all : List (List ℕ))
    (done : List Exchange) (w : Option PendingTask) (s : State)
    → w ≡ None → NextLeft b on hash rp presence moment (drop 1 (drop (length done + busy w) all)) s
    → GoingOrNot (b && true) on hash rp presence all done s
left_goes true on hash rp presence moment all done w s e h =
    let d = one_more (length done) (busy s.work) (busy w) all (busy_one s.work h.2) (rw e refl) in
    record {
      moment = moment;
      ids = rw d h.0;
      each = rw d h.1;
      latest = latest_so s.work moment done h.2;
      work = asserts_so s.work h.2;
    }
left_goes false on hash rp presence moment all done w s e h = h

pub going_next : (b : Bool) (s : State) (at on cid : ℕ) (hash rp : List ℕ) (presence : Bool) (all : List (List ℕ))
    (done : List Exchange)
    → s.work ≡ None → GoingOrNot b on hash rp presence all done s
    → let t = next_assertion_turn s.rows s.pending at cid in
    GoingOrNot (waits_on t.answer && b) on hash rp presence all done t.state
going_next true s at on cid hash rp presence all done w g =
    let t = next_assertion_turn s.rows s.pending at cid in
    left_goes (waits_on t.answer) on hash rp presence g.moment all done s.work t.state w
    (rw g.ids (next_left s.rows at on cid g.moment hash rp presence _ g.each))
going_next false s at on cid hash rp presence all done w g = rw g refl

pub next_pending : (start : Start) (s : State) (at cid : ℕ) (y : Exchange) (o : Option AssertionSeries) → s.work ≡ None
    → answers_assertion y.event y.answer ≡ false
    → let t = next_assertion_turn s.rows s.pending at cid in continues_series y.event y.answer ≡ waits_on t.answer
    → PendingTold start s o → PendingTold start t.state (since_too y o)
next_pending start s at cid y o w n g p = search (rules, arith, going_next)

-- the next assertion of a series is the first of the ids that are left
pub time_of : (w : Option PendingTask) (moment : ℕ) (done : List Exchange) (at : ℕ) → w ≡ None → IsLatest w moment done
    → nat_le at (moment + 30000) ≡ is_in_time at done
time_of w moment done at e h = search (rules, arith)

pub none_taken : (answer : Answer) → where_taken answer None ≡ None
none_taken answer = grind arith

pub next_waits_on : (answer : Answer) → next_goes_on (Ok GetNextAssertion) answer ≡ waits_on answer
next_waits_on answer = grind arith

pub next_of_going : (start : Start) (s : State) (at cid : ℕ) (b : Bool) (on : ℕ) (hash rp : List ℕ) (presence : Bool)
    (all : List (List ℕ)) (done : List Exchange)
    → s.work ≡ None → GoingOrNot b on hash rp presence all done s
    → let t = next_assertion_turn s.rows s.pending at cid in
    let a = assertion_by hash rp presence None (slice_get all (length done)) in
    (t.answer ≡ cond (b && ((on == cid) && is_in_time at done)) (begin_assertion_answer s.rows (status_response 0x30) still_processing a)
    (status_response 0x30))
    × (t.state.rows ≡ apply_change (record { made = None; raises = incremented_credential a t.answer; resets = false }) s.rows)
    × BeginsTold t.state.rows t.state.work cid (Ok GetNextAssertion) a t.answer
next_of_going start s at cid false on hash rp presence all done w g = rw g (refl, sym (mark_keeps s.rows), refl)
next_of_going start s at cid true on hash rp presence all done w g =
    let n : length done + busy s.work ≡ length done = rw w (omega arith) in
    let d = ap (λ k. drop k all) n in
    let f = nth_drop (length done) all ∙ ap (λ v. slice_get v 0) (sym d) in
    rw (g.ids, f) (
      rw (← time_of s.work g.moment done at w g.latest)
          (next_answers s.rows at on cid g.moment hash rp presence _ g.each),
      next_rows s.rows at on cid g.moment hash rp presence _,
      next_waits s.rows at on cid g.moment hash rp presence _ g.each,
    )

pub next_served : (start : Start) (past : List Exchange) (s : State) (at cid : ℕ) (o : Option AssertionSeries) → s.work ≡ None →
    PendingTold start s o
    → let t = next_assertion_turn s.rows s.pending at cid in
    (t.answer ≡ cond (may_continue_series at cid o) (begin_assertion_answer s.rows (status_response 0x30) still_processing (next_assertion start o))
    (status_response 0x30))
    × (t.state.rows ≡ apply_change
    (record { made = None; raises = incremented_credential (next_assertion start o) t.answer; resets = false }) s.rows)
    × BeginsTold t.state.rows t.state.work cid (Ok GetNextAssertion) (next_assertion start o) t.answer
next_served start past s at cid None w p = rw p (refl, sym (mark_keeps s.rows), refl)
next_served start past s at cid (Some x) w p = next_of_going start s at cid _ x.cid x.hash x.rp x.presence _
    (answered_assertions x) w p

pub request_served : (start : Start) (past : List Exchange) (s : State) (at cid : ℕ) (read : Result ParsedRequest ℕ) →
    s.work ≡ None
    → s.rows ≡ rows_after start past → PendingTold start s (latest_series past) → no_two same_id s.rows ≡ true
    → Served start past s.rows at cid read (request_turn (first_state start).setup s.rows s.pending at cid read)
request_served start past s at cid (Err code) w r p d = grind (arith, mark_keeps)
request_served start past s at cid (Ok GetInfo) w r p d = grind (arith, mark_keeps)
request_served start past s at cid (Ok Selection) w r p d = grind (arith, mark_keeps)
request_served start past s at cid (Ok Reset) w r p d = grind (arith, mark_keeps)
request_served start past s at cid (Ok (MakeCredential hash rp_id user_id user_name discoverable exclude)) w r p d =
    grind (arith, mark_keeps)
request_served start past s at cid (Ok (GetAssertion hash rp_id allow presence)) w r p d =
    let rp = sha256 rp_id in let given = has_entries allow in
    let same = signers_apply s.rows rp given (ids_of allow) in
    let there = applicable_there s.rows rp given (ids_of allow) in
    let all = applicable_all (λ id. rp_id_hash_of id s.rows ≡ Some rp) s.rows rp given (ids_of allow)
    (all_along _ _ s.rows (λ r f e. grind (arith, bytes_eq-Decides)) (all_found s.rows d)) in
    record {
      answer = rw (← r, same) (begins_answers s.rows at cid hash rp presence given _);
      rows = rw (← r, same) (begins_rows s.rows at cid hash rp presence given _);
      work = rw (← r, same) (begins_waits s.rows at cid (GetAssertion hash rp_id allow presence) hash rp presence given
          _ refl (rw same at there));
      pending = λ y n g.
          let t = request_turn (first_state start).setup s.rows s.pending at cid
          (Ok (GetAssertion hash rp_id allow presence)) in
          let x : AssertionSeries = record {
            cid = cid;
            hash = hash;
            rp = rp;
            given = given;
            allow = ids_of allow;
            presence = presence;
            before = past;
            since = [];
          } in
          let goes : GoesIfBegun cid hash rp presence (applicable_ids (rows_after start past) rp given (ids_of allow)) t.state
          t.answer
          = rw (← r, same) (begins_goes s.rows at cid hash rp presence given _ (rw same at all)) in
          begun_pending start t.state y (latest_series past) t.answer x refl (λ k. g
          ∙ stops (Ok (GetAssertion hash rp_id allow presence)) t.answer k) goes;
    }
request_served start past s at cid (Ok GetNextAssertion) w r p d =
    let n = next_served start past s at cid (latest_series past) w p in
    record {
      answer = rw (← r) n.0;
      rows = n.1;
      work = n.2;
      pending = λ y k g.
          rw (none_taken (next_assertion_turn s.rows s.pending at cid).answer)
          (next_pending start s at cid y (latest_series past) w k (g
          ∙ next_waits_on (next_assertion_turn s.rows s.pending at cid).answer) p);
    }
