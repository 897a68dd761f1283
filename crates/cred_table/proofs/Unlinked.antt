-- The slot before one in a chain.
use Rattle.std.{proofs.lemmas.Grind.common_steps, proofs.lemmas.List.Folds.list_any-append, specs.List.find}
use Rattle.std.proofs.Common.{rules, ◌≡◌, ℕ, ◌<◌, List, [], ◌∷◌, ◌++◌, length, Bool, true, false, cond, ◌||◌, Option}
use Rattle.std.proofs.Common.{Some, None, option_map, refl, sym, ◌∙◌, ap, subst, arith, nat_eq, get_or, reverse, ◌&&◌}
use Rattle.std.proofs.Common.{not, ◌+◌, map, set}
use Rattle.std.proofs.Math.Bool.{or-true, and-false, and-true}
use Rattle.std.proofs.lemmas.Bool.{or_parts, and_parts, and_from}
use Rattle.cred_table.specs.declared.{slot.Slot.Slot, slot.ChainKind.ChainKind, chains.Chains.Chains, row.Row.Row}
use Rattle.cred_table.specs.declared.slot.ChainKind.TheVariants.{Next, Newer, Older}
use Rattle.cred_table.specs.Slots.{links, is_among, slot_at, numbered, points_to, before, without_slot, within, distinct, relinked}
use Rattle.cred_table.specs.Slots.{first_link, bucket}
use Rattle.cred_table.specs.Slots.{Linked, id_slots, head, slots_by_age, free_slots, row_at, rows_in}
use Rattle.cred_table.proofs.Chain.{Leads, walked, EndsWith, eq_is, link_at, length-links, Leads-set, led, eq_test}
use Rattle.cred_table.proofs.Chain.{ne_test, lt_is, has-push, Leads-split, Leads-without, Leads-distinct, has-split}
use Rattle.cred_table.proofs.Chain.{distinct-split, but_is, links-led, links-led_other, length-led, row-led, map_same}
use Rattle.cred_table.proofs.Chain.{slot_read, Holds, opened, closed, age_is, ends_newest, has-reverse}
use Rattle.std.proofs.lemmas.List.{reverse-append, length-append, length-map, get_or-set_same, get_or-set_other}

-- the slot that leads to one is the one before
pub leader_is : (slots : List Slot) (at : Option ℕ) (ks : List ℕ) (k : ℕ) → Leads (links Next slots) at ks None →
    option_map (λ (found : ℕ × Slot). found.0) (find (points_to k) (numbered slots ks)) ≡ before k ks
leader_is slots at [] k h = refl
leader_is slots at (i ∷ []) k h = grind (arith, length-links, link_at)
leader_is slots at (i ∷ j ∷ ks) k h =
    grind (arith, length-links, link_at, leader_is slots (get_or (links Next slots) i None) (j ∷ ks) k)

turned : (k j : ℕ) → nat_eq k j ≡ false → nat_eq j k ≡ false
turned k j h = grind arith

none_before : (k j : ℕ) (ks : List ℕ) → is_among k ks ≡ false → before k (j ∷ ks) ≡ None
none_before k j [] h = refl
none_before k j (i ∷ ks) h = grind (arith, none_before k i ks)

-- and what stands before ends with it
pub before_ends : (fs : List ℕ) (k : ℕ) (rs : List ℕ) → is_among k fs ≡ false → is_among k rs ≡ false →
    EndsWith fs (before k (fs ++ k ∷ rs))
before_ends [] k rs h i = let P : Option ℕ → Type 0 = λ o. EndsWith [] o in subst P (sym (none_before k k rs i)) refl
before_ends (j ∷ []) k rs h i = rw (eq_is k k refl) ([], refl)
before_ends (j ∷ l ∷ fs) k rs h i =
    let e = or_parts (nat_eq k j) (nat_eq k l || is_among k fs) h in
    let f = or_parts (nat_eq k l) (is_among k fs) e.1 in
    rw (turned k l f.0) (more (before k ((l ∷ fs) ++ k ∷ rs)) (before_ends (l ∷ fs) k rs e.1 i))
  where
    more : (o : Option ℕ) → EndsWith (l ∷ fs) o → EndsWith (j ∷ l ∷ fs) o
    more None g = cc
    more (Some p) g = (j ∷ g.0, ap (λ (ls : List ℕ). j ∷ ls) g.1)

pub before_is : {C : ℕ} (chains : Chains C) (b k : ℕ) → Linked [] chains →
    option_map (λ (found : ℕ × Slot). found.0) (find (points_to k) (numbered chains.slots (id_slots b chains))) ≡ before
    k (id_slots b chains)
before_is chains b k l = leader_is chains.slots (head b chains) (id_slots b chains) k
    (walked (length (links Next chains.slots)) (links Next chains.slots) (head b chains) (l.found b))

-- the one before stands in the chain too
pub before_has : (k : ℕ) (ks : List ℕ) (p : ℕ) → before k ks ≡ Some p → is_among p ks ≡ true
before_has k [] p h = cc
before_has k (i ∷ []) p h = cc
before_has k (i ∷ j ∷ ks) p h = grind (arith, before_has k (j ∷ ks) p)

-- Slots, links and tests, once a slot is taken out of a chain.

-- ---- tests

pub and_swap : (a b c : Bool) → ((a && b) && c) ≡ ((a && c) && b)
and_swap a b c = search (rules, arith)

pub eq_turned : (j k : ℕ) → nat_eq j k ≡ nat_eq k j
eq_turned j k = grind arith

-- ---- lists

pub has-but : (k : ℕ) (ks : List ℕ) (j : ℕ) → is_among j (without_slot k ks) ≡ (is_among j ks && not (nat_eq k j))
has-but k [] j = refl
has-but k (i ∷ ks) j = grind (arith, has-but k ks j)

pub has-front : (fs : List ℕ) (k : ℕ) (rs : List ℕ) (j : ℕ) → is_among j fs ≡ true → is_among j (fs ++ k ∷ rs) ≡ true
has-front fs k rs j h = list_any-append (nat_eq j) fs (k ∷ rs) ∙ rw h refl

pub has-rear : (fs : List ℕ) (k : ℕ) (rs : List ℕ) (j : ℕ) → is_among j rs ≡ true → is_among j (fs ++ k ∷ rs) ≡ true
has-rear fs k rs j h = list_any-append (nat_eq j) fs (k ∷ rs) ∙ rw (h, or-true (nat_eq j k)) (or-true (is_among j fs))

-- the last slot of some is there
pub within_ends : (ls : List ℕ) (o : Option ℕ) (slots : List Slot) → EndsWith ls o →
    ((j : ℕ) → is_among j ls ≡ true → j < length slots) → within o slots ≡ true
within_ends ls None slots e i = refl
within_ends ls (Some p) slots e i = lt_is p (length slots)
    (i p (ap (is_among p) e.1 ∙ (has-push p e.0 p ∙ rw (eq_is p p refl) refl)))

pub within_long : (o : Option ℕ) (a b : List Slot) → length a ≡ length b → within o b ≡ true → within o a ≡ true
within_long o a b e h = search (rules, arith)

-- where links begin is where the slots turned round end
pub starts : (to : List (Option ℕ)) (at : Option ℕ) (ks : List ℕ) → Leads to at ks None → EndsWith (reverse ks) at
starts to at [] h = subst (EndsWith []) (sym h) refl
starts to at (k ∷ ks) h = subst (EndsWith (reverse (k ∷ ks))) (sym h.0) (reverse ks, reverse-append (k ∷ []) ks)

-- a link changes in no slot of a chain
pub Leads-led : (to : List (Option ℕ)) (at : Option ℕ) (ks : List ℕ) (o next : Option ℕ) →
    ((p : ℕ) → o ≡ Some p → is_among p ks ≡ false) → Leads to at ks None → Leads (led o next to) at ks None
Leads-led to at ks o next n h = search (rules, arith, Leads-set)

-- A slot is taken out of the age chain and the chain of its id.

-- The table after it.
abbrev pub unlinked : {C : ℕ} → Chains C → ℕ → Slot → Option ℕ → Chains C
unlinked chains k slot prior = record {
  slots = relinked Older slot.newer slot.older
      (relinked Newer slot.older slot.newer (relinked Next prior slot.next chains.slots));
  heads = set chains.heads (bucket slot.row.id) (first_link prior slot.next (head (bucket slot.row.id) chains));
  free = chains.free;
  oldest = first_link slot.older slot.newer chains.oldest;
  newest = first_link slot.newer slot.older chains.newest;
}

-- The chains of the ids after it.
abbrev left : (k b : ℕ) → (ℕ → List ℕ) → ℕ → List ℕ
left k b ids c = cond (nat_eq c b) (without_slot k (ids c)) (ids c)

holds : {C : ℕ} (chains : Chains C) (k : ℕ) (prior : Option ℕ) (held spare : List ℕ) (ids : ℕ → List ℕ) →
    Holds [] chains held spare ids → is_among k held ≡ true → bucket (row_at chains.slots k).id < length chains.heads →
    prior ≡ before k (ids (bucket (row_at chains.slots k).id)) →
    Holds (k ∷ []) (unlinked chains k (slot_at chains.slots k) prior) (without_slot k held) spare
    (left k (bucket (row_at chains.slots k).id) ids)
    × ((j : ℕ) → row_at (unlinked chains k (slot_at chains.slots k) prior).slots j ≡ row_at chains.slots j)
    × (within prior chains.slots ≡ true) × (within (slot_at chains.slots k).older chains.slots ≡ true)
    × (within (slot_at chains.slots k).newer chains.slots ≡ true)
holds {C = C} chains k prior held spare ids h is_held bound is_prior = (
  record {
    aged = subst (λ (ks : List ℕ). Leads (links Newer after.slots) after.oldest ks None) (sym held_left)
        (subst (λ (to : List (Option ℕ)). Leads to after.oldest (fs ++ rs) None) (sym newers) newer_after);
    back = subst (λ (ks : List ℕ). Leads (links Older after.slots) after.newest (reverse ks) None) (sym held_left)
        (subst (λ (ks : List ℕ). Leads (links Older after.slots) after.newest ks None) (sym (reverse-append fs rs))
        (subst (λ (to : List (Option ℕ)). Leads to after.newest (reverse rs ++ reverse fs) None)
        (sym olders) older_after));
    freed = subst (λ (to : List (Option ℕ)). Leads to chains.free spare None) (sym nexts)
        (Leads-led next chains.free spare prior slot.next not_spare h.freed);
    found = λ c. subst (λ (to : List (Option ℕ)). Leads to (head c after) (left k b ids c) None) (sym nexts)
        (found c (nat_eq c b) refl);
    by_id = λ c j. by_id c j (nat_eq c b) refl ∙ ap (λ (r : Row). is_among j (without_slot k held) && nat_eq (bucket r.id) c)
        (sym (rows j));
    in_free = λ j. h.in_free j ∙ rw (in_away j, long) refl;
    apart = and_from (not (is_among k (without_slot k held))) (distinct (without_slot k held))
        (rw (has-but k held k, eq_is k k refl, and-false (is_among k held)) refl) distinct_left;
    inside = λ j i. rw long (h.inside j (in_away j ∙ i));
    all = let a = h.all in let l = ap length held_left in let m = ap length is_split in let n = length-append fs rs in
        let o = length-append fs (k ∷ rs) in let p = long in omega arith;
  },
  rows,
  named_prior,
  named_older,
  named_newer,
)
  where
    slots : List Slot
    slots = chains.slots

    slot : Slot
    slot = slot_at slots k

    b : ℕ
    b = bucket slot.row.id

    next : List (Option ℕ)
    next = links Next slots

    newer : List (Option ℕ)
    newer = links Newer slots

    older : List (Option ℕ)
    older = links Older slots

    after : Chains C
    after = unlinked chains k slot prior

    parts : (fs : List ℕ) × (rs : List ℕ) × (held ≡ fs ++ k ∷ rs)
    parts = has-split k held is_held

    fs : List ℕ
    fs = parts.0

    rs : List ℕ
    rs = parts.1

    is_split : held ≡ fs ++ k ∷ rs
    is_split = parts.2

    there : k < length slots
    there = h.inside k is_held

    aged : Leads newer chains.oldest (fs ++ k ∷ rs) None
    aged = subst (λ (ks : List ℕ). Leads newer chains.oldest ks None) is_split h.aged

    held_left : without_slot k held ≡ fs ++ rs
    held_left = ap (without_slot k) is_split ∙ but_is newer chains.oldest fs k rs aged

    is_turned : reverse held ≡ reverse rs ++ k ∷ reverse fs
    is_turned = grind (arith, common_steps, reverse-append, is_split)

    back : Leads older chains.newest (reverse rs ++ k ∷ reverse fs) None
    back = subst (λ (ks : List ℕ). Leads older chains.newest ks None) is_turned h.back

    is_newer : get_or newer k None ≡ slot.newer
    is_newer = link_at Newer slots k there

    is_older : get_or older k None ≡ slot.older
    is_older = link_at Older slots k there

    is_next : get_or next k None ≡ slot.next
    is_next = link_at Next slots k there

    ends_older : EndsWith fs slot.older
    ends_older = search (rules, arith, Leads-split, ends_newest, back, is_older)

    ends_newer : EndsWith (reverse rs) slot.newer
    ends_newer = search (rules, arith, Leads-split, starts, aged, is_newer)

    newer_after : Leads (led slot.older slot.newer newer) (first_link slot.older slot.newer chains.oldest) (fs ++ rs) None
    newer_after = search (rules, arith, Leads-without, is_newer, aged, ends_older)

    older_after : Leads (led slot.newer slot.older older) (first_link slot.newer slot.older chains.newest)
        (reverse rs ++ reverse fs) None
    older_after = search (rules, arith, Leads-without, is_older, back, ends_newer)

    -- the slots that are named
    named_older : within slot.older slots ≡ true
    named_older = search (rules, arith, has-front, within_ends, ends_older, h.inside, is_split)

    named_newer : within slot.newer slots ≡ true
    named_newer = within_ends (reverse rs) slot.newer slots ends_newer
        (λ j i. h.inside j (ap (is_among j) is_split ∙ has-rear fs k rs j (sym (has-reverse j rs) ∙ i)))

    prior_held : (p : ℕ) → prior ≡ Some p → (is_among p held ≡ true) × (nat_eq (bucket (row_at slots p).id) b ≡ true)
    prior_held p e = and_parts (is_among p held) (nat_eq (bucket (row_at slots p).id) b) (sym (h.by_id b p)
        ∙ before_has k (ids b) p (sym is_prior ∙ e))

    named_prior : within prior slots ≡ true
    named_prior = search (rules, arith, lt_is, h.inside, prior_held)

    -- the links after it
    slots1 : List Slot
    slots1 = relinked Next prior slot.next slots

    slots2 : List Slot
    slots2 = relinked Newer slot.older slot.newer slots1

    long1 : length slots1 ≡ length slots
    long1 = length-led Next prior slot.next slots

    long2 : length slots2 ≡ length slots
    long2 = length-led Newer slot.older slot.newer slots1 ∙ long1

    long : length after.slots ≡ length slots
    long = length-led Older slot.newer slot.older slots2 ∙ long2

    named1 : within slot.older slots1 ≡ true
    named1 = within_long slot.older slots1 slots long1 named_older

    named2 : within slot.newer slots2 ≡ true
    named2 = within_long slot.newer slots2 slots long2 named_newer

    newers : links Newer after.slots ≡ led slot.older slot.newer newer
    newers = grind (arith, common_steps, led, links-led, links-led_other)

    olders : links Older after.slots ≡ led slot.newer slot.older older
    olders = search (rules, arith, links-led, links-led_other, named1, named_prior)

    nexts : links Next after.slots ≡ led prior slot.next next
    nexts = search (rules, arith, links-led, links-led_other, named2, named1)

    rows : (j : ℕ) → row_at after.slots j ≡ row_at slots j
    rows j = search (rules, arith, row-led, named2, named1, named_prior)

    -- the chains by id, and the free chain
    is_found : is_among k (ids b) ≡ true
    is_found = h.by_id b k ∙ and_from (is_among k held) (nat_eq b b) is_held (eq_is b b refl)

    not_spare : (p : ℕ) → prior ≡ Some p → is_among p spare ≡ false
    not_spare p e = h.in_free p ∙ rw (prior_held p e).0 refl

    not_found : (c : ℕ) → nat_eq c b ≡ false → (p : ℕ) → prior ≡ Some p → is_among p (ids c) ≡ false
    not_found c n p e = search (rules, arith, and-false, eq_test, eq_turned, prior_held, h.by_id)

    own : Leads (led prior slot.next next) (first_link prior slot.next (head b chains)) (without_slot k (ids b)) None
    own = search (rules, arith, Leads-distinct, Leads-without, before_ends, but_is, distinct-split, has-split, is_found, h.found, is_next)

    found : (c : ℕ) (p : Bool) → nat_eq c b ≡ p →
        Leads (led prior slot.next next) (head c after) (cond p (without_slot k (ids c)) (ids c)) None
    found c p e =
        search (rules, arith, Leads-led, eq_test, get_or-set_other, get_or-set_same, ne_test, own, not_found, h.found)

    by_id : (c j : ℕ) (p : Bool) → nat_eq c b ≡ p →
        is_among j (cond p (without_slot k (ids c)) (ids c)) ≡ (is_among j (without_slot k held) && nat_eq (bucket (row_at slots j).id) c)
    by_id c j p e = grind (arith, and-false, and-true, and_swap, eq_test, eq_turned, has-but)

    in_away : (j : ℕ) → is_among j held ≡ (nat_eq j k || is_among j (without_slot k held))
    in_away j = grind (arith, and-true, eq_test, eq_turned, has-but)

    distinct_left : distinct (without_slot k held) ≡ true
    distinct_left = ap distinct held_left ∙ Leads-distinct (led slot.older slot.newer newer)
        (first_link slot.older slot.newer chains.oldest) (fs ++ rs) newer_after

pub unlink : {C : ℕ} (chains : Chains C) (k : ℕ) (prior : Option ℕ) → Linked [] chains → is_among k (slots_by_age chains) ≡ true →
    bucket (row_at chains.slots k).id < length chains.heads →
    prior ≡ before k (id_slots (bucket (row_at chains.slots k).id) chains) →
    Linked (k ∷ []) (unlinked chains k (slot_at chains.slots k) prior)
    × (rows_in (unlinked chains k (slot_at chains.slots k) prior) ≡ map (row_at chains.slots) (without_slot k (slots_by_age chains)))
    × (within prior chains.slots ≡ true) × (within (slot_at chains.slots k).older chains.slots ≡ true)
    × (within (slot_at chains.slots k).newer chains.slots ≡ true)
unlink chains k prior l i bound p =
    let held = slots_by_age chains in
    let b = bucket (row_at chains.slots k).id in
    let r = holds chains k prior held (free_slots chains) (λ c. id_slots c chains) (opened [] chains l) i bound p in
    let after = unlinked chains k (slot_at chains.slots k) prior in
    let ids = left k b (λ c. id_slots c chains) in (
      closed (k ∷ []) after (without_slot k held) (free_slots chains) ids r.0,
      ap (map (row_at after.slots)) (age_is (k ∷ []) after (without_slot k held) (free_slots chains) ids r.0)
          ∙ map_same (row_at after.slots) (row_at chains.slots) (without_slot k held) (λ j _. r.1 j),
      r.2,
      r.3,
      r.4,
    )

-- as the code reads the slot
pub unlink_read : {C : ℕ} (chains : Chains C) (k place b : ℕ) (any : Slot) (prior : Option ℕ) → Linked [] chains →
    is_among k (slots_by_age chains) ≡ true → place ≡ k → b ≡ bucket (get_or chains.slots place any).row.id →
    b < length chains.heads → prior ≡ before k (id_slots (bucket (row_at chains.slots k).id) chains) →
    (get_or chains.slots place any ≡ slot_at chains.slots k)
    × Linked (k ∷ []) (unlinked chains k (slot_at chains.slots k) prior)
    × (rows_in (unlinked chains k (slot_at chains.slots k) prior) ≡ map (row_at chains.slots) (without_slot k (slots_by_age chains)))
    × (within prior chains.slots ≡ true) × (within (get_or chains.slots place any).older chains.slots ≡ true)
    × (within (get_or chains.slots place any).newer chains.slots ≡ true)
unlink_read chains k place b any prior l i p h bound e =
    let read = slot_read chains.slots k place any (l.inside k i) p in
    let same = h ∙ ap (λ (s : Slot). bucket s.row.id) read in
    let u = unlink chains k prior l i (rw same at bound) e in
    (read, u.0, u.1, u.2, rw read u.3, rw read u.4)

-- as the code writes it
pub unlink_code : {C : ℕ} (chains : Chains C) (k b : ℕ) (slot : Slot) (prior : Option ℕ)
    (slots1 slots2 slots3 : List Slot) (start oldest newest : Option ℕ) → slot ≡ slot_at chains.slots k →
    b ≡ bucket slot.row.id →
    slots1 ≡ relinked Next prior slot.next chains.slots → start ≡ first_link prior slot.next (head b chains) →
    slots2 ≡ relinked Newer slot.older slot.newer slots1 → oldest ≡ first_link slot.older slot.newer chains.oldest →
    slots3 ≡ relinked Older slot.newer slot.older slots2 → newest ≡ first_link slot.newer slot.older chains.newest →
    record { slots = slots3; heads = set chains.heads b start; free = chains.free; oldest = oldest; newest = newest } ≡
    unlinked chains k (slot_at chains.slots k) prior
unlink_code chains k b slot prior slots1 slots2 slots3 start oldest newest r e s1 st s2 o s3 n = search (rules, arith)

pub within_led : (o : Option ℕ) (along : ChainKind) (prior next : Option ℕ) (slots after : List Slot) →
    after ≡ relinked along prior next slots → within o slots ≡ true → within o after ≡ true
within_led o along prior next slots after e h = grind (arith, length-led)

pub one_less : {C : ℕ} (chains : Chains C) (k : ℕ) → Linked [] chains → is_among k (slots_by_age chains) ≡ true →
    length (map (row_at chains.slots) (without_slot k (slots_by_age chains))) + 1 ≡ length (rows_in chains)
one_less chains k l i =
    let h = opened [] chains l in
    let s = has-split k (slots_by_age chains) i in
    let kept = ap length (ap (without_slot k) s.2 ∙ but_is (links Newer chains.slots) chains.oldest s.0 k s.1
    (subst (λ (ks : List ℕ). Leads (links Newer chains.slots) chains.oldest ks None) s.2 h.aged)) in
    let whole = ap length s.2 in
    let a = length-append s.0 s.1 in
    let b = length-append s.0 (k ∷ s.1) in
    let m = length-map (without_slot k (slots_by_age chains)) (row_at chains.slots) in
    let n = length-map (slots_by_age chains) (row_at chains.slots) in
    omega arith
