-- A table that is empty, and rows that are found along a chain.
use Rattle.std.proofs.lemmas.Grind.{common_steps}
use Rattle.std.proofs.lemmas.List.FromFn.{length-range_with_len}
use Rattle.std.proofs.Math.Bool.{or-true}
use Rattle.std.proofs.Common.{rules, ◌≡◌, ℕ, zero, suc, ◌+◌, ◌<◌, ◌≤◌, List, [], length, replicate, Bool, true, false}
use Rattle.std.proofs.Common.{◌||◌, Option, Some, None, refl, sym, ◌∙◌, subst, arith, nat_lt, nat_eq, get_or, ◌∷◌}
use Rattle.std.proofs.Common.{◌&&◌, not, ap, ◌++◌, map, reverse, cond, set, option_map, Bor, is_some, slice_get}
use Rattle.std.specs.List.{range_with_len, find, list_any, filter}
use Rattle.cred_table.specs.declared.slot.Slot.{Slot}
use Rattle.cred_table.specs.declared.slot.ChainKind.{ChainKind}
use Rattle.cred_table.specs.declared.chains.Chains.{Chains}
use Rattle.cred_table.specs.declared.row.Row.{Row}
use Rattle.cred_table.specs.declared.slot.ChainKind.TheVariants.{Next, Newer, Older}
use Rattle.cred_table.specs.Slots.{links, slot_at, is_among, next_free, chain, is_chain, distinct, relinked}
use Rattle.cred_table.specs.Slots.{first_link, within, bucket, link_of, slot_incremented, numbered, without_slot}
use Rattle.cred_table.specs.Slots.{Linked, slots_by_age, free_slots, id_slots, head, row_at, rows_in, incremented_at}
use Rattle.cred_table.proofs.Chain.{Leads, lt_is, link_at, length-links, closed, Leads-once, eq_is, chain_step}
use Rattle.cred_table.proofs.Chain.{slot_read, Holds, opened, Leads-first, Leads-set, Leads-push, Leads-distinct}
use Rattle.cred_table.proofs.Chain.{EndsWith, led, links-set, links-led_other, length-led, row-set_same}
use Rattle.cred_table.proofs.Chain.{row-set_other, row-led, map_same, age_is, ends_newest, has-push, has-reverse}
use Rattle.cred_table.proofs.Chain.{bytes_from}
use Rattle.std.proofs.lemmas.Bool.{and_parts, and_from, not-true}
use Rattle.std.proofs.lemmas.List.{length-set, length-append, reverse-append, map-append, set-get_or}
use Rattle.cred_table.specs.Rows.{has_id, same_id, no_two, without, rows_incremented, row_incremented, counter_in}
use Rattle.cred_table.specs.Rows.{counter_of}

-- ---- a table whose slots are all free

-- the free chain leads through all slots
leads_on : (slots : List Slot) → ((k : ℕ) → k < length slots → (slot_at slots k).next ≡ next_free (length slots) k) →
    (m k : ℕ) → k + suc m ≡ length slots → Leads (links Next slots) (Some k) (range_with_len k (suc m)) None
leads_on slots h zero k e = grind (arith, length-links, link_at)
leads_on slots h (suc m) k e = grind (arith, link_at, leads_on slots h m (k + 1))

range_within : (i m k : ℕ) → is_among k (range_with_len i m) ≡ true → (i ≤ k) × (k < i + m)
range_within i zero k h = cc
range_within i (suc m) k h = grind (arith, range_within (i + 1) m k)

range_has : (i m k : ℕ) → i ≤ k → k < i + m → is_among k (range_with_len i m) ≡ true
range_has i zero k l h = absurd (omega arith)
range_has i (suc m) k l h = grind (arith, range_has (i + 1) m k)

range_test : (m k : ℕ) → is_among k (range_with_len 0 m) ≡ nat_lt k m
range_test m k = grind (arith, range_has, range_within)

abbrev none : Option ℕ
none = None

none_at : (n b : ℕ) → get_or (replicate n none) b none ≡ none
none_at zero b = refl
none_at (suc n) zero = refl
none_at (suc n) (suc b) = none_at n b

pub new : {C : ℕ} (slots : List Slot) → 1 ≤ length slots →
    ((k : ℕ) → k < length slots → (slot_at slots k).next ≡ next_free (length slots) k) →
    Linked {C = C} [] (record { slots = slots; heads = replicate 32 None; free = Some 0; oldest = None; newest = None })
new {C = C} slots some h = closed [] chains [] (range_with_len 0 (length slots)) (λ b. []) (record {
  aged = refl;
  back = refl;
  freed = all (length slots) refl some;
  found = λ b. none_at 32 b;
  by_id = λ b k. refl;
  in_free = λ k. range_test (length slots) k;
  apart = refl;
  inside = λ k i. cc;
  all = let l = length-range_with_len 0 (length slots) in omega arith;
})
  where
    chains : Chains C
    chains = record { slots = slots; heads = replicate 32 None; free = Some 0; oldest = None; newest = None }

    all : (n : ℕ) → n ≡ length slots → 1 ≤ n → Leads (links Next slots) (Some 0) (range_with_len 0 n) None
    all n e l = grind (arith, common_steps, leads_on)

-- A slot is taken out of the free chain.

taken : {C : ℕ} (chains : Chains C) (k : ℕ) (held rest : List ℕ) (ids : ℕ → List ℕ) (next : Option ℕ) →
    Holds [] chains held (k ∷ rest) ids → next ≡ (slot_at chains.slots k).next →
    Holds (k ∷ []) (record chains { free = next }) held rest ids
taken chains k held rest ids next h n = record {
  aged = h.aged;
  back = h.back;
  freed = subst (λ (o : Option ℕ). Leads (links Next chains.slots) o rest None) leads h.freed.2;
  found = h.found;
  by_id = h.by_id;
  in_free = λ j. go j (nat_eq j k) refl;
  apart = and_from (not (is_among k held)) (distinct held) away.0 h.apart;
  inside = λ j i. inside j (nat_eq j k) refl i;
  all = let a = h.all in omega arith;
}
  where
    there : k < length chains.slots
    there = let l = length-links Next chains.slots in let t = h.freed.1 in omega arith

    leads : get_or (links Next chains.slots) k None ≡ next
    leads = link_at Next chains.slots k there ∙ sym n

    away : (not (is_among k held) ≡ true) × (nat_lt k (length chains.slots) ≡ true)
    away = and_parts (not (is_among k held)) (nat_lt k (length chains.slots)) (sym (h.in_free k) ∙ rw (eq_is k k refl) refl)

    go : (j : ℕ) (b : Bool) → nat_eq j k ≡ b → is_among j rest ≡ (not (b || is_among j held) && nat_lt j (length chains.slots))
    go j b e = grind (arith, Leads-once)

    inside : (j : ℕ) (b : Bool) → nat_eq j k ≡ b → (b || is_among j held) ≡ true → j < length chains.slots
    inside j b e i = grind arith

pub take_free : {C : ℕ} (chains : Chains C) (k place : ℕ) (slot : Slot) → Linked [] chains → chains.free ≡ Some k →
    place ≡ k → Linked (k ∷ []) (record chains { free = (get_or chains.slots place slot).next })
take_free chains k place slot l f p =
    let to = links Next chains.slots in
    let step = chain_step to k (subst (λ (o : Option ℕ). (is_chain to o ≡ true)) f l.freed) in
    let rest = chain to (get_or to k None) in
    let next = (get_or chains.slots place slot).next in
    let long = length-links Next chains.slots in
    let read : next ≡ (slot_at chains.slots k).next = ap (λ (s : Slot). s.next)
    (slot_read chains.slots k place slot (omega arith) p) in
    let spare : free_slots chains ≡ k ∷ rest = ap (chain to) f ∙ step.2 in
    let h = subst (λ (ks : List ℕ). Holds [] chains (slots_by_age chains) ks (λ b. id_slots b chains)) spare
    (opened [] chains l) in
    closed (k ∷ []) (record chains { free = next }) (slots_by_age chains) rest (λ b. id_slots b chains)
    (taken chains k (slots_by_age chains) rest (λ b. id_slots b chains) next h read)

-- A row is put into a slot that is away.

-- The slot before the new one is there.
pub within_newest : (slots : List Slot) (k : ℕ) (slot : Slot) (held : List ℕ) (newest : Option ℕ) →
    EndsWith held newest → ((j : ℕ) → is_among j held ≡ true → j < length slots) → within newest (set slots k slot) ≡ true
within_newest slots k slot held None e i = refl
within_newest slots k slot held (Some p) e i = search (rules, arith, eq_is, has-push, length-set, lt_is, e.1, e.0)

pub within_back : (slots : List Slot) (k : ℕ) (slot : Slot) (at : Option ℕ) → is_chain (links Older slots) at ≡ true →
    within at (set slots k slot) ≡ true
within_back slots k slot None h = refl
within_back slots k slot (Some p) h =
    let s = chain_step (links Older slots) p h in grind (arith, length-set, length-links)

-- The table after it.
abbrev pub filled : {C : ℕ} → Chains C → ℕ → Row → Chains C
filled chains k row = record {
  slots = relinked Newer chains.newest (Some k)
      (set chains.slots k (record
      { row = row; next = head (bucket row.id) chains; newer = None; older = chains.newest }));
  heads = set chains.heads (bucket row.id) (Some k);
  free = chains.free;
  oldest = first_link chains.newest (Some k) chains.oldest;
  newest = Some k;
}

-- The chains of the ids after it.
abbrev joined : (k b : ℕ) → (ℕ → List ℕ) → ℕ → List ℕ
joined k b ids c = cond (nat_eq c b) (k ∷ ids c) (ids c)

holds : {C : ℕ} (chains : Chains C) (k : ℕ) (row : Row) (held spare : List ℕ) (ids : ℕ → List ℕ) →
    Holds (k ∷ []) chains held spare ids → bucket row.id < length chains.heads →
    Holds [] (filled chains k row) (held ++ k ∷ []) spare (joined k (bucket row.id) ids)
    × ((j : ℕ) → is_among j held ≡ true → row_at (filled chains k row).slots j ≡ row_at chains.slots j)
    × (row_at (filled chains k row).slots k ≡ row)
holds {C = C} chains k row held spare ids h bound = (
  record {
    aged = subst (λ (to : List (Option ℕ)). Leads to (first_link chains.newest (Some k) chains.oldest) (held ++ k ∷ []) None)
        (sym newers) (Leads-push newer chains.oldest held chains.newest k h.aged last out there_newer);
    back = subst (λ (to : List (Option ℕ)). Leads to (Some k) (reverse (held ++ k ∷ [])) None) (sym olders)
        (subst (λ (ks : List ℕ). Leads (set older k chains.newest) (Some k) ks None)
        (sym (reverse-append held (k ∷ []))) (Leads-first older chains.newest None (reverse held) k
        (has-reverse k held ∙ out) there_older h.back));
    freed = subst (λ (to : List (Option ℕ)). Leads to chains.free spare None) (sym nexts)
        (Leads-set next chains.free None spare k (head b chains) not_spare h.freed);
    found = λ c. subst (λ (to : List (Option ℕ)). Leads to (head c after) (joined k b ids c) None) (sym nexts)
        (found c (nat_eq c b) refl);
    by_id = λ c j. by_id c j (nat_eq c b) refl (nat_eq j k) refl;
    in_free = λ j. h.in_free j ∙ rw (sym (has-push k held j), sym long) refl;
    apart = distinct_after;
    inside = λ j i. rw long (h.inside j (sym (has-push k held j) ∙ i));
    all = let a = h.all in let l = length-append held (k ∷ []) in let n = long in omega arith;
  },
  kept,
  here,
)
  where
    b : ℕ
    b = bucket row.id

    slots : List Slot
    slots = chains.slots

    next : List (Option ℕ)
    next = links Next slots

    newer : List (Option ℕ)
    newer = links Newer slots

    older : List (Option ℕ)
    older = links Older slots

    slot : Slot
    slot = record { row = row; next = head b chains; newer = None; older = chains.newest }

    written : List Slot
    written = set slots k slot

    after : Chains C
    after = filled chains k row

    out : is_among k held ≡ false
    out = not-true (is_among k held) (and_parts (not (is_among k held)) (distinct held) h.apart).0

    there : k < length slots
    there = h.inside k (rw (eq_is k k refl) refl)

    there_newer : k < length newer
    there_newer = rw (length-links Newer slots) there

    there_older : k < length older
    there_older = rw (length-links Older slots) there

    last : EndsWith held chains.newest
    last = ends_newest older chains.newest held h.back

    inside : (j : ℕ) → is_among j held ≡ true → j < length slots
    inside j i = h.inside j (rw i (or-true (nat_eq j k)))

    named : within chains.newest written ≡ true
    named = within_newest slots k slot held chains.newest last inside

    long : length after.slots ≡ length slots
    long = length-led Newer chains.newest (Some k) written ∙ length-set slots k slot

    newers : links Newer after.slots ≡ led chains.newest (Some k) (set newer k None)
    newers = grind (arith, links-set)

    olders : links Older after.slots ≡ set older k chains.newest
    olders = links-led_other Newer Older chains.newest (Some k) written (λ s. refl) named ∙ links-set Older slots k slot

    nexts : links Next after.slots ≡ set next k (head b chains)
    nexts = links-led_other Newer Next chains.newest (Some k) written (λ s. refl) named ∙ links-set Next slots k slot

    not_spare : is_among k spare ≡ false
    not_spare = h.in_free k ∙ rw (eq_is k k refl) refl

    here : row_at after.slots k ≡ row
    here = row-led Newer chains.newest (Some k) written k named ∙ row-set_same slots k slot there

    kept : (j : ℕ) → is_among j held ≡ true → row_at after.slots j ≡ row_at slots j
    kept j i = search (rules, arith)

    found : (c : ℕ) (p : Bool) → nat_eq c b ≡ p →
        Leads (set next k (head b chains)) (head c after) (cond p (k ∷ ids c) (ids c)) None
    found c p e = grind (arith, common_steps, Leads-set)

    by_id : (c j : ℕ) (p : Bool) → nat_eq c b ≡ p → (q : Bool) → nat_eq j k ≡ q →
        is_among j (cond p (k ∷ ids c) (ids c)) ≡ (is_among j (held ++ k ∷ []) && nat_eq (bucket (row_at after.slots j).id) c)
    by_id c j p e q f = search (rules, arith, has-push)

    distinct_after : distinct (held ++ k ∷ []) ≡ true
    distinct_after =
        Leads-distinct (led chains.newest (Some k) (set newer k None)) (first_link chains.newest (Some k) chains.oldest)
        (held ++ k ∷ []) (Leads-push newer chains.oldest held chains.newest k h.aged last out there_newer)

pub fill : {C : ℕ} (chains : Chains C) (k : ℕ) (row : Row) → Linked (k ∷ []) chains →
    bucket row.id < length chains.heads →
    Linked [] (filled chains k row) × (rows_in (filled chains k row) ≡ rows_in chains ++ row ∷ [])
fill chains k row l bound =
    let held = slots_by_age chains in
    let r = holds chains k row held (free_slots chains) (λ b. id_slots b chains) (opened (k ∷ []) chains l) bound in
    let after = (filled chains k row).slots in
    let ids = joined k (bucket row.id) (λ b. id_slots b chains) in (
      closed [] (filled chains k row) (held ++ k ∷ []) (free_slots chains) ids r.0,
      ap (map (row_at after)) (age_is [] (filled chains k row) (held ++ k ∷ []) (free_slots chains) ids r.0)
          ∙ (map-append (row_at after) held (k ∷ [])
          ∙ (ap (λ (rows : List Row). rows ++ row_at after k ∷ [])
          (map_same (row_at after) (row_at chains.slots) held r.1)
          ∙ ap (λ (x : Row). rows_in chains ++ x ∷ []) r.2)),
    )

-- as the code writes it
pub fill_code : {C : ℕ} (chains : Chains C) (k : ℕ) (row : Row) (b place : ℕ) (slots : List Slot) (start : Option ℕ) →
    Linked (k ∷ []) chains → b ≡ bucket row.id → b < length chains.heads → place ≡ k →
    slots ≡ relinked Newer chains.newest (Some k)
    (set chains.slots place
    (record { row = row; next = get_or chains.heads b None; newer = None; older = chains.newest })) →
    start ≡ first_link chains.newest (Some k) chains.oldest →
    record { slots = slots; heads = set chains.heads b (Some k); free = chains.free; oldest = start; newest = Some k } ≡
    filled chains k row
fill_code chains k row b place slots start l e bound p s o = rw (s, o, p, e) refl

-- The counter of the row in a slot is raised.

linked_same : (along : ChainKind) (slot : Slot) → link_of along (slot_incremented slot) ≡ link_of along slot
linked_same along slot = search (rules, arith)

links_same : (along : ChainKind) (slots : List Slot) (k : ℕ) → k < length slots →
    links along (set slots k (slot_incremented (slot_at slots k))) ≡ links along slots
links_same along slots k l =
    links-set along slots k (slot_incremented (slot_at slots k))
    ∙ (ap (set (links along slots) k) (linked_same along (slot_at slots k) ∙ sym (link_at along slots k l))
    ∙ set-get_or (links along slots) k None)

pub raise : {C : ℕ} (chains : Chains C) (k : ℕ) (slots : List Slot) → Linked [] chains → is_among k (slots_by_age chains) ≡ true →
    slots ≡ set chains.slots k (slot_incremented (slot_at chains.slots k)) →
    Linked [] (record chains { slots = slots })
    × (rows_in (record chains { slots = slots }) ≡ map (incremented_at k chains.slots) (slots_by_age chains))
raise {C = C} chains k slots l is_held is = grind (arith, length-set, links_same, row-set_other, row-set_same)

-- ---- rows that are found along a chain

-- An item of a walk as clauses see it.
abbrev pub seen : (ℕ × Bor Slot) → (ℕ × Slot)
seen item = (item.0, item.1.now)

-- what is found among slots is found among their rows
numbered_row : (slots : List Slot) (ks : List ℕ) (test : Row → Bool) →
    option_map (λ (item : ℕ × Slot). item.1.row) (find (λ (item : ℕ × Slot). test item.1.row) (numbered slots ks)) ≡
    find test (map (row_at slots) ks)
numbered_row slots [] test = refl
numbered_row slots (k ∷ ks) test = search (rules, arith, numbered_row slots ks test)

pub found_row : (slots : List Slot) (ks : List ℕ) (test : Row → Bool) (o : Option (ℕ × Bor Slot)) →
    option_map seen o ≡ find (λ (item : ℕ × Slot). test item.1.row) (numbered slots ks) →
    option_map (λ (item : ℕ × Bor Slot). item.1.now.row) o ≡ find test (map (row_at slots) ks)
found_row slots ks test o e = same o ∙ (ap (option_map (λ (item : ℕ × Slot). item.1.row)) e
    ∙ numbered_row slots ks test)
  where
    same : (o : Option (ℕ × Bor Slot)) → option_map (λ (item : ℕ × Bor Slot). item.1.now.row) o ≡ option_map
        (λ (item : ℕ × Slot). item.1.row) (option_map seen o)
    same o = search (rules, arith)

-- a row that is found is that of a slot
pub find_some : (row : ℕ → Row) (test : Row → Bool) (ks : List ℕ) (r : Row) → find test (map row ks) ≡ Some r →
    (k : ℕ) × (is_among k ks ≡ true) × (row k ≡ r) × (test (row k) ≡ true)
find_some row test [] r h = cc
find_some row test (k ∷ ks) r h = grind (arith, find_some row test ks r)

-- where none is found, no slot's row passes
pub find_none : (row : ℕ → Row) (test : Row → Bool) (ks : List ℕ) (k : ℕ) → find test (map row ks) ≡ None →
    is_among k ks ≡ true → test (row k) ≡ false
find_none row test [] k h i = cc
find_none row test (j ∷ ks) k h i = grind (arith, find_none row test ks k)

pub any_has : (row : ℕ → Row) (test : Row → Bool) (ks : List ℕ) (k : ℕ) → is_among k ks ≡ true → test (row k) ≡ true →
    list_any test (map row ks) ≡ true
any_has row test [] k h t = cc
any_has row test (j ∷ ks) k h t = grind (arith, any_has row test ks k)

-- a row with the id is the one that is found
pub find_only : (row : ℕ → Row) (test : Row → Bool) (id : List ℕ) (ks : List ℕ) (k : ℕ) →
    ((r : Row) → test r ≡ true → has_id id r ≡ true) → no_two same_id (map row ks) ≡ true → is_among k ks ≡ true →
    test (row k) ≡ true →
    find test (map row ks) ≡ Some (row k)
find_only row test id [] k imp d h t = cc
find_only row test id (j ∷ ks) k imp d h t = search (rules, arith, any_has, find_only row test id ks k imp)

-- what is found in the chain of an id is what is found in the table
pub found_alike : {C : ℕ} (chains : Chains C) (test : Row → Bool) (id : List ℕ) → Linked [] chains →
    no_two same_id (rows_in chains) ≡ true → ((r : Row) → test r ≡ true → has_id id r ≡ true) →
    find test (map (row_at chains.slots) (id_slots (bucket id) chains)) ≡ find test (rows_in chains)
found_alike chains test id l d imp = go (find test (map row near)) refl
  where
    row : ℕ → Row
    row = row_at chains.slots

    near : List ℕ
    near = id_slots (bucket id) chains

    go : (o : Option Row) → find test (map row near) ≡ o → o ≡ find test (rows_in chains)
    go (Some r) e =
        let f = find_some row test near r e in
        let held = (and_parts (is_among f.0 (slots_by_age chains)) (nat_eq (bucket (row f.0).id) (bucket id))
        (sym (l.by_id (bucket id) f.0) ∙ f.1)).0 in
        ap (λ (x : Row). Some x) (sym f.2) ∙ sym (find_only row test id (slots_by_age chains) f.0 imp d held f.3)
    go None e = none (find test (rows_in chains)) refl
      where
        none : (o : Option Row) → find test (rows_in chains) ≡ o → None ≡ o
        none None f = refl
        none (Some r) f =
            let s = find_some row test (slots_by_age chains) r f in
            let same : (row s.0).id ≡ id = bytes_from (row s.0).id id (imp (row s.0) s.3) in
            let in_near : is_among s.0 near ≡ true = l.by_id (bucket id) s.0
            ∙ rw (s.1, eq_is (bucket (row s.0).id) (bucket id) (ap bucket same)) refl in
            let refused = find_none row test near s.0 e in_near in
            let taken = s.3 in
            cc

-- The slot of a row that is found.

numbered_some : (slots : List Slot) (ks : List ℕ) (test : Row → Bool) (q : ℕ × Slot) →
    find (λ (item : ℕ × Slot). test item.1.row) (numbered slots ks) ≡ Some q → (is_among q.0 ks ≡ true)
    × (test (row_at slots q.0) ≡ true)
numbered_some slots [] test q h = cc
numbered_some slots (k ∷ ks) test q h = grind (arith, numbered_some slots ks test q)

pub slot_found : {C : ℕ} (chains : Chains C) (id : List ℕ) (o : Option (ℕ × Bor Slot)) (item : ℕ × Bor Slot) →
    Linked [] chains → o ≡ Some item →
    option_map seen o ≡ find (λ (found : ℕ × Slot). has_id id found.1.row)
    (numbered chains.slots (id_slots (bucket id) chains)) →
    (is_among item.0 (slots_by_age chains) ≡ true) × (has_id id (row_at chains.slots item.0) ≡ true)
slot_found chains id o item l s e =
    let f = numbered_some chains.slots (id_slots (bucket id) chains) (has_id id) (seen item) (sym e
    ∙ ap (option_map seen) s) in
    ((and_parts (is_among item.0 (slots_by_age chains)) (nat_eq (bucket (row_at chains.slots item.0).id) (bucket id)) (sym (l.by_id (bucket id) item.0) ∙ f.0)).0, f.1)

-- a row that is there is found in the chain of its id
pub slot_there : {C : ℕ} (chains : Chains C) (id : List ℕ) (o : Option (ℕ × Bor Slot)) → Linked [] chains →
    is_some (find (has_id id) (rows_in chains)) ≡ true →
    option_map seen o ≡ find (λ (found : ℕ × Slot). has_id id found.1.row)
    (numbered chains.slots (id_slots (bucket id) chains)) → is_some o ≡ true
slot_there chains id o l t e = go o (found_row chains.slots (id_slots (bucket id) chains) (has_id id) o e)
  where
    row : ℕ → Row
    row = row_at chains.slots

    near : List ℕ
    near = id_slots (bucket id) chains

    none : find (has_id id) (map row near) ≡ None → (p : Option Row) → find (has_id id) (rows_in chains) ≡ p →
        is_some p ≡ false
    none n None f = refl
    none n (Some r) f =
        let s = find_some row (has_id id) (slots_by_age chains) r f in
        let same : (row s.0).id ≡ id = bytes_from (row s.0).id id s.3 in
        let in_near : is_among s.0 near ≡ true = l.by_id (bucket id) s.0
        ∙ rw (s.1, eq_is (bucket (row s.0).id) (bucket id) (ap bucket same)) refl in
        let refused = find_none row (has_id id) near s.0 n in_near in
        let taken = s.3 in
        cc

    go : (p : Option (ℕ × Bor Slot)) → option_map (λ (item : ℕ × Bor Slot). item.1.now.row) p ≡ find (has_id id)
        (map row near) → is_some p ≡ true
    go p f = search (rules, arith, none)

-- The row at a place of a chain.

numbered_at : (slots : List Slot) (ks : List ℕ) (place : ℕ) → place < length (map (row_at slots) ks) →
    (q : ℕ × Slot) × (slice_get (numbered slots ks) place ≡ Some q)
    × ((d : Row) → q.1.row ≡ get_or (map (row_at slots) ks) place d)
numbered_at slots [] place l = absurd (omega arith)
numbered_at slots (k ∷ ks) zero l = ((k, slot_at slots k), refl, λ d. refl)
numbered_at slots (k ∷ ks) (suc place) l = numbered_at slots ks place (omega arith)

pub nth_row : (slots : List Slot) (ks : List ℕ) (o : Option (ℕ × Bor Slot)) (place : ℕ) →
    place < length (map (row_at slots) ks) → option_map seen o ≡ slice_get (numbered slots ks) place →
    (is_some o ≡ true) × ((item : ℕ × Bor Slot) → o ≡ Some item → (d : Row) →
    item.1.now.row ≡ get_or (map (row_at slots) ks) place d)
nth_row slots ks o place l e =
    let q = numbered_at slots ks place l in
    (go o (e ∙ q.1), λ item s d. let same : seen item ≡ q.0 = cc in ap (λ (p : ℕ × Slot). p.1.row) same ∙ q.2 d)
  where
    go : {q : ℕ × Slot} → (p : Option (ℕ × Bor Slot)) → option_map seen p ≡ Some q → is_some p ≡ true
    go p f = search (rules, arith)

-- Rows with distinct ids, each in a slot.

-- one slot has the row with an id
one_slot : (row : ℕ → Row) (id : List ℕ) (ks : List ℕ) (j k : ℕ) → no_two same_id (map row ks) ≡ true →
    is_among j ks ≡ true → is_among k ks ≡ true → has_id id (row j) ≡ true → has_id id (row k) ≡ true → j ≡ k
one_slot row id [] j k d hj hk rj rk = cc
one_slot row id (i ∷ ks) j k d hj hk rj rk = search (rules, arith, any_has, one_slot row id ks j k)

-- the row with the id is the row of that slot
has_slot : (row : ℕ → Row) (id : List ℕ) (ks : List ℕ) (k : ℕ) → no_two same_id (map row ks) ≡ true → is_among k ks ≡ true →
    has_id id (row k) ≡ true → (j : ℕ) → is_among j ks ≡ true → has_id id (row j) ≡ nat_eq k j
has_slot row id ks k d hk rk j hj = grind (arith, one_slot)

filter_rows : (row : ℕ → Row) (p : Row → Bool) (q : ℕ → Bool) (ks : List ℕ) →
    ((j : ℕ) → is_among j ks ≡ true → p (row j) ≡ q j) → map row (filter (λ j. not (q j)) ks) ≡ filter (λ r. not (p r))
    (map row ks)
filter_rows row p q [] h = refl
filter_rows row p q (k ∷ ks) h = grind (arith, filter_rows row p q ks)

-- taking out the slot takes out the row with its id
pub but_without : (row : ℕ → Row) (id : List ℕ) (ks : List ℕ) (k : ℕ) → no_two same_id (map row ks) ≡ true →
    is_among k ks ≡ true → has_id id (row k) ≡ true → map row (without_slot k ks) ≡ without id (map row ks)
but_without row id ks k d hk rk = filter_rows row (has_id id) (nat_eq k) ks (has_slot row id ks k d hk rk)

-- raising the counter in the slot raises that of the row with its id
pub raised_is : (slots : List Slot) (id : List ℕ) (ks : List ℕ) (k : ℕ) →
    no_two same_id (map (row_at slots) ks) ≡ true → is_among k ks ≡ true → has_id id (row_at slots k) ≡ true →
    map (incremented_at k slots) ks ≡ rows_incremented id (map (row_at slots) ks)
raised_is slots id ks k d hk rk =
    map_same (incremented_at k slots) (λ j. row_incremented id (row_at slots j)) ks
    (λ j i. ap (λ (b : Bool). cond b (record (row_at slots j) { counter = (row_at slots j).counter + 1 })
    (row_at slots j)) (sym (has_slot (row_at slots) id ks k d hk rk j i)))
    ∙ twice ks
  where
    twice : (ls : List ℕ) → map (λ j. row_incremented id (row_at slots j)) ls ≡ rows_incremented id (map (row_at slots) ls)
    twice [] = refl
    twice (l ∷ ls) = ap (λ (rows : List Row). row_incremented id (row_at slots l) ∷ rows) (twice ls)

-- and its counter is that row's
pub counter_slot : (row : ℕ → Row) (id : List ℕ) (ks : List ℕ) (k : ℕ) → no_two same_id (map row ks) ≡ true →
    is_among k ks ≡ true → has_id id (row k) ≡ true → counter_of id (map row ks) ≡ (row k).counter
counter_slot row id ks k d hk rk = ap counter_in (find_only row (has_id id) id ks k (λ r h. h) d hk rk)
