-- Chains that links make, as lists of slots.
use Rattle.std.proofs.Common.{arith, rules, ◌≡◌, ℕ, List, [], ◌∷◌, Bool, true, false, not, None, is_some, refl, ◌∙◌}
use Rattle.std.proofs.Common.{ap, filter, ◌≢◌, zero, suc, ◌<◌, ◌≤◌, ◌++◌, length, ◌||◌, Option, Some, sym, subst}
use Rattle.std.proofs.Common.{get_or, set, nat_lt, nat_eq, eqb, length-append, map, ◌+◌, reverse, ◌&&◌}
use Rattle.std.proofs.lemmas.Slice.Eq.{bytes_eq-Decides}
use Rattle.std.proofs.lemmas.Bool.{or_parts, and_parts, not-true}
use Rattle.std.specs.List.{find, list_any, IsDistinct, AllByRecursion}
use Rattle.std.specs.Str.{bytes_eq}
use Rattle.std.proofs.lemmas.Grind.{common_steps}
use Rattle.std.proofs.lemmas.List.Folds.{list_any-append}
use Rattle.std.proofs.lemmas.Map.Steps.{length-le_from_distinct_below}
use Rattle.std.proofs.lemmas.List.{length-set, get_or-set_same, get_or-set_other, get_or-map, get_or_default}
use Rattle.std.proofs.lemmas.List.{length-map, map-set, set-get_or, reverse-append, reverse-reverse}
use Rattle.cred_table.specs.Slots.{walk, terminates, chain, is_chain, is_among, without_slot, distinct, first_link}
use Rattle.cred_table.specs.Slots.{links, link_of, with_link, relinked, slot_at, blank, within, bucket, numbered}
use Rattle.cred_table.specs.declared.slot.Slot.{Slot}
use Rattle.cred_table.specs.declared.slot.ChainKind.{ChainKind}
use Rattle.cred_table.specs.declared.chains.Chains.{Chains}
use Rattle.cred_table.specs.declared.slot.ChainKind.TheVariants.{Next, Newer, Older}
use Rattle.cred_table.specs.Slots.{row_at, Linked, slots_by_age, free_slots, id_slots, head}

-- ---- tests that are true or false, and what a list has under one

pub same_bytes : (xs : List ℕ) → bytes_eq xs xs ≡ true
same_bytes xs = (bytes_eq-Decides xs xs).1 refl

pub bytes_from : (xs ys : List ℕ) → bytes_eq xs ys ≡ true → xs ≡ ys
bytes_from xs ys h = (bytes_eq-Decides xs ys).0 h

pub bytes_sym : (xs ys : List ℕ) → bytes_eq xs ys ≡ bytes_eq ys xs
bytes_sym xs ys = grind (arith, bytes_eq-Decides)

-- an element passes where one is found
pub any_is_found : {X : Type 0} (q : X → Bool) (xs : List X) → list_any q xs ≡ is_some (find q xs)
any_is_found q [] = refl
any_is_found q (x ∷ xs) = search (rules, arith, any_is_found q xs)

pub none_passes : {X : Type 0} (q : X → Bool) (xs : List X) → find q xs ≡ None → list_any q xs ≡ false
none_passes q xs h = any_is_found q xs ∙ ap is_some h

-- where none passes, all are kept
pub all_stay : {X : Type 0} (q : X → Bool) (xs : List X) → list_any q xs ≡ false → filter (λ x. not (q x)) xs ≡ xs
all_stay q [] h = refl
all_stay q (x ∷ xs) h = let e = or_parts (q x) (list_any q xs) h in rw e.0 (ap (λ ys. x ∷ ys) (all_stay q xs e.1))

-- ---- chains that links make, as lists of slots

-- ---- numbers

pub lt_test : (a b : ℕ) → nat_lt a b ≡ true → a < b
lt_test a b h = grind arith

pub lt_is : (a b : ℕ) → a < b → nat_lt a b ≡ true
lt_is a b h = grind arith

pub eq_test : (a b : ℕ) → nat_eq a b ≡ true → a ≡ b
eq_test a b h = grind arith

pub eq_is : (a b : ℕ) → a ≡ b → nat_eq a b ≡ true
eq_is a b h = grind arith

pub ne_test : (a b : ℕ) → nat_eq a b ≡ false → a ≢ b
ne_test a b h = λ e. let f = eq_is a b e in let g : true ≡ false = sym f ∙ h in cc

-- ---- lists of slots

pub has-split : (k : ℕ) (ks : List ℕ) → is_among k ks ≡ true → (fs : List ℕ) × (rs : List ℕ) × (ks ≡ fs ++ k ∷ rs)
has-split k [] h = cc
has-split k (j ∷ ks) h = go (λ i. has-split k ks i) (nat_eq k j) refl h
  where
    go : (is_among k ks ≡ true → (fs : List ℕ) × (rs : List ℕ) × (ks ≡ fs ++ k ∷ rs)) → (b : Bool) → nat_eq k j ≡ b →
        (b || is_among k ks) ≡ true → (fs : List ℕ) × (rs : List ℕ) × (j ∷ ks ≡ fs ++ k ∷ rs)
    go ih true e i = ([], ks, ap (λ (x : ℕ). x ∷ ks) (sym (eq_test k j e)))
    go ih false e i = let r = ih i in (j ∷ r.0, r.1, ap (λ (l : List ℕ). j ∷ l) r.2)

-- what stands before and after a slot
pub distinct-split : (fs : List ℕ) (k : ℕ) (rs : List ℕ) → distinct (fs ++ k ∷ rs) ≡ true → (is_among k fs ≡ false)
    × (is_among k rs ≡ false)
distinct-split [] k rs h = let e = and_parts (not (is_among k rs)) (distinct rs) h in (refl, not-true (is_among k rs) e.0)
distinct-split (j ∷ fs) k rs h = grind (arith, list_any-append, distinct-split fs k rs)

pub but-split : (fs : List ℕ) (k : ℕ) (rs : List ℕ) → is_among k fs ≡ false → is_among k rs ≡ false →
    without_slot k (fs ++ k ∷ rs) ≡ fs ++ rs
but-split [] k rs h i = rw (eq_is k k refl) (all_stay (nat_eq k) rs i)
but-split (j ∷ fs) k rs h i = grind (arith, but-split fs k rs)

all_apart : (k : ℕ) (ks : List ℕ) → is_among k ks ≡ false → AllByRecursion (λ j. eqb k j ≡ false) ks
all_apart k [] h = tt
all_apart k (j ∷ ks) h = let e = or_parts (nat_eq k j) (is_among k ks) h in (e.0, all_apart k ks e.1)

distinct-IsDistinct : (ks : List ℕ) → distinct ks ≡ true → IsDistinct eqb ks
unfolding IsDistinct
distinct-IsDistinct [] h = tt
distinct-IsDistinct (k ∷ ks) h = grind (arith, all_apart, distinct-IsDistinct ks)

-- distinct numbers below n are at most n
pub distinct_below : (ks : List ℕ) (n : ℕ) → distinct ks ≡ true → ((k : ℕ) → is_among k ks ≡ true → k < n) → length ks ≤ n
distinct_below ks n h l = length-le_from_distinct_below ks n (distinct-IsDistinct ks h) l

-- ---- links

-- From one on, the links lead through these slots to the end.
abbrev pub Leads : List (Option ℕ) → Option ℕ → List ℕ → Option ℕ → Type 0
Leads to at [] end = at ≡ end
Leads to at (k ∷ ks) end = (at ≡ Some k) × (k < length to) × Leads to (get_or to k None) ks end

-- A walk that ends leads through the slots that it visits.
pub walked : (n : ℕ) (to : List (Option ℕ)) (at : Option ℕ) → terminates n to at ≡ true → Leads to at (walk n to at) None
walked zero to None h = refl
walked zero to (Some k) h = cc
walked (suc n) to None h = refl
walked (suc n) to (Some k) h = grind (arith, walked n to (get_or to k None))

-- And the slots that links lead through are those that a walk visits.
pub walk_is : (n : ℕ) (to : List (Option ℕ)) (at : Option ℕ) (ks : List ℕ) → Leads to at ks None → length ks ≤ n →
    (walk n to at ≡ ks) × (terminates n to at ≡ true)
walk_is zero to at [] h l = rw h (refl, refl)
walk_is (suc n) to at [] h l = rw h (refl, refl)
walk_is zero to at (k ∷ ks) h l = absurd (omega arith)
walk_is (suc n) to at (k ∷ ks) h l = grind (arith, walk_is n to (get_or to k None) ks)

-- Links lead one way.
pub Leads-same : (to : List (Option ℕ)) (at : Option ℕ) (ks ls : List ℕ) → Leads to at ks None → Leads to at ls None →
    ks ≡ ls
Leads-same to at [] [] g h = refl
Leads-same to at [] (l ∷ ls) g h = let e : None ≡ Some l = sym g ∙ h.0 in cc
Leads-same to at (k ∷ ks) [] g h = let e : None ≡ Some k = sym h ∙ g.0 in cc
Leads-same to at (k ∷ ks) (l ∷ ls) g h = search (rules, arith, Leads-same to (get_or to k None) ks ls)

pub Leads-append : (to : List (Option ℕ)) (at mid end : Option ℕ) (ks ls : List ℕ) → Leads to at ks mid →
    Leads to mid ls end → Leads to at (ks ++ ls) end
Leads-append to at mid end [] ls g h = rw g h
Leads-append to at mid end (k ∷ ks) ls g h = (g.0, g.1, Leads-append to (get_or to k None) mid end ks ls g.2 h)

pub Leads-split : (to : List (Option ℕ)) (at end : Option ℕ) (ks ls : List ℕ) → Leads to at (ks ++ ls) end →
    (mid : Option ℕ) × Leads to at ks mid × Leads to mid ls end
Leads-split to at end [] ls h = (at, refl, h)
Leads-split to at end (k ∷ ks) ls h = search (rules, arith, Leads-split to (get_or to k None) end ks ls)

-- the link of a slot elsewhere changes
pub Leads-set : (to : List (Option ℕ)) (at end : Option ℕ) (ks : List ℕ) (k : ℕ) (l : Option ℕ) → is_among k ks ≡ false →
    Leads to at ks end → Leads (set to k l) at ks end
Leads-set to at end [] k l n h = h
Leads-set to at end (j ∷ ks) k l n h =
    grind (arith, get_or-set_other, length-set, Leads-set to (get_or to j None) end ks k l)

-- a slot is put first
pub Leads-first : (to : List (Option ℕ)) (at end : Option ℕ) (ks : List ℕ) (k : ℕ) → is_among k ks ≡ false → k < length to →
    Leads to at ks end → Leads (set to k at) (Some k) (k ∷ ks) end
Leads-first to at end ks k n l h = grind (arith, Leads-set, get_or-set_same, length-set)

-- the link of the last slot changes
pub Leads-last : (to : List (Option ℕ)) (at end : Option ℕ) (ks : List ℕ) (k : ℕ) (l : Option ℕ) → is_among k ks ≡ false →
    Leads to at (ks ++ k ∷ []) end → Leads (set to k l) at (ks ++ k ∷ []) l
Leads-last to at end ks k l n h =
    let s = Leads-split to at end ks (k ∷ []) h in
    Leads-append (set to k l) at s.0 l ks (k ∷ []) (Leads-set to at s.0 ks k l n s.1)
    (s.2.0, rw (length-set to k l) s.2.1, get_or-set_same to k l None s.2.1)

-- a chain visits no slot twice
pub Leads-once : (to : List (Option ℕ)) (at : Option ℕ) (k : ℕ) (ks : List ℕ) → Leads to at (k ∷ ks) None →
    is_among k ks ≡ false
Leads-once to at k ks h = go (is_among k ks) refl
  where
    go : (b : Bool) → is_among k ks ≡ b → b ≡ false
    go false e = refl
    go true e =
        let s = has-split k ks e in
        let P : List ℕ → Type 0 = λ l. Leads to (get_or to k None) l None in
        let t = Leads-split to (get_or to k None) None s.0 (k ∷ s.1) (subst P s.2 h.2) in
        let whole : Leads to (Some k) (k ∷ ks) None = (refl, h.1, h.2) in
        let rest : Leads to (Some k) (k ∷ s.1) None = (refl, t.2.1, t.2.2) in
        let same = ap length (Leads-same to (Some k) (k ∷ ks) (k ∷ s.1) whole rest) in
        let long = ap length s.2 in
        let sum = length-append s.0 (k ∷ s.1) in
        absurd (omega arith)

pub Leads-distinct : (to : List (Option ℕ)) (at : Option ℕ) (ks : List ℕ) → Leads to at ks None → distinct ks ≡ true
Leads-distinct to at [] h = refl
Leads-distinct to at (k ∷ ks) h = rw (Leads-once to at k ks h, Leads-distinct to (get_or to k None) ks h.2) refl

pub Leads-within : (to : List (Option ℕ)) (at end : Option ℕ) (ks : List ℕ) (k : ℕ) → Leads to at ks end →
    is_among k ks ≡ true → k < length to
Leads-within to at end [] k h i = cc
Leads-within to at end (j ∷ ks) k h i = grind (arith, Leads-within to (get_or to j None) end ks k)

-- and so is as the walk says
pub chain_is : (to : List (Option ℕ)) (at : Option ℕ) (ks : List ℕ) → Leads to at ks None → (chain to at ≡ ks)
    × (is_chain to at ≡ true)
chain_is to at ks h = walk_is (length to) to at ks h (distinct_below ks (length to) (Leads-distinct to at ks h)
    (λ k i. Leads-within to at None ks k h i))

-- ---- a slot put last, and one taken out

-- The last slot of a list.
abbrev pub EndsWith : List ℕ → Option ℕ → Type 0
EndsWith ks None = ks ≡ []
EndsWith ks (Some p) = (init : List ℕ) × (ks ≡ init ++ p ∷ [])

-- The links, once the slot before leads to another one.
abbrev pub led : (before next : Option ℕ) → List (Option ℕ) → List (Option ℕ)
led None next to = to
led (Some p) next to = set to p next

-- a slot is put last
pub Leads-push : (to : List (Option ℕ)) (at : Option ℕ) (ks : List ℕ) (last : Option ℕ) (k : ℕ) → Leads to at ks None →
    EndsWith ks last → is_among k ks ≡ false → k < length to →
    Leads (led last (Some k) (set to k None)) (first_link last (Some k) at) (ks ++ k ∷ []) None
Leads-push to at ks None k h w n l = grind (arith, get_or-set_same, length-set)
Leads-push to at ks (Some p) k h w n l = subst P (sym w.1) (Leads-append to2 at (Some k) None (w.0 ++ p ∷ [])
    (k ∷ []) front back)
  where
    to1 : List (Option ℕ)
    to1 = set to k None

    to2 : List (Option ℕ)
    to2 = set to1 p (Some k)

    P : List ℕ → Type 0
    P ls = Leads to2 at (ls ++ k ∷ []) None

    init_first : is_among p w.0 ≡ false
    init_first = grind (arith, Leads-distinct, distinct-split)

    front : Leads to2 at (w.0 ++ p ∷ []) (Some k)
    front =
        let Q : List ℕ → Type 0 = λ ls. Leads to1 at ls None in
        Leads-last to1 at None w.0 p (Some k) init_first (subst Q w.1 (Leads-set to at None ks k None n h))

    back : Leads to2 (Some k) (k ∷ []) None
    back = grind (arith, common_steps)

-- a slot is taken out
pub Leads-without : (to : List (Option ℕ)) (at : Option ℕ) (fs : List ℕ) (k : ℕ) (rs : List ℕ) (before : Option ℕ) →
    Leads to at (fs ++ k ∷ rs) None → EndsWith fs before →
    Leads (led before (get_or to k None) to) (first_link before (get_or to k None) at) (fs ++ rs) None
Leads-without to at fs k rs None h w = search (rules, arith)
Leads-without to at fs k rs (Some p) h w =
    let P : List ℕ → Type 0 = λ ls. Leads to at (ls ++ k ∷ rs) None in
    let Q : List ℕ → Type 0 = λ ls. Leads (set to p (get_or to k None)) at (ls ++ rs) None in
    subst Q (sym w.1) (given w.0 (subst P w.1 h))
  where
    given : (init : List ℕ) → Leads to at ((init ++ p ∷ []) ++ k ∷ rs) None →
        Leads (set to p (get_or to k None)) at ((init ++ p ∷ []) ++ rs) None
    given init g =
        let next = get_or to k None in
        let s = Leads-split to at None (init ++ p ∷ []) (k ∷ rs) g in
        let t = Leads-split to at s.0 init (p ∷ []) s.1 in
        let tail : Leads to (Some p) (p ∷ k ∷ rs) None =
        (refl, t.2.1, subst (λ (o : Option ℕ). Leads to o (k ∷ rs) None) (sym t.2.2) s.2) in
        let first = or_parts (nat_eq p k) (is_among p rs) (Leads-once to (Some p) p (k ∷ rs) tail) in
        let whole = Leads-append to at (Some p) None init (p ∷ k ∷ rs)
        (subst (λ (o : Option ℕ). Leads to at init o) t.2.0 t.1) tail in
        let init_first = (distinct-split init p (k ∷ rs) (Leads-distinct to at (init ++ p ∷ k ∷ rs) whole)).0 in
        Leads-append (set to p next) at next None (init ++ p ∷ []) rs (Leads-last to at s.0 init p next init_first s.1)
        (Leads-set to next None rs p next first.1 s.2.2)

-- The slots without one of them.
pub but_is : (to : List (Option ℕ)) (at : Option ℕ) (fs : List ℕ) (k : ℕ) (rs : List ℕ) →
    Leads to at (fs ++ k ∷ rs) None → without_slot k (fs ++ k ∷ rs) ≡ fs ++ rs
but_is to at fs k rs h = grind (arith, Leads-distinct, but-split, distinct-split)

-- The links and the rows of changed slots.

pub length-links : (along : ChainKind) (slots : List Slot) → length (links along slots) ≡ length slots
length-links along slots = length-map slots (link_of along)

-- the link of a slot
pub link_at : (along : ChainKind) (slots : List Slot) (k : ℕ) → k < length slots →
    get_or (links along slots) k None ≡ link_of along (slot_at slots k)
link_at along slots k l = get_or-map (link_of along) slots k blank None l

-- a slot that is read
pub slot_read : (slots : List Slot) (k place : ℕ) (slot : Slot) → k < length slots → place ≡ k →
    get_or slots place slot ≡ slot_at slots k
slot_read slots k place slot l p = rw p (get_or_default slots k slot blank l)

pub links-set : (along : ChainKind) (slots : List Slot) (k : ℕ) (slot : Slot) →
    links along (set slots k slot) ≡ set (links along slots) k (link_of along slot)
links-set along slots k slot = map-set (link_of along) slots k slot

-- the links of the kind that changes
pub links-led : (along : ChainKind) (before next : Option ℕ) (slots : List Slot) →
    links along (relinked along before next slots) ≡ led before next (links along slots)
links-led along before next slots = grind (arith, links-set)

-- the links of another kind
pub links-led_other : (along other : ChainKind) (before next : Option ℕ) (slots : List Slot) →
    ((slot : Slot) → link_of other (with_link along next slot) ≡ link_of other slot) → within before slots ≡ true →
    links other (relinked along before next slots) ≡ links other slots
links-led_other along other None next slots h w = refl
links-led_other along other (Some p) next slots h w =
    let there : p < length slots = lt_test p (length slots) w in
    links-set other slots p (with_link along next (slot_at slots p))
    ∙ (ap (set (links other slots) p) (h (slot_at slots p) ∙ sym (link_at other slots p there))
    ∙ set-get_or (links other slots) p None)

pub length-led : (along : ChainKind) (before next : Option ℕ) (slots : List Slot) →
    length (relinked along before next slots) ≡ length slots
length-led along before next slots = search (rules, arith)

pub row-set_same : (slots : List Slot) (k : ℕ) (slot : Slot) → k < length slots → row_at (set slots k slot) k ≡ slot.row
row-set_same slots k slot l = ap (λ (s : Slot). s.row) (get_or-set_same slots k slot blank l)

pub row-set_other : (slots : List Slot) (k j : ℕ) (slot : Slot) → j ≢ k → row_at (set slots k slot) j ≡ row_at slots j
row-set_other slots k j slot n = ap (λ (s : Slot). s.row) (get_or-set_other slots k j slot blank n)

-- a changed link leaves the rows
pub row-led : (along : ChainKind) (before next : Option ℕ) (slots : List Slot) (j : ℕ) → within before slots ≡ true →
    row_at (relinked along before next slots) j ≡ row_at slots j
row-led along before next slots j w = grind (arith, row-set_other, row-set_same)

-- what is made of each slot, where it is made of each alike
pub map_same : {X : Type 0} (f g : ℕ → X) (ks : List ℕ) → ((k : ℕ) → is_among k ks ≡ true → f k ≡ g k) → map f ks ≡ map g ks
map_same f g [] h = refl
map_same {X = X} f g (k ∷ ks) h = grind (arith, map_same f g ks)

-- The chains of a table, with the slots that they lead through named.

pub record Holds {C : ℕ} (away : List ℕ) (chains : Chains C) (held spare : List ℕ) (ids : ℕ → List ℕ) : Type 0 where
  pub aged : Leads (links Newer chains.slots) chains.oldest held None
  pub back : Leads (links Older chains.slots) chains.newest (reverse held) None
  pub freed : Leads (links Next chains.slots) chains.free spare None
  pub found : (b : ℕ) → Leads (links Next chains.slots) (head b chains) (ids b) None
  pub by_id : (b k : ℕ) → is_among k (ids b) ≡ (is_among k held && nat_eq (bucket (row_at chains.slots k).id) b)
  pub in_free : (k : ℕ) → is_among k spare ≡ (not (is_among k (away ++ held)) && nat_lt k (length chains.slots))
  pub apart : distinct (away ++ held) ≡ true
  pub inside : (k : ℕ) → is_among k (away ++ held) ≡ true → k < length chains.slots
  pub all : length (away ++ held) + length spare ≡ length chains.slots

pub opened : {C : ℕ} (away : List ℕ) (chains : Chains C) → Linked away chains →
    Holds away chains (slots_by_age chains) (free_slots chains) (λ b. id_slots b chains)
opened away chains l = search (rules, arith, walked)

pub closed : {C : ℕ} (away : List ℕ) (chains : Chains C) (held spare : List ℕ) (ids : ℕ → List ℕ) →
    Holds away chains held spare ids → Linked away chains
closed away chains held spare ids h = search (rules, arith, chain_is)

pub age_is : {C : ℕ} (away : List ℕ) (chains : Chains C) (held spare : List ℕ) (ids : ℕ → List ℕ) →
    Holds away chains held spare ids → slots_by_age chains ≡ held
age_is away chains held spare ids h = (chain_is (links Newer chains.slots) chains.oldest held h.aged).0

-- the newest slot is the last one
pub ends_newest : (to : List (Option ℕ)) (newest : Option ℕ) (ks : List ℕ) → Leads to newest (reverse ks) None →
    EndsWith ks newest
ends_newest to newest ks h = go (reverse ks) newest refl h
  where
    go : (rs : List ℕ) (at : Option ℕ) → reverse ks ≡ rs → Leads to at rs None → EndsWith ks at
    go [] at e h = subst (EndsWith ks) (sym h) (sym (reverse-reverse ks) ∙ ap reverse e)
    go (p ∷ rs) at e h = subst (EndsWith ks) (sym h.0)
        (reverse rs, sym (reverse-reverse ks) ∙ (ap reverse e ∙ reverse-append (p ∷ []) rs))

or_swap : (a b : Bool) → (a || (b || false)) ≡ (b || a)
or_swap a b = search (rules, arith)

pub has-push : (k : ℕ) (ks : List ℕ) (j : ℕ) → is_among j (ks ++ k ∷ []) ≡ is_among j (k ∷ ks)
has-push k ks j = list_any-append (nat_eq j) ks (k ∷ []) ∙ or_swap (is_among j ks) (nat_eq j k)

pub has-reverse : (k : ℕ) (ks : List ℕ) → is_among k (reverse ks) ≡ is_among k ks
has-reverse k [] = refl
has-reverse k (j ∷ ks) = grind (arith, common_steps, has-reverse k ks)

-- One step of a walk.

-- a link that leads to a slot goes on from there
pub chain_step : (to : List (Option ℕ)) (k : ℕ) → is_chain to (Some k) ≡ true →
    (k < length to) × (is_chain to (get_or to k None) ≡ true) × (chain to (Some k) ≡ k ∷ chain to (get_or to k None))
chain_step to k h =
    let s = walked (length to) to (Some k) h in
    go (chain to (Some k)) refl s
  where
    go : (ks : List ℕ) → chain to (Some k) ≡ ks → Leads to (Some k) ks None → (k < length to)
        × (is_chain to (get_or to k None) ≡ true) × (chain to (Some k) ≡ k ∷ chain to (get_or to k None))
    go ks e g = search (rules, arith, chain_is)

-- what a walk gives
pub walk_step : (slots : List Slot) (along : ChainKind) (at : Option ℕ) (k place : ℕ) (slot : Slot) (next : Option ℕ) →
    is_chain (links along slots) at ≡ true → at ≡ Some k → place ≡ k → slot ≡ get_or slots place slot →
    next ≡ link_of along slot → (is_chain (links along slots) next ≡ true)
    × (numbered slots (chain (links along slots) at) ≡ (k, slot) ∷ numbered slots (chain (links along slots) next))
walk_step slots along at k place slot next h a p t n =
    let to = links along slots in
    let s : slot ≡ get_or slots k slot = rw (sym p) t in
    let step = chain_step to k (rw a at h) in
    let long = length-map slots (link_of along) in
    let within : k < length slots = omega arith in
    let link : get_or to k None ≡ next = get_or-map (link_of along) slots k slot None within
    ∙ (ap (link_of along) (sym s) ∙ sym n) in
    let P : Option ℕ → Type 0 = λ o. (is_chain to o ≡ true) in
    let there : slot_at slots k ≡ slot = get_or_default slots k blank slot within ∙ sym s in
    let here : chain to at ≡ k ∷ chain to next = ap (chain to) a
    ∙ (step.2 ∙ ap (λ (o : Option ℕ). k ∷ chain to o) link) in
    (subst P link step.1, ap (numbered slots) here ∙ ap (λ (x : Slot). (k, x) ∷ numbered slots (chain to next)) there)
