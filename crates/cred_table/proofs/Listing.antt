-- The discoverable rows of an RP, as the rows are gone through from the last: what was gathered, and what the rows that
-- are left list, is what all rows list.
use Rattle.std.{proofs.lemmas.Grind.common_steps, specs.List.push}
use Rattle.std.proofs.Common.{rules, ◌≡◌, ℕ, ◌<◌, ◌≤◌, List, [], ◌∷◌, ◌++◌, length, reverse, Bool, true, false, cond}
use Rattle.std.proofs.Common.{◌∙◌, ap, arith, filter, length-append, map, refl}
use Rattle.std.proofs.lemmas.List.{length-map, length-reverse, reverse-append, Elements.filter-append}
use Rattle.cred_table.specs.declared.{row.Row.Row, slot.Slot.Slot, chains.Chains.Chains}
use Rattle.cred_table.specs.{Rows.is_listed, Rows.discoverable_rows, Rows.ids, Slots.row_at, Slots.slots_by_age, Slots.rows_in}
use Rattle.cred_table.{proofs.Stored.length-filter, specs.Slots.numbered}

-- no more rows are listed than there are
pub length-listed : (rp : List ℕ) (rows : List Row) → length (ids (discoverable_rows rp rows)) ≤ length rows
length-listed rp rows = grind (arith, length-filter, length-map, length-reverse)

-- the last row is listed first, or not at all
listed_last : (rp : List ℕ) (rows : List Row) (x : Row) (test : Bool) → is_listed rp x ≡ test →
    ids (discoverable_rows rp (rows ++ x ∷ [])) ≡ cond test (x.id ∷ ids (discoverable_rows rp rows)) (ids (discoverable_rows rp rows))
listed_last rp rows x test tested = grind (arith, filter-append, reverse-append)

-- one row less is left, and it was gathered
pub listed_taken : (rp : List ℕ) (rows before left : List Row) (x : Row) (gathered after : List (List ℕ)) →
    before ≡ push left x → is_listed rp x ≡ true → after ≡ gathered ++ x.id ∷ [] →
    gathered ++ ids (discoverable_rows rp before) ≡ ids (discoverable_rows rp rows) → after ++ ids (discoverable_rows rp left) ≡ ids (discoverable_rows rp rows)
listed_taken rp rows before left x gathered after stands tested last all = grind (arith, common_steps)

-- one row less is left, and it isn't listed
pub listed_passed : (rp : List ℕ) (rows before left : List Row) (x : Row) (gathered : List (List ℕ)) →
    before ≡ push left x → is_listed rp x ≡ false →
    gathered ++ ids (discoverable_rows rp before) ≡ ids (discoverable_rows rp rows) → gathered ++ ids (discoverable_rows rp left) ≡ ids (discoverable_rows rp rows)
listed_passed rp rows before left x gathered stands tested all = grind (arith, common_steps)

-- there is room for a row that is listed
pub capacity_left : (rp : List ℕ) (rows before left : List Row) (x : Row) (gathered : List (List ℕ)) (capacity : ℕ) →
    before ≡ push left x → is_listed rp x ≡ true →
    gathered ++ ids (discoverable_rows rp before) ≡ ids (discoverable_rows rp rows) → length rows ≤ capacity → length gathered < capacity
capacity_left rp rows before left x gathered capacity stands tested all few =
    let first = ap length (ap (λ (l : List Row). ids (discoverable_rows rp l)) stands ∙ listed_last rp left x true tested) in
    let joined = length-append gathered (ids (discoverable_rows rp before)) in
    let whole = ap length all in
    let most = length-listed rp rows in
    omega arith

-- The discoverable rows of an RP, as the slots are gone through from the newest on.

-- What slots list, in their order.
abbrev pub listed_left : List ℕ → List (ℕ × Slot) → List (List ℕ)
listed_left rp items = ids (filter (is_listed rp) (map (λ (item : ℕ × Slot). item.1.row) items))

rows_numbered : (slots : List Slot) (ks : List ℕ) → map (λ (item : ℕ × Slot). item.1.row) (numbered slots ks) ≡ map
    (row_at slots) ks
rows_numbered slots [] = refl
rows_numbered slots (k ∷ ks) = ap (λ (rows : List Row). row_at slots k ∷ rows) (rows_numbered slots ks)

map-reverse : (row : ℕ → Row) (ks : List ℕ) → map row (reverse ks) ≡ reverse (map row ks)
map-reverse row [] = refl
map-reverse row (k ∷ ks) = grind (arith, common_steps, map-reverse row ks)

filter-reverse : (p : Row → Bool) (rows : List Row) → filter p (reverse rows) ≡ reverse (filter p rows)
filter-reverse p [] = refl
filter-reverse p (r ∷ rows) = grind (arith, common_steps, filter-reverse p rows)

-- all slots from the newest on list what the rows list
pub listed_all : {C : ℕ} (rp : List ℕ) (chains : Chains C) →
    listed_left rp (numbered chains.slots (reverse (slots_by_age chains))) ≡ ids (discoverable_rows rp (rows_in chains))
listed_all rp chains = search (rules, arith, filter-reverse, map-reverse, rows_numbered)

pub listed_begun : {C : ℕ} (rp : List ℕ) (chains : Chains C) (out : List (List ℕ)) (items : List (ℕ × Slot)) →
    out ≡ [] → items ≡ numbered chains.slots (reverse (slots_by_age chains)) →
    out ++ listed_left rp items ≡ ids (discoverable_rows rp (rows_in chains))
listed_begun rp chains out items o i = rw (o, i) (listed_all rp chains)

-- there is room for one more
pub listed_capacity : (rp : List ℕ) (k : ℕ) (slot : Slot) (before left : List (ℕ × Slot)) (gathered : List (List ℕ))
    (rows : List Row) (capacity : ℕ) → before ≡ (k, slot) ∷ left → is_listed rp slot.row ≡ true →
    gathered ++ listed_left rp before ≡ ids (discoverable_rows rp rows) → length rows ≤ capacity → length gathered < capacity
listed_capacity rp k slot before left gathered rows capacity stands tested last few =
    let first : listed_left rp before ≡ slot.row.id ∷ listed_left rp left = ap (listed_left rp) stands
    ∙ rw tested refl in
    let long = ap length first in
    let joined = length-append gathered (listed_left rp before) in
    let whole = ap length last in
    let most = length-listed rp rows in
    omega arith
