-- Rows no two of which clash: their trees, their places, and one that is raised.
use Rattle.std.proofs.Common.{rules, ◌≡◌, List, [], ◌∷◌, ◌++◌, map, Bool, true, false, not, refl, ap, filter, ℕ, ◌+◌}
use Rattle.std.proofs.Common.{◌<◌, ◌≤◌, length, ◌&&◌, ◌⊎◌, None, is_some, IsTrue, arith, cond, Option, Some}
use Rattle.std.proofs.Common.{option_map, sym, ◌∙◌, subst, append_assoc, get_or, set, inl}
use Rattle.std.proofs.lemmas.List.Folds.{list_any-append}
use Rattle.std.proofs.lemmas.List.{length-append, append-nil, length-map}
use Rattle.std.specs.List.{list_any, find, position, position_or_len, refill, remove}
use Rattle.cred_table.specs.declared.row.Row.{Row}
use Rattle.cred_table.specs.Rows.{no_two, has_id, is_user, replaces, same_id, rows_with, ValidRows, without}
use Rattle.cred_table.specs.Rows.{rows_incremented, counter_of}
use Rattle.cred_table.proofs.Chain.{bytes_sym, none_passes, all_stay, any_is_found, bytes_from, same_bytes}
use Rattle.ctap_cbor.specs.Tree.{Bytes, Flag, Null, Tree, Plain, Map, Pairs, no_pairs, pair, depth}
use Rattle.ctap_cbor.specs.Grammar.{head}
use Rattle.ctap_cbor.specs.Reading.{Reading}
use Rattle.ctap_cbor.specs.Laws.{NoEncodingIsAPrefix}
use Rattle.ctap_cbor.specs.Grammar.{IsLawful, IsEncoding}
use Rattle.cred_table.specs.Snapshots.{IsRow, row_tree, clashes}
use Rattle.cred_table.specs.Snapshots.{Reads, encode_row, ReadsEntry}
use Rattle.std.proofs.lemmas.List.Elements.{filter-append}
use Rattle.std.proofs.lemmas.Bool.{or_parts, or_from, and_parts, not-true}
use Rattle.std.proofs.lemmas.List.Sums.{length-filter as length-of-filter, count_by-le-length}
use Rattle.std.proofs.lemmas.Grind.{common_steps}

-- ---- rows no two of which clash

pub none_kept : (p q : Row → Bool) (rows : List Row) → list_any q rows ≡ false → list_any q (filter p rows) ≡ false
none_kept p q [] h = refl
none_kept p q (r ∷ rows) h = grind (arith, none_kept p q rows)

-- rows that are left of such rows
pub no_two-filter : (clash : Row → Row → Bool) (p : Row → Bool) (rows : List Row) → no_two clash rows ≡ true →
    no_two clash (filter p rows) ≡ true
no_two-filter clash p [] h = refl
no_two-filter clash p (r ∷ rows) h = grind (arith, none_kept, no_two-filter clash p rows)

-- one more row, with which none clashes
pub no_two-append : (clash : Row → Row → Bool) (new : Row) (rows : List Row) → no_two clash rows ≡ true →
    list_any (λ r. clash r new) rows ≡ false → no_two clash (rows ++ new ∷ []) ≡ true
no_two-append clash new [] h n = refl
no_two-append clash new (r ∷ rows) h n = grind (arith, list_any-append, no_two-append clash new rows)

any_map : (q : Row → Bool) (s : Row → Row) (t : Row → Bool) → ((r : Row) → t (s r) ≡ q r) → (rows : List Row) →
    list_any t (map s rows) ≡ list_any q rows
any_map q s t h [] = refl
any_map q s t h (r ∷ rows) = rw (h r, any_map q s t h rows) refl

-- rows changed in what no clash asks
pub no_two-map : (clash : Row → Row → Bool) (s : Row → Row) → ((a b : Row) → clash (s a) (s b) ≡ clash a b) →
    (rows : List Row) → no_two clash (map s rows) ≡ no_two clash rows
no_two-map clash s h [] = refl
no_two-map clash s h (r ∷ rows) = rw (any_map (clash r) s (clash (s r)) (h r) rows, no_two-map clash s h rows) refl

-- Rows after the making of a new one.

pub replaces_sym : (r s : Row) → replaces r s ≡ replaces s r
replaces_sym r s = grind (arith, bytes_sym)

none_found : {X : Type 0} (xs : List X) → find (λ _. false) xs ≡ None
none_found [] = refl
none_found (x ∷ xs) = none_found xs

-- nothing is replaced by a row that isn't discoverable, or that is alone
pub none_replaced : (new : Row) (rows : List Row) →
    (IsTrue new.discoverable → find (is_user new.rp new.user.items) rows ≡ None) → find (replaces new) rows ≡ None
none_replaced new rows h = go new.discoverable h
  where
    go : (b : Bool) → (IsTrue b → find (is_user new.rp new.user.items) rows ≡ None) →
        find (λ old. b && is_user new.rp new.user.items old) rows ≡ None
    go true h = h refl
    go false h = none_found rows

-- a discoverable row replaces the one of its RP and user
pub one_replaced : (new : Row) (rows : List Row) → IsTrue new.discoverable →
    find (replaces new) rows ≡ find (is_user new.rp new.user.items) rows
one_replaced new rows h = search (rules, arith)

-- nothing is replaced
pub stored_last : (new : Row) (rows : List Row) → find (replaces new) rows ≡ None → rows_with new rows ≡ rows ++ new ∷ []
stored_last new rows h = ap (λ (kept : List Row). kept ++ new ∷ [])
    (all_stay (replaces new) rows (none_passes (replaces new) rows h))

pub length-filter : (p : Row → Bool) (rows : List Row) → length (filter p rows) ≤ length rows
length-filter p [] = omega arith
length-filter p (r ∷ rows) = search (rules, arith, length-filter p rows)

-- where one is taken out, there is room
pub one_less : (q : Row → Bool) (rows : List Row) → is_some (find q rows) ≡ true →
    length (filter (λ r. not (q r)) rows) + 1 ≤ length rows
one_less q [] h = cc
one_less q (r ∷ rows) h = search (rules, arith, length-filter, one_less q rows)

-- no row that stays has the new one's id, where none had it
pub fresh_stays : (id : List ℕ) (new : Row) (p : Row → Bool) (rows : List Row) → new.id ≡ id →
    list_any (has_id id) rows ≡ false → list_any (λ r. same_id r new) (filter p rows) ≡ false
fresh_stays id new p [] i h = refl
fresh_stays id new p (r ∷ rows) i h = grind (arith, fresh_stays id new p rows i)

-- no row that stays is replaced by the new one
pub others_stay : (new : Row) (rows : List Row) →
    list_any (λ r. replaces r new) (filter (λ old. not (replaces new old)) rows) ≡ false
others_stay new [] = refl
others_stay new (r ∷ rows) = grind (arith, replaces_sym, others_stay new rows)

-- Lawful rows stay lawful as a new one is stored: its id is new, and there is room or it replaces one.
pub Lawful-stored : (capacity : ℕ) (new : Row) (rows : List Row) → ValidRows capacity rows →
    find (has_id new.id) rows ≡ None →
    (length rows < capacity) ⊎ (is_some (find (replaces new) rows) ≡ true) → ValidRows capacity (rows_with new rows)
Lawful-stored capacity new rows lawful fresh space = record {
  distinct = no_two-append same_id new kept (no_two-filter same_id (λ old. not (replaces new old)) rows lawful.distinct)
      (fresh_stays new.id new (λ old. not (replaces new old)) rows refl (none_passes (has_id new.id) rows fresh));
  one_each = no_two-append replaces new kept
      (no_two-filter replaces (λ old. not (replaces new old)) rows lawful.one_each) (others_stay new rows);
  few = let l = length-append kept (new ∷ []) in let k = fits space in omega arith;
}
  where
    kept : List Row
    kept = filter (λ old. not (replaces new old)) rows

    fits : (length rows < capacity) ⊎ (is_some (find (replaces new) rows) ≡ true) →
        length (filter (λ old. not (replaces new old)) rows) + 1 ≤ capacity
    fits h = search (rules, arith, length-filter, one_less)

-- ---- rows by their trees: each has a text, and a tree tells its row

pub row_lawful : (named : Bool) (row : Row) → IsRow named row → IsLawful (row_tree named row)
unfolding head
row_lawful named row is = search (rules, arith)

pub row_flat : (named : Bool) (row : Row) → depth (row_tree named row) ≡ 1
row_flat named row = search (rules, arith)

pub row_encoding : (named : Bool) (row : Row) → IsRow named row → IsEncoding (row_tree named row) (encode_row named row)
row_encoding named row is = record { lawful = row_lawful named row is; spelled = refl }

-- where one row's text stands, no other row's does
pub row_same : (none : NoEncodingIsAPrefix) → (named : Bool) (a b : Row) (x y : List ℕ) → IsRow named a → IsRow named b →
    encode_row named a ++ x ≡ encode_row named b ++ y → row_tree named a ≡ row_tree named b
row_same none named a b x y p q e = (none (row_tree named a) (row_tree named b) (encode_row named a)
    (encode_row named b) x y (row_encoding named a p) (row_encoding named b q) e).0

-- ---- what a tree tells of its row

abbrev pub pairs_in : Tree → Pairs
pairs_in (Map ps) = ps
pairs_in _ = no_pairs

abbrev pub first_of_pairs : Pairs → Tree
first_of_pairs no_pairs = Plain Null
first_of_pairs (pair k v ps) = v

abbrev pub beyond_first : Pairs → Pairs
beyond_first no_pairs = no_pairs
beyond_first (pair k v ps) = ps

abbrev pub bytes_in : Tree → List ℕ
bytes_in (Plain (Bytes s)) = s
bytes_in _ = []

abbrev pub flag_in : Tree → Bool
flag_in (Plain (Flag b)) = b
flag_in _ = false

-- ---- whether a row clashes

is_some_map : {X Y : Type 0} (f : X → Y) (o : Option X) → is_some o ≡ is_some (option_map f o)
is_some_map f o = search (rules, arith)

-- a search by id tells
pub found_by_id : {X : Type 0} (f : X → Row) (o : Option X) (id : List ℕ) (rows : List Row) →
    option_map f o ≡ find (has_id id) rows → is_some o ≡ list_any (has_id id) rows
found_by_id f o id rows e = is_some_map f o ∙ ap is_some e ∙ sym (any_is_found (has_id id) rows)

-- and by the user, if it is discoverable
pub clash_hidden : (row : Row) (rows : List Row) → list_any (has_id row.id) rows ≡ false → row.discoverable ≡ false →
    clashes row rows ≡ false
clash_hidden row rows e hidden = grind (arith, none_passes, none_replaced)

pub clash_by_user : (row : Row) (rows : List Row) (user : List ℕ) (o : Option (List ℕ)) →
    list_any (has_id row.id) rows ≡ false → row.discoverable ≡ true → user ≡ row.user.items →
    o ≡ option_map (λ row. row.id) (find (is_user row.rp user) rows) → is_some o ≡ clashes row rows
clash_by_user row rows user o e shown same is = grind (arith, any_is_found, one_replaced)

-- what may be put where nothing clashes
pub no_clash : (row : Row) (rows : List Row) → clashes row rows ≡ false → (find (has_id row.id) rows ≡ None)
    × (IsTrue row.discoverable → find (is_user row.rp row.user.items) rows ≡ None)
no_clash row rows e = grind (arith, any_is_found)

-- a row was read, and put or not
pub entry_read : (none : NoEncodingIsAPrefix) → (named : Bool) (old new : Reading) (row : Row) (rows more : List Row)
    (put : Bool) → Reads (IsRow named) (encode_row named) old new (Some row) → put ≡ not (clashes row rows) →
    more ≡ cond (clashes row rows) rows (rows ++ row ∷ []) → ReadsEntry named old new rows more put
entry_read none named old new row rows more put r e f = grind (arith, row_same)

-- ---- lawful rows don't clash with one another

none_before : (clash : Row → Row → Bool) (before : List Row) (row : Row) (after : List Row) →
    no_two clash (before ++ row ∷ after) ≡ true → list_any (λ r. clash r row) before ≡ false
none_before clash [] row after h = refl
none_before clash (r ∷ rows) row after h = grind (arith, list_any-append, none_before clash rows row after)

-- so each may be put after those before it
pub free_before : (capacity : ℕ) (rows before : List Row) (row : Row) (rest after : List Row) → ValidRows capacity rows →
    before ++ rest ≡ rows → rest ≡ row ∷ after → clashes row before ≡ false
free_before capacity rows before row rest after lawful e f = grind (arith, none_before, replaces_sym)

-- Rows that are copied one after another, except the one with an id.

-- These are the rows that were copied of those before the ones that are left.
pub record Copied (id : List ℕ) (rows left to : List Row) : Type 0 where
  pub done : List Row
  pub all : done ++ left ≡ rows
  pub copied : to ≡ without id done

joined : (rows left rest done : List Row) (row : Row) → left ≡ row ∷ rest → done ++ left ≡ rows →
    (done ++ row ∷ []) ++ rest ≡ rows
joined rows left rest done row first all = append_assoc done (row ∷ []) rest ∙ ap (λ l. done ++ l) (sym first) ∙ all

pub one_copied : (id : List ℕ) (rows left rest : List Row) (row copy : Row) (old new : List Row) → left ≡ row ∷ rest →
    not (has_id id row) ≡ true → copy ≡ row → Copied id rows left old → new ≡ old ++ copy ∷ [] → Copied id rows rest new
one_copied id rows left rest row copy old new first other same w put = record {
  done = w.done ++ row ∷ [];
  all = joined rows left rest w.done row first w.all;
  copied = put ∙ ap (λ r. old ++ r ∷ []) same ∙ ap (λ l. l ++ row ∷ []) w.copied
      ∙ ap (λ b. without id w.done ++ cond b (row ∷ []) []) (sym other)
      ∙ sym (filter-append (λ r. not (has_id id r)) w.done (row ∷ []));
}

pub one_left_out : (id : List ℕ) (rows left rest : List Row) (row : Row) (to : List Row) → left ≡ row ∷ rest →
    not (has_id id row) ≡ false → Copied id rows left to → Copied id rows rest to
one_left_out id rows left rest row to first is w = record {
  done = w.done ++ row ∷ [];
  all = joined rows left rest w.done row first w.all;
  copied = w.copied ∙ sym (append-nil (without id w.done)) ∙ ap (λ b. without id w.done ++ cond b (row ∷ []) [])
      (sym is) ∙ sym (filter-append (λ r. not (has_id id r)) w.done (row ∷ []));
}

-- What a table has capacity for, and what clashes with nothing, of rows that are kept in one.
pub record MayBePut (capacity : ℕ) (row : Row) (to : List Row) : Type 0 where
  pub space : length to < capacity
  pub fresh : find (has_id row.id) to ≡ None
  pub alone : IsTrue row.discoverable → find (is_user row.rp row.user.items) to ≡ None

pub may_be_put : (capacity : ℕ) (id : List ℕ) (rows left rest : List Row) (row copy : Row) (to : List Row) →
    ValidRows capacity rows → left ≡ row ∷ rest → copy ≡ row → Copied id rows left to → MayBePut capacity copy to
may_be_put capacity id rows left rest row copy to lawful first same w = subst (λ r. MayBePut capacity r to) (sym same)
    (subst (MayBePut capacity row) (sym w.copied) (record {
      space = omega (
        arith,
        length-of-filter (λ r. not (has_id id r)) w.done,
        count_by-le-length (λ r. not (has_id id r)) w.done,
        ap length (sym w.all ∙ ap (λ l. w.done ++ l) first),
        length-append w.done (row ∷ rest),
        lawful.few,
      );
      fresh = (no_clash row (without id w.done) apart).0;
      alone = (no_clash row (without id w.done) apart).1;
    }))
  where
    free : clashes row w.done ≡ false
    free = free_before capacity rows w.done row left rest lawful w.all first

    apart : clashes row (without id w.done) ≡ false
    apart =
        let both = or_parts (list_any (has_id row.id) w.done) (list_any (replaces row) w.done) free in
        or_from (list_any (has_id row.id) (without id w.done)) (list_any (replaces row) (without id w.done))
        (none_kept (λ r. not (has_id id r)) (has_id row.id) w.done both.0)
        (none_kept (λ r. not (has_id id r)) (replaces row) w.done both.1)

-- ---- rows with one counter raised

-- Lawful rows stay lawful as a counter is raised.
pub Lawful-raised : (capacity : ℕ) (id : List ℕ) (rows : List Row) → ValidRows capacity rows →
    ValidRows capacity (rows_incremented id rows)
Lawful-raised capacity id rows lawful = grind (arith, length-map, no_two-map)

-- ---- the row with an id and its place, in rows whose ids are distinct

-- no other row has the id of a row
pub no_other : (id : List ℕ) (r : Row) (rows : List Row) → has_id id r ≡ true → list_any (same_id r) rows ≡ false →
    list_any (has_id id) rows ≡ false
no_other id r [] h n = refl
no_other id r (s ∷ rows) h n = grind (arith, bytes_from, or_parts, no_other id r rows h)

-- a row that is found stands at a place
pub found_within : {X : Type 0} (p : X → Bool) (xs : List X) → is_some (find p xs) ≡ true →
    position_or_len p xs < length xs
found_within p [] h = cc
found_within p (x ∷ xs) h = search (rules, arith, found_within p xs)

-- and is the one that is found
pub found_there : (p : Row → Bool) (rows : List Row) (x : Row) → is_some (find p rows) ≡ true →
    x ≡ get_or rows (position_or_len p rows) x → find p rows ≡ Some x
found_there p [] x h e = cc
found_there p (r ∷ rows) x h e = search (rules, arith, found_there p rows x)

-- taking out the row at the place of the id takes out the row with the id
pub remove_is : (id : List ℕ) (rows : List Row) → no_two same_id rows ≡ true → is_some (find (has_id id) rows) ≡ true →
    remove rows (position_or_len (has_id id) rows) ≡ without id rows
remove_is id [] d h = cc
remove_is id (r ∷ rows) d h =
    let e = and_parts (not (list_any (same_id r) rows)) (no_two same_id rows) d in
    go (has_id id r) refl (not-true (list_any (same_id r) rows) e.0) (λ i. remove_is id rows e.1 i) h
  where
    go : (b : Bool) → has_id id r ≡ b → list_any (same_id r) rows ≡ false →
        (is_some (find (has_id id) rows) ≡ true → remove rows (position_or_len (has_id id) rows) ≡ without id rows) →
        is_some (cond b (Some r) (find (has_id id) rows)) ≡ true →
        remove (r ∷ rows) (cond (not b) (1 + position_or_len (has_id id) rows) 0) ≡ cond (not b) (r ∷ without id rows)
        (without id rows)
    go true i n ih h = sym (all_stay (has_id id) rows (no_other id r rows i n))
    go false i n ih h = search (rules, arith)

-- so the rows that have the new one last, once the one at that place is taken out, are these
pub replaced_rows : (id : List ℕ) (new : Row) (rows kept after : List Row) (place : ℕ) →
    is_some (find (has_id id) rows) ≡ true → no_two same_id rows ≡ true →
    place ≡ position_or_len (has_id id) rows → kept ≡ remove rows place → after ≡ kept ++ new ∷ [] →
    after ≡ without id rows ++ new ∷ []
replaced_rows id new rows kept after place there distinct at taken last = search (rules, arith, remove_is)

raised_none : (id : List ℕ) (rows : List Row) → list_any (has_id id) rows ≡ false → rows_incremented id rows ≡ rows
raised_none id [] h = refl
raised_none id (r ∷ rows) h = grind (arith, raised_none id rows)

-- raising the counter of the row at the place of the id raises that of the row with the id
pub set_raised : (id : List ℕ) (rows : List Row) (x : Row) → no_two same_id rows ≡ true →
    is_some (find (has_id id) rows) ≡ true → x ≡ get_or rows (position_or_len (has_id id) rows) x →
    set rows (position_or_len (has_id id) rows) (record x { counter = x.counter + 1 }) ≡ rows_incremented id rows
set_raised id [] x d h j = cc
set_raised id (r ∷ rows) x d h j = grind (arith, no_other, raised_none, set_raised id rows x)

-- a place is found where a row is
pub place_found : {X : Type 0} (p : X → Bool) (xs : List X) → is_some (find p xs) ≡ true →
    position p xs ≡ Some (position_or_len p xs)
place_found p xs h = let less = found_within p xs h in grind arith

-- the place that `raise` writes
pub written_is : (id : List ℕ) (rows seen : List Row) (x : Row) (place : ℕ) → no_two same_id rows ≡ true →
    is_some (find (has_id id) rows) ≡ true →
    place ≡ position_or_len (has_id id) rows → seen ≡ rows → x ≡ get_or seen place x →
    refill (length rows) rows
    (set seen place (record (get_or seen place x) { counter = (get_or seen place x).counter + 1 })) ≡ rows_incremented id rows
written_is id rows seen x place distinct there at same is = grind (arith, common_steps, set_raised)

-- and the counter that it reads
pub counter_is : (id : List ℕ) (rows seen : List Row) (x : Row) (place : ℕ) → is_some (find (has_id id) rows) ≡ true →
    place ≡ position_or_len (has_id id) rows → seen ≡ rows → x ≡ get_or seen place x →
    (get_or seen place x).counter ≡ counter_of id rows
counter_is id rows seen x place there at same is = search (rules, arith, found_there)

-- The row that a new one replaces, in lawful rows.

-- what a new row replaces, it would be replaced by as well
same_account : (new a b : Row) → replaces new a ≡ true → replaces new b ≡ replaces a b
same_account new a b h = search (rules, arith)

-- no second one is replaced
no_second : (new r : Row) (rows : List Row) → replaces new r ≡ true → list_any (replaces r) rows ≡ false →
    list_any (replaces new) rows ≡ false
no_second new r [] h n = refl
no_second new r (s ∷ rows) h n = grind (arith, or_parts, same_account, no_second new r rows h)

-- the id of a row that is found is the id of a row
pub id_found : (q : Row → Bool) (id : List ℕ) (rows : List Row) →
    option_map (λ (r : Row). r.id) (find q rows) ≡ Some id → is_some (find (has_id id) rows) ≡ true
id_found q id [] h = cc
id_found q id (r ∷ rows) h = search (rules, arith, id_found q id rows)

-- the row with the id of the one that is replaced is that one
pub without_is : (id : List ℕ) (new : Row) (rows : List Row) → no_two same_id rows ≡ true →
    no_two replaces rows ≡ true → option_map (λ (r : Row). r.id) (find (replaces new) rows) ≡ Some id →
    without id rows ≡ filter (λ old. not (replaces new old)) rows
without_is id new [] d o h = cc
without_is id new (r ∷ rows) d o h =
    let d2 = and_parts (not (list_any (same_id r) rows)) (no_two same_id rows) d in
    let o2 = and_parts (not (list_any (replaces r) rows)) (no_two replaces rows) o in
    go (replaces new r) refl (not-true (list_any (same_id r) rows) d2.0) (not-true (list_any (replaces r) rows) o2.0)
    (λ e. without_is id new rows d2.1 o2.1 e) h
  where
    other : (b : Bool) → has_id id r ≡ b → list_any (same_id r) rows ≡ false →
        without id rows ≡ filter (λ old. not (replaces new old)) rows → is_some (find (has_id id) rows) ≡ true →
        cond (not b) (r ∷ without id rows) (without id rows) ≡ r ∷ filter (λ old. not (replaces new old)) rows
    other true i n ih f = let none = no_other id r rows i n in let some = any_is_found (has_id id) rows ∙ f in cc
    other false i n ih f = ap (λ (ys : List Row). r ∷ ys) ih

    go : (b : Bool) → replaces new r ≡ b → list_any (same_id r) rows ≡ false → list_any (replaces r) rows ≡ false →
        (option_map (λ (r : Row). r.id) (find (replaces new) rows) ≡ Some id →
        without id rows ≡ filter (λ old. not (replaces new old)) rows) →
        option_map (λ (r : Row). r.id) (cond b (Some r) (find (replaces new) rows)) ≡ Some id →
        without id (r ∷ rows) ≡ cond (not b) (r ∷ filter (λ old. not (replaces new old)) rows)
        (filter (λ old. not (replaces new old)) rows)
    go true e n m ih h =
        let i : r.id ≡ id = cc in
        let has : has_id id r ≡ true = rw i (same_bytes id) in
        rw has (all_stay (has_id id) rows (no_other id r rows has n)
        ∙ sym (all_stay (replaces new) rows (no_second new r rows e m)))
    go false e n m ih h = other (has_id id r) refl n (ih h) (id_found (replaces new) id rows h)

-- the rows after a `put`
pub Lawful-put : (capacity : ℕ) (new : Row) (rows : List Row) → ValidRows capacity rows → length rows < capacity →
    find (has_id new.id) rows ≡ None → find (replaces new) rows ≡ None → ValidRows capacity (rows ++ new ∷ [])
Lawful-put capacity new rows lawful space fresh alone =
    let P : List Row → Type 0 = λ after. ValidRows capacity after in
    subst P (stored_last new rows alone) (Lawful-stored capacity new rows lawful fresh (inl space))

-- where it is taken out and the new one is discoverable, these are the rows after the new one's making
pub replaced_is : (capacity : ℕ) (id : List ℕ) (new : Row) (rows : List Row) → ValidRows capacity rows →
    IsTrue new.discoverable →
    option_map (λ (r : Row). r.id) (find (is_user new.rp new.user.items) rows) ≡ Some id →
    without id rows ++ new ∷ [] ≡ rows_with new rows
replaced_is capacity id new rows lawful discoverable there = grind (arith, one_replaced, without_is)

-- and no row that stays clashes with the new one, discoverable or not
none_clashes : (capacity : ℕ) (id : List ℕ) (new : Row) (rows : List Row) → ValidRows capacity rows →
    option_map (λ (r : Row). r.id) (find (is_user new.rp new.user.items) rows) ≡ Some id →
    list_any (λ r. replaces r new) (without id rows) ≡ false
none_clashes capacity id new rows lawful there = go new.discoverable refl
  where
    hidden : new.discoverable ≡ false → (left : List Row) → list_any (λ r. replaces r new) left ≡ false
    hidden h [] = refl
    hidden h (r ∷ left) = grind (arith, hidden h left)

    go : (b : Bool) → new.discoverable ≡ b → list_any (λ r. replaces r new) (without id rows) ≡ false
    go true h =
        let found = ap (option_map (λ (r : Row). r.id)) (one_replaced new rows h) ∙ there in
        ap (list_any (λ r. replaces r new)) (without_is id new rows lawful.distinct lawful.one_each found)
        ∙ others_stay new rows
    go false h = hidden h (without id rows)

-- the rows after a `replace`
pub Lawful-replace : (capacity : ℕ) (id : List ℕ) (new : Row) (rows : List Row) → ValidRows capacity rows →
    find (has_id new.id) rows ≡ None →
    option_map (λ (r : Row). r.id) (find (is_user new.rp new.user.items) rows) ≡ Some id →
    ValidRows capacity (without id rows ++ new ∷ [])
Lawful-replace capacity id new rows lawful fresh there = record {
  distinct = no_two-append same_id new (without id rows)
      (no_two-filter same_id (λ row. not (has_id id row)) rows lawful.distinct)
      (fresh_stays new.id new (λ row. not (has_id id row)) rows refl (none_passes (has_id new.id) rows fresh));
  one_each = no_two-append replaces new (without id rows)
      (no_two-filter replaces (λ row. not (has_id id row)) rows lawful.one_each)
      (none_clashes capacity id new rows lawful there);
  few =
      let l = length-append (without id rows) (new ∷ []) in
      let k = one_less (has_id id) rows (id_found (is_user new.rp new.user.items) id rows there) in
      let few = lawful.few in
      omega arith;
}
