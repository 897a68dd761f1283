-- The laws of snapshots.
use Rattle.std.proofs.Common.{rules, ◌≡◌, ℕ, ◌+◌, ◌<◌, ◌≤◌, ◌^◌, Bool, List, [], ◌∷◌, ◌++◌, length, None, Result, Ok}
use Rattle.std.proofs.Common.{Err, refl, arith, sym, ap, subst, ◌∙◌, append_assoc, true, false, ◌&&◌, ◌||◌}
use Rattle.std.specs.Prelude.{pos, nat_lt}
use Rattle.std.specs.List.{AllByRecursion, list_any}
use Rattle.std.proofs.lemmas.List.{append-nil}
use Rattle.ctap_cbor.specs.Tree.{Int, Tree, Plain, Array, Map, Trees, no_trees, tree, Pairs, no_pairs, pair, count}
use Rattle.ctap_cbor.specs.Tree.{count_pairs, Null}
use Rattle.ctap_cbor.specs.Grammar.{head}
use Rattle.ctap_cbor.specs.Grammar.{IsCanonical, encode_tree, encode_trees, encode_pairs, encode_scalar, IsLawful}
use Rattle.ctap_cbor.specs.Grammar.{AreLawful, AreLawfulPairs}
use Rattle.ctap_cbor.specs.Reading.{Reading, rest_of}
use Rattle.ctap_cbor.specs.Items.{One, OpensArray, OpensMap}
use Rattle.ctap_cbor.specs.Laws.{NoEncodingIsAPrefix, NoHeadIsAPrefix}
use Rattle.cred_table.specs.declared.row.Row.{Row}
use Rattle.cred_table.specs.declared.fault.SnapshotFault.{SnapshotFault}
use Rattle.cred_table.specs.Rows.{ValidRows, has_id, replaces}
use Rattle.cred_table.specs.declared.fault.SnapshotFault.TheVariants.{NotSnapshot, TooMany, RowBroken, Memory}
use Rattle.cred_table.specs.Snapshots.{number, version, IsRow, row_tree, rows_then, snapshot_of, IsSnapshot}
use Rattle.cred_table.specs.Snapshots.{HasEntriesOf, Refuses, Loads, clashes, FirstInvalid}
use Rattle.cred_table.specs.Snapshots.{Reads, encode_header, encode_row, encode_rows, ReadsFirstRows, FailsAtRow}
use Rattle.cred_table.specs.Snapshots.{ReadsRows}
use Rattle.cred_table.proofs.Typed.{IsHeads}
use Rattle.cred_table.proofs.Stored.{row_lawful, free_before, pairs_in, first_of_pairs, beyond_first, bytes_in}
use Rattle.cred_table.proofs.Stored.{flag_in}
use Rattle.std.specs.Str.{bytes_eq}
use Rattle.cred_table.specs.Snapshots.{SameRows, SnapshotsAreUnique, RejectedIsNoSnapshot, OneSnapshotError}

-- ---- from what was read of a canonical text to the snapshot that it is

-- No tree's encoding begins another's, and no item's head does.
pub record Apart : Type 0 where
  pub trees : NoEncodingIsAPrefix
  pub items : NoHeadIsAPrefix

-- of one text only one tree stands at the front
pub trees_same : (none : NoEncodingIsAPrefix) (t u : Tree) (x y : List ℕ) → IsLawful t → IsLawful u →
    encode_tree t ++ x ≡ encode_tree u ++ y → (t ≡ u) × (x ≡ y)
trees_same none t u x y p q e = search (rules, arith)

-- ---- trees by their heads

record IsArray (n : ℕ) (t : Tree) (x rest : List ℕ) : Type 0 where
  items : Trees
  is : t ≡ Array items
  lawful : AreLawful items
  number : count items ≡ n
  spelled : encode_trees items ++ x ≡ rest

opened_array : (apart : Apart) → (n : ℕ) (t : Tree) (x rest : List ℕ) → n < 2 ^ 64 → IsLawful t →
    encode_tree t ++ x ≡ head 4 n ++ rest → IsArray n t x rest
opened_array apart n (Plain s) x rest fits lawful e = let no =
    (apart.items 4 (One s) (OpensArray n) x rest lawful (omega arith, fits) e).0 in cc
opened_array apart n (Map ps) x rest fits lawful e =
    let no = (apart.items 4 (OpensMap (count_pairs ps)) (OpensArray n) (encode_pairs ps ++ x) rest (omega arith, lawful.0)
    (omega arith, fits) (sym (append_assoc (head 5 (count_pairs ps)) (encode_pairs ps) x) ∙ e)).0 in cc
opened_array apart n (Array ts) x rest fits lawful e =
    let same = apart.items 4 (OpensArray (count ts)) (OpensArray n) (encode_trees ts ++ x) rest (omega arith, lawful.0)
    (omega arith, fits) (sym (append_assoc (head 4 (count ts)) (encode_trees ts) x) ∙ e) in
    record { items = ts; is = refl; lawful = lawful.1; number = counts (count ts) n same.0; spelled = same.1 }
  where
    counts : (a b : ℕ) → OpensArray a ≡ OpensArray b → a ≡ b
    counts a b e = cc

record IsMap (n : ℕ) (t : Tree) (x rest : List ℕ) : Type 0 where
  pairs : Pairs
  is : t ≡ Map pairs
  lawful : AreLawfulPairs pairs
  number : count_pairs pairs ≡ n
  spelled : encode_pairs pairs ++ x ≡ rest

opened_map : (apart : Apart) → (n : ℕ) (t : Tree) (x rest : List ℕ) → n < 2 ^ 64 → IsLawful t →
    encode_tree t ++ x ≡ head 5 n ++ rest → IsMap n t x rest
opened_map apart n (Plain s) x rest fits lawful e = let no =
    (apart.items 4 (One s) (OpensMap n) x rest lawful (omega arith, fits) e).0 in cc
opened_map apart n (Array ts) x rest fits lawful e =
    let no = (apart.items 4 (OpensArray (count ts)) (OpensMap n) (encode_trees ts ++ x) rest (omega arith, lawful.0)
    (omega arith, fits) (sym (append_assoc (head 4 (count ts)) (encode_trees ts) x) ∙ e)).0 in cc
opened_map apart n (Map ps) x rest fits lawful e =
    let same = apart.items 4 (OpensMap (count_pairs ps)) (OpensMap n) (encode_pairs ps ++ x) rest (omega arith, lawful.0)
    (omega arith, fits) (sym (append_assoc (head 5 (count_pairs ps)) (encode_pairs ps) x) ∙ e) in
    record { pairs = ps; is = refl; lawful = lawful.2; number = counts (count_pairs ps) n same.0; spelled = same.1 }
  where
    counts : (a b : ℕ) → OpensMap a ≡ OpensMap b → a ≡ b
    counts a b e = cc

-- ---- a snapshot by its heads

record HasEntries (named : Bool) (n : ℕ) (b rest : List ℕ) : Type 0 where
  entries : Trees
  holds : HasEntriesOf named entries b
  lawful : AreLawful entries
  number : count entries ≡ n
  spelled : rest ≡ encode_trees entries

record TwoPairs (named : Bool) (n : ℕ) (ps : Pairs) (rest : List ℕ) : Type 0 where
  entries : Trees
  is : ps ≡ pair (number 1) (number (version named)) (pair (number 2) (Array entries) no_pairs)
  lawful : AreLawful entries
  number : count entries ≡ n
  spelled : rest ≡ encode_trees entries

version_fits : (named : Bool) → version named < 2 ^ 64
version_fits named = search (rules, arith)

two_pairs : (apart : Apart) → (named : Bool) (n : ℕ) (ps : Pairs) (rest : List ℕ) → n < 2 ^ 64 → count_pairs ps ≡ 2 →
    AreLawfulPairs ps →
    encode_pairs ps ≡ encode_scalar (Int (pos 1)) ++ (encode_scalar (Int (pos (version named))) ++
    (encode_scalar (Int (pos 2)) ++ (head 4 n ++ rest))) → TwoPairs named n ps rest
two_pairs apart named n no_pairs rest fits two lawful e = absurd (omega arith)
two_pairs apart named n (pair k v no_pairs) rest fits two lawful e = absurd (omega arith)
two_pairs apart named n (pair k v (pair j w (pair l u ps))) rest fits two lawful e = absurd (omega arith)
two_pairs apart named n (pair k v (pair j w no_pairs)) rest fits two lawful e =
    let first = trees_same apart.trees k (number 1) (encode_tree v ++ (encode_tree j ++ (encode_tree w ++ [])))
    (encode_tree (number (version named)) ++ (encode_tree (number 2) ++ (head 4 n ++ rest))) lawful.0 (omega arith) e in
    let second = trees_same apart.trees v (number (version named)) (encode_tree j ++ (encode_tree w ++ []))
    (encode_tree (number 2) ++ (head 4 n ++ rest)) lawful.1 (version_fits named) first.1 in
    let third = trees_same apart.trees j (number 2) (encode_tree w ++ []) (head 4 n ++ rest) lawful.2.0
    (omega arith) second.1 in
    let h = opened_array apart n w [] rest fits lawful.2.1 third.1 in
    record {
      entries = h.items;
      is = ap (λ x. pair x v (pair j w no_pairs)) first.0 ∙ ap (λ x. pair (number 1) x (pair j w no_pairs)) second.0
          ∙ ap (λ x. pair (number 1) (number (version named)) (pair x w no_pairs)) third.0
          ∙ ap (λ x. pair (number 1) (number (version named)) (pair (number 2) x no_pairs)) h.is;
      lawful = h.lawful;
      number = h.number;
      spelled = sym h.spelled ∙ append-nil (encode_trees h.items);
    }

has_entries : (apart : Apart) → (named : Bool) (n : ℕ) (t : Tree) (b rest : List ℕ) → n < 2 ^ 64 → IsCanonical t b →
    b ≡ encode_header (named, n) ++ rest → HasEntries named n b rest
has_entries apart named n t b rest fits is e =
    let inner = encode_scalar (Int (pos 1)) ++ (encode_scalar (Int (pos (version named))) ++
    (encode_scalar (Int (pos 2)) ++ (head 4 n ++ rest))) in
    let front : encode_header (named, n) ++ rest ≡ head 5 2 ++ inner = simp append_assoc refl in
    let m = opened_map apart 2 t [] inner (omega arith) is.enc.lawful (append-nil (encode_tree t) ∙ sym is.enc.spelled ∙ e
    ∙ front) in
    let p = two_pairs apart named n m.pairs rest fits m.number m.lawful (sym (append-nil (encode_pairs m.pairs))
    ∙ m.spelled) in
    record {
      entries = p.entries;
      holds = subst (λ x. IsCanonical x b) (map_is m.is p.is) is;
      lawful = p.lawful;
      number = p.number;
      spelled = p.spelled;
    }
  where
    map_is : {ps qs : Pairs} → t ≡ Map ps → ps ≡ qs → t ≡ Map qs
    map_is e f = e ∙ ap Map f

-- ---- what the text of a snapshot begins with

pub heads_of : (named : Bool) (entries : Trees) →
    encode_tree (snapshot_of named entries) ≡ encode_header (named, count entries) ++ encode_trees entries
heads_of named entries = simp (append_assoc, append-nil) refl

pub no_heads : (capacity : ℕ) (b : List ℕ) (c new : Reading) → c ≡ record { bytes = b; place = 0; steps = 0 } →
    Reads IsHeads encode_header c new None → Refuses capacity b NotSnapshot
no_heads capacity b c new e r named entries holds =
    let there : rest_of c ≡ encode_header (named, count entries) ++ encode_trees entries = ap rest_of e ∙ holds.enc.spelled
    ∙ heads_of named entries in
    let no = (r.found (named, count entries) (encode_trees entries) holds.enc.lawful.2.2.1.0 there).0 in
    cc

-- ---- entries by the rows that were read

record Behind (named : Bool) (rows : List Row) (entries : Trees) (rest : List ℕ) : Type 0 where
  others : Trees
  is : entries ≡ rows_then named rows others
  lawful : AreLawful others
  spelled : rest ≡ encode_trees others

after_rows : (apart : Apart) → (named : Bool) (rows : List Row) (entries : Trees) (rest : List ℕ) →
    AllByRecursion (IsRow named) rows → AreLawful entries → length rows ≤ count entries →
    encode_trees entries ≡ encode_rows named rows ++ rest → Behind named rows entries rest
after_rows apart named [] entries rest typed lawful few e = search (rules, arith)
after_rows apart named (row ∷ rows) no_trees rest typed lawful few e = absurd (omega arith)
after_rows apart named (row ∷ rows) (tree t ts) rest typed lawful few e =
    let same = trees_same apart.trees t (row_tree named row) (encode_trees ts) (encode_rows named rows ++ rest) lawful.0
    (row_lawful named row typed.0) (e ∙ append_assoc (encode_row named row) (encode_rows named rows) rest) in
    let b = after_rows apart named rows ts rest typed.1 lawful.1 (omega arith) same.1 in
    record {
      others = b.others;
      is = ap (λ x. tree x ts) same.0 ∙ ap (tree (row_tree named row)) b.is;
      lawful = b.lawful;
      spelled = b.spelled;
    }

pub count_then : (named : Bool) (rows : List Row) (entries : Trees) →
    count (rows_then named rows entries) ≡ length rows + count entries
count_then named [] entries = omega arith
count_then named (row ∷ rows) entries = omega (arith, count_then named rows entries)

none_left : (ts : Trees) → count ts ≡ 0 → ts ≡ no_trees
none_left no_trees e = refl
none_left (tree t ts) e = absurd (omega arith)

record OneLeft (ts : Trees) : Type 0 where
  entry : Tree
  after : Trees
  is : ts ≡ tree entry after

one_left : (ts : Trees) → 0 < count ts → OneLeft ts
one_left no_trees lt = absurd (omega arith)
one_left (tree t ts) lt = record { entry = t; after = ts; is = refl }

all_load : (apart : Apart) → (named : Bool) (capacity n : ℕ) (b : List ℕ) (a c : Reading) (rows : List Row) →
    ValidRows capacity rows → HasEntries named n b (rest_of a) → ReadsFirstRows named n a c rows →
    IsSnapshot named capacity rows b
all_load apart named capacity n b a c rows lawful h k =
    let d = after_rows apart named rows h.entries (rest_of c) k.typed h.lawful (omega (arith, h.number, k.number))
    (sym h.spelled ∙ k.spelled) in
    let none = none_left d.others (omega (arith, ap count d.is, count_then named rows d.others, h.number, k.number)) in
    record {
      typed = k.typed;
      lawful = lawful;
      canonical = subst (λ x. HasEntriesOf named x b) (d.is ∙ ap (rows_then named rows) none) h.holds;
    }

broken_at : (apart : Apart) → (named : Bool) (capacity n place : ℕ) (b : List ℕ) (a : Reading) →
    HasEntries named n b (rest_of a) → n ≤ capacity → FailsAtRow named capacity n place a →
    Refuses capacity b (RowBroken place)
broken_at apart named capacity n place b a h few k =
    let d = after_rows apart named k.rows h.entries (rest_of k.between) k.takes.typed h.lawful
    (omega (arith, h.number, k.takes.number, k.fewer)) (sym h.spelled ∙ k.takes.spelled) in
    let l = one_left d.others
    (omega (arith, ap count d.is, count_then named k.rows d.others, h.number, k.takes.number, k.fewer)) in (
      named,
      h.entries,
      h.holds,
      omega (arith, h.number, few),
      record {
        before = k.rows;
        entry = l.entry;
        after = l.after;
        split = d.is ∙ ap (rows_then named k.rows) l.is;
        place_is = k.takes.number;
        typed = k.takes.typed;
        lawful = k.lawful;
        broken = λ row is e. k.none row (encode_trees l.after) is (d.spelled ∙ ap encode_trees l.is
            ∙ ap (λ x. encode_tree x ++ encode_trees l.after) e);
      },
    )

-- the entries were read, all or up to a broken one
pub rows_load : (apart : Apart) → (named : Bool) (capacity n : ℕ) (t : Tree) (b : List ℕ) (a c : Reading)
    (rows : List Row)
    (r : Result (Unit {0}) SnapshotFault) →
    n < 2 ^ 64 → n ≤ capacity → IsCanonical t b → b ≡ encode_header (named, n) ++ rest_of a → ValidRows capacity rows →
    ReadsRows named capacity n a c rows r → Loads capacity b r rows
rows_load apart named capacity n t b a c rows (Ok u) fits few is e lawful k =
    (named, all_load apart named capacity n b a c rows lawful (has_entries apart named n t b (rest_of a) fits is e) k)
rows_load apart named capacity n t b a c rows (Err (RowBroken place)) fits few is e lawful k =
    broken_at apart named capacity n place b a (has_entries apart named n t b (rest_of a) fits is e) few k
rows_load apart named capacity n t b a c rows (Err NotSnapshot) fits few is e lawful k = absurd k
rows_load apart named capacity n t b a c rows (Err TooMany) fits few is e lawful k = absurd k
rows_load apart named capacity n t b a c rows (Err Memory) fits few is e lawful k = absurd k

-- there are too many
pub too_many : (apart : Apart) → (named : Bool) (capacity n : ℕ) (t : Tree) (b rest : List ℕ) → n < 2 ^ 64 →
    capacity < n →
    IsCanonical t b → b ≡ encode_header (named, n) ++ rest → Refuses capacity b TooMany
too_many apart named capacity n t b rest fits many is e = let h = has_entries apart named n t b rest fits is e in
    (named, h.entries, h.holds, omega (arith, h.number))

-- ---- the laws of snapshots

abbrev number_in : Tree → ℕ
number_in (Plain (Int (pos n))) = n
number_in _ = 0

abbrev entries_in : Tree → Trees
entries_in (Array ts) = ts
entries_in _ = no_trees

version_same : (named other : Bool) → version named ≡ version other → named ≡ other
version_same named other e = search (rules, arith)

-- one text holds entries of one version
pub holds_same : (none : NoEncodingIsAPrefix) → (named other : Bool) (es fs : Trees) (text : List ℕ) →
    HasEntriesOf named es text → HasEntriesOf other fs text → (named ≡ other) × (es ≡ fs)
holds_same none named other es fs text p q =
    let same = (trees_same none (snapshot_of named es) (snapshot_of other fs) [] [] p.enc.lawful q.enc.lawful
    (ap (λ x. x ++ []) (sym p.enc.spelled ∙ q.enc.spelled))).0 in (
      version_same named other (ap (λ t. number_in (first_of_pairs (pairs_in t))) same),
      ap (λ t. entries_in (first_of_pairs (beyond_first (pairs_in t)))) same,
    )

abbrev first_in : Trees → Tree
first_in no_trees = Plain Null
first_in (tree t ts) = t

abbrev others_in : Trees → Trees
others_in no_trees = no_trees
others_in (tree t ts) = ts

-- ---- rows of version 1 with their empty names

nameless_same : (rows others : List Row) → AllByRecursion (IsRow false) rows → AllByRecursion (IsRow false) others →
    rows_then false rows no_trees ≡ rows_then false others no_trees → SameRows rows others
nameless_same [] [] p q e = refl
nameless_same [] (b ∷ others) p q e = cc
nameless_same (a ∷ rows) [] p q e = cc
nameless_same (a ∷ rows) (b ∷ others) p q e = grind (arith, nameless_same rows others)

pub snapshots_are_unique : NoEncodingIsAPrefix → SnapshotsAreUnique
snapshots_are_unique none named other capacity space rows others text p q = grind (arith, holds_same, nameless_same)

-- ---- what is refused

record SplitAt (named : Bool) (rows before : List Row) (entry : Tree) : Type 0 where
  front : List Row
  row : Row
  back : List Row
  is : rows ≡ front ++ row ∷ back
  entry_is : entry ≡ row_tree named row
  same : rows_then named before no_trees ≡ rows_then named front no_trees

split_at : (named : Bool) (rows before : List Row) (others : Trees) (entry : Tree) (after : Trees) →
    length before < length rows → rows_then named rows others ≡ rows_then named before (tree entry after) →
    SplitAt named rows before entry
split_at named [] before others entry after lt e = absurd (omega arith)
split_at named (r ∷ rows) [] others entry after lt e =
    record { front = []; row = r; back = rows; is = refl; entry_is = sym (ap first_in e); same = refl }
split_at named (r ∷ rows) (b ∷ before) others entry after lt e =
    let s = split_at named rows before others entry after (omega arith) (ap others_in e) in
    record {
      front = r ∷ s.front;
      row = s.row;
      back = s.back;
      is = ap (λ x. r ∷ x) s.is;
      entry_is = s.entry_is;
      same = ap (λ t. tree t (rows_then named before no_trees)) (sym (ap first_in e))
          ∙ ap (tree (row_tree named r)) s.same;
    }

abbrev any_in : (Tree → Bool) → Trees → Bool
any_in q no_trees = false
any_in q (tree t ts) = q t || any_in q ts

any_told : (named : Bool) (p : Row → Bool) (q : Tree → Bool) → ((row : Row) → p row ≡ q (row_tree named row)) →
    (rows : List Row) → list_any p rows ≡ any_in q (rows_then named rows no_trees)
any_told named p q h [] = refl
any_told named p q h (r ∷ rows) = rw (h r, any_told named p q h rows) refl

-- a row clashes alike with rows of the same trees
clashes_alike : (named : Bool) (row : Row) (rows others : List Row) →
    rows_then named rows no_trees ≡ rows_then named others no_trees → clashes row rows ≡ clashes row others
clashes_alike named row rows others e =
    let by_id = λ (t : Tree). bytes_eq (bytes_in (first_of_pairs (beyond_first (pairs_in t)))) row.id in
    let fourth = λ (t : Tree). beyond_first (beyond_first (beyond_first (beyond_first (pairs_in t)))) in
    let by_user = λ (t : Tree). row.discoverable &&
    ((flag_in (first_of_pairs (beyond_first (fourth t))) && bytes_eq (bytes_in (first_of_pairs (pairs_in t)))
    row.rp) && bytes_eq (bytes_in (first_of_pairs (fourth t))) row.user.items) in
    let ids : list_any (has_id row.id) rows ≡ list_any (has_id row.id) others = any_told named (has_id row.id) by_id
    (λ r. refl) rows ∙ ap (any_in by_id) e ∙ sym (any_told named (has_id row.id) by_id (λ r. refl) others) in
    let users : list_any (replaces row) rows ≡ list_any (replaces row) others = any_told named (replaces row) by_user
    (λ r. refl) rows ∙ ap (any_in by_user) e ∙ sym (any_told named (replaces row) by_user (λ r. refl) others) in
    ap (λ b. b || list_any (replaces row) rows) ids ∙ ap (λ b. list_any (has_id row.id) others || b) users

all_at : (P : Row → Type 0) (front : List Row) (row : Row) (back : List Row) → AllByRecursion P (front ++ row ∷ back) →
    P row
all_at P [] row back all = all.0
all_at P (r ∷ front) row back all = all_at P front row back all.1

-- no entry is broken that is the tree of one of lawful rows
none_broken : (named : Bool) (capacity place : ℕ) (rows : List Row) (entries others : Trees) →
    AllByRecursion (IsRow named) rows → ValidRows capacity rows → entries ≡ rows_then named rows others →
    FirstInvalid named capacity entries place → place < length rows → ⊥
none_broken named capacity place rows entries others typed lawful e b lt =
    let s = split_at named rows b.before others b.entry b.after (omega (arith, b.place_is)) (sym e ∙ b.split) in
    let row_is = all_at (IsRow named) s.front s.row s.back (subst (AllByRecursion (IsRow named)) s.is typed) in
    let clash : clashes s.row b.before ≡ true = b.broken s.row row_is s.entry_is in
    let free : clashes s.row s.front ≡ false = free_before capacity rows s.front s.row (s.row ∷ s.back) s.back lawful
    (sym s.is) refl in
    let alike : clashes s.row b.before ≡ clashes s.row s.front = clashes_alike named s.row b.before s.front s.same in
    let no : true ≡ false = sym clash ∙ alike ∙ free in
    cc

-- a broken entry is among the entries
place_below : (named : Bool) (capacity place : ℕ) (entries : Trees) → FirstInvalid named capacity entries place →
    place < count entries
place_below named capacity place entries b = search (rules, arith, count_then)

pub rejected_is_no_snapshot : NoEncodingIsAPrefix → RejectedIsNoSnapshot
rejected_is_no_snapshot none capacity text NotSnapshot r named rows is = r named (rows_then named rows no_trees) is.canonical
rejected_is_no_snapshot none capacity text TooMany r named rows is =
    let same = (holds_same none r.0 named r.1 (rows_then named rows no_trees) text r.2 is.canonical).1 in
    absurd (omega (arith, r.3, ap count same, count_then named rows no_trees, is.lawful.few))
rejected_is_no_snapshot none capacity text (RowBroken place) r named rows is =
    let same = holds_same none r.0 named r.1 (rows_then named rows no_trees) text r.2 is.canonical in
    let b = subst (λ n. FirstInvalid n capacity r.1 place) same.0 r.4 in
    none_broken named capacity place rows r.1 no_trees is.typed is.lawful same.1 b
    (omega (arith, place_below named capacity place r.1 b, ap count same.1, count_then named rows no_trees))
rejected_is_no_snapshot none capacity text Memory r named rows is = r

-- ---- one refusal

not_before : (named : Bool) (capacity i j : ℕ) (entries : Trees) → FirstInvalid named capacity entries i →
    FirstInvalid named capacity entries j → i < j → ⊥
not_before named capacity i j entries a b lt = search (rules, arith, none_broken)

one_place : (named : Bool) (capacity i j : ℕ) (entries : Trees) → FirstInvalid named capacity entries i →
    FirstInvalid named capacity entries j → i ≡ j
one_place named capacity i j entries a b = go (nat_lt i j) (nat_lt j i) refl refl
  where
    go : (p q : Bool) → nat_lt i j ≡ p → nat_lt j i ≡ q → i ≡ j
    go true q e f = absurd (not_before named capacity i j entries a b (grind arith))
    go false true e f = absurd (not_before named capacity j i entries b a (grind arith))
    go false false e f = grind arith

pub one_snapshot_error : NoEncodingIsAPrefix → OneSnapshotError
one_snapshot_error none capacity text NotSnapshot NotSnapshot r s = refl
one_snapshot_error none capacity text NotSnapshot TooMany r s = absurd (r s.0 s.1 s.2)
one_snapshot_error none capacity text NotSnapshot (RowBroken j) r s = absurd (r s.0 s.1 s.2)
one_snapshot_error none capacity text TooMany NotSnapshot r s = absurd (s r.0 r.1 r.2)
one_snapshot_error none capacity text (RowBroken i) NotSnapshot r s = absurd (s r.0 r.1 r.2)
one_snapshot_error none capacity text TooMany TooMany r s = refl
one_snapshot_error none capacity text TooMany (RowBroken j) r s =
    let same = (holds_same none r.0 s.0 r.1 s.1 text r.2 s.2).1 in
    absurd (omega (arith, r.3, s.3, ap count same))
one_snapshot_error none capacity text (RowBroken i) TooMany r s =
    let same = (holds_same none r.0 s.0 r.1 s.1 text r.2 s.2).1 in
    absurd (omega (arith, r.3, s.3, ap count same))
one_snapshot_error none capacity text (RowBroken i) (RowBroken j) r s =
    let same = holds_same none r.0 s.0 r.1 s.1 text r.2 s.2 in
    ap RowBroken (one_place s.0 capacity i j s.1 (subst (λ n. FirstInvalid n capacity s.1 i) same.0
    (subst (λ es. FirstInvalid r.0 capacity es i) same.1 r.4)) s.4)
one_snapshot_error none capacity text Memory g r s = absurd r
one_snapshot_error none capacity text f Memory r s = absurd s
