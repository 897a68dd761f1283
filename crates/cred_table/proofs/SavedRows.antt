-- Rows that are read one after another.
use Rattle.std.proofs.{lemmas.Grind.common_steps, lemmas.List.append-nil, Common.length-take-le, Common.Some}
use Rattle.std.proofs.Common.{rules, ◌≡◌, ℕ, ◌+◌, Bool, List, [], ◌∷◌, ◌++◌, arith, sym, ap, ◌∙◌, append_assoc}
use Rattle.std.proofs.Common.{length-append, ◌≤◌, true, length, subst, Result, ◌*◌, take, drop, take-append-drop}
use Rattle.std.specs.{List.AllByRecursion, Prelude.OnErr}
use Rattle.ctap_cbor.specs.{Reading.Reading, declared.sink.Sink.Sink, Writing.Appends, Grammar.head, Grammar.head_len}
use Rattle.cred_table.specs.{declared.row.Row.Row, Rows.ValidRows, Snapshots.AppendsUpTo, Snapshots.SavesInto, Snapshots.max_snapshot_len}
use Rattle.cred_table.specs.Snapshots.{IsRow, rows_then, snapshot, IsSnapshot, Saves, saved_len}
use Rattle.cred_table.specs.Snapshots.{encode_row, encode_rows, ReadsNextRow, ReadsFirstRows, encode_header}
use Rattle.ctap_cbor.specs.{Tree.no_trees, Tree.depth_all, Tree.count, Grammar.encode_tree, Grammar.AreLawful}
use Rattle.cred_table.proofs.{Stored.row_lawful, Stored.row_flat, OneSnapshot.count_then}
use Rattle.ctap_cbor.specs.Writing.{done, then}

-- one more row after the others
pub rows_text_more : (named : Bool) (rows : List Row) (row : Row) →
    encode_rows named (rows ++ row ∷ []) ≡ encode_rows named rows ++ encode_row named row
rows_text_more named [] row = append-nil (encode_row named row)
rows_text_more named (r ∷ rows) row = search (rules, arith, append_assoc, rows_text_more named rows row)

pub all_more : (P : Row → Type 0) (rows : List Row) (row : Row) → AllByRecursion P rows → P row →
    AllByRecursion P (rows ++ row ∷ [])
all_more P [] row all is = (is, tt)
all_more P (r ∷ rows) row all is = (all.0, all_more P rows row all.1 is)

pub rows_more : (named : Bool) (n : ℕ) (a b c : Reading) (rows more : List Row) → ReadsFirstRows named n a b rows →
    ReadsNextRow named b c rows more → ReadsFirstRows named (n + 1) a c more
rows_more named n a b c rows more h k = grind (arith, all_more, append_assoc, length-append, rows_text_more)

-- Rows that are written one after another, and their snapshot.

-- a head has at most nine bytes
pub head_short : (n : ℕ) → head_len n ≤ 9
head_short n = search (rules, arith)

pub rows_lawful : (named : Bool) (rows : List Row) → AllByRecursion (IsRow named) rows →
    AreLawful (rows_then named rows no_trees)
rows_lawful named [] typed = tt
rows_lawful named (row ∷ rows) typed = (row_lawful named row typed.0, rows_lawful named rows typed.1)

rows_flat : (named : Bool) (rows : List Row) → depth_all (rows_then named rows no_trees) ≤ 1
rows_flat named [] = omega arith
rows_flat named (row ∷ rows) = omega (arith, row_flat named row, rows_flat named rows)

-- typed and lawful rows have a snapshot
pub snapshot_is : (named : Bool) (capacity : ℕ) (rows : List Row) → capacity ≤ 256 → AllByRecursion (IsRow named) rows →
    ValidRows capacity rows → IsSnapshot named capacity rows (encode_tree (snapshot named rows))
unfolding head
snapshot_is named capacity rows small typed lawful = grind (arith, count_then, rows_flat, rows_lawful)

-- ---- as they are written

-- Some of the rows were written after what stood there, and these are left.
pub record Written (rows left : List Row) (old new : List ℕ) : Type 0 where
  pub done : List Row
  pub all : done ++ left ≡ rows
  pub typed : AllByRecursion (IsRow true) done
  pub spelled : new ≡ old ++ (encode_header (true, length rows) ++ encode_rows true done)

pub one_written : (rows left rest : List Row) (row : Row) (old between new : List ℕ) → left ≡ row ∷ rest →
    IsRow true row → Written rows left old between → new ≡ between ++ encode_row true row → Written rows rest old new
one_written rows left rest row old between new first is w e =
    let front : List ℕ = encode_header (true, length rows) in
    record {
      done = w.done ++ row ∷ [];
      all = append_assoc w.done (row ∷ []) rest ∙ ap (λ l. w.done ++ l) (sym first) ∙ w.all;
      typed = all_more (IsRow true) w.done row w.typed is;
      spelled =
          e ∙ ap (λ x. x ++ encode_row true row) w.spelled
          ∙ append_assoc old (front ++ encode_rows true w.done) (encode_row true row)
          ∙ ap (λ x. old ++ x) (append_assoc front (encode_rows true w.done) (encode_row true row)
          ∙ ap (λ x. front ++ x) (sym (rows_text_more true w.done row)));
    }

-- the rows' snapshot, as it is written
pub whole_is : (rows : List Row) → encode_tree (snapshot true rows) ≡ encode_header (true, length rows) ++ encode_rows true rows
whole_is rows = grind (arith, common_steps, count_then)

-- what is written next is a part of it
pub heads_within : (rows : List Row) (count : ℕ) → count ≡ length rows →
    length (encode_header (true, count)) ≤ saved_len rows
heads_within rows count is = grind (arith, length-append, whole_is)

pub row_within : (rows left rest : List Row) (row : Row) (old between : List ℕ) → left ≡ row ∷ rest →
    Written rows left old between → length between + length (encode_row true row) ≤ length old + saved_len rows
row_within rows left rest row old between first w =
    let front : List ℕ = encode_header (true, length rows) in
    let whole = ap length (whole_is rows) ∙ length-append front (encode_rows true rows) in
    let all = ap (λ l. length (encode_rows true l)) (sym w.all ∙ ap (λ l. w.done ++ l) first)
    ∙ rows_joined w.done (row ∷ rest) in
    let next = length-append (encode_row true row) (encode_rows true rest) in
    let here = ap length w.spelled ∙ length-append old (front ++ encode_rows true w.done) in
    let both = length-append front (encode_rows true w.done) in
    omega (arith, whole, all, next, here, both)
  where
    rows_joined : (some more : List Row) →
        length (encode_rows true (some ++ more)) ≡ length (encode_rows true some) + length (encode_rows true more)
    rows_joined [] more = omega arith
    rows_joined (r ∷ some) more = search (rules, arith, length-append, rows_joined some more)

pub all_written : (capacity : ℕ) (rows left : List Row) (old new : List ℕ) → capacity ≤ 256 → ValidRows capacity rows →
    left ≡ [] →
    Written rows left old new → Saves capacity rows old new
all_written capacity rows left old new small lawful end w = grind (arith, append-nil, snapshot_is, whole_is)

-- what holds anyway holds where there is an error
pub on_err : {T E P : Type 0} (r : Result T E) → P → OnErr r P
on_err r p = search (rules, arith)

-- What a sink appends in several calls, where only the greatest length of the pieces is known.

pub exactly : {a b : Sink} {x : List ℕ} {n : ℕ} → Appends a b x n → AppendsUpTo a b x n
exactly {n = n} p = (n, omega arith, p)

pub up_to : {a b c : Sink} {x y : List ℕ} {m n : ℕ} → AppendsUpTo a b x m → AppendsUpTo b c y n →
    AppendsUpTo a c (x ++ y) (m + n)
up_to p q = (p.0 + q.0, let e = p.1 in let f = q.1 in omega arith, then p.2 q.2)

pub ended : {a : Sink} → AppendsUpTo a a [] 0
ended = exactly done

pub at_most : {a b : Sink} {x : List ℕ} {m n : ℕ} → m ≤ n → AppendsUpTo a b x m → AppendsUpTo a b x n
at_most le p = (p.0, let e = p.1 in omega arith, p.2)

pub respelled : {a b : Sink} {x y : List ℕ} {n : ℕ} → x ≡ y → AppendsUpTo a b x n → AppendsUpTo a b y n
respelled {a} {b} {n = n} e p = subst (λ z. AppendsUpTo a b z n) e p

-- A snapshot that is written into a sink.

-- Some of the rows were put, and these are left.
pub record Put (rows left : List Row) (old new : Sink) : Type 0 where
  pub done : List Row
  pub all : done ++ left ≡ rows
  pub typed : AllByRecursion (IsRow true) done
  pub appends : AppendsUpTo old new (encode_header (true, length rows) ++ encode_rows true done) (13 + 283 * length done)

pub one_put : (rows left rest : List Row) (row : Row) (old between new : Sink) → left ≡ row ∷ rest → IsRow true row →
    Put rows left old between → AppendsUpTo between new (encode_row true row) 283 → Put rows rest old new
one_put rows left rest row old between new first is w p =
    let front : List ℕ = encode_header (true, length rows) in
    let more = length-append w.done (row ∷ []) in
    record {
      done = w.done ++ row ∷ [];
      all = append_assoc w.done (row ∷ []) rest ∙ ap (λ l. w.done ++ l) (sym first) ∙ w.all;
      typed = all_more (IsRow true) w.done row w.typed is;
      appends = at_most (omega (arith, more)) (respelled (append_assoc front (encode_rows true w.done) (encode_row true row)
          ∙ ap (λ x. front ++ x) (sym (rows_text_more true w.done row))) (up_to w.appends p));
    }

-- all are put once none is left
whole : (rows left : List Row) (old new : Sink) → left ≡ [] → (w : Put rows left old new) → w.done ≡ rows
whole rows left old new end w = sym (append-nil w.done) ∙ ap (λ l. w.done ++ l) (sym end) ∙ w.all

pub all_put : (capacity : ℕ) (rows left : List Row) (old new : Sink) → ValidRows capacity rows → left ≡ [] →
    Put rows left old new → AppendsUpTo old new (encode_tree (snapshot true rows)) (max_snapshot_len capacity)
all_put capacity rows left old new lawful end w = search (rules, arith, whole_is)

-- the buffer then
pub saved_into : (capacity : ℕ) (rows : List Row) (old new : List ℕ) (len : ℕ) → capacity ≤ 256 → ValidRows capacity rows →
    AllByRecursion (IsRow true) rows → max_snapshot_len capacity ≤ length old → take len new ≡ encode_tree (snapshot true rows) →
    drop len new ≡ drop len old → len ≤ length new → SavesInto capacity rows old new (Some len)
saved_into capacity rows old new len small lawful typed space front rest within =
    grind (arith, length-take-le, snapshot_is, take-append-drop)
