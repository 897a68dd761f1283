-- What one call of a cursor does: finding and taking an item or key, and the number of its steps.
use Rattle.std.proofs.Common.{arith, rules, ◌≡◌, ℕ, ◌<◌, ◌≤◌, suc, Bool, true, false, List, [], ◌∷◌, ◌++◌, Some, None}
use Rattle.std.proofs.Common.{Ok, Err, length, drop, refl, ◌+◌, get_or, sym, ap, subst, ◌∙◌, take, Option, zero, ◌*◌}
use Rattle.std.proofs.lemmas.Bool.{leb-false, ltb-false}
use Rattle.ctap_cbor.specs.declared.fault.Kind.{Kind}
use Rattle.ctap_cbor.specs.declared.fault.Kind.TheVariants.{KeyOrder}
use Rattle.ctap_cbor.specs.Grammar.{major, info, AreBytes, head}
use Rattle.ctap_cbor.specs.Items.{Part, item_by_major, read, encode_item, One}
use Rattle.ctap_cbor.specs.Items.{AnItem, Expected, first_fault_of, first_faults, later_faults, item_len, passed}
use Rattle.ctap_cbor.specs.Items.{body_faults, fault, fault_steps, AKey, is_above}
use Rattle.ctap_cbor.specs.Views.{expected_of, end_steps_of}
use Rattle.std.proofs.lemmas.List.{drop-drop, length-append, length-drop, drop_at}
use Rattle.ctap_cbor.specs.Reading.{Reading, rest_of, advance, TakesItem, HasItemError, comparison_steps, GivesKey}
use Rattle.ctap_cbor.proofs.Items.{read_sound, fault_read, Reads, read_again, read_fault, front_is}
use Rattle.std.specs.Prelude.{not}
use Rattle.ctap_cbor.specs.Tree.{count_pairs, Tree, Plain, Array, Map, Trees, no_trees, tree, Pairs, no_pairs, pair}
use Rattle.ctap_cbor.specs.Tree.{count}
use Rattle.ctap_cbor.specs.Grammar.{encode_tree, encode_trees, encode_pairs}
use Rattle.ctap_cbor.specs.Outcome.{Enclosing, InArray, AtKey, AtValue, open_encoding, open_encodings, FailsInside}
use Rattle.ctap_cbor.specs.Outcome.{expected_in, later_keys, later_in_all, later_in_map, later_in_pairs, later_key}
use Rattle.ctap_cbor.specs.Outcome.{later_keys_in, later_keys_in_open, Outcome, Whole, Longer, Stopped, IsOutcome}
use Rattle.ctap_cbor.specs.Outcome.{steps}

-- ---- from the tests that the code makes in turn to reading an item

first_some : (ts us : List (Bool × Kind)) (kind : Kind) → first_fault_of ts ≡ Some kind → first_fault_of (ts ++ us) ≡ Some kind
first_some [] us kind e = absurd cc
first_some ((true, k) ∷ ts) us kind e = e
first_some ((false, k) ∷ ts) us kind e = first_some ts us kind e

first_none : (ts us : List (Bool × Kind)) → first_fault_of ts ≡ None → first_fault_of (ts ++ us) ≡ first_fault_of us
first_none [] us e = refl
first_none ((true, k) ∷ ts) us e = absurd cc
first_none ((false, k) ∷ ts) us e = first_none ts us e

pub fault_first : (levels : ℕ) (due : Expected) (first : ℕ) (rest : List ℕ) (kind : Kind) →
    first_fault_of (first_faults levels due first) ≡ Some kind → read levels due (first ∷ rest) ≡ Err kind
unfolding read
fault_first levels due first rest kind e = search (rules, arith, first_some)

head_false : (ts : List (Bool × Kind)) (t : Bool × Kind) (us : List (Bool × Kind)) → ts ≡ t ∷ us → first_fault_of ts ≡ None →
    t.0 ≡ false
head_false ts t us is e = search (rules, arith)

pub info_known : (levels : ℕ) (due : Expected) (first : ℕ) → first_fault_of (first_faults levels due first) ≡ None →
    info first < 28
unfolding first_faults
info_known levels due first e = leb-false 28 (info first) (head_false (first_faults levels due first) (_, _) _ refl e)

pub passed_first : (levels : ℕ) (due : Expected) (first : ℕ) (rest : List ℕ) (kind : Kind) →
    first_fault_of (first_faults levels due first) ≡ Some kind → 1 ≡ passed kind (first ∷ rest)
unfolding first_faults passed
passed_first levels due first rest kind e = grind arith

-- the item after a valid initial byte, or its error
pub found_part : (levels : ℕ) (is_key : Bool) (bytes : List ℕ) (first : ℕ) (rest : List ℕ) (p : Part) (len : ℕ) →
    bytes ≡ first ∷ rest → first_fault_of (first_faults levels (expected_of is_key) first) ≡ None →
    (first_fault_of (later_faults AnItem first rest) ≡ None) × (p ≡ item_by_major (major first) first rest)
    × (len ≡ item_len first rest) × (len ≤ suc (length rest)) →
    (read levels (expected_of is_key) bytes ≡ Ok (p, drop len bytes)) × (len ≤ length bytes) × (len ≡ passed KeyOrder bytes)
unfolding read passed
found_part levels is_key bytes first rest p len is e h = rw is (grind (arith, first_none))

pub found_error : (levels : ℕ) (is_key : Bool) (bytes : List ℕ) (first : ℕ) (rest : List ℕ) (kind : Kind) (n : ℕ) →
    bytes ≡ first ∷ rest → first_fault_of (first_faults levels (expected_of is_key) first) ≡ None →
    (first_fault_of (later_faults AnItem first rest) ≡ Some kind) × (n ≡ passed kind (first ∷ rest)) × (n ≤ suc (length rest)) →
    (read levels (expected_of is_key) bytes ≡ Err kind) × (n ≡ passed kind bytes) × (n ≤ length bytes)
unfolding read
found_error levels is_key bytes first rest kind n is e h = rw is (grind (arith, first_none))

-- ---- what a cursor's calls do, from what was found at its place

pub all_bytes : (bs : List ℕ) → ((i : ℕ) → get_or bs i 0 < 256) → AreBytes bs
all_bytes [] h = tt
all_bytes (b ∷ bs) h = (h 0, all_bytes bs (λ i. h (suc i)))

-- the rest after what was passed
pub rest_beyond : (old new : Reading) (n s : ℕ) → new ≡ advance old n s → rest_of new ≡ drop n (rest_of old)
rest_beyond old new n s e = ap rest_of e ∙ sym (drop-drop n old.place old.bytes)

-- the length of what was read
pub read_len : (rest text : List ℕ) (n : ℕ) → rest ≡ text ++ drop n rest → n ≤ length rest → n ≡ length text
read_len rest text n e le = omega (arith, ap length e, length-append text (drop n rest), length-drop n rest)

item_taken_at : (levels : ℕ) (old new : Reading) (i : Part) (n : ℕ) → AreBytes (rest_of old) →
    read levels AnItem (rest_of old) ≡ Ok (i, drop n (rest_of old)) → n ≤ length (rest_of old) →
    new ≡ advance old n (n + 0) → TakesItem levels old new i
item_taken_at levels old new i n fits e le moved =
    let h = read_sound levels AnItem (rest_of old) i (drop n (rest_of old)) fits e in
    let len : n ≡ length (encode_item i) = read_len (rest_of old) (encode_item i) n h.parts le in
    let same : n + 0 ≡ length (encode_item i) = omega arith in
    record {
      suits = h.suits;
      spelled = h.parts ∙ ap (λ x. encode_item i ++ x) (sym (rest_beyond old new n (n + 0) moved));
      moved = moved ∙ ap (λ x. advance old x (n + 0)) len ∙ ap (advance old (length (encode_item i))) same;
    }

abbrev pub InOrder : Kind → Type 0
InOrder KeyOrder = ⊥
InOrder _ = Unit {0}

item_in_order : (levels : ℕ) (bytes : List ℕ) (kind : Kind) → fault levels AnItem bytes ≡ Some kind → InOrder kind
unfolding first_faults body_faults
item_in_order levels bytes kind e = grind arith

pub in_order_steps : (kind : Kind) (bytes : List ℕ) → InOrder kind →
    fault_steps kind bytes ≡ passed kind bytes + end_steps_of kind
unfolding fault_steps passed
in_order_steps kind bytes h = search (rules, arith)

item_refused_at : (levels : ℕ) (old new : Reading) (at n : ℕ) (kind : Kind) →
    read levels AnItem (rest_of old) ≡ Err kind →
    n ≡ passed kind (rest_of old) → new ≡ advance old n (n + end_steps_of kind) → at ≡ old.place →
    HasItemError levels AnItem old new at kind
item_refused_at levels old new at n kind e len moved place = grind (arith, fault_read, in_order_steps, item_in_order)

-- the same, of a list that is the rest
pub item_taken : (levels : ℕ) (old new : Reading) (rest : List ℕ) (i : Part) (n : ℕ) → rest ≡ rest_of old →
    AreBytes rest → (read levels AnItem rest ≡ Ok (i, drop n rest)) × (n ≤ length rest) × (n ≡ passed KeyOrder rest) →
    new ≡ advance old n (n + 0) → TakesItem levels old new i
item_taken levels old new rest i n e fits h moved =
    let k = subst (λ x. (read levels AnItem x ≡ Ok (i, drop n x)) × (n ≤ length x)) e (h.0, h.1) in
    item_taken_at levels old new i n (subst AreBytes e fits) k.0 k.1 moved

pub item_refused : (levels : ℕ) (old new : Reading) (at : ℕ) (rest : List ℕ) (kind : Kind) (n end : ℕ) →
    rest ≡ rest_of old → read levels AnItem rest ≡ Err kind × (n ≡ passed kind rest) × (n ≤ length rest) →
    end ≡ end_steps_of kind → new ≡ advance old n (n + end) → at ≡ old.place → HasItemError levels AnItem old new at kind
item_refused levels old new at rest kind n end e h end-is moved place =
    let k = subst (λ x. read levels AnItem x ≡ Err kind × (n ≡ passed kind x) × (n ≤ length x)) e h in
    item_refused_at levels old new at n kind k.0 k.1 (moved ∙ ap (λ x. advance old n (n + x)) end-is) place

pub read_taken : (levels : ℕ) (old new : Reading) (rest : List ℕ) (i : Part) (n : ℕ) → rest ≡ rest_of old →
    read levels AnItem rest ≡ Ok (i, drop n rest) → new ≡ advance old n (n + 0) →
    read levels AnItem (rest_of old) ≡ Ok (i, rest_of new)
read_taken levels old new rest i n e h moved = search (rules, arith, rest_beyond)

-- ---- keys: an item of a key's type, and then its order

order_last : (ts : List (Bool × Kind)) (k : Kind) → first_fault_of (ts ++ (false, k) ∷ []) ≡ None →
    first_fault_of (ts ++ (true, k) ∷ []) ≡ Some k
order_last [] k e = refl
order_last ((true, j) ∷ ts) k e = absurd cc
order_last ((false, j) ∷ ts) k e = order_last ts k e

order_any : (ts : List (Bool × Kind)) (b : Bool) (k kind : Kind) → first_fault_of (ts ++ (false, k) ∷ []) ≡ Some kind →
    first_fault_of (ts ++ (b, k) ∷ []) ≡ Some kind
order_any [] b k kind e = absurd cc
order_any ((true, j) ∷ ts) b k kind e = e
order_any ((false, j) ∷ ts) b k kind e = order_any ts b k kind e

-- the faults of a key but for its order
key_faults : ℕ → List ℕ → List (Bool × Kind)
key_faults first rest = first_faults 0 (AKey None) first ++ body_faults first rest

key_fault_is : (last : Option (List ℕ)) (first : ℕ) (rest : List ℕ) →
    fault 0 (AKey last) (first ∷ rest) ≡ first_fault_of
    (key_faults first rest ++ (not (is_above (AKey last) (take (item_len first rest) (first ∷ rest))), KeyOrder) ∷ [])
unfolding key_faults first_faults body_faults
key_fault_is last first rest = refl

key_first : (first : ℕ) (rest : List ℕ) →
    fault 0 (AKey None) (first ∷ rest) ≡ first_fault_of (key_faults first rest ++ (false, KeyOrder) ∷ [])
key_first first rest = key_fault_is None first rest

-- a fault of a key's type or text stays, whatever the key before
pub key_fault : (last : Option (List ℕ)) (bytes : List ℕ) (kind : Kind) → fault 0 (AKey None) bytes ≡ Some kind →
    fault 0 (AKey last) bytes ≡ Some kind
key_fault last bytes kind e = grind (arith, key_fault_is, key_first, order_any)

pub key_in_order : (bytes : List ℕ) (kind : Kind) → fault 0 (AKey None) bytes ≡ Some kind → InOrder kind
unfolding first_faults body_faults
key_in_order bytes kind e = grind arith

read_none : (levels : ℕ) (due : Expected) (bytes : List ℕ) (i : Part) (tail : List ℕ) →
    read levels due bytes ≡ Ok (i, tail) →
    fault levels due bytes ≡ None
unfolding read
read_none levels due bytes i tail e = grind arith

-- a key that doesn't stand above the one before it
pub key_out : (last : Option (List ℕ)) (bytes : List ℕ) (i : Part) (tail : List ℕ) →
    read 0 (AKey None) bytes ≡ Ok (i, tail) → is_above (AKey last) (take (passed KeyOrder bytes) bytes) ≡ false →
    fault 0 (AKey last) bytes ≡ Some KeyOrder
unfolding passed
key_out last bytes i tail e below = grind (arith, key_fault_is, key_first, order_last, read_none)

-- ---- the calls

part_key : (old new : Reading) (last : Option (List ℕ)) (rest : List ℕ) (i : Part) (n m : ℕ) → rest ≡ rest_of old →
    Reads 0 (AKey None) rest i (drop n rest) → n ≤ length rest → m ≡ comparison_steps last n → new ≡ advance old n (n + m) →
    is_above (AKey last) (take n rest) ≡ true → GivesKey last old new i (take n rest)
part_key old new last rest i n m e h le cost moved above = grind (arith, front_is, read_len, rest_beyond)

pub key_taken : (old new : Reading) (last : Option (List ℕ)) (rest : List ℕ) (i : Part) (n m : ℕ) → rest ≡ rest_of old →
    AreBytes rest → (read 0 (AKey None) rest ≡ Ok (i, drop n rest)) × (n ≤ length rest) × (n ≡ passed KeyOrder rest) →
    m ≡ comparison_steps last n → new ≡ advance old n (n + m) → is_above (AKey last) (take n rest) ≡ true →
    GivesKey last old new i (take n rest)
key_taken old new last rest i n m e fits h cost moved above = grind (arith, part_key, read_sound)

pub key_below : (old new : Reading) (last : Option (List ℕ)) (at : ℕ) (rest : List ℕ) (i : Part) (n m : ℕ) →
    rest ≡ rest_of old → (read 0 (AKey None) rest ≡ Ok (i, drop n rest)) × (n ≤ length rest)
    × (n ≡ passed KeyOrder rest) → m ≡ comparison_steps last n → new ≡ advance old n (n + m) →
    is_above (AKey last) (take n rest) ≡ false → at ≡ old.place → HasItemError 0 (AKey last) old new at KeyOrder
unfolding fault_steps
key_below old new last at rest i n m e h cost moved below place = grind (arith, key_out)

pub key_refused : (old new : Reading) (last : Option (List ℕ)) (at : ℕ) (rest : List ℕ) (kind : Kind) (n end : ℕ) →
    rest ≡ rest_of old → (read 0 (AKey None) rest ≡ Err kind) × (n ≡ passed kind rest) × (n ≤ length rest) →
    end ≡ end_steps_of kind → new ≡ advance old n (n + end) → at ≡ old.place → HasItemError 0 (AKey last) old new at kind
key_refused old new last at rest kind n end e h is moved place =
    grind (arith, fault_read, in_order_steps, key_fault, key_in_order)

-- ---- what was taken is what reading gives

pub key_given : (last : Option (List ℕ)) (old new : Reading) (i : Part) (bytes : List ℕ) →
    GivesKey last old new i bytes → read 0 (AKey last) (rest_of old) ≡ Ok (i, rest_of new)
key_given last old new i bytes k =
    ap (read 0 (AKey last)) k.takes.spelled ∙ read_again 0 (AKey last) (One k.key) (rest_of new) k.takes.suits
    ∙ ap (λ x. Ok (x, rest_of new)) (sym k.part_is)

pub key_not_given : (last : Option (List ℕ)) (old new : Reading) (at : ℕ) (kind : Kind) →
    HasItemError 0 (AKey last) old new at kind → read 0 (AKey last) (rest_of old) ≡ Err kind
key_not_given last old new at kind h = read_fault 0 (AKey last) (rest_of old) kind h.is

-- ---- reading n bytes takes at most 2 * n + 1 steps

mutual
  later_le : (t : Tree) → later_keys t ≤ length (encode_tree t)
  later_le (Plain s) = omega arith
  later_le (Array ts) = omega (arith, later_all_le ts, length-append (head 4 (count ts)) (encode_trees ts))
  later_le (Map ps) = omega
      (arith, later_map_le ps, later_pairs_le ps, length-append (head 5 (count_pairs ps)) (encode_pairs ps))

  later_all_le : (ts : Trees) → later_in_all ts ≤ length (encode_trees ts)
  later_all_le no_trees = omega arith
  later_all_le (tree t ts) = omega (arith, later_le t, later_all_le ts, length-append (encode_tree t) (encode_trees ts))

  later_pairs_le : (ps : Pairs) → later_in_pairs ps ≤ length (encode_pairs ps)
  later_pairs_le no_pairs = omega arith
  later_pairs_le (pair k v ps) =
      omega (arith, later_le v, later_pairs_le ps, length-append (encode_tree k) (encode_tree v ++ encode_pairs ps), length-append (encode_tree v) (encode_pairs ps))

  later_map_le : (ps : Pairs) → later_in_map ps ≤ later_in_pairs ps
  later_map_le no_pairs = omega arith
  later_map_le (pair k v ps) = omega arith

later_key_le : (ps : Pairs) (k : Tree) → later_key ps k ≤ length (encode_tree k)
later_key_le no_pairs k = omega arith
later_key_le (pair j v ps) k = omega arith

open_le : (o : Enclosing) → later_keys_in o ≤ length (open_encoding o)
open_le (InArray n ts) = omega (arith, later_all_le ts, length-append (head 4 n) (encode_trees ts))
open_le (AtKey n ps) = omega (arith, later_map_le ps, later_pairs_le ps, length-append (head 5 n) (encode_pairs ps))
open_le (AtValue n ps k) =
    omega (arith, later_map_le ps, later_pairs_le ps, later_key_le ps k, length-append (head 5 n) (encode_pairs ps ++ encode_tree k), length-append (encode_pairs ps) (encode_tree k))

opens_le : (os : List Enclosing) → later_keys_in_open os ≤ length (open_encodings os)
opens_le [] = omega arith
opens_le (o ∷ os) = omega (arith, open_le o, opens_le os, length-append (open_encoding o) (open_encodings os))

-- what holds of each kind, where no test before it did
AllAfter : (Kind → Type 0) → List (Bool × Kind) → Type 0
AllAfter P [] = Unit {0}
AllAfter P (t ∷ ts) = P t.1 × (t.0 ≡ false → AllAfter P ts)

passed_le : (levels : ℕ) (due : Expected) (bytes : List ℕ) (kind : Kind) → fault levels due bytes ≡ Some kind →
    passed kind bytes ≤ length bytes
unfolding first_faults body_faults passed item_len AllAfter
passed_le levels due bytes kind e = grind (arith, length-drop, ltb-false)

steps_le : (kind : Kind) (bytes : List ℕ) → passed kind bytes ≤ length bytes →
    fault_steps kind bytes ≤ 2 * length bytes + 1
unfolding fault_steps
steps_le kind bytes h = search (rules, arith)

abbrev pub Fault-at : List ℕ → Kind → Type 0
Fault-at rest kind = (levels : ℕ) × (due : Expected) × (fault levels due rest ≡ Some kind)

pub halts_fault : (os : List Enclosing) (levels : ℕ) (due : Expected) (kind : Kind) (rest : List ℕ) →
    FailsInside levels due os kind rest → Fault-at rest kind
halts_fault [] levels due kind rest h = (levels, due, h)
halts_fault (o ∷ os) zero due kind rest h = absurd h
halts_fault (o ∷ os) (suc levels) due kind rest h = halts_fault os levels (expected_in o) kind rest h.2

pub steps_bound : (b : List ℕ) (o : Outcome) → IsOutcome b o → steps b o ≤ 2 * length b + 1
steps_bound b (Whole t) h = omega (arith, later_le t, ap length h.enc.spelled)
steps_bound b (Longer t) h = omega (arith, later_le t, ap length h.2.enc.spelled, ap length h.4, length-append h.0 h.1)
steps_bound b (Stopped os kind) h = grind (arith, drop_at, halts_fault, length-append, opens_le, passed_le, steps_le)
