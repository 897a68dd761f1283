-- Reading the parts of a snapshot by their heads.
use Rattle.std.proofs.Common.{◌≡◌, ℕ, zero, suc, ◌≤◌, List, length, take, sym, ◌∙◌, ap, arith, rules, ◌++◌, Option}
use Rattle.std.proofs.Common.{Some, None, refl, append_assoc, ◌<◌, ◌^◌, Bool, true, cond}
use Rattle.cred_table.specs.Rows.{IsCut, boundary_to, cut}
use Rattle.std.specs.Prelude.{pos, is_some, ⊤, nat_eq, nat_lt}
use Rattle.ctap_cbor.specs.Tree.{Int, Bytes, Text, Flag}
use Rattle.ctap_cbor.specs.Grammar.{encode_scalar}
use Rattle.ctap_cbor.specs.Items.{AnItem}
use Rattle.ctap_cbor.specs.Grammar.{head}
use Rattle.ctap_cbor.specs.Reading.{Reading, rest_of}
use Rattle.ctap_cbor.specs.Items.{Part, encode_item, IsAllowed, One, OpensArray, OpensMap}
use Rattle.cred_table.specs.Snapshots.{HoldsIfSome, and_then, Reads, ReadsPart, encode_member, ReadsMember, map_in}
use Rattle.cred_table.specs.Snapshots.{key_in, hash_in, handle_in, flag_in, counter_in, name_in, count_in, has_names_in}
use Rattle.cred_table.specs.Snapshots.{encode_name, member_count, encode_row, encode_header}
use Rattle.cred_table.specs.Snapshots.{IsHash, IsUserHandle, IsName, version, IsRow}
use Rattle.cred_table.specs.declared.row.Row.{Row}

-- ---- a name is cut in one way

last_is : (text kept : List ℕ) → IsCut text kept → (k : ℕ) → length kept ≤ k → k ≤ 64 → boundary_to text k ≡ length kept
last_is text kept c zero low high = omega arith
last_is text kept c (suc i) low high = grind (arith, last_is text kept c i)

pub cut_is : (text kept : List ℕ) → IsCut text kept → kept ≡ cut text
unfolding cut
cut_is text kept c = c.begins ∙ ap (λ n. take n text) (sym (last_is text kept c 64 c.short (omega arith)))

-- ---- reading by heads, and members of maps by them

pub item_missed : (capacity : ℕ) (old new : Reading) → ((k : Part) (rest : List ℕ) → IsAllowed capacity AnItem k →
    rest_of old ≡ encode_item k ++ rest → ⊥) → ReadsPart capacity encode_item old new None
item_missed capacity old new none = search (rules, arith)

-- the key, and an item or none
pub key_missed : (capacity key : ℕ) (old middle new : Reading) →
    Reads {V = Unit {0}} (λ _. ⊤) (λ _. encode_scalar (Int (pos key))) old middle None →
    ReadsPart capacity (encode_member key) old new None
key_missed capacity key old middle new first = record {
  took = tt;
  found = λ i rest suits there. let e =
      (first.found tt (encode_item i ++ rest) tt (there ∙ append_assoc (encode_scalar (Int (pos key)))
      (encode_item i) rest)).0 in cc;
}

pub key_then : (capacity key : ℕ) (n : Option Part) (old middle new : Reading) →
    Reads {V = Unit {0}} (λ _. ⊤) (λ _. encode_scalar (Int (pos key))) old middle (Some tt) →
    ReadsPart capacity encode_item middle new n → ReadsPart capacity (encode_member key) old new n
key_then capacity key n old middle new first second = record {
  took = go n second;
  found = λ i rest suits there.
      let f = first.found tt (encode_item i ++ rest) tt (there ∙ append_assoc (encode_scalar (Int (pos key)))
      (encode_item i) rest) in
      second.found i rest suits f.1;
}
  where
    go : (n : Option Part) → ReadsPart capacity encode_item middle new n →
        HoldsIfSome n (λ i. IsAllowed capacity AnItem i × (rest_of old ≡ encode_member key i ++ rest_of new))
    go n r = search (rules, arith, append_assoc)

-- what a value is by its head, or that it is none of its kind
pub value_reads : {W : Type 0} (Is : W → Type 0) (shown : W → Part) (f : Part → Option W) (capacity : ℕ) (spell : Part →
    List ℕ) (old new : Reading) (m : Option Part) →
    ((i : Part) (w : W) → IsAllowed capacity AnItem i → f i ≡ Some w → (i ≡ shown w) × Is w) →
    ((w : W) → Is w → IsAllowed capacity AnItem (shown w) × (f (shown w) ≡ Some w)) →
    ReadsPart capacity spell old new m → Reads Is (λ w. spell (shown w)) old new (and_then f m)
value_reads {W} Is shown f capacity spell old new None sound complete r = search (rules, arith)
value_reads {W} Is shown f capacity spell old new (Some i) sound complete r = record {
  took = go (f i) refl;
  found = λ w rest is there.
      let k = complete w is in
      let e = r.found (shown w) rest k.0 there in
      (ap is_some (ap f (some_same i (shown w) e.0) ∙ k.1), e.1);
}
  where
    some_same : (a b : Part) → Some a ≡ Some b → a ≡ b
    some_same a b e = cc

    go : (o : Option W) → f i ≡ o → HoldsIfSome o (λ w. Is w × (rest_of old ≡ spell (shown w) ++ rest_of new))
    go None e = tt
    go (Some w) e = let s = sound i w r.took.0 e in (s.1, r.took.1 ∙ ap (λ x. spell x ++ rest_of new) s.0)

-- The values of a row's members, by the heads that were read.

some_same : {X : Type 0} (a b : X) → Some a ≡ Some b → a ≡ b
some_same a b e = cc

eq_is : (n m : ℕ) → n ≡ m → nat_eq n m ≡ true
eq_is n m e = grind arith

lt_is : (n m : ℕ) → n < m → nat_lt n m ≡ true
lt_is n m e = grind arith

pub map_sound : (capacity n : ℕ) (i : Part) (w : Unit {0}) → IsAllowed capacity AnItem i → map_in n i ≡ Some w →
    (i ≡ OpensMap n)
    × ⊤
map_sound capacity n i w suits e = grind arith

pub map_complete : (capacity n : ℕ) → 0 < capacity → n < 2 ^ 64 → (w : Unit {0}) → ⊤ →
    IsAllowed capacity AnItem (OpensMap n)
    × (map_in n (OpensMap n) ≡ Some w)
map_complete capacity n deep fits w is = ((deep, fits), ap (λ b. cond b (Some w) None) (eq_is n n refl))

pub key_sound : (capacity n : ℕ) (i : Part) (w : Unit {0}) → IsAllowed capacity AnItem i → key_in n i ≡ Some w →
    (i ≡ One (Int (pos n))) × ⊤
key_sound capacity n i w suits e = grind arith

pub key_complete : (capacity n : ℕ) → n < 2 ^ 64 → (w : Unit {0}) → ⊤ → IsAllowed capacity AnItem (One (Int (pos n)))
    × (key_in n (One (Int (pos n))) ≡ Some w)
key_complete capacity n fits w is = (fits, ap (λ b. cond b (Some w) None) (eq_is n n refl))

pub hash_sound : (capacity : ℕ) (i : Part) (w : List ℕ) → IsAllowed capacity AnItem i → hash_in i ≡ Some w →
    (i ≡ One (Bytes w))
    × IsHash w
hash_sound capacity i w suits e = grind arith

pub hash_complete : (capacity : ℕ) (w : List ℕ) → IsHash w → IsAllowed capacity AnItem (One (Bytes w))
    × (hash_in (One (Bytes w)) ≡ Some w)
hash_complete capacity w is = grind arith

pub short_sound : (capacity : ℕ) (i : Part) (w : List ℕ) → IsAllowed capacity AnItem i → handle_in i ≡ Some w →
    (i ≡ One (Bytes w))
    × IsUserHandle w
short_sound capacity i w suits e = grind arith

pub short_complete : (capacity : ℕ) (w : List ℕ) → IsUserHandle w → IsAllowed capacity AnItem (One (Bytes w))
    × (handle_in (One (Bytes w)) ≡ Some w)
short_complete capacity w is = grind arith

pub name_sound : (capacity : ℕ) (i : Part) (w : List ℕ) → IsAllowed capacity AnItem i → name_in i ≡ Some w →
    (i ≡ One (Text w))
    × IsName true w
name_sound capacity i w suits e = grind arith

pub name_complete : (capacity : ℕ) (w : List ℕ) → IsName true w → IsAllowed capacity AnItem (One (Text w))
    × (name_in (One (Text w)) ≡ Some w)
name_complete capacity w is = grind arith

pub flag_sound : (capacity : ℕ) (i : Part) (w : Bool) → IsAllowed capacity AnItem i → flag_in i ≡ Some w →
    (i ≡ One (Flag w)) × ⊤
flag_sound capacity i w suits e = grind arith

pub flag_complete : (capacity : ℕ) (w : Bool) → ⊤ → IsAllowed capacity AnItem (One (Flag w))
    × (flag_in (One (Flag w)) ≡ Some w)
flag_complete capacity w is = (tt, refl)

pub counter_sound : (capacity : ℕ) (i : Part) (w : ℕ) → IsAllowed capacity AnItem i → counter_in i ≡ Some w →
    (i ≡ One (Int (pos w))) × (w < 2 ^ 32)
counter_sound capacity i w suits e = grind arith

pub counter_complete : (capacity : ℕ) (w : ℕ) → w < 2 ^ 32 → IsAllowed capacity AnItem (One (Int (pos w)))
    × (counter_in (One (Int (pos w))) ≡ Some w)
counter_complete capacity w is = (omega arith, ap (λ b. cond b (Some w) None) (lt_is w (2 ^ 32) is))

pub named_sound : (capacity : ℕ) (i : Part) (w : Bool) → IsAllowed capacity AnItem i → has_names_in i ≡ Some w →
    (i ≡ One (Int (pos (version w)))) × ⊤
named_sound capacity i w suits e = grind arith

pub named_complete : (capacity : ℕ) (w : Bool) → ⊤ → IsAllowed capacity AnItem (One (Int (pos (version w))))
    × (has_names_in (One (Int (pos (version w)))) ≡ Some w)
named_complete capacity w is = search (rules, arith)

pub count_sound : (capacity : ℕ) (i : Part) (w : ℕ) → IsAllowed capacity AnItem i → count_in i ≡ Some w → (i ≡ OpensArray w)
    × (w < 2 ^ 64)
count_sound capacity i w suits e = grind arith

pub count_complete : (capacity : ℕ) (w : ℕ) → 0 < capacity → w < 2 ^ 64 → IsAllowed capacity AnItem (OpensArray w)
    × (count_in (OpensArray w) ≡ Some w)
count_complete capacity w deep is = ((deep, is), refl)

-- ---- what a reader of each kind gives, by what stands there

pub map_read : (capacity n : ℕ) (old new : Reading) (m : Option Part) (r : Option (Unit {0})) → 0 < capacity →
    n < 2 ^ 64 →
    ReadsPart capacity encode_item old new m → r ≡ and_then (map_in n) m →
    Reads {V = Unit {0}} (λ _. ⊤) (λ _. head 5 n) old new r
map_read capacity n old new m r deep fits p e = rw e (value_reads {W = Unit {0}} (λ _. ⊤) (λ _. OpensMap n)
    (map_in n) capacity encode_item old new m (map_sound capacity n) (map_complete capacity n deep fits) p)

pub key_read : (capacity n : ℕ) (old new : Reading) (m : Option Part) (r : Option (Unit {0})) → n < 2 ^ 64 →
    ReadsPart capacity encode_item old new m → r ≡ and_then (key_in n) m →
    Reads {V = Unit {0}} (λ _. ⊤) (λ _. encode_scalar (Int (pos n))) old new r
key_read capacity n old new m r fits p e = rw e (value_reads {W = Unit {0}} (λ _. ⊤) (λ _. One (Int (pos n)))
    (key_in n) capacity encode_item old new m (key_sound capacity n) (key_complete capacity n fits) p)

pub hash_read : (key : ℕ) (old new : Reading) (m : Option Part) (r : Option (List ℕ)) →
    ReadsPart 1 (encode_member key) old new m → r ≡ and_then hash_in m →
    ReadsMember IsHash (λ s. One (Bytes s)) key old new r
hash_read key old new m r p e = rw e (value_reads IsHash (λ s. One (Bytes s)) hash_in 1 (encode_member key) old new m
    (hash_sound 1) (hash_complete 1) p)

pub short_read : (key : ℕ) (old new : Reading) (m : Option Part) (r : Option (List ℕ)) →
    ReadsPart 1 (encode_member key) old new m → r ≡ and_then handle_in m →
    ReadsMember IsUserHandle (λ s. One (Bytes s)) key old new r
short_read key old new m r p e = rw e (value_reads IsUserHandle (λ s. One (Bytes s)) handle_in 1 (encode_member key) old new m
    (short_sound 1) (short_complete 1) p)

pub name_read : (key : ℕ) (old new : Reading) (m : Option Part) (r : Option (List ℕ)) →
    ReadsPart 1 (encode_member key) old new m → r ≡ and_then name_in m →
    ReadsMember (IsName true) (λ s. One (Text s)) key old new r
name_read key old new m r p e = rw e (value_reads (IsName true) (λ s. One (Text s)) name_in 1
    (encode_member key) old new m (name_sound 1) (name_complete 1) p)

pub flag_read : (key : ℕ) (old new : Reading) (m : Option Part) (r : Option Bool) →
    ReadsPart 1 (encode_member key) old new m → r ≡ and_then flag_in m →
    ReadsMember (λ _. ⊤) (λ b. One (Flag b)) key old new r
flag_read key old new m r p e = rw e (value_reads {W = Bool} (λ _. ⊤) (λ b. One (Flag b)) flag_in 1
    (encode_member key) old new m (flag_sound 1) (flag_complete 1) p)

pub counter_read : (key : ℕ) (old new : Reading) (m : Option Part) (r : Option ℕ) →
    ReadsPart 1 (encode_member key) old new m → r ≡ and_then counter_in m →
    ReadsMember (λ n. n < 2 ^ 32) (λ n. One (Int (pos n))) key old new r
counter_read key old new m r p e = rw e (value_reads {W = ℕ} (λ n. n < 2 ^ 32) (λ n. One (Int (pos n))) counter_in 1
    (encode_member key) old new m (counter_sound 1) (counter_complete 1) p)

pub version_read : (key : ℕ) (old new : Reading) (m : Option Part) (r : Option Bool) →
    ReadsPart 3 (encode_member key) old new m → r ≡ and_then has_names_in m →
    ReadsMember (λ _. ⊤) (λ named. One (Int (pos (version named)))) key old new r
version_read key old new m r p e =
    rw e (value_reads {W = Bool} (λ _. ⊤) (λ named. One (Int (pos (version named)))) has_names_in 3
    (encode_member key) old new m (named_sound 3) (named_complete 3) p)

pub count_read : (key : ℕ) (old new : Reading) (m : Option Part) (r : Option ℕ) →
    ReadsPart 3 (encode_member key) old new m → r ≡ and_then count_in m →
    ReadsMember (λ n. n < 2 ^ 64) OpensArray key old new r
count_read key old new m r p e = rw e (value_reads {W = ℕ} (λ n. n < 2 ^ 64) OpensArray count_in 3
    (encode_member key) old new m (count_sound 3) (λ w is. count_complete 3 w (omega arith) is) p)

-- ---- the heads of a snapshot and its rows, read part by part

-- ---- any values, read part by part

-- Where a value's text stands at the beginning, this stands here: so far all parts of such a value were read.
pub record Stands {V : Type 0} (Is : V → Type 0) (spell : V → List ℕ) (start here : Reading) (tail : V → List ℕ →
    List ℕ) : Type 0 where
  pub stands : (v : V) (rest : List ℕ) → Is v → rest_of start ≡ spell v ++ rest → rest_of here ≡ tail v rest

-- the next part was read
next : {V W : Type 0} {Is : V → Type 0} {spell : V → List ℕ} {start a b : Reading} (IsPart : W →
    Type 0) (spell_part : W → List ℕ) (part : V → W) (tail : V → List ℕ → List ℕ) {r : Option W} →
    ((v : V) → Is v → IsPart (part v)) → Stands Is spell start a (λ v rest. spell_part (part v) ++ tail v rest) →
    Reads IsPart spell_part a b r → Stands Is spell start b tail
next IsPart spell_part part tail is s r = search (rules, arith)

-- there was none, so no value stands at the beginning
missed : {V W : Type 0} {Is : V → Type 0} {spell : V → List ℕ} {start a b : Reading} (IsPart : W →
    Type 0) (spell_part : W → List ℕ) (part : V → W) (tail : V → List ℕ → List ℕ) →
    ((v : V) → Is v → IsPart (part v)) → Stands Is spell start a (λ v rest. spell_part (part v) ++ tail v rest) →
    Reads IsPart spell_part a b None → Reads Is spell start b None
missed IsPart spell_part part tail is s r = search (rules, arith)

-- ---- a row

abbrev pub bytes_part : List ℕ → Part
bytes_part s = One (Bytes s)

abbrev pub flag_part : Bool → Part
flag_part b = One (Flag b)

abbrev pub number_part : ℕ → Part
number_part n = One (Int (pos n))

-- what stands after each member
abbrev pub beyond_counter : Bool → Row → List ℕ → List ℕ
beyond_counter named row rest = encode_name named row.name ++ rest

abbrev pub beyond_flag : Bool → Row → List ℕ → List ℕ
beyond_flag named row rest = encode_member 7 (number_part row.counter) ++ beyond_counter named row rest

abbrev pub after_user : Bool → Row → List ℕ → List ℕ
after_user named row rest = encode_member 6 (flag_part row.discoverable) ++ beyond_flag named row rest

abbrev pub beyond_y : Bool → Row → List ℕ → List ℕ
beyond_y named row rest = encode_member 5 (bytes_part row.user.items) ++ after_user named row rest

abbrev pub beyond_x : Bool → Row → List ℕ → List ℕ
beyond_x named row rest = encode_member 4 (bytes_part row.y) ++ beyond_y named row rest

abbrev pub beyond_id : Bool → Row → List ℕ → List ℕ
beyond_id named row rest = encode_member 3 (bytes_part row.x) ++ beyond_x named row rest

abbrev pub beyond_rp : Bool → Row → List ℕ → List ℕ
beyond_rp named row rest = encode_member 2 (bytes_part row.id) ++ beyond_id named row rest

abbrev pub beyond_head : Bool → Row → List ℕ → List ℕ
beyond_head named row rest = encode_member 1 (bytes_part row.rp) ++ beyond_rp named row rest

row_front : (named : Bool) (row : Row) (rest : List ℕ) →
    encode_row named row ++ rest ≡ head 5 (member_count named) ++ beyond_head named row rest
row_front named row rest = search (rules, arith, append_assoc)

abbrev pub RowStands : Bool → Reading → Reading → (Bool → Row → List ℕ → List ℕ) → Type 0
RowStands named start here tail = Stands (IsRow named) (encode_row named) start here (tail named)

begun : {named : Bool} {a : Reading} →
    RowStands named a a (λ named row rest. head 5 (member_count named) ++ beyond_head named row rest)
begun {named} = record { stands = λ row rest is e. e ∙ row_front named row rest }

-- the head, by the number of members
abbrev pub HeadRead : ℕ → Reading → Reading → Option (Unit {0}) → Type 0
HeadRead n a b r = Reads {V = Unit {0}} (λ _. ⊤) (λ _. head 5 n) a b r

pub head_then : {named : Bool} {n : ℕ} {a b : Reading} → n ≡ member_count named → HeadRead n a b (Some tt) →
    RowStands named a b beyond_head
head_then {named} e r = next {W = Unit {0}} (λ _. ⊤) (λ _. head 5 (member_count named)) (λ _. tt) (beyond_head named)
    (λ v is. tt) begun (rw e at r)

pub no_head : {named : Bool} {n : ℕ} {a b : Reading} → n ≡ member_count named → HeadRead n a b None →
    Reads (IsRow named) (encode_row named) a b None
no_head {named} e r = missed {W = Unit {0}} (λ _. ⊤) (λ _. head 5 (member_count named)) (λ _. tt) (beyond_head named)
    (λ v is. tt) begun (rw e at r)

pub rp_then : {named : Bool} {start a b : Reading} {w : List ℕ} → RowStands named start a beyond_head →
    ReadsMember {W = List ℕ} IsHash bytes_part 1 a b (Some w) → RowStands named start b beyond_rp
rp_then {named} s r = grind arith

pub no_rp : {named : Bool} {start a b : Reading} → RowStands named start a beyond_head →
    ReadsMember {W = List ℕ} IsHash bytes_part 1 a b None → Reads (IsRow named) (encode_row named) start b None
no_rp {named} s r = grind arith

pub id_then : {named : Bool} {start a b : Reading} {w : List ℕ} → RowStands named start a beyond_rp →
    ReadsMember {W = List ℕ} IsHash bytes_part 2 a b (Some w) → RowStands named start b beyond_id
id_then {named} s r = grind arith

pub no_id : {named : Bool} {start a b : Reading} → RowStands named start a beyond_rp →
    ReadsMember {W = List ℕ} IsHash bytes_part 2 a b None → Reads (IsRow named) (encode_row named) start b None
no_id {named} s r = grind arith

pub x_then : {named : Bool} {start a b : Reading} {w : List ℕ} → RowStands named start a beyond_id →
    ReadsMember {W = List ℕ} IsHash bytes_part 3 a b (Some w) → RowStands named start b beyond_x
x_then {named} s r = grind arith

pub no_x : {named : Bool} {start a b : Reading} → RowStands named start a beyond_id →
    ReadsMember {W = List ℕ} IsHash bytes_part 3 a b None → Reads (IsRow named) (encode_row named) start b None
no_x {named} s r = grind arith

pub y_then : {named : Bool} {start a b : Reading} {w : List ℕ} → RowStands named start a beyond_x →
    ReadsMember {W = List ℕ} IsHash bytes_part 4 a b (Some w) → RowStands named start b beyond_y
y_then {named} s r = grind arith

pub no_y : {named : Bool} {start a b : Reading} → RowStands named start a beyond_x →
    ReadsMember {W = List ℕ} IsHash bytes_part 4 a b None → Reads (IsRow named) (encode_row named) start b None
no_y {named} s r = grind arith

pub user_then : {named : Bool} {start a b : Reading} {w : List ℕ} → RowStands named start a beyond_y →
    ReadsMember {W = List ℕ} IsUserHandle bytes_part 5 a b (Some w) → RowStands named start b after_user
user_then {named} s r = grind arith

pub no_user : {named : Bool} {start a b : Reading} → RowStands named start a beyond_y →
    ReadsMember {W = List ℕ} IsUserHandle bytes_part 5 a b None → Reads (IsRow named) (encode_row named) start b None
no_user {named} s r = grind arith

pub flag_then : {named : Bool} {start a b : Reading} {w : Bool} → RowStands named start a after_user →
    ReadsMember {W = Bool} (λ _. ⊤) flag_part 6 a b (Some w) → RowStands named start b beyond_flag
flag_then {named} s r = grind arith

pub no_flag : {named : Bool} {start a b : Reading} → RowStands named start a after_user →
    ReadsMember {W = Bool} (λ _. ⊤) flag_part 6 a b None → Reads (IsRow named) (encode_row named) start b None
no_flag {named} s r = grind arith

pub counter_then : {named : Bool} {start a b : Reading} {w : ℕ} → RowStands named start a beyond_flag →
    ReadsMember {W = ℕ} (λ n. n < 2 ^ 32) number_part 7 a b (Some w) → RowStands named start b beyond_counter
counter_then {named} s r = grind arith

pub no_counter : {named : Bool} {start a b : Reading} → RowStands named start a beyond_flag →
    ReadsMember {W = ℕ} (λ n. n < 2 ^ 32) number_part 7 a b None → Reads (IsRow named) (encode_row named) start b None
no_counter {named} s r = grind arith

abbrev beyond_name : Bool → Row → List ℕ → List ℕ
beyond_name named row rest = rest

name_then : {named : Bool} {start a b : Reading} {w : List ℕ} → RowStands named start a beyond_counter →
    Reads (IsName named) (encode_name named) a b (Some w) → RowStands named start b beyond_name
name_then {named} s r = grind arith

pub no_name : {named : Bool} {start a b : Reading} → RowStands named start a beyond_counter →
    Reads (IsName named) (encode_name named) a b None → Reads (IsRow named) (encode_row named) start b None
no_name {named} s r = grind arith

-- all parts were read, and made into a row
pub row_read : {named : Bool} {n : ℕ} {c0 c1 c2 c3 c4 c5 c6 c7 c8 c9 : Reading} (row : Row) → n ≡ member_count named →
    HeadRead n c0 c1 (Some tt) → ReadsMember IsHash bytes_part 1 c1 c2 (Some row.rp) →
    ReadsMember IsHash bytes_part 2 c2 c3 (Some row.id) →
    ReadsMember IsHash bytes_part 3 c3 c4 (Some row.x) → ReadsMember IsHash bytes_part 4 c4 c5 (Some row.y) →
    ReadsMember IsUserHandle bytes_part 5 c5 c6 (Some row.user.items) →
    ReadsMember {W = Bool} (λ _. ⊤) flag_part 6 c6 c7 (Some row.discoverable) →
    ReadsMember {W = ℕ} (λ n. n < 2 ^ 32) number_part 7 c7 c8 (Some row.counter) →
    Reads (IsName named) (encode_name named) c8 c9 (Some row.name) →
    Reads (IsRow named) (encode_row named) c0 c9 (Some row)
row_read {named} {n} {c0} {c1} {c2} {c3} {c4} {c5} {c6} {c7} {c8} {c9} row e h rp id x y user flag counter name =
    let stands = name_then
    (counter_then (flag_then (user_then (y_then (x_then (id_then (rp_then (head_then e h) rp) id) x) y) user) flag)
    counter) name in
    let T = λ (k : ℕ) (p : Part) (r : List ℕ). encode_member k p ++ r in
    let spelled : rest_of c0 ≡ head 5 (member_count named) ++ beyond_head named row (rest_of c9) =
    h.took.1 ∙ ap (λ k. head 5 k ++ rest_of c1) e ∙ ap (λ r. head 5 (member_count named) ++ r)
    (rp.took.1 ∙ ap (T 1 (bytes_part row.rp)) (id.took.1
    ∙ ap (T 2 (bytes_part row.id)) (x.took.1 ∙ ap (T 3 (bytes_part row.x)) (y.took.1 ∙ ap (T 4 (bytes_part row.y))
    (user.took.1 ∙ ap (T 5 (bytes_part row.user.items)) (flag.took.1
    ∙ ap (T 6 (flag_part row.discoverable)) (counter.took.1 ∙ ap (T 7 (number_part row.counter)) name.took.1)))))))
    in
    record {
      took = (record { rp = rp.took.0; id = id.took.0; x = x.took.0; y = y.took.0; user = user.took.0; counter = counter.took.0; name = name.took.0 }, spelled ∙ sym (row_front named row (rest_of c9)));
      found = λ other rest is there. (refl, stands.stands other rest is there);
    }

-- ---- the heads of a snapshot

abbrev pub IsHeads : Bool × ℕ → Type 0
IsHeads h = h.1 < 2 ^ 64

abbrev pub beyond_version : Bool × ℕ → List ℕ → List ℕ
beyond_version h rest = encode_member 2 (OpensArray h.1) ++ rest

abbrev pub beyond_map : Bool × ℕ → List ℕ → List ℕ
beyond_map h rest = encode_member 1 (number_part (version h.0)) ++ beyond_version h rest

abbrev pub HeadsStand : Reading → Reading → (Bool × ℕ → List ℕ → List ℕ) → Type 0
HeadsStand start here tail = Stands IsHeads encode_header start here tail

heads_front : (h : Bool × ℕ) (rest : List ℕ) → encode_header h ++ rest ≡ head 5 2 ++ beyond_map h rest
heads_front h rest = simp append_assoc refl

heads_begun : {a : Reading} → HeadsStand a a (λ h rest. head 5 2 ++ beyond_map h rest)
heads_begun = record { stands = λ h rest is e. e ∙ heads_front h rest }

pub map_then : {a b : Reading} → HeadRead 2 a b (Some tt) → HeadsStand a b beyond_map
map_then r = next {W = Unit {0}} (λ _. ⊤) (λ _. head 5 2) (λ _. tt) beyond_map (λ v is. tt) heads_begun r

pub no_map : {a b : Reading} → HeadRead 2 a b None → Reads IsHeads encode_header a b None
no_map r = missed {W = Unit {0}} (λ _. ⊤) (λ _. head 5 2) (λ _. tt) beyond_map (λ v is. tt) heads_begun r

abbrev pub version_part : Bool → Part
version_part named = number_part (version named)

pub version_then : {start a b : Reading} {w : Bool} → HeadsStand start a beyond_map →
    ReadsMember {W = Bool} (λ _. ⊤) version_part 1 a b (Some w) → HeadsStand start b beyond_version
version_then s r = grind arith

pub no_version : {start a b : Reading} → HeadsStand start a beyond_map →
    ReadsMember {W = Bool} (λ _. ⊤) version_part 1 a b None → Reads IsHeads encode_header start b None
no_version s r = grind arith

count_then : {start a b : Reading} {w : ℕ} → HeadsStand start a beyond_version →
    ReadsMember {W = ℕ} (λ n. n < 2 ^ 64) OpensArray 2 a b (Some w) → HeadsStand start b (λ h rest. rest)
count_then s r = grind arith

pub no_count : {start a b : Reading} → HeadsStand start a beyond_version →
    ReadsMember {W = ℕ} (λ n. n < 2 ^ 64) OpensArray 2 a b None → Reads IsHeads encode_header start b None
no_count s r = grind arith

pub heads_read : {c0 c1 c2 c3 : Reading} (named : Bool) (count : ℕ) → HeadRead 2 c0 c1 (Some tt) →
    ReadsMember {W = Bool} (λ _. ⊤) version_part 1 c1 c2 (Some named) →
    ReadsMember {W = ℕ} (λ n. n < 2 ^ 64) OpensArray 2 c2 c3 (Some count) →
    Reads IsHeads encode_header c0 c3 (Some (named, count))
heads_read {c0} {c1} {c2} {c3} named count h v n =
    let stands = count_then (version_then (map_then h) v) n in
    record {
      took = (n.took.0, h.took.1 ∙ ap (λ r. head 5 2 ++ r) (v.took.1 ∙ ap (λ r. encode_member 1 (version_part named) ++ r) n.took.1) ∙ sym (heads_front (named, count) (rest_of c3)));
      found = λ other rest is there. (refl, stands.stands other rest is there);
    }
