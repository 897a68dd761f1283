-- The head and content of one item: encoding and decoding are inverse.
use Rattle.std.proofs.lemmas.Grind.{common_steps}
use Rattle.std.proofs.Common.{rules, ◌≡◌, ℕ, zero, suc, ◌+◌, ◌*◌, ◌^◌, ◌<◌, ◌≤◌, cond, List, [], ◌∷◌, ◌++◌, length}
use Rattle.std.proofs.Common.{get_or, take, drop, refl, arith, sym, ap, ◌∙◌, inl, inr, ltb, Bool, true, false, Some}
use Rattle.std.proofs.Common.{None, Ok, Err}
use Rattle.std.specs.Int.{w16 as two_bytes, w32 as four_bytes, w64 as eight_bytes, to_be_bytes, from_be_bytes}
use Rattle.std.proofs.lemmas.Nat.{be_bytes_2, be_bytes_4, be_bytes_8, from_be_bytes-to_be_bytes_2}
use Rattle.std.proofs.lemmas.Nat.{from_be_bytes-to_be_bytes_4, from_be_bytes-to_be_bytes_8}
use Rattle.std.proofs.lemmas.Bool.{cases_lt, le-ltb, lt-ltb, ne_eqb, lt-leb, or_parts, or_from, and_left, and_right}
use Rattle.std.proofs.lemmas.Bool.{not_from_true, not-false}
use Rattle.std.proofs.lemmas.List.{take_at, drop_at, length-append, take-append-drop, append_assoc, append-nil}
use Rattle.std.proofs.lemmas.List.{drop-drop, length-take-le}
use Rattle.ctap_cbor.specs.Grammar.{AreBytes, head, major, info, argument_len, number_after, argument, least_argument}
use Rattle.std.proofs.lemmas.Str.{is_utf8-from_IsUtf8, IsUtf8-from_is_utf8}
use Rattle.std.specs.Prelude.{pos, negsuc, if◌then◌else◌, nat_eq, nat_le, not, ◌&&◌, ◌||◌}
use Rattle.std.specs.List.{AllByRecursion}
use Rattle.std.specs.Str.{is_utf8}
use Rattle.ctap_cbor.specs.declared.fault.Kind.{Kind}
use Rattle.ctap_cbor.specs.Items.{item_len, string_len, Expected, AnItem, is_key, is_above, first_fault_of, fault}
use Rattle.ctap_cbor.specs.Items.{faults, first_faults, body_faults}
use Rattle.ctap_cbor.specs.Tree.{Scalar, Int, Bytes, Text, Flag, Null, Plain}
use Rattle.ctap_cbor.specs.Grammar.{encode_scalar, Fits, IsKey}
use Rattle.ctap_cbor.specs.Items.{Part, One, OpensArray, OpensMap, encode_item, string_at, item_by_major, read}
use Rattle.ctap_cbor.specs.Items.{MayNest, IsAllowed}

-- ---- heads: what is written is read again, and what is read was written so

pub byte_at : (bs : List ℕ) (i : ℕ) → AreBytes bs → get_or bs i 0 < 256
byte_at [] i h = omega arith
byte_at (b ∷ bs) zero h = h.0
byte_at (b ∷ bs) (suc i) h = byte_at bs i h.1

pub AreBytes-take : (n : ℕ) (bs : List ℕ) → AreBytes bs → AreBytes (take n bs)
AreBytes-take zero bs h = tt
AreBytes-take (suc n) [] h = tt
AreBytes-take (suc n) (b ∷ bs) h = (h.0, AreBytes-take n bs h.1)

pub AreBytes-drop : (n : ℕ) (bs : List ℕ) → AreBytes bs → AreBytes (drop n bs)
AreBytes-drop zero bs h = h
AreBytes-drop (suc n) [] h = tt
AreBytes-drop (suc n) (b ∷ bs) h = AreBytes-drop n bs h.1

value_2 : (bs : List ℕ) → length bs ≡ 2 → number_after 0 bs ≡ from_be_bytes two_bytes bs
value_2 bs e = grind (arith, common_steps)

value_4 : (bs : List ℕ) → length bs ≡ 4 → number_after 0 bs ≡ from_be_bytes four_bytes bs
value_4 bs e = grind (arith, common_steps)

value_8 : (bs : List ℕ) → length bs ≡ 8 → number_after 0 bs ≡ from_be_bytes eight_bytes bs
value_8 bs e = grind (arith, common_steps)

-- ---- a head by the length of its argument

head_0 : (m n : ℕ) → n < 24 → head m n ≡ (32 * m + n) ∷ []
unfolding head
head_0 m n a = rw (lt-ltb n 24 a) refl

head_1 : (m n : ℕ) → 24 ≤ n → n < 0x100 → head m n ≡ (32 * m + 24) ∷ n ∷ []
unfolding head
head_1 m n a b = rw (le-ltb n 24 a, lt-ltb n 0x100 b) refl

head_2 : (m n : ℕ) → 0x100 ≤ n → n < 0x1_0000 → head m n ≡ (32 * m + 25) ∷ to_be_bytes two_bytes n
unfolding head
head_2 m n a b = rw (le-ltb n 24 (omega arith), le-ltb n 0x100 a, lt-ltb n 0x1_0000 b) refl

head_4 : (m n : ℕ) → 0x1_0000 ≤ n → n < 0x1_0000_0000 → head m n ≡ (32 * m + 26) ∷ to_be_bytes four_bytes n
unfolding head
head_4 m n a b = grind arith

head_8 : (m n : ℕ) → 0x1_0000_0000 ≤ n → head m n ≡ (32 * m + 27) ∷ to_be_bytes eight_bytes n
unfolding head
head_8 m n a = grind arith

-- ---- what is written is read again

-- a head of this major type and argument, by its first byte, what follows it, and what follows the head
pub record Begins (m n first : ℕ) (after beyond : List ℕ) : Type 0 where
  pub major_is : major first ≡ m
  pub info_known : info first < 28
  pub len : argument_len (info first) ≤ length after
  pub beyond_is : drop (argument_len (info first)) after ≡ beyond
  pub argument_is : argument first after ≡ n
  pub shortest : least_argument (info first) ≤ n

begins : (m c n : ℕ) (arg beyond : List ℕ) → c < 28 → argument_len c ≡ length arg →
    cond (ltb c 24) c (number_after 0 arg) ≡ n → least_argument c ≤ n → Begins m n (32 * m + c) (arg ++ beyond) beyond
unfolding argument
begins m c n arg beyond lt len value least = grind (arith, drop_at, length-append, take_at)

abbrev Again : ℕ → ℕ → List ℕ → Type 0
Again m n beyond = (first : ℕ) × (after : List ℕ) × (head m n ++ beyond ≡ first ∷ after) × Begins m n first after beyond

pub head_again : (m n : ℕ) (beyond : List ℕ) → n < 2 ^ 64 → (first : ℕ) × (after : List ℕ)
    × (head m n ++ beyond ≡ first ∷ after) × Begins m n first after beyond
unfolding argument_len least_argument
head_again m n beyond lt =
    let joined = λ (h : List ℕ) (e : head m n ≡ h). ap (λ (x : List ℕ). x ++ beyond) e in
    elim (cases_lt n 24) as (λ _. Again m n beyond) [
      | inl a ↦ (32 * m + n, beyond, joined ((32 * m + n) ∷ []) (head_0 m n a), begins m n n [] beyond (omega arith) (rw (lt-ltb n 24 a) refl) (rw (lt-ltb n 24 a) refl) (rw (lt-ltb n 24 a) (omega arith)))
      | inr a ↦ elim (cases_lt n 0x100) as (λ _. Again m n beyond) [
        | inl b ↦ (32 * m + 24, n ∷ beyond, joined ((32 * m + 24) ∷ n ∷ []) (head_1 m n a b), begins m 24 n (n ∷ []) beyond (omega arith) refl (omega arith) a)
        | inr b ↦ elim (cases_lt n 0x1_0000) as (λ _. Again m n beyond) [
          | inl c ↦ (32 * m + 25, to_be_bytes two_bytes n ++ beyond, joined ((32 * m + 25) ∷ to_be_bytes two_bytes n) (head_2 m n b c), begins m 25 n (to_be_bytes two_bytes n) beyond (omega arith) refl (value_2 (to_be_bytes two_bytes n) refl ∙ from_be_bytes-to_be_bytes_2 n c) b)
          | inr c ↦ elim (cases_lt n 0x1_0000_0000) as (λ _. Again m n beyond) [
            | inl d ↦ (32 * m + 26, to_be_bytes four_bytes n ++ beyond, joined ((32 * m + 26) ∷ to_be_bytes four_bytes n) (head_4 m n c d), begins m 26 n (to_be_bytes four_bytes n) beyond (omega arith) refl (value_4 (to_be_bytes four_bytes n) refl ∙ from_be_bytes-to_be_bytes_4 n d) c)
            | inr d ↦ (32 * m + 27, to_be_bytes eight_bytes n ++ beyond, joined ((32 * m + 27) ∷ to_be_bytes eight_bytes n) (head_8 m n d), begins m 27 n (to_be_bytes eight_bytes n) beyond (omega arith) refl (value_8 (to_be_bytes eight_bytes n) refl ∙ from_be_bytes-to_be_bytes_8 n lt) d)
          ]
        ]
      ]
    ]

-- ---- what is read was written so

abbrev Spelled : ℕ → ℕ → List ℕ → Type 0
Spelled m c bs = ((32 * m + c) ∷ bs ≡ head m (number_after 0 bs)) × (number_after 0 bs < 2 ^ 64)

spelled_1 : (m : ℕ) (bs : List ℕ) → AreBytes bs → length bs ≡ 1 → 24 ≤ number_after 0 bs → Spelled m 24 bs
spelled_1 m (b ∷ []) fits e least = search (rules, arith, head_1)
spelled_1 m [] fits e least = absurd (omega arith)
spelled_1 m (b ∷ c ∷ bs) fits e least = absurd (omega arith)

spelled_2 : (m : ℕ) (bs : List ℕ) → AreBytes bs → length bs ≡ 2 → 0x100 ≤ number_after 0 bs → Spelled m 25 bs
spelled_2 m bs fits e least = grind (arith, be_bytes_2, byte_at, head_2, value_2)

spelled_4 : (m : ℕ) (bs : List ℕ) → AreBytes bs → length bs ≡ 4 → 0x1_0000 ≤ number_after 0 bs → Spelled m 26 bs
spelled_4 m bs fits e least = grind (arith, be_bytes_4, byte_at, head_4, value_4)

spelled_8 : (m : ℕ) (bs : List ℕ) → AreBytes bs → length bs ≡ 8 → 0x1_0000_0000 ≤ number_after 0 bs → Spelled m 27 bs
spelled_8 m bs fits e least = grind (arith, be_bytes_8, byte_at, head_8, value_8)

-- by the info c, where the first byte is 32 * m + c
abbrev ReadAt : ℕ → List ℕ → ℕ → Type 0
ReadAt m after c = argument_len c ≤ length after →
    least_argument c ≤ cond (ltb c 24) c (number_after 0 (take (argument_len c) after)) →
    ((32 * m + c) ∷ take (argument_len c) after ≡ head m
    (cond (ltb c 24) c (number_after 0 (take (argument_len c) after))))
    × (cond (ltb c 24) c (number_after 0 (take (argument_len c) after)) < 2 ^ 64)

read_at : (m c : ℕ) (after : List ℕ) → AreBytes after → c < 28 → ReadAt m after c
unfolding argument_len least_argument
read_at m c after fits lt = grind (arith, head_0, spelled_1, spelled_2, spelled_4, spelled_8)

-- A head whose tests pass is the shortest of its major type and argument.
pub head_read : (first : ℕ) (after : List ℕ) → AreBytes after → info first < 28 →
    argument_len (info first) ≤ length after → least_argument (info first) ≤ argument first after →
    (first ∷ take (argument_len (info first)) after ≡ head (major first) (argument first after))
    × (argument first after < 2 ^ 64)
unfolding argument
head_read first after fits known len least =
    let r = read_at (major first) (info first) after fits known len least in
    let e : 32 * major first + info first ≡ first = omega arith in
    (ap (λ x. x ∷ take (argument_len (info first)) after) (sym e) ∙ r.0, r.1)

-- ---- one item: its head, and the bytes of a string. Reading gives what was spelled, and what is spelled is read

pub record Reads (levels : ℕ) (due : Expected) (bytes : List ℕ) (i : Part) (rest : List ℕ) : Type 0 where
  pub parts : bytes ≡ encode_item i ++ rest
  pub suits : IsAllowed levels due i
  pub bytes_beyond : AreBytes rest

-- ---- tests in a row

-- no test of the list holds
abbrev NonePass : List (Bool × Kind) → Type 0
NonePass ts = AllByRecursion (λ (t : Bool × Kind). t.0 ≡ false) ts

none_from : (ts : List (Bool × Kind)) → NonePass ts → first_fault_of ts ≡ None
none_from [] h = refl
none_from (t ∷ ts) h = rw h.0 (none_from ts h.1)

none_to : (ts : List (Bool × Kind)) → first_fault_of ts ≡ None → NonePass ts
none_to [] e = tt
none_to ((true, k) ∷ ts) e = absurd cc
none_to ((false, k) ∷ ts) e = (refl, none_to ts e)

-- what stands before the rest
pub front_is : (k : ℕ) (whole text rest : List ℕ) → whole ≡ text ++ rest → drop k whole ≡ rest → take k whole ≡ text
front_is k whole text rest e d = grind (arith, common_steps)

-- ---- order

-- ---- what is spelled is read

accepts : (levels : ℕ) (due : Expected) (i : Part) (first : ℕ) (after rest : List ℕ) → encode_item i ++ rest ≡ first ∷ after →
    NonePass (faults levels due first after) → item_by_major (major first) first after ≡ i →
    drop (item_len first after) (first ∷ after) ≡ rest → read levels due (encode_item i ++ rest) ≡ Ok (i, rest)
unfolding read
accepts levels due i first after rest e none item beyond = search (rules, arith, none_from)

-- A head of a known major type, and the bytes of a string where it has one.
item_again : (levels : ℕ) (due : Expected) (m n : ℕ) (i : Part) (str rest : List ℕ) → encode_item i ≡ head m n ++ str →
    n < 2 ^ 64
    → cond (nat_eq m 2 || nat_eq m 3) n 0 ≡ length str → (nat_eq m 6 || nat_eq m 7) ≡ false
    → (is_key due && (nat_eq m 4 || nat_eq m 5 || nat_eq m 7)) ≡ false →
    ((nat_eq m 4 || nat_eq m 5) && nat_eq levels 0) ≡ false
    → (nat_eq m 3 && not (is_utf8 str)) ≡ false → is_above due (encode_item i) ≡ true
    → ((first : ℕ) (after : List ℕ) → argument first after ≡ n → drop (argument_len (info first)) after ≡ str ++ rest →
    item_by_major m first after ≡ i)
    → read levels due (encode_item i ++ rest) ≡ Ok (i, rest)
unfolding first_faults body_faults string_len item_len
item_again levels due m n i str rest text lt counted known key deep utf8 above item =
    let a = head_again m n (str ++ rest) lt in
    let first : ℕ = a.0 in
    let after : List ℕ = a.1 in
    let b : Begins m n first after (str ++ rest) = a.3 in
    let e : encode_item i ++ rest ≡ first ∷ after = ap (λ x. x ++ rest) text ∙ append_assoc (head m n) str rest ∙ a.2 in
    let more : string_len first after ≡ length str = rw (b.major_is, b.argument_is) counted in
    let len : item_len first after ≡ suc (argument_len (info first) + length str) = omega (arith, more) in
    let beyond : drop (item_len first after) (first ∷ after) ≡ rest =
    rw len (sym (drop-drop (length str) (argument_len (info first)) after) ∙ ap (drop (length str)) b.beyond_is
    ∙ drop_at str rest (length str) refl) in
    let front : take (item_len first after) (first ∷ after) ≡ encode_item i = front_is (item_len first after)
    (first ∷ after) (encode_item i) rest (sym e) beyond in
    let string : take (string_len first after) (drop (argument_len (info first)) after) ≡ str = rw (more, b.beyond_is)
    (take_at str rest (length str) refl) in
    let none : NonePass (faults levels due first after) = (
      lt-leb 28 (info first) b.info_known,
      (
        rw b.major_is (or_from (nat_eq m 6) _ (or_parts (nat_eq m 6) (nat_eq m 7) known).0
            (and_left (nat_eq m 7) _ (or_parts (nat_eq m 6) (nat_eq m 7) known).1)),
        (
          rw b.major_is key,
          (
            rw b.major_is deep,
            (
              le-ltb (length after) (argument_len (info first)) b.len,
              (
                le-ltb (argument first after) (least_argument (info first)) (rw b.argument_is b.shortest),
                (
                  le-ltb (length (drop (argument_len (info first)) after)) (string_len first after)
                      (omega (arith, more, ap length b.beyond_is, length-append str rest)),
                  (
                    rw (string, b.major_is) utf8,
                    (
                      rw front (not_from_true (is_above due (encode_item i)) above),
                      tt,
                    ),
                  ),
                ),
              ),
            ),
          ),
        ),
      ),
    ) in
    accepts levels due i first after rest e none (ap (λ k. item_by_major k first after) b.major_is
    ∙ item first after b.argument_is b.beyond_is) beyond

-- integers and strings, as an item and as a key
plain_again : (levels : ℕ) (due : Expected) (s : Scalar) (rest : List ℕ) → Fits s → IsKey (Plain s) →
    is_above due (encode_scalar s) ≡ true → read levels due (encode_scalar s ++ rest) ≡ Ok (One s, rest)
plain_again levels due (Int (pos n)) rest h k above = item_again levels due 0 n (One (Int (pos n))) [] rest
    (sym (append-nil (head 0 n))) h refl refl (and_right (is_key due) false refl) refl refl above
    (λ first after e f. ap (λ x. One (Int (pos x))) e)
plain_again levels due (Int (negsuc n)) rest h k above = item_again levels due 1 n (One (Int (negsuc n))) [] rest
    (sym (append-nil (head 1 n))) h refl refl (and_right (is_key due) false refl) refl refl above
    (λ first after e f. ap (λ x. One (Int (negsuc x))) e)
plain_again levels due (Bytes str) rest h k above =
    item_again levels due 2 (length str) (One (Bytes str)) str rest refl h.0 refl refl
    (and_right (is_key due) false refl)
    refl refl above
    (λ first after e f. ap (λ x. One (Bytes x)) (rw (e, f) (take_at str rest (length str) refl)))
plain_again levels due (Text str) rest h k above =
    item_again levels due 3 (length str) (One (Text str)) str rest refl h.0 refl refl
    (and_right (is_key due) false refl)
    refl (rw (is_utf8-from_IsUtf8 str h.1) refl) above
    (λ first after e f. ap (λ x. One (Text x)) (rw (e, f) (take_at str rest (length str) refl)))
plain_again levels due (Flag b) rest h k above = absurd k
plain_again levels due Null rest h k above = absurd k

array_again : (levels n : ℕ) (rest : List ℕ) → 0 < levels → n < 2 ^ 64 →
    read levels AnItem (head 4 n ++ rest) ≡ Ok (OpensArray n, rest)
array_again levels n rest some lt = item_again levels AnItem 4 n (OpensArray n) [] rest (sym (append-nil (head 4 n))) lt
    refl refl refl (ne_eqb levels 0 (λ e. omega arith)) refl refl (λ first after e f. ap OpensArray e)

map_again : (levels n : ℕ) (rest : List ℕ) → 0 < levels → n < 2 ^ 64 →
    read levels AnItem (head 5 n ++ rest) ≡ Ok (OpensMap n, rest)
map_again levels n rest some lt = item_again levels AnItem 5 n (OpensMap n) [] rest (sym (append-nil (head 5 n))) lt
    refl
    refl refl (ne_eqb levels 0 (λ e. omega arith)) refl refl (λ first after e f. ap OpensMap e)

simple_again : (levels : ℕ) (s : Scalar) (rest : List ℕ) → Fits s →
    read levels AnItem (encode_scalar s ++ rest) ≡ Ok (One s, rest)
unfolding read first_faults body_faults string_len item_len argument_len argument least_argument
simple_again levels s rest h = grind (arith, plain_again)

pub read_again : (levels : ℕ) (due : Expected) (i : Part) (rest : List ℕ) → IsAllowed levels due i →
    read levels due (encode_item i ++ rest) ≡ Ok (i, rest)
read_again levels due i rest h = grind (arith, array_again, map_again, plain_again, simple_again)

-- ---- what is read was spelled so

-- the item's parts, where its tests pass
item_parts : (m first : ℕ) (after str : List ℕ) (i : Part) → AreBytes after → major first ≡ m → info first < 28 →
    argument_len (info first) ≤ length after → least_argument (info first) ≤ argument first after
    → str ≡ take (string_len first after) (drop (argument_len (info first)) after)
    → encode_item i ≡ head m (argument first after) ++ str
    → (first ∷ after ≡ encode_item i ++ drop (item_len first after) (first ∷ after)) × (argument first after < 2 ^ 64)
unfolding item_len
item_parts m first after str i fits e known len least str-is text =
    let h = head_read first after fits known len least in
    let al : ℕ = argument_len (info first) in
    let k : ℕ = string_len first after in
    let ends : item_len first after ≡ suc (al + k) = omega arith in
    let beyond : drop k (drop al after) ≡ drop (item_len first after) (first ∷ after) =
    rw ends (drop-drop k al after) in (
      ap (λ x. first ∷ x) (sym (take-append-drop al after))
          ∙ ap (λ x. x ++ drop al after) (h.0 ∙ ap (λ x. head x (argument first after)) e)
          ∙ ap (λ x. head m (argument first after) ++ x) (sym (take-append-drop k (drop al after))
          ∙ ap (λ x. x ++ drop k (drop al after)) (sym str-is) ∙ ap (λ x. str ++ x) beyond)
          ∙ sym (append_assoc (head m (argument first after)) str (drop (item_len first after) (first ∷ after)))
          ∙ ap (λ x. x ++ drop (item_len first after) (first ∷ after)) (sym text),
      h.1,
    )

-- an integer or a string where it may stand
plain_suits : (levels : ℕ) (due : Expected) (s : Scalar) → Fits s → IsKey (Plain s) → is_above due (encode_scalar s) ≡ true →
    IsAllowed levels due (One s)
plain_suits levels due s h k above = grind arith

nests : (levels : ℕ) (due : Expected) → (is_key due && true) ≡ false → nat_eq levels 0 ≡ false → MayNest levels due
nests levels due e d = grind arith

-- what the tests of a head say, apart from those on its major type
record Sized (first : ℕ) (after : List ℕ) : Type 0 where
  known : info first < 28
  len : argument_len (info first) ≤ length after
  least : least_argument (info first) ≤ argument first after
  fits : AreBytes after
  small : first < 256

rest_fits : (first : ℕ) (after : List ℕ) → Sized first after → AreBytes (drop (item_len first after) (first ∷ after))
rest_fits first after z = AreBytes-drop (item_len first after) (first ∷ after) (z.small, z.fits)

plain_reads : (m levels : ℕ) (due : Expected) (first : ℕ) (after str : List ℕ) (s : Scalar) → Sized first after →
    major first ≡ m → str ≡ take (string_len first after) (drop (argument_len (info first)) after)
    → encode_scalar s ≡ head m (argument first after) ++ str → (argument first after < 2 ^ 64 → Fits s) →
    IsKey (Plain s) → is_above due (take (item_len first after) (first ∷ after)) ≡ true
    → Reads levels due (first ∷ after) (One s) (drop (item_len first after) (first ∷ after))
plain_reads m levels due first after str s z e str-is text fit key above =
    let p = item_parts m first after str (One s) z.fits e z.known z.len z.least str-is text in
    let front = front_is (item_len first after) (first ∷ after) (encode_scalar s)
    (drop (item_len first after) (first ∷ after)) p.0 refl in
    record { parts = p.0; suits = plain_suits levels due s (fit p.1) key (ap (is_above due) (sym front) ∙ above); bytes_beyond = rest_fits first after z }

simple_reads : (levels : ℕ) (due : Expected) (first i : ℕ) (after : List ℕ) → Sized first after → first ≡ 224 + i →
    i ≡ info first → (is_key due && true) ≡ false → (nat_le 20 i && nat_le i 22) ≡ true → string_len first after ≡ 0
    → Reads levels due (first ∷ after) (One (if nat_eq i 20 then Flag false else if nat_eq i 21 then Flag true else
    Null))
    (drop (item_len first after) (first ∷ after))
unfolding item_len argument_len
simple_reads levels due first i after z e h key range none = grind arith

by_major : (m : ℕ) (levels : ℕ) (due : Expected) (first : ℕ) (after : List ℕ) → Sized first after → major first ≡ m
    → (nat_eq m 6 || (nat_eq m 7 && not (nat_le 20 (info first) && nat_le (info first) 22))) ≡ false
    → (is_key due && (nat_eq m 4 || nat_eq m 5 || nat_eq m 7)) ≡ false →
    ((nat_eq m 4 || nat_eq m 5) && nat_eq levels 0) ≡ false
    → string_len first after ≤ length (drop (argument_len (info first)) after)
    → (nat_eq m 3 && not (is_utf8 (take (string_len first after) (drop (argument_len (info first)) after)))) ≡ false
    → is_above due (take (item_len first after) (first ∷ after)) ≡ true
    → Reads levels due (first ∷ after) (item_by_major m first after) (drop (item_len first after) (first ∷ after))
unfolding string_len
by_major zero levels due first after z e known key deep whole utf8 above =
    plain_reads 0 levels due first after [] (Int (pos (argument first after))) z e (rw e refl)
    (sym (append-nil (head 0 (argument first after)))) (λ h. h) tt above
by_major (suc zero) levels due first after z e known key deep whole utf8 above =
    plain_reads 1 levels due first after [] (Int (negsuc (argument first after))) z e (rw e refl)
    (sym (append-nil (head 1 (argument first after)))) (λ h. h) tt above
by_major (suc (suc zero)) levels due first after z e known key deep whole utf8 above =
    let k : string_len first after ≡ argument first after = rw e refl in
    let n : length (string_at first after) ≡ argument first after = length-take-le (argument first after)
    (drop (argument_len (info first)) after) (omega (arith, k, whole)) in
    plain_reads 2 levels due first after (string_at first after) (Bytes (string_at first after)) z e (rw k refl)
    (rw n refl) (λ h. (rw n h, AreBytes-take (argument first after) (drop (argument_len (info first)) after) (AreBytes-drop (argument_len (info first)) after z.fits))) tt above
by_major (suc (suc (suc zero))) levels due first after z e known key deep whole utf8 above =
    let k : string_len first after ≡ argument first after = rw e refl in
    let n : length (string_at first after) ≡ argument first after = length-take-le (argument first after)
    (drop (argument_len (info first)) after) (omega (arith, k, whole)) in
    let ok : is_utf8 (string_at first after) ≡ true = not-false (is_utf8 (string_at first after)) (rw k at utf8) in
    plain_reads 3 levels due first after (string_at first after) (Text (string_at first after)) z e (rw k refl)
    (rw n refl) (λ h. (rw n h, IsUtf8-from_is_utf8 (string_at first after) ok)) tt above
by_major (suc (suc (suc (suc zero)))) levels due first after z e known key deep whole utf8 above =
    let p = item_parts 4 first after [] (OpensArray (argument first after)) z.fits e z.known z.len z.least (rw e refl)
    (sym (append-nil (head 4 (argument first after)))) in
    record { parts = p.0; suits = (nests levels due key deep, p.1); bytes_beyond = rest_fits first after z }
by_major (suc (suc (suc (suc (suc zero))))) levels due first after z e known key deep whole utf8 above =
    let p = item_parts 5 first after [] (OpensMap (argument first after)) z.fits e z.known z.len z.least (rw e refl)
    (sym (append-nil (head 5 (argument first after)))) in
    record { parts = p.0; suits = (nests levels due key deep, p.1); bytes_beyond = rest_fits first after z }
by_major (suc (suc (suc (suc (suc (suc zero)))))) levels due first after z e known key deep whole utf8 above = absurd cc
by_major (suc (suc (suc (suc (suc (suc (suc zero))))))) levels due first after z e known key deep whole utf8 above =
    simple_reads levels due first (info first) after z (omega arith) refl key
    (not-false (nat_le 20 (info first) && nat_le (info first) 22) known) (rw e refl)
by_major (suc (suc (suc (suc (suc (suc (suc (suc m)))))))) levels due first after z e known key deep whole utf8 above =
    absurd (omega (arith, z.small))

by_tests : (levels : ℕ) (due : Expected) (first : ℕ) (after : List ℕ) → first < 256 → AreBytes after →
    NonePass (faults levels due first after)
    → Reads levels due (first ∷ after) (item_by_major (major first) first after) (drop (item_len first after) (first ∷ after))
unfolding first_faults body_faults
by_tests levels due first after small fits h = search (rules, arith, by_major, not-false)

pub read_sound : (levels : ℕ) (due : Expected) (bytes : List ℕ) (i : Part) (rest : List ℕ) → AreBytes bytes →
    read levels due bytes ≡ Ok (i, rest) → Reads levels due bytes i rest
unfolding read
read_sound levels due bytes i rest fits e = grind (arith, by_tests, none_to)

pub read_fault : (levels : ℕ) (due : Expected) (bytes : List ℕ) (kind : Kind) → fault levels due bytes ≡ Some kind →
    read levels due bytes ≡ Err kind
unfolding read
read_fault levels due bytes kind e = search (rules, arith)

pub fault_read : (levels : ℕ) (due : Expected) (bytes : List ℕ) (kind : Kind) → read levels due bytes ≡ Err kind →
    fault levels due bytes ≡ Some kind
unfolding read
fault_read levels due bytes kind e = search (rules, arith)
