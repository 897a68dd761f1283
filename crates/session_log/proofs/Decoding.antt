-- Pairs of hexadecimal digits are decoded without a branch; bytes that end in zeros.
use Rattle.std.proofs.Common.{◌≡◌, ◌≢◌, ◌++◌, ◌∷◌, [], ◌+◌, ◌-◌, ◌*◌, ◌/◌, ◌%◌, ◌<◌, ◌≤◌, ◌&&◌, ℕ, zero, suc, ◌==◌}
use Rattle.std.proofs.Common.{bit_or, nat_lt, Bool, true, false, List, length, take, drop, slice_index, slice_set}
use Rattle.std.proofs.Common.{Option, Some, None, MatchOption, if◌then◌else◌, Ok, Err, Result, refl, sym, ap, ◌∙◌}
use Rattle.std.proofs.Common.{subst, arith, inl, inr, replicate, append_assoc}
use Rattle.std.proofs.lemmas.Bool.{and_parts, cases_lt}
use Rattle.std.proofs.lemmas.List.{get_or-set_same, get_or-set_other, length-drop, length-take, append-nil, drop_all}
use Rattle.std.proofs.lemmas.List.{length-take-le, take_all, take-append-drop, replicate-append-replicate, drop_more}
use Rattle.std.proofs.lemmas.List.{drop-replicate, length-replicate, length-append}
use Rattle.std.proofs.Math.Seq.{take-add, take-append_seam}
use Rattle.std.specs.Array.{IsFirstChunk}
use borrow.Rule.Slice.PartMut.{put_mid}
use Rattle.std.specs.Result.{IsErr, result_ok, IsOk, OnOk}
use Rattle.hex.specs.Hex.{decode_pairs, decode_sized, hex_digit_value, pair_value, value_at, ◌>>=◌, encode_lower}
use Rattle.hex.specs.Hex.{encode_with, lower_digits, IsBytes}
use Rattle.hex.proofs.Pairs.{decode_sized-pairs, prepend, decode_step, decode_err}
use Rattle.session_log.specs.Grammar.{value_below_16}
use Rattle.hex.specs.declared.error.FromHexError.{FromHexError}
use Rattle.hex.specs.declared.error.FromHexError.TheVariants.{InvalidHexCharacter}
use Rattle.std.specs.Prelude.{slice_index_or}
use Rattle.std.specs.Option.{option_map}
use Rattle.std.proofs.Math.ListN.{drop_of_length-le}
use Rattle.hex.proofs.HexLemmas.{length-encode_with, decode_pairs-encode_with, IsDigits-lower_digits, decode_pairs-ok}
use Rattle.hex.proofs.HexLemmas.{decode_sized-twice, decode_of-even}

-- ---- decoding pairs of digits without a branch for those that are none

pair_is : (a b h l i : ℕ) → hex_digit_value a ≡ Some h → hex_digit_value b ≡ Some l
    → pair_value a b i ≡ Ok (h * 16 + l)
pair_is a b h l i high low = rw (high, low) refl

no_high : (a b i : ℕ) → hex_digit_value a ≡ None → pair_value a b i ≡ Err (InvalidHexCharacter a i)
no_high a b i high = rw high refl

no_low : (a b h i : ℕ) → hex_digit_value a ≡ Some h → hex_digit_value b ≡ None
    → pair_value a b i ≡ Err (InvalidHexCharacter b (i + 1))
no_low a b h i high low = rw (high, low) refl

-- the first i pairs are decoded, or one of them is not of digits
abbrev pub Decoded : Bool → List ℕ → List ℕ → ℕ → Type 0
Decoded true s out i = decode_pairs 0 s ≡ prepend (take i out) (decode_pairs (2 * i) (drop (2 * i) s))
Decoded false s out i = IsErr (decode_pairs 0 s)

is_err : (r : Result (List ℕ) FromHexError) (e : FromHexError) → r ≡ Err e → IsErr r
is_err r e h = search arith

is_digit : (d v : ℕ) → true ≡ nat_lt v 16 → hex_digit_value d ≡ value_below_16 v → hex_digit_value d ≡ Some v
is_digit d v below h = search arith

no_digit : (d v : ℕ) → false ≡ nat_lt v 16 → hex_digit_value d ≡ value_below_16 v → hex_digit_value d ≡ None
no_digit d v over h = search arith

whole : (h l : ℕ) → true ≡ nat_lt h 16 → true ≡ nat_lt l 16 → (h * 16 % 256 + l) % 256 ≡ h * 16 + l
whole h l eh el = search arith

module _ (s out : List ℕ) (i h l : ℕ) (inside : 2 * i + 1 < length s) (fits : i < length out)
    (high : hex_digit_value (slice_index s (2 * i)) ≡ value_below_16 h)
    (low : hex_digit_value (slice_index s (2 * i + 1)) ≡ value_below_16 l) where
  abbrev a : ℕ
  a = slice_index s (2 * i)

  abbrev b : ℕ
  b = slice_index s (2 * i + 1)

  step : (ok x y : Bool) → x ≡ nat_lt h 16 → y ≡ nat_lt l 16 → Decoded ok s out i
      → Decoded (ok && (x && y)) s (slice_set out i ((h * 16 % 256 + l) % 256)) (i + 1)
  step false x y eh el before = before
  step true true true eh el before =
      let pair = pair_is a b h l (2 * i) (is_digit a h eh high) (is_digit b l el low) in
      decode_step s out i _ inside fits (pair ∙ ap Ok (sym (whole h l eh el))) before
  step true false y eh el before =
      is_err _ _ (decode_err s out i _ inside (no_high a b (2 * i) (no_digit a h eh high)) before)
  step true true false eh el before =
      is_err _ _ (decode_err s out i _ inside
      (no_low a b h (2 * i) (is_digit a h eh high) (no_digit b l el low)) before)

  pub decoded_more : (ok : Bool) → Decoded ok s out i
      → Decoded (ok && (nat_lt h 16 && nat_lt l 16)) s (slice_set out i ((h * 16 % 256 + l) % 256)) (i + 1)
  decoded_more ok before = step ok (nat_lt h 16) (nat_lt l 16) refl refl before

-- The values of digits, by their bits, for each byte.
abbrev all_below : (ℕ → Bool) → ℕ → Bool
all_below p zero = true
all_below p (suc n) = p n && all_below p n

all_below_at : (p : ℕ → Bool) (n k : ℕ) → all_below p n ≡ true → k < n → p k ≡ true
all_below_at p zero k h below = absurd (omega (arith, below))
all_below_at p (suc n) k h below =
    let parts = and_parts (p n) (all_below p n) h in
    elim (cases_lt k n) [
      | inl before ↦ all_below_at p n k parts.1 before
      | inr last ↦
          let e : k ≡ n = omega (arith, below, last) in
          rw e parts.0
    ]

-- the place in the alphabet of a letter in either case
abbrev letter : ℕ → ℕ
letter digit = (bit_or digit 32 + 159) % 256

abbrev is_value : Option ℕ → ℕ → Bool
is_value (Some v) w = v == w && nat_lt v 16
is_value None w = w == 255

abbrev value : ℕ → ℕ
value digit = if nat_lt ((digit + 208) % 256) 10 then (digit + 208) % 256
    else if nat_lt (letter digit) 6 then letter digit + 10 else 255

abbrev has_value : ℕ → Bool
has_value digit = is_value (hex_digit_value digit) (value digit)

all_have : all_below has_value 256 ≡ true
all_have = refl

is_value_of : (found : Option ℕ) (v : ℕ) → is_value found v ≡ true → found ≡ value_below_16 v
is_value_of (Some w) v h = search arith
is_value_of None v h = search arith

-- a digit's value by its bits is that of the definition
pub digit_has_value : (digit : ℕ) → digit < 256 → hex_digit_value digit ≡ value_below_16 (value digit)
digit_has_value digit below = is_value_of (hex_digit_value digit) (value digit) (all_below_at has_value 256 digit all_have below)

-- one value more is written
pub values_more : (digits values : List ℕ) (i v : ℕ) → i < length values
    → hex_digit_value (slice_index digits i) ≡ value_below_16 v
    → ((k : ℕ) → k < i → hex_digit_value (slice_index digits k) ≡ value_below_16 (slice_index values k))
    → (k : ℕ) → k < i + 1 → hex_digit_value (slice_index digits k) ≡ value_below_16 (slice_index (slice_set values i v) k)
values_more digits values i v inside is before k below =
    elim (cases_lt k i) [
      | inl lower ↦
          let other : k ≢ i = λ e. omega (arith, lower, e) in
          rw (get_or-set_other values i k v 0 other) (before k lower)
      | inr last ↦
          let e : k ≡ i = omega (arith, below, last) in
          rw (e, get_or-set_same values i v 0 inside) is
    ]

-- What pairs of digits decode to doesn't depend on the index that an error reports.
same_pair : (a b i j : ℕ) → result_ok (pair_value a b i) ≡ result_ok (pair_value a b j)
same_pair a b i j = search arith

same_first : (x y : Result ℕ FromHexError) (p q : Result (List ℕ) FromHexError) → result_ok x ≡ result_ok y
    → result_ok p ≡ result_ok q
    → result_ok (x >>= λ v. p >>= λ bs. Ok (v ∷ bs)) ≡ result_ok (y >>= λ v. q >>= λ bs. Ok (v ∷ bs))
same_first x y p q first rest = search arith

same_bytes : (i j : ℕ) (digits : List ℕ) → result_ok (decode_pairs i digits) ≡ result_ok (decode_pairs j digits)
unfolding decode_pairs
same_bytes i j [] = refl
same_bytes i j (a ∷ []) = refl
same_bytes i j (a ∷ b ∷ rest) =
    same_first (pair_value a b i) (pair_value a b j) (decode_pairs (i + 2) rest) (decode_pairs (j + 2) rest) (same_pair a b i j)
    (same_bytes (i + 2) (j + 2) rest)

-- two parts of a list of bytes, if both are there
abbrev pub both : Option (List ℕ) → Option (List ℕ) → Option (List ℕ)
both (Some front) (Some rest) = Some (front ++ rest)
both (Some front) None = None
both None rest = None

both_nil : (rest : Option (List ℕ)) → rest ≡ both (Some []) rest
both_nil (Some rest) = refl
both_nil None = refl

first_of_both : (x : Result ℕ FromHexError) (p q : Result (List ℕ) FromHexError) (rest : Option (List ℕ))
    → result_ok p ≡ both (result_ok q) rest
    → result_ok (x >>= λ v. p >>= λ bs. Ok (v ∷ bs)) ≡ both (result_ok (x >>= λ v. q >>= λ bs. Ok (v ∷ bs))) rest
first_of_both x p q rest h = search arith

-- the digits of two parts decode to the bytes of both
pub decode-append : (i : ℕ) (xs ys : List ℕ) → length xs % 2 ≡ 0
    → result_ok (decode_pairs i (xs ++ ys)) ≡ both (result_ok (decode_pairs i xs)) (result_ok (decode_pairs 0 ys))
unfolding decode_pairs
decode-append i [] ys even = same_bytes i 0 ys ∙ both_nil (result_ok (decode_pairs 0 ys))
decode-append i (a ∷ []) ys even = absurd (omega (arith, even))
decode-append i (a ∷ b ∷ xs) ys even =
    first_of_both (pair_value a b i) (decode_pairs (i + 2) (xs ++ ys)) (decode_pairs (i + 2) xs) (result_ok (decode_pairs 0 ys))
    (decode-append (i + 2) xs ys (omega (arith, even)))

none_of_error : (r : Result (List ℕ) FromHexError) → IsErr r → None ≡ result_ok r
none_of_error r h = search arith

-- where a pair is not of digits, there are no bytes
pub not_decoded : (digits : List ℕ) (n : ℕ) → length digits ≡ 2 * n → IsErr (decode_pairs 0 digits)
    → None ≡ result_ok (decode_sized digits n)
not_decoded digits n len failed =
    none_of_error (decode_pairs 0 digits) failed
    ∙ ap result_ok (sym (decode_sized-pairs digits n (omega (arith, len)) (omega (arith, len))))

-- Groups of digits, one after the other.
pub none_read : result_ok (decode_pairs 0 []) ≡ Some []
unfolding decode_pairs
none_read = refl

even_take : (digits : List ℕ) (k : ℕ) → 2 * k ≤ length digits → length (take (2 * k) digits) % 2 ≡ 0
even_take digits k fits = search (arith, length-take)

pub sized : (digits : List ℕ) (n : ℕ) → length digits ≡ 2 * n → decode_sized digits n ≡ decode_pairs 0 digits
sized digits n len = decode_sized-pairs digits n (omega (arith, len)) (omega (arith, len))

module _ (digits front : List ℕ) (done : ℕ) (fits : 2 * done ≤ length digits)
    (before : result_ok (decode_pairs 0 (take (2 * done) digits)) ≡ Some front) where
  -- the digits before are decoded, and then the others
  then_rest : (rest : List ℕ)
      → result_ok (decode_pairs 0 (take (2 * done) digits ++ rest)) ≡ both (Some front) (result_ok (decode_pairs 0 rest))
  then_rest rest = decode-append 0 (take (2 * done) digits) rest (even_take digits done fits)
      ∙ ap (λ (b : Option (List ℕ)). both b (result_ok (decode_pairs 0 rest))) before

  pub rest_decoded : result_ok (decode_pairs 0 digits) ≡ both (Some front) (result_ok (decode_pairs 0 (drop (2 * done) digits)))
  rest_decoded = ap (λ (d : List ℕ). result_ok (decode_pairs 0 d)) (sym (take-append-drop (2 * done) digits))
      ∙ then_rest (drop (2 * done) digits)

  module _ (group : List ℕ)
      (first : IsFirstChunk (take (length digits - 2 * done) (drop (2 * done) digits)) group 32) where
    all_left : take (length digits - 2 * done) (drop (2 * done) digits) ≡ drop (2 * done) digits
    all_left = take_all (length digits - 2 * done) (drop (2 * done) digits) (search (arith, length-drop))

    is : group ≡ take 32 (drop (2 * done) digits)
    is = first.same ∙ ap (take 32) all_left

    enough : 32 ≤ length (drop (2 * done) digits)
    enough = omega (arith, first.enough, ap length all_left)

    len : length group ≡ 2 * 16
    len = ap length is ∙ length-take-le 32 (drop (2 * done) digits) enough

    group_bytes : result_ok (decode_sized group 16) ≡ result_ok (decode_pairs 0 group)
    group_bytes = ap result_ok (sized group 16 len)

    pub group_decoded : (bytes : List ℕ) → Some bytes ≡ result_ok (decode_sized group 16)
        → result_ok (decode_pairs 0 (take (2 * (done + 16)) digits)) ≡ Some (front ++ bytes)
    group_decoded bytes h =
        let more : 2 * (done + 16) ≡ 2 * done + 32 = omega arith in
        let cut : take (2 * (done + 16)) digits ≡ take (2 * done) digits ++ group =
        ap (λ (k : ℕ). take k digits) more ∙ take-add (2 * done) 32 digits
        ∙ ap (λ (d : List ℕ). take (2 * done) digits ++ d) (sym is) in
        ap (λ (d : List ℕ). result_ok (decode_pairs 0 d)) cut ∙ then_rest group ∙ ap (both (Some front)) (sym (h ∙ group_bytes))

    pub group_refused : None ≡ result_ok (decode_sized group 16) → result_ok (decode_pairs 0 digits) ≡ None
    group_refused h =
        let rest : List ℕ = drop 32 (drop (2 * done) digits) in
        let split : drop (2 * done) digits ≡ group ++ rest =
        sym (take-append-drop 32 (drop (2 * done) digits)) ∙ ap (λ (d : List ℕ). d ++ rest) (sym is) in
        rest_decoded ∙ ap (λ (d : List ℕ). both (Some front) (result_ok (decode_pairs 0 d))) split
        ∙ ap (both (Some front)) (decode-append 0 group rest (omega (arith, len)))
        ∙ ap (λ (b : Option (List ℕ)). both (Some front) (both b (result_ok (decode_pairs 0 rest)))) (sym (h ∙ group_bytes))

  -- all groups are decoded, and no digit is left
  pub all_decoded : (size : ℕ) → length digits ≡ 2 * size → done ≡ size → result_ok (decode_sized digits size) ≡ Some front
  all_decoded size len end =
      let whole : take (2 * done) digits ≡ digits = take_all (2 * done) digits (omega (arith, len, end)) in
      ap result_ok (sized digits size len) ∙ ap (λ (d : List ℕ). result_ok (decode_pairs 0 d)) (sym whole) ∙ before

chosen : (r : Option (Unit {0})) (all rest : Option (List ℕ)) (front new out : List ℕ) → all ≡ both (Some front) rest
    → out ≡ front ++ new → MatchOption r (rest ≡ None) (λ _. rest ≡ Some new)
    → MatchOption r (all ≡ None) (λ _. all ≡ Some out)
chosen None all rest front new out is text h = is ∙ ap (both (Some front)) h
chosen (Some u) all rest front new out is text h = is ∙ ap (both (Some front)) h ∙ ap Some (sym text)

-- what is left after all groups is decoded, or isn't digits
pub and_rest : (digits old new : List ℕ) (done size all : ℕ) (r : Option (Unit {0})) → length digits ≡ 2 * all
    → all ≡ length old → done ≤ length old → size ≡ length old - done
    → result_ok (decode_pairs 0 (take (2 * done) digits)) ≡ Some (take done old)
    → MatchOption r
    (result_ok (decode_sized (take (length digits - 2 * done) (drop (2 * done) digits)) size) ≡ None)
    (λ _. result_ok (decode_sized (take (length digits - 2 * done) (drop (2 * done) digits)) size) ≡ Some new)
    → MatchOption r (result_ok (decode_sized digits all) ≡ None)
    (λ _. result_ok (decode_sized digits all) ≡ Some (put_mid done (length old - done) old new))
and_rest digits old new done size all r len is_all fits is_left before h =
    let left : take (length digits - 2 * done) (drop (2 * done) digits) ≡ drop (2 * done) digits =
    take_all (length digits - 2 * done) (drop (2 * done) digits) (search (arith, length-drop)) in
    let rest_len : length (drop (2 * done) digits) ≡ 2 * size = length-drop (2 * done) digits ∙ omega (arith, len, is_all, is_left) in
    let rest = ap result_ok (sized (drop (2 * done) digits) size rest_len) in
    let whole = ap result_ok (sized digits all len)
    ∙ rest_decoded digits (take done old) done (omega (arith, len, is_all, fits)) before
    ∙ ap (both (Some (take done old))) (sym rest) in
    let none_left : drop (length old - done) (drop done old) ≡ [] =
    drop_all (length old - done) (drop done old) (search (arith, length-drop)) in
    let written : take done old ++ (new ++ drop (length old - done) (drop done old)) ≡ take done old ++ new =
    ap (λ (t : List ℕ). take done old ++ (new ++ t)) none_left ∙ ap (λ (t : List ℕ). take done old ++ t) (append-nil new) in
    chosen r (result_ok (decode_sized digits all)) (result_ok (decode_sized (drop (2 * done) digits) size))
    (take done old) new (put_mid done (length old - done) old new) whole written (rw left at h)

-- ---- digits of bytes that end in zeros

encode-append : (xs ys : List ℕ) → encode_lower (xs ++ ys) ≡ encode_lower xs ++ encode_lower ys
unfolding encode_with
encode-append [] ys = refl
encode-append (b ∷ xs) ys = search (arith, encode-append xs ys)

pub encode-zeros : (n : ℕ) → encode_lower (replicate n 0) ≡ replicate (2 * n) 48
unfolding encode_with
encode-zeros zero = refl
encode-zeros (suc n) =
    let more : 2 * suc n ≡ suc (suc (2 * n)) = omega arith in
    ap (λ (t : List ℕ). 48 ∷ 48 ∷ t) (encode-zeros n) ∙ ap (λ k. replicate k 48) (sym more)

with_zeros : (found : Option (List ℕ)) (zeros : List ℕ) → both found (Some zeros) ≡ option_map (λ bs. bs ++ zeros) found
with_zeros (Some front) zeros = refl
with_zeros None zeros = refl

zero_bytes : (n : ℕ) → IsBytes (replicate n 0)
zero_bytes zero zero = omega arith
zero_bytes zero (suc i) = omega arith
zero_bytes (suc n) zero = omega arith
zero_bytes (suc n) (suc i) = zero_bytes n i

decode-zeros : (n : ℕ) (xs : List ℕ) → length xs % 2 ≡ 0
    → result_ok (decode_pairs 0 (xs ++ encode_lower (replicate n 0)))
    ≡ option_map (λ bs. bs ++ replicate n 0) (result_ok (decode_pairs 0 xs))
decode-zeros n xs even =
    let zeros : result_ok (decode_pairs 0 (encode_lower (replicate n 0))) ≡ Some (replicate n 0) =
    search (arith, decode_pairs-encode_with, IsDigits-lower_digits, zero_bytes) in
    decode-append 0 xs (encode_lower (replicate n 0)) even ∙ ap (both (result_ok (decode_pairs 0 xs))) zeros
    ∙ with_zeros (result_ok (decode_pairs 0 xs)) (replicate n 0)

-- the bytes that digits write are those that they write without zeros at their end, and zeros
pub decode-trim_zeros : (digits used : List ℕ) (n size : ℕ) → length digits ≡ 2 * size
    → digits ≡ used ++ encode_lower (replicate n 0)
    → result_ok (decode_sized digits size) ≡ option_map (λ bs. bs ++ drop (length used / 2) (replicate size 0))
    (result_ok (decode_sized used (length (take (length used / 2) (replicate {A = ℕ} size 0)))))
decode-trim_zeros digits used n size len is =
    let long = length-encode_with lower_digits (replicate n 0) in
    let all = length-append used (encode_lower (replicate n 0)) in
    search (arith, length-replicate, length-take, decode_sized-twice, decode_of-even, drop-replicate, decode-zeros)

-- the digits of the bytes before the zeros, and those of the zeros
pub written : (bytes used digits : List ℕ) (n : ℕ) → bytes ≡ used ++ replicate n 0
    → digits ≡ replicate (2 * length bytes) 48
    → encode_lower used ++ drop (2 * length used) digits ≡ encode_lower bytes
written bytes used digits n is zeros =
    search (arith, length-append, length-replicate, drop-replicate, encode-zeros, encode-append)

-- a group more of bytes at the end is all the same
pub one_group_more : (size : ℕ) (used front last : List ℕ) (k n byte : ℕ) → front ≡ take k used → last ≡ drop k used
    → last ≡ replicate size byte → used ++ replicate (size * n) byte ≡ front ++ replicate (size * (n + 1)) byte
one_group_more size used front last k n byte is_front is_last same =
    let cut = take-append-drop k used in
    let both = replicate-append-replicate size (size * n) byte in
    let count : size + size * n ≡ size * (n + 1) = omega arith in
    grind (arith, append_assoc front (replicate size byte) (replicate (size * n) byte))

-- zeros as digits, 32 at a time
pub digits_of_zeros : (n : ℕ) → replicate (32 * n) 48 ≡ encode_lower (replicate (16 * n) 0)
digits_of_zeros n = ap (λ (m : ℕ). replicate m 48) (omega arith) ∙ sym (encode-zeros (16 * n))

-- The bytes of digits that zeros follow.
pub take_front : (front rest : List ℕ) (k : ℕ) → length front ≡ k → take k (front ++ rest) ≡ front
take_front front rest k len = rw (sym len) (take-append_seam front rest)

zeros_left : (n : ℕ) → n ≤ 16 → length (take n (replicate {A = ℕ} 16 0)) ≡ n
zeros_left n few = search (arith, length-take, length-replicate)

pub decode-padded : (digits : List ℕ) (n : ℕ) → length digits ≡ 2 * n → n ≤ 16
    → result_ok (decode_sized (digits ++ drop (length digits) (replicate 32 48)) 16)
    ≡ option_map (λ bs. bs ++ replicate (16 - n) 0) (result_ok (decode_sized digits n))
decode-padded digits n len few =
    let cut = drop-replicate {X = ℕ} (length digits) 32 48 in
    let padding : drop (length digits) (replicate 32 48) ≡ encode_lower (replicate (16 - n) 0) =
    cut ∙ ap (λ (k : ℕ). replicate k 48) (omega (arith, len)) ∙ sym (encode-zeros (16 - n)) in
    let size : length (digits ++ drop (length digits) (replicate 32 48)) ≡ 2 * 16 =
    length-append digits _ ∙ ap (λ (t : List ℕ). length digits + length t) cut
    ∙ ap (λ (k : ℕ). length digits + k) (length-replicate (32 - length digits) 48) ∙ omega (arith, len) in
    let half : length digits / 2 ≡ n = omega (arith, len) in
    let trimmed = decode-trim_zeros (digits ++ drop (length digits) (replicate 32 48)) digits (16 - n) 16 size
    (ap (λ (zeros : List ℕ). digits ++ zeros) padding)
    ∙ ap (λ (k : ℕ). option_map (λ (bs : List ℕ). bs ++ drop k (replicate 16 0))
    (result_ok (decode_sized digits (length (take k (replicate {A = ℕ} 16 0)))))) half in
    rw (drop-replicate {X = ℕ} n 16 0, zeros_left n few) at trimmed

abbrev padded : List ℕ → List ℕ
padded digits = digits ++ drop (length digits) (replicate 32 48)

pub refused_rest : (digits : List ℕ) (n : ℕ) → length digits ≡ 2 * n → n ≤ 16
    → None ≡ result_ok (decode_sized (padded digits) 16) → result_ok (decode_sized digits n) ≡ None
refused_rest digits n len few refused = search (arith, decode-padded digits n len few)

front_of : (found : Option (List ℕ)) (n : ℕ) (zeros bytes : List ℕ)
    → ((front : List ℕ) → found ≡ Some front → length front ≡ n)
    → Some bytes ≡ option_map (λ bs. bs ++ zeros) found → found ≡ Some (take n bytes)
front_of (Some front) n zeros bytes long h = search (arith, take_front front zeros n)
front_of None n zeros bytes long h = search arith

long_as_half : (digits : List ℕ) (n : ℕ) → length digits ≡ 2 * n → (front : List ℕ)
    → result_ok (decode_sized digits n) ≡ Some front → length front ≡ n
long_as_half digits n len front h = search (arith, decode_sized-twice, decode_of-even, decode_pairs-ok)

pub decoded_rest : (digits : List ℕ) (n : ℕ) → length digits ≡ 2 * n → n ≤ 16 → (bytes : List ℕ)
    → Some bytes ≡ result_ok (decode_sized (padded digits) 16) → result_ok (decode_sized digits n) ≡ Some (take n bytes)
decoded_rest digits n len few bytes h =
    front_of (result_ok (decode_sized digits n)) n (replicate (16 - n) 0) bytes (long_as_half digits n len)
    (h ∙ decode-padded digits n len few)
