-- Numbers in digits, and bytes in hexadecimal digits.
use Rattle.std.proofs.Common.{◌≡◌, ℕ, ◌<◌, ◌^◌, ◌==◌, ◌&&◌, nat_lt, Bool, true, false, cond, List, Option, Some, None}
use Rattle.std.proofs.Common.{decimal, refl, sym, ap, ◌∙◌, subst, suc, ◌+◌, [], ◌∷◌, ◌++◌, length, get_or, take, drop}
use Rattle.std.proofs.Common.{position, arith, add-one, length-append, take-append-drop, ◌*◌, ◌≤◌, codes, ◌-◌}
use Rattle.std.proofs.Common.{SomeIff, drop_of_length-le, zero, ◌/◌, min, map, flat_map, All, length-drop}
use Rattle.std.proofs.Common.{slice_index}
use Rattle.std.proofs.lemmas.Bool.{ne_eqb, lt-ltb, ltb-true, eqb-true, le-leb, leb-true}
use Rattle.std.proofs.lemmas.Fmt.{decimal_is_IsNumeral, decimal_digit, decimal_nonempty, decimal-digits_value}
use Rattle.std.proofs.lemmas.Fmt.{first_decimal}
use Rattle.std.proofs.lemmas.List.Quantifiers.{position-Some}
use Rattle.std.specs.Cmp.Lexicographic.{pointwise, same_text, other_text}
use Rattle.std.specs.Str.Parse.{digits_value, AllDigits, digits_value_after}
use Rattle.std.specs.Char.{digit_value}
use Rattle.std.specs.List.{AllPass, position_or_len}
use Rattle.session_log.proofs.Cutting.{no_some, refuted}
use Rattle.session_log.specs.Grammar.{moment, first_field, ◌>>=◌, is_word, parsed_packet, parsed_presence}
use Rattle.session_log.specs.Grammar.{parsed_key_pair, parsed_new_key, parsed_signature_bytes, parsed_signature}
use Rattle.session_log.specs.Grammar.{parsed_input, input_line, parsed}
use Rattle.std.proofs.Math.Seq.{take-append_seam, drop-append-add, drop-cons}
use Rattle.hex.specs.Hex.{is_hex_digit, encode_with, encode_lower, lower_digits}
use Rattle.hex.proofs.HexLemmas.{IsOk-decode_sized, decode_sized-ok, decode_sized-twice, decode_of-ok}
use Rattle.hex.proofs.HexLemmas.{length-encode_with}
use Rattle.authn_core.specs.declared.replies.NewKey.{NewKey}
use Rattle.authn_core.specs.declared.replies.Presence.{Presence as AnyPresence}
use Rattle.authn_core.specs.declared.replies.Presence.TheVariants.{Granted, Denied, TimedOut}
use Rattle.token_session.specs.declared.input.Input.{Input as AnyInput}
use Rattle.token_session.specs.declared.input.Input.TheVariants.{Packet, Tick, Presence, Key, Signature}
use Rattle.session_log.specs.declared.line.Line.{Line}
use Rattle.session_log.specs.declared.line.Line.TheVariants.{Input, Count, Comment}
use Rattle.session_log.specs.Grammar.{IsHexOf, IsFieldText, IsInputText, IsLogLineText, letter_and_space}
use Rattle.session_log.specs.Grammar.{presence_word, refusal_word}
use Rattle.std.proofs.lemmas.List.{drop_more, length-take, take_min, drop_min}
use Rattle.std.proofs.lemmas.Str.Parse.{numerals_by_value, tells_digits}
use Rattle.std.proofs.lemmas.List.Elements.{All-nil, All-cons}
use Rattle.std.specs.Simd.{first_chunks}
use Rattle.authn_core.specs.Views.{Needed, nothing, presence, key, sign}
use Rattle.authn_core.specs.Views.{IsValidNeed}
use Rattle.session_log.specs.Semantics.{need_lines, pieces_of, reports_need, signature_need_line, signed_line}
use Rattle.session_log.specs.Semantics.{is_need_line}
use Rattle.session_log.specs.Lines.{is_line_feed}
use Rattle.session_log.proofs.Through.{feedless, AreLines, both, feedless-append, IsSound}

-- ---- a number has one spelling in digits

-- digits that write n are read as n
pub moment_of : (digits : List ℕ) (n : ℕ) → n < 2 ^ 64 → digits ≡ decimal n → moment digits ≡ Some n
unfolding moment
moment_of digits n fits e = grind (arith, decimal_is_IsNumeral n fits, lt-ltb n (2 ^ 64) fits, other_text)

in_range : (n m : ℕ) (a b : Bool) → cond (a && b) (Some n) None ≡ Some m → (n ≡ m) × (a ≡ true) × (b ≡ true)
in_range n m a b h = search arith

-- what is read is what the digits write
pub moment_is : (digits : List ℕ) (n : ℕ) → moment digits ≡ Some n → (n < 2 ^ 64) × (digits ≡ decimal n)
unfolding moment
moment_is digits n e =
    let whole = digits_value 10 digits in
    let parts = in_range whole n (nat_lt whole (2 ^ 64)) (pointwise ◌==◌ (decimal whole) digits) e in
    let fits : whole < 2 ^ 64 = ltb-true whole (2 ^ 64) parts.1 in
    (rw parts.0 at fits, sym (same_text (decimal whole) digits (sym parts.2)) ∙ ap decimal parts.0)

-- what isn't the text of a number isn't read
pub no_moment : (digits : List ℕ) → ((n : ℕ) → n < 2 ^ 64 → digits ≡ decimal n → ⊥) → moment digits ≡ None
no_moment digits h =
    no_some (moment digits) (λ n e. let is = moment_is digits n e in h n is.0 is.1)

-- The fields of a line: a number has no space, so the first space parts it from what follows.

abbrev is_space : ℕ → Bool
is_space b = b == 32

-- fields without a space
abbrev pub NoSpace : List ℕ → Type 0
NoSpace [] = Unit {0}
NoSpace (c ∷ cs) = (is_space c ≡ false) × NoSpace cs

digit_no_space : (c : ℕ) → digit_value c < 10 → is_space c ≡ false
digit_no_space c h = search (arith, ne_eqb)

pub digits_no_space : (digits : List ℕ) → AllDigits 10 digits → NoSpace digits
digits_no_space [] h = tt
digits_no_space (c ∷ cs) h = (digit_no_space c h.0, digits_no_space cs h.1)

hex_digit_no_space : (c : ℕ) → is_hex_digit c ≡ true → is_space c ≡ false
hex_digit_no_space c h = search (arith, ne_eqb)

pub hex_no_space : (digits : List ℕ) → AllPass is_hex_digit digits → NoSpace digits
hex_no_space [] h = tt
hex_no_space (c ∷ cs) h =
    (hex_digit_no_space c (h 0 0 (omega arith)), hex_no_space cs (λ k d l. h (suc k) d (omega arith)))

space_after : (front rest : List ℕ) → NoSpace front → position_or_len is_space (front ++ 32 ∷ rest) ≡ length front
space_after [] rest h = refl
space_after (c ∷ cs) rest h = rw (h.0, space_after cs rest h.1) (omega arith)

-- a field without a space and what follows the space after it
pub parted : (front rest : List ℕ) → NoSpace front → first_field (front ++ 32 ∷ rest) ≡ Some (front, rest)
parted front rest h = search (arith, space_after, length-append, lt-ltb, take-append_seam, drop-append-add)

-- a number has none
pub fields_of : (n : ℕ) (rest : List ℕ) → n < 2 ^ 64 → first_field (decimal n ++ 32 ∷ rest) ≡ Some (decimal n, rest)
fields_of n rest fits = parted (decimal n) rest (digits_no_space (decimal n) (decimal_is_IsNumeral n fits).0.1)

-- the parts, with the space between them
pub fields_are : (fields : List ℕ) (parts : List ℕ × List ℕ) → first_field fields ≡ Some parts
    → fields ≡ parts.0 ++ 32 ∷ parts.1
fields_are fields parts e = go (position is_space fields) refl e
  where
    go : (o : Option ℕ) → position is_space fields ≡ o
        → elim o as (λ _. Option (List ℕ × List ℕ)) [ None ↦ None | Some k ↦ Some (take k fields, drop (k + 1) fields) ]
        ≡ Some parts → fields ≡ parts.0 ++ 32 ∷ parts.1
    go None is e = cc
    go (Some k) is e =
        let at = position-Some is_space fields k 0 is in
        let space : get_or fields k 0 ≡ 32 = eqb-true (get_or fields k 0) 32 at.1 in
        let first : take k fields ≡ parts.0 = cc in
        let second : drop (k + 1) fields ≡ parts.1 = cc in
        cc (take-append-drop k fields, drop-cons fields k 0 at.0, add-one k)

-- What a line says is what the grammar lets it spell.

-- Digits.

all_hex : (digits : List ℕ) (n : ℕ) (bytes : List ℕ) → IsHexOf digits n bytes → AllPass is_hex_digit digits
all_hex digits n bytes h = ((IsOk-decode_sized digits n).0 (rw h refl)).1

-- digits are not `no`
not_word : (digits : List ℕ) → AllPass is_hex_digit digits → 0 < length digits → is_word refusal_word digits ≡ false
not_word digits h some = refuted (is_word refusal_word digits) (λ e.
    let hex = subst (AllPass is_hex_digit) (same_text digits refusal_word (sym e)) h in
    let first : is_hex_digit 110 ≡ true = hex 0 0 (omega arith) in
    cc)

-- From the grammar to the reading.

presence_read : (field : List ℕ) (answer : AnyPresence) → field ≡ presence_word answer
    → parsed_presence field ≡ Some (Presence answer)
presence_read field answer h = search arith

refused_key : (field : List ℕ) → field ≡ refusal_word → parsed_new_key field ≡ Some (Key None)
refused_key field h = ap parsed_new_key h

refused_signature : (field : List ℕ) → field ≡ refusal_word → parsed_signature field ≡ Some (Signature None)
refused_signature field h = ap parsed_signature h

key_fields : (id x y : List ℕ) (pair : NewKey) → IsHexOf id 32 pair.id → IsHexOf x 32 pair.x → IsHexOf y 32 pair.y
    → parsed_key_pair (id ++ 32 ∷ (x ++ 32 ∷ y)) ≡ Some pair
key_fields id x y pair a b c =
    let first = parted id (x ++ 32 ∷ y) (hex_no_space id (all_hex id 32 pair.id a)) in
    let second = parted x y (hex_no_space x (all_hex x 32 pair.x b)) in
    rw (first, second, a, b, c) refl

-- a long field is not `no`
long_not_word : (field : List ℕ) → 2 < length field → is_word refusal_word field ≡ false
long_not_word field long = refuted (is_word refusal_word field) (λ e.
    let two : length field ≡ 2 = ap length (same_text field refusal_word (sym e)) in omega arith)

key_read : (field id x y : List ℕ) (pair : NewKey) → field ≡ id ++ 32 ∷ (x ++ 32 ∷ y) → IsHexOf id 32 pair.id
    → IsHexOf x 32 pair.x → IsHexOf y 32 pair.y → parsed_new_key field ≡ Some (Key (Some pair))
key_read field id x y pair e a b c = search (arith, decode_sized-ok, length-append, long_not_word, key_fields)

signature_bytes : (field bytes : List ℕ) → IsHexOf field (length bytes) bytes → 1 ≤ length bytes → length bytes ≤ 72
    → parsed_signature_bytes field ≡ Some bytes
signature_bytes field bytes h low high = search (arith, le-leb, decode_sized-ok, decode_of-ok, decode_sized-twice)

signature_read : (field bytes : List ℕ) → IsHexOf field (length bytes) bytes → 1 ≤ length bytes → length bytes ≤ 72
    → parsed_signature field ≡ Some (Signature (Some bytes))
signature_read field bytes h low high =
    let digits : length field ≡ 2 * length bytes = decode_sized-ok field (length bytes) bytes h in
    rw (not_word field (all_hex field (length bytes) bytes h) (omega arith), signature_bytes field bytes h low high)
    refl

-- a field, after a letter and a time
line_read : (letter at : ℕ) (field : List ℕ) (input : AnyInput) → at < 2 ^ 64 → parsed_input letter field ≡ Some input
    → input_line letter (decimal at ++ 32 ∷ field) ≡ Some (Input (record { at = at; input = input }))
line_read letter at field input fits e = rw (fields_of at field fits, moment_of (decimal at) at fits refl, e) refl

packet_read : (field bytes : List ℕ) → IsHexOf field 64 bytes → parsed_packet field ≡ Some (Packet (record { 0 = bytes }))
packet_read field bytes h = search arith

input_read : (line : List ℕ) (at : ℕ) (input : AnyInput) → at < 2 ^ 64 → IsInputText line at input
    → parsed line ≡ Some (Input (record { at = at; input = input }))
input_read line at Tick fits h = search (arith, moment_of)
input_read line at (Packet packet) fits h = grind (arith, line_read 62, packet_read h.0 packet.0 h.2)
input_read line at (Presence answer) fits h = grind (arith, line_read 112, presence_read h.0 answer h.2)
input_read line at (Key None) fits h = ap parsed h.1 ∙ line_read 107 at h.0 (Key None) fits (refused_key h.0 h.2)
input_read line at (Key (Some pair)) fits h =
    let f = h.2 in
    ap parsed h.1 ∙ line_read 107 at h.0 (Key (Some pair)) fits (key_read h.0 f.0 f.1 f.2 pair f.3 f.4 f.5 f.6)
input_read line at (Signature None) fits h = grind (arith, line_read 115, refused_signature h.0 h.2)
input_read line at (Signature (Some bytes)) fits h =
    let f = h.2 in
    ap parsed h.1 ∙ line_read 115 at h.0 (Signature (Some bytes)) fits (signature_read h.0 bytes f.0 f.1 f.2)

pub count_rest : (rest : List ℕ) → parsed (61 ∷ rest) ≡ Some Count
count_rest rest = search arith

pub spelled_is_read : (line : List ℕ) (l : Line) → IsLogLineText line l → parsed line ≡ Some l
spelled_is_read line l h = search (arith, input_read, count_rest)

-- From the reading to the grammar.

bind_is : {A B : Type 0} (o : Option A) (f : A → Option B) (b : B) → (o >>= f) ≡ Some b
    → (a : A) × (o ≡ Some a) × (f a ≡ Some b)
bind_is None f b e = cc
bind_is (Some a) f b e = (a, refl, e)

some_is : {A : Type 0} (a b : A) → Some a ≡ Some b → a ≡ b
some_is a b e = cc

-- what an input's letter and field spell
abbrev IsSpelled : ℕ → List ℕ → AnyInput → Type 0
IsSpelled letter field input = (letter_and_space input ≡ letter ∷ 32 ∷ []) × IsFieldText field input

packet_is : (field : List ℕ) (input : AnyInput) → parsed_packet field ≡ Some input → IsSpelled 62 field input
packet_is field input e = search (arith, bind_is, some_is)

presence_is : (field : List ℕ) (input : AnyInput) (a b c : Bool) → is_word (codes "granted") field ≡ a
    → is_word (codes "denied") field ≡ b → is_word (codes "timeout") field ≡ c
    → cond a (Some (Presence Granted)) (cond b (Some (Presence Denied)) (cond c (Some (Presence TimedOut)) None))
    ≡ Some input → IsSpelled 112 field input
presence_is field input a b c h k l r = search (arith, some_is, same_text)

new_key_is : (field : List ℕ) (pair : NewKey) → parsed_key_pair field ≡ Some pair → IsFieldText field (Key (Some pair))
new_key_is field pair e = search (arith, bind_is, fields_are, some_is)

key_is : (field : List ℕ) (input : AnyInput) (a : Bool) → is_word refusal_word field ≡ a
    → cond a (Some (Key None)) (parsed_key_pair field >>= (λ pair. Some (Key (Some pair)))) ≡ Some input
    → IsSpelled 107 field input
key_is field input a h k = search (arith, some_is, same_text, bind_is, new_key_is)

signature_is : (field : List ℕ) (input : AnyInput) (a : Bool) → is_word refusal_word field ≡ a
    → cond a (Some (Signature None)) (parsed_signature_bytes field >>= (λ bytes. Some (Signature (Some bytes)))) ≡ Some input
    → IsSpelled 115 field input
signature_is field input a h k =
    search (arith, some_is, same_text, bind_is, leb-true, decode_sized-ok, decode_of-ok, decode_sized-twice)

input_is : (letter : ℕ) (field : List ℕ) (input : AnyInput) (a b c d : Bool) → (letter == 62) ≡ a → (letter == 112) ≡ b
    → (letter == 107) ≡ c → (letter == 115) ≡ d
    → cond a (parsed_packet field)
    (cond b (parsed_presence field) (cond c (parsed_new_key field) (cond d (parsed_signature field) None))) ≡ Some input
    → IsSpelled letter field input
input_is letter field input true b c d p q r s e = rw (eqb-true letter 62 p) (packet_is field input e)
input_is letter field input false true c d p q r s e =
    rw (eqb-true letter 112 q) (presence_is field input _ _ _ refl refl refl e)
input_is letter field input false false true d p q r s e = rw (eqb-true letter 107 r) (key_is field input _ refl e)
input_is letter field input false false false true p q r s e =
    rw (eqb-true letter 115 s) (signature_is field input _ refl e)
input_is letter field input false false false false p q r s e = cc

-- a field spells an input's line
spells_line : (line field : List ℕ) (at : ℕ) (input : AnyInput) → line ≡ letter_and_space input ++ (decimal at ++ 32 ∷ field)
    → IsFieldText field input → IsInputText line at input
spells_line line field at input e h = search arith

input_spelled : (letter : ℕ) (fields : List ℕ) (l : Line) → input_line letter fields ≡ Some l
    → IsLogLineText (letter ∷ 32 ∷ fields) l
input_spelled letter fields l e =
    let parts = bind_is (first_field fields) _ l e in
    let at = bind_is (moment parts.0.0) _ l parts.2 in
    let input = bind_is (parsed_input letter parts.0.1) _ l at.2 in
    let number = moment_is parts.0.0 at.0 at.1 in
    let whole : fields ≡ decimal at.0 ++ 32 ∷ parts.0.1 =
    fields_are fields parts.0 parts.1 ∙ ap (λ (d : List ℕ). d ++ 32 ∷ parts.0.1) number.1 in
    let spelled =
    input_is letter parts.0.1 input.0 (letter == 62) (letter == 112) (letter == 107) (letter == 115) refl refl refl refl
    input.1 in
    let line : letter ∷ 32 ∷ fields ≡ letter_and_space input.0 ++ (decimal at.0 ++ 32 ∷ parts.0.1) =
    ap (λ (f : List ℕ). letter ∷ 32 ∷ f) whole
    ∙ ap (λ (f : List ℕ). f ++ (decimal at.0 ++ 32 ∷ parts.0.1)) (sym spelled.0) in
    subst (IsLogLineText (letter ∷ 32 ∷ fields)) (some_is (Input (record { at = at.0; input = input.0 })) l input.2)
    (number.0, spells_line (letter ∷ 32 ∷ fields) parts.0.1 at.0 input.0 line spelled.1)

pub read_is_spelled : (line : List ℕ) (l : Line) → parsed line ≡ Some l → IsLogLineText line l
read_is_spelled line l h = search (arith, some_is, eqb-true, input_spelled, bind_is, moment_is)

-- what spells nothing isn't read
pub spells_nothing : (line : List ℕ) → ((l : Line) → IsLogLineText line l → ⊥) → parsed line ≡ None
spells_nothing line h = no_some (parsed line) (λ l e. h l (read_is_spelled line l e))

pub reads_nothing : (line : List ℕ) (l : Line) → parsed line ≡ None → IsLogLineText line l → ⊥
reads_nothing line l e h = cc (sym e ∙ spelled_is_read line l h)

-- ---- digits are read one at a time

-- of the digits `all`, those before `rest` write n
pub record SoFar (all rest : List ℕ) (n : ℕ) : Type 0 where
  pub fits : n < 2 ^ 64
  pub value : digits_value_after 10 n rest ≡ digits_value 10 all
  pub on : AllDigits 10 all → AllDigits 10 rest
  pub back : AllDigits 10 rest → AllDigits 10 all

grows : (n : ℕ) (ds : List ℕ) → n ≤ digits_value_after 10 n ds
grows n [] = omega arith
grows n (c ∷ cs) = omega (arith, grows (n * 10 + digit_value c) cs)

module _ (ds : List ℕ) (i n : ℕ) (so_far : SoFar ds (drop i ds) n) where
  module _ (inside : i < length ds) where
    opened : SoFar ds (get_or ds i 0 ∷ drop (i + 1) ds) n
    opened = subst (λ (rest : List ℕ). SoFar ds rest n) (drop_more ds i 0 inside) so_far

    -- what is written is no less than with one digit more
    pub at_least : n * 10 + digit_value (get_or ds i 0) ≤ digits_value 10 ds
    at_least = search (arith, opened, grows)

-- where no zero stands before other digits, the number that is read has this text
pub moment_read : (ds : List ℕ) (r : Option ℕ) → 0 < length ds → ((2 ≤ length ds) × (get_or ds 0 0 ≡ 48) → ⊥)
    → SomeIff r (AllDigits 10 ds × (digits_value 10 ds ≤ 2 ^ 64 - 1)) (digits_value 10 ds) → r ≡ moment ds
moment_read ds None some padded h = search (arith, no_moment, decimal_is_IsNumeral)
moment_read ds (Some n) some padded h =
    let fits : digits_value 10 ds < 2 ^ 64 = omega (arith, h.0.1) in
    let single : get_or ds 0 0 ≡ 48 → length ds ≡ 1 =
    λ zero_first. omega (arith, some, λ (two : 2 ≤ length ds). padded (two, zero_first)) in
    let text = decimal-digits_value (numerals_by_value _ tells_digits) ds h.0.0 some single fits in
    sym (moment_of ds n (omega (arith, h.1)) (sym text ∙ ap decimal (sym h.1)))

pub no_empty_moment : (ds : List ℕ) → length ds ≡ 0 → moment ds ≡ None
no_empty_moment ds empty = no_moment ds (λ n fits e. omega (arith, decimal_nonempty n fits, ap length e))

-- a number over zero has no zero in front
pub no_padded_moment : (ds : List ℕ) → get_or ds 0 0 ≡ 48 → 2 ≤ length ds → moment ds ≡ None
no_padded_moment ds zero_first two = search (arith, no_moment, decimal_digit, first_decimal)

-- at the end all digits are read
pub all_read : (ds : List ℕ) (i n : ℕ) → SoFar ds (drop i ds) n → length ds ≤ i
    → (AllDigits 10 ds × (digits_value 10 ds ≤ 2 ^ 64 - 1)) × (n ≡ digits_value 10 ds)
all_read ds i n so_far end = search (arith, drop_of_length-le)

-- ---- bytes in pieces of 96, and the lines of what is needed

-- as many as it takes
pub one_less : (n m : ℕ) → 0 < n → m ≡ n - 96 → (n + 95) / 96 ≡ suc ((m + 95) / 96)
one_less n m some less = omega (arith, some, less)

pub pieces_more : (bytes : List ℕ) → 0 < length bytes → pieces_of bytes
    ≡ take (min 96 (length bytes)) bytes ∷ pieces_of (drop (min 96 (length bytes)) bytes)
pieces_more bytes some = search (arith, one_less, length-drop, take_min, drop_min)

-- joined they are the bytes
chunks_joined : (k : ℕ) (bytes : List ℕ) → length bytes ≤ 96 * k → flat_map (λ piece. piece) (first_chunks 96 k bytes)
    ≡ bytes
chunks_joined zero [] fits = refl
chunks_joined zero (b ∷ more) fits = absurd (omega (arith, fits))
chunks_joined (suc k) bytes fits =
    ap (λ t. take 96 bytes ++ t) (chunks_joined k (drop 96 bytes) (omega (arith, fits, length-drop 96 bytes)))
    ∙ take-append-drop 96 bytes

pub pieces_joined : (bytes : List ℕ) → flat_map (λ piece. piece) (pieces_of bytes) ≡ bytes
pieces_joined bytes = chunks_joined ((length bytes + 95) / 96) bytes (omega arith)

chunks_short : (k : ℕ) (bytes : List ℕ) → All (λ piece. length piece ≤ 96) (first_chunks 96 k bytes)
chunks_short zero bytes = All-nil (λ piece. length piece ≤ 96)
chunks_short (suc k) bytes =
    All-cons (λ piece. length piece ≤ 96) (take 96 bytes) (first_chunks 96 k (drop 96 bytes))
    (omega (arith, length-take 96 bytes)) (chunks_short k (drop 96 bytes))

pub pieces_short : (bytes : List ℕ) → All (λ piece. length piece ≤ 96) (pieces_of bytes)
pieces_short bytes = chunks_short ((length bytes + 95) / 96) bytes

-- their lines don't say what is needed
none_says : (pieces : List (List ℕ)) → All (λ line. reports_need line ≡ false) (map signed_line pieces)
none_says [] = All-nil (λ line. reports_need line ≡ false)
none_says (piece ∷ more) = search (arith, All-cons, none_says more)

pub last_says : (n : Needed) → (before : List (List ℕ)) × (last : List ℕ) × (need_lines n ≡ before ++ last ∷ [])
    × (reports_need last ≡ true) × All (λ line. reports_need line ≡ false) before
last_says (sign id signed) =
    (map signed_line (pieces_of signed), signature_need_line id, refl, refl, none_says (pieces_of signed))
last_says n = ([], _, refl, refl, All-nil (λ line. reports_need line ≡ false))

-- The lines that tell what is needed are comments, and short.

-- no digit is a line feed, whatever the byte

from_digits : (ds : List ℕ) → feedless ds ≡ true → (n : ℕ) → is_line_feed (slice_index ds n) ≡ false
from_digits [] h n = refl
from_digits (d ∷ ds) h zero = (both (is_line_feed d) (feedless ds) h).0
from_digits (d ∷ ds) h (suc n) = from_digits ds (both (is_line_feed d) (feedless ds) h).1 n

pub encoded_feedless : (bytes : List ℕ) → feedless (encode_lower bytes) ≡ true
unfolding encode_with
encoded_feedless [] = refl
encoded_feedless (b ∷ more) = search (arith, from_digits, encoded_feedless more)

-- each is a line of a log

pub record IsTold (line : List ℕ) : Type 0 where
  pub feedless : feedless line ≡ true
  pub sound : IsSound line
  pub parsed : parsed line ≡ Some Comment
  pub tells : is_need_line line ≡ true

abbrev pub AreTold : List (List ℕ) → Type 0
AreTold [] = Unit {0}
AreTold (line ∷ more) = IsTold line × AreTold more

AreTold-append : (xs ys : List (List ℕ)) → AreTold xs → AreTold ys → AreTold (xs ++ ys)
AreTold-append [] ys h k = k
AreTold-append (x ∷ xs) ys h k = (h.0, AreTold-append xs ys h.1 k)

told : (line : List ℕ) → feedless line ≡ true → length line < 256 → parsed line ≡ Some Comment → is_need_line line ≡ true
    → IsTold line
told line whole short is tells = search (arith, feedless)

signed_told : (bytes : List ℕ) → length bytes ≤ 96 → IsTold (signed_line bytes)
signed_told bytes few = search (arith, told, feedless-append, encoded_feedless, length-append, length-encode_with)

signature_told : (id : List ℕ) → length id ≡ 32 → IsTold (signature_need_line id)
signature_told id is =
    grind (
      arith,
      encoded_feedless id,
      length-append (codes "# need signature ") (encode_lower id),
      length-encode_with lower_digits id,
    )

chunks_told : (k : ℕ) (bytes : List ℕ) → AreTold (map signed_line (first_chunks 96 k bytes))
chunks_told zero bytes = tt
chunks_told (suc k) bytes =
    (signed_told (take 96 bytes) (omega (arith, length-take 96 bytes)), chunks_told k (drop 96 bytes))

pub needs_told : (n : Needed) → IsValidNeed n → AreTold (need_lines n)
needs_told nothing h = (told (codes "# need nothing") refl (omega arith) refl refl, tt)
needs_told presence h = (told (codes "# need presence") refl (omega arith) refl refl, tt)
needs_told key h = (told (codes "# need key") refl (omega arith) refl refl, tt)
needs_told (sign id signed) h = search (arith, AreTold-append, chunks_told, signature_told)

pub told_are : (ls : List (List ℕ)) → AreTold ls → AreLines ls
told_are [] h = tt
told_are (line ∷ more) h = (h.0.feedless, told_are more h.1)
