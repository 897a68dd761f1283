-- Parsing is the inverse of encoding, and each encoding has one tree.
use Rattle.std.proofs.Common.{rules, ◌≡◌, ℕ, zero, suc, ◌+◌, ◌-◌, ◌^◌, ◌<◌, ◌≤◌, List, [], ◌∷◌, ◌++◌, Option, Some}
use Rattle.std.proofs.Common.{None, Ok, refl, arith, ap, ◌∙◌, append_assoc, Result, Err, sym, length}
use Rattle.ctap_cbor.specs.declared.fault.Kind.{Kind}
use Rattle.ctap_cbor.specs.Grammar.{head, AreBytes}
use Rattle.ctap_cbor.specs.Outcome.{parse, Parse, Done, Halt, ParsedItems, Ran, Broke, ParsedPairs, Walked, BadKey}
use Rattle.ctap_cbor.specs.Outcome.{BadValue, parsed_array, parsed_map, prepend_item, prepend_pair, then_items, items}
use Rattle.ctap_cbor.specs.Outcome.{then_pairs, then_value, pairs, then_content, outcome_of_parse}
use Rattle.ctap_cbor.specs.Grammar.{AreLawful, AreLawfulPairs, encode_scalar, encode_tree, encode_trees, encode_pairs}
use Rattle.ctap_cbor.specs.Grammar.{Fits, IsKey, IsAbove, KeysAscend, IsLawful}
use Rattle.ctap_cbor.specs.Tree.{Scalar, Tree, Plain, Array, Map, Trees, no_trees, tree, Pairs, no_pairs, pair, depth}
use Rattle.ctap_cbor.specs.Tree.{depth_all, depth_pairs, count, count_pairs, Null}
use Rattle.ctap_cbor.specs.Items.{AnItem, AKey, fault}
use Rattle.ctap_cbor.specs.Outcome.{Enclosing, InArray, AtKey, AtValue, open_encodings, last_key, FailsInside}
use Rattle.ctap_cbor.specs.Outcome.{Outcome, Whole, Longer, Stopped, IsOutcome, result_of, later_keys}
use Rattle.ctap_cbor.specs.Items.{One, OpensArray, OpensMap, read, Part, encode_item, IsAllowed}
use Rattle.ctap_cbor.proofs.Items.{read_again, read_fault, read_sound, fault_read}
use Rattle.std.proofs.lemmas.Grind.{common_steps}
use Rattle.std.proofs.lemmas.List.{append-nil}
use Rattle.ctap_cbor.specs.Laws.{EncodingsAreUnique, NoEncodingIsAPrefix, EncodedTreesAreDecoded, EncodedIsDecoded}
use Rattle.ctap_cbor.specs.Laws.{NoHeadIsAPrefix, CursorReadsOneTree, CanonicalIsAccepted}
use Rattle.std.specs.Prelude.{MatchResult}
use Rattle.ctap_cbor.specs.declared.fault.Fault.{Fault}
use Rattle.ctap_cbor.specs.declared.item.Item.{Item}
use Rattle.ctap_cbor.specs.Views.{to_part, ReadsItem}
use Rattle.ctap_cbor.specs.Reading.{Reading, rest_of, advance, Passes, PassesHead, Fails, IsOnlyResult}

-- ---- what is written is read again, and a text that halts is read to where it halts

pub parse_suc : (levels : ℕ) (bytes : List ℕ) → parse (suc levels) bytes ≡ then_content (parse levels) levels bytes
    (read (suc levels) AnItem bytes)
unfolding parse
parse_suc levels bytes = refl

pub parse_one : (levels : ℕ) (bytes : List ℕ) (s : Scalar) (rest : List ℕ) →
    read levels AnItem bytes ≡ Ok (One s, rest) →
    parse levels bytes ≡ Done (Plain s) rest
unfolding parse
parse_one levels bytes s rest e = search (rules, arith)

pub parse_fault : (levels : ℕ) (bytes : List ℕ) (kind : Kind) → fault levels AnItem bytes ≡ Some kind →
    parse levels bytes ≡ Halt [] kind bytes
unfolding parse
parse_fault levels bytes kind e = search (rules, arith, read_fault)

pub parse_array : (levels n : ℕ) (rest : List ℕ) → n < 2 ^ 64 →
    parse (suc levels) (head 4 n ++ rest) ≡ parsed_array n (items (parse levels) n rest)
parse_array levels n rest lt = parse_suc levels (head 4 n ++ rest)
    ∙ ap (then_content (parse levels) levels (head 4 n ++ rest))
    (read_again (suc levels) AnItem (OpensArray n) rest (omega arith, lt))

pub parse_map : (levels n : ℕ) (rest : List ℕ) → n < 2 ^ 64 →
    parse (suc levels) (head 5 n ++ rest) ≡ parsed_map n (pairs (parse levels) levels n None rest)
parse_map levels n rest lt = parse_suc levels (head 5 n ++ rest)
    ∙ ap (then_content (parse levels) levels (head 5 n ++ rest))
    (read_again (suc levels) AnItem (OpensMap n) rest (omega arith, lt))

abbrev pub all_before : Trees → ParsedItems → ParsedItems
all_before no_trees r = r
all_before (tree t ts) r = prepend_item t (all_before ts r)

abbrev pub pairs_before : Pairs → ParsedPairs → ParsedPairs
pairs_before no_pairs r = r
pairs_before (pair k v ps) r = prepend_pair k v (pairs_before ps r)

pub all_ran : (ts : Trees) (rest : List ℕ) → all_before ts (Ran no_trees rest) ≡ Ran ts rest
all_ran no_trees rest = refl
all_ran (tree t ts) rest = ap (prepend_item t) (all_ran ts rest)

all_broke : (ts : Trees) (os : List Enclosing) (kind : Kind) (rest : List ℕ) →
    all_before ts (Broke no_trees os kind rest) ≡ Broke ts os kind rest
all_broke no_trees os kind rest = refl
all_broke (tree t ts) os kind rest = ap (prepend_item t) (all_broke ts os kind rest)

all_walked : (ps : Pairs) (rest : List ℕ) → pairs_before ps (Walked no_pairs rest) ≡ Walked ps rest
all_walked no_pairs rest = refl
all_walked (pair k v ps) rest = ap (prepend_pair k v) (all_walked ps rest)

all_bad_key : (ps : Pairs) (kind : Kind) (rest : List ℕ) →
    pairs_before ps (BadKey no_pairs kind rest) ≡ BadKey ps kind rest
all_bad_key no_pairs kind rest = refl
all_bad_key (pair k v ps) kind rest = ap (prepend_pair k v) (all_bad_key ps kind rest)

all_bad_value : (ps : Pairs) (key : Tree) (os : List Enclosing) (kind : Kind) (rest : List ℕ) →
    pairs_before ps (BadValue no_pairs key os kind rest) ≡ BadValue ps key os kind rest
all_bad_value no_pairs key os kind rest = refl
all_bad_value (pair k v ps) key os kind rest = ap (prepend_pair k v) (all_bad_value ps key os kind rest)

-- one more pair
pub pairs_more : (sub : List ℕ → Parse) (levels n : ℕ) (last : Option (List ℕ)) (s : Scalar) (rest : List ℕ) → Fits s →
    IsKey (Plain s) → IsAbove last (encode_scalar s) → pairs sub levels (suc n) last (encode_scalar s ++ rest) ≡ then_pairs
    (Plain s) (sub rest) (pairs sub levels n (Some (encode_scalar s)))
pairs_more sub levels n last s rest fits key above =
    ap (λ r. then_value sub (encode_scalar s ++ rest) r (λ k. pairs sub levels n (Some k)))
    (read_again levels (AKey last) (One s) rest (fits, key, above))

mutual
  pub parse_again : (t : Tree) (levels : ℕ) (rest : List ℕ) → IsLawful t → depth t ≤ levels →
      parse levels (encode_tree t ++ rest) ≡ Done t rest
  parse_again (Plain s) levels rest h d = parse_one levels (encode_scalar s ++ rest) s rest
      (read_again levels AnItem (One s) rest h)
  parse_again (Array ts) zero rest h d = absurd (omega arith)
  parse_again (Array ts) (suc levels) rest h d =
      ap (parse (suc levels)) (append_assoc (head 4 (count ts)) (encode_trees ts) rest)
      ∙ parse_array levels (count ts) (encode_trees ts ++ rest) h.0
      ∙ ap (parsed_array (count ts)) (
      ap (λ n. items (parse levels) n (encode_trees ts ++ rest)) (let e : count ts ≡ count ts + 0 = omega arith in e)
      ∙ items_again ts levels 0 rest h.1 (omega arith)
      ∙ all_ran ts rest)
  parse_again (Map ps) zero rest h d = absurd (omega arith)
  parse_again (Map ps) (suc levels) rest h d =
      ap (parse (suc levels)) (append_assoc (head 5 (count_pairs ps)) (encode_pairs ps) rest)
      ∙ parse_map levels (count_pairs ps) (encode_pairs ps ++ rest) h.0
      ∙ ap (parsed_map (count_pairs ps)) (
      ap (λ n. pairs (parse levels) levels n None (encode_pairs ps ++ rest))
      (let e : count_pairs ps ≡ count_pairs ps + 0 =
      omega arith in e)
      ∙ pairs_again ps levels 0 None rest h.1 h.2 (omega arith)
      ∙ all_walked ps rest)

  pub items_again : (ts : Trees) (levels n : ℕ) (rest : List ℕ) → AreLawful ts → depth_all ts ≤ levels →
      items (parse levels) (count ts + n) (encode_trees ts ++ rest) ≡ all_before ts (items (parse levels) n rest)
  items_again no_trees levels n rest h d = ap (λ m. items (parse levels) m rest) (let e : 0 + n ≡ n = omega arith in e)
  items_again (tree t ts) levels n rest h d =
      ap (λ m. items (parse levels) m (encode_trees (tree t ts) ++ rest)) (let e : count ts + 1 + n ≡ suc (count ts + n) =
      omega arith in e)
      ∙ ap (items (parse levels) (suc (count ts + n))) (append_assoc (encode_tree t) (encode_trees ts) rest)
      ∙ ap (λ p. then_items p (items (parse levels) (count ts + n))) (parse_again t levels (encode_trees ts ++ rest) h.0
      (omega arith))
      ∙ ap (prepend_item t) (items_again ts levels n rest h.1 (omega arith))

  pub pairs_again : (ps : Pairs) (levels n : ℕ) (last : Option (List ℕ)) (rest : List ℕ) → KeysAscend last ps →
      AreLawfulPairs ps → depth_pairs ps ≤ levels →
      pairs (parse levels) levels (count_pairs ps + n) last (encode_pairs ps ++ rest) ≡ pairs_before ps
      (pairs (parse levels) levels n (last_key last ps) rest)
  pairs_again no_pairs levels n last rest u h d = ap (λ m. pairs (parse levels) levels m last rest)
      (let e : 0 + n ≡ n = omega arith in e)
  pairs_again (pair (Array ts) v ps) levels n last rest u h d = absurd u.0
  pairs_again (pair (Map qs) v ps) levels n last rest u h d = absurd u.0
  pairs_again (pair (Plain s) v ps) levels n last rest u h d =
      ap (λ m. pairs (parse levels) levels m last (encode_pairs (pair (Plain s) v ps) ++ rest))
      (let e : count_pairs ps + 1 + n ≡ suc (count_pairs ps + n) = omega arith in e)
      ∙ ap (pairs (parse levels) levels (suc (count_pairs ps + n)) last)
      (append_assoc (encode_scalar s) (encode_tree v ++ encode_pairs ps) rest
      ∙ ap (λ x. encode_scalar s ++ x) (append_assoc (encode_tree v) (encode_pairs ps) rest))
      ∙ pairs_more (parse levels) levels (count_pairs ps + n) last s (encode_tree v ++ (encode_pairs ps ++ rest)) h.0 u.0 u.1
      ∙ ap (λ p. then_pairs (Plain s) p (pairs (parse levels) levels (count_pairs ps + n) (Some (encode_scalar s))))
      (parse_again v levels (encode_pairs ps ++ rest) h.1 (omega arith))
      ∙ ap (prepend_pair (Plain s) v) (pairs_again ps levels n (Some (encode_scalar s)) rest u.2 h.2 (omega arith))

pub halt_again : (os : List Enclosing) (levels : ℕ) (kind : Kind) (rest : List ℕ) → FailsInside levels AnItem os kind rest →
    parse levels (open_encodings os ++ rest) ≡ Halt os kind rest
halt_again [] levels kind rest h = parse_fault levels rest kind h
halt_again (o ∷ os) zero kind rest h = absurd h
halt_again (InArray total done ∷ os) (suc levels) kind rest h =
    let left : ℕ = total - count done - 1 in
    let e : total ≡ count done + suc left = omega (arith, h.0) in
    let beyond : List ℕ = open_encodings os ++ rest in
    ap (parse (suc levels)) (append_assoc (head 4 total ++ encode_trees done) (open_encodings os) rest
    ∙ append_assoc (head 4 total) (encode_trees done) beyond)
    ∙ parse_array levels total (encode_trees done ++ beyond) h.0.0
    ∙ ap (parsed_array total) (
    ap (λ n. items (parse levels) n (encode_trees done ++ beyond)) e
    ∙ items_again done levels (suc left) beyond h.0.2 h.0.3
    ∙ ap (λ p. all_before done (then_items p (items (parse levels) left))) (halt_again os levels kind rest h.2)
    ∙ all_broke done os kind rest)
halt_again (AtKey total done ∷ []) (suc levels) kind rest h =
    let left : ℕ = total - count_pairs done - 1 in
    let e : total ≡ count_pairs done + suc left = omega (arith, h.0) in
    ap (parse (suc levels)) (append_assoc (head 5 total ++ encode_pairs done) [] rest
    ∙ append_assoc (head 5 total) (encode_pairs done) rest)
    ∙ parse_map levels total (encode_pairs done ++ rest) h.0.0
    ∙ ap (parsed_map total) (
    ap (λ n. pairs (parse levels) levels n None (encode_pairs done ++ rest)) e
    ∙ pairs_again done levels (suc left) None rest h.0.2 h.0.3 h.0.4
    ∙ ap (λ r. pairs_before done (then_value (parse levels) rest r (λ k. pairs (parse levels) levels left (Some k))))
    (read_fault levels (AKey (last_key None done)) rest kind h.2)
    ∙ all_bad_key done kind rest)
halt_again (AtKey total done ∷ o ∷ os) (suc levels) kind rest h = absurd h.1
halt_again (AtValue total done (Array ts) ∷ os) (suc levels) kind rest h = absurd h.0.5
halt_again (AtValue total done (Map ps) ∷ os) (suc levels) kind rest h = absurd h.0.5
halt_again (AtValue total done (Plain s) ∷ os) (suc levels) kind rest h =
    let left : ℕ = total - count_pairs done - 1 in
    let e : total ≡ count_pairs done + suc left = omega (arith, h.0) in
    let beyond : List ℕ = open_encodings os ++ rest in
    ap (parse (suc levels)) (
    append_assoc (head 5 total ++ (encode_pairs done ++ encode_scalar s)) (open_encodings os) rest
    ∙ append_assoc (head 5 total) (encode_pairs done ++ encode_scalar s) beyond
    ∙ ap (λ x. head 5 total ++ x) (append_assoc (encode_pairs done) (encode_scalar s) beyond))
    ∙ parse_map levels total (encode_pairs done ++ (encode_scalar s ++ beyond)) h.0.0
    ∙ ap (parsed_map total) (
    ap (λ n. pairs (parse levels) levels n None (encode_pairs done ++ (encode_scalar s ++ beyond))) e
    ∙ pairs_again done levels (suc left) None (encode_scalar s ++ beyond) h.0.2 h.0.3 h.0.4
    ∙ ap (pairs_before done) (
    pairs_more (parse levels) levels left (last_key None done) s beyond h.0.6 h.0.5 h.0.7
    ∙ ap (λ p. then_pairs (Plain s) p (pairs (parse levels) levels left (Some (encode_scalar s))))
    (halt_again os levels kind rest h.2))
    ∙ all_bad_value done (Plain s) os kind rest)

-- ---- what reading answers is true of the text

abbrev pub IsParse : ℕ → List ℕ → Parse → Type 0
IsParse levels bytes (Done t rest) = IsLawful t × (depth t ≤ levels) × (bytes ≡ encode_tree t ++ rest) × AreBytes rest
IsParse levels bytes (Halt os kind rest) = FailsInside levels AnItem os kind rest × (bytes ≡ open_encodings os ++ rest)

abbrev pub IsRun : ℕ → ℕ → List ℕ → ParsedItems → Type 0
IsRun levels n bytes (Ran ts rest) = AreLawful ts × (depth_all ts ≤ levels) × (bytes ≡ encode_trees ts ++ rest) × AreBytes rest
    × (count ts ≡ n)
IsRun levels n bytes (Broke done os kind rest) = AreLawful done × (depth_all done ≤ levels)
    × (bytes ≡ encode_trees done ++ (open_encodings os ++ rest)) × FailsInside levels AnItem os kind rest × (count done < n)

abbrev pub IsWalk : ℕ → ℕ → Option (List ℕ) → List ℕ → ParsedPairs → Type 0
IsWalk levels n last bytes (Walked ps rest) = KeysAscend last ps × AreLawfulPairs ps × (depth_pairs ps ≤ levels)
    × (bytes ≡ encode_pairs ps ++ rest) × AreBytes rest × (count_pairs ps ≡ n)
IsWalk levels n last bytes (BadKey done kind rest) = KeysAscend last done × AreLawfulPairs done × (depth_pairs done ≤ levels)
    × (bytes ≡ encode_pairs done ++ rest) × (fault levels (AKey (last_key last done)) rest ≡ Some kind)
    × (count_pairs done < n)
IsWalk levels n last bytes (BadValue done key os kind rest) = KeysAscend last done × AreLawfulPairs done
    × (depth_pairs done ≤ levels) × (bytes ≡ encode_pairs done ++ (encode_tree key ++ (open_encodings os ++ rest)))
    × FailsInside levels AnItem os kind rest × (count_pairs done < n) × IsKey key × IsLawful key
    × IsAbove (last_key last done) (encode_tree key)

-- ---- arrays

then_items_sound : (levels n : ℕ) (bytes : List ℕ) (p : Parse) (go : List ℕ → ParsedItems) → IsParse levels bytes p →
    ((rest : List ℕ) → AreBytes rest → IsRun levels n rest (go rest)) → IsRun levels (suc n) bytes (then_items p go)
then_items_sound levels n bytes p go h rec = grind (arith, common_steps)

items_sound : (levels n : ℕ) (sub : List ℕ → Parse) →
    ((bytes : List ℕ) → AreBytes bytes → IsParse levels bytes (sub bytes)) → (bytes : List ℕ) → AreBytes bytes →
    IsRun levels n bytes (items sub n bytes)
items_sound levels zero sub inside bytes fits = (tt, omega arith, refl, fits, refl)
items_sound levels (suc n) sub inside bytes fits =
    search (rules, arith, then_items_sound, items_sound levels n sub inside)

array_sound : (levels n : ℕ) (bytes rest : List ℕ) (r : ParsedItems) → n < 2 ^ 64 → bytes ≡ head 4 n ++ rest →
    IsRun levels n rest r → IsParse (suc levels) bytes (parsed_array n r)
array_sound levels n bytes rest r lt e h = search (rules, arith, append_assoc)

-- ---- maps

abbrev Key : Option (List ℕ) → Scalar → Type 0
Key last s = Fits s × IsKey (Plain s) × IsAbove last (encode_scalar s)

then_pairs_sound : (levels n : ℕ) (last : Option (List ℕ)) (bytes beyond : List ℕ) (s : Scalar) (p : Parse)
    (go : List ℕ →
    ParsedPairs) → Key last s → bytes ≡ encode_scalar s ++ beyond → IsParse levels beyond p →
    ((rest : List ℕ) → AreBytes rest → IsWalk levels n (Some (encode_scalar s)) rest (go rest)) →
    IsWalk levels (suc n) last bytes (then_pairs (Plain s) p go)
then_pairs_sound levels n last bytes beyond s p go k e h rec = grind (arith, common_steps)

then_value_sound : (levels n : ℕ) (last : Option (List ℕ)) (bytes : List ℕ) (sub : List ℕ →
    Parse) (r : Result (Part × List ℕ) Kind) (go : List ℕ → List ℕ → ParsedPairs) → read levels (AKey last) bytes ≡ r →
    AreBytes bytes → ((bs : List ℕ) → AreBytes bs → IsParse levels bs (sub bs)) →
    ((key rest : List ℕ) → AreBytes rest → IsWalk levels n (Some key) rest (go key rest)) →
    IsWalk levels (suc n) last bytes (then_value sub bytes r go)
then_value_sound levels n last bytes sub (Err kind) go e fits inside rec = search (rules, arith, fault_read)
then_value_sound levels n last bytes sub (Ok (One s, rest)) go e fits inside rec =
    let h = read_sound levels (AKey last) bytes (One s) rest fits e in
    then_pairs_sound levels n last bytes rest s (sub rest) (go (encode_scalar s)) h.suits h.parts
    (inside rest h.bytes_beyond) (rec (encode_scalar s))
then_value_sound levels n last bytes sub (Ok (OpensArray m, rest)) go e fits inside rec =
    absurd (read_sound levels (AKey last) bytes (OpensArray m) rest fits e).suits.0
then_value_sound levels n last bytes sub (Ok (OpensMap m, rest)) go e fits inside rec =
    absurd (read_sound levels (AKey last) bytes (OpensMap m) rest fits e).suits.0

pairs_sound : (levels n : ℕ) (last : Option (List ℕ)) (sub : List ℕ → Parse) →
    ((bytes : List ℕ) → AreBytes bytes → IsParse levels bytes (sub bytes)) → (bytes : List ℕ) → AreBytes bytes →
    IsWalk levels n last bytes (pairs sub levels n last bytes)
pairs_sound levels zero last sub inside bytes fits = (tt, tt, omega arith, refl, fits, refl)
pairs_sound levels (suc n) last sub inside bytes fits = search (rules, arith, then_value_sound, pairs_sound levels n)

map_sound : (levels n : ℕ) (bytes rest : List ℕ) (r : ParsedPairs) → n < 2 ^ 64 → bytes ≡ head 5 n ++ rest →
    IsWalk levels n None rest r → IsParse (suc levels) bytes (parsed_map n r)
map_sound levels n bytes rest r lt e h = grind (arith, append_assoc)

-- ---- items

inside_sound : (levels : ℕ) (bytes : List ℕ) (sub : List ℕ → Parse) (r : Result (Part × List ℕ) Kind) →
    read (suc levels) AnItem bytes ≡ r → AreBytes bytes → ((bs : List ℕ) → AreBytes bs → IsParse levels bs (sub bs)) →
    IsParse (suc levels) bytes (then_content sub levels bytes r)
inside_sound levels bytes sub (Err kind) e fits inside = (fault_read (suc levels) AnItem bytes kind e, refl)
inside_sound levels bytes sub (Ok (One s, rest)) e fits inside =
    let h = read_sound (suc levels) AnItem bytes (One s) rest fits e in
    (h.suits, omega arith, h.parts, h.bytes_beyond)
inside_sound levels bytes sub (Ok (OpensArray n, rest)) e fits inside =
    let h = read_sound (suc levels) AnItem bytes (OpensArray n) rest fits e in
    array_sound levels n bytes rest (items sub n rest) h.suits.1 h.parts
    (items_sound levels n sub inside rest h.bytes_beyond)
inside_sound levels bytes sub (Ok (OpensMap n, rest)) e fits inside =
    let h = read_sound (suc levels) AnItem bytes (OpensMap n) rest fits e in
    map_sound levels n bytes rest (pairs sub levels n None rest) h.suits.1 h.parts
    (pairs_sound levels n None sub inside rest h.bytes_beyond)

innermost_sound : (bytes : List ℕ) (sub : List ℕ → Parse) (r : Result (Part × List ℕ) Kind) → read 0 AnItem bytes ≡ r →
    AreBytes bytes → IsParse 0 bytes (then_content sub 0 bytes r)
innermost_sound bytes sub (Err kind) e fits = (fault_read 0 AnItem bytes kind e, refl)
innermost_sound bytes sub (Ok (One s, rest)) e fits =
    let h = read_sound 0 AnItem bytes (One s) rest fits e in
    (h.suits, omega arith, h.parts, h.bytes_beyond)
innermost_sound bytes sub (Ok (OpensArray n, rest)) e fits =
    let h = read_sound 0 AnItem bytes (OpensArray n) rest fits e in
    let no : 0 < 0 = h.suits.0 in
    absurd (omega arith)
innermost_sound bytes sub (Ok (OpensMap n, rest)) e fits =
    let h = read_sound 0 AnItem bytes (OpensMap n) rest fits e in
    let no : 0 < 0 = h.suits.0 in
    absurd (omega arith)

pub parse_sound : (levels : ℕ) (bytes : List ℕ) → AreBytes bytes → IsParse levels bytes (parse levels bytes)
unfolding parse
parse_sound zero bytes fits = innermost_sound bytes (λ b. Done (Plain Null) b) (read 0 AnItem bytes) refl fits
parse_sound (suc levels) bytes fits = search (rules, arith, inside_sound, parse_sound levels)

-- ---- the grammar's laws, by the reading

pub outcome_sound : (b : List ℕ) (p : Parse) → IsParse 4 b p → IsOutcome b (outcome_of_parse p)
outcome_sound b p h = search (rules, arith)

pub outcome_only : (b : List ℕ) (o : Outcome) → IsOutcome b o → outcome_of_parse (parse 4 b) ≡ o
outcome_only b (Whole t) h = ap (λ x. outcome_of_parse (parse 4 x)) (h.enc.spelled ∙ sym (append-nil (encode_tree t)))
    ∙ ap outcome_of_parse (parse_again t 4 [] h.enc.lawful h.flat)
outcome_only b (Longer t) h = search (rules, arith, parse_again)
outcome_only b (Stopped os kind) h = ap (λ x. outcome_of_parse (parse 4 x)) h.2 ∙ ap outcome_of_parse (halt_again os 4 kind h.0 h.1)

pub encodings_are_unique : EncodingsAreUnique
encodings_are_unique b fits =
    (outcome_of_parse (parse 4 b), outcome_sound b (parse 4 b) (parse_sound 4 b fits), λ p h. sym (outcome_only b p h))

pub encoded_trees_are_decoded : EncodedTreesAreDecoded
encoded_trees_are_decoded t b c o is = sym (outcome_only b o is) ∙ outcome_only b (Whole t) c

abbrev pub tree_of : Tree → Parse → Tree
tree_of d (Done t rest) = t
tree_of d (Halt os kind rest) = d

abbrev pub rest_from : Parse → List ℕ
rest_from (Done t rest) = rest
rest_from (Halt os kind rest) = rest

pub no_encoding_is_a_prefix : NoEncodingIsAPrefix
no_encoding_is_a_prefix t u b c x y f g e =
    let levels : ℕ = depth t + depth u in
    let p : parse levels (b ++ x) ≡ Done t x = ap (λ z. parse levels (z ++ x)) f.spelled
    ∙ parse_again t levels x f.lawful (omega arith) in
    let q : parse levels (c ++ y) ≡ Done u y = ap (λ z. parse levels (z ++ y)) g.spelled
    ∙ parse_again u levels y g.lawful (omega arith) in
    let same : Done t x ≡ Done u y = sym p ∙ ap (parse levels) e ∙ q in
    let trees : t ≡ u = ap (tree_of t) same in
    (trees, f.spelled ∙ ap encode_tree trees ∙ sym g.spelled, ap rest_from same)

pub encoded_is_decoded : EncodedIsDecoded
encoded_is_decoded t b c = (
  λ u d. (no_encoding_is_a_prefix u t b b [] [] d.enc c.enc refl).0,
  λ o is. ap result_of (encoded_trees_are_decoded t b c o is),
)

-- ---- where a tree's text stands, that tree alone is passed, and nothing halts. Where reading halts, it halts there alone

-- ---- items without what is inside them

abbrev part_in : Part → Result (Part × List ℕ) Kind → Part
part_in d (Ok p) = p.0
part_in d (Err k) = d

abbrev rest_in : Result (Part × List ℕ) Kind → List ℕ
rest_in (Ok p) = p.1
rest_in (Err k) = []

pub item_only : (levels : ℕ) (old new : Reading) (item : Item) →
    read levels AnItem (rest_of old) ≡ Ok (to_part item, rest_of new) → ReadsItem levels old new (Ok item)
item_only levels old new item is i rest suits e = search (rules, arith, read_again)

pub item_never : (levels : ℕ) (i : Part) (rest : List ℕ) (old : Reading) (kind : Kind) → IsAllowed levels AnItem i →
    rest_of old ≡ encode_item i ++ rest → read levels AnItem (rest_of old) ≡ Err kind → ⊥
item_never levels i rest old kind suits e is = search (rules, arith, read_again)

pub no_head_is_a_prefix : NoHeadIsAPrefix
no_head_is_a_prefix levels i j x y p q e =
    let same : ◌≡◌ {A = Result (Part × List ℕ) Kind} (Ok (i, x)) (Ok (j, y)) = sym (read_again levels AnItem i x p)
    ∙ ap (read levels AnItem) e ∙ read_again levels AnItem j y q in
    (ap (part_in i) same, ap rest_in same)

-- ---- trees

pub passes_only : CursorReadsOneTree
passes_only levels t u x a c lawful flat e p =
    let same : Done u (rest_of c) ≡ Done t x = sym (parse_again u levels (rest_of c) p.lawful p.flat)
    ∙ ap (parse levels) (sym p.spelled ∙ e) ∙ parse_again t levels x lawful flat in
    (ap (tree_of t) same, ap rest_from same)

pub halts_never : CanonicalIsAccepted
halts_never levels t x a c at kind lawful flat e h = grind (arith, halt_again, parse_again)

-- two trees that are passed from one place lead to one place
passes_same : (levels : ℕ) (t u : Tree) (a b c : Reading) → Passes levels t a b → Passes levels u a c → c ≡ b
passes_same levels t u a b c p q =
    let same : u ≡ t = (passes_only levels t u (rest_of b) a c p.lawful p.flat p.spelled q).0 in
    q.moved ∙ ap (λ x. advance a (length (encode_tree x)) (length (encode_tree x) + later_keys x)) same ∙ sym p.moved

-- two faults that are found from one place are one
record SameHalt (a b c : Reading) (at place : ℕ) (kind other : Kind) : Type 0 where
  at_is : place ≡ at
  kind_is : other ≡ kind
  moved : c ≡ b

halts_same : (levels : ℕ) (a b c : Reading) (at place : ℕ) (kind other : Kind) → Fails levels a b at kind →
    Fails levels a c place other → SameHalt a b c at place kind other
halts_same levels a b c at place kind other h k = grind (arith, halt_again)

abbrev fault_at : ℕ → Kind → Result (Unit {0}) Fault
fault_at at kind = Err record { at = at; kind = kind }

-- what passes an item, or finds where it halts, passes or finds nothing else
pub only_passes : (levels : ℕ) (old new : Reading) (t : Tree) → Passes levels t old new → IsOnlyResult levels old new (Ok tt)
only_passes levels old new t p = record {
  passed = λ u r q. (refl, passes_same levels u t old r new q p);
  halted = λ at kind r h. absurd (halts_never levels t (rest_of new) old r at kind p.lawful p.flat p.spelled h);
}

pub only_halts : (levels : ℕ) (old new : Reading) (f : Fault) → Fails levels old new f.at f.kind →
    IsOnlyResult levels old new (Err f)
only_halts levels old new f h = record {
  passed = λ u r q. absurd (halts_never levels u (rest_of r) old new f.at f.kind q.lawful q.flat q.spelled h);
  halted = λ at kind r k.
      let s = halts_same levels old r new at f.at kind f.kind k h in
      (ap (λ x. fault_at x f.kind) s.at_is ∙ ap (fault_at at) s.kind_is, s.moved);
}

pub only_matches : (levels : ℕ) (part : Part) (old new : Reading) (r : Result (Unit {0}) Fault) →
    MatchResult r (λ _. PassesHead levels part old new) (λ f. Fails levels old new f.at f.kind) → IsOnlyResult levels old new r
only_matches levels part old new (Ok tt) h = only_passes levels old new h.0 h.1
only_matches levels part old new (Err f) h = only_halts levels old new f h
