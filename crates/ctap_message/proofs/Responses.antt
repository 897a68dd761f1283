-- Responses are written part by part, in canonical CBOR.
use Rattle.std.proofs.Common.{rules, ◌≡◌, ℕ, List, length, drop, refl, arith, length-append, codes, ◌≤◌, Option, ◌+◌}
use Rattle.std.proofs.Common.{◌++◌, ◌∷◌, append_assoc, append-nil}
use Rattle.ctap_cbor.specs.Grammar.{AreBytes, head}
use Rattle.ctap_cbor.specs.Grammar.{IsCanonical, IsLawful, encode_tree, encode_pairs}
use Rattle.ctap_message.specs.Responses.{versions, transports, algorithms, AreShort, UserIsShort, NumberIsShort}
use Rattle.ctap_message.specs.Responses.{options, info_tree, info_answer, name, created_tree, created_answer}
use Rattle.ctap_message.specs.Responses.{credential, assertion_tree, assertion_answer, number, byte_string, with_user}
use Rattle.ctap_message.specs.Responses.{with_number}
use lib.Utf8.{encode}
use Rattle.ctap_cbor.specs.Tree.{depth, Pairs, no_pairs, count_pairs}

-- ---- the map of authenticatorGetInfo's answer is written in canonical CBOR

-- A text of ASCII characters is its own UTF-8, by computation.

versions_lawful : IsLawful versions
unfolding encode
versions_lawful = (omega arith, ((omega arith, (codes "FIDO_2_0", (refl, refl))), tt))

options_lawful : IsLawful options
unfolding head
options_lawful = search (rules, arith)

transports_lawful : IsLawful transports
unfolding encode
transports_lawful = (omega arith, ((omega arith, (codes "usb", (refl, refl))), tt))

algorithms_lawful : IsLawful algorithms
unfolding head
algorithms_lawful = search (rules, arith)

-- the keys rise, and each value has an encoding
lawful : (aaguid : List ℕ) → length aaguid ≡ 16 → AreBytes aaguid → IsLawful (info_tree aaguid)
unfolding head info_tree
lawful aaguid len bytes = grind (arith, algorithms_lawful, options_lawful, transports_lawful, versions_lawful)

pub canonical : (aaguid : List ℕ) → length aaguid ≡ 16 → AreBytes aaguid →
    IsCanonical (info_tree aaguid) (drop 1 (info_answer aaguid))
unfolding info_answer info_tree
canonical aaguid len bytes = search (rules, arith, lawful)

pub answer_len : (aaguid : List ℕ) → length aaguid ≡ 16 → length (info_answer aaguid) ≡ 81
unfolding info_answer info_tree head
answer_len aaguid len = simp (len, length-append) (omega arith)

-- ---- the maps of the answers of makeCredential and of assertions are written in canonical CBOR

names_lawful : IsLawful (name (codes "packed")) × IsLawful (name (codes "alg")) × IsLawful (name (codes "sig"))
unfolding encode
names_lawful = search (rules, arith)

credential_names : IsLawful (name (codes "id")) × IsLawful (name (codes "type")) × IsLawful (name (codes "public-key"))
unfolding encode
credential_names = search (rules, arith)

created_lawful : (auth sig : List ℕ) → AreShort auth → AreShort sig → IsLawful (created_tree auth sig)
unfolding head created_tree
created_lawful auth sig h k = grind (arith, names_lawful)

pub created_canonical : (auth sig : List ℕ) → AreShort auth → AreShort sig →
    IsCanonical (created_tree auth sig) (drop 1 (created_answer auth sig))
unfolding created_answer created_tree
created_canonical auth sig h k = search (rules, arith, created_lawful)

credential_lawful : (id : List ℕ) → AreShort id → IsLawful (credential id)
unfolding head
credential_lawful id h = grind (arith, credential_names)

assertion_lawful : (id auth sig : List ℕ) (user : Option (List ℕ)) (credentials : Option ℕ) → AreShort id →
    AreShort auth → AreShort sig → UserIsShort user → NumberIsShort credentials →
    IsLawful (assertion_tree id auth sig user credentials)
unfolding head assertion_tree
assertion_lawful id auth sig user credentials h k l u n = grind (arith, credential_lawful)

assertion_flat : (id auth sig : List ℕ) (user : Option (List ℕ)) (credentials : Option ℕ) →
    depth (assertion_tree id auth sig user credentials) ≤ 4
unfolding assertion_tree
assertion_flat id auth sig user credentials = search (rules, arith)

pub assertion_canonical : (id auth sig : List ℕ) (user : Option (List ℕ)) (credentials : Option ℕ) → AreShort id →
    AreShort auth → AreShort sig → UserIsShort user → NumberIsShort credentials →
    IsCanonical (assertion_tree id auth sig user credentials) (drop 1 (assertion_answer id auth sig user credentials))
unfolding assertion_answer
assertion_canonical id auth sig user credentials h k l u n = grind (arith, assertion_flat, assertion_lawful)

-- ---- the pieces of an assertion's answer, in the order in which they are written

pub user_then : (user : Option (List ℕ)) (rest : Pairs)
    → encode_pairs (with_user user no_pairs) ++ encode_pairs rest ≡ encode_pairs (with_user user rest)
user_then user rest = search (rules, arith, append_assoc)

-- one list after another, however they are joined
pub joined : (a b d e f t w x : List ℕ) → ((((((a ++ b) ++ d) ++ e) ++ f) ++ t) ++ w) ++ x ≡ a ++
    (b ++ (d ++ (e ++ (f ++ (t ++ (w ++ x))))))
joined a b d e f t w x = simp append_assoc

pub assertion_text : (id auth sig : List ℕ) (user : Option (List ℕ)) (count : Option ℕ)
    → assertion_answer id auth sig user count ≡ 0x00 ∷
    (head 5 (count_pairs (with_user user (with_number count)) + 1 + 1 + 1)
    ++ (encode_tree (number 0x01) ++ (head 5 2 ++ (encode_tree (name (codes "id")) ++ (encode_tree (byte_string id)
    ++ (encode_tree (name (codes "type")) ++ (encode_tree (name (codes "public-key"))
    ++ (encode_tree (number 0x02) ++
    (encode_tree (byte_string auth) ++
    (encode_tree (number 0x03) ++ (encode_tree (byte_string sig) ++ encode_pairs (with_user user (with_number count)))))))))))))
unfolding assertion_tree assertion_answer
assertion_text id auth sig user count = simp (append_assoc, append-nil)
