-- Worked messages and responses, by computation.
use Rattle.std.proofs.Common.{ℕ, List, [], ◌∷◌, ◌++◌, take, replicate, ◌≡◌, true, false, length, Some, None, Result}
use Rattle.std.proofs.Common.{Ok, Err, refl}
use Rattle.std.specs.Prelude.{codes}
use lib.Utf8.{encode}
use Rattle.std.specs.Str.{is_utf8, chars}
use Rattle.ctap_cbor.specs.Tree.{Bytes, Text, Tree, Plain, Array, Map, Trees, no_trees, tree, no_pairs, pair}
use Rattle.ctap_cbor.specs.Items.{first_faults, body_faults, item_len, string_len, passed, fault_steps}
use Rattle.ctap_cbor.specs.Outcome.{parse}
use Rattle.ctap_cbor.specs.Items.{read}
use Rattle.ctap_cbor.specs.Outcome.{outcome_of}
use Rattle.ctap_cbor.specs.Grammar.{head, argument_len, argument, least_argument}
use Rattle.ctap_message.specs.Requests.{ParsedRequest, MakeCredential, GetAssertion, GetInfo}
use Rattle.ctap_message.specs.Members.{value_at, all_entries, some_entry, all_pairs}
use Rattle.ctap_message.specs.Requests.{read_of, steps_of}
use Rattle.ctap_message.specs.Responses.{assertion_answer, refusal, info_tree, info_answer, created_tree}
use Rattle.ctap_message.specs.Responses.{created_answer, assertion_tree}

-- Worked messages: a makeCredential and a getAssertion for `example.com`, by their members, with others in place of
-- some.

abbrev pub domain : List ℕ
domain = codes "example.com"

abbrev pub public_key : List ℕ
public_key = codes "public-key"

-- ---- authenticatorMakeCredential

-- clientDataHash, rp, user, pubKeyCredParams and options, each after its key
abbrev hash_member : List ℕ
hash_member = 0x01 ∷ 0x58 ∷ 0x20 ∷ replicate 32 0x11

abbrev rp_member : List ℕ
rp_member = 0x02 ∷ 0xa1 ∷ 0x62 ∷ codes "id" ++ 0x6b ∷ domain

abbrev user_member : List ℕ
user_member = 0x03 ∷ 0xa1 ∷ 0x62 ∷ codes "id" ++ 0x41 ∷ 0x01 ∷ []

abbrev parameters_member : List ℕ
parameters_member = 0x04 ∷ 0x81 ∷ 0xa2 ∷ 0x63 ∷ codes "alg" ++ 0x26 ∷ 0x64 ∷ codes "type" ++ 0x6a ∷ public_key

abbrev options_member : List ℕ
options_member = 0x07 ∷ 0xa1 ∷ 0x62 ∷ codes "rk" ++ 0xf5 ∷ []

-- 91 bytes
abbrev pub make_message : List ℕ
make_message = 0x01 ∷ 0xa5 ∷ (hash_member ++ rp_member ++ user_member ++ parameters_member ++ options_member)

-- with an excludeList, extensions and a key that isn't known
abbrev pub make_more : List ℕ
make_more =
    0x01 ∷ 0xa8 ∷ (
    hash_member ++ rp_member ++ user_member ++ parameters_member
    ++ 0x05 ∷ 0x81 ∷ 0xa3 ∷ 0x62 ∷ codes "id" ++ 0x41 ∷ 0x09 ∷ 0x64 ∷ codes "type" ++ 0x6a ∷ public_key ++ 0x6a
    ∷ codes "transports" ++ 0x81 ∷ 0x63 ∷ codes "usb"
    ++ 0x06 ∷ 0xa1 ∷ 0x6b ∷ codes "hmac-secret" ++ 0xf5 ∷ []
    ++ options_member ++ 0x18 ∷ 0x40 ∷ 0x00 ∷ [])

-- with a user's name
abbrev pub make_named : List ℕ
make_named = 0x01 ∷ 0xa5 ∷ (hash_member ++ rp_member ++ 0x03 ∷ 0xa2 ∷ 0x62 ∷ codes "id" ++ 0x41 ∷ 0x01 ∷ 0x64
    ∷ codes "name" ++ 0x61 ∷ 0x62 ∷ [] ++ parameters_member ++ options_member)

-- with another user, hash, algorithm
abbrev pub make_with_user : List ℕ → List ℕ
make_with_user user = 0x01 ∷ 0xa5 ∷ (hash_member ++ rp_member ++ 0x03 ∷ user ++ parameters_member ++ options_member)

abbrev pub make_with_hash : List ℕ → List ℕ
make_with_hash hash = 0x01 ∷ 0xa5 ∷ (0x01 ∷ hash ++ rp_member ++ user_member ++ parameters_member ++ options_member)

abbrev pub make_with_algorithm : List ℕ → List ℕ
make_with_algorithm alg =
    0x01 ∷ 0xa5 ∷ (hash_member ++ rp_member ++ user_member ++ 0x04 ∷ 0x81 ∷ 0xa2 ∷ 0x63 ∷ codes "alg" ++ alg ++ 0x64
    ∷ codes "type" ++ 0x6a ∷ public_key ++ options_member)

-- with a member more
abbrev pub make_and : List ℕ → List ℕ
make_and member = 0x01 ∷ 0xa6 ∷ (hash_member ++ rp_member ++ user_member ++ parameters_member ++ options_member
    ++ member)

-- its beginning, of this many bytes
abbrev pub make_cut : ℕ → List ℕ
make_cut n = take n make_message

-- ---- authenticatorGetAssertion

abbrev rp_id_member : List ℕ
rp_id_member = 0x01 ∷ 0x6b ∷ domain

abbrev client_hash_member : List ℕ
client_hash_member = 0x02 ∷ 0x58 ∷ 0x20 ∷ replicate 32 0x22

-- 50 bytes
abbrev pub assertion_message : List ℕ
assertion_message = 0x02 ∷ 0xa2 ∷ (rp_id_member ++ client_hash_member)

-- with an allowList of one credential: 106 bytes
abbrev pub assertion_listed : List ℕ
assertion_listed = 0x02 ∷ 0xa3 ∷ (rp_id_member ++ client_hash_member ++ 0x03 ∷ 0x81 ∷ 0xa2 ∷ 0x62 ∷ codes "id" ++ 0x58
    ∷ 0x20 ∷ replicate 32 0xaa ++ 0x64 ∷ codes "type" ++ 0x6a ∷ public_key)

-- the user's presence isn't asked for: 56 bytes
abbrev pub assertion_silent : List ℕ
assertion_silent = 0x02 ∷ 0xa3 ∷ (rp_id_member ++ client_hash_member ++ 0x05 ∷ 0xa1 ∷ 0x62 ∷ codes "up" ++ 0xf4 ∷ [])

-- ---- worked messages and answers, by computation

-- 04 asks authenticatorGetInfo
asks_info : (read_of (0x04 ∷ []) ≡ Ok GetInfo) × (steps_of (0x04 ∷ []) ≡ 0)
unfolding read_of steps_of
asks_info = (refl, refl)

-- 04 00, an empty message and 06, which isn't served
refused : (read_of (0x04 ∷ 0x00 ∷ []) ≡ Err 0x03) × (read_of [] ≡ Err 0x03) × (read_of (0x06 ∷ []) ≡ Err 0x01)
unfolding read_of
refused = (refl, refl, refl)

not_served : refusal 0x01 ≡ 0x01 ∷ []
not_served = refl

-- the answer of authenticatorGetInfo where the AAGUID is zero
info : info_answer (replicate 16 0x00)
    ≡ 0x00 ∷ 0xa6 ∷ 0x01 ∷ 0x81 ∷ 0x68 ∷ codes "FIDO_2_0" ++ 0x03 ∷ 0x50 ∷ replicate 16 0x00
    ++ 0x04 ∷ 0xa3 ∷ 0x62 ∷ codes "rk" ++ 0xf5 ∷ 0x62 ∷ codes "up" ++ 0xf5 ∷ 0x64 ∷ codes "plat" ++ 0xf4 ∷ 0x05 ∷ 0x19 ∷
    0x1d ∷ 0xb9
    ∷ 0x09 ∷ 0x81 ∷ 0x63 ∷ codes "usb" ++ 0x0a ∷ 0x81 ∷ 0xa2 ∷ 0x63 ∷ codes "alg" ++ 0x26 ∷ 0x64 ∷ codes "type" ++ 0x6a
    ∷ public_key
unfolding head info_tree info_answer
info = refl

-- ---- requests with parameters, and the steps of reading them

-- a message of this many bytes asks this, or is refused, in so many steps
abbrev Row : List ℕ → ℕ → Result ParsedRequest ℕ → ℕ → Type 0
Row message len result steps = (length message ≡ len) × (read_of message ≡ result) × (steps_of message ≡ steps)

abbrev text : List ℕ → Tree
text s = Plain (Text s)

-- the descriptor of the credential 09
abbrev listed : Trees
listed =
    tree (Map (pair (text (codes "id")) (Plain (Bytes (0x09 ∷ [])))
    (pair (text (codes "type")) (text public_key)
    (pair (text (codes "transports")) (Array (tree (text (codes "usb")) no_trees)) no_pairs)))) no_trees

-- authenticatorMakeCredential, one with an excludeList, and one with the name of the user
made_from :
    (Row make_message 91 (Ok (MakeCredential (replicate 32 0x11) domain (0x01 ∷ []) [] true no_trees)) 200)
    × (read_of make_more ≡ Ok (MakeCredential (replicate 32 0x11) domain (0x01 ∷ []) [] true listed))
    × (Row make_named 98 (Ok (MakeCredential (replicate 32 0x11) domain (0x01 ∷ []) (codes "b") true no_trees))
    224)
unfolding read_of steps_of outcome_of parse read first_faults body_faults argument_len argument least_argument item_len
    string_len passed fault_steps is_utf8 chars encode head value_at all_entries some_entry all_pairs
made_from = ((refl, refl, refl), refl, (refl, refl, refl))

-- A user without an id, pinUvAuthParam, another algorithm, a hash of one byte, a user that is no map; what is cut to
-- its
-- command byte, and by its last byte; a map of 2^64 - 1 pairs that aren't there; a key of 259 bytes; a value that isn't
-- known, at the fourth level and at the fifth.
make_refused :
    (read_of (make_with_user (0xa0 ∷ [])) ≡ Err 0x14)
    × (read_of (make_and (0x08 ∷ 0x40 ∷ [])) ≡ Err 0x02)
    × (read_of (make_with_algorithm (0x39 ∷ 0x01 ∷ 0x00 ∷ [])) ≡ Err 0x26)
    × (read_of (make_with_hash (0x41 ∷ 0x11 ∷ [])) ≡ Err 0x03)
    × (read_of (make_with_user (0x01 ∷ [])) ≡ Err 0x11)
    × Row (make_cut 1) 1 (Err 0x12) 1 × Row (make_cut 90) 90 (Err 0x12) 99
    × (Row (0x01 ∷ 0xbb ∷ replicate 8 0xff) 10 (Err 0x12) 10)
    × (Row (0x01 ∷ 0xa2 ∷ 0x00 ∷ 0x00 ∷ 0x59 ∷ 0x01 ∷ 0x00 ∷ replicate 256 0x00 ++ 0x00 ∷ []) 264 (Err 0x14) 1046)
    × (read_of (make_and (0x18 ∷ 0x40 ∷ 0x81 ∷ 0x81 ∷ 0x80 ∷ [])) ≡ Ok
    (MakeCredential (replicate 32 0x11) domain (0x01 ∷ []) [] true no_trees))
    × (read_of (make_and (0x18 ∷ 0x40 ∷ 0x81 ∷ 0x81 ∷ 0x81 ∷ 0x80 ∷ [])) ≡ Err 0x12)
unfolding read_of steps_of outcome_of parse read first_faults body_faults argument_len argument least_argument item_len
    string_len passed fault_steps is_utf8 chars encode head value_at all_entries some_entry all_pairs
make_refused = (refl, refl, refl, refl, refl, (refl, refl, refl), (refl, refl, refl), (refl, refl, refl), (refl, refl, refl), refl, refl)

-- the descriptor of the credential aa .. aa
abbrev allowed : Trees
allowed = tree (Map (pair (text (codes "id")) (Plain (Bytes (replicate 32 0xaa)))
    (pair (text (codes "type")) (text public_key) no_pairs))) no_trees

-- authenticatorGetAssertion, one with an allowList, and one without the presence of the user
asserted_from :
    (Row assertion_message 50 (Ok (GetAssertion (replicate 32 0x22) domain no_trees true)) 102)
    × (Row assertion_listed 106 (Ok (GetAssertion (replicate 32 0x22) domain allowed true)) 226)
    × (Row assertion_silent 56 (Ok (GetAssertion (replicate 32 0x22) domain no_trees false)) 116)
unfolding read_of steps_of outcome_of parse read first_faults body_faults argument_len argument least_argument item_len
    string_len passed fault_steps is_utf8 chars encode head value_at all_entries some_entry all_pairs
asserted_from = ((refl, refl, refl), (refl, refl, refl), (refl, refl, refl))

-- ---- answers with authenticator data and a signature

-- SHA-256 of `example.com`
abbrev rp_hash : List ℕ
rp_hash =
    0xa3 ∷ 0x79 ∷ 0xa6 ∷ 0xf6 ∷ 0xee ∷ 0xaf ∷ 0xb9 ∷ 0xa5 ∷ 0x5e ∷ 0x37 ∷ 0x8c ∷ 0x11 ∷ 0x80 ∷ 0x34 ∷ 0xe2 ∷ 0x75
    ∷ 0x1e ∷ 0x68 ∷ 0x2f ∷ 0xab ∷ 0x9f ∷ 0x2d ∷ 0x30 ∷ 0xab ∷ 0x13 ∷ 0xd2 ∷ 0x12 ∷ 0x55 ∷ 0x86 ∷ 0xce ∷ 0x19 ∷ 0x47 ∷ []

abbrev signature : List ℕ
signature = replicate 70 0xdd

-- of a new credential: 164 bytes
abbrev made : List ℕ
made =
    rp_hash ++ 0x41 ∷ 0x00 ∷ 0x00 ∷ 0x00 ∷ 0x00 ∷ replicate 16 0x00 ++ 0x00 ∷ 0x20 ∷ replicate 32 0xaa
    ++ 0xa5 ∷ 0x01 ∷ 0x02 ∷ 0x03 ∷ 0x26 ∷ 0x20 ∷ 0x01 ∷ 0x21 ∷ 0x58 ∷ 0x20 ∷ replicate 32 0xbb ++ 0x22 ∷ 0x58 ∷ 0x20 ∷
    replicate 32 0xcc

created : (length (created_answer made signature) ≡ 260)
    × (created_answer made signature ≡ 0x00 ∷ 0xa3 ∷ 0x01 ∷ 0x66 ∷ codes "packed" ++ 0x02 ∷ 0x58 ∷ 0xa4 ∷ made ++ 0x03 ∷
    0xa2 ∷ 0x63 ∷ codes "alg" ++ 0x26 ∷ 0x63 ∷ codes "sig" ++ 0x58 ∷ 0x46 ∷ signature)
unfolding head created_tree created_answer
created = (refl, refl)

-- of an assertion with the user's presence and the counter 1: 37 bytes
abbrev asserted : List ℕ
asserted = rp_hash ++ 0x01 ∷ 0x00 ∷ 0x00 ∷ 0x00 ∷ 0x01 ∷ []

-- the beginning of its answer, which has so many members
abbrev assertion_by : (members : ℕ) (id : List ℕ) → List ℕ
assertion_by members id =
    0x00 ∷ members ∷ 0x01 ∷ 0xa2 ∷ 0x62 ∷ codes "id" ++ 0x58 ∷ 0x20 ∷ id ++ 0x64 ∷ codes "type" ++ 0x6a ∷ public_key ++
    0x02 ∷ 0x58 ∷ 0x25 ∷ asserted ++ 0x03 ∷ 0x58 ∷ 0x46 ∷ signature

-- of a discoverable credential of the user 01
assertion_of_one : (length (assertion_answer (replicate 32 0xaa) asserted signature (Some (0x01 ∷ [])) None) ≡ 177)
    × (assertion_answer (replicate 32 0xaa) asserted signature (Some (0x01 ∷ [])) None ≡ assertion_by 0xa4
    (replicate 32 0xaa) ++ 0x04 ∷ 0xa1 ∷ 0x62 ∷ codes "id" ++ 0x41 ∷ 0x01 ∷ [])
unfolding head assertion_tree assertion_answer
assertion_of_one = (refl, refl)

-- of the user 03, the first of three
assertion_of_three : (length (assertion_answer (replicate 32 0xac) asserted signature (Some (0x03 ∷ []))
    (Some 3)) ≡ 179)
    × (assertion_answer (replicate 32 0xac) asserted signature (Some (0x03 ∷ [])) (Some 3) ≡ assertion_by 0xa5
    (replicate 32 0xac) ++ 0x04 ∷ 0xa1 ∷ 0x62 ∷ codes "id" ++ 0x41 ∷ 0x03 ∷ 0x05 ∷ 0x03 ∷ [])
unfolding head assertion_tree assertion_answer
assertion_of_three = (refl, refl)

-- of a credential that isn't discoverable: no user
assertion_without_user : assertion_answer (replicate 32 0xaa) asserted signature None None ≡ assertion_by 0xa3
    (replicate 32 0xaa)
unfolding head assertion_tree assertion_answer
assertion_without_user = refl
