-- Responses: a status byte, and after status 0x00 a map in canonical CBOR (CTAP 2.1, section 8).
use Rattle.std.specs.Prelude.{ℕ, pos, negsuc, Bool, true, false, List, ◌∷◌, [], Option, Some, None, codes, ◌<◌, ◌^◌}
use Rattle.std.specs.Prelude.{length}
use Rattle.ctap_cbor.specs.Tree.{Int, Bytes, Text, Flag, Tree, Plain, Array, Map, no_trees, tree, no_pairs, pair}
use Rattle.ctap_cbor.specs.Tree.{Pairs}
use Rattle.ctap_cbor.specs.Grammar.{encode_tree, AreBytes}

-- ---- statuses and CBOR items

-- An error response, which consists of the status byte alone.
abbrev pub refusal : ℕ → List ℕ
refusal status = status ∷ []

-- A success response: status 0x00 and a map.
abbrev pub success : Tree → List ℕ
success map = 0x00 ∷ encode_tree map

-- An unsigned integer.
abbrev pub number : ℕ → Tree
number n = Plain (Int (pos n))

-- A text string.
abbrev pub name : List ℕ → Tree
name bytes = Plain (Text bytes)

-- A byte string.
abbrev pub byte_string : List ℕ → Tree
byte_string bytes = Plain (Bytes bytes)

-- A Boolean.
abbrev pub flag : Bool → Tree
flag is_set = Plain (Flag is_set)

-- ---- authenticatorGetInfo

-- The options of authenticatorGetInfo: discoverable credentials, user presence, not a platform authenticator (CTAP
-- 2.1, section 6.4).
abbrev pub options : Tree
options =
    Map (pair (name (codes "rk")) (flag true)
    (pair (name (codes "up")) (flag true)
    (pair (name (codes "plat")) (flag false) no_pairs)))

-- The algorithm ES256: -7.
abbrev pub es256 : Tree
es256 =
    Map (pair (name (codes "alg")) (Plain (Int (negsuc 6)))
    (pair (name (codes "type")) (name (codes "public-key")) no_pairs))

-- The map of the authenticatorGetInfo response, with its keys in ascending order.
unfoldable pub info_tree : List ℕ → Tree
info_tree aaguid =
    Map (pair (number 0x01) (Array (tree (name (codes "FIDO_2_0")) no_trees))  -- versions
    (pair (number 0x03) (byte_string aaguid)  -- aaguid, the authenticator's model
    (pair (number 0x04) options  -- options
    (pair (number 0x05) (number 7609)  -- maxMsgSize
    (pair (number 0x09) (Array (tree (name (codes "usb")) no_trees))  -- transports
    (pair (number 0x0a) (Array (tree es256 no_trees)) no_pairs))))))  -- algorithms

-- The authenticatorGetInfo response (CTAP 2.1, section 6.4).
unfoldable pub info_answer : List ℕ → List ℕ
info_answer aaguid = success (info_tree aaguid)

-- ---- authenticatorMakeCredential

-- The statement of packed self attestation (WebAuthn Level 2, section 8.2).
abbrev pub statement : List ℕ → Tree
statement sig =
    Map (pair (name (codes "alg")) (Plain (Int (negsuc 6)))
    (pair (name (codes "sig")) (byte_string sig) no_pairs))

-- The map of the authenticatorMakeCredential response: fmt, authData, attStmt.
unfoldable pub created_tree : (auth sig : List ℕ) → Tree
created_tree auth sig =
    Map (pair (number 0x01) (name (codes "packed"))
    (pair (number 0x02) (byte_string auth)
    (pair (number 0x03) (statement sig) no_pairs)))

-- The authenticatorMakeCredential response (CTAP 2.1, section 6.1.2).
unfoldable pub created_answer : (auth sig : List ℕ) → List ℕ
created_answer auth sig = success (created_tree auth sig)

-- ---- authenticatorGetAssertion and authenticatorGetNextAssertion

-- A credential descriptor.
abbrev pub credential : List ℕ → Tree
credential id =
    Map (pair (name (codes "id")) (byte_string id)
    (pair (name (codes "type")) (name (codes "public-key")) no_pairs))

-- The user entity with its ID, if any, followed by other pairs.
abbrev pub with_user : Option (List ℕ) → Pairs → Pairs
with_user None rest = rest
with_user (Some id) rest = pair (number 0x04) (Map (pair (name (codes "id")) (byte_string id) no_pairs)) rest

-- The pair numberOfCredentials, if any.
abbrev pub with_number : Option ℕ → Pairs
with_number None = no_pairs
with_number (Some n) = pair (number 0x05) (number n) no_pairs

-- The map of an assertion response: credential, authData, signature, user, numberOfCredentials.
unfoldable pub assertion_tree : (id auth sig : List ℕ) → (user : Option (List ℕ)) → (credentials : Option ℕ) → Tree
assertion_tree id auth sig user credentials =
    Map (pair (number 0x01) (credential id)
    (pair (number 0x02) (byte_string auth)
    (pair (number 0x03) (byte_string sig) (with_user user (with_number credentials)))))

-- An assertion response (CTAP 2.1, sections 6.2.2 and 6.3).
unfoldable pub assertion_answer : (id auth sig : List ℕ) → (user : Option (List ℕ)) → (credentials : Option ℕ) → List ℕ
assertion_answer id auth sig user credentials = success (assertion_tree id auth sig user credentials)

-- ---- parts of responses, and the lengths that these parts may have in a response

-- The list is a byte string shorter than 2^64 bytes.
abbrev pub AreShort : List ℕ → Type 0
AreShort s = (length s < 2 ^ 64) × AreBytes s

-- The user handle, if any, is a byte string shorter than 2^64 bytes.
abbrev pub UserIsShort : Option (List ℕ) → Type 0
UserIsShort None = Unit {0}
UserIsShort (Some id) = AreShort id

-- The number of credentials, if any, is below 2^64.
abbrev pub NumberIsShort : Option ℕ → Type 0
NumberIsShort None = Unit {0}
NumberIsShort (Some n) = n < 2 ^ 64

-- The list of versions in the authenticatorGetInfo response.
abbrev pub versions : Tree
versions = Array (tree (name (codes "FIDO_2_0")) no_trees)

-- The list of transports in the authenticatorGetInfo response.
abbrev pub transports : Tree
transports = Array (tree (name (codes "usb")) no_trees)

-- The list of algorithms in the authenticatorGetInfo response.
abbrev pub algorithms : Tree
algorithms = Array (tree es256 no_trees)

-- The user entity in an assertion response, with only the user handle.
abbrev pub user_of : List ℕ → Tree
user_of id = Map (pair (name (codes "id")) (byte_string id) no_pairs)
