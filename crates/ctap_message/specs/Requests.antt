-- The request in a message, or the status of the first check that fails (CTAP 2.1, sections 6 and 8.2).
use Rattle.std.specs.Prelude.{ℕ, Bool, List, [], ◌∷◌, Result, Ok, Err, if◌then◌else◌, ◌==◌, nat_le, true, false, not}
use Rattle.std.specs.Prelude.{◌&&◌, length, Option, is_some, is_none, unwrap_or, Some, None, ◌*◌, ◌||◌}
use Rattle.ctap_cbor.specs.Tree.{Trees, Tree, is_map, as_bytes, as_text, as_uint, as_flag}
use Prim.Native.String.{String}
use Rattle.ctap_message.specs.Members.{MemberKey, Number, Name, member, member_as, entries_of, all_entries}
use Rattle.ctap_message.specs.Members.{some_entry, is_some_and, is_bytes, is_text, is_uint, array_of, map_of}
use Rattle.ctap_message.specs.Members.{descriptor_types, option_types, parameter_types, has_id_and_type}
use Rattle.ctap_message.specs.Members.{has_alg_and_type, is_es256_parameter}
use Rattle.ctap_message.specs.declared.command.Command.{Command}
use Rattle.ctap_cbor.specs.Outcome.{canonical_tree, check_steps}
use Rattle.ctap_message.specs.declared.command.Command.TheVariants as served

-- ---- the requests that pass all checks (CTAP 2.1, section 6)

-- A parsed request with its parameters.
pub data ParsedRequest : Type 0 where
  -- `user_name` may be empty. `exclude` contains the entries of excludeList.
  MakeCredential : (client_data_hash rp_id user_id user_name : List ℕ) (discoverable : Bool) (exclude : Trees) → ParsedRequest
  -- `allow_list` contains the entries of allowList. `presence` is the option `up`.
  GetAssertion : (client_data_hash rp_id : List ℕ) (allow_list : Trees) (presence : Bool) → ParsedRequest
  GetInfo : ParsedRequest
  Reset : ParsedRequest
  GetNextAssertion : ParsedRequest
  Selection : ParsedRequest

-- The checks of a message: a list of conditions, each with the status of the response if the condition is false. The
-- first false condition determines the status.

-- The request if all checks pass, or else the status of the first check that fails.
abbrev pub if_all_hold : {A : Type 0} → List (Bool × ℕ) → A → Result A ℕ
if_all_hold [] asked = Ok asked
if_all_hold (check ∷ checks) asked = if check.0 then if_all_hold checks asked else Err check.1

-- ---- authenticatorMakeCredential (CTAP 2.1, sections 6.1 and 8.2)

-- The types of its parameters, the checks of a request in order, and the parsed request. The order of the checks and
-- the rejection of pinUvAuthParam are choices of this project.

-- The required types of the members of rp.
abbrev pub rp_types : List (MemberKey × (Tree → Bool))
rp_types = (Name "id", is_text) ∷ (Name "name", is_text) ∷ []

-- The required types of the members of user.
abbrev pub user_types : List (MemberKey × (Tree → Bool))
user_types = (Name "id", is_bytes) ∷ (Name "name", is_text) ∷ (Name "displayName", is_text) ∷ []

-- The required types of the parameters.
abbrev pub make_types : List (MemberKey × (Tree → Bool))
make_types =
    (Number 0x01, is_bytes)  -- clientDataHash
    ∷ (Number 0x02, map_of rp_types)  -- rp
    ∷ (Number 0x03, map_of user_types)  -- user
    ∷ (Number 0x04, array_of (map_of parameter_types))  -- pubKeyCredParams
    ∷ (Number 0x05, array_of (map_of descriptor_types))  -- excludeList
    ∷ (Number 0x06, is_map)  -- extensions
    ∷ (Number 0x07, map_of option_types)  -- options
    ∷ (Number 0x08, is_bytes)  -- pinUvAuthParam
    ∷ (Number 0x09, is_uint)  -- pinUvAuthProtocol
    ∷ (Number 0x0a, is_uint)  -- enterpriseAttestation
    ∷ []

-- The request, or the status of the first check that fails.
abbrev pub make_request : Option Tree → Result ParsedRequest ℕ
make_request t =
    let hash = member_as as_bytes (Number 0x01) t in
    let rp_id = member_as as_text (Name "id") (member (Number 0x02) t) in
    let user_id = member_as as_bytes (Name "id") (member (Number 0x03) t) in
    let user_name = member_as as_text (Name "name") (member (Number 0x03) t) in
    let parameters = entries_of (member (Number 0x04) t) in
    let excluded = entries_of (member (Number 0x05) t) in
    let option : String → Option Bool = λ name. member_as as_flag (Name name) (member (Number 0x07) t) in
    let pin_uv_auth_param = member_as as_bytes (Number 0x08) t in
    let enterprise_attestation = member_as as_uint (Number 0x0a) t in
    let is_whole = is_some hash && is_some rp_id && is_some user_id && is_some (member (Number 0x04) t)
    && all_entries has_alg_and_type parameters && all_entries has_id_and_type excluded in
    let has_lengths = length (unwrap_or hash []) == 32 && nat_le (length (unwrap_or user_id [])) 64 in
    let takes_options = not (unwrap_or (option "uv") false) && unwrap_or (option "up") true in
    if_all_hold
    ((is_some t, 0x12)  -- INVALID_CBOR: canonical CBOR, section 8
    ∷ (is_some_and (map_of make_types) t, 0x11)  -- CBOR_UNEXPECTED_TYPE: a map, and the types of section 6.1
    ∷ (is_whole, 0x14)  -- MISSING_PARAMETER: what section 6.1 requires
    ∷ (has_lengths, 0x03)  -- INVALID_LENGTH: a SHA-256 hash; WebAuthn Level 2, section 5.4.3
    ∷ (is_none pin_uv_auth_param, 0x02)  -- INVALID_PARAMETER: no PIN and no user verification
    ∷ (some_entry is_es256_parameter parameters, 0x26)  -- UNSUPPORTED_ALGORITHM: section 6.1.2, pubKeyCredParams
    ∷ (takes_options, 0x2c)  -- INVALID_OPTION: section 6.1.2, options
    ∷ (is_none enterprise_attestation, 0x02)  -- INVALID_PARAMETER: section 6.1.2
    ∷ [])
    (MakeCredential (unwrap_or hash []) (unwrap_or rp_id []) (unwrap_or user_id []) (unwrap_or user_name [])
    (unwrap_or (option "rk") false) excluded)

-- ---- authenticatorGetAssertion (CTAP 2.1, sections 6.2 and 8.2)

-- The types of its parameters, the checks of a request in order, and the parsed request. The order of the checks and
-- the rejection of pinUvAuthParam are choices of this project.

-- The required types of the parameters.
abbrev pub assertion_types : List (MemberKey × (Tree → Bool))
assertion_types =
    (Number 0x01, is_text)  -- rpId
    ∷ (Number 0x02, is_bytes)  -- clientDataHash
    ∷ (Number 0x03, array_of (map_of descriptor_types))  -- allowList
    ∷ (Number 0x04, is_map)  -- extensions
    ∷ (Number 0x05, map_of option_types)  -- options
    ∷ (Number 0x06, is_bytes)  -- pinUvAuthParam
    ∷ (Number 0x07, is_uint)  -- pinUvAuthProtocol
    ∷ []

-- The request, or the status of the first check that fails.
abbrev pub assertion_request : Option Tree → Result ParsedRequest ℕ
assertion_request t =
    let rp_id = member_as as_text (Number 0x01) t in
    let hash = member_as as_bytes (Number 0x02) t in
    let allowed = entries_of (member (Number 0x03) t) in
    let option : String → Option Bool = λ name. member_as as_flag (Name name) (member (Number 0x05) t) in
    let pin_uv_auth_param = member_as as_bytes (Number 0x06) t in
    if_all_hold
    ((is_some t, 0x12)  -- INVALID_CBOR: canonical CBOR, section 8
    ∷ (is_some_and (map_of assertion_types) t, 0x11)  -- CBOR_UNEXPECTED_TYPE: a map, and the types of section 6.2
    ∷ (is_some rp_id && is_some hash && all_entries has_id_and_type allowed, 0x14)  -- MISSING_PARAMETER: section 6.2
    ∷ (length (unwrap_or hash []) == 32, 0x03)  -- INVALID_LENGTH: a SHA-256 hash
    ∷ (is_none pin_uv_auth_param, 0x02)  -- INVALID_PARAMETER: no PIN and no user verification
    ∷ (not (unwrap_or (option "uv") false), 0x2c)  -- INVALID_OPTION: section 6.2.2, no user verification
    ∷ (is_none (option "rk"), 0x2b)  -- UNSUPPORTED_OPTION: section 6.2.2, rk is no option of this command
    ∷ [])
    (GetAssertion (unwrap_or hash []) (unwrap_or rp_id []) allowed (unwrap_or (option "up") true))

-- ---- the supported commands, by their command byte

-- The command with this byte (CTAP 2.1, section 8.1, "Commands").
abbrev pub named_command : ℕ → Option Command
named_command byte =
    if byte == 0x01 then Some served.MakeCredential
    else (if byte == 0x02 then Some served.GetAssertion
    else (if byte == 0x04 then Some served.GetInfo
    else (if byte == 0x07 then Some served.Reset
    else (if byte == 0x08 then Some served.GetNextAssertion
    else (if byte == 0x0b then Some served.Selection else None)))))

-- ---- the request in a message, and the number of parsing steps

-- The request of a command without parameters (CTAP 2.1, sections 6.3, 6.4, 6.6 and 6.9).
abbrev pub without_parameters : List ℕ → ParsedRequest → Result ParsedRequest ℕ
without_parameters parameters asked = if length parameters == 0 then Ok asked else Err 0x03  -- INVALID_LENGTH

-- The request in a message, or the status of the first check that fails (CTAP 2.1, sections 6 and 8.1).
unfoldable pub read_of : List ℕ → Result ParsedRequest ℕ
read_of [] = Err 0x03  -- INVALID_LENGTH
read_of (byte ∷ parameters) =
    if byte == 0x01 then make_request (canonical_tree parameters)
    else if byte == 0x02 then assertion_request (canonical_tree parameters)
    else if byte == 0x04 then without_parameters parameters GetInfo
    else if byte == 0x07 then without_parameters parameters Reset
    else if byte == 0x08 then without_parameters parameters GetNextAssertion
    else if byte == 0x0b then without_parameters parameters Selection
    else Err 0x01  -- INVALID_COMMAND

-- The number of steps of parsing parameters: those of checking that the bytes are canonical CBOR, and as many again for
-- reading them if they are.
abbrev pub reading_steps : List ℕ → ℕ
reading_steps parameters = if is_some (canonical_tree parameters) then 2 * check_steps parameters
    else check_steps parameters

-- The number of steps of parsing a message: 0 for commands without parameters.
unfoldable pub steps_of : List ℕ → ℕ
steps_of [] = 0
steps_of (byte ∷ parameters) = if byte == 0x01 || byte == 0x02 then reading_steps parameters else 0

-- The longest message that the transport passes on (CTAP 2.1, section 11.2.4); maxMsgSize in getInfo.
abbrev pub MAX_REQUEST_LEN : ℕ
MAX_REQUEST_LEN = 7609

-- The value at which step counts saturate, 2^64-1.
abbrev pub MAX_STEPS : ℕ
MAX_STEPS = 18446744073709551615
