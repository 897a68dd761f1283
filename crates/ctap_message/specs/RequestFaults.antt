-- Why a message isn't a supported request: the first check that fails, with the values that it compares (CTAP 2.1,
-- sections 6.1, 6.2 and 8).
use Rattle.std.specs.Prelude.{ℕ, ◌==◌, ◌||◌, nat_le, Bool, true, false, not, List, [], ◌∷◌, length, Option, Some, None, is_some}
use Rattle.std.specs.Prelude.{is_none, unwrap_or, Result, Ok, Err, if◌then◌else◌}
use Rattle.ctap_cbor.specs.declared.fault.Kind.{Kind}
use Rattle.ctap_cbor.specs.Outcome.{Outcome, result_of}
use Rattle.ctap_cbor.specs.Outcome.{outcome_of, whole_tree}
use Rattle.ctap_cbor.specs.Tree.{Tree}
use Rattle.ctap_message.specs.declared.fault.RequestFault.{RequestFault}
use Rattle.ctap_message.specs.declared.fault.RequestFault.TheVariants as because
use Rattle.ctap_message.specs.Requests.{ParsedRequest}
use Rattle.ctap_message.specs.Members.{is_some_and, map_of}
use Rattle.ctap_message.specs.Requests.{make_types}
use Rattle.ctap_message.specs.Requests.{assertion_types}
use Rattle.ctap_message.specs.Fields.{MakeParameters, make_parameters, AssertionParameters, assertion_parameters}

-- The status code of the error response (section 8.2).
abbrev pub status_of : RequestFault → ℕ
status_of because.Empty = 0x03  -- INVALID_LENGTH
status_of (because.NoSuchCommand byte) = 0x01  -- INVALID_COMMAND
status_of (because.Trailing count) = 0x03  -- INVALID_LENGTH
status_of (because.NotCanonical fault) = 0x12  -- INVALID_CBOR
status_of because.WrongType = 0x11  -- CBOR_UNEXPECTED_TYPE
status_of (because.Missing command parameter) = 0x14  -- MISSING_PARAMETER
status_of (because.EntryNotWhole command parameter) = 0x14  -- MISSING_PARAMETER
status_of (because.HashLength len) = 0x03  -- INVALID_LENGTH
status_of (because.UserIdLength len) = 0x03  -- INVALID_LENGTH
status_of because.PinUvAuthParam = 0x02  -- INVALID_PARAMETER
status_of because.NoAlgorithm = 0x26  -- UNSUPPORTED_ALGORITHM
status_of because.UvOption = 0x2c  -- INVALID_OPTION
status_of because.UpOption = 0x2c  -- INVALID_OPTION
status_of because.RkOption = 0x2b  -- UNSUPPORTED_OPTION
status_of because.EnterpriseAttestation = 0x02  -- INVALID_PARAMETER

-- The first error in the list whose condition is false, or else the last argument.
abbrev pub or_first : List (Bool × RequestFault) → Option RequestFault → Option RequestFault
or_first [] other = other
or_first (check ∷ checks) other = if check.0 then or_first checks other else Some check.1

-- The error of the first check of authenticatorMakeCredential that fails, once clientDataHash, rp.id and user.id are
-- known to be present.
abbrev pub fault_of_make : MakeParameters → (hash user_id : List ℕ) → Option RequestFault
fault_of_make m hash user_id =
    or_first
    ((m.has_parameters, because.Missing 0x01 0x04)
    ∷ (m.parameters.is_whole, because.EntryNotWhole 0x01 0x04)
    ∷ (m.exclude_list.is_whole, because.EntryNotWhole 0x01 0x05)
    ∷ (length hash == 32, because.HashLength (length hash))
    ∷ (nat_le (length user_id) 64, because.UserIdLength (length user_id))
    ∷ (is_none m.pin_uv_auth_param, because.PinUvAuthParam)
    ∷ (m.parameters.has_es256, because.NoAlgorithm)
    ∷ (not (unwrap_or m.options.uv false), because.UvOption)
    ∷ (unwrap_or m.options.up true, because.UpOption)
    ∷ (is_none m.enterprise_attestation, because.EnterpriseAttestation)
    ∷ [])
    None

-- The error of the first check of authenticatorMakeCredential that fails. `is_typed` is whether all parameters have
-- their required types.
abbrev pub make_fault : Bool → MakeParameters → Option RequestFault
make_fault is_typed m =
    or_first
    ((is_typed, because.WrongType)
    ∷ (is_some m.client_data_hash, because.Missing 0x01 0x01)
    ∷ (is_some m.rp_id, because.Missing 0x01 0x02)
    ∷ (is_some m.user.id, because.Missing 0x01 0x03)
    ∷ [])
    (fault_of_make m (unwrap_or m.client_data_hash []) (unwrap_or m.user.id []))

-- The error of the first check of authenticatorGetAssertion that fails. `is_typed` is whether all parameters have their
-- required types.
abbrev pub assertion_fault : Bool → AssertionParameters → Option RequestFault
assertion_fault is_typed a =
    let hash_len = length (unwrap_or a.client_data_hash []) in
    or_first
    ((is_typed, because.WrongType)
    ∷ (is_some a.rp_id, because.Missing 0x02 0x01)
    ∷ (is_some a.client_data_hash, because.Missing 0x02 0x02)
    ∷ (a.allow_list.is_whole, because.EntryNotWhole 0x02 0x03)
    ∷ (hash_len == 32, because.HashLength hash_len)
    ∷ (is_none a.pin_uv_auth_param, because.PinUvAuthParam)
    ∷ (not (unwrap_or a.options.uv false), because.UvOption)
    ∷ (is_none a.options.rk, because.RkOption)
    ∷ [])
    None

-- The error if the parameters aren't canonical CBOR, or else the error of the first check that fails.
abbrev pub fault_after : Option (ℕ × Kind) → Option RequestFault → Option RequestFault
fault_after (Some f) checked = Some (because.NotCanonical (record { at = f.0; kind = f.1 }))
fault_after None checked = checked

-- The error of the first check of authenticatorMakeCredential that fails, for the parameters in a CBOR item.
abbrev pub make_fault_in : Option Tree → Option RequestFault
make_fault_in t = make_fault (is_some_and (map_of make_types) t) (make_parameters t)

-- The error of the first check of authenticatorGetAssertion that fails, for the parameters in a CBOR item.
abbrev pub assertion_fault_in : Option Tree → Option RequestFault
assertion_fault_in t = assertion_fault (is_some_and (map_of assertion_types) t) (assertion_parameters t)

-- The error of a request's parameters, from the outcome of decoding them.
abbrev pub fault_of : Outcome → (Option Tree → Option RequestFault) → Option RequestFault
fault_of outcome checked = fault_after (result_of outcome) (checked (whole_tree outcome))

-- The error if bytes follow the command byte of a command without parameters (sections 6.3, 6.4, 6.6 and 6.9).
abbrev pub trailing_fault : ℕ → Option RequestFault
trailing_fault count = if count == 0 then None else Some (because.Trailing count)

-- The error of a message, or None if the message is a supported request.
unfoldable pub fault_in : List ℕ → Option RequestFault
fault_in [] = Some because.Empty
fault_in (byte ∷ parameters) =
    if byte == 0x01 then fault_of (outcome_of parameters) make_fault_in
    else if byte == 0x02 then fault_of (outcome_of parameters) assertion_fault_in
    else if (byte == 0x04) || ((byte == 0x07) || ((byte == 0x08) || (byte == 0x0b))) then trailing_fault (length parameters)
    else Some (because.NoSuchCommand byte)

-- The status code of a rejected message.
abbrev pub rejection_status : Result ParsedRequest ℕ → Option ℕ
rejection_status (Ok asked) = None
rejection_status (Err status) = Some status
