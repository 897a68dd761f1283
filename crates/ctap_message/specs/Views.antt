-- Converts the code's requests to the specification's types, which contain no addresses in memory.
use Rattle.std.specs.Prelude.{◌≡◌, ℕ, ◌≤◌, length, Option, Some, None, Result, Ok, Err}
use Rattle.ctap_message.specs.declared.request.Request.{Request}
use Rattle.ctap_message.specs.declared.status.Status.{Status}
use Rattle.ctap_message.specs.Requests.{ParsedRequest}
use Rattle.ctap_message.specs.declared.fault.RequestFault.{RequestFault}
use Rattle.ctap_message.specs.RequestFaults.{status_of}
use Rattle.ctap_message.specs.DescriptorWalk.{list_of, left_of}
use Rattle.ctap_message.specs.declared.by_value.Request.{Request as RequestByValue}
use Rattle.ctap_message.specs.declared.request.Request.TheVariants as request
use Rattle.ctap_message.specs.Requests as asks
use Rattle.ctap_message.specs.declared.by_value.Request.TheVariants as by_value

-- ---- the code's `Request`

-- Converts the code's `Request` to `ParsedRequest`.
abbrev pub to_request : Request → ParsedRequest
to_request (request.Make m) =
    asks.MakeCredential m.hash.now m.rp_id.now m.user_id.now m.user_name.now m.discoverable (left_of m.exclude)
to_request (request.Assert a) = asks.GetAssertion a.hash.now a.rp_id.now (left_of a.allow) a.presence
to_request request.Info = asks.GetInfo
to_request request.Reset = asks.Reset
to_request request.Next = asks.GetNextAssertion
to_request request.Select = asks.Selection

-- Converts the code's result, a request or a status, to request parameters or a status code.
abbrev pub request_result : Result Request Status → Result ParsedRequest ℕ
request_result (Ok request) = Ok (to_request request)
request_result (Err status) = Err status.0

-- Converts the code's result, a request or an error, to request parameters or the error's status code.
abbrev pub parsed_result : Result Request RequestFault → Result ParsedRequest ℕ
parsed_result (Ok request) = Ok (to_request request)
parsed_result (Err fault) = Err (status_of fault)

-- The error in a result, if any.
abbrev pub fault_of_result : Result Request RequestFault → Option RequestFault
fault_of_result (Ok request) = None
fault_of_result (Err fault) = Some fault

-- The iterator over the request's list of descriptors is at its beginning.
abbrev pub HasFreshList : Request → Type 0
HasFreshList (request.Make m) = list_of m.exclude ≡ left_of m.exclude
HasFreshList (request.Assert a) = list_of a.allow ≡ left_of a.allow
HasFreshList _ = Unit {0}

-- If the result is a request, the iterator over its list of descriptors is at its beginning.
abbrev pub IsFresh : {E : Type 0} → Result Request E → Type 0
IsFresh (Ok request) = HasFreshList request
IsFresh (Err refused) = Unit {0}

-- The request's parameters have the lengths that the checks require.
abbrev pub HasCheckedLengths : Request → Type 0
HasCheckedLengths (request.Make m) = (length m.hash.now ≡ 32) × (length m.user_id.now ≤ 64)
HasCheckedLengths (request.Assert a) = length a.hash.now ≡ 32
HasCheckedLengths _ = Unit {0}

-- If the result is a request, its parameters have the lengths that the checks require.
abbrev pub HasLengths : {E : Type 0} → Result Request E → Type 0
HasLengths (Ok request) = HasCheckedLengths request
HasLengths (Err refused) = Unit {0}

-- ---- the module `by_value`

-- Converts the code's `Request` to `ParsedRequest`.
abbrev pub valued_request : RequestByValue → ParsedRequest
valued_request (by_value.Make hash rp_id user_id user_name discoverable exclude) =
    asks.MakeCredential hash.now rp_id.now user_id.now user_name.now discoverable (left_of exclude)
valued_request (by_value.Assert hash rp_id allow presence) = asks.GetAssertion hash.now rp_id.now (left_of allow) presence
valued_request by_value.Info = asks.GetInfo
valued_request by_value.Reset = asks.Reset
valued_request by_value.Next = asks.GetNextAssertion
valued_request by_value.Select = asks.Selection

-- Converts the code's result, a request or a status, to request parameters or a status code.
abbrev pub valued_result : Result RequestByValue Status → Result ParsedRequest ℕ
valued_result (Ok by_value) = Ok (valued_request by_value)
valued_result (Err status) = Err status.0

-- If the result is a request with a list of descriptors, the iterator over the list is at its beginning.
abbrev pub IsAtStart : Result RequestByValue Status → Type 0
IsAtStart (Ok (by_value.Make hash rp_id user_id user_name discoverable exclude)) = list_of exclude ≡ left_of exclude
IsAtStart (Ok (by_value.Assert hash rp_id allow presence)) = list_of allow ≡ left_of allow
IsAtStart other = Unit {0}

-- If the result is a request, its parameters have the lengths that the checks require.
abbrev pub HasChecked : Result RequestByValue Status → Type 0
HasChecked (Ok (by_value.Make hash rp_id user_id user_name discoverable exclude)) =
    (length hash.now ≡ 32) × (length user_id.now ≤ 64)
HasChecked (Ok (by_value.Assert hash rp_id allow presence)) = length hash.now ≡ 32
HasChecked other = Unit {0}
