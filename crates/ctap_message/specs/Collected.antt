-- The parameters of a request, and the members of its maps, collected one pair at a time.
use Rattle.std.specs.Prelude.{◌≡◌, ℕ, Bool, List, Option, Some, false, if◌then◌else◌, pos, true}
use Rattle.ctap_cbor.specs.Tree.{Tree, Array, Map, Trees, Pairs, as_bytes, as_text, as_int, as_flag, Int, Plain}
use Rattle.ctap_cbor.specs.Tree.{as_uint}
use Rattle.ctap_cbor.specs.Reading.{Reading, Passes}
use Rattle.ctap_message.specs.Members.{MemberKey, all_pairs, all_entries, has_listed_type, Name, is_key, entries_of}
use Rattle.ctap_message.specs.Members.{has_entries, Number, member}
use Rattle.std.specs.Option.{option_copied}
use Rattle.ctap_message.specs.declared.rp.Rp.{Rp}
use Rattle.ctap_message.specs.declared.user.User.{User as UserFields}
use Rattle.ctap_message.specs.declared.options.Options.{Options as OptionFields}
use Rattle.ctap_message.specs.declared.parameters.Parameter.{Parameter as ParameterFields}
use Rattle.ctap_message.specs.declared.parameters.Parameters.{Parameters as ParametersFields}
use Rattle.ctap_message.specs.declared.descriptor.Descriptor.{Descriptor as DescriptorFields}
use Rattle.ctap_message.specs.declared.descriptor.ListSummary.{ListSummary}
use Rattle.ctap_message.specs.declared.descriptor.DescriptorList.{DescriptorList as ListFields}
use Rattle.ctap_message.specs.Fields.{Descriptor, DescriptorList, descriptors_in, Options, Parameter, Parameters}
use Rattle.ctap_message.specs.Fields.{User, parameters_in, options_in, rp_in, user_in}
use Rattle.ctap_message.specs.DescriptorWalk.{list_of, left_of}
use Rattle.ctap_message.specs.declared.make_credential.Make.{Make}
use Rattle.ctap_message.specs.declared.get_assertion.Assert.{Assert}
use Rattle.ctap_message.specs.Fields.{MakeParameters, make_parameters, AssertionParameters, assertion_parameters}

-- ---- the value that a cursor reads, and the values collected from the pairs of a map or the entries of an array

-- The cursor reads a tree `t`, and `value` is `f t`.
abbrev pub Reads : {V : Type 0} → (Tree → V) → ℕ → V → Reading → Reading → Type 0
Reads f levels value old new = (t : Tree) × Passes levels t old new × (value ≡ f t)

-- Whether a tree has the type, and its value.
abbrev pub typed : {V : Type 0} → (Tree → Bool) → (Option Tree → V) → Tree → Bool × V
typed type view t = (type t, view (Some t))

-- `ok` is whether the pairs have the listed types, and `value` is the value of the map of these pairs.
abbrev pub HasPairs : {V : Type 0} → List (MemberKey × (Tree → Bool)) → (Option Tree → V) → V → Bool → Pairs → Type 0
HasPairs types view value ok ps = (ok ≡ all_pairs (has_listed_type types) ps) × (value ≡ view (Some (Map ps)))

-- `ok` is whether the entries have the type, and `value` is the value of the array of these entries.
abbrev pub HasEntries : {V : Type 0} → (Tree → Bool) → (Option Tree → V) → V → Bool → Trees → Type 0
HasEntries type view value ok ts = (ok ≡ all_entries type ts) × (value ≡ view (Some (Array ts)))

-- The members of the maps inside a request, collected one pair at a time: rp, user, options, credential parameters and
-- descriptors.

-- ---- rp

-- Converts the code's fields of rp to the RP ID, if any.
abbrev pub to_rp : Rp → Option (List ℕ)
to_rp x = option_copied x.id

-- The RP ID, if any, after one more member of rp.
abbrev pub rp_next : Tree → Tree → Option (List ℕ) → Option (List ℕ)
rp_next k v id = if is_key (Name "id") k then as_text v else id

-- ---- user

-- Converts the code's `UserFields` to the specification's `User`.
abbrev pub to_user : UserFields → User
to_user x = record { id = option_copied x.id; name = option_copied x.name }

-- The fields of user after one more member of user.
abbrev pub user_next : Tree → Tree → User → User
user_next k v x = record {
  id = if is_key (Name "id") k then as_bytes v else x.id;
  name = if is_key (Name "name") k then as_text v else x.name;
}

-- ---- options

-- Converts the code's `OptionFields` to the specification's `Options`.
abbrev pub to_options : OptionFields → Options
to_options x = record { rk = x.rk; up = x.up; uv = x.uv }

-- The options after one more member.
abbrev pub options_next : Tree → Tree → Options → Options
options_next k v x =
    record {
      rk = if is_key (Name "rk") k then as_flag v else x.rk;
      up = if is_key (Name "up") k then as_flag v else x.up;
      uv = if is_key (Name "uv") k then as_flag v else x.uv;
    }

-- ---- credential parameters

-- Converts the code's `ParameterFields` to the specification's `Parameter`.
abbrev pub to_parameter : ParameterFields → Parameter
to_parameter x = record { alg = x.alg; credential_type = option_copied x.kind }

-- The fields of a credential parameter after one more of its members.
abbrev pub parameter_next : Tree → Tree → Parameter → Parameter
parameter_next k v x =
    record {
      alg = if is_key (Name "alg") k then as_int v else x.alg;
      credential_type = if is_key (Name "type") k then as_text v else x.credential_type;
    }

-- Converts the code's `ParametersFields` to the specification's `Parameters`.
abbrev pub to_parameters : ParametersFields → Parameters
to_parameters x = record { is_whole = x.is_whole; has_es256 = x.has_es256 }

-- ---- descriptors

-- Converts the code's `DescriptorFields` to the specification's `Descriptor`.
abbrev pub to_descriptor : DescriptorFields → Descriptor
to_descriptor x = record { id = option_copied x.id; credential_type = option_copied x.kind }

-- The fields of a descriptor after one more of its members.
abbrev pub descriptor_next : Tree → Tree → Descriptor → Descriptor
descriptor_next k v x =
    record {
      id = if is_key (Name "id") k then as_bytes v else x.id;
      credential_type = if is_key (Name "type") k then as_text v else x.credential_type;
    }

-- The key of a descriptor's member is not `transports`.
abbrev pub IsPlainName : Tree → Type 0
IsPlainName k = is_key (Name "transports") k ≡ false

-- The summary of a list of descriptors: whether all entries have an ID and a type, and whether the list has any entry.
abbrev pub listing_in : Option Tree → Bool × Bool
listing_in t = ((descriptors_in t).is_whole, has_entries (entries_of t))

-- Converts the code's `ListSummary` to a pair as in `listing_in`.
abbrev pub to_list_summary : ListSummary → Bool × Bool
to_list_summary x = (x.is_whole, x.given)

-- The summary of a list of descriptors, and the entries that an iterator returns.
abbrev pub list_in : Option Tree → DescriptorList × Trees
list_in t = (descriptors_in t, entries_of t)

-- Converts the code's `ListFields` to the specification's `DescriptorList` and the entries that its iterator returns.
abbrev pub to_descriptor_list : ListFields → DescriptorList × Trees
to_descriptor_list x = (record { is_whole = x.is_whole; entries = left_of x.list }, list_of x.list)

-- The parameters of a request, collected from its map one pair at a time, together with the entries of its list of
-- descriptors.

-- The map key of the parameter with this number.
abbrev pub parameter_key : ℕ → Tree
parameter_key n = Plain (Int (pos n))

-- ---- makeCredential

-- The parameters in a map, and the entries of its excludeList.
abbrev pub make_in : Option Tree → MakeParameters × Trees
make_in t = (make_parameters t, entries_of (member (Number 0x05) t))

-- Converts the code's `Make` to the specification's `MakeParameters`, with the entries of excludeList.
abbrev pub to_make_parameters : Make → MakeParameters × Trees
to_make_parameters m = (
  record {
    client_data_hash = option_copied m.hash;
    rp_id = to_rp m.rp;
    user = to_user m.user;
    has_parameters = m.has_parameters;
    parameters = to_parameters m.parameters;
    exclude_list = (to_descriptor_list m.exclude).0;
    options = to_options m.options;
    pin_uv_auth_param = option_copied m.pin_uv_auth_param;
    enterprise_attestation = m.enterprise_attestation;
  },
  (to_descriptor_list m.exclude).1,
)

-- The parameters of authenticatorMakeCredential after one more member of the map.
abbrev pub make_next : Tree → Tree → MakeParameters × Trees → MakeParameters × Trees
make_next k v m = (
  record {
    client_data_hash = if is_key (Number 0x01) k then as_bytes v else m.0.client_data_hash;
    rp_id = if is_key (Number 0x02) k then rp_in (Some v) else m.0.rp_id;
    user = if is_key (Number 0x03) k then user_in (Some v) else m.0.user;
    has_parameters = if is_key (Number 0x04) k then true else m.0.has_parameters;
    parameters = if is_key (Number 0x04) k then parameters_in (Some v) else m.0.parameters;
    exclude_list = if is_key (Number 0x05) k then descriptors_in (Some v) else m.0.exclude_list;
    options = if is_key (Number 0x07) k then options_in (Some v) else m.0.options;
    pin_uv_auth_param = if is_key (Number 0x08) k then as_bytes v else m.0.pin_uv_auth_param;
    enterprise_attestation = if is_key (Number 0x0a) k then as_uint v else m.0.enterprise_attestation;
  },
  if is_key (Number 0x05) k then entries_of (Some v) else m.1,
)

-- The key is not that of rp, user, pubKeyCredParams, excludeList or options.
pub record IsPlainMake (k : Tree) : Type 0 where
  pub rp : is_key (Number 0x02) k ≡ false
  pub user : is_key (Number 0x03) k ≡ false
  pub parameters : is_key (Number 0x04) k ≡ false
  pub exclude_list : is_key (Number 0x05) k ≡ false
  pub options : is_key (Number 0x07) k ≡ false

-- The key is none of the keys of authenticatorMakeCredential.
pub record IsUnknownMakeKey (k : Tree) : Type 0 where
  pub others : IsPlainMake k
  pub hash : is_key (Number 0x01) k ≡ false
  pub extensions : is_key (Number 0x06) k ≡ false
  pub pin_uv_auth_param : is_key (Number 0x08) k ≡ false
  pub pin_uv_auth_protocol : is_key (Number 0x09) k ≡ false
  pub enterprise_attestation : is_key (Number 0x0a) k ≡ false

-- ---- getAssertion

-- The parameters in a map, and the entries of its allowList.
abbrev pub assertion_in : Option Tree → AssertionParameters × Trees
assertion_in t = (assertion_parameters t, entries_of (member (Number 0x03) t))

-- Converts the code's `Assert` to the specification's `AssertionParameters`, with the entries of allowList.
abbrev pub to_assertion_parameters : Assert → AssertionParameters × Trees
to_assertion_parameters a = (
  record {
    rp_id = option_copied a.rp_id;
    client_data_hash = option_copied a.hash;
    allow_list = (to_descriptor_list a.allow).0;
    options = to_options a.options;
    pin_uv_auth_param = option_copied a.pin_uv_auth_param;
  },
  (to_descriptor_list a.allow).1,
)

-- The parameters of authenticatorGetAssertion after one more member of the map.
abbrev pub assert_next : Tree → Tree → AssertionParameters × Trees → AssertionParameters × Trees
assert_next k v a = (
  record {
    rp_id = if is_key (Number 0x01) k then as_text v else a.0.rp_id;
    client_data_hash = if is_key (Number 0x02) k then as_bytes v else a.0.client_data_hash;
    allow_list = if is_key (Number 0x03) k then descriptors_in (Some v) else a.0.allow_list;
    options = if is_key (Number 0x05) k then options_in (Some v) else a.0.options;
    pin_uv_auth_param = if is_key (Number 0x06) k then as_bytes v else a.0.pin_uv_auth_param;
  },
  if is_key (Number 0x03) k then entries_of (Some v) else a.1,
)

-- The key is not that of allowList or options.
pub record IsPlainAssert (k : Tree) : Type 0 where
  pub allow_list : is_key (Number 0x03) k ≡ false
  pub options : is_key (Number 0x05) k ≡ false

-- The key is none of the keys of authenticatorGetAssertion.
pub record IsUnknownAssertKey (k : Tree) : Type 0 where
  pub others : IsPlainAssert k
  pub rp_id : is_key (Number 0x01) k ≡ false
  pub hash : is_key (Number 0x02) k ≡ false
  pub extensions : is_key (Number 0x04) k ≡ false
  pub pin_uv_auth_param : is_key (Number 0x06) k ≡ false
  pub pin_uv_auth_protocol : is_key (Number 0x07) k ≡ false
