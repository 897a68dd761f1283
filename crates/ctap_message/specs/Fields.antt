-- The parameters and members that the code stores, as the code checks them.
use Rattle.std.specs.Prelude.{ℕ, ℤ, Bool, ◌&&◌, List, Option, Some, None, is_some, if◌then◌else◌, ◌==◌, nat_le, true}
use Rattle.std.specs.Prelude.{false, not, [], ◌∷◌, length, is_none, unwrap_or, Result}
use Rattle.ctap_cbor.specs.Tree.{Tree, Trees, as_bytes, as_text, as_int, as_flag, as_uint}
use Rattle.ctap_message.specs.Members.{Name, member_as, all_entries, some_entry, entries_of, is_public_key, is_es256}
use Rattle.ctap_message.specs.Members.{Number, member}
use Rattle.ctap_message.specs.Requests.{if_all_hold, ParsedRequest, MakeCredential, GetAssertion}

-- The members of descriptors, options, credential parameters, rp and user that the code stores, as functions of the
-- CBOR items.

-- ---- descriptors

-- The fields of a descriptor that the code stores.
pub record Descriptor : Type 0 where
  pub id : Option (List ℕ)
  pub credential_type : Option (List ℕ)

-- The fields of the descriptor in an item.
abbrev pub descriptor_in : Option Tree → Descriptor
descriptor_in t = record { id = member_as as_bytes (Name "id") t; credential_type = member_as as_text (Name "type") t }

-- Whether the descriptor has an ID and a type.
abbrev pub is_complete_descriptor : Descriptor → Bool
is_complete_descriptor d = is_some d.id && is_some d.credential_type

-- The ID of a descriptor of type `public-key`.
abbrev pub id_of_public_key : Descriptor → Option (List ℕ)
id_of_public_key d = if is_public_key d.credential_type then d.id else None

-- The summary of a list of descriptors: whether each entry has an ID and a type, and the entries. A missing list has no
-- entries.
pub record DescriptorList : Type 0 where
  pub is_whole : Bool
  pub entries : Trees

-- The summary of a list of descriptors in an item.
abbrev pub descriptors_in : Option Tree → DescriptorList
descriptors_in t = record {
  is_whole = all_entries (λ t. is_complete_descriptor (descriptor_in (Some t))) (entries_of t);
  entries = entries_of t;
}

-- ---- options

-- The options that the code stores.
pub record Options : Type 0 where
  pub rk : Option Bool
  pub up : Option Bool
  pub uv : Option Bool

-- The options in an item.
abbrev pub options_in : Option Tree → Options
options_in t = record {
  rk = member_as as_flag (Name "rk") t;
  up = member_as as_flag (Name "up") t;
  uv = member_as as_flag (Name "uv") t;
}

-- ---- credential parameters

-- The fields of a credential parameter that the code stores.
pub record Parameter : Type 0 where
  pub alg : Option ℤ
  pub credential_type : Option (List ℕ)

-- The fields of a credential parameter in an item.
abbrev pub parameter_in : Option Tree → Parameter
parameter_in t = record { alg = member_as as_int (Name "alg") t; credential_type = member_as as_text (Name "type") t }

-- Whether the credential parameter has an algorithm and a type.
abbrev pub is_whole_parameter : Parameter → Bool
is_whole_parameter p = is_some p.alg && is_some p.credential_type

-- Whether the credential parameter is for ES256 public keys.
abbrev pub is_for_es256 : Parameter → Bool
is_for_es256 p = is_es256 p.alg && is_public_key p.credential_type

-- The summary of pubKeyCredParams: whether each entry has an algorithm and a type, and whether any entry is for ES256
-- public keys.
pub record Parameters : Type 0 where
  pub is_whole : Bool
  pub has_es256 : Bool

-- The summary of pubKeyCredParams in an item.
abbrev pub parameters_in : Option Tree → Parameters
parameters_in t =
    record {
      is_whole = all_entries (λ t. is_whole_parameter (parameter_in (Some t))) (entries_of t);
      has_es256 = some_entry (λ t. is_for_es256 (parameter_in (Some t))) (entries_of t);
    }

-- ---- the ID of rp, and the members of user

-- The RP ID in an item.
abbrev pub rp_in : Option Tree → Option (List ℕ)
rp_in t = member_as as_text (Name "id") t

-- The fields of user that the code stores.
pub record User : Type 0 where
  pub id : Option (List ℕ)
  pub name : Option (List ℕ)

-- The fields of user in an item.
abbrev pub user_in : Option Tree → User
user_in t = record { id = member_as as_bytes (Name "id") t; name = member_as as_text (Name "name") t }

-- The parameters of a request as the code stores them, and the checks of these parameters. The results are the same as
-- those of Requests.antt.

-- The parameters of authenticatorMakeCredential, before the checks.
pub record MakeParameters : Type 0 where
  pub client_data_hash : Option (List ℕ)
  pub rp_id : Option (List ℕ)
  pub user : User
  pub has_parameters : Bool
  pub parameters : Parameters
  pub exclude_list : DescriptorList
  pub options : Options
  pub pin_uv_auth_param : Option (List ℕ)
  pub enterprise_attestation : Option ℕ

-- The parameters of authenticatorMakeCredential in a map.
abbrev pub make_parameters : Option Tree → MakeParameters
make_parameters t =
    record {
      client_data_hash = member_as as_bytes (Number 0x01) t;
      rp_id = rp_in (member (Number 0x02) t);
      user = user_in (member (Number 0x03) t);
      has_parameters = is_some (member (Number 0x04) t);
      parameters = parameters_in (member (Number 0x04) t);
      exclude_list = descriptors_in (member (Number 0x05) t);
      options = options_in (member (Number 0x07) t);
      pin_uv_auth_param = member_as as_bytes (Number 0x08) t;
      enterprise_attestation = member_as as_uint (Number 0x0a) t;
    }

-- The request, or the status of the first check that fails.
abbrev pub validated_make : Bool → Bool → MakeParameters → Result ParsedRequest ℕ
validated_make is_canonical is_typed m =
    if_all_hold
    ((is_canonical, 0x12)
    ∷ (is_typed, 0x11)
    ∷ (
      is_some m.client_data_hash && is_some m.rp_id && is_some m.user.id && m.has_parameters && m.parameters.is_whole
          && m.exclude_list.is_whole,
      0x14,
    )
    ∷ (length (unwrap_or m.client_data_hash []) == 32 && nat_le (length (unwrap_or m.user.id [])) 64, 0x03)
    ∷ (is_none m.pin_uv_auth_param, 0x02)
    ∷ (m.parameters.has_es256, 0x26)
    ∷ (not (unwrap_or m.options.uv false) && unwrap_or m.options.up true, 0x2c)
    ∷ (is_none m.enterprise_attestation, 0x02)
    ∷ [])
    (MakeCredential (unwrap_or m.client_data_hash []) (unwrap_or m.rp_id []) (unwrap_or m.user.id [])
    (unwrap_or m.user.name []) (unwrap_or m.options.rk false) m.exclude_list.entries)

-- The parameters of authenticatorGetAssertion, before the checks.
pub record AssertionParameters : Type 0 where
  pub rp_id : Option (List ℕ)
  pub client_data_hash : Option (List ℕ)
  pub allow_list : DescriptorList
  pub options : Options
  pub pin_uv_auth_param : Option (List ℕ)

-- The parameters of authenticatorGetAssertion in a map.
abbrev pub assertion_parameters : Option Tree → AssertionParameters
assertion_parameters t =
    record {
      rp_id = member_as as_text (Number 0x01) t;
      client_data_hash = member_as as_bytes (Number 0x02) t;
      allow_list = descriptors_in (member (Number 0x03) t);
      options = options_in (member (Number 0x05) t);
      pin_uv_auth_param = member_as as_bytes (Number 0x06) t;
    }

-- The request, or the status of the first check that fails.
abbrev pub validated_assertion : Bool → Bool → AssertionParameters → Result ParsedRequest ℕ
validated_assertion is_canonical is_typed a =
    if_all_hold
    ((is_canonical, 0x12)
    ∷ (is_typed, 0x11)
    ∷ (is_some a.rp_id && is_some a.client_data_hash && a.allow_list.is_whole, 0x14)
    ∷ (length (unwrap_or a.client_data_hash []) == 32, 0x03)
    ∷ (is_none a.pin_uv_auth_param, 0x02)
    ∷ (not (unwrap_or a.options.uv false), 0x2c)
    ∷ (is_none a.options.rk, 0x2b)
    ∷ [])
    (GetAssertion (unwrap_or a.client_data_hash []) (unwrap_or a.rp_id []) a.allow_list.entries
    (unwrap_or a.options.up true))
