-- Authenticator data, and the public key in it (WebAuthn Level 2, section 6.1; RFC 8152).
use Rattle.std.specs.Prelude.{ℕ, List, [], ◌∷◌, ◌++◌, length, Bool, true, false, bit_or, if◌then◌else◌, Option, Some}
use Rattle.std.specs.Prelude.{None, is_some}
use Rattle.byteorder.specs.Endian.{big_bytes}
use Rattle.fido_authdata.specs.declared.auth_data.AttestedCredential.{AttestedCredential}

-- ---- the public key of an ES256 credential as a COSE key (RFC 8152, sections 7.1, 8.1 and 13.1.1)

-- The COSE key {1: 2, 3: -7, -1: 1, -2: x, -3: y} (CTAP 2.1, section 8): kty EC2, alg ES256, crv P-256, x, y.
abbrev pub cose_key_bytes : (x y : List ℕ) → List ℕ
cose_key_bytes x y =
    0xA5 ∷ [] ++ 0x01 ∷ 0x02 ∷ [] ++ 0x03 ∷ 0x26 ∷ [] ++ 0x20 ∷ 0x01 ∷ [] ++ 0x21 ∷ 0x58 ∷ 0x20 ∷ [] ++ x
    ++ 0x22 ∷ 0x58 ∷ 0x20 ∷ [] ++ y

-- ---- authenticator data (WebAuthn Level 2, section 6.1)

-- The flags: bit 0 is UP (user present), bit 6 is AT (attested credential data included).
abbrev pub flags_byte : (user_present attested : Bool) → ℕ
flags_byte user_present attested = bit_or (if user_present then 0x01 else 0x00) (if attested then 0x40 else 0x00)

-- Attested credential data (section 6.5.1).
abbrev pub attested_bytes : (aaguid id x y : List ℕ) → List ℕ
attested_bytes aaguid id x y = aaguid ++ big_bytes 2 (length id) ++ id ++ cose_key_bytes x y

-- The authenticator data of an assertion: RP ID hash, flags, signature counter.
abbrev pub assertion_bytes : (rp_hash : List ℕ) (user_present : Bool) (counter : ℕ) → List ℕ
assertion_bytes rp_hash user_present counter = rp_hash ++ flags_byte user_present false ∷ [] ++ big_bytes 4 counter

-- The authenticator data of a new credential, with signature counter 0.
abbrev pub created_bytes : (rp_hash aaguid id x y : List ℕ) → List ℕ
created_bytes rp_hash aaguid id x y =
    rp_hash ++ flags_byte true true ∷ [] ++ big_bytes 4 0 ++ attested_bytes aaguid id x y

-- The encoding of the attested credential data, if any.
abbrev pub attested_part : Option AttestedCredential → List ℕ
attested_part None = []
attested_part (Some a) = attested_bytes a.aaguid a.id a.x a.y

-- The encoding of the code's type `AuthData` (WebAuthn Level 2, section 6.1).
abbrev pub auth_data_bytes : (rp_hash : List ℕ) (user_present : Bool) (counter : ℕ) → Option AttestedCredential → List ℕ
auth_data_bytes rp_hash user_present counter attested =
    rp_hash ++ flags_byte user_present (is_some attested) ∷ [] ++ big_bytes 4 counter ++ attested_part attested
