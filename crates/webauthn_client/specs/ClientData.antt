-- The bytes of clientDataJSON (WebAuthn Level 3, section 5.8.1.1), for a top-level page whose origin needs no
-- escaping in JSON.
use Rattle.std.specs.Prelude.{ℕ, List, ◌++◌, codes}
use Rattle.base64.specs.GeneralPurpose.{encode_of}
use Rattle.base64.specs.Engines.{url_safe_no_pad}
use Rattle.webauthn_client.specs.declared.client_data.Ceremony.{Ceremony}
use Rattle.webauthn_client.specs.declared.client_data.Ceremony.TheVariants.{Create, Get}

-- The beginning of clientDataJSON, up to the value of `challenge`.
abbrev pub kind_text : Ceremony → List ℕ
kind_text Create = codes "{\"type\":\"webauthn.create\",\"challenge\":\""
kind_text Get = codes "{\"type\":\"webauthn.get\",\"challenge\":\""

-- clientDataJSON with a challenge and an origin (WebAuthn Level 3, section 5.8.1.1).
abbrev pub client_data : Ceremony → List ℕ → List ℕ → List ℕ
client_data ceremony challenge origin =
    kind_text ceremony ++ encode_of url_safe_no_pad challenge ++ codes "\",\"origin\":\"" ++ origin ++ codes "\",\"crossOrigin\":false}"
