-- The RP IDs that a page may use (WebAuthn Level 3, section 5.1.3; HTML, "is a registrable domain suffix of or is
-- equal to").
use Rattle.std.specs.Prelude.{◌≡◌, ℕ, List, ◌-◌, ◌∷◌, ◌<◌, ◌⊎◌, length, drop}

-- The host is a subdomain of this domain.
abbrev pub IsSubdomain : List ℕ → List ℕ → Type 0
IsSubdomain host domain = drop (length host - length domain - 1) host ≡ 46 ∷ domain

-- A page at this host may use the RP ID `id`: it is the host itself, or a parent domain of the host longer than the
-- public suffix.
abbrev pub MayUse : List ℕ → List ℕ → List ℕ → Type 0
MayUse id host suffix = (id ≡ host) ⊎ (IsSubdomain host id × (length suffix < length id))
