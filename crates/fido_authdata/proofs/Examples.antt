-- The definitions at a worked example: registration and sign-in at `example.com`, byte for byte.
use Rattle.std.proofs.Common.{◌≡◌, ℕ, List, [], ◌∷◌, ◌++◌, length, replicate, true, false, refl}
use Rattle.fido_authdata.specs.{AuthData.cose_key_bytes, AuthData.assertion_bytes, AuthData.created_bytes}

-- the SHA-256 hash of `example.com`
rp_hash : List ℕ
rp_hash =
    0xA3 ∷ 0x79 ∷ 0xA6 ∷ 0xF6 ∷ 0xEE ∷ 0xAF ∷ 0xB9 ∷ 0xA5 ∷ 0x5E ∷ 0x37 ∷ 0x8C ∷ 0x11 ∷ 0x80 ∷ 0x34 ∷ 0xE2 ∷ 0x75 ∷
    0x1E ∷ 0x68 ∷ 0x2F ∷ 0xAB ∷ 0x9F ∷ 0x2D ∷ 0x30 ∷ 0xAB ∷ 0x13 ∷ 0xD2 ∷ 0x12 ∷ 0x55 ∷ 0x86 ∷ 0xCE ∷ 0x19 ∷ 0x47 ∷ []

key : List ℕ
key =
    0xA5 ∷ 0x01 ∷ 0x02 ∷ 0x03 ∷ 0x26 ∷ 0x20 ∷ 0x01 ∷ 0x21 ∷ 0x58 ∷ 0x20 ∷ [] ++ replicate 32 0xBB ++
    0x22 ∷ 0x58 ∷ 0x20 ∷ [] ++ replicate 32 0xCC

key_is : cose_key_bytes (replicate 32 0xBB) (replicate 32 0xCC) ≡ key
unfolding key
key_is = refl

key_has : length key ≡ 77
unfolding key
key_has = refl

created_is : created_bytes rp_hash (replicate 16 0) (replicate 32 0xAA) (replicate 32 0xBB) (replicate 32 0xCC) ≡
    rp_hash ++ 0x41 ∷ 0 ∷ 0 ∷ 0 ∷ 0 ∷ [] ++ replicate 16 0 ++ 0x00 ∷ 0x20 ∷ [] ++ replicate 32 0xAA ++ key
unfolding rp_hash key
created_is = refl

asserted_is : assertion_bytes rp_hash true 1 ≡ rp_hash ++ 0x01 ∷ 0 ∷ 0 ∷ 0 ∷ 1 ∷ []
unfolding rp_hash
asserted_is = refl

absent_is : assertion_bytes rp_hash false 0xFFFFFFFF ≡ rp_hash ++ 0x00 ∷ 0xFF ∷ 0xFF ∷ 0xFF ∷ 0xFF ∷ []
unfolding rp_hash
absent_is = refl
