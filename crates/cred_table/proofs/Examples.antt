-- The definitions at worked examples: replaced rows, and snapshots.
use Rattle.std.proofs.Common.{◌≡◌, ℕ, List, [], ◌∷◌, length, replicate, Bool, true, false, Some, None, option_map}
use Rattle.std.proofs.Common.{refl, ◌++◌}
use Rattle.std.specs.List.{find}
use Rattle.cred_table.specs.declared.row.Row.{Row}
use Rattle.cred_table.specs.Rows.{has_id, is_named, is_user, rows_with, rows_incremented, discoverable_rows, ids}
use Rattle.cred_table.specs.Rows.{counter_of}
use Rattle.ctap_cbor.specs.Grammar.{head}
use Rattle.ctap_cbor.specs.Grammar.{encode_tree}
use Rattle.cred_table.specs.Snapshots.{snapshot}

-- ---- the definitions at a worked example: of two rows of one RP the first is replaced, the second one's counter is raised

rp : List ℕ
rp = replicate 32 0xA3

made : (id user counter : ℕ) → Bool → Row
made id user counter discoverable = record { rp = replicate 32 0xA3; id = replicate 32 id; x = replicate 32 0; y = replicate 32 0; user = record { items = user ∷ [] }; discoverable = discoverable; counter = counter; name = [] }

-- both rows are discoverable, or the second one isn't
rows : Bool → List Row
unfolding made
rows discoverable = made 0xAA 1 0 true ∷ made 0xAB 2 0 discoverable ∷ []

after : Bool → List Row
unfolding made
after discoverable = made 0xAB 2 0 discoverable ∷ made 0xAC 1 0 true ∷ []

same_user_is : option_map (λ (row : Row). row.id) (find (is_user rp (0x01 ∷ [])) (rows true)) ≡ Some (replicate 32 0xAA)
unfolding rp made rows
same_user_is = refl

hidden_user_is : find (is_user rp (0x02 ∷ [])) (rows false) ≡ None
unfolding rp made rows
hidden_user_is = refl

stored_is : rows_with (made 0xAC 1 0 true) (rows true) ≡ after true
unfolding made rows after
stored_is = refl

-- a row that isn't discoverable replaces nothing
kept_is : length (rows_with (made 0xAC 1 0 false) (rows true)) ≡ 3
unfolding made rows
kept_is = refl

listed_is : ids (discoverable_rows rp (after true)) ≡ replicate 32 0xAC ∷ replicate 32 0xAB ∷ []
unfolding rp made after
listed_is = refl

hidden_is : ids (discoverable_rows rp (after false)) ≡ replicate 32 0xAC ∷ []
unfolding rp made after
hidden_is = refl

gone_is : find (has_id (replicate 32 0xAA)) (after true) ≡ None
unfolding made after
gone_is = refl

raised_is : rows_incremented (replicate 32 0xAB) (after true) ≡ made 0xAB 2 1 true ∷ made 0xAC 1 0 true ∷ []
unfolding made after
raised_is = refl

counter_is : counter_of (replicate 32 0xAB) (rows_incremented (replicate 32 0xAB) (after true)) ≡ 1
unfolding made after
counter_is = refl

short_is : find (is_named rp (replicate 31 0xAB)) (after true) ≡ None
unfolding rp made after
short_is = refl

other_is : find (is_named (replicate 32 0) (replicate 32 0xAB)) (after true) ≡ None
unfolding made after
other_is = refl

-- ---- the texts of snapshots at worked examples: no rows, and one row in both versions

none_is : encode_tree (snapshot true []) ≡ 0xA2 ∷ 0x01 ∷ 0x02 ∷ 0x02 ∷ 0x80 ∷ []
unfolding head
none_is = refl

old_none_is : encode_tree (snapshot false []) ≡ 0xA2 ∷ 0x01 ∷ 0x01 ∷ 0x02 ∷ 0x80 ∷ []
unfolding head
old_none_is = refl

row : Row
row = record { rp = replicate 32 0xA3; id = replicate 32 0xAA; x = replicate 32 0xBB; y = replicate 32 0xCC; user = record { items = 0x01 ∷ [] }; discoverable = true; counter = 0xFFFF_FFFF; name = 0x61 ∷ 0x62 ∷ [] }

-- a member of 32 bytes
hash : ℕ → ℕ → List ℕ
hash key byte = key ∷ 0x58 ∷ 0x20 ∷ replicate 32 byte

members : List ℕ
unfolding hash
members = hash 1 0xA3 ++ hash 2 0xAA ++ hash 3 0xBB ++ hash 4 0xCC ++ 0x05 ∷ 0x41 ∷ 0x01 ∷ 0x06 ∷ 0xF5 ∷ 0x07 ∷ 0x1A
    ∷ 0xFF ∷ 0xFF ∷ 0xFF ∷ 0xFF ∷ []

row_is : encode_tree (snapshot true (row ∷ [])) ≡ 0xA2 ∷ 0x01 ∷ 0x02 ∷ 0x02 ∷ 0x81 ∷ 0xA8 ∷ members ++ 0x08 ∷ 0x62 ∷ 0x61
    ∷ 0x62 ∷ []
unfolding head row hash members
row_is = refl

old_row_is : encode_tree (snapshot false (row ∷ [])) ≡ 0xA2 ∷ 0x01 ∷ 0x01 ∷ 0x02 ∷ 0x81 ∷ 0xA7 ∷ members
unfolding head row hash members
old_row_is = refl
