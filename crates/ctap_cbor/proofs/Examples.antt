-- Worked texts.
use Rattle.std.proofs.Common.{◌≡◌, [], ◌∷◌, Some, None, refl, arith, replicate}
use Rattle.std.specs.{Prelude.pos, Prelude.negsuc, Str.is_utf8, Str.chars}
use Rattle.ctap_cbor.specs.declared.fault.Kind.TheVariants.{Truncated, Reserved, NotShortest, TooDeep, KeyType}
use Rattle.ctap_cbor.specs.declared.fault.Kind.TheVariants.{KeyOrder, NotUtf8, Unsupported}
use Rattle.ctap_cbor.specs.Tree.{Int, Plain, Array, no_trees, tree, no_pairs, pair}
use Rattle.ctap_cbor.specs.Grammar.{head, argument_len, argument, least_argument}
use Rattle.ctap_cbor.specs.{Grammar.encode_tree, Items.string_len}
use Rattle.ctap_cbor.specs.Items.{AnItem, AKey, fault, first_faults, body_faults, fault_steps, passed, item_len}
use Rattle.ctap_cbor.specs.Outcome.{AtKey, Whole, Stopped, IsOutcome, steps}

-- a2 02 00 01 00: a key not above the one before it
out_of_order : IsOutcome (0xa2 ∷ 0x02 ∷ 0x00 ∷ 0x01 ∷ 0x00 ∷ [])
    (Stopped (AtKey 2 (pair (Plain (Int (pos 2))) (Plain (Int (pos 0))) no_pairs) ∷ []) KeyOrder)
unfolding head first_faults body_faults argument_len argument least_argument item_len string_len
out_of_order = (0x01 ∷ 0x00 ∷ [], ((omega arith, omega arith, (tt, tt, tt), (omega arith, omega arith, tt), omega arith), tt, refl), refl)

out_of_order_steps : steps (0xa2 ∷ 0x02 ∷ 0x00 ∷ 0x01 ∷ 0x00 ∷ [])
    (Stopped (AtKey 2 (pair (Plain (Int (pos 2))) (Plain (Int (pos 0))) no_pairs) ∷ []) KeyOrder) ≡ 5
unfolding head fault_steps passed argument_len argument item_len string_len
out_of_order_steps = refl

-- 81 81 81 81 00
deep : IsOutcome (0x81 ∷ 0x81 ∷ 0x81 ∷ 0x81 ∷ 0x00 ∷ [])
    (Whole (Array (tree (Array (tree (Array (tree (Array (tree (Plain (Int (pos 0))) no_trees)) no_trees)) no_trees))
    no_trees)))
unfolding head
deep = record { enc = record { lawful = (omega arith, ((omega arith, ((omega arith, ((omega arith, (omega arith, tt)), tt)), tt)), tt)); spelled = refl }; flat = omega arith }

-- the faults of the table's rows, where they stand at the top
rows : (fault 4 AnItem [] ≡ Some Truncated) × (fault 4 AnItem (0x18 ∷ 0x05 ∷ []) ≡ Some NotShortest)
    × (fault 0 AnItem (0x81 ∷ 0x00 ∷ []) ≡ Some TooDeep) × (fault 4 AnItem (0x61 ∷ 0xc3 ∷ []) ≡ Some NotUtf8)
    × (fault 4 AnItem (0x62 ∷ 0xc3 ∷ []) ≡ Some Truncated)
    × (fault 3 (AKey None) (0xf5 ∷ 0x00 ∷ []) ≡ Some KeyType) × (fault 4 AnItem (0x5f ∷ []) ≡ Some Reserved)
    × (fault 4 AnItem (0xf9 ∷ 0x00 ∷ 0x00 ∷ []) ≡ Some Unsupported)
unfolding first_faults body_faults argument_len argument least_argument item_len string_len is_utf8 chars
rows = (refl, refl, refl, refl, refl, refl, refl, refl)

lowest : encode_tree (Plain (Int (negsuc 18446744073709551615))) ≡ 0x3b ∷ replicate 8 0xff
unfolding head
lowest = refl
