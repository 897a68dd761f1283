use Rattle.std.proofs.Common.{◌≤◌, length, drop}
use Rattle.std.specs.{Prelude.vec_capacity, Option.ForSome}
use Rattle.ctap_cbor.specs.{Values.to_trees, Values.to_pairs, Writing.previous_encoding}
use Rattle.ctap_cbor.proofs.Written.{ItemsLeft, PairsLeft}
use Rattle.ctap_cbor.proofs.encode.+write.Given as goal

abbrev pub invariant-write_items-loop-item : goal.invariant-write_items-loop-item
invariant-write_items-loop-item l = record {
  left : ItemsLeft l.levels (to_trees l.items) (to_trees (drop l.item-index l.items)) l.fn.out.items l.out.items;
  grows : vec_capacity l.fn.out ≤ vec_capacity l.out;
}

abbrev pub invariant-write_pairs-loop-pair : goal.invariant-write_pairs-loop-pair
invariant-write_pairs-loop-pair l = record {
  span : ForSome l.previous (λ s. (s.start ≤ s.end) × (s.end ≤ length l.out.items));
  grows : vec_capacity l.fn.out ≤ vec_capacity l.out;
  left : PairsLeft l.levels (to_pairs l.pairs) (to_pairs (drop l.pair-index l.pairs)) (previous_encoding l.out.items l.previous)
      l.fn.out.items l.out.items;
}
