use Rattle.std.proofs.lemmas.Grind.{common_steps}
use Rattle.std.proofs.Common.{rules, ℕ, ◌≡◌, ◌∙◌, refl, sym, ap, arith, drop, length}
use Rattle.ctap_cbor.specs.declared.value.Value.TheFolds.{fold-roll-Value}
use Rattle.ctap_cbor.specs.declared.value.Value.TheOpen as layer
use Rattle.ctap_cbor.specs.declared.value.Value.TheVariants.{rolls-Map}
use Rattle.ctap_cbor.specs.Tree as tree
use Rattle.ctap_cbor.specs.{Tree.Tree, Grammar.head, Writing.previous_encoding, Items.AKey, Items.is_above}
use Rattle.std.proofs.lemmas.Result.{err_from_is_err_and, IfErr-weaker, MatchResult-weaker}
use Rattle.std.specs.Prelude.{vec_capacity}
use Rattle.ctap_cbor.specs.Grammar.{encode_tree, encode_trees, encode_pairs}
use Rattle.ctap_cbor.specs.Values.{tree_step, to_tree, to_trees, to_pairs}
use Rattle.ctap_cbor.proofs.Written.{array_written, array_fails, map_written, map_fails, item_stops_here}
use Rattle.ctap_cbor.proofs.Written.{key_stops_here, value_stops_here, pair_here, above_here, span_within}
use Rattle.ctap_cbor.proofs.Written.{item_short_here, key_short_here, value_short_here, front_short, short_beyond}
use Rattle.ctap_cbor.proofs.Written.{array_short, map_short, if_memory, items_done, pairs_done, start_within}
use Rattle.ctap_cbor.proofs.encode.+write.Goals as goal

-- ---- a value

pub write_value-returns-in-Map-clause-writes : goal.write_value-returns-in-Map-clause-writes
write_value-returns-in-Map-clause-writes t c =
    let e : to_tree c.args.value.now ≡ tree.Map (to_pairs c.in-Map.pairs.items) = ap to_tree c.in-Map.is
    ∙ ap to_tree (sym (rolls-Map c.in-Map.pairs)) ∙ fold-roll-Value Tree tree_step (layer.Map c.in-Map.pairs) in
    let now : to_tree c.args.value.now ≡ tree.Map (to_pairs c.deref-in-Map.result.now) = e
    ∙ ap (λ x. tree.Map (to_pairs x)) (sym c.deref-in-Map.ensures.value) in
    rw now c.write_map.ensures.writes

pub write_value-returns-in-Map-clause-short : goal.write_value-returns-in-Map-clause-short
write_value-returns-in-Map-clause-short t c =
    let e : to_tree c.args.value.now ≡ tree.Map (to_pairs c.in-Map.pairs.items) = ap to_tree c.in-Map.is
    ∙ ap to_tree (sym (rolls-Map c.in-Map.pairs)) ∙ fold-roll-Value Tree tree_step (layer.Map c.in-Map.pairs) in
    let now : to_tree c.args.value.now ≡ tree.Map (to_pairs c.deref-in-Map.result.now) = e
    ∙ ap (λ x. tree.Map (to_pairs x)) (sym c.deref-in-Map.ensures.value) in
    rw now c.write_map.ensures.short

-- ---- an array, a map

pub write_array-returns-in_err-write_head-clause-short : goal.write_array-returns-in_err-write_head-clause-short
write_array-returns-in_err-write_head-clause-short t c =
    let vs = c.args.items.now in
    let cap : ℕ = vec_capacity c.args.out.now in
    if_memory c.from_residual.result _ (array_short cap (length vs) vs c.args.out.now.items refl
    (front_short cap c.args.out.now.items (head 4 (length vs))
    (encode_trees (to_trees vs)) c.in_err-write_head.ensures.short))

pub write_array-returns-clause-short : goal.write_array-returns-clause-short
write_array-returns-clause-short t c = grind (arith, common_steps, array_short)

pub write_map-returns-in_err-write_head-clause-short : goal.write_map-returns-in_err-write_head-clause-short
write_map-returns-in_err-write_head-clause-short t c =
    let vs = c.args.pairs.now in
    let cap : ℕ = vec_capacity c.args.out.now in
    if_memory c.from_residual.result _ (map_short cap (length vs) vs c.args.out.now.items refl
    (front_short cap c.args.out.now.items (head 5 (length vs))
    (encode_pairs (to_pairs vs)) c.in_err-write_head.ensures.short))

pub write_map-returns-clause-short : goal.write_map-returns-clause-short
write_map-returns-clause-short t c =
    let vs = c.args.pairs.now in
    let cap : ℕ = vec_capacity c.args.out.now in
    let old = c.args.out.now.items in
    let middle = c.write_head.new.out.items in
    IfErr-weaker c.write_pairs.result _ _
    (λ k short is. map_short cap (length vs) vs old refl
    (short_beyond cap (vec_capacity c.write_head.new.out) old middle (head 5 (length vs))
    (encode_pairs (to_pairs vs)) c.in_ok-write_head.ensures.ok c.write_head.ensures.grows (short is)))
    c.write_pairs.ensures.short

pub write_array-returns-clause-writes : goal.write_array-returns-clause-writes
write_array-returns-clause-writes t c =
    let vs = c.args.items.now in
    let old = c.args.out.now.items in
    let middle = c.write_head.new.out.items in
    let new = c.write_items.new.out.items in
    let head = c.in_ok-write_head.ensures.ok in
    MatchResult-weaker c.write_items.result c.write_items.ensures.writes
    (λ _ h. array_written c.args.levels (length vs) vs old middle new c.if-levels-eq0.false refl (omega arith) head h)
    (λ k g. array_fails c.args.levels (length vs) vs old middle new k c.if-levels-eq0.false head g)

pub write_map-returns-clause-writes : goal.write_map-returns-clause-writes
write_map-returns-clause-writes t c =
    let vs = c.args.pairs.now in
    let old = c.args.out.now.items in
    let middle = c.write_head.new.out.items in
    let new = c.write_pairs.new.out.items in
    let head = c.in_ok-write_head.ensures.ok in
    MatchResult-weaker c.write_pairs.result c.write_pairs.ensures.writes
    (λ _ h. map_written c.args.levels (length vs) vs old middle new c.if-levels-eq0.false refl (omega arith) head h)
    (λ k g. map_fails c.args.levels (length vs) vs old middle new k c.if-levels-eq0.false head g)

-- ---- the items of an array

pub write_items-returns-in_err-write_value-clause-writes : goal.write_items-returns-in_err-write_value-clause-writes
write_items-returns-in_err-write_value-clause-writes t c =
    let p = err_from_is_err_and c.from_residual.result c.from_residual.ensures.1 in
    rw (p.1, p.2) (item_stops_here c.args.levels c.args.items.now c.loop-item.item-index c.item-item.result
    c.args.out.now.items c.loop-item.out.items c.write_value.new.out.items c.in_err-write_value.field-0.0
    c.loop-item-test.true c.item-item.is c.loop-item.invariant.left c.in_err-write_value.ensures.writes)

pub write_items-returns-in_err-write_value-clause-short : goal.write_items-returns-in_err-write_value-clause-short
write_items-returns-in_err-write_value-clause-short t c =
    let p = err_from_is_err_and c.from_residual.result c.from_residual.ensures.1 in
    rw (p.1, p.2) (λ is. item_short_here c.args.levels c.args.items.now c.loop-item.item-index c.item-item.result
    c.args.out.now.items c.loop-item.out.items (vec_capacity c.args.out.now) (vec_capacity c.loop-item.out)
    c.loop-item-test.true c.item-item.is c.loop-item.invariant.left c.loop-item.invariant.grows
    (c.in_err-write_value.ensures.short is))

-- ---- the pairs of a map

pub write_pairs-returns-in_err-write_key-clause-short : goal.write_pairs-returns-in_err-write_key-clause-short
write_pairs-returns-in_err-write_key-clause-short t c =
    let p = err_from_is_err_and c.from_residual.result c.from_residual.ensures.1 in
    rw (p.1, p.2) (λ is. key_short_here c.args.levels c.args.pairs.now c.loop-pair.pair-index c.pair-item.result
    (previous_encoding c.loop-pair.out.items c.loop-pair.previous) c.args.out.now.items c.loop-pair.out.items
    (vec_capacity c.args.out.now) (vec_capacity c.loop-pair.out) c.loop-pair-test.true c.pair-item.is
    c.loop-pair.invariant.left c.loop-pair.invariant.grows (c.in_err-write_key.ensures.short is))

pub write_pairs-returns-in_err-write_value-clause-short : goal.write_pairs-returns-in_err-write_value-clause-short
write_pairs-returns-in_err-write_value-clause-short t c =
    let p = err_from_is_err_and c.from_residual-in_err-write_value.result c.from_residual-in_err-write_value.ensures.1
    in
    rw (p.1, p.2) (λ is. value_short_here c.args.levels c.args.pairs.now c.loop-pair.pair-index c.pair-item.result
    (previous_encoding c.loop-pair.out.items c.loop-pair.previous) c.args.out.now.items c.loop-pair.out.items
    c.write_key.new.out.items (vec_capacity c.args.out.now) (vec_capacity c.write_key.new.out) c.loop-pair-test.true
    c.pair-item.is c.loop-pair.invariant.left c.in_ok-write_key.ensures.writes.appended
    (omega (arith, c.loop-pair.invariant.grows, c.write_key.ensures.grows)) (c.in_err-write_value.ensures.short is))

pub write_pairs-returns-in_err-write_key-clause-writes : goal.write_pairs-returns-in_err-write_key-clause-writes
write_pairs-returns-in_err-write_key-clause-writes t c =
    let p = err_from_is_err_and c.from_residual.result c.from_residual.ensures.1 in
    rw (p.1, p.2) (key_stops_here c.args.levels c.args.pairs.now c.loop-pair.pair-index c.pair-item.result
    (previous_encoding c.loop-pair.out.items c.loop-pair.previous) c.args.out.now.items c.loop-pair.out.items
    c.write_key.new.out.items c.in_err-write_key.field-0.0 c.loop-pair-test.true c.pair-item.is
    c.loop-pair.invariant.left c.in_err-write_key.ensures.writes)

pub write_pairs-returns-then-not-is_above_last-clause-writes :
    goal.write_pairs-returns-then-not-is_above_last-clause-writes
write_pairs-returns-then-not-is_above_last-clause-writes t c = grind (arith, common_steps, above_here)

pub write_pairs-returns-in_err-write_value-clause-writes : goal.write_pairs-returns-in_err-write_value-clause-writes
write_pairs-returns-in_err-write_value-clause-writes t c =
    let v = c.pair-item.result in
    let a = c.loop-pair.out.items in
    let b = c.write_key.new.out.items in
    let w = c.in_ok-write_key.ensures.writes in
    let asked = above_here a b (encode_tree (to_tree v.0)) c.loop-pair.previous c.len-start.result c.loop-pair.invariant.span
    w.appended (c.len-start.ensures ∙ c.loop-pair.out.ok.0) in
    let told = ap (λ x. is_above (AKey (previous_encoding x c.loop-pair.previous)) (drop c.len-start.result x))
    (sym c.deref.ensures.value) ∙ sym c.is_above_last.ensures ∙ c.if-not-is_above_last.false in
    let p = err_from_is_err_and c.from_residual-in_err-write_value.result c.from_residual-in_err-write_value.ensures.1
    in
    rw (p.1, p.2) (value_stops_here c.args.levels c.args.pairs.now c.loop-pair.pair-index v
    (previous_encoding a c.loop-pair.previous) c.args.out.now.items a b c.write_value.new.out.items
    c.in_err-write_value.field-0.0 c.loop-pair-test.true c.pair-item.is c.loop-pair.invariant.left w (sym asked
    ∙ told) c.in_err-write_value.ensures.writes)

pub write_pairs-loop-pair-preserved : goal.write_pairs-loop-pair-preserved
write_pairs-loop-pair-preserved t c =
    let v = c.pair-item.result in
    let a = c.loop-pair.out.items in
    let b = c.write_key.new.out.items in
    let w = c.in_ok-write_key.ensures.writes in
    let u = c.in_ok-write_value.ensures.writes in
    let start = c.len-start.ensures ∙ c.loop-pair.out.ok.0 in
    let end = c.len.ensures ∙ c.write_key.new.out.ok.0 in
    let asked = above_here a b (encode_tree (to_tree v.0)) c.loop-pair.previous c.len-start.result c.loop-pair.invariant.span
    w.appended start in
    let told = ap (λ x. is_above (AKey (previous_encoding x c.loop-pair.previous)) (drop c.len-start.result x))
    (sym c.deref.ensures.value) ∙ sym c.is_above_last.ensures ∙ c.if-not-is_above_last.false in
    record {
      grows = omega (arith, c.loop-pair.invariant.grows, c.write_key.ensures.grows, c.write_value.ensures.grows);
      span = span_within a b c.write_value.new.out.items (encode_tree (to_tree v.0))
          (encode_tree (to_tree v.1)) record { start = c.len-start.result; end = c.len.result } w.appended u.appended start
          end;
      left = pair_here c.args.levels c.args.pairs.now c.loop-pair.pair-index v (previous_encoding a c.loop-pair.previous)
          c.args.out.now.items a b c.write_value.new.out.items record { start = c.len-start.result; end = c.len.result }
          c.loop-pair-test.true c.pair-item.is c.loop-pair.invariant.left w (sym asked ∙ told) u start end;
    }

pub write_items-loop-item-init : goal.write_items-loop-item-init
write_items-loop-item-init t c = search (rules, arith)

pub write_items-loop-item-preserved : goal.write_items-loop-item-preserved
write_items-loop-item-preserved t c = grind (arith, common_steps)

pub write_items-returns-clause-writes : goal.write_items-returns-clause-writes
write_items-returns-clause-writes t c = grind (arith, items_done)

pub write_items-returns-clause-grows : goal.write_items-returns-clause-grows
write_items-returns-clause-grows t c = c.loop-item.invariant.grows

pub write_items-returns-in_err-write_value-clause-grows : goal.write_items-returns-in_err-write_value-clause-grows
write_items-returns-in_err-write_value-clause-grows t c = grind arith

pub write_pairs-loop-pair-init : goal.write_pairs-loop-pair-init
write_pairs-loop-pair-init t c = search (rules, arith)

pub write_pairs-returns-clause-writes : goal.write_pairs-returns-clause-writes
write_pairs-returns-clause-writes t c = grind (arith, pairs_done)

pub write_pairs-returns-clause-grows : goal.write_pairs-returns-clause-grows
write_pairs-returns-clause-grows t c = c.loop-pair.invariant.grows

pub write_pairs-returns-in_err-write_key-clause-grows : goal.write_pairs-returns-in_err-write_key-clause-grows
write_pairs-returns-in_err-write_key-clause-grows t c = grind arith

pub write_pairs-returns-then-not-is_above_last-clause-grows :
    goal.write_pairs-returns-then-not-is_above_last-clause-grows
write_pairs-returns-then-not-is_above_last-clause-grows t c = grind arith

pub write_pairs-returns-in_err-write_value-clause-grows : goal.write_pairs-returns-in_err-write_value-clause-grows
write_pairs-returns-in_err-write_value-clause-grows t c = grind arith

pub write_array-returns-in_err-write_head-clause-grows : goal.write_array-returns-in_err-write_head-clause-grows
write_array-returns-in_err-write_head-clause-grows t c = c.write_head.ensures.grows

pub write_map-returns-in_err-write_head-clause-grows : goal.write_map-returns-in_err-write_head-clause-grows
write_map-returns-in_err-write_head-clause-grows t c = c.write_head.ensures.grows

pub write_array-returns-clause-grows : goal.write_array-returns-clause-grows
write_array-returns-clause-grows t c = grind arith

pub write_map-returns-clause-grows : goal.write_map-returns-clause-grows
write_map-returns-clause-grows t c = grind arith

pub write_pairs-is_above_last-requires-clause-span : goal.write_pairs-is_above_last-requires-clause-span
write_pairs-is_above_last-requires-clause-span t c = grind (arith, common_steps)

pub write_pairs-is_above_last-requires-clause-start : goal.write_pairs-is_above_last-requires-clause-start
write_pairs-is_above_last-requires-clause-start t c = grind (arith, start_within)

pub write_pairs-bounds-pairs-pair-index : goal.write_pairs-bounds-pairs-pair-index
write_pairs-bounds-pairs-pair-index t c = c.loop-pair-test.true

pub write_items-bounds-items-item-index : goal.write_items-bounds-items-item-index
write_items-bounds-items-item-index t c = c.loop-item-test.true
