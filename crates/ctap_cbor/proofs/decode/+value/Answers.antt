use Rattle.std.proofs.Common.{arith, ◌-◌, subst}
use Rattle.std.{proofs.lemmas.Result.err_from_is_err_and, specs.Option.option_copied}
use Rattle.ctap_cbor.specs.{Items.AnItem, Items.AKey, Views.to_part, Reading.TakesItem}
use Rattle.ctap_cbor.specs.Values.{to_tree, to_trees, to_pairs}
use Rattle.ctap_cbor.proofs.Moves.{array_stops, map_stops, item_stops, key_stops, value_stops, refused_halts}
use Rattle.ctap_cbor.proofs.Outcomes.{item_more, pair_more, scalar_passes, refuses_not_memory, unless_memory, unless_memory_by}
use Rattle.ctap_cbor.proofs.decode.+value.Goals as goal

-- ---- an item

pub read_value-returns-in_err-item : goal.read_value-returns-in_err-item
read_value-returns-in_err-item t c =
    let p = err_from_is_err_and c.from_residual.result c.from_residual.ensures.1 in
    let f = c.in_err-item.field-0.0 in
    let h = c.in_err-item.ensures.takes in
    rw (p.1, p.2) (unless_memory f _ (refuses_not_memory (5 - c.args.level) AnItem c.args.cursor.now c.item.new.self f.at f.kind
    h) (refused_halts (5 - c.args.level) c.args.cursor.now c.item.new.self f.at f.kind h))

pub read_value-returns-in_err-items-in-Array : goal.read_value-returns-in_err-items-in-Array
read_value-returns-in_err-items-in-Array t c = grind (arith, array_stops)

pub read_value-returns-in_err-pairs-in-Map : goal.read_value-returns-in_err-pairs-in-Map
read_value-returns-in_err-pairs-in-Map t c =
    let takes = subst (λ i. TakesItem (5 - c.args.level) c.args.cursor.now c.item.new.self (to_part i)) c.in-Map.is
    c.in_ok-item.ensures.takes in
    let p = err_from_is_err_and c.from_residual-in_err-pairs-in-Map.result c.from_residual-in_err-pairs-in-Map.ensures.1
    in
    let f = c.in_err-pairs-in-Map.field-0.0 in
    rw (p.1, p.2) (unless_memory_by f _ _ (map_stops c.args.level c.in-Map.count c.args.cursor.now c.item.new.self
    c.read_pairs.new.cursor f.at f.kind takes) c.in_err-pairs-in-Map.ensures)

pub read_value-returns-in_ok-value-in_default : goal.read_value-returns-in_ok-value-in_default
read_value-returns-in_ok-value-in_default t c = scalar_passes (5 - c.args.level) c.args.cursor.now c.item.new.self
    c.in_ok-item.item (to_tree c.in_ok-value-in_default.value) c.in_default.not-Array c.in_default.not-Map
    c.in_ok-item.ensures.takes c.in_ok-value-in_default.ensures

-- ---- the items of an array

pub read_items-loop-done-preserved : goal.read_items-loop-done-preserved
read_items-loop-done-preserved t c =
    rw c.in_ok-push.ensures.items (item_more (5 - c.args.level) c.loop-done.done c.loop-done.items.items
    c.in_ok-item.item c.args.cursor.now c.loop-done.cursor c.read_value.new.cursor c.loop-done.invariant
    c.in_ok-item.ensures)

pub read_items-returns-in_err-item : goal.read_items-returns-in_err-item
read_items-returns-in_err-item t c =
    let p = err_from_is_err_and c.from_residual.result c.from_residual.ensures.1 in
    let f = c.in_err-item.field-0.0 in
    rw (p.1, p.2) (unless_memory_by f _ _ (item_stops (5 - c.args.level) c.args.count c.loop-done.done
    (to_trees c.loop-done.items.items) c.args.cursor.now c.loop-done.cursor c.read_value.new.cursor f.at f.kind
    c.loop-done-test.true c.loop-done.invariant) c.in_err-item.ensures)

-- ---- the pairs of a map

pub read_pairs-loop-done-preserved : goal.read_pairs-loop-done-preserved
read_pairs-loop-done-preserved t c =
    rw c.in_ok-push.ensures.items (pair_more (5 - c.args.level) c.loop-done.done c.loop-done.pairs.items
    c.in_ok-name.name c.in_ok-value.value (option_copied c.loop-done.previous) c.args.cursor.now c.loop-done.cursor
    c.key.new.self c.read_value.new.cursor (to_part c.in_ok-key.key.item) c.in_ok-key.key.bytes.now
    c.loop-done.invariant c.in_ok-key.ensures.gives c.in_ok-name.ensures c.in_ok-value.ensures)

pub read_pairs-returns-in_err-key : goal.read_pairs-returns-in_err-key
read_pairs-returns-in_err-key t c =
    let p = err_from_is_err_and c.from_residual.result c.from_residual.ensures.1 in
    let f = c.in_err-key.field-0.0 in
    let last = option_copied c.loop-done.previous in
    let h = c.in_err-key.ensures.gives in
    rw (p.1, p.2) (unless_memory f _ (refuses_not_memory 0 (AKey last) c.loop-done.cursor c.key.new.self f.at f.kind h)
    (key_stops (5 - c.args.level) c.args.count c.loop-done.done (to_pairs c.loop-done.pairs.items) last
    c.args.cursor.now c.loop-done.cursor c.key.new.self f.at f.kind c.loop-done-test.true c.loop-done.invariant h))

pub read_pairs-returns-in_err-value : goal.read_pairs-returns-in_err-value
read_pairs-returns-in_err-value t c =
    let p = err_from_is_err_and c.from_residual-in_err-value.result c.from_residual-in_err-value.ensures.1 in
    let f = c.in_err-value.field-0.0 in
    rw (p.1, p.2) (unless_memory_by f _ _ (value_stops (5 - c.args.level) c.args.count c.loop-done.done
    (to_pairs c.loop-done.pairs.items) (option_copied c.loop-done.previous) c.args.cursor.now c.loop-done.cursor
    c.key.new.self c.read_value.new.cursor (to_part c.in_ok-key.key.item) c.in_ok-key.key.bytes.now f.at f.kind
    c.loop-done-test.true c.loop-done.invariant c.in_ok-key.ensures.gives) c.in_err-value.ensures)
