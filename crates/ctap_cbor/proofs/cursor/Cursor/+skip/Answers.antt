use Rattle.std.proofs.Common.{arith, subst, ◌≡◌, ◌+◌, ◌-◌}
use Rattle.std.specs.Option.{option_copied}
use Rattle.ctap_cbor.specs.{Views.to_part, Reading.PassesAll, Reading.PassesPairs}
use Rattle.ctap_cbor.proofs.{Moves.passes_none, Moves.passes_more, Moves.pairs_none, Parsing.only_halts, Parsing.only_matches}
use Rattle.ctap_cbor.proofs.Moves.{array_whole, array_stops, map_whole, map_stops, plain_passes, given_more, item_stops, key_stops, value_stops}
use Rattle.ctap_cbor.proofs.cursor.Cursor.+skip.Goals as goal

-- ---- an item

pub skip-returns-in_err-item-clause-only : goal.skip-returns-in_err-item-clause-only
skip-returns-in_err-item-clause-only t c = grind (arith, only_halts)

pub skip-returns-clause-only : goal.skip-returns-clause-only
skip-returns-clause-only t c = only_matches (5 - c.args.level) (to_part c.in_ok-item.item) c.args.self.now
    c.skip_content.new.self c.skip_content.result (c.skip_content.ensures.passes c.args.self.now c.in_ok-item.ensures.takes)

pub skip_content-loop-done-init : goal.skip_content-loop-done-init
skip_content-loop-done-init t c = (_, passes_none (5 - (c.args.level + 1)) c.args.self.now)

pub skip_content-loop-done-preserved : goal.skip_content-loop-done-preserved
skip_content-loop-done-preserved t c = (
  _,
  passes_more (5 - (c.args.level + 1)) c.loop-done.done c.loop-done.invariant.0
      c.in_ok-skip-in-Array.ensures.passes.0 c.args.self.now c.loop-done.self c.skip.new.self c.loop-done.invariant.1 c.in_ok-skip-in-Array.ensures.passes.1,
)

pub skip_content-returns-in_err-skip-in-Array-clause-passes : goal.skip_content-returns-in_err-skip-in-Array-clause-passes
skip_content-returns-in_err-skip-in-Array-clause-passes t c = rw c.in-Array.is (λ start takes.
    let stops = array_stops c.args.level c.in-Array.count start c.args.self.now c.skip.new.self _ _ takes
    (item_stops (5 - (c.args.level + 1)) c.in-Array.count c.loop-done.done c.loop-done.invariant.0 c.args.self.now
    c.loop-done.self c.skip.new.self _ _ c.loop-done-test.true c.loop-done.invariant.1 c.in_err-skip-in-Array.ensures.passes) in
    grind arith)

pub skip_content-returns-after-loop-done-clause-passes : goal.skip_content-returns-after-loop-done-clause-passes
skip_content-returns-after-loop-done-clause-passes t c = rw c.in-Array.is (λ start takes.
    let all : c.loop-done.done ≡ c.in-Array.count = omega arith in
    array_whole c.args.level c.in-Array.count c.loop-done.invariant.0 start c.args.self.now c.loop-done.self takes
    (subst (λ n. PassesAll (5 - (c.args.level + 1)) n c.loop-done.invariant.0 c.args.self.now c.loop-done.self) all
    c.loop-done.invariant.1))

pub skip_content-loop-done-2-init : goal.skip_content-loop-done-2-init
skip_content-loop-done-2-init t c = (_, pairs_none (5 - (c.args.level + 1)) c.args.self.now)

pub skip_content-loop-done-2-preserved : goal.skip_content-loop-done-2-preserved
skip_content-loop-done-2-preserved t c =
    let passed = c.loop-done-2.invariant in (
      _,
      given_more (5 - (c.args.level + 1)) c.loop-done-2.done passed.0 c.in_ok-skip-in-Map.ensures.passes.0 (option_copied c.loop-done-2.previous)
          c.args.self.now c.loop-done-2.self c.key.new.self c.skip-in-loop-done-2.new.self (to_part c.in_ok-key-in-Map.key.item)
          c.in_ok-key-in-Map.key.bytes.now passed.1 c.in_ok-key-in-Map.ensures.gives c.in_ok-skip-in-Map.ensures.passes.1,
    )

pub skip_content-returns-in_err-key-in-Map-clause-passes : goal.skip_content-returns-in_err-key-in-Map-clause-passes
skip_content-returns-in_err-key-in-Map-clause-passes t c = rw c.in-Map.is (λ start takes.
    let stops = map_stops c.args.level c.in-Map.count start c.args.self.now c.key.new.self _ _ takes
    (key_stops (5 - (c.args.level + 1)) c.in-Map.count c.loop-done-2.done c.loop-done-2.invariant.0
    (option_copied c.loop-done-2.previous) c.args.self.now c.loop-done-2.self c.key.new.self _ _ c.loop-done-2-test.true
    c.loop-done-2.invariant.1 c.in_err-key-in-Map.ensures.gives) in
    grind arith)

pub skip_content-returns-in_err-skip-in-Map-clause-passes : goal.skip_content-returns-in_err-skip-in-Map-clause-passes
skip_content-returns-in_err-skip-in-Map-clause-passes t c = rw c.in-Map.is (λ start takes.
    let stops = map_stops c.args.level c.in-Map.count start c.args.self.now c.skip-in-loop-done-2.new.self _ _ takes
    (value_stops (5 - (c.args.level + 1)) c.in-Map.count c.loop-done-2.done c.loop-done-2.invariant.0
    (option_copied c.loop-done-2.previous) c.args.self.now c.loop-done-2.self c.key.new.self c.skip-in-loop-done-2.new.self
    (to_part c.in_ok-key-in-Map.key.item) c.in_ok-key-in-Map.key.bytes.now _ _ c.loop-done-2-test.true
    c.loop-done-2.invariant.1 c.in_ok-key-in-Map.ensures.gives c.in_err-skip-in-Map.ensures.passes) in
    grind arith)

pub skip_content-returns-after-loop-done-2-clause-passes : goal.skip_content-returns-after-loop-done-2-clause-passes
skip_content-returns-after-loop-done-2-clause-passes t c = rw c.in-Map.is (λ start takes.
    let all : c.loop-done-2.done ≡ c.in-Map.count = omega arith in
    map_whole c.args.level c.in-Map.count c.loop-done-2.invariant.0 _ start c.args.self.now c.loop-done-2.self takes
    (subst (λ n. PassesPairs (5 - (c.args.level + 1)) n c.loop-done-2.invariant.0 (option_copied c.loop-done-2.previous)
    c.args.self.now c.loop-done-2.self) all c.loop-done-2.invariant.1))

pub skip_content-returns-in_default-clause-passes : goal.skip_content-returns-in_default-clause-passes
skip_content-returns-in_default-clause-passes t c = grind (arith, plain_passes)
