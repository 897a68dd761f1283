use Rattle.std.{proofs.Common.◌+◌, proofs.Common.◌-◌, proofs.Common.◌*◌, specs.Option.option_copied}
use Rattle.ctap_cbor.specs.{Values.to_trees, Values.to_pairs, Reading.PassesAll, Reading.PassesPairs}
use Rattle.ctap_cbor.proofs.decode.+value.Given as goal

abbrev pub decreases-read_value : goal.decreases-read_value
decreases-read_value l = 2 * (5 - l.level)

abbrev pub decreases-read_items : goal.decreases-read_items
decreases-read_items l = 2 * (5 - l.level) + 1

abbrev pub decreases-read_pairs : goal.decreases-read_pairs
decreases-read_pairs l = 2 * (5 - l.level) + 1

abbrev pub invariant-read_items-loop-done : goal.invariant-read_items-loop-done
invariant-read_items-loop-done l = PassesAll (5 - l.level) l.done (to_trees l.items.items) l.fn.cursor l.cursor

abbrev pub invariant-read_pairs-loop-done : goal.invariant-read_pairs-loop-done
invariant-read_pairs-loop-done l = PassesPairs (5 - l.level) l.done (to_pairs l.pairs.items) (option_copied l.previous)
    l.fn.cursor l.cursor
