use Rattle.std.proofs.Common.{◌+◌, ◌-◌}
use Rattle.ctap_cbor.specs.Reading.{AddsEntries}
use Rattle.ctap_cbor.proofs.collect.read_array.Given as goal

abbrev pub invariant-loop-done : goal.invariant-loop-done
invariant-loop-done g l = AddsEntries g.M.Entries.HoldsAll (5 - (l.level + 1)) l.done l.ok l.fn.entries l.entries
    l.initial.cursor l.cursor
