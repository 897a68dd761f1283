use Rattle.std.{proofs.Common.◌+◌, proofs.Common.◌-◌, specs.Option.option_copied}
use Rattle.ctap_cbor.specs.Reading.{AddsPairs}
use Rattle.ctap_cbor.proofs.collect.read_map.Given as goal

abbrev pub invariant-loop-done : goal.invariant-loop-done
invariant-loop-done g l = AddsPairs g.M.Members.Holds (5 - (l.level + 1)) l.done (option_copied l.previous) l.ok
    l.fn.members l.members l.initial.cursor l.cursor
