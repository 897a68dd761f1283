use Rattle.std.{proofs.Common.◌+◌, proofs.Common.◌-◌, proofs.Common.◌*◌, specs.Option.option_copied}
use Rattle.ctap_cbor.specs.{Tree.Trees, Tree.Pairs, Reading.PassesAll, Reading.PassesPairs}
use Rattle.ctap_cbor.proofs.cursor.Cursor.+skip.Given as goal

abbrev pub decreases-skip : goal.decreases-skip
decreases-skip l = 2 * (5 - l.level) + 1

abbrev pub decreases-skip_content : goal.decreases-skip_content
decreases-skip_content l = 2 * (5 - l.level)

abbrev pub invariant-skip_content-loop-done : goal.invariant-skip_content-loop-done
invariant-skip_content-loop-done l = (ts : Trees) × PassesAll (5 - (l.level + 1)) l.done ts l.fn.self l.self

abbrev pub invariant-skip_content-loop-done-2 : goal.invariant-skip_content-loop-done-2
invariant-skip_content-loop-done-2 l = (ps : Pairs) × PassesPairs (5 - (l.level + 1)) l.done ps (option_copied l.previous)
    l.fn.self l.self
