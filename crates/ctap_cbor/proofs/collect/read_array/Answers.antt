use Rattle.std.proofs.Common.{◌+◌, ◌-◌, ◌&&◌, refl, arith, ◌≡◌, subst}
use Rattle.ctap_cbor.{specs.Views.to_part, specs.Reading.TakesItem, specs.Reading.AddsEntries, proofs.Moves.array_stops}
use Rattle.ctap_cbor.proofs.Moves.{all_none, all_more, array_read}
use Rattle.ctap_cbor.proofs.collect.read_array.Goals as goal

pub loop-done-init : goal.loop-done-init
loop-done-init g c = all_none g.M.Entries.HoldsAll (5 - (c.args.level + 1)) c.args.entries.now c.item.new.self

pub loop-done-preserved : goal.loop-done-preserved
loop-done-preserved g c = all_more g.M.Entries.HoldsAll (5 - (c.args.level + 1)) c.loop-done.done c.loop-done.ok
    c.in_ok-taken.taken (c.loop-done.ok && c.in_ok-taken.taken) c.args.entries.now c.loop-done.entries c.entry.new.self
    c.item.new.self c.loop-done.cursor c.entry.new.cursor c.loop-done.invariant c.in_ok-taken.ensures refl

pub returns-in_err-taken : goal.returns-in_err-taken
returns-in_err-taken g c = grind (arith, array_stops)

pub returns : goal.returns
returns g c =
    let e : c.loop-done.done ≡ c.in-Array.count = omega arith in
    let takes = subst (λ i. TakesItem (5 - c.args.level) c.args.cursor.now c.item.new.self (to_part i)) c.in-Array.is
    c.in_ok-other.ensures.takes in
    array_read g.M.Entries.HoldsAll c.args.level c.in-Array.count c.loop-done.ok c.args.entries.now c.loop-done.entries
    c.args.cursor.now c.item.new.self c.loop-done.cursor takes
    (subst (λ n. AddsEntries g.M.Entries.HoldsAll (5 - (c.args.level + 1)) n c.loop-done.ok c.args.entries.now
    c.loop-done.entries c.item.new.self c.loop-done.cursor) e c.loop-done.invariant)
