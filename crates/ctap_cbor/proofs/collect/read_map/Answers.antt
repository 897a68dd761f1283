use Rattle.std.proofs.Common.{◌+◌, ◌-◌, ◌&&◌, refl, arith, ◌≡◌, subst}
use Rattle.std.{proofs.lemmas.Result.err_from_is_err_and, specs.Option.option_copied}
use Rattle.ctap_cbor.{specs.Views.to_part, specs.Reading.TakesItem, specs.Reading.AddsPairs, proofs.Moves.map_stops}
use Rattle.ctap_cbor.proofs.Moves.{adds_none, adds_more, value_ends, map_read}
use Rattle.ctap_cbor.proofs.collect.read_map.Goals as goal

pub loop-done-init : goal.loop-done-init
loop-done-init g c = adds_none g.M.Members.Holds (5 - (c.args.level + 1)) c.args.members.now c.item.new.self

pub loop-done-preserved : goal.loop-done-preserved
loop-done-preserved g c =
    adds_more g.M.Members.Holds (5 - (c.args.level + 1)) c.loop-done.done (option_copied c.loop-done.previous)
    c.loop-done.ok c.in_ok-taken.taken (c.loop-done.ok && c.in_ok-taken.taken) c.args.members.now
    c.loop-done.members c.member.new.self c.item.new.self c.loop-done.cursor c.key.new.self c.member.new.cursor
    (to_part c.in_ok-key.key.item) c.in_ok-key.key.bytes.now c.loop-done.invariant c.in_ok-key.ensures.gives
    c.in_ok-taken.ensures refl

pub returns-in_err-key : goal.returns-in_err-key
returns-in_err-key g c = grind (arith, map_stops)

pub returns-in_err-taken : goal.returns-in_err-taken
returns-in_err-taken g c =
    let p = err_from_is_err_and c.from_residual-in_err-taken.result c.from_residual-in_err-taken.ensures.1 in
    let takes = subst (λ i. TakesItem (5 - c.args.level) c.args.cursor.now c.item.new.self (to_part i)) c.in-Map.is
    c.in_ok-other.ensures.takes in
    rw (p.1, p.2) (map_stops c.args.level c.in-Map.count c.args.cursor.now c.item.new.self c.member.new.cursor
    c.in_err-taken.field-0.0.at c.in_err-taken.field-0.0.kind takes
    (value_ends g.M.Members.Holds (5 - (c.args.level + 1)) c.in-Map.count c.loop-done.done
    (option_copied c.loop-done.previous) c.loop-done.ok c.args.members.now c.loop-done.members c.item.new.self
    c.loop-done.cursor c.key.new.self c.member.new.cursor (to_part c.in_ok-key.key.item) c.in_ok-key.key.bytes.now
    c.in_err-taken.field-0.0.at c.in_err-taken.field-0.0.kind c.loop-done-test.true c.loop-done.invariant
    c.in_ok-key.ensures.gives c.in_err-taken.ensures))

pub returns : goal.returns
returns g c =
    let e : c.loop-done.done ≡ c.in-Map.count = omega arith in
    let takes = subst (λ i. TakesItem (5 - c.args.level) c.args.cursor.now c.item.new.self (to_part i)) c.in-Map.is
    c.in_ok-other.ensures.takes in
    map_read g.M.Members.Holds c.args.level c.in-Map.count (option_copied c.loop-done.previous) c.loop-done.ok
    c.args.members.now c.loop-done.members c.args.cursor.now c.item.new.self c.loop-done.cursor takes
    (subst (λ n. AddsPairs g.M.Members.Holds (5 - (c.args.level + 1)) n (option_copied c.loop-done.previous)
    c.loop-done.ok c.args.members.now c.loop-done.members c.item.new.self c.loop-done.cursor) e
    c.loop-done.invariant)
