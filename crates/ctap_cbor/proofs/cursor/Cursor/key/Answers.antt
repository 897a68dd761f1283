use Rattle.std.proofs.Common.{arith, ap, take, ◌≡◌, ◌∙◌}
use Rattle.std.specs.Option.{option_copied}
use Rattle.ctap_cbor.specs.{Views.to_part, Reading.comparison_steps, Items.AKey, Items.is_above}
use Rattle.ctap_cbor.proofs.cursor.Cursor.key.Goals.{in-None, in-Some}
use Rattle.ctap_cbor.proofs.Cursors.{key_taken, key_below, key_refused, key_given, key_not_given}
use Rattle.ctap_cbor.proofs.cursor.Cursor.key.Goals as goal

pub returns-then-is_above-clause-gives : goal.returns-then-is_above-clause-gives
returns-then-is_above-clause-gives c =
    let steps : c.match-previous.is_above.1 ≡ comparison_steps (option_copied c.args.previous) c.in-Ok.len =
    elim c.match-previous.branch [ in-None w ↦ grind (arith, w.in-None.is, w.is_above-is) | in-Some w ↦ grind (arith, w.in-Some.is, w.is_above-is, w.cmp.ensures, w.is_lt.ensures) ] in
    let order : is_above (AKey (option_copied c.args.previous)) (take c.in-Ok.len c.rest-rest.result.now) ≡ c.match-previous.is_above.0 =
    elim c.match-previous.branch [ in-None w ↦ grind (arith, w.in-None.is, w.is_above-is) | in-Some w ↦ grind (arith, w.in-Some.is, w.is_above-is, w.cmp.ensures, w.is_lt.ensures) ] in
    key_taken c.args.self.now c.pass.new.self (option_copied c.args.previous) c.rest-rest.result.now
    (to_part c.in-Ok.item) c.in-Ok.len c.match-previous.is_above.1 c.rest-rest.ensures.rest c.rest-rest.ensures.bytes
    c.in-Ok.ensures steps c.pass.ensures (order ∙ c.if-is_above.true)

pub returns-then-is_above-clause-exact : goal.returns-then-is_above-clause-exact
returns-then-is_above-clause-exact c = key_given _ _ _ _ _ (returns-then-is_above-clause-gives c)

pub returns-else-is_above-clause-gives : goal.returns-else-is_above-clause-gives
returns-else-is_above-clause-gives c =
    let steps : c.match-previous.is_above.1 ≡ comparison_steps (option_copied c.args.previous) c.in-Ok.len =
    elim c.match-previous.branch [ in-None w ↦ grind (arith, w.in-None.is, w.is_above-is) | in-Some w ↦ grind (arith, w.in-Some.is, w.is_above-is, w.cmp.ensures, w.is_lt.ensures) ] in
    let order : is_above (AKey (option_copied c.args.previous)) (take c.in-Ok.len c.rest-rest.result.now) ≡ c.match-previous.is_above.0 =
    elim c.match-previous.branch [ in-None w ↦ grind (arith, w.in-None.is, w.is_above-is) | in-Some w ↦ grind (arith, w.in-Some.is, w.is_above-is, w.cmp.ensures, w.is_lt.ensures) ] in
    key_below c.args.self.now c.pass.new.self (option_copied c.args.previous) c.self.inside.place c.rest-rest.result.now
    (to_part c.in-Ok.item) c.in-Ok.len c.match-previous.is_above.1 c.rest-rest.ensures.rest c.in-Ok.ensures steps c.pass.ensures
    (order ∙ c.if-is_above.false) (ap (λ r. r.place) c.self.view_is)

pub returns-else-is_above-clause-exact : goal.returns-else-is_above-clause-exact
returns-else-is_above-clause-exact c = key_not_given _ _ _ _ _ (returns-else-is_above-clause-gives c)

pub returns-in-Err-clause-gives : goal.returns-in-Err-clause-gives
returns-in-Err-clause-gives c = key_refused c.args.self.now c.pass-in-Err.new.self (option_copied c.args.previous)
    c.self.inside.place c.rest-rest.result.now c.in-Err.kind c.in-Err.len c.end_steps.result c.rest-rest.ensures.rest
    c.in-Err.ensures c.end_steps.ensures c.pass-in-Err.ensures (ap (λ r. r.place) c.self.view_is)

pub returns-in-Err-clause-exact : goal.returns-in-Err-clause-exact
returns-in-Err-clause-exact c = key_not_given _ _ _ _ _ (returns-in-Err-clause-gives c)
