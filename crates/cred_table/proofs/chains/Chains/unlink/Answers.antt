use Rattle.std.proofs.Common.{◌+◌, ◌∙◌, List, length, arith, ap}
use Rattle.cred_table.specs.declared.row.Row.{Row}
use Rattle.cred_table.proofs.Unlinked.{unlink_read, unlink_code, within_led, one_less}
use Rattle.cred_table.proofs.chains.Chains.unlink.Goals as goal

pub link_after-requires : goal.link_after-requires
link_after-requires g c =
    let u = unlink_read c.args.self.now c.args.number c.from.result c.bucket-head.result c.index-self-from.result
    c.before-before.result c.requires.linked c.requires.there c.from.ensures c.bucket-head.ensures.value
    (omega (arith, c.bucket-head.ensures.bound)) c.before-before.ensures in
    u.3

pub link_after-self-requires : goal.link_after-self-requires
link_after-self-requires g c =
    let u = unlink_read c.args.self.now c.args.number c.from.result c.bucket-head.result c.index-self-from.result
    c.before-before.result c.requires.linked c.requires.there c.from.ensures c.bucket-head.ensures.value
    (omega (arith, c.bucket-head.ensures.bound)) c.before-before.ensures in
    grind (arith, within_led, u)

pub link_after-self-requires-2 : goal.link_after-self-requires-2
link_after-self-requires-2 g c =
    let u = unlink_read c.args.self.now c.args.number c.from.result c.bucket-head.result c.index-self-from.result
    c.before-before.result c.requires.linked c.requires.there c.from.ensures c.bucket-head.ensures.value
    (omega (arith, c.bucket-head.ensures.bound)) c.before-before.ensures in
    grind (arith, within_led, u)

pub returns-clause-linked : goal.returns-clause-linked
returns-clause-linked g c =
    let u = unlink_read c.args.self.now c.args.number c.from.result c.bucket-head.result c.index-self-from.result
    c.before-before.result c.requires.linked c.requires.there c.from.ensures c.bucket-head.ensures.value
    (omega (arith, c.bucket-head.ensures.bound)) c.before-before.ensures in
    grind (arith, unlink_code, u)

pub returns-clause-rows : goal.returns-clause-rows
returns-clause-rows g c =
    let u = unlink_read c.args.self.now c.args.number c.from.result c.bucket-head.result c.index-self-from.result
    c.before-before.result c.requires.linked c.requires.there c.from.ensures c.bucket-head.ensures.value
    (omega (arith, c.bucket-head.ensures.bound)) c.before-before.ensures in
    grind (arith, unlink_code, u)

pub returns-clause-one_less : goal.returns-clause-one_less
returns-clause-one_less g c =
    ap (λ (l : List Row). length l + 1) (returns-clause-rows g c)
    ∙ one_less c.args.self.now c.args.number c.requires.linked c.requires.there
