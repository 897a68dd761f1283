use Rattle.std.proofs.Common.{◌<◌, ◌∙◌, [], length, arith, sym, subst, ap}
use Rattle.cred_table.specs.{declared.chains.Chains.Chains, Slots.Linked, Slots.rows_in}
use Rattle.cred_table.proofs.Filled.{fill, fill_code, within_back}
use Rattle.cred_table.proofs.chains.Chains.fill.Goals as goal

pub returns : goal.returns
returns g c =
    let chains = c.args.self.now in
    let bound : c.bucket-head.result < length chains.heads = omega (arith, c.bucket-head.ensures.bound) in
    let is = fill_code chains c.args.number c.args.row c.bucket-head.result c.from.result c.link_after-self.new.slots
    c.link_after-self.result c.requires c.bucket-head.ensures.value bound c.from.ensures c.link_after-self.ensures.slots
    c.link_after-self.ensures.start in
    let done = fill chains c.args.number c.args.row c.requires
    (subst (λ b. b < length chains.heads) c.bucket-head.ensures.value bound) in
    record { linked = subst (λ (after : Chains g.row.C). Linked [] after) (sym is) done.0; rows = ap rows_in is ∙ done.1 }

pub link_after-self-requires : goal.link_after-self-requires
link_after-self-requires g c = within_back c.args.self.now.slots c.from.result _ c.args.self.now.newest c.requires.back
