use Rattle.std.proofs.Common.{◌≡◌, ◌∙◌, refl, rules, arith}
use Rattle.cred_table.specs.Rows.{ids}
use Rattle.ctap_message.specs.{Members.has_entries, Members.ids_of, DescriptorWalk.left_of}
use Rattle.authn_core.{specs.Turn.applicable_rows, proofs.Histories.applicable_there}
use Rattle.authn_core.proofs.authenticator.Core.begin_assert.Goals as goal

pub invariant_of-self : goal.invariant_of-self
invariant_of-self g c = grind (arith, applicable_there)

pub returns : goal.returns
returns g c =
    let allow = left_of c.args.asked.allow in
    let found : c.as_slice-ids.result.now ≡ ids (applicable_rows (g.T.Table.rows c.self.inside.table) c.digest-rp.result
    (has_entries allow) (ids_of allow)) = c.as_slice-ids.ensures.value ∙ c.collect_applicable.ensures in
    let begun = c.begin_pending_assertion.ensures c.as_slice-ids.result.now
    (record { are = c.fill.ensures; counted = refl; few = grind arith }) in
    let named = rw found at begun in search rules
