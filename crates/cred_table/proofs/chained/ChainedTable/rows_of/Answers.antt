use Rattle.std.proofs.Common.{rules, sym, ◌∙◌}
use Rattle.cred_table.{specs.Slots.rows_in, proofs.Listing.listed_begun, proofs.Listing.listed_capacity}
use Rattle.cred_table.proofs.chained.ChainedTable.rows_of.Goals as goal

pub loop-slot-init : goal.loop-slot-init
loop-slot-init g c =
    let table = c.args.self.now in
    listed_begun c.args.rp.now table.chains c.clear.new.self.items c.into_iter-slot-iterator.result c.clear.ensures
    (c.into_iter-slot-iterator.ensures.into_iter_gives ∙ c.newest_first-slot-items.ensures)

pub push-requires : goal.push-requires
push-requires g c =
    let table = c.args.self.now in
    let listed = sym c.is_listed.ensures ∙ c.if-is_listed.true in (
      search rules,
      listed_capacity c.args.rp.now c.in-Some.field-0-0 c.in-Some.slot.now c.loop-slot.slot-iterator c.next.new.self
          c.loop-slot.out.items (rows_in table.chains) g.row.C c.in-Some.ensures.steps listed c.loop-slot.invariant
          table.lawful.few,
    )
