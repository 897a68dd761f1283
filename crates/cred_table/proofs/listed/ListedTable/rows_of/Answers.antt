use Rattle.std.proofs.Common.{arith, rules, sym, ◌∙◌}
use Rattle.std.specs.Slice.Iter.{iter_rest}
use Rattle.cred_table.proofs.Listing.{capacity_left, listed_taken, listed_passed}
use Rattle.cred_table.proofs.listed.ListedTable.rows_of.Goals as goal

pub push-requires : goal.push-requires
push-requires g c =
    let table = c.args.self.now in
    let listed = sym c.is_listed.ensures ∙ c.if-is_listed.true in (
      search rules,
      capacity_left c.args.rp.now table.list.items (iter_rest c.loop-row.row-iterator.iter)
          (iter_rest c.next.new.self.iter)
          c.in-Some.row.now c.loop-row.out.items g.row.C c.in-Some.ensures.steps listed c.loop-row.invariant
          table.lawful.few,
    )

pub loop-row-preserved : goal.loop-row-preserved
loop-row-preserved g c = grind (arith, listed_passed)

pub loop-row-preserved-then-is_listed : goal.loop-row-preserved-then-is_listed
loop-row-preserved-then-is_listed g c = grind (arith, listed_taken)
