use Rattle.std.proofs.Common.{◌≡◌, ◌++◌}
use Rattle.cred_table.{specs.Rows.discoverable_rows, specs.Rows.ids, specs.Slots.rows_in, proofs.Listing.listed_left}
use Rattle.cred_table.proofs.chained.ChainedTable.rows_of.Given as goal

-- what was written, and what the slots that are left list
abbrev pub invariant-loop-slot : goal.invariant-loop-slot
invariant-loop-slot g l = l.out.items ++ listed_left l.rp l.slot-iterator ≡ ids (discoverable_rows l.rp (rows_in l.self.chains))
