use Rattle.std.{proofs.Common.◌≡◌, proofs.Common.◌++◌, specs.Slice.Iter.iter_rest}
use Rattle.cred_table.specs.Rows.{discoverable_rows, ids}
use Rattle.cred_table.proofs.listed.ListedTable.rows_of.Given as goal

-- what was written, and what the rows that are left list
abbrev pub invariant-loop-row : goal.invariant-loop-row
invariant-loop-row g l = l.out.items ++ ids (discoverable_rows l.rp (iter_rest l.row-iterator.iter))
    ≡ ids (discoverable_rows l.rp l.self.list.items)
