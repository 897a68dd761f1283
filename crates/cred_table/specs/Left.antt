-- The rows of a table that an iterator has not returned yet.
use Rattle.std.specs.{Prelude.List, Prelude.map, Slice.Iter.iter_rest}
use Rattle.cred_table.specs.declared.row.Row.{Row}
use Rattle.cred_table.specs.declared.rows.RowsLeft.{RowsLeft, TheVariants.Listed, TheVariants.Chained}

-- The rows that an iterator has not returned yet.
abbrev pub rows_left : RowsLeft → List Row
rows_left (Listed rows) = iter_rest rows
rows_left (Chained walk) = map (λ item. item.1.row) walk
