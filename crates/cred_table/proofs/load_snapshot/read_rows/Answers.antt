use Rattle.cred_table.proofs.SavedRows.{rows_more}
use Rattle.cred_table.proofs.load_snapshot.read_rows.Goals as goal

pub loop-place-preserved : goal.loop-place-preserved
loop-place-preserved g c = rows_more c.args.named c.loop-place.place c.args.cursor.now c.loop-place.cursor
    c.read_entry.new.cursor c.loop-place.rows.list.items c.read_entry.new.rows.list.items c.loop-place.invariant
    (rw c.if-not-read_entry.false at c.read_entry.ensures)
