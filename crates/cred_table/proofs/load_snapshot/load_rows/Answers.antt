use Rattle.std.proofs.lemmas.Grind.{common_steps}
use Rattle.std.proofs.Common.{arith, subst, sym}
use Rattle.std.specs.{Prelude.◌≡◌, Prelude.None, Prelude.IsTrue, List.find}
use Rattle.cred_table.specs.{declared.row.Row.Row, Rows.has_id, Rows.is_user}
use Rattle.cred_table.proofs.{Stored.no_clash, Stored.free_before}
use Rattle.cred_table.proofs.load_snapshot.load_rows.Goals as goal

pub put-requires : goal.put-requires
put-requires g c =
    let rows = g.T.Table.rows c.loop-row.table in
    let free = no_clash c.in-Some.row.now rows (free_before g.row.C c.args.rows.now.list.items rows c.in-Some.row.now
    c.loop-row.row-iterator c.next.new.self c.args.rows.now.lawful c.loop-row.invariant c.in-Some.ensures.steps) in
    let is = sym c.copy_row.ensures in
    record {
      capacity = grind (arith, common_steps);
      fresh = subst (λ (r : Row). find (has_id r.id) rows ≡ None) is free.0;
      alone = subst (λ (r : Row). IsTrue r.discoverable → find (is_user r.rp r.user.items) rows ≡ None) is free.1;
    }
