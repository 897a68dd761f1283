use Rattle.std.proofs.Common.{rules, arith, ◌+◌, ◌≤◌, length}
use Rattle.hidlog.proofs.Compared.{none_read, read_after}
use Rattle.hidlog.proofs.recent_bytes.RecentBytes.fill.Goals as goal

pub returns-clause-bytes : goal.returns-clause-bytes
returns-clause-bytes g c =
    rw c.drop_old.ensures.at (read_after _ _ c.drop_old.new.self.end c.in_ok-n.n _ c.in_ok-n.ensures.bytes)

pub returns-clause-end : goal.returns-clause-end
returns-clause-end g c = rw c.drop_old.ensures.at λ none.
    let held = c.read_after.new.held in
    let fits : c.drop_old.new.self.end + c.in_ok-n.n ≤ length held.items =
    omega (arith, held.ok.0, c.in_ok-n.ensures.bound) in
    c.in_ok-n.ensures.end (none_read c.drop_old.new.self.end c.in_ok-n.n held.items fits none) (search rules)
