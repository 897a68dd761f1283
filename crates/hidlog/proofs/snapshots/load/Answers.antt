use Rattle.std.proofs.Common.{refl, sym, []}
use Rattle.session_log.proofs.SemanticsLaws.{begins}
use Rattle.hidlog.proofs.snapshots.load.Goals as goal

pub returns-in_default-clause-begins : goal.returns-in_default-clause-begins
returns-in_default-clause-begins g c = ([], rw c.in_default.is refl, begins c.args.session.now _ c.requires.fresh)

pub returns-in-Ok-load-clause-begins : goal.returns-in-Ok-load-clause-begins
returns-in-Ok-load-clause-begins g c =
    let e = c.in-Ok-load.ensures.value in
    (e.0, rw c.in-Some.is (_, c.in-Ok.ensures, rw (sym c.deref.ensures.value) e.1), begins c.load.new.self _ e.2)
