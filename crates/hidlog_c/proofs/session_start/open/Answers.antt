use Rattle.std.proofs.Common.{◌≡◌, refl, ap, sym, List, ℕ, [], ◌∷◌, length}
use Rattle.std.proofs.lemmas.{Bool.eqb-true, Bool.eqb-false, List.nil_from_length}
use Rattle.std.specs.Prelude.{◌≢◌, Ok}
use Rattle.cred_table.specs.{declared.row.Row.Row, Snapshots.Loads}
use Rattle.session_log.proofs.SemanticsLaws.{begins}
use Rattle.hidlog_c.specs.{Begin.IsSnapshotOrEmpty, declared.capacity.TheConstants.CAPACITY}
use Rattle.hidlog_c.proofs.session_start.open.Goals as goal

opens_none : (s : List ℕ) → s ≡ [] → IsSnapshotOrEmpty s []
opens_none [] e = refl
opens_none (x ∷ s) e = cc

opens : (s : List ℕ) (rows : List Row) → s ≢ [] → Loads CAPACITY s (Ok tt) rows → IsSnapshotOrEmpty s rows
opens [] rows some l = absurd (some refl)
opens (x ∷ s) rows some l = l

pub returns-then-is_empty-clause-begins : goal.returns-then-is_empty-clause-begins
returns-then-is_empty-clause-begins c =
    let s : List ℕ = c.args.snapshot.now in
    let none : s ≡ [] = nil_from_length s (eqb-true (length s) 0 (sym c.if-is_empty.ensures)) in
    ([], opens_none s none, begins c.args.session.now _ c.requires.fresh)

pub returns-in-Ok-clause-begins : goal.returns-in-Ok-clause-begins
returns-in-Ok-clause-begins c =
    let s : List ℕ = c.args.snapshot.now in
    let e = c.in-Ok.ensures.value in (
      e.0,
      opens s e.0 (λ n. eqb-false (length s) 0 (sym c.if-is_empty.ensures) (ap length n)) e.1,
      begins c.load.new.self _ e.2,
    )
