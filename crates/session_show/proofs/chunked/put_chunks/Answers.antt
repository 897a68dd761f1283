use Rattle.std.proofs.Common.{Ok, Err, sym, subst, ◌∙◌, ap, ◌≡◌}
use Rattle.std.proofs.lemmas.Result.{err_from_is_err_and}
use Rattle.session_log.specs.declared.fault.Failed.{Failed}
use Rattle.session_show.{specs.Shown.Writes, proofs.Told.puts_on}
use Rattle.session_show.proofs.chunked.put_chunks.Goals as goal

pub returns-in_err-put_all : goal.returns-in_err-put_all
returns-in_err-put_all g c =
    let taken = g.T.Target.taken in
    let failed = g.T.Target.failed in
    let before = c.parts.invariant in
    let e = c.in_err-put_all.field-0.0 in
    let r = c.from_residual.result in
    let from = err_from_is_err_and r c.from_residual.ensures.1 in
    let is : r ≡ Err e = from.1 ∙ ap (λ (f : Failed). Err f) from.2 in
    subst (Writes taken failed (c.args.writer.now, c.put_all.new.writer)) (sym is)
    (puts_on taken failed c.args.writer.now c.parts.writer c.put_all.new.writer c.part.result.now (Err e) before.text
    before.failures c.in_err-put_all.ensures)

pub parts-preserved : goal.parts-preserved
parts-preserved g c =
    let before = c.parts.invariant in
    let after = puts_on g.T.Target.taken g.T.Target.failed c.args.writer.now c.parts.writer c.put_all.new.writer
    c.part.result.now (Ok tt) before.text before.failures c.in_ok-put_all.ensures in
    record { text = after.0; failures = after.1 }

pub returns-then-not-is_full : goal.returns-then-not-is_full
returns-then-not-is_full g c =
    let before = c.parts.invariant in
    puts_on g.T.Target.taken g.T.Target.failed c.args.writer.now c.parts.writer c.put_all.new.writer c.part.result.now
    (Ok tt) before.text before.failures c.in_ok-put_all.ensures
