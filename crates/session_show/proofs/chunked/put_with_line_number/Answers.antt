use Rattle.std.proofs.Common.{◌≡◌, ◌++◌, ◌∷◌, [], decimal, subst, arith}
use Rattle.session_log.specs.Lines.{WritesAll}
use Rattle.session_show.proofs.Told.{numbered_on}
use Rattle.session_show.proofs.chunked.put_with_line_number.Goals as goal

pub returns : goal.returns
returns g c =
    let taken = g.T.Target.taken in
    let failed = g.T.Target.failed in
    let front : c.as_slice.result.now ≡ decimal c.args.number ++ 32 ∷ [] = search arith in
    numbered_on taken failed c.args.writer.now c.put_all.new.writer c.put_chunks.new.writer c.args.number []
    c.put_chunks.result
    (subst (WritesAll taken failed (c.args.writer.now, c.put_all.new.writer)) front c.in_ok-put_all.ensures)
    c.put_chunks.ensures
