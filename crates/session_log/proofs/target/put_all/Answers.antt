use Rattle.std.proofs.Common.{◌++◌, take, append_assoc, arith}
use Rattle.std.proofs.{lemmas.List.take-append-drop, KnownBytes.Appends-trans}
use Rattle.session_log.proofs.target.put_all.Goals as goal

pub loop-rest-preserved : goal.loop-rest-preserved
loop-rest-preserved g c =
    let before = c.loop-rest.invariant.done in
    let n = c.in-Ok.n in
    let cut = take-append-drop n c.loop-rest.rest.now in
    let all = Appends-trans _ _ _ _ _ before.2 c.in-Ok.ensures.bytes in
    record { same = search arith; done = (before.0 ++ take n c.loop-rest.rest.now, search (arith, append_assoc), all) }
