use Rattle.std.proofs.Common.{sym, rules}
use Rattle.authn_core.proofs.Kept.{data_signed}
use Rattle.authn_core.proofs.authenticator.Core.on_make_signature.Goals as goal

pub slice_bounds-data-end : goal.slice_bounds-data-end
slice_bounds-data-end g c = let kept = data_signed _ c.as_slice.ensures.value c.requires.signed in
    sym (rw kept c.requires.signed.len)

pub write_created-requires-clause-auth : goal.write_created-requires-clause-auth
write_created-requires-clause-auth g c = let kept = data_signed _ c.as_slice.ensures.value c.requires.signed in
    rw kept c.requires.signed.len

pub returns : goal.returns
returns g c =
    let kept = data_signed _ c.as_slice.ensures.value c.requires.signed in
    let answered = rw kept at c.write_created.ensures in search rules
