use Rattle.std.proofs.Common.{sym, rules}
use Rattle.authn_core.proofs.Kept.{data_signed}
use Rattle.authn_core.proofs.authenticator.Core.on_assert_signature.Goals as goal

pub slice_bounds-data-end : goal.slice_bounds-data-end
slice_bounds-data-end g c = let kept = data_signed _ c.as_slice.ensures.value c.requires in sym (rw kept c.requires.len)

pub write_assertion-requires-clause-auth : goal.write_assertion-requires-clause-auth
write_assertion-requires-clause-auth g c = let kept = data_signed _ c.as_slice.ensures.value c.requires in
    rw kept c.requires.len

pub returns : goal.returns
returns g c =
    let kept = data_signed _ c.as_slice.ensures.value c.requires in
    let answered = rw kept at c.write_assertion.ensures in search rules
