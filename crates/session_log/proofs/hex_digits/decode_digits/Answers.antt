use Rattle.std.proofs.Common.{◌/◌, arith, length, ap, sym, ◌∙◌, Some, ℕ, ◌*◌}
use Rattle.session_log.proofs.Decoding.{group_refused, group_decoded, all_decoded, and_rest, sized, none_read}
use Rattle.std.proofs.lemmas.Slice.{take-put_mid}
use Rattle.std.proofs.lemmas.List.{length-take, length-drop, take_all}
use Rattle.std.proofs.lemmas.Grind.{common_steps}
use Rattle.std.specs.Result.{result_ok}
use Rattle.session_log.proofs.hex_digits.decode_digits.Goals as goal

pub loop-group-init : goal.loop-group-init
loop-group-init c = (omega arith, none_read)

pub returns-in_err-decode_group : goal.returns-in_err-decode_group
returns-in_err-decode_group c =
    let refused = group_refused c.args.digits.now _ c.loop-group.done
    (omega (arith, c.loop-group.invariant.0, c.loop-group.auto.bytes, c.if-digits-bytes.false)) c.loop-group.invariant.1
    c.in-Some.group.now c.in-Some.ensures.cases c.in_err-decode_group.ensures in
    rw c.from_residual.ensures (ap result_ok (sized c.args.digits.now _ c.if-digits-bytes.false) ∙ refused)

pub loop-group-preserved : goal.loop-group-preserved
loop-group-preserved c =
    let fits = c.loop-group.invariant.0 in
    let decoded = group_decoded c.args.digits.now _ c.loop-group.done
    (omega (arith, fits, c.loop-group.auto.bytes, c.if-digits-bytes.false)) c.loop-group.invariant.1
    c.in-Some.group.now c.in-Some.ensures.cases c.in_ok-decode_group.field-0 c.in_ok-decode_group.ensures in (
      grind (arith, common_steps, take-put_mid),
      decoded ∙ search (arith, take-put_mid, c.copy_from_slice.ensures.after, c.copy_from_slice.ensures.len),
    )

pub returns-then-done-bytes : goal.returns-then-done-bytes
returns-then-done-bytes c =
    let all = all_decoded c.args.digits.now _ c.loop-group.done
    (omega (arith, c.loop-group.invariant.0, c.loop-group.auto.bytes, c.if-digits-bytes.false)) c.loop-group.invariant.1
    (length c.args.bytes.now) c.if-digits-bytes.false (c.if-done-bytes.true ∙ c.loop-group.auto.bytes) in
    all ∙ ap Some (take_all c.loop-group.done c.loop-group.bytes (omega (arith, c.if-done-bytes.true)))

pub returns : goal.returns
returns c =
    and_rest c.args.digits.now c.loop-group.bytes c.decode_rest.new.bytes c.loop-group.done _ (length c.args.bytes.now)
    c.decode_rest.result c.if-digits-bytes.false (sym c.loop-group.auto.bytes) c.loop-group.invariant.0
    (search (arith, length-take, length-drop)) c.loop-group.invariant.1 c.decode_rest.ensures
