use Rattle.std.proofs.lemmas.Result.{err_from_is_err_and}
use Rattle.ctap_cbor.specs.Values.{to_tree}
use Rattle.ctap_cbor.proofs.Outcomes.{unless_memory_by, stopped_outcome, longer_outcome}
use Rattle.ctap_cbor.proofs.decode.decode_value.Goals as goal

pub returns-in_err-value-clause-err : goal.returns-in_err-value-clause-err
returns-in_err-value-clause-err c =
    let p = err_from_is_err_and c.from_residual.result c.from_residual.ensures.1 in
    let f = c.in_err-value.field-0.0 in
    rw (p.1, p.2) (unless_memory_by f _ _ (stopped_outcome c.args.bytes.now c.new-cursor.result c.read_value.new.cursor f
    c.new-cursor.ensures) c.in_err-value.ensures)

pub returns-in_err-end-clause-err : goal.returns-in_err-end-clause-err
returns-in_err-end-clause-err c =
    let p = err_from_is_err_and c.from_residual-in_err-end.result c.from_residual-in_err-end.ensures.1 in
    let f = c.in_err-end.field-0.0 in
    rw (p.1, p.2) (longer_outcome c.args.bytes.now c.new-cursor.result c.read_value.new.cursor c.end.new.self f
    (to_tree c.in_ok-value.value) c.new-cursor.ensures c.in_ok-value.ensures c.in_err-end.ensures)
