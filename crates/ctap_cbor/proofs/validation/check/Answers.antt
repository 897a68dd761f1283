use Rattle.ctap_cbor.proofs.Outcomes.{found, only, ok_iff}
use Rattle.ctap_cbor.proofs.validation.check.Goals as goal

pub returns-clause-found : goal.returns-clause-found
returns-clause-found c = found c.args.bytes.now c.new-cursor.result c.read_whole-result.new.cursor
    c.read_whole-result.result c.steps.result c.new-cursor.ensures c.read_whole-result.ensures c.steps.ensures

pub returns-clause-only : goal.returns-clause-only
returns-clause-only c = only c.args.bytes.now c.read_whole-result.result c.steps.result c.byte_bounds.ensures
    (returns-clause-found c)

pub returns-clause-ok : goal.returns-clause-ok
returns-clause-ok c = ok_iff c.args.bytes.now c.read_whole-result.result c.steps.result c.byte_bounds.ensures
    (returns-clause-found c)
