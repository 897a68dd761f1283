use Rattle.std.proofs.Common.{true, sym, ap, ◌∙◌}
use Rattle.std.specs.Prelude.{Bool}
use Rattle.ctap_cbor.specs.{Outcome.canonical_tree, Outcome.outcome_of, Tree.Trees}
use Rattle.ctap_message.specs.{Members.map_of, Collected.typed, Fields.AssertionParameters, Fields.validated_assertion}
use Rattle.ctap_message.specs.Requests.{assertion_types, assertion_request}
use Rattle.ctap_message.specs.Collected.{assertion_in, to_assertion_parameters}
use Rattle.ctap_message.specs.RequestFaults.{assertion_fault_in, assertion_fault, fault_after}
use Rattle.ctap_message.proofs.Requests.{accepted, never, refused, told}
use Rattle.ctap_message.proofs.Requests.{checked_whole}
use Rattle.ctap_message.proofs.request.read_get_assertion.Goals as goal

pub returns-in-Err-clause-fault : goal.returns-in-Err-clause-fault
returns-in-Err-clause-fault c =
    let b = c.args.parameters.now in
    let first = refused b c.new-cursor.result c.read_whole.new.cursor c.in-Err.fault c.cursor_agrees_with_check.ensures
    c.new-cursor.ensures c.in-Err.ensures in
    ap (λ found. fault_after found (assertion_fault_in (canonical_tree b))) (sym first.fault_is)

pub returns-in-Err-clause-steps : goal.returns-in-Err-clause-steps
returns-in-Err-clause-steps c =
    let first = refused c.args.parameters.now c.new-cursor.result c.read_whole.new.cursor c.in-Err.fault
    c.cursor_agrees_with_check.ensures c.new-cursor.ensures c.in-Err.ensures in
    c.steps.ensures ∙ first.steps_are

pub unreachable-requires : goal.unreachable-requires
unreachable-requires c =
    let first = accepted c.args.parameters.now c.new-cursor.result c.read_whole.new.cursor c.cursor_agrees_with_check.ensures
    c.new-cursor.ensures c.in_default.ensures in
    never c.args.parameters.now c.read_whole.new.cursor c.rewind.new.self c.parse_get_assertion.new.cursor c.in-Err-parse_get_assertion.field-0
    c.cursor_agrees_with_check.ensures first (c.rewind.ensures ∙ first.back) c.in-Err-parse_get_assertion.ensures

pub returns-clause-request : goal.returns-clause-request
returns-clause-request c =
    let first = accepted c.args.parameters.now c.new-cursor.result c.read_whole.new.cursor c.cursor_agrees_with_check.ensures
    c.new-cursor.ensures c.in_default.ensures in
    let h = c.in-Ok.ensures in
    let t = told (typed (map_of assertion_types) assertion_in) c.args.parameters.now (c.in-Ok.typed, to_assertion_parameters c.in-Ok.assert)
    c.read_whole.new.cursor c.rewind.new.self h.0 c.parse_get_assertion.new.cursor c.cursor_agrees_with_check.ensures first
    (c.rewind.ensures ∙ first.back) h.1 h.2 in
    c.validate_get_assertion.ensures.request ∙ ap (λ (x : Bool × (AssertionParameters × Trees)). validated_assertion true x.0 x.1.0) t.value_is
    ∙ sym (ap assertion_request t.tree_is)

pub returns-clause-fault : goal.returns-clause-fault
returns-clause-fault c =
    let first = accepted c.args.parameters.now c.new-cursor.result c.read_whole.new.cursor c.cursor_agrees_with_check.ensures
    c.new-cursor.ensures c.in_default.ensures in
    let h = c.in-Ok.ensures in
    let t = told (typed (map_of assertion_types) assertion_in) c.args.parameters.now (c.in-Ok.typed, to_assertion_parameters c.in-Ok.assert)
    c.read_whole.new.cursor c.rewind.new.self h.0 c.parse_get_assertion.new.cursor c.cursor_agrees_with_check.ensures first
    (c.rewind.ensures ∙ first.back) h.1 h.2 in
    c.validate_get_assertion.ensures.fault ∙ ap (λ (x : Bool × (AssertionParameters × Trees)). assertion_fault x.0 x.1.0) t.value_is
    ∙ sym (checked_whole (outcome_of c.args.parameters.now) t.tree assertion_fault_in t.tree_is)

pub returns-clause-steps : goal.returns-clause-steps
returns-clause-steps c =
    let first = accepted c.args.parameters.now c.new-cursor.result c.read_whole.new.cursor c.cursor_agrees_with_check.ensures
    c.new-cursor.ensures c.in_default.ensures in
    let h = c.in-Ok.ensures in
    let t = told (typed (map_of assertion_types) assertion_in) c.args.parameters.now (c.in-Ok.typed, to_assertion_parameters c.in-Ok.assert)
    c.read_whole.new.cursor c.rewind.new.self h.0 c.parse_get_assertion.new.cursor c.cursor_agrees_with_check.ensures first
    (c.rewind.ensures ∙ first.back) h.1 h.2 in
    c.steps-in-Ok.ensures ∙ t.steps_are
