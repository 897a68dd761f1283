use Rattle.std.proofs.Common.{Ok, subst}
use Rattle.ctap_cbor.specs.{Reading.TakesItem, Views.to_part, Views.ReadsItem}
use Rattle.ctap_message.proofs.Requests.{begins, no_fault, no_other}
use Rattle.ctap_message.proofs.descriptors.Descriptors.from_entries.Goals as goal

pub unreachable-requires : goal.unreachable-requires
unreachable-requires c = no_fault c.args.list.now c.requires.0 c.new-cursor.result c.item.new.self c.in_default.field-0
    c.requires.1 c.new-cursor.ensures c.in_default.ensures.only

pub unreachable-requires-in_default-item : goal.unreachable-requires-in_default-item
unreachable-requires-in_default-item c = no_other c.args.list.now c.requires.0 c.new-cursor.result c.item.new.self
    c.in-Ok.item c.requires.1 c.new-cursor.ensures c.in-Ok.ensures.only c.in_default-item.not-Array

pub invariant_of-result : goal.invariant_of-result
invariant_of-result c =
    let only = subst (λ i. ReadsItem 4 c.new-cursor.result c.item.new.self (Ok i)) c.in-Array.is c.in-Ok.ensures.only in
    let takes = subst (λ i. TakesItem 4 c.new-cursor.result c.item.new.self (to_part i)) c.in-Array.is c.in-Ok.ensures.takes
    in
    (begins c.outcomes_are_computed.ensures c.items_are_decoded.ensures c.args.list.now c.requires.0 c.new-cursor.result
    c.item.new.self c.in-Array.left c.byte_bounds.ensures c.requires.1 c.new-cursor.ensures only takes).0

pub returns : goal.returns
returns c = λ ts h.
    let only = subst (λ i. ReadsItem 4 c.new-cursor.result c.item.new.self (Ok i)) c.in-Array.is c.in-Ok.ensures.only in
    let takes = subst (λ i. TakesItem 4 c.new-cursor.result c.item.new.self (to_part i)) c.in-Array.is c.in-Ok.ensures.takes
    in
    (begins c.outcomes_are_computed.ensures c.items_are_decoded.ensures c.args.list.now ts c.new-cursor.result c.item.new.self
    c.in-Array.left c.byte_bounds.ensures h c.new-cursor.ensures only takes).1
