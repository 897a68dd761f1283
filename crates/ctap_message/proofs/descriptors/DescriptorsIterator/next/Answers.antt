use Rattle.std.proofs.Common.{◌≡◌, sym, ◌∙◌, arith}
use Rattle.std.specs.Option.{option_copied}
use Rattle.ctap_message.specs.{Collected.to_descriptor}
use Rattle.ctap_message.proofs.Requests.{sofar_more, gives_some, gives_none, entry_never, copied_some, none_is}
use Rattle.ctap_message.proofs.descriptors.DescriptorsIterator.next.Goals as goal

pub unreachable-requires : goal.unreachable-requires
unreachable-requires c = grind (arith, entry_never)

pub loop-self-preserved : goal.loop-self-preserved
loop-self-preserved c =
    record {
      walked = sofar_more c.cursor_reads_one_tree.ensures c.args.self.now.cursor c.loop-self.self-inside.cursor
          c.read_descriptor.new.cursor c.args.self.now.count c.loop-self.self-inside.left
          (c.in-Ok.field-0-0, to_descriptor c.in-Ok.descriptor) c.loop-self.invariant.walked c.loop-self-test.true
          c.in-Ok.ensures
          (sym c.public_key_id-id.ensures ∙ none_is (option_copied c.public_key_id-id.result) (copied_some c.public_key_id-id.result
          ∙ sym c.is_some.ensures ∙ c.if-is_some.false));
      fewer = omega arith;
      given = c.loop-self.invariant.given;
    }

pub invariant_of-self-then-is_some : goal.invariant_of-self-then-is_some
invariant_of-self-then-is_some c =
    let gives = gives_some c.cursor_reads_one_tree.ensures c.args.self.now.cursor c.loop-self.self-inside.cursor
    c.read_descriptor.new.cursor c.args.self.now.count c.loop-self.self-inside.left
    (c.in-Ok.field-0-0, to_descriptor c.in-Ok.descriptor) (option_copied c.public_key_id-id.result)
    c.loop-self.invariant.walked c.loop-self-test.true c.in-Ok.ensures c.public_key_id-id.ensures
    (copied_some c.public_key_id-id.result ∙ sym c.is_some.ensures ∙ c.if-is_some.true) in
    grind arith

pub returns-then-is_some-clause-steps : goal.returns-then-is_some-clause-steps
returns-then-is_some-clause-steps c =
    let gives = gives_some c.cursor_reads_one_tree.ensures c.args.self.now.cursor c.loop-self.self-inside.cursor
    c.read_descriptor.new.cursor c.args.self.now.count c.loop-self.self-inside.left
    (c.in-Ok.field-0-0, to_descriptor c.in-Ok.descriptor) (option_copied c.public_key_id-id.result)
    c.loop-self.invariant.walked c.loop-self-test.true c.in-Ok.ensures c.public_key_id-id.ensures
    (copied_some c.public_key_id-id.result ∙ sym c.is_some.ensures ∙ c.if-is_some.true) in
    grind arith

pub invariant_of-self : goal.invariant_of-self
invariant_of-self c =
    let none : c.loop-self.self-inside.left ≡ 0 = omega arith in
    let gives = gives_none c.args.self.now.cursor c.loop-self.self-inside.cursor c.args.self.now.count
    c.loop-self.self-inside.left c.loop-self.invariant.walked none in
    grind arith

pub returns-clause-steps : goal.returns-clause-steps
returns-clause-steps c =
    let none : c.loop-self.self-inside.left ≡ 0 = omega arith in
    let gives = gives_none c.args.self.now.cursor c.loop-self.self-inside.cursor c.args.self.now.count
    c.loop-self.self-inside.left c.loop-self.invariant.walked none in
    grind arith
