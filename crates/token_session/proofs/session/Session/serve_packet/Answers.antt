use Rattle.std.specs.Option.{option_or}
use Rattle.token_session.specs.History.{verdict_cause}
use Rattle.std.proofs.Common.{◌≡◌, [], ◌∷◌, Some, None, refl, sym, ◌∙◌, append-nil, length-append, arith}
use Rattle.std.proofs.lemmas.Bool.Decides.{nat_tests}
use Rattle.authn_core.specs.State.{Request, Cancel, Drop}
use Rattle.hid_assemble.specs.declared.verdict.Verdict.TheVariants.{Finished, Refuse, Greet, GreetAndDrop, CancelWork}
use Rattle.hid_packet.proofs.MessagePackets.{few_written}
use Rattle.token_session.specs.declared.input.Input.TheVariants.{Packet}
use Rattle.token_session.proofs.{Carrying.event_few, Carrying.verdict_few, Follows.served_quietly, Follows.served_by}
use Rattle.token_session.proofs.Sizes.{core_within, keeper_within, table_within}
use Rattle.token_session.proofs.session.Session.serve_packet.Goals as goal

pub take-requires : goal.take-requires
take-requires g c =
    let few = verdict_few c.self.inside.authenticator.core.core c.self.inside.latest
    (GreetAndDrop c.in-GreetAndDrop.on c.in-GreetAndDrop.channel c.in-GreetAndDrop.nonce) [] in
    let both = simp length-append at few in
    (search keeper_within, (c.self.invariant.0, (c.self.invariant.1, rw c.send_init_response-in-GreetAndDrop.ensures (simp length-append (omega (arith, c.requires, both))))))

pub take-requires-in-CancelWork : goal.take-requires-in-CancelWork
take-requires-in-CancelWork g c =
    let few = event_few c.self.inside.authenticator.core.core c.self.inside.latest (Some Cancel) in
    (search keeper_within, (c.self.invariant.0, (c.self.invariant.1, omega (arith, c.requires, few))))

pub take-requires-then-cmd-eq-CBOR : goal.take-requires-then-cmd-eq-CBOR
take-requires-then-cmd-eq-CBOR g c =
    let few = event_few c.self.inside.authenticator.core.core c.self.inside.latest
    (Some (Request c.in-Finished.cid c.message-message.result.now)) in
    (search keeper_within, (c.self.invariant.0, (c.self.invariant.1, omega (arith, c.requires, few))))

pub returns-in-Ignored : goal.returns-in-Ignored
returns-in-Ignored g c =
    let s = served_quietly _ _ c.self.inside.assembler c.accept.new.self _ _ _ c.args.outbox.now c.map-working.result
    c.self.view_is (grind (arith, c.work.ensures, c.map-working.ensures.cases)) (Packet c.args.packet.now)
    (c.accept.ensures.state)
    (c.accept.result) (c.accept.ensures.verdict) ((grind (arith, c.in-Ignored.is)))
    _ (grind (arith, c.in-Ignored.is, append-nil)) in
    let quiet : None ≡ option_or (verdict_cause c.accept.result) None = grind (arith, c.in-Ignored.is) in
    record { state = s.state; meters = s.meters; packets = s.packets; why = quiet ∙ s.why }

pub returns-in-Refuse : goal.returns-in-Refuse
returns-in-Refuse g c =
    let s = served_quietly _ _ c.self.inside.assembler c.accept.new.self _ _ _ c.args.outbox.now c.map-working.result
    c.self.view_is (grind (arith, c.work.ensures, c.map-working.ensures.cases)) (Packet c.args.packet.now)
    (c.accept.ensures.state)
    (Refuse c.in-Refuse.cid c.in-Refuse.why) ((sym c.in-Refuse.is ∙ c.accept.ensures.verdict))
    (refl) _ (rw (c.put_message.ensures, c.code.ensures) refl) in
    record { state = s.state; meters = s.meters; packets = s.packets; why = s.why }

pub returns-in-Greet : goal.returns-in-Greet
returns-in-Greet g c =
    let s = served_quietly _ _ c.self.inside.assembler c.accept.new.self _ _ _ c.args.outbox.now c.map-working.result
    c.self.view_is (grind (arith, c.work.ensures, c.map-working.ensures.cases)) (Packet c.args.packet.now)
    (c.accept.ensures.state)
    (Greet c.in-Greet.on c.in-Greet.channel c.in-Greet.nonce) ((sym c.in-Greet.is ∙ c.accept.ensures.verdict)) (refl) _ (c.send_init_response.ensures) in
    record { state = s.state; meters = s.meters; packets = s.packets; why = s.why }

pub returns-in-GreetAndDrop : goal.returns-in-GreetAndDrop
returns-in-GreetAndDrop g c =
    let s = served_by _ _ c.self.inside.assembler c.accept.new.self _ _ _ c.args.outbox.now c.map-working.result
    c.self.view_is (grind (arith, c.work.ensures, c.map-working.ensures.cases)) (Packet c.args.packet.now)
    (c.accept.ensures.state)
    (GreetAndDrop c.in-GreetAndDrop.on c.in-GreetAndDrop.channel c.in-GreetAndDrop.nonce)
    ((sym c.in-GreetAndDrop.is ∙ c.accept.ensures.verdict)) (Drop) (refl) _
    (c.send_init_response-in-GreetAndDrop.ensures)
    _ _ _ _ c.take.ensures.core c.take.ensures.keepalive
    c.take.ensures.meters c.take.ensures.packets in
    record { state = s.state; meters = s.meters; packets = s.packets; why = c.take.ensures.why ∙ s.why }

pub returns-in-CancelWork : goal.returns-in-CancelWork
returns-in-CancelWork g c =
    let s = served_by _ _ c.self.inside.assembler c.accept.new.self _ _ _ c.args.outbox.now c.map-working.result
    c.self.view_is (grind (arith, c.work.ensures, c.map-working.ensures.cases)) (Packet c.args.packet.now)
    (c.accept.ensures.state)
    (CancelWork) ((sym c.in-CancelWork.is ∙ c.accept.ensures.verdict)) (Cancel)
    (refl) _ (sym (append-nil c.args.outbox.now))
    _ _ _ _ c.take-in-CancelWork.ensures.core c.take-in-CancelWork.ensures.keepalive c.take-in-CancelWork.ensures.meters
    c.take-in-CancelWork.ensures.packets in
    record { state = s.state; meters = s.meters; packets = s.packets; why = c.take-in-CancelWork.ensures.why ∙ s.why }

pub returns-then-cmd-eq-PING : goal.returns-then-cmd-eq-PING
returns-then-cmd-eq-PING g c =
    let s = served_quietly _ _ c.self.inside.assembler c.accept.new.self _ _ _ c.args.outbox.now c.map-working.result
    c.self.view_is (grind (arith, c.work.ensures, c.map-working.ensures.cases)) (Packet c.args.packet.now)
    (c.accept.ensures.state)
    (Finished c.in-Finished.cid c.in-Finished.cmd) ((sym c.in-Finished.is ∙ c.accept.ensures.verdict))
    ((grind (arith, nat_tests, c.if-cmd-eq-PING.true))) _
    (rw c.put_message-then-cmd-eq-PING.ensures
    (grind (arith, nat_tests, c.if-cmd-eq-PING.true, c.message-message.ensures.bytes))) in
    record { state = s.state; meters = s.meters; packets = s.packets; why = s.why }

pub returns-then-cmd-eq-CBOR : goal.returns-then-cmd-eq-CBOR
returns-then-cmd-eq-CBOR g c =
    let s = served_by _ _ c.self.inside.assembler c.accept.new.self _ _ _ c.args.outbox.now c.map-working.result
    c.self.view_is (grind (arith, c.work.ensures, c.map-working.ensures.cases)) (Packet c.args.packet.now)
    (c.accept.ensures.state)
    (Finished c.in-Finished.cid c.in-Finished.cmd) ((sym c.in-Finished.is ∙ c.accept.ensures.verdict))
    (Request c.in-Finished.cid c.message-message.result.now)
    (rw c.message-message.ensures.bytes (grind (arith, nat_tests, c.if-cmd-eq-CBOR.true))) _
    (grind (arith, nat_tests, append-nil, c.if-cmd-eq-PING.false))
    _ _ _ _ c.take-then-cmd-eq-CBOR.ensures.core c.take-then-cmd-eq-CBOR.ensures.keepalive
    c.take-then-cmd-eq-CBOR.ensures.meters c.take-then-cmd-eq-CBOR.ensures.packets in
    record { state = s.state; meters = s.meters; packets = s.packets; why = c.take-then-cmd-eq-CBOR.ensures.why ∙ s.why }

pub returns-else-cmd-eq-CBOR : goal.returns-else-cmd-eq-CBOR
returns-else-cmd-eq-CBOR g c =
    let s = served_quietly _ _ c.self.inside.assembler c.accept.new.self _ _ _ c.args.outbox.now c.map-working.result
    c.self.view_is (grind (arith, c.work.ensures, c.map-working.ensures.cases)) (Packet c.args.packet.now)
    (c.accept.ensures.state)
    (Finished c.in-Finished.cid c.in-Finished.cmd) ((sym c.in-Finished.is ∙ c.accept.ensures.verdict))
    ((grind (arith, nat_tests, c.if-cmd-eq-CBOR.false))) _
    (grind (arith, nat_tests, append-nil, c.if-cmd-eq-PING.false)) in
    record { state = s.state; meters = s.meters; packets = s.packets; why = s.why }

pub work-requires-room-T-Table : goal.work-requires-room-T-Table
work-requires-room-T-Table g c κs = search table_within

pub work-requires : goal.work-requires
work-requires g c = search core_within

pub invariant_of-self-in-GreetAndDrop : goal.invariant_of-self-in-GreetAndDrop
invariant_of-self-in-GreetAndDrop g c = (c.take.ensures.latest, c.take.ensures.bounded)

pub invariant_of-self-in-CancelWork : goal.invariant_of-self-in-CancelWork
invariant_of-self-in-CancelWork g c = (c.take-in-CancelWork.ensures.latest, c.take-in-CancelWork.ensures.bounded)

pub invariant_of-self-then-cmd-eq-CBOR : goal.invariant_of-self-then-cmd-eq-CBOR
invariant_of-self-then-cmd-eq-CBOR g c =
    (c.take-then-cmd-eq-CBOR.ensures.latest, c.take-then-cmd-eq-CBOR.ensures.bounded)

pub invariant_of-self : goal.invariant_of-self
invariant_of-self g c = (c.self.invariant.0, c.self.invariant.1)

pub invariant_of-self-in-Refuse : goal.invariant_of-self-in-Refuse
invariant_of-self-in-Refuse g c = (c.self.invariant.0, c.self.invariant.1)

pub invariant_of-self-in-Greet : goal.invariant_of-self-in-Greet
invariant_of-self-in-Greet g c = (c.self.invariant.0, c.self.invariant.1)

pub invariant_of-self-then-cmd-eq-PING : goal.invariant_of-self-then-cmd-eq-PING
invariant_of-self-then-cmd-eq-PING g c = (c.self.invariant.0, c.self.invariant.1)

pub invariant_of-self-else-cmd-eq-CBOR : goal.invariant_of-self-else-cmd-eq-CBOR
invariant_of-self-else-cmd-eq-CBOR g c = (c.self.invariant.0, c.self.invariant.1)

pub put_message-requires-clause-space : goal.put_message-requires-clause-space
put_message-requires-clause-space g c = omega (arith, c.requires, few_written c.in-Refuse.cid 63 (c.code.result ∷ []))

pub send_init_response-requires : goal.send_init_response-requires
send_init_response-requires g c = c.requires

pub send_init_response-requires-in-GreetAndDrop : goal.send_init_response-requires-in-GreetAndDrop
send_init_response-requires-in-GreetAndDrop g c = c.requires

pub put_message-requires-then-cmd-eq-PING-clause-short : goal.put_message-requires-then-cmd-eq-PING-clause-short
put_message-requires-then-cmd-eq-PING-clause-short g c =
    rw c.message-message.ensures.bytes c.message-message.ensures.limit

pub put_message-requires-then-cmd-eq-PING-clause-space : goal.put_message-requires-then-cmd-eq-PING-clause-space
put_message-requires-then-cmd-eq-PING-clause-space g c =
    omega (arith, c.requires, few_written c.in-Finished.cid 1 c.message-message.result.now)
