use Rattle.std.proofs.Common.{◌≡◌, ◌+◌, ◌≤◌, ◌++◌, ◌∷◌, [], List, ℕ, length, ap, ap₂, sym, ◌∙◌, refl, rules, arith}
use Rattle.std.proofs.Common.{length-append}
use Rattle.hid_packet.specs.Message.{message_packets, initialization_packet}
use Rattle.hid_packet.{proofs.MessagePackets.filled, specs.Queue.queued_packets}
use Rattle.hid_packet.specs.declared.{queued.Queued.TheVariants.Part, fragments.NextPacket.TheVariants.Initialization}
use Rattle.hid_packet.proofs.Queueing.{first_written, short_written, queued-push, space, queued_packets-push, entry_fills}
use Rattle.hid_packet.proofs.outbox.Outbox.put_message.Goals as goal

pub put_packet-requires : goal.put_packet-requires
put_packet-requires c = omega (arith, c.requires.space, first_written c.args.cid c.args.cmd c.args.bytes.now)

pub returns-then-bytes-le-INIT_PACKET_DATA : goal.returns-then-bytes-le-INIT_PACKET_DATA
unfolding initialization_packet
returns-then-bytes-le-INIT_PACKET_DATA c =
    let made : c.write_init_packet.new.out ≡ initialization_packet c.args.cid c.args.cmd (length c.args.bytes.now)
    c.args.bytes.now =
    c.write_init_packet.ensures ∙ filled _ (7 + length c.args.bytes.now) (simp length-append (omega arith)) in
    c.put_packet.ensures
    ∙ ap (λ packet. c.args.self.now ++ packet ∷ []) made
    ∙ ap (λ (packets : List (List ℕ)). c.args.self.now ++ packets)
    (sym (short_written c.args.cid c.args.cmd c.args.bytes.now c.if-bytes-le-INIT_PACKET_DATA.true))

pub push-requires : goal.push-requires
push-requires c =
    let n = length (message_packets c.args.cid c.args.cmd c.args.bytes.now) in
    let r = space c.self.inside.entries.items c.self.inside.ring c.self.inside.len n c.self.invariant
    (first_written c.args.cid c.args.cmd c.args.bytes.now)
    (omega (arith, c.requires.space, c.self.invariant.counted, ap length c.self.view_is)) in
    (search rules, r.entry)

pub put-requires : goal.put-requires
put-requires c =
    let n = length (message_packets c.args.cid c.args.cmd c.args.bytes.now) in
    let r = space c.self.inside.entries.items c.self.inside.ring c.self.inside.len n c.self.invariant
    (first_written c.args.cid c.args.cmd c.args.bytes.now)
    (omega (arith, c.requires.space, c.self.invariant.counted, ap length c.self.view_is)) in
    let e = entry_fills (Part
    (record { cid = c.args.cid; due = Initialization c.args.cmd; left = length c.args.bytes.now })) c.args.bytes.now
    (c.requires.command, c.requires.short) refl in
    omega (arith, r.bytes_left, e.enough)

pub invariant_of-self : goal.invariant_of-self
invariant_of-self c =
    let count = c.packets_for.ensures.written c.args.cid c.args.cmd c.args.bytes.now refl in
    let few : c.self.inside.len + c.from.result ≤ 130 = omega
    (arith, c.requires.space, c.self.invariant.counted, ap length c.self.view_is, count, c.from.ensures) in
    rw (c.push.ensures.items, c.put.ensures)
    (queued-push c.self.inside.entries.items c.self.inside.ring c.args.bytes.now
    (Part (record { cid = c.args.cid; due = Initialization c.args.cmd; left = length c.args.bytes.now }))
    c.self.inside.len c.from.result c.self.invariant (c.requires.command, c.requires.short) refl
    (c.from.ensures ∙ sym count) few)

pub returns : goal.returns
returns c =
    ap₂ queued_packets c.push.ensures.items c.put.ensures
    ∙ queued_packets-push c.self.inside.entries.items c.self.inside.ring c.args.bytes.now
    (Part (record { cid = c.args.cid; due = Initialization c.args.cmd; left = length c.args.bytes.now }))
    c.self.invariant.held.sum refl
    ∙ ap (λ (ps : List (List ℕ)). ps ++ message_packets c.args.cid c.args.cmd c.args.bytes.now) c.self.view_is
