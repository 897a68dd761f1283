use Rattle.std.proofs.Common.{◌+◌, ◌≤◌, ◌∷◌, ◌++◌, [], List, ℕ, length, ap, ap₂, ◌∙◌, refl, rules, arith}
use Rattle.hid_packet.specs.{Queue.queued_packets, declared.queued.Queued.TheVariants.Whole}
use Rattle.hid_packet.proofs.Queueing.{queued-push, space, queued_packets-push}
use Rattle.hid_packet.proofs.outbox.Outbox.put_packet.Goals as goal

pub push-requires : goal.push-requires
push-requires c =
    let r = space c.self.inside.entries.items c.self.inside.ring c.self.inside.len 1 c.self.invariant (omega arith)
    (omega (arith, c.requires, c.self.invariant.counted, ap length c.self.view_is)) in
    (search rules, r.entry)

pub put-requires : goal.put-requires
put-requires c =
    let r = space c.self.inside.entries.items c.self.inside.ring c.self.inside.len 1 c.self.invariant (omega arith)
    (omega (arith, c.requires, c.self.invariant.counted, ap length c.self.view_is)) in
    omega (arith, r.bytes_left)

pub invariant_of-self : goal.invariant_of-self
invariant_of-self c =
    let few : c.self.inside.len + 1 ≤ 130 =
    omega (arith, c.requires, c.self.invariant.counted, ap length c.self.view_is) in
    rw (c.push.ensures.items, c.put.ensures)
    (queued-push c.self.inside.entries.items c.self.inside.ring c.args.packet.0 Whole c.self.inside.len 1
    c.self.invariant tt (omega arith) refl few)

pub returns : goal.returns
returns c =
    ap₂ queued_packets c.push.ensures.items c.put.ensures
    ∙ queued_packets-push c.self.inside.entries.items c.self.inside.ring c.args.packet.0 Whole c.self.invariant.held.sum
    (omega arith)
    ∙ ap (λ (ps : List (List ℕ)). ps ++ c.args.packet.0 ∷ []) c.self.view_is
