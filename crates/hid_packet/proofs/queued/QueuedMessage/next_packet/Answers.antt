use Rattle.std.proofs.Common.{◌≤◌, ◌∙◌, ◌+◌, ◌-◌, ◌++◌, ◌∷◌, [], ap, min, refl, rules, arith, length, length-append}
use Rattle.std.proofs.Common.{length-take-le}
use Rattle.byteorder.specs.Endian.{big_bytes}
use Rattle.hid_packet.specs.Message.{initialization_packet, continuation_packet}
use Rattle.hid_packet.proofs.{Queueing.placed, Queueing.first_made, Queueing.next_made, MessagePackets.no_continuation}
use Rattle.hid_packet.proofs.queued.QueuedMessage.next_packet.Goals as goal

pub returns-in-Initialization-clause-packet : goal.returns-in-Initialization-clause-packet
unfolding initialization_packet
returns-in-Initialization-clause-packet c =
    let n = c.min-part.result in
    let least = c.min-part.ensures ∙ ap (min 57) c.from.ensures in
    let fits : n ≤ length c.args.ring.now = omega (arith, c.requires.there) in
    first_made c.args.self.now.cid c.in-Initialization.cmd c.args.self.now.left n c.args.self.now.due c.args.ring.now _
    _ c.in-Initialization.is c.requires.there least
    (placed (((big_bytes 4 c.args.self.now.cid ++ (c.in-Initialization.cmd + 128) ∷ [])
    ++ big_bytes 2 c.args.self.now.left) ++ []) c.write_init_packet.new.out _ _ 7 n
    (simp length-append (omega arith)) (length-take-le n c.args.ring.now fits) c.write_init_packet.ensures
    (search rules)) (search rules)

pub returns-in-Continuation-clause-packet : goal.returns-in-Continuation-clause-packet
unfolding continuation_packet
returns-in-Continuation-clause-packet c =
    let n = c.min-part-in-Continuation.result in
    let least = c.min-part-in-Continuation.ensures ∙ ap (min 59) c.from-in-Continuation.ensures in
    let fits : n ≤ length c.args.ring.now = omega (arith, c.requires.there) in
    next_made c.args.self.now.cid c.in-Continuation.number c.args.self.now.left n c.args.self.now.due c.args.ring.now _
    _ c.in-Continuation.is c.requires.there c.requires.due least
    (placed ((big_bytes 4 c.args.self.now.cid ++ c.in-Continuation.number ∷ []) ++ []) c.write_cont_packet.new.out _ _ 5
    n
    (simp length-append (omega arith)) (length-take-le n c.args.ring.now fits) c.write_cont_packet.ensures
    (search rules)) (search rules)

pub returns-in-Initialization-clause-last : goal.returns-in-Initialization-clause-last
returns-in-Initialization-clause-last c = λ _. no_continuation 128 c.args.self.now.cid 0 [] refl

pub returns-in-Continuation-clause-last : goal.returns-in-Continuation-clause-last
returns-in-Continuation-clause-last c = λ _. no_continuation (128 - (c.in-Continuation.number + 1)) c.args.self.now.cid
    (c.in-Continuation.number + 1) [] refl
