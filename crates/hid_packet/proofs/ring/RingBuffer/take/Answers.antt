use Rattle.std.proofs.Common.{◌-◌, length, ◌∙◌, arith, rules}
use Rattle.hid_packet.{proofs.Queueing.window-front, proofs.Queueing.window-rest}
use Rattle.hid_packet.proofs.ring.RingBuffer.take.Goals as goal

pub returns-then-len-straight-clause-taken : goal.returns-then-len-straight-clause-taken
returns-then-len-straight-clause-taken c =
    let ring = c.self.inside in
    let n = length c.args.out.now in
    (search rules) ∙ window-front 8320 ring.first ring.len n ring.bytes _ c.self.invariant.0 c.self.invariant.1
    c.self.invariant.2 c.self.view_is c.requires n (omega arith)

pub returns-clause-taken : goal.returns-clause-taken
returns-clause-taken c =
    let ring = c.self.inside in
    let n = length c.args.out.now in
    (search rules) ∙ window-front 8320 ring.first ring.len n ring.bytes _ c.self.invariant.0 c.self.invariant.1
    c.self.invariant.2 c.self.view_is c.requires (8320 - ring.first) (omega arith)

pub returns-then-len-straight-clause-left : goal.returns-then-len-straight-clause-left
returns-then-len-straight-clause-left c =
    let ring = c.self.inside in
    window-rest 8320 ring.first ring.len _ ring.bytes _ c.self.invariant.0 c.self.invariant.1 c.self.invariant.2
    c.self.view_is c.requires

pub returns-clause-left : goal.returns-clause-left
returns-clause-left c =
    let ring = c.self.inside in
    window-rest 8320 ring.first ring.len _ ring.bytes _ c.self.invariant.0 c.self.invariant.1 c.self.invariant.2
    c.self.view_is c.requires
