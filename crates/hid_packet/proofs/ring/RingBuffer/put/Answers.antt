use Rattle.std.proofs.Common.{◌+◌, ◌-◌, ◌%◌, length, ap₂, refl, ◌∙◌, arith, rules}
use Rattle.hid_packet.specs.Queue.{with_overwritten}
use Rattle.hid_packet.proofs.Queueing.{part_put, put_around, straight_put, round_put}
use Rattle.hid_packet.proofs.ring.RingBuffer.put.Goals as goal

pub returns-then-bytes-straight : goal.returns-then-bytes-straight
returns-then-bytes-straight c =
    let ring = c.self.inside in
    let end = (ring.first + ring.len) % 8320 in
    put_around 8320 ring.first ring.len (length c.args.bytes.now) end ring.bytes c.args.bytes.now _ _
    c.self.invariant.0 c.self.invariant.1 c.self.invariant.2 c.self.view_is c.requires refl
    (omega arith)
    (straight_put end c.args.bytes.now ring.bytes _
    (part_put end (end + length c.args.bytes.now - end) ring.bytes c.args.bytes.now _ (search rules) (omega arith)))

pub returns : goal.returns
returns c =
    let ring = c.self.inside in
    let end = (ring.first + ring.len) % 8320 in
    let front = c.split_at.result.0.now in
    let back = c.split_at.result.1.now in
    let first = part_put end (end + length front - end) ring.bytes front c.copy_from_slice-2.new.self (search rules)
    (omega arith) in
    let second = part_put 0 (length back) _ back c.copy_from_slice-3.new.self (search rules) (omega arith) in
    put_around 8320 ring.first ring.len (8320 - end) end ring.bytes c.args.bytes.now _ _
    c.self.invariant.0 c.self.invariant.1 c.self.invariant.2 c.self.view_is c.requires refl
    (omega arith)
    (round_put end _ _ ring.bytes _ _ first second ∙ ap₂ (λ front back.
    with_overwritten end front back ring.bytes) c.split_at.ensures.front c.split_at.ensures.back)
