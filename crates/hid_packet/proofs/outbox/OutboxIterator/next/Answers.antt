use Rattle.std.proofs.Common.{◌≡◌, ◌∙◌, ◌∷◌, ℕ, List, length, ap, ap₂, sym, arith, rules}
use Rattle.hid_packet.specs.{Message.packets_left, Queue.queued_packets}
use Rattle.hid_packet.specs.declared.queued.Queued.TheVariants.{Whole, Part}
use Rattle.hid_packet.proofs.Queueing.{bounds, first_of, no_entry, none_wait, queued-pop, queued_packets-pop, held-pop, held-more, held-last, part_more, part_last, first_set}
use Rattle.hid_packet.proofs.outbox.OutboxIterator.next.Goals as goal

pub returns-in-empty-clause-steps : goal.returns-in-empty-clause-steps
returns-in-empty-clause-steps c =
    let none = none_wait c.self.inside.entries.items c.self.inside.ring _ c.self.view_is
    (no_entry c.self.inside.entries.items c.as_slice.result.now c.as_slice.ensures.value c.in-empty.len_below) in
    (none, none)

pub overflow_sub-self : goal.overflow_sub-self
overflow_sub-self c =
    let b = bounds c.self.inside.entries.items c.self.inside.ring c.self.invariant.held in
    omega (arith, b.entries, c.self.invariant.counted, ap length c.as_slice.ensures.value, c.in-len1-up.len_at_least)

whole_packets : (c : goal.After-packet-in-Whole-1) →
    queued_packets c.self.inside.entries.items c.self.inside.ring
    ≡ c.take.new.out ∷ queued_packets c.remove.new.self.items c.take.new.self
whole_packets c =
    let first = first_of c.self.inside.entries.items _ c.as_slice.ensures.value c.in-len1-up.len_at_least in
    let is = first.1 ∙ ap (λ e. e ∷ first.0) c.in-Whole.is in
    queued_packets-pop c.self.inside.entries.items first.0 Whole c.self.inside.ring is
    ∙ ap₂ (λ (p : List ℕ) (ps : List (List ℕ)). p ∷ ps) (sym c.take.ensures.taken)
    (sym (ap₂ queued_packets c.remove.ensures.items c.take.ensures.left))

pub invariant_of-self : goal.invariant_of-self
invariant_of-self c =
    let first = first_of c.self.inside.entries.items _ c.as_slice.ensures.value c.in-len1-up.len_at_least in
    let is = first.1 ∙ ap (λ e. e ∷ first.0) c.in-Whole.is in
    queued-pop c.self.inside.entries.items c.remove.new.self.items c.self.inside.ring c.take.new.self c.take.new.out
    c.self.inside.len c.self.invariant (whole_packets c)
    (rw (c.remove.ensures.items, c.take.ensures.left) (held-pop c.self.inside.entries.items first.0 Whole
    c.self.inside.ring is c.self.invariant.held))

pub returns-in-Whole-clause-steps : goal.returns-in-Whole-clause-steps
returns-in-Whole-clause-steps c = sym c.self.view_is ∙ whole_packets c

pub returns-in-Whole-clause-goes : goal.returns-in-Whole-clause-goes
returns-in-Whole-clause-goes c = let step = sym c.self.view_is ∙ whole_packets c in search rules

pub returns-then-message-gt0-clause-steps : goal.returns-then-message-gt0-clause-steps
returns-then-message-gt0-clause-steps c =
    let first = first_of c.self.inside.entries.items _ c.as_slice.ensures.value c.in-len1-up.len_at_least in
    let is = first.1 ∙ ap (λ e. e ∷ first.0) c.in-Part.is in
    sym c.self.view_is ∙ part_more c.self.inside.entries.items _ first.0 (Part c.in-Part.message) (Part c.next_packet-packet.new.self)
    c.self.inside.ring c.next_packet-packet.new.ring _ is
    (first_set c.self.inside.entries.items c.deref_mut.result.now first.0 (Part c.in-Part.message)
    (Part c.next_packet-packet.new.self) is c.deref_mut.ensures.value)
    c.next_packet-packet.ensures.packet c.next_packet-packet.ensures.others

pub returns-then-message-gt0-clause-goes : goal.returns-then-message-gt0-clause-goes
returns-then-message-gt0-clause-goes c = let step = returns-then-message-gt0-clause-steps c in search rules

pub invariant_of-self-then-message-gt0 : goal.invariant_of-self-then-message-gt0
invariant_of-self-then-message-gt0 c =
    let first = first_of c.self.inside.entries.items _ c.as_slice.ensures.value c.in-len1-up.len_at_least in
    let is = first.1 ∙ ap (λ e. e ∷ first.0) c.in-Part.is in
    queued-pop c.self.inside.entries.items _ c.self.inside.ring c.next_packet-packet.new.ring
    c.next_packet-packet.result.0 c.self.inside.len c.self.invariant (part_more c.self.inside.entries.items _ first.0 (Part c.in-Part.message) (Part c.next_packet-packet.new.self)
    c.self.inside.ring c.next_packet-packet.new.ring _ is
    (first_set c.self.inside.entries.items c.deref_mut.result.now first.0 (Part c.in-Part.message)
    (Part c.next_packet-packet.new.self) is c.deref_mut.ensures.value)
    c.next_packet-packet.ensures.packet c.next_packet-packet.ensures.others)
    (rw (first_set c.self.inside.entries.items c.deref_mut.result.now first.0 (Part c.in-Part.message)
    (Part c.next_packet-packet.new.self) is c.deref_mut.ensures.value)
    (held-more c.self.inside.entries.items first.0 (Part c.in-Part.message) (Part c.next_packet-packet.new.self)
    c.self.inside.ring c.next_packet-packet.new.ring is c.self.invariant.held
    (c.next_packet-packet.ensures.due c.if-message-gt0.true) c.next_packet-packet.ensures.there))

pub returns-else-message-gt0-clause-steps : goal.returns-else-message-gt0-clause-steps
returns-else-message-gt0-clause-steps c =
    let first = first_of c.self.inside.entries.items _ c.as_slice.ensures.value c.in-len1-up.len_at_least in
    let is = first.1 ∙ ap (λ e. e ∷ first.0) c.in-Part.is in
    sym c.self.view_is ∙ part_last c.self.inside.entries.items c.remove-in-Part.new.self.items first.0 (Part c.in-Part.message)
    c.self.inside.ring c.next_packet-packet.new.ring _ c.next_packet-packet.new.self.left
    (packets_left c.next_packet-packet.new.self.cid c.next_packet-packet.new.self.due) is c.remove-in-Part.ensures.items
    c.next_packet-packet.ensures.packet c.next_packet-packet.ensures.others (omega (arith, c.if-message-gt0.false))
    (c.next_packet-packet.ensures.last (omega (arith, c.if-message-gt0.false)))

pub returns-else-message-gt0-clause-goes : goal.returns-else-message-gt0-clause-goes
returns-else-message-gt0-clause-goes c = let step = returns-else-message-gt0-clause-steps c in search rules

pub invariant_of-self-in-Part : goal.invariant_of-self-in-Part
invariant_of-self-in-Part c =
    let first = first_of c.self.inside.entries.items _ c.as_slice.ensures.value c.in-len1-up.len_at_least in
    let is = first.1 ∙ ap (λ e. e ∷ first.0) c.in-Part.is in
    queued-pop c.self.inside.entries.items c.remove-in-Part.new.self.items c.self.inside.ring c.next_packet-packet.new.ring
    c.next_packet-packet.result.0 c.self.inside.len c.self.invariant (part_last c.self.inside.entries.items c.remove-in-Part.new.self.items first.0 (Part c.in-Part.message)
    c.self.inside.ring c.next_packet-packet.new.ring _ c.next_packet-packet.new.self.left
    (packets_left c.next_packet-packet.new.self.cid c.next_packet-packet.new.self.due) is c.remove-in-Part.ensures.items
    c.next_packet-packet.ensures.packet c.next_packet-packet.ensures.others (omega (arith, c.if-message-gt0.false))
    (c.next_packet-packet.ensures.last (omega (arith, c.if-message-gt0.false))))
    (rw c.remove-in-Part.ensures.items (held-last c.self.inside.entries.items first.0 (Part c.in-Part.message)
    c.self.inside.ring c.next_packet-packet.new.ring is c.self.invariant.held
    (omega (arith, c.next_packet-packet.ensures.there, c.if-message-gt0.false))))
