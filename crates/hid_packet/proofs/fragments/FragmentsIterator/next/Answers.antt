use Rattle.std.proofs.{Common.ap, Common.arith, Common.rules, Common.length, lemmas.Bool.Decides.nat_tests}
use Rattle.hid_packet.proofs.MessagePackets.{first_taken, next_taken, none_taken}
use Rattle.hid_packet.proofs.fragments.FragmentsIterator.next.Goals as goal

pub returns-in-Initialization-clause-steps : goal.returns-in-Initialization-clause-steps
returns-in-Initialization-clause-steps c =
    first_taken _ _ _ _ _ _ _ _ _ c.self.view_is c.in-Initialization.is c.min.ensures c.split_at.ensures.front
    c.split_at.ensures.back c.initialization.ensures

pub returns-in-Initialization-clause-goes : goal.returns-in-Initialization-clause-goes
returns-in-Initialization-clause-goes c =
    let shorter = ap length (first_taken _ _ _ _ _ _ _ _ _ c.self.view_is c.in-Initialization.is c.min.ensures
    c.split_at.ensures.front c.split_at.ensures.back c.initialization.ensures) in
    search rules

pub returns-in-Continuation-clause-steps : goal.returns-in-Continuation-clause-steps
returns-in-Continuation-clause-steps c =
    let none = none_taken _ _ _ _ _ c.self.view_is c.in-Continuation.is (grind (arith, nat_tests)) in
    (none, none)

pub returns-in-Continuation-2-clause-steps : goal.returns-in-Continuation-2-clause-steps
returns-in-Continuation-2-clause-steps c =
    next_taken _ _ _ _ _ _ _ _ _ c.self.view_is c.in-Continuation-2.is c.self.invariant (grind (arith, nat_tests))
    c.min-in-Continuation-2.ensures
    c.split_at-in-Continuation-2.ensures.front c.split_at-in-Continuation-2.ensures.back c.continuation.ensures

pub returns-in-Continuation-2-clause-goes : goal.returns-in-Continuation-2-clause-goes
returns-in-Continuation-2-clause-goes c =
    let shorter = ap length (next_taken _ _ _ _ _ _ _ _ _ c.self.view_is c.in-Continuation-2.is c.self.invariant
    (grind (arith, nat_tests)) c.min-in-Continuation-2.ensures
    c.split_at-in-Continuation-2.ensures.front c.split_at-in-Continuation-2.ensures.back c.continuation.ensures) in
    search rules
