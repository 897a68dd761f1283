use Rattle.std.proofs.Common.{◌≡◌, ◌≤◌}
use Rattle.ctap_message.proofs.Requests.{Sofar}
use Rattle.ctap_message.proofs.descriptors.DescriptorsIterator.next.Given as goal

abbrev pub invariant-loop-self : goal.invariant-loop-self
invariant-loop-self l = record {
  walked : Sofar l.fn.self.cursor l.fn.self.count l.self-inside.cursor l.self-inside.left;
  fewer : l.self-inside.left ≤ l.fn.self.count;
  given : l.self-inside.given ≡ l.initial.self-inside.given;
}

abbrev pub decreases-loop-self : goal.decreases-loop-self
decreases-loop-self l = l.self-inside.left
