use Rattle.std.proofs.Common.{◌≡◌, ◌≤◌, ◌+◌, ◌*◌, ℕ, List, ◌++◌, length, flat_map}
use Rattle.session_log.specs.{Semantics.ArePackets, Semantics.sent_text, declared.line_writer.TheConstants.SENT_LINE}
use Rattle.session_log.proofs.line_writer.push_packets.Given as goal

-- what was appended and what is left are the packets
abbrev pub invariant-loop-packet : goal.invariant-loop-packet
invariant-loop-packet l =
    record {
      space : length l.text.items + SENT_LINE * length l.outbox ≤ length l.fn.text.items + SENT_LINE * length
          l.fn.outbox;
      done : (first : List (List ℕ)) × (l.fn.outbox ≡ first ++ l.outbox) × ArePackets first
          × (l.text.items ≡ l.fn.text.items ++ flat_map sent_text first);
    }

abbrev pub decreases-loop-packet : goal.decreases-loop-packet
decreases-loop-packet l = length l.outbox
