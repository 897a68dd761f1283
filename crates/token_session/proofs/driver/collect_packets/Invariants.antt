use Rattle.std.proofs.Common.{◌≡◌, ◌+◌, ◌≤◌, ◌++◌, length, map}
use Rattle.arrayvec.specs.ArrayVec.{array_vec_len}
use Rattle.token_session.specs.{History.with_input_number, Meters.numbered_packet}
use Rattle.token_session.proofs.driver.collect_packets.Given as goal

abbrev pub invariant-loop-packet : goal.invariant-loop-packet
invariant-loop-packet g l = record {
  moved : map numbered_packet l.sent.items ++ with_input_number l.number l.outbox ≡ map numbered_packet l.fn.sent.items
      ++ with_input_number l.number l.fn.outbox;
  capacity : array_vec_len l.sent + length l.outbox ≤ g.row.N;
}

abbrev pub decreases-loop-packet : goal.decreases-loop-packet
decreases-loop-packet g l = length l.outbox
