use Rattle.std.proofs.Common.{◌≡◌, ◌++◌, [], map, take}
use Rattle.token_session.specs.{Carried.ArriveWithFullPackets, Meters.numbered_packet, Meters.state_after_inputs, Meters.packets_of_inputs, Meters.HadCapacity}
use Rattle.token_session.proofs.driver.drive.Given as goal

abbrev pub invariant-loop-i : goal.invariant-loop-i
invariant-loop-i g l = record {
  state : l.session ≡ state_after_inputs l.fn.session (take l.i l.inputs);
  packets : map numbered_packet l.sent.items ≡ map numbered_packet l.fn.sent.items ++ packets_of_inputs 0 l.fn.session (take l.i l.inputs);
  whole : ArriveWithFullPackets (take l.i l.inputs);
  capacity : HadCapacity g.row.N (map numbered_packet l.fn.sent.items) l.fn.session l.inputs l.i;
  empty : l.outbox ≡ [];
}
