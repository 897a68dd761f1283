use Rattle.std.proofs.Common.{refl}
use Rattle.hid_packet.proofs.Queueing.{queued_none, none_wait}
use Rattle.hid_packet.proofs.outbox.Outbox.new.Goals as goal

pub invariant_of-result : goal.invariant_of-result
invariant_of-result c = rw (c.new.ensures, c.new-2.ensures) queued_none

pub returns : goal.returns
returns c = none_wait c.new.result.items c.new-2.result _ refl c.new.ensures
