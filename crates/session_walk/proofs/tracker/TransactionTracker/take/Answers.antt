use Rattle.std.proofs.Common.{refl}
use Rattle.session_walk.proofs.Keeps.{brings_past}
use Rattle.session_walk.proofs.tracker.TransactionTracker.take.Goals as goal

pub returns-in-Packet-clause-bytes : goal.returns-in-Packet-clause-bytes
returns-in-Packet-clause-bytes c = rw c.in-Input.is (rw c.in-Packet.is
    (brings_past _ _ _ _ _ _ _ _ c.clear.ensures.only c.resolve.ensures.pool c.on_host_packet.ensures.bytes))

pub returns-in-Sent-clause-bytes : goal.returns-in-Sent-clause-bytes
returns-in-Sent-clause-bytes c = rw c.in-Sent.is
    (brings_past _ _ _ _ _ _ _ _ c.clear.ensures.only refl c.on_device_packet.ensures.bytes)
