use Rattle.std.proofs.Common.{◌+◌, ◌/◌, ◌-◌, arith, sym, subst}
use Rattle.hid_packet.{specs.Message.IsLeast, proofs.MessagePackets.length-written, proofs.MessagePackets.least-rounded_up}
use Rattle.hid_packet.proofs.fragments.packets_for.Goals as goal

pub returns-clause-written : goal.returns-clause-written
returns-clause-written c = λ cid cmd bytes same.
    length-written cid cmd _ bytes (omega arith) (omega arith)
    (subst (λ n. IsLeast (1 + (c.args.len + 1) / 59 - 1) n) (sym same) (least-rounded_up c.args.len))
