use Rattle.std.proofs.lemmas.Grind.{common_steps, flat_map-append}
use Rattle.std.proofs.Common.{[], refl, sym, append_assoc, append-nil, arith}
use Rattle.session_log.proofs.SemanticsLaws.{ArePackets-snoc}
use Rattle.session_log.proofs.line_writer.push_packets.Goals as goal

pub loop-packet-init : goal.loop-packet-init
loop-packet-init c = record { space = omega arith; done = ([], refl, tt, sym (append-nil c.args.text.now.items)) }

pub loop-packet-preserved : goal.loop-packet-preserved
loop-packet-preserved c = grind (arith, common_steps, append-nil, append_assoc, ArePackets-snoc, flat_map-append)
