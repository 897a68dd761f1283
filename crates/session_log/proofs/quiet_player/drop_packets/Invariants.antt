use Rattle.std.proofs.Common.{length}
use Rattle.session_log.proofs.quiet_player.drop_packets.Given as goal

abbrev pub decreases-loop : goal.decreases-loop
decreases-loop l = length l.outbox
