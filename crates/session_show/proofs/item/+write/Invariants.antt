use Rattle.std.proofs.Common.{◌+◌, ◌-◌, ◌*◌}
use Rattle.session_show.proofs.item.+write.Given as goal

abbrev pub decreases-write_value : goal.decreases-write_value
decreases-write_value l = 2 * (5 - l.level)

abbrev pub decreases-write_decoded : goal.decreases-write_decoded
decreases-write_decoded l = 2 * (5 - l.level) + 1
