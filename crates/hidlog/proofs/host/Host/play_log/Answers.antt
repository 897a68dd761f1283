use Rattle.std.proofs.Common.{inl, inr, refl}
use Rattle.hidlog.proofs.host.Host.play_log.Goals as goal

pub returns-in-Err-lock_snapshot : goal.returns-in-Err-lock_snapshot
returns-in-Err-lock_snapshot g c =
    inr (c.open_log.new.input, c.in-Ok.ensures.opened, inl (refl, c.in-Err-lock_snapshot.ensures))

pub returns : goal.returns
returns g c = inr (c.open_log.new.input, c.in-Ok.ensures.opened, c.play_open-came.ensures)
