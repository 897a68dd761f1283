use Rattle.std.proofs.Common.{inr, refl}
use Rattle.hidlog.proofs.host.Host.show_log.Goals as goal

pub returns-in-Ok : goal.returns-in-Ok
returns-in-Ok g c =
    inr (
      c.open_log.new.input,
      c.in_ok-open_log.ensures.opened,
      (
        c.show_in-answer.result,
        c.flush_then.result,
        c.show_in-answer.new.output,
        rw c.in-Ok.is refl,
        c.show_in-answer.ensures,
        c.flush_then.ensures,
        refl,
        refl,
      ),
    )

pub returns-in-Err : goal.returns-in-Err
returns-in-Err g c =
    inr (
      c.open_log.new.input,
      c.in_ok-open_log.ensures.opened,
      (
        c.show_in-answer.result,
        c.flush_then.result,
        c.show_in-answer.new.output,
        rw c.in-Err.is refl,
        c.show_in-answer.ensures,
        c.flush_then.ensures,
        refl,
        refl,
      ),
    )
