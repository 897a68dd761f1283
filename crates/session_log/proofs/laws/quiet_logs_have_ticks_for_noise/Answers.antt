use Rattle.session_log.proofs.Quieted.{quiet_text_is_quiet}
use Rattle.session_log.proofs.laws.quiet_logs_have_ticks_for_noise.Goals as goal

pub returns : goal.returns
returns c = quiet_text_is_quiet
