use Rattle.std.proofs.Common.{refl}
use Rattle.token_session.specs.{History.received, History.last_keepalive, History.sent_at, History.sent_now}
use Rattle.token_session.proofs.laws.keepalives_count_from_the_last.Goals as goal

pub returns : goal.returns
unfolding received sent_now sent_at last_keepalive
returns c = λ start h x. refl
