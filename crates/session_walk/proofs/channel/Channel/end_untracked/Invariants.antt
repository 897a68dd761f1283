use Rattle.std.proofs.Common.{◌≡◌, drop}
use Rattle.session_walk.specs.Channels.{open_transactions, with_forgotten}
use Rattle.session_walk.proofs.channel.Channel.end_untracked.Given as goal

abbrev pub invariant-loop-open : goal.invariant-loop-open
invariant-loop-open l = with_forgotten l.ended.0.items (drop l.open-index (open_transactions l.self))
    ≡ with_forgotten l.fn.ended.0.items (open_transactions l.self)
