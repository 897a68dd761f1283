use Rattle.std.proofs.Common.{◌≡◌, drop}
use Rattle.session_walk.specs.Channels.{open_transactions, with_dropped}
use Rattle.session_walk.proofs.channel.Channel.end_dropped.Given as goal

abbrev pub invariant-loop-open : goal.invariant-loop-open
invariant-loop-open l = with_dropped l.line l.ended.0.items (drop l.open-index (open_transactions l.self))
    ≡ with_dropped l.line l.fn.ended.0.items (open_transactions l.self)
