use Rattle.std.proofs.Common.{◌≡◌, drop, fold}
use Rattle.session_walk.specs.Channels.{first_after, first_open_transaction_after, open_transactions}
use Rattle.session_walk.proofs.channels.Channels.first_open_transaction_after.Given as goal

abbrev pub invariant-loop-channel : goal.invariant-loop-channel
invariant-loop-channel l =
    fold (λ first c. first_after l.line first (open_transactions c)) l.first (drop l.channel-index l.self.list)
    ≡ first_open_transaction_after l.line l.self.list
