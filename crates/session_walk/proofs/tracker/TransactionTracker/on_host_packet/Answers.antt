use Rattle.std.proofs.Common.{◌≡◌, Some, arith}
use Rattle.session_walk.specs.Walks.{channel_on}
use Rattle.session_walk.proofs.tracker.TransactionTracker.on_host_packet.Goals as goal

pub returns-in-More-clause-message : goal.returns-in-More-clause-message
returns-in-More-clause-message c = λ c' found.
    let same : channel_on c.channel_of-channel.result c.args.self.now.channels.list ≡ Some c'
    = grind (arith, c.channel_of-channel.ensures, found) in
    let at = c.place-place.ensures.found c' same in
    let message = c.on_continuation.ensures.message (record c' { used = c.args.number }) at in
    grind (arith, message, c.in-More.ensures.fields, c.in-More.is, c.in-More.seq-is)
