use Rattle.std.proofs.Common.{◌≡◌, ◌++◌, ◌+◌, ◌≤◌, drop, map, length}
use Rattle.session_walk.specs.Channels.{open_end, responding_transaction}
use Rattle.session_walk.specs.Whole.{open_init}
use Rattle.session_walk.proofs.channel.Channel.open.Given as goal

-- Those of the INITs so far were added to that of the response, and there are at most four INITs.
abbrev pub invariant-loop-init : goal.invariant-loop-init
invariant-loop-init l =
    (l.open.0.items ++ map (λ g. open_end (open_init l.self.number g)) (drop l.init-index l.self.pending_inits.items)
    ≡ responding_transaction l.self ++ map (λ g. open_end (open_init l.self.number g)) l.self.pending_inits.items)
    × (length l.open.0.items + length (drop l.init-index l.self.pending_inits.items) ≤ 5)
