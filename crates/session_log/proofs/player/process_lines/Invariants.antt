use Rattle.std.proofs.Common.{◌≡◌, ◌-◌, ◌^◌, ◌≤◌, List, ℕ, ◌++◌}
use Rattle.std.specs.Io.KnownBytes.{Consumes, Appends}
use Rattle.session_log.proofs.Through.{Through}
use Rattle.session_log.proofs.player.process_lines.Given as goal

-- whole lines were read, played and written, and what was read after them stands in the window
abbrev pub invariant-lines : goal.invariant-lines
invariant-lines g l =
    let left = g.S.Source.left in
    let taken = g.T.Target.taken in
    record {
      reads : g.S.Source.failed l.reader ≡ g.S.Source.failed l.fn.reader;
      writes : g.T.Target.failed l.writer ≡ g.T.Target.failed l.fn.writer;
      ready : g.P.Player.IsReady l.player l.number;
      counted : l.number ≤ 2 ^ 32;
      done : (read : List ℕ) × (text : List ℕ) × Consumes (left l.fn.reader) (left l.reader) (read ++ l.window)
          × Appends (taken l.fn.writer) (taken l.writer) text
          × Through g.P.Player.semantics (g.P.Player.state l.fn.player l.fn.session) read text
          (g.P.Player.state l.player l.session) l.number;
    }

abbrev pub decreases-lines : goal.decreases-lines
decreases-lines g l = 2 ^ 32 - l.number
