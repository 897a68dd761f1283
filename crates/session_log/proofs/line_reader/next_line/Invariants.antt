use Rattle.std.proofs.Common.{◌≡◌, ◌-◌, List, ℕ, ◌++◌, length}
use Rattle.std.specs.Io.KnownBytes.{Consumes}
use Rattle.session_log.proofs.line_reader.next_line.Given as goal

-- what was read stands in the window
abbrev pub invariant-reading : goal.invariant-reading
invariant-reading g l =
    record {
      same : g.S.Source.failed l.reader ≡ g.S.Source.failed l.fn.reader;
      done : (more : List ℕ) × (l.window ≡ l.fn.window ++ more)
          × Consumes (g.S.Source.left l.fn.reader) (g.S.Source.left l.reader) more;
    }

abbrev pub decreases-reading : goal.decreases-reading
decreases-reading g l = 256 - length l.window
