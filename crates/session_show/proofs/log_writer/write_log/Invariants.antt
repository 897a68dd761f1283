use Rattle.std.proofs.Common.{◌≡◌, ◌-◌, ◌+◌, ◌^◌, ◌≤◌, List, ℕ, ◌++◌, length}
use Rattle.std.specs.Io.KnownBytes.{Appends, Consumes}
use Rattle.session_log.proofs.Through.{Through}
use Rattle.session_show.specs.Shown.{IsShownText, read_only_semantics, rule_for_format}
use Rattle.session_show.proofs.log_writer.write_log.Given as goal

-- whole lines were read and shown, and what was read after them stands in the window
abbrev pub invariant-lines : goal.invariant-lines
invariant-lines g l =
    record {
      reads : g.S.Source.failed l.reader ≡ g.S.Source.failed l.fn.reader;
      writes : g.T.Target.failed l.writer ≡ g.T.Target.failed l.fn.writer;
      counted : l.number ≤ 2 ^ 32;
      format : l.log_writer.format ≡ l.fn.log_writer.format;
      done : (read : List ℕ) × (shown : List ℕ) × Consumes (g.S.Source.left l.fn.reader) (g.S.Source.left l.reader)
          (read ++ l.window)
          × Through read_only_semantics tt read shown tt l.number
          × ((text : List ℕ) × Appends (g.T.Target.taken l.fn.writer) (g.T.Target.taken l.writer) text
          × ((t : IsShownText (rule_for_format l.fn.log_writer.format) shown text) × (l.number ≡ length t.told + 1)));
    }

abbrev pub decreases-lines : goal.decreases-lines
decreases-lines g l = 2 ^ 32 - l.number
