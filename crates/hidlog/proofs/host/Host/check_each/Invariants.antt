use Rattle.std.proofs.Common.{◌≡◌, ◌⊎◌, ◌<◌, true, false, take}
use Rattle.hidlog.specs.{CommandLine.to_path, CommandLine.to_texts, Program.Model, Commands.AreSame, Commands.HasFailure}
use Rattle.hidlog.proofs.host.Host.check_each.Given as goal

-- what is said of the host
abbrev pub model : (g : goal.Over) → Model g.row.D.Denot g.row.L.Denot g.row.O.Denot g.row.E.Denot
model g = record {
  holds = g.D.Files.holds;
  unreadable = g.D.Files.unreadable;
  written = g.D.Files.written;
  unwritten = g.D.Files.unwritten;
  unwritable = g.D.Files.unwritable;
  opened = g.L.Logs.opened;
  unopenable = g.L.Logs.unopenable;
  left = g.L.Source.left;
  unread = g.L.Source.failed;
  ended = g.L.Source.ended;
  taken = g.O.Target.taken;
  unput = g.O.Target.failed;
  waits = g.O.Output.waits;
  parsed = g.E.Target.taken;
  unsaid = g.E.Target.failed;
}

-- The files stay. Where none has failed, the logs so far are the same, and their reports were written; else one of them
-- failed, or a report could not be written.
abbrev pub invariant-loop-path : goal.invariant-loop-path
invariant-loop-path g l = (l.self.files ≡ l.fn.self.files)
    × (l.has_failed ≡ false → AreSame (model g) (to_path l.fn.wished.load) l.fn.self.files
    (to_texts (take l.path-index l.fn.paths)) (l.fn.self.input, l.self.input)
    × ((g.O.Target.failed l.self.output ≡ g.O.Target.failed l.fn.self.output)))
    × (l.has_failed ≡ true → HasFailure (model g) (to_path l.fn.wished.load) l.fn.self.files
    (to_texts (take l.path-index l.fn.paths)) l.fn.self.input ⊎ (0 < g.O.Target.failed l.self.output))
