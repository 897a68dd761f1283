use Rattle.std.proofs.Common.{◌≡◌, ◌-◌, drop, vec_len}
use Rattle.std.specs.Io.KnownBytes.{Keeps, append_known}
use Rattle.hidlog.proofs.buffered_output.BufferedOutputOutput.flush_buffer.Given as goal

-- what was taken stays
abbrev pub invariant-waiting : goal.invariant-waiting
invariant-waiting g l =
    let taken = g.T.Target.taken in
    record {
      same : g.T.Target.failed l.self.inner ≡ g.T.Target.failed l.fn.self.inner;
      kept : Keeps (append_known (taken l.fn.self.inner) (drop l.fn.self.at l.fn.self.bytes.items))
          (append_known (taken l.self.inner) (drop l.self.at l.self.bytes.items));
    }

abbrev pub decreases-waiting : goal.decreases-waiting
decreases-waiting g l = vec_len l.self.bytes - l.self.at
