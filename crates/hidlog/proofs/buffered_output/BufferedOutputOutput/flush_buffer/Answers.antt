use Rattle.std.proofs.Common.{drop, take, subst, ap, ◌∙◌}
use Rattle.std.specs.Io.KnownBytes.{Appends}
use Rattle.hidlog.proofs.Compared.{handed}
use Rattle.hidlog.proofs.buffered_output.BufferedOutputOutput.flush_buffer.Goals as goal

pub waiting-preserved : goal.waiting-preserved
waiting-preserved g c =
    let taken = g.T.Target.taken in
    let old = c.waiting.self in
    let n = c.in_ok-self.field-0 in
    record {
      same = c.in_ok-self.ensures.counted ∙ c.waiting.invariant.same;
      kept = handed _ (taken old.inner) (taken c.put.new.self) old.at n old.bytes.items c.waiting.invariant.kept
          (subst (λ l. Appends (taken old.inner) (taken c.put.new.self) (take n l))
          (c.split_at.ensures.back ∙ ap (drop old.at) c.as_slice.ensures.value) c.in_ok-self.ensures.bytes);
    }
