use Rattle.std.{proofs.Common.◌≡◌, proofs.Common.ℕ, proofs.Common.List, specs.Io.KnownBytes.Appends}
use Rattle.session_show.proofs.chunked.put_chunks.Given as goal

-- the parts so far were appended, and no call failed
abbrev pub invariant-parts : goal.invariant-parts
invariant-parts g l = record {
  text : (text : List ℕ) × Appends (g.T.Target.taken l.fn.writer) (g.T.Target.taken l.writer) text;
  failures : g.T.Target.failed l.writer ≡ g.T.Target.failed l.fn.writer;
}
