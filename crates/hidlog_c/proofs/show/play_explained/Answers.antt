use Rattle.std.proofs.Common.{ℕ, List, rules}
use Rattle.session_log.specs.{Replay.Ending, Replay.Plays}
use Rattle.session_show.specs.Shown.{IsLineText, IsTextUpTo, read_only_semantics}
use Rattle.session_show.specs.declared.detail.Detail.TheVariants.{Explained}
use Rattle.hidlog_c.proofs.Written.{written}
use Rattle.hidlog_c.proofs.show.play_explained.Goals as goal

pub returns-clause-shown : goal.returns-clause-shown
returns-clause-shown c =
    let parsed = c.explain.ensures in
    let Q : List ℕ → List ℕ → Ending → Type 0 =
    λ bytes text ending. (lines : List ℕ) × Plays read_only_semantics tt tt bytes lines ending
    × IsTextUpTo (IsLineText Explained) lines text ending in
    written read_only_semantics tt c.explain.result c.args.log.now (c.new.result, c.explain.new.reader)
    (c.args.writer.now, c.explain.new.writer) Q _
    (λ bytes rest text shown finds. (shown, finds)) c.new.ensures.left (search rules) parsed.shown parsed.reach parsed.end
    parsed.reads parsed.writes
