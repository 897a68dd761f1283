use Rattle.std.proofs.{Common.arith, lemmas.Bool.eqb-true, lemmas.Bool.eqb-false}
use Rattle.session_log.proofs.Spelled.{moment_read, no_empty_moment, no_padded_moment}
use Rattle.session_log.proofs.line.parse_time.Goals.{then-is_empty-via-then-is_empty}
use Rattle.session_log.proofs.line.parse_time.Goals.{then-is_empty-via-else-is_empty+then-is_padded}
use Rattle.session_log.proofs.line.parse_time.Goals as goal

pub returns-then-is_empty : goal.returns-then-is_empty
returns-then-is_empty c =
    search (
      arith,
      then-is_empty-via-then-is_empty,
      no_empty_moment,
      eqb-true,
      then-is_empty-via-else-is_empty+then-is_padded,
      no_padded_moment,
    )

pub returns : goal.returns
returns c = search (arith, moment_read, eqb-false)
