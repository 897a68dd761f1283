use Rattle.std.proofs.Common.{arith}
use Rattle.session_log.specs.{Check.first_comparison, Lines.lines, Replay.history_semantics}
use Rattle.session_log.proofs.Groups.{check_is_silent, same_groups, counts_on}
use Rattle.session_log.proofs.laws.logs_without_differences_have_the_specified_packets.Goals as goal

pub returns-clause-same : goal.returns-clause-same
returns-clause-same c = λ start h bytes sound. same_groups (history_semantics start) 1 (first_comparison h) (lines bytes) sound

pub returns-clause-inputs : goal.returns-clause-inputs
returns-clause-inputs c = search (arith, counts_on)

pub returns-clause-packets : goal.returns-clause-packets
returns-clause-packets c = search (arith, counts_on)

pub returns-clause-silent : goal.returns-clause-silent
returns-clause-silent c = λ start h bytes. check_is_silent (history_semantics start) 1 (first_comparison h) (lines bytes)
