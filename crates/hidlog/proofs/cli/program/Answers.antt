use Rattle.std.proofs.Common.{arith, rules}
use Rattle.hidlog.proofs.CommandLine.{all_commands, one_command_more}
use Rattle.hidlog.proofs.cli.program.Goals as goal

pub loop-entry-init : goal.loop-entry-init
loop-entry-init c = search rules

pub loop-entry-preserved : goal.loop-entry-preserved
loop-entry-preserved c =
    one_command_more c.loop-entry.program c.in-Ok.command c.in_ok-program-in-Ok.program _
    c.loop-entry.entry-index _ c.in_ok-program-in-Ok.ensures c.in-Ok.ensures.local c.in-Ok.ensures.shape
    c.loop-entry-test.true c.loop-entry.invariant

pub returns : goal.returns
returns c =
    all_commands c.loop-entry.program _ c.loop-entry.entry-index c.loop-entry.invariant
    (omega (arith, c.loop-entry-test.false, c.loop-entry.auto.entry-index-end))
