use Rattle.std.proofs.Common.{◌≡◌, take, false, map}
use Rattle.clap.specs.{Words.shape_of, declared.builder.command.Command.TheViews.out-Command as fields_of}
use Rattle.hidlog.specs.CommandLine.{command, rule_for}
use Rattle.hidlog.proofs.cli.command.Given as goal

abbrev pub invariant-loop-parameter : goal.invariant-loop-parameter
invariant-loop-parameter l = (shape_of l.command ≡ command l.fn.entry.word.now
    (map rule_for (take l.parameter-index l.fn.entry.parameters.now)))
    × ((fields_of l.command).has_globals ≡ false)
