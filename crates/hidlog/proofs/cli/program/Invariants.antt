use Rattle.std.{proofs.Common.◌≡◌, proofs.Common.take, specs.List.fold}
use Rattle.clap.specs.Words.{app_of}
use Rattle.hidlog.proofs.CommandLine.{alone, with_entry}
use Rattle.hidlog.proofs.cli.program.Given as goal

abbrev pub invariant-loop-entry : goal.invariant-loop-entry
invariant-loop-entry l = app_of l.program ≡ fold with_entry alone (take l.entry-index l.entry-items)
