use Rattle.std.proofs.Common.{◌∙◌, ap}
use Rattle.clap.specs.Matches.{found_of}
use Rattle.hidlog.{specs.CommandLine.to_texts, proofs.CommandLine.logs_are, proofs.CommandLine.no_logs}
use Rattle.hidlog.proofs.args.parse_logs.Goals as goal

pub returns-in_ok-logs-in-Some : goal.returns-in_ok-logs-in-Some
returns-in_ok-logs-in-Some c =
    ap to_texts (c.in_ok-logs-in-Some.ensures.items_if_clones_equal (λ x y same. same))
    ∙ logs_are (found_of c.args.options.now) (to_texts c.in-Some.paths.now) c.in-Some.ensures

pub returns-in-None : goal.returns-in-None
returns-in-None c = ap to_texts c.new.ensures.items ∙ no_logs (found_of c.args.options.now) c.in-None.ensures
