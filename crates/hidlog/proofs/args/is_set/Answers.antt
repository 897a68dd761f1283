use Rattle.std.proofs.Common.{Some, None, codes, ◌∙◌, ap, false}
use Rattle.std.specs.{Option.option_map_or, Str.bytes_eq}
use Rattle.clap.specs.Matches.{found_of}
use Rattle.hidlog.proofs.CommandLine.{path_is}
use Rattle.hidlog.proofs.args.is_set.Goals as goal

pub returns-in-Some : goal.returns-in-Some
returns-in-Some c =
    c.eq.ensures ∙ ap (λ o. option_map_or (λ text. bytes_eq text (codes "true")) o false)
    (path_is (found_of c.args.options.now) c.args.name.now (Some c.in-Some.text.now) c.in-Some.ensures)

pub returns-in-None : goal.returns-in-None
returns-in-None c =
    ap (λ o. option_map_or (λ text. bytes_eq text (codes "true")) o false)
    (path_is (found_of c.args.options.now) c.args.name.now None c.in-None.ensures)
