use Rattle.std.proofs.Common.{codes}
use Rattle.clap.specs.Matches.{found_of}
use Rattle.hidlog.{specs.CommandLine.to_path, proofs.CommandLine.path_is}
use Rattle.hidlog.proofs.args.parse_options.Goals as goal

pub returns : goal.returns
returns c =
    let found = found_of c.args.options.now in (
      path_is found (codes "load") (to_path c.get_str.result) c.get_str.ensures,
      path_is found (codes "save") (to_path c.get_str-2.result) c.get_str-2.ensures,
      path_is found (codes "log") (to_path c.get_str-3.result) c.get_str-3.ensures,
      c.is_set.ensures,
      c.is_set-2.ensures,
      c.is_set-3.ensures,
      c.parse_show_format.ensures,
      c.parse_verbosity.ensures,
    )
