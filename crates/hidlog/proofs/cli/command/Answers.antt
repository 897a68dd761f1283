use Rattle.std.proofs.Common.{take, get_or, ◌∙◌, ◌||◌, ap, ap₂, sym, map}
use Rattle.std.proofs.lemmas.List.{take_more}
use Rattle.hidlog.{proofs.CommandLine.one_more, specs.CommandLine.command, specs.CommandLine.rule_for}
use Rattle.hidlog.proofs.cli.command.Goals as goal

pub loop-parameter-preserved : goal.loop-parameter-preserved
loop-parameter-preserved c =
    let at = c.loop-parameter in
    let i = at.parameter-index in
    let word = c.args.entry.now.word.now in
    let all = c.args.entry.now.parameters.now in
    let adds = c.in_ok-command.ensures in (
      one_more at.command c.in_ok-command.command c.argument.result word (take i all) (get_or all i _) adds
          at.invariant.0 c.argument.ensures.rule c.argument.ensures.local
          ∙ ap (λ some. command word (map rule_for some)) (sym (take_more all i _ c.loop-parameter-test.true)),
      adds.globals ∙ ap₂ ◌||◌ at.invariant.1 c.argument.ensures.local,
    )
