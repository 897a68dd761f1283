use Rattle.std.proofs.Common.{Some, [], ◌∙◌, ap, sym, option_map, arith}
use Rattle.hidlog.{specs.declared.args.Verbosity.TheVariants.ByTerminal, proofs.CommandLine.alone_asks}
use Rattle.hidlog.specs.CommandLine.{to_task, to_texts}
use Rattle.hidlog.proofs.args.parse_without_options.Goals as goal

pub returns-in-Some : goal.returns-in-Some
returns-in-Some c =
    alone_asks c.args.words.now _ (to_task c.in-Some.task []) (omega (arith, c.in-len2.len_at_least))
    (omega (arith, c.in-len2.len_below)) (sym (c.task.ensures []) ∙ ap (option_map (λ task. to_task task [])) c.in-Some.is)
    ∙ ap (λ logs. Some (to_task c.in-Some.task (to_texts logs), ByTerminal)) (sym c.new.ensures.items)
