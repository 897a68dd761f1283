use Rattle.std.proofs.Common.{◌≡◌, [], ◌∙◌, is_some, option_and_then, option_map, ap, sym, true, false}
use Rattle.clap.{specs.Words.HasKind, specs.Words.app_of, specs.Words.subcommand_rows_of, proofs.TakesLemmas.passed_up}
use Rattle.hidlog.specs.CommandLine.{argument_errors, command_task, task_and_verbosity, to_texts}
use Rattle.hidlog.proofs.CommandLine.{asked_is, asked_some, faults_are}
use Rattle.hidlog.proofs.args.parse_args.Goals as goal

pub returns-in_err-matches-clause-answer : goal.returns-in_err-matches-clause-answer
returns-in_err-matches-clause-answer c =
    passed_up c.from_residual-in_err-matches.result c.in_err-matches.field-0.0 (HasKind (argument_errors (to_texts c.args.words.now)))
    c.from_residual-in_err-matches.ensures.1
    (faults_are (app_of c.in_ok-program.field-0) (to_texts c.args.words.now)
    (λ kinds. HasKind kinds c.in_err-matches.field-0.0) c.in_ok-program.ensures c.in_err-matches.ensures.kinds)

pub returns-clause-task : goal.returns-clause-task
returns-clause-task c =
    let none = faults_are (app_of c.in_ok-program.field-0) (to_texts c.args.words.now) (λ kinds. kinds ≡ [])
    c.in_ok-program.ensures c.in_ok-matches.ensures.kinds in
    asked_is (app_of c.in_ok-program.field-0) (to_texts c.args.words.now) c.in_ok-matches.matches
    c.in_ok-program.ensures c.in_ok-matches.ensures.matches none
    ∙ (sym c.in_ok-asked.ensures ∙ ap (option_map task_and_verbosity) c.in-Some-2.is)

pub unreachable-requires : goal.unreachable-requires
unreachable-requires c =
    let none = faults_are (app_of c.in_ok-program.field-0) (to_texts c.args.words.now) (λ kinds. kinds ≡ [])
    c.in_ok-program.ensures c.in_ok-matches.ensures.kinds in
    let some : is_some (option_and_then command_task (subcommand_rows_of c.in_ok-matches.matches)) ≡ true =
    asked_some (app_of c.in_ok-program.field-0) (to_texts c.args.words.now) c.in_ok-matches.matches
    c.in_ok-program.ensures c.in_ok-matches.ensures.matches none in
    let no : false ≡ is_some (option_and_then command_task (subcommand_rows_of c.in_ok-matches.matches)) =
    ap is_some (sym (ap (option_map task_and_verbosity) c.in-None.is) ∙ c.in_ok-asked.ensures) in
    let bad : false ≡ true = no ∙ some in cc
