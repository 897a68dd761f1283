-- The task that the arguments of the command line specify, with the rules of the crate `clap`.
use Rattle.std.specs.Prelude.{◌≡◌, ℕ, Bool, true, false, List, [], ◌∷◌, Option, Some, None, codes, option_map}
use Rattle.std.specs.Prelude.{option_and_then, unwrap_or, map, if◌then◌else◌}
use Rattle.std.specs.{Borrow.Bor, Option.option_map_or, Str.bytes_eq}
use Rattle.clap.specs.Simple.{App, Shape, new_rule, new_shape, subcommand_of}
use Rattle.clap.specs.{Kinds.Kinds, Faults.fault_of, Walk.Row, Walk.Rule, Walk.all_of, Walk.first_of}
use Rattle.clap.specs.declared.builder.action.ArgAction.TheVariants.{Append, SetTrue}
use Rattle.hidlog.specs.declared.args.{ShowFormat.ShowFormat, Verbosity.Verbosity, CommandOptions.CommandOptions}
use Rattle.hidlog.specs.declared.args.{Invocation.Invocation, Action.Action}
use Rattle.hidlog.specs.declared.args.ShowFormat.TheVariants.{Json, JsonSummary, Lines, Summary}
use Rattle.hidlog.specs.declared.cli.{CommandEntry.CommandEntry, CommandParameter.CommandParameter}
use Rattle.hidlog.specs.declared.cli.ParameterForm.{ParameterForm, TheVariants.Flag, TheVariants.Log, TheVariants.Logs, TheVariants.PathOption}
use Rattle.hidlog.specs.declared.args.Verbosity.TheVariants.{ByTerminal, Explained, Fixed}
use Rattle.hidlog.specs.declared.args.Action.TheVariants.{Play, Check, Show}
use Rattle.session_log.specs.declared.command.ReplayMode.{ReplayMode}
use Rattle.session_log.specs.declared.command.ReplayMode.TheVariants as playing

-- ---- the grammar

-- An option that takes the path of a snapshot.
abbrev pub path_option : List ℕ → Rule
path_option name = record (new_rule name) { long = Some name; value_names = 1 }

-- An option without a value.
abbrev pub flag : List ℕ → Rule
flag name = record (new_rule name) { long = Some name; action = Some SetTrue }

-- The positional argument with the path of a log.
abbrev pub log_path : Rule
log_path = record (new_rule (codes "log")) { value_names = 1 }

-- The positional arguments with the paths of any number of logs.
abbrev pub log_paths : Rule
log_paths = record (new_rule (codes "log")) { value_names = 1; action = Some Append }

-- The options --explain and --plain, which each command takes, followed by the arguments with its logs.
abbrev pub with_text_options : Rule → List Rule
with_text_options logs = flag (codes "explain") ∷ flag (codes "plain") ∷ logs ∷ []

-- A command with this name and these options.
abbrev pub command : List ℕ → List Rule → Shape
command name options = record (new_shape name) { rules = options }

-- The rule of clap for an argument of this form.
abbrev pub rule_of_form : ParameterForm → List ℕ → Rule
rule_of_form PathOption word = path_option word
rule_of_form Flag word = flag word
rule_of_form Log word = record (new_rule word) { value_names = 1 }
rule_of_form Logs word = record (new_rule word) { value_names = 1; action = Some Append }

-- The rule of clap for a parameter in the code's table of commands.
abbrev pub rule_for : CommandParameter → Rule
rule_for parameter = rule_of_form parameter.form parameter.word.now

-- The command of clap for an entry of the code's table of commands.
abbrev pub command_for : CommandEntry → Shape
command_for entry = command entry.word.now (map rule_for entry.parameters.now)

-- The five commands. The command line must contain one of them. clap adds `help`, `--help` and `--version`.
abbrev pub grammar : App
grammar = record {
  top = record (new_shape (codes "hidlog")) { has_version = true; subcommand_required = true; is_leaf = false };
  subs = command (codes "replay") (path_option (codes "load") ∷ path_option (codes "save") ∷ with_text_options log_path)
      ∷ command (codes "live") (path_option (codes "load") ∷ path_option (codes "save") ∷ with_text_options log_path)
      ∷ command (codes "check") (path_option (codes "load") ∷ flag (codes "all") ∷ flag (codes "json")
      ∷ with_text_options log_paths)
      ∷ command (codes "quiet") (path_option (codes "load") ∷ with_text_options log_path)
      ∷ command (codes "show") (flag (codes "summary") ∷ flag (codes "json") ∷ flag (codes "wide") ∷ with_text_options log_path)
      ∷ [];
}

-- The kinds of clap's errors for these arguments, including help and version. The list is empty if the arguments are
-- valid.
unfoldable pub argument_errors : List (List ℕ) → Kinds
argument_errors words = fault_of grammar words

-- ---- tasks

-- The task that the arguments specify, with the paths of snapshots and logs.
pub data Task : Type 0 where
  play : (command : ReplayMode) (load save log : Option (List ℕ)) → Task
  check : (load : Option (List ℕ)) (all json : Bool) (logs : List (List ℕ)) → Task
  show : (form : ShowFormat) (wide : Bool) (log : Option (List ℕ)) → Task

-- The bytes of a path, if any.
abbrev pub to_path : Option (Bor (List ℕ)) → Option (List ℕ)
to_path = option_map (λ path. path.now)

-- The bytes of these texts.
abbrev pub to_texts : List (Bor (List ℕ)) → List (List ℕ)
to_texts words = map (λ word. word.now) words

-- Converts the code's `Action`, with the paths of all logs, to a `Task`.
abbrev pub to_task : Action → (logs : List (List ℕ)) → Task
to_task (Play p) logs = play p.command (to_path p.load) (to_path p.save) (to_path p.log)
to_task (Check load all json) logs = check (to_path load) all json logs
to_task (Show form wide log) logs = show form wide (to_path log)

-- Whether this option without a value is present.
abbrev pub is_set : List ℕ → List Row → Bool
is_set name found = option_map_or (λ text. bytes_eq text (codes "true")) (first_of name found) false

-- The output format that the options select.
abbrev pub show_format : List Row → ShowFormat
show_format found =
    if is_set (codes "json") found then if is_set (codes "summary") found then JsonSummary else Json
    else if is_set (codes "summary") found then Summary else Lines

-- The level of detail that the options select. `--plain` overrides `--explain`.
abbrev pub verbosity_of : List Row → Verbosity
verbosity_of found = if is_set (codes "plain") found then Fixed
    else if is_set (codes "explain") found then Explained else ByTerminal

-- Whether texts are explained. Unless an option decides, only texts on a terminal are.
abbrev pub explains : Verbosity → (is_terminal : Bool) → Bool
explains Explained is_terminal = true
explains Fixed is_terminal = false
explains ByTerminal is_terminal = is_terminal

-- The paths of the logs.
abbrev pub log_paths_of : List Row → List (List ℕ)
log_paths_of found = unwrap_or (all_of (codes "log") found) []

-- Converts the code's `Invocation` to a `Task` and a `Verbosity`.
abbrev pub task_and_verbosity : Invocation → Task × Verbosity
task_and_verbosity asked = (to_task asked.task (to_texts asked.logs.items), asked.verbosity)

-- The code's options are those that clap parsed.
abbrev pub AreParsedOptions : CommandOptions → List Row → Type 0
AreParsedOptions options found = (to_path options.load ≡ first_of (codes "load") found)
    × (to_path options.save ≡ first_of (codes "save") found)
    × (to_path options.log ≡ first_of (codes "log") found)
    × (options.all ≡ is_set (codes "all") found)
    × (options.json ≡ is_set (codes "json") found)
    × (options.wide ≡ is_set (codes "wide") found)
    × (options.form ≡ show_format found)
    × (options.verbosity ≡ verbosity_of found)

-- The task of a command, from its name, its options and the paths of all logs.
abbrev pub task_for : List ℕ → CommandOptions → (logs : List (List ℕ)) → Option Task
task_for name options logs =
    if bytes_eq name (codes "replay") then
    Some (play playing.Replay (to_path options.load) (to_path options.save) (to_path options.log))
    else if bytes_eq name (codes "live") then
    Some (play playing.Live (to_path options.load) (to_path options.save) (to_path options.log))
    else if bytes_eq name (codes "check") then Some (check (to_path options.load) options.all options.json logs)
    else if bytes_eq name (codes "quiet") then
    Some (play playing.Quiet (to_path options.load) None (to_path options.log))
    else if bytes_eq name (codes "show") then Some (show options.form options.wide (to_path options.log))
    else None

-- The task of a command, from its name and its parsed options.
abbrev pub task_from_options : List ℕ → List Row → Option Task
task_from_options name found =
    if bytes_eq name (codes "replay") then Some (play playing.Replay (first_of (codes "load") found)
    (first_of (codes "save") found) (first_of (codes "log") found))
    else if bytes_eq name (codes "live") then Some (play playing.Live (first_of (codes "load") found)
    (first_of (codes "save") found) (first_of (codes "log") found))
    else if bytes_eq name (codes "check") then Some (check (first_of (codes "load") found)
    (is_set (codes "all") found) (is_set (codes "json") found) (log_paths_of found))
    else if bytes_eq name (codes "quiet") then Some (play playing.Quiet (first_of (codes "load") found) None
    (first_of (codes "log") found))
    else if bytes_eq name (codes "show") then Some (show (show_format found) (is_set (codes "wide") found)
    (first_of (codes "log") found))
    else None

-- The task and the level of detail of a command, from its name and its parsed options.
abbrev pub command_task : List ℕ × List Row → Option (Task × Verbosity)
command_task (name, found) = option_map (λ ask. (ask, verbosity_of found)) (task_from_options name found)

-- The task and the level of detail, or None if clap reports an error.
abbrev pub unless : Kinds → Option (Task × Verbosity) → Option (Task × Verbosity)
unless [] ask = ask
unless (kind ∷ kinds) ask = None

-- The task and the level of detail that the arguments specify, or None if the arguments are invalid. The first
-- argument is the program's name.
unfoldable pub parsed_command_line : List (List ℕ) → Option (Task × Verbosity)
parsed_command_line words = unless (argument_errors words) (option_and_then command_task (subcommand_of grammar words))

-- The path of a log, or None for standard input, which is used without a path and for `-`.
abbrev pub named : Option (List ℕ) → Option (List ℕ)
named = option_and_then (λ path. if bytes_eq path (codes "-") then None else Some path)
