-- What follows from the rules of clap for the words of the program.
use Rattle.std.proofs.Common.{◌≡◌, ◌≢◌, ◌⊎◌, inl, inr, ℕ, List, [], ◌∷◌, Option, Some, None, MatchOption, refl, subst}
use Rattle.std.proofs.Common.{Bool, true, false, not, ◌&&◌, ◌++◌, ◌+◌, ◌<◌, ap₂, length, take, get_or, map, is_some}
use Rattle.std.proofs.Common.{codes, option_and_then, option_map, unwrap_or, sym, ◌∙◌, ap, cond, if◌then◌else◌, ◌||◌}
use Rattle.std.proofs.Common.{◌≤◌, arith}
use Rattle.clap.specs.Kinds.{IsAmong, Kinds, or_else, check_kinds}
use Rattle.clap.specs.declared.error.kind.ErrorKind.{ErrorKind}
use Rattle.clap.specs.declared.error.kind.ErrorKind.TheVariants.{OutOfMemory}
use Rattle.hidlog.specs.declared.args.Verbosity.{Verbosity}
use Rattle.hidlog.specs.CommandLine.{Task, argument_errors, parsed_command_line, unless, command, command_for}
use Rattle.hidlog.specs.CommandLine.{rule_for, command_task, grammar, log_paths_of, play, check, show, task_for}
use Rattle.hidlog.specs.CommandLine.{to_texts}
use Rattle.std.specs.Borrow.{Bor}
use Rattle.std.specs.List.{fold, slice_index_or}
use Rattle.std.specs.Str.{bytes_eq}
use Rattle.std.proofs.lemmas.Slice.Eq.{bytes_eq-Decides}
use Rattle.std.proofs.lemmas.List.{map-append, take_more}
use Rattle.std.proofs.lemmas.List.Sums.{fold-append}
use Rattle.clap.proofs.OnLiterals.{clap_on_literals}
use Rattle.clap.proofs.WalkLemmas.{first_value-rows, raw_values-rows}
use Rattle.clap.specs.Built.{AddsArg, AddsSubcommand}
use Rattle.clap.specs.declared.builder.arg.Arg.{Arg}
use Rattle.clap.specs.Simple.{with_subcommand, new_app, on_top, App, HasMatchesOf, Shape, is_simple, subcommand_of}
use Rattle.clap.specs.Simple.{argument_words, built, entered, help_shape, names_of, rows_at, shape_of, app_of}
use Rattle.clap.specs.Simple.{subcommand_rows_of}
use Rattle.clap.specs.Lexer.{long_of, short_of}
use Rattle.clap.specs.Walk.{rule_of, Held, Names, Outcome, done as done_of_walk, waits, plain, refused, Rule, Step}
use Rattle.clap.specs.Walk.{next, trailing, subcommand, value, Text, Waiting, idle, option, positional, Walk}
use Rattle.clap.specs.Walk.{after_flag, after_step, arg_by_index, arg_by_long, bundle, finished, long_met}
use Rattle.clap.specs.Walk.{long_or_other, plain_word, settled, short_or_plain, subcommand_met, subcommand_or_other}
use Rattle.clap.specs.Walk.{to_positional, walk, walk_from, walked, word_met, nothing_held, first_of, rows_of}
use Rattle.clap.specs.Faults.{fault_of, check_fault, defaults_fault, entered_fault, level_fault, other_fault}
use Rattle.clap.specs.Faults.{settle_fault, step_fault, turn_fault, walk_fault, word_fault, is_simple_and_free}
use Rattle.clap.specs.Matches.{first_value, matched_of, raw_values}
use Rattle.clap.specs.declared.builder.command.Command.{Command}
use Rattle.clap.specs.declared.builder.command.Command.TheViews.{out-Command as fields_of}
use Rattle.clap.specs.declared.parser.matches.ArgMatches.{ArgMatches}
use Rattle.clap.specs.declared.parser.matches.Found.{Found}
use Rattle.hidlog.specs.declared.args.CommandOptions.{CommandOptions}
use Rattle.hidlog.specs.declared.args.ShowFormat.TheVariants.{Lines}
use Rattle.hidlog.specs.declared.args.Verbosity.TheVariants.{ByTerminal}
use Rattle.hidlog.specs.declared.cli.CommandEntry.{CommandEntry}
use Rattle.hidlog.specs.declared.cli.CommandParameter.{CommandParameter}
use Rattle.clap.specs.declared.error.kind.ErrorKind.TheVariants as kind
use Rattle.session_log.specs.declared.command.ReplayMode.TheVariants as playing

-- ---- what the program answers where no task was found

no_kinds : (kinds : Kinds) (found : Option (Task × Verbosity)) (ask : Task × Verbosity) → unless kinds found ≡ Some ask →
    kinds ≡ []
no_kinds [] found ask is = refl
no_kinds (kind ∷ kinds) found ask is = cc

-- Words that ask for something have no fault.
faultless : (words : List (List ℕ)) (ask : Task × Verbosity) → parsed_command_line words ≡ Some ask → argument_errors words ≡ []
unfolding parsed_command_line
faultless words ask is = no_kinds (argument_errors words) _ ask is

only_memory : (kind : ErrorKind) (kinds : Kinds) → kinds ≡ [] → IsAmong kind (OutOfMemory ∷ kinds) → kind ≡ OutOfMemory
only_memory kind kinds none (inl memory) = memory
only_memory kind kinds none (inr other) = absurd (subst (IsAmong kind) none other)

lacks_memory : {L H : Type 0} (kind : ErrorKind) → kind ≡ OutOfMemory → L ⊎ ((kind ≢ OutOfMemory) × H) → L
lacks_memory kind memory (inl lacks) = lacks
lacks_memory kind memory (inr other) = absurd (other.0 memory)

-- Where the words ask for something, memory was wanting.
pub unasked : {L H Q : Type 0} (P : Task × Verbosity → Type 0) (words : List (List ℕ)) (kind : ErrorKind) →
    IsAmong kind (OutOfMemory ∷ argument_errors words)
    → L ⊎ ((kind ≢ OutOfMemory) × H) → Q → MatchOption (parsed_command_line words) Q (λ ask. P ask ⊎ L)
unasked {L} {H} {Q} P words kind among explained answer = go (parsed_command_line words) refl
  where
    go : (o : Option (Task × Verbosity)) → parsed_command_line words ≡ o → MatchOption o Q (λ ask. P ask ⊎ L)
    go None is = answer
    go (Some ask) is = inr (lacks_memory kind (only_memory kind (argument_errors words) (faultless words ask is) among)
        explained)

-- Where the words ask for something, that is done.
pub done : (Q : Type 0) (P : Task × Verbosity → Type 0) (words : List (List ℕ)) (ask : Task × Verbosity) →
    parsed_command_line words ≡ Some ask → P ask → MatchOption (parsed_command_line words) Q P
done Q P words ask is h = rw is h

-- ---- what follows from the rules of `clap` for the words of the program

-- the rules of which clap's clauses speak
is_simple_grammar : is_simple_and_free grammar ≡ true
unfolding clap_on_literals
is_simple_grammar = refl

or_else_none : (a b : Kinds) → or_else a b ≡ [] → (a ≡ []) × (b ≡ [])
or_else_none [] b e = (refl, e)
or_else_none (k ∷ ks) b e = cc

-- A fault is found in the command `help`, so that a walk over words without fault stops at none.
abbrev NoHelp : Option (Text × List Text) → Type 0
NoHelp None = Unit {0}
NoHelp (Some stop) = stop.0 ≡ codes "help" → ⊥

abbrev NamesNothing : Step → Type 0
NamesNothing (next waiting) = Unit {0}
NamesNothing (trailing position) = Unit {0}
NamesNothing (subcommand name) = ⊥
NamesNothing value = Unit {0}

-- A word that is no command names none.
plain_names : (c : List Rule) (waiting : Waiting) (word : Text) (h : Held) →
    NamesNothing (plain_word c waiting word h).1
plain_names c idle word h = tt
plain_names c (option id) word h = tt
plain_names c positional word h = tt

flag_names : (c : List Rule) (waiting : Waiting) (word : Text) (h : Held) (met : Outcome) →
    NamesNothing (after_flag c waiting word h met).1
flag_names c waiting word h done_of_walk = tt
flag_names c waiting word h (waits id) = tt
flag_names c waiting word h plain = plain_names c waiting word h
flag_names c waiting word h refused = plain_names c waiting word h

short_names : (c : List Rule) (waiting : Waiting) (word : Text) (flags : Option Text) (h : Held) →
    NamesNothing (short_or_plain c waiting word flags h).1
short_names c waiting word None h = plain_names c waiting word h
short_names c waiting word (Some flags) h = flag_names c waiting word (bundle c flags h).0 (bundle c flags h).1

long_names : (c : List Rule) (waiting : Waiting) (word : Text) (long : Option (Text × Option Text)) (h : Held) →
    NamesNothing (long_or_other c waiting word long h).1
long_names c waiting word None h = short_names c waiting word (short_of word) h
long_names c waiting word (Some p) h =
    flag_names c waiting word (long_met c (arg_by_long c p.0) p.1 h).0 (long_met c (arg_by_long c p.0) p.1 h).1

other_names : (c : List Rule) (waiting : Waiting) (position : ℕ) (word : Text) (h : Held) →
    NamesNothing (subcommand_or_other c None waiting position word h).1
other_names c waiting position word h = go (bytes_eq word (45 ∷ 45 ∷ []))
  where
    go : (b : Bool) → NamesNothing (if b then (h, trailing position) else long_or_other c waiting word (long_of word)
        h).1
    go true = tt
    go false = long_names c waiting word (long_of word) h

-- Where no fault is found in a word, the walk doesn't stop at `help`.
positional_goes_on : (c : List Rule) (a : Option Rule) (word : Text) (w : Walk) (h : Held) → NoHelp w.stopped →
    NoHelp (to_positional c a word w h).stopped
positional_goes_on c None word w h so_far = so_far
positional_goes_on c (Some a) word w h so_far = tt

step_goes_on : (c : List Rule) (word : Text) (w : Walk) (h : Held) (step : Step) → NamesNothing step →
    NoHelp w.stopped → NoHelp (after_step c word w h step).stopped
step_goes_on c word w h (next waiting) none so_far = so_far
step_goes_on c word w h (trailing position) none so_far = so_far
step_goes_on c word w h (subcommand name) none so_far = absurd none
step_goes_on c word w h value none so_far = positional_goes_on c (arg_by_index c w.position) word w h so_far

no_help_named : (k : Kinds) (disabled is_help : Bool) → disabled ≡ false →
    (if is_help && not disabled then kind.DisplayHelp ∷ k else []) ≡ [] → is_help ≡ false
no_help_named k disabled false enabled none = refl
no_help_named k false true enabled none = cc
no_help_named k true true enabled none = cc

command_goes_on : (s : Shape) (met : Option Text) (word : Text) (w : Walk) → s.disable_help_subcommand ≡ false →
    NoHelp w.stopped
    → other_fault s met word w.held ≡ []
    → NoHelp (after_step s.rules word w (subcommand_or_other s.rules met w.waiting w.position word w.held).0
    (subcommand_or_other s.rules met w.waiting w.position word w.held).1).stopped
command_goes_on s (Some name) word w enabled so_far faultless =
    let other = no_help_named _ s.disable_help_subcommand (bytes_eq name (codes "help")) enabled faultless in
    λ same. let is : bytes_eq name (codes "help") ≡ true = (bytes_eq-Decides name (codes "help")).1 same in cc
command_goes_on s None word w enabled so_far faultless =
    step_goes_on s.rules word w _ _ (other_names s.rules w.waiting w.position word w.held) so_far

turn_goes_on : (s : Shape) (names : Names) (held : Held) (waiting : Waiting) (position : ℕ) (is_trailing : Bool)
    (stopped : Option (Text × List Text)) (word : Text)
    → s.disable_help_subcommand ≡ false → NoHelp stopped
    → turn_fault s names (record
    { held = held; waiting = waiting; position = position; is_trailing = is_trailing; stopped = stopped }) word ≡ []
    → NoHelp (walked s.rules names
    (record { held = held; waiting = waiting; position = position; is_trailing = is_trailing; stopped = stopped })
    word).stopped
unfolding walked
turn_goes_on s names held waiting position is_trailing (Some stop) word enabled so_far faultless = so_far
turn_goes_on s names held waiting position true None word enabled so_far faultless =
    positional_goes_on s.rules (arg_by_index s.rules position) word _ held tt
turn_goes_on s names held waiting position false None word enabled so_far faultless =
    command_goes_on s (subcommand_met names waiting word) word
    (record { held = held; waiting = waiting; position = position; is_trailing = false; stopped = None }) enabled tt
    (or_else_none (word_fault s names false waiting word held)
    (step_fault s position (word_met s.rules names false waiting position word held).0
    (word_met s.rules names false waiting position word held).1) faultless).0

walk_goes_on : (s : Shape) (names : Names) (words : List Text) (w : Walk) → s.disable_help_subcommand ≡ false →
    NoHelp w.stopped
    → walk_fault s names w words ≡ [] → NoHelp (fold (walked s.rules names) w words).stopped
unfolding walk_fault
walk_goes_on s names [] w enabled so_far faultless = so_far
walk_goes_on s names (word ∷ words) w enabled so_far faultless =
    let parts = or_else_none (turn_fault s names w word) (walk_fault s names (walked s.rules names w word) words)
    faultless in
    walk_goes_on s names words (walked s.rules names w word) enabled
    (turn_goes_on s names w.held w.waiting w.position w.is_trailing w.stopped word enabled so_far parts.0) parts.1

-- the parts of a parse of which none has a fault
level_parts : (s : Shape) (names : Names) (h : Held) (words : List Text) (has : Bool) (below : Kinds) →
    level_fault s names h words has below ≡ []
    → (walk_fault s names (walk_from h) words ≡ []) × (check_fault s
    (finished s.rules (walk s.rules names h words).held) has ≡ [])
level_parts s names h words has below faultless =
    let end = (walk s.rules names h words).held in
    let settle = settle_fault s.rules s.args_override_self end in
    let defaults = defaults_fault (settled s.rules end).rows s.rules in
    let last = check_fault s (finished s.rules end) has in
    let one = or_else_none (walk_fault s names (walk_from h) words)
    (or_else below (or_else settle (or_else defaults last))) faultless in
    let two = or_else_none below (or_else settle (or_else defaults last)) one.1 in
    let three = or_else_none settle (or_else defaults last) two.1 in
    (one.0, (or_else_none defaults last three.1).1)

-- A command is required, so one was met.
command_given : (has a b : Bool) → check_kinds (not has && a) (not has && true) b ≡ [] → has ≡ true
command_given true a b faultless = refl
command_given false true b faultless = cc
command_given false false b faultless = cc

-- The command that a walk stopped at asks for something, unless it is `help`.
asks_something : (a b c d e help : Shape) (words : List Text) (is_a is_b is_c is_d is_e is_help : Bool)
    → a.name ≡ codes "replay" → b.name ≡ codes "live" → c.name ≡ codes "check" → d.name ≡ codes "quiet" →
    e.name ≡ codes "show" → (is_help ≡ true → ⊥)
    → let met = option_map (λ (s : Shape). rows_at s words) (cond (is_a || false) (Some a) (cond (is_b || false) (Some b)
    (cond (is_c || false) (Some c) (cond (is_d || false) (Some d)
    (cond (is_e || false) (Some e) (cond (is_help || false) (Some help) None)))))) in
    is_some met ≡ true → is_some (option_and_then command_task met) ≡ true
asks_something a b c d e help words true is_b is_c is_d is_e is_help a_name b_name c_name d_name e_name no_help some =
    rw a_name refl
asks_something a b c d e help words false true is_c is_d is_e is_help a_name b_name c_name d_name e_name no_help some =
    rw b_name refl
asks_something a b c d e help words false false true is_d is_e is_help a_name b_name c_name d_name e_name no_help some =
    rw c_name refl
asks_something a b c d e help words false false false true is_e is_help a_name b_name c_name d_name e_name no_help some
    = rw d_name refl
asks_something a b c d e help words false false false false true is_help a_name b_name c_name d_name e_name no_help some
    = rw e_name refl
asks_something a b c d e help words false false false false false true a_name b_name c_name d_name e_name no_help some =
    absurd (no_help refl)
asks_something a b c d e help words false false false false false false a_name b_name c_name d_name e_name no_help some
    = cc

entered_asks : (stop : Option (Text × List Text)) → NoHelp stop → is_some (entered (built grammar) stop) ≡ true
    → is_some (option_and_then command_task (entered (built grammar) stop)) ≡ true
entered_asks None no_help some = cc
entered_asks (Some stop) no_help some =
    let sub : ℕ → Shape = λ place. slice_index_or (built grammar).subs place help_shape in
    asks_something (sub 0) (sub 1) (sub 2) (sub 3) (sub 4) (sub 5) stop.1
    (bytes_eq (codes "replay") stop.0) (bytes_eq (codes "live") stop.0) (bytes_eq (codes "check") stop.0)
    (bytes_eq (codes "quiet") stop.0) (bytes_eq (codes "show") stop.0) (bytes_eq (codes "help") stop.0)
    refl refl refl refl refl
    (λ same. no_help (sym ((bytes_eq-Decides (codes "help") stop.0).0 same))) some

-- Words without fault ask for something.
faultless_asks : (words : List Text) → argument_errors words ≡ [] →
    is_some (option_and_then command_task (subcommand_of grammar words)) ≡ true
unfolding argument_errors
faultless_asks words faultless =
    let app = built grammar in
    let args = argument_words grammar words in
    let stop = (walk app.top.rules (names_of app) nothing_held args).stopped in
    let parts = level_parts app.top (names_of app) nothing_held args (is_some (entered app stop))
    (entered_fault app stop) faultless in
    entered_asks stop (walk_goes_on app.top (names_of app) args (walk_from nothing_held) refl tt parts.0)
    (command_given (is_some (entered app stop)) false false parts.1)

-- What a parse of these words says, where its command has this grammar.
pub faults_are : (app : App) (words : List Text) (P : Kinds → Type 0) → app ≡ grammar →
    (is_simple_and_free app ≡ true → P (fault_of app words)) → P (argument_errors words)
unfolding argument_errors
faults_are app words P is says = subst (λ a. P (fault_of a words)) is
    (says (ap is_simple_and_free is ∙ is_simple_grammar))

-- Words without fault ask for what the command asks for that was met.
pub asked_is : (app : App) (words : List Text) (m : ArgMatches) → app ≡ grammar → HasMatchesOf app words m →
    argument_errors words ≡ []
    → parsed_command_line words ≡ option_and_then command_task (subcommand_rows_of m)
unfolding parsed_command_line
asked_is app words m is has faultless =
    rw faultless (ap (option_and_then command_task) (sym ((has (ap is_simple is)).1 ∙ ap (λ a. subcommand_of a words) is)))

-- They ask for something.
pub asked_some : (app : App) (words : List Text) (m : ArgMatches) → app ≡ grammar → HasMatchesOf app words m →
    argument_errors words ≡ []
    → is_some (option_and_then command_task (subcommand_rows_of m)) ≡ true
asked_some app words m is has faultless =
    ap (λ met. is_some (option_and_then command_task met)) ((has (ap is_simple is)).1 ∙ ap (λ a. subcommand_of a words) is)
    ∙ faultless_asks words faultless

-- ---- what the code meets

-- a command with one more parameter
pub one_more : (old new : Command) (argument : Arg) (name : Text) (before : List CommandParameter)
    (parameter : CommandParameter) → AddsArg old argument new
    → shape_of old ≡ command name (map rule_for before) → rule_of argument ≡ rule_for parameter →
    argument.global ≡ false
    → shape_of new ≡ command name (map rule_for (before ++ parameter ∷ []))
one_more old new argument name before parameter adds so_far rule local =
    ap (λ (a : App). a.top) (adds.shape local)
    ∙ ap (λ (s : Shape). record s { rules = s.rules ++ rule_of argument ∷ [] }) so_far
    ∙ ap (λ (r : Rule). command name (map rule_for before ++ r ∷ [])) rule
    ∙ ap (command name) (sym (map-append rule_for before (parameter ∷ [])))

-- the program before it has commands, and with one more
abbrev pub alone : App
alone = on_top (λ top. record top { has_version = true; subcommand_required = true }) (new_app (codes "hidlog"))

abbrev pub with_entry : App → CommandEntry → App
with_entry app entry = with_subcommand app (command_for entry)

pub one_command_more : (old sub new : Command) (entries : List CommandEntry) (place : ℕ) (entry : CommandEntry) →
    AddsSubcommand old sub new
    → (fields_of sub).has_globals ≡ false → shape_of sub ≡ command_for (get_or entries place entry)
    → place < length entries → app_of old ≡ fold with_entry alone (take place entries)
    → app_of new ≡ fold with_entry alone (take (place + 1) entries)
one_command_more old sub new entries place entry adds local shape below so_far =
    adds.shape local ∙ ap₂ with_subcommand so_far shape
    ∙ sym (ap (fold with_entry alone) (take_more entries place entry below)
    ∙ fold-append with_entry alone (take place entries) (get_or entries place entry ∷ []))

pub all_commands : (program : Command) (entries : List CommandEntry) (place : ℕ) →
    app_of program ≡ fold with_entry alone (take place entries) → place ≡ 5
    → app_of program ≡ fold with_entry alone (take 5 entries)
all_commands program entries place so_far all = so_far ∙ ap (λ n. fold with_entry alone (take n entries)) all

pub path_is : (found : Found) (id : Text) (path : Option Text) → path ≡ first_value found id →
    path ≡ first_of id (rows_of found)
path_is found id path is = is ∙ first_value-rows found id

-- the paths of logs, where some were found, and where none was
pub logs_are : (found : Found) (logs : List Text) → Some logs ≡ option_map raw_values (matched_of found (codes "log"))
    → logs ≡ log_paths_of (rows_of found)
logs_are found logs is = ap (λ all. unwrap_or all []) (is ∙ raw_values-rows found (codes "log"))

pub no_logs : (found : Found) → None ≡ option_map raw_values (matched_of found (codes "log")) →
    [] ≡ log_paths_of (rows_of found)
no_logs found is = ap (λ all. unwrap_or all []) (is ∙ raw_values-rows found (codes "log"))

-- What a command alone asks for, whatever the program's name is.
pub plain_replay : (name : Text) → parsed_command_line (name ∷ codes "replay" ∷ [])
    ≡ Some (play playing.Replay None None None, ByTerminal)
unfolding parsed_command_line argument_errors clap_on_literals
plain_replay name = refl

pub plain_live : (name : Text) → parsed_command_line (name ∷ codes "live" ∷ [])
    ≡ Some (play playing.Live None None None, ByTerminal)
unfolding parsed_command_line argument_errors clap_on_literals
plain_live name = refl

pub plain_check : (name : Text) → parsed_command_line (name ∷ codes "check" ∷ []) ≡ Some (check None false false [], ByTerminal)
unfolding parsed_command_line argument_errors clap_on_literals
plain_check name = refl

pub plain_quiet : (name : Text) → parsed_command_line (name ∷ codes "quiet" ∷ [])
    ≡ Some (play playing.Quiet None None None, ByTerminal)
unfolding parsed_command_line argument_errors clap_on_literals
plain_quiet name = refl

pub plain_show : (name : Text) → parsed_command_line (name ∷ codes "show" ∷ []) ≡ Some (show Lines false None, ByTerminal)
unfolding parsed_command_line argument_errors clap_on_literals
plain_show name = refl

-- the options of a command alone
abbrev pub plain_options : CommandOptions
plain_options = record
    { load = None; save = None; log = None; all = false; json = false; wide = false; form = Lines; verbosity = ByTerminal }

-- What a word after the program's name asks for, is what the two words ask for.
plain_asks : (program name : Text) (ask : Task) → task_for name plain_options [] ≡ Some ask →
    parsed_command_line (program ∷ name ∷ []) ≡ Some (ask, ByTerminal)
plain_asks program name ask is =
    go (bytes_eq name (codes "replay")) (bytes_eq name (codes "live")) (bytes_eq name (codes "check"))
    (bytes_eq name (codes "quiet")) (bytes_eq name (codes "show")) refl refl refl refl refl is
  where
    named : (word : Text) (task : Task) → bytes_eq name word ≡ true →
        parsed_command_line (program ∷ word ∷ []) ≡ Some (task, ByTerminal) → Some task ≡ Some ask
        → parsed_command_line (program ∷ name ∷ []) ≡ Some (ask, ByTerminal)
    named word task same asked so =
        subst (λ n. parsed_command_line (program ∷ n ∷ []) ≡ Some (ask, ByTerminal)) (sym ((bytes_eq-Decides name word).0 same))
        (asked ∙ ap (option_map (λ a. (a, ByTerminal))) so)

    go : (a b c d e : Bool) → bytes_eq name (codes "replay") ≡ a → bytes_eq name (codes "live") ≡ b →
        bytes_eq name (codes "check") ≡ c
        → bytes_eq name (codes "quiet") ≡ d → bytes_eq name (codes "show") ≡ e
        → (if a then Some (play playing.Replay None None None) else if b then Some (play playing.Live None None None)
        else if c then Some (check None false false [])
        else if d then Some (play playing.Quiet None None None) else if e then Some (show Lines false None) else None)
        ≡ Some ask
        → parsed_command_line (program ∷ name ∷ []) ≡ Some (ask, ByTerminal)
    go true b c d e is_a is_b is_c is_d is_e so = named (codes "replay") _ is_a (plain_replay program) so
    go false true c d e is_a is_b is_c is_d is_e so = named (codes "live") _ is_b (plain_live program) so
    go false false true d e is_a is_b is_c is_d is_e so = named (codes "check") _ is_c (plain_check program) so
    go false false false true e is_a is_b is_c is_d is_e so = named (codes "quiet") _ is_d (plain_quiet program) so
    go false false false false true is_a is_b is_c is_d is_e so = named (codes "show") _ is_e (plain_show program) so
    go false false false false false is_a is_b is_c is_d is_e so = cc

-- The same of a list of two words.
pub alone_asks : (words : List (Bor (List ℕ))) (d : Bor (List ℕ)) (ask : Task) → 2 ≤ length words → length words < 3
    → task_for (get_or words 1 d).now plain_options [] ≡ Some ask → parsed_command_line (to_texts words) ≡ Some (ask, ByTerminal)
alone_asks [] d ask two below is = absurd (omega (arith, two))
alone_asks (program ∷ []) d ask two below is = absurd (omega (arith, two))
alone_asks (program ∷ name ∷ []) d ask two below is = plain_asks program.now name.now ask is
alone_asks (program ∷ name ∷ third ∷ words) d ask two below is = absurd (omega (arith, below))
