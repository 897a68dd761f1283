-- The definitions at worked words: a reader's check that they say which words ask for what.
use Rattle.std.proofs.Common.{◌≡◌, ℕ, true, false, List, [], ◌∷◌, Option, Some, None, codes, refl}
use Rattle.clap.proofs.OnLiterals.{clap_on_literals}
use Rattle.clap.specs.{Kinds.Kinds, declared.error.kind.ErrorKind.TheVariants.DisplayVersion}
use Rattle.hidlog.specs.declared.args.ShowFormat.TheVariants.{Json, JsonSummary, Lines, Summary}
use Rattle.hidlog.specs.declared.args.Verbosity.{Verbosity}
use Rattle.hidlog.specs.declared.args.Verbosity.TheVariants.{ByTerminal, Explained, Fixed}
use Rattle.hidlog.specs.CommandLine.{Task, play, check, show, argument_errors, parsed_command_line}
use Rattle.session_log.specs.declared.command.ReplayMode.TheVariants as playing

-- what clap answers to these words after the program's name
answers : List (List ℕ) → Kinds
unfolding argument_errors clap_on_literals
answers words = argument_errors (codes "hidlog" ∷ words)

asked : List (List ℕ) → Option (Task × Verbosity)
unfolding parsed_command_line argument_errors clap_on_literals
asked words = parsed_command_line (codes "hidlog" ∷ words)

version_asked : answers (codes "--version" ∷ []) ≡ DisplayVersion ∷ []
unfolding answers
version_asked = refl

replay_alone : asked (codes "replay" ∷ []) ≡ Some (play playing.Replay None None None, ByTerminal)
unfolding asked
replay_alone = refl

both_options : asked (codes "replay" ∷ codes "--save" ∷ codes "new" ∷ codes "--load" ∷ codes "old" ∷ [])
    ≡ Some (play playing.Replay (Some (codes "old")) (Some (codes "new")) None, ByTerminal)
unfolding asked
both_options = refl

live_alone : asked (codes "live" ∷ codes "--save" ∷ codes "new" ∷ [])
    ≡ Some (play playing.Live None (Some (codes "new")) None, ByTerminal)
unfolding asked
live_alone = refl

-- a value may stand after `=`
attached : asked (codes "check" ∷ codes "--load=old" ∷ []) ≡ Some
    (check (Some (codes "old")) false false [], ByTerminal)
unfolding asked
attached = refl

quiet_alone : asked (codes "quiet" ∷ []) ≡ Some (play playing.Quiet None None None, ByTerminal)
unfolding asked
quiet_alone = refl

show_alone : asked (codes "show" ∷ []) ≡ Some (show Lines false None, ByTerminal)
unfolding asked
show_alone = refl

-- a log may be named, before an option and after one, and several to `check` alone
log_named : asked (codes "replay" ∷ codes "a.log" ∷ codes "--save" ∷ codes "new" ∷ [])
    ≡ Some (play playing.Replay None (Some (codes "new")) (Some (codes "a.log")), ByTerminal)
unfolding asked
log_named = refl

logs_named : asked (codes "check" ∷ codes "a.log" ∷ codes "-" ∷ codes "b.log" ∷ [])
    ≡ Some (check None false false (codes "a.log" ∷ codes "-" ∷ codes "b.log" ∷ []), ByTerminal)
unfolding asked
logs_named = refl

one_to_show : asked (codes "show" ∷ codes "a.log" ∷ codes "b.log" ∷ []) ≡ None
unfolding asked
one_to_show = refl

-- a log whose name begins with a hyphen comes after `--`
hyphens_end_options : asked (codes "quiet" ∷ codes "--" ∷ codes "-a" ∷ [])
    ≡ Some (play playing.Quiet None None (Some (codes "-a")), ByTerminal)
unfolding asked
hyphens_end_options = refl

-- a summary, JSON, and a summary as JSON
summary_asked : asked (codes "show" ∷ codes "--summary" ∷ codes "a.log" ∷ [])
    ≡ Some (show Summary false (Some (codes "a.log")), ByTerminal)
unfolding asked
summary_asked = refl

json_asked : asked (codes "show" ∷ codes "--json" ∷ []) ≡ Some (show Json false None, ByTerminal)
unfolding asked
json_asked = refl

json_summary_asked : asked (codes "show" ∷ codes "--json" ∷ codes "--summary" ∷ [])
    ≡ Some (show JsonSummary false None, ByTerminal)
unfolding asked
json_summary_asked = refl

-- a comparison that goes on after a difference, and lines that aren't cut
all_asked : asked (codes "check" ∷ codes "--all" ∷ codes "a.log" ∷ [])
    ≡ Some (check None true false (codes "a.log" ∷ []), ByTerminal)
unfolding asked
all_asked = refl

check_as_json : asked (codes "check" ∷ codes "--json" ∷ codes "a.log" ∷ [])
    ≡ Some (check None false true (codes "a.log" ∷ []), ByTerminal)
unfolding asked
check_as_json = refl

wide_asked : asked (codes "show" ∷ codes "--wide" ∷ codes "a.log" ∷ [])
    ≡ Some (show Lines true (Some (codes "a.log")), ByTerminal)
unfolding asked
wide_asked = refl

-- texts for people and the fixed ones, by the same words of each command; `--plain` is stronger
explained_asked : asked (codes "replay" ∷ codes "--explain" ∷ []) ≡ Some (play playing.Replay None None None, Explained)
unfolding asked
explained_asked = refl

plain_asked : asked (codes "show" ∷ codes "a.log" ∷ codes "--plain" ∷ [])
    ≡ Some (show Lines false (Some (codes "a.log")), Fixed)
unfolding asked
plain_asked = refl

both_asked : asked (codes "check" ∷ codes "--plain" ∷ codes "--explain" ∷ []) ≡ Some (check None false false [], Fixed)
unfolding asked
both_asked = refl

live_explained : asked (codes "live" ∷ codes "--explain" ∷ []) ≡ Some (play playing.Live None None None, Explained)
unfolding asked
live_explained = refl

quiet_plain : asked (codes "quiet" ∷ codes "--plain" ∷ []) ≡ Some (play playing.Quiet None None None, Fixed)
unfolding asked
quiet_plain = refl
