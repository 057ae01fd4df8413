-- The program's command line, as `clap` reads it.
use Rattle.std.specs.Prelude.{ℕ, true, List, Option, Some, option_and_then, option_map, bytes_eq, codes, if◌then◌else◌}
use Rattle.command_line.specs.Commands.{Command, OnFiles, Run, Replay, Check, save_of, work_of}
use Rattle.clap.specs.Words.{App, Row, first_of, Rule, Shape, new_app, new_rule, with_rule, with_subcommand}

-- a word that must be there
abbrev pub word_rule : List ℕ → Rule
word_rule id = record (new_rule id) { required = true }

-- commands that take one word, and two
abbrev pub one_word : List ℕ → List ℕ → Shape
one_word name id = (with_rule (new_app name) (word_rule id)).top

abbrev pub two_words : List ℕ → List ℕ → List ℕ → Shape
two_words name first second = (with_rule (with_rule (new_app name) (word_rule first)) (word_rule second)).top

-- the program without its commands
abbrev pub bare_app : App
bare_app = record (new_app (codes "nesthv")) {
  top = record (new_app (codes "nesthv")).top { subcommand_required = true };
}

-- with the commands on a report, with all on files, and with the last one
abbrev pub reports_app : App
reports_app = with_subcommand (with_subcommand bare_app
    (one_word (codes "run") (codes "CONFIG")))
    (two_words (codes "replay") (codes "CONFIG") (codes "REPORT"))

abbrev pub files_app : App
files_app = with_subcommand (with_subcommand reports_app
    (one_word (codes "check") (codes "CONFIG")))
    (two_words (codes "save") (codes "CONFIG") (codes "GUEST"))

abbrev pub nesthv_app : App
nesthv_app = with_subcommand files_app (two_words (codes "work") (codes "SEED") (codes "SIZE"))

-- the command that the matches of a command line say
abbrev pub file_command_by : List ℕ × List Row → Option Command
file_command_by matches = option_and_then (λ config.
    if bytes_eq matches.0 (codes "run") then Some (OnFiles (Run config))
    else (if bytes_eq matches.0 (codes "check") then Some (OnFiles (Check config))
    else (if bytes_eq matches.0 (codes "save")
    then option_and_then (save_of config) (first_of (codes "GUEST") matches.1)
    else option_map (λ report. OnFiles (Replay config report)) (first_of (codes "REPORT") matches.1))))
    (first_of (codes "CONFIG") matches.1)

abbrev pub work_by : List Row → Option Command
work_by rows = option_and_then (λ seed. option_and_then (work_of seed) (first_of (codes "SIZE") rows))
    (first_of (codes "SEED") rows)

abbrev pub command_by : List ℕ × List Row → Option Command
command_by matches = if bytes_eq matches.0 (codes "work") then work_by matches.1 else file_command_by matches
