-- What the words of the command line name (the reading of words is `clap`'s).
use Rattle.std.specs.Borrow.{Bor}
use Rattle.std.specs.Prelude.{◌≡◌, [], ◌∷◌, codes, map, List}
use Rattle.clap.specs.Words.{App, Rule, Text, with_rule}
use Rattle.clap.specs.declared.builder.value_parser.ValueParser.TheVariants.{Names}
use Rattle.command_words.specs.Words.{file_rule, flag_rule, option_rule, program, up_to}
use Rattle.level_report.specs.declared.settings.TheConstants.{MAX_WORKERS}
use Rattle.report_text.specs.Level.Words.{required_word}
use Rattle.report_text.specs.declared.level.report.Required.{Required}
use Rattle.report_text.specs.declared.level.report.Required.TheVariants.{Each, Causal}
use Rattle.report_text.specs.declared.level.report.LevelName.TheVariants.{Atomic, Regular, Session}
use Rattle.report_text.specs.declared.level.report.LevelName.TheVariants.{OwnWrites, Monotonic, Sequential}

-- words as a program has them
abbrev pub Borrowed : Type 0
Borrowed = Bor (List (Bor Text))

-- all that may be required
abbrev pub all_levels : List Required
all_levels =
    Each Atomic ∷ Each Regular ∷ Each Session ∷ Each OwnWrites ∷ Each Monotonic ∷ Each Sequential ∷ Causal
    ∷ []

-- the words for it
abbrev pub AreLevelWords : Borrowed → Type 0
AreLevelWords words = map (λ (word : Bor Text). word.now) words.now ≡ map required_word all_levels

-- what has to be kept, atomic by default
abbrev pub require_rule : Borrowed → Rule
require_rule levels = option_rule (codes "require") (Names levels) (codes "atomic")

-- how many workers there are, 4 by default
abbrev pub workers_rule : Rule
workers_rule = option_rule (codes "workers") (up_to MAX_WORKERS) (codes "4")

-- the command line that the program takes
abbrev pub command_line : Borrowed → App
command_line levels =
    with_rule (with_rule (with_rule (with_rule (with_rule (program (codes "reglevel")) file_rule)
    (require_rule levels)) workers_rule) (flag_rule (codes "stale"))) (flag_rule (codes "orders"))
