-- What the words of the command line name (the reading of words is `clap`'s).
use Rattle.std.specs.Prelude.{codes}
use Rattle.clap.specs.Words.{App, Rule, with_rule}
use Rattle.clap.specs.declared.builder.value_parser.ValueParser.TheVariants.{Unsigned}
use Rattle.command_words.specs.Words.{file_rule, option_rule, program}
use Rattle.configurations.specs.declared.bounds.TheConstants.{MAX_CONFIGURATIONS, MAX_STEPS}
use Rattle.search_report.specs.declared.settings.TheConstants.{MAX_WORKERS}

-- how many workers there are, 4 by default
abbrev pub workers_rule : Rule
workers_rule = option_rule (codes "workers") (Unsigned 1 MAX_WORKERS) (codes "4")

-- how many steps the search for an order of one register may take, 1,000,000,000 by default
abbrev pub steps_rule : Rule
steps_rule = option_rule (codes "steps") (Unsigned 1 MAX_STEPS) (codes "1000000000")

-- how many configurations it may hold in one list, 65,536 by default
abbrev pub configurations_rule : Rule
configurations_rule = option_rule (codes "configurations") (Unsigned 1 MAX_CONFIGURATIONS) (codes "65536")

-- the command line that the program takes
abbrev pub command_line : App
command_line =
    with_rule (with_rule (with_rule (with_rule (program (codes "regsearch")) file_rule) workers_rule)
    steps_rule) configurations_rule
