-- What the words of the command line name (the reading of words is `clap`'s).
use Rattle.std.specs.Prelude.{codes}
use Rattle.clap.specs.Words.{App, Rule, with_rule}
use Rattle.command_words.specs.Words.{file_rule, flag_rule, option_rule, program, up_to}
use Rattle.reg_report.specs.declared.pieces.settings.TheConstants.{MAX_CUT, MAX_WORKERS}

-- how many workers there are, 4 by default
abbrev pub workers_rule : Rule
workers_rule = option_rule (codes "workers") (up_to MAX_WORKERS) (codes "4")

-- how many reads a worker's piece has at most, 4096 by default
abbrev pub cut_rule : Rule
cut_rule = option_rule (codes "cut") (up_to MAX_CUT) (codes "4096")

-- a flag that asks for only the first register that isn't atomic
abbrev pub first_rule : Rule
first_rule = flag_rule (codes "first")

-- the command line that the program takes
abbrev pub command_line : App
command_line =
    with_rule (with_rule (with_rule (with_rule (program (codes "regcheck")) file_rule) workers_rule) cut_rule)
    first_rule
