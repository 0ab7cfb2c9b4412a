-- The level and the number of the options are found, the number within its limits.
use Rattle.std.proofs.Common.{◌≡◌, codes, refl, List}
use Rattle.clap.specs.Built.{IsParsedFrom}
use Rattle.clap.specs.Words.{Text, app_of, found_of, matches_of, rows_of}
use Rattle.clap.specs.declared.builder.command.Command.{Command}
use Rattle.clap.specs.declared.builder.value_parser.ValueParser.TheVariants.{Names}
use Rattle.clap.specs.declared.parser.matches.ArgMatches.{ArgMatches}
use Rattle.command_words.specs.Words.{number_named, up_to}
use Rattle.command_words.proofs.Numbers.{HasNumber, IsReady, number_found}
use Rattle.level_report.specs.declared.settings.TheConstants.{MAX_WORKERS}
use Rattle.reglevel.specs.Words.{command_line, Borrowed}

module _ (levels : Borrowed) where
  ready : IsReady (command_line levels)
  ready = record { top = refl; leaves = refl; simple = refl }

  module _ (old : Command) (m : ArgMatches) (words : List Text) (p : IsParsedFrom old m)
      (ours : app_of old ≡ command_line levels)
      (rows : rows_of (found_of m) ≡ matches_of (app_of old) words) where
    pub require_found : HasNumber (found_of m) (codes "require") (Names levels)
        (number_named (command_line levels) (codes "require") words)
    require_found =
        number_found old m (command_line levels) p ours ready 1 (codes "require") _ (codes "atomic")
        (λ d. refl) (refl, (refl, (refl, (refl, tt))))
        (record { some = refl; no_help = refl; no_version = refl }) words rows

    pub workers_found : HasNumber (found_of m) (codes "workers") (up_to MAX_WORKERS)
        (number_named (command_line levels) (codes "workers") words)
    workers_found =
        number_found old m (command_line levels) p ours ready 2 (codes "workers") _ (codes "4") (λ d. refl) (
          refl,
          (refl, (refl, (refl, tt))),
        )
        (record { some = refl; no_help = refl; no_version = refl }) words rows
