-- The numbers of the options are found, each within its limits.
use Rattle.std.proofs.Common.{◌≡◌, codes, refl, List}
use Rattle.clap.specs.Built.{IsParsedFrom}
use Rattle.clap.specs.Words.{Text, app_of, found_of, matches_of, rows_of}
use Rattle.clap.specs.declared.builder.command.Command.{Command}
use Rattle.clap.specs.declared.builder.value_parser.ValueParser.TheVariants.{Unsigned}
use Rattle.clap.specs.declared.parser.matches.ArgMatches.{ArgMatches}
use Rattle.command_words.specs.Words.{number_named}
use Rattle.command_words.proofs.Numbers.{HasNumber, IsReady, number_found}
use Rattle.configurations.specs.declared.bounds.TheConstants.{MAX_CONFIGURATIONS, MAX_STEPS}
use Rattle.search_report.specs.declared.settings.TheConstants.{MAX_WORKERS}
use Rattle.regsearch.specs.Words.{command_line}

ready : IsReady command_line
ready = record { top = refl; leaves = refl; simple = refl }

module _ (old : Command) (m : ArgMatches) (words : List Text) (p : IsParsedFrom old m)
    (ours : app_of old ≡ command_line)
    (rows : rows_of (found_of m) ≡ matches_of (app_of old) words) where
  pub workers_found : HasNumber (found_of m) (codes "workers") (Unsigned 1 MAX_WORKERS)
      (number_named command_line (codes "workers") words)
  workers_found =
      number_found old m command_line p ours ready 1 (codes "workers") _ (codes "4") (λ d. refl) (
        refl,
        (refl, (refl, tt)),
      )
      (record { some = refl; no_help = refl; no_version = refl }) words rows

  pub steps_found : HasNumber (found_of m) (codes "steps") (Unsigned 1 MAX_STEPS)
      (number_named command_line (codes "steps") words)
  steps_found =
      number_found old m command_line p ours ready 2 (codes "steps") _ (codes "1000000000") (λ d. refl)
      (refl, (refl, (refl, tt)))
      (record { some = refl; no_help = refl; no_version = refl }) words rows

  pub configurations_found : HasNumber (found_of m) (codes "configurations") (Unsigned 1 MAX_CONFIGURATIONS)
      (number_named command_line (codes "configurations") words)
  configurations_found =
      number_found old m command_line p ours ready 3 (codes "configurations") _ (codes "65536") (λ d. refl)
      (refl, (refl, (refl, tt)))
      (record { some = refl; no_help = refl; no_version = refl }) words rows
