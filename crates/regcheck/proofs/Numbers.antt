-- The numbers of the options are found, each within its limits.
use Rattle.std.proofs.Common.{◌≡◌, codes, refl, List}
use Rattle.clap.specs.Built.{IsParsedFrom}
use Rattle.clap.specs.Words.{Text, app_of, found_of, matches_of, rows_of}
use Rattle.clap.specs.declared.builder.command.Command.{Command}
use Rattle.clap.specs.declared.parser.matches.ArgMatches.{ArgMatches}
use Rattle.command_words.specs.Words.{number_named, up_to}
use Rattle.command_words.proofs.Numbers.{HasNumber, IsReady, number_found}
use Rattle.reg_report.specs.declared.pieces.settings.TheConstants.{MAX_CUT, MAX_WORKERS}
use Rattle.regcheck.specs.Words.{command_line}

ready : IsReady command_line
ready = record { top = refl; leaves = refl; simple = refl }

module _ (old : Command) (m : ArgMatches) (words : List Text) (p : IsParsedFrom old m)
    (ours : app_of old ≡ command_line)
    (rows : rows_of (found_of m) ≡ matches_of (app_of old) words) where
  pub workers_found : HasNumber (found_of m) (codes "workers") (up_to MAX_WORKERS)
      (number_named command_line (codes "workers") words)
  workers_found =
      number_found old m command_line p ours ready 1 (codes "workers") _ (codes "4") (λ d. refl) (
        refl,
        (refl, (refl, tt)),
      )
      (record { some = refl; no_help = refl; no_version = refl }) words rows

  pub cut_found : HasNumber (found_of m) (codes "cut") (up_to MAX_CUT)
      (number_named command_line (codes "cut") words)
  cut_found =
      number_found old m command_line p ours ready 2 (codes "cut") _ (codes "4096") (λ d. refl) (
        refl,
        (refl, (refl, tt)),
      )
      (record { some = refl; no_help = refl; no_version = refl }) words rows
