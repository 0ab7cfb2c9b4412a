-- What is found of an argument is what the words name.
use Rattle.std.proofs.Common.{◌≡◌, ◌∙◌, ap, codes, List}
use Rattle.clap.specs.Words.{App, Text, app_of, first_of, first_value, found_of}
use Rattle.clap.specs.Words.{matches_of, one_of, one_text, rows_of}
use Rattle.clap.specs.declared.builder.command.Command.{Command}
use Rattle.clap.specs.declared.parser.matches.ArgMatches.{ArgMatches}
use Rattle.clap.proofs.WalkLemmas.{first_value-rows, one_text-rows}
use Rattle.command_words.specs.Words.{file_named, file_of}

module _ (old : Command) (m : ArgMatches) (app : App) (words : List Text) (ours : app_of old ≡ app)
    (rows : rows_of (found_of m) ≡ matches_of (app_of old) words) where
  pub rows_found : rows_of (found_of m) ≡ matches_of app words
  rows_found = rows ∙ ap (λ a. matches_of a words) ours

  pub text_named : (name : Text) → one_text (found_of m) name ≡ one_of name (matches_of app words)
  text_named name = one_text-rows (found_of m) name ∙ ap (one_of name) rows_found

  pub file_found : file_of (first_value (found_of m) (codes "file")) ≡ file_named app words
  unfolding file_named
  file_found =
      ap file_of (first_value-rows (found_of m) (codes "file") ∙ ap (first_of (codes "file")) rows_found)
