-- What the words of a command line name (the reading of words is `clap`'s).
use Rattle.std.specs.Prelude.{◌≡◌, [], ◌∷◌, ℕ, codes, pos, if◌then◌else◌}
use Rattle.std.specs.Prelude.{option_map, true, false, Bool, List, Option, None, Some}
use Rattle.std.specs.Str.{bytes_eq}
use Rattle.std.specs.Str.Parse.{digits_value, without_leading_plus}
use Rattle.clap.specs.Words.{App, Rule, Text, fault_of, first_of, matches_of}
use Rattle.clap.specs.Words.{new_app, new_rule, one_of, takes}
use Rattle.clap.specs.declared.builder.action.ArgAction.TheVariants.{Set, SetTrue}
use Rattle.clap.specs.declared.builder.value_parser.ValueParser.{ValueParser}
use Rattle.clap.specs.declared.builder.value_parser.ValueParser.TheVariants.{Signed}

-- the one argument: a word that names the file
abbrev pub file_rule : Rule
file_rule = record (new_rule (codes "file")) { value_names = 1 }

-- a number from 1 to `most`
abbrev pub up_to : ℕ → ValueParser
up_to most = Signed (pos 1) (pos most)

-- an option with a value that the parser takes, which is `default` where the words have no such option
abbrev pub option_rule : Text → ValueParser → Text → Rule
option_rule name parser default = record (new_rule name) {
  long = Some name;
  value_names = 1;
  action = Some Set;
  parser = Some parser;
  defaults = default ∷ [];
}

-- a flag, which stands once or not at all
abbrev pub flag_rule : Text → Rule
flag_rule name = record (new_rule name) { long = Some name; action = Some SetTrue }

-- the program of this name, whose own name isn't among the words, and which tells its version
abbrev pub program : Text → App
program name =
    record (new_app name) { top = record (new_app name).top { no_binary_name = true; has_version = true } }

-- the word `-` stands for standard input, any other for the file of that name
abbrev pub file_of : Option Text → Option Text
file_of None = None
file_of (Some word) = if bytes_eq word (codes "-") then None else Some word

-- the file that the words name; standard input where there is none
unfoldable pub file_named : App → List Text → Option Text
file_named app words = file_of (first_of (codes "file") (matches_of app words))

-- the number that a text says in decimal digits
abbrev pub number_in : Text → ℕ
number_in text = digits_value 10 (without_leading_plus text)

-- the number that the words give an option, or the default
unfoldable pub number_named : App → Text → List Text → Option ℕ
number_named app name words = option_map number_in (one_of name (matches_of app words))

-- the text that the words give an option, or the default; of a flag, `true` where the words have it, and else
-- `false`
unfoldable pub text_given : App → Text → List Text → Option Text
text_given app name words = one_of name (matches_of app words)

-- a flag is set where the parser says so, and not set where it says not or nothing
abbrev pub IsFlag : Option Text → Bool → Type 0
IsFlag given flag =
    (given ≡ Some (codes "true") → flag ≡ true) × (given ≡ Some (codes "false") → flag ≡ false)
    × (given ≡ None → flag ≡ false)

-- the command line takes the words, and they ask for neither help nor the version
unfoldable pub IsTaken : App → List Text → Type 0
IsTaken app words = takes app words ≡ true

-- no word is at fault, and none asks for help or the version
unfoldable pub IsFaultless : App → List Text → Type 0
IsFaultless app words = fault_of app words ≡ []
