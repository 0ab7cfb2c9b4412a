-- The words of levels, in reports and on the command line.
use Rattle.std.specs.Prelude.{◌≡◌, ℕ, codes, List, Result, Ok, Err}
use Rattle.report_text.specs.declared.level.level_name.UnknownLevel.{UnknownLevel}
use Rattle.report_text.specs.declared.level.report.LevelName.{LevelName}
use Rattle.report_text.specs.declared.level.report.Required.{Required}
use Rattle.report_text.specs.declared.level.report.Required.TheVariants.{Each, Causal}
use Rattle.report_text.specs.declared.level.report.LevelName.TheVariants.{Atomic, Regular, Session}
use Rattle.report_text.specs.declared.level.report.LevelName.TheVariants.{OwnWrites, Monotonic, Sequential}

abbrev pub word_of : LevelName → List ℕ
word_of Atomic = codes "atomic"
word_of Regular = codes "regular"
word_of Session = codes "session"
word_of OwnWrites = codes "own_writes"
word_of Monotonic = codes "monotonic"
word_of Sequential = codes "sequential"

-- the word for what is required
abbrev pub required_word : Required → List ℕ
required_word (Each level) = word_of level
required_word Causal = codes "causal"

-- what is read from a text: what has this word, or that nothing has
abbrev pub IsLevelRead : List ℕ → Result Required UnknownLevel → Type 0
IsLevelRead text (Ok required) = text ≡ required_word required
IsLevelRead text (Err unknown) = (required : Required) → text ≡ required_word required → ⊥
