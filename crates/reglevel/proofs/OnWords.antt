-- What the definitions say of words that are written out.
use Rattle.std.proofs.Common.{◌≡◌, [], ◌∷◌, codes, length, map, refl, None, Some}
use Rattle.clap.specs.Words.{fault_of}
use Rattle.clap.specs.declared.error.kind.ErrorKind.TheVariants.{DisplayHelp, DisplayVersion}
use Rattle.clap.proofs.OnLiterals.{clap_on_literals}
use Rattle.command_words.specs.Words.{IsTaken, file_named, number_named, text_given}
use Rattle.report_text.specs.Level.Words.{required_word}
use Rattle.report_text.specs.declared.level.report.LevelName.TheVariants.{Atomic, OwnWrites}
use Rattle.report_text.specs.declared.level.report.Required.TheVariants.{Each, Causal}
use Rattle.reglevel.specs.Words.{all_levels, command_line, AreLevelWords, Borrowed}

-- the words of the levels, wherever they stand
levels : Borrowed
levels = record {
  ref_ptr = (0, 0);
  now = map (λ level. record { ref_ptr = (0, 0); now = required_word level }) all_levels;
}

are_levels : AreLevelWords levels
unfolding levels
are_levels = refl

-- where no word says otherwise, the history comes from standard input, atomic is required, and there are 4
-- workers
defaults : IsTaken (command_line levels) [] × (file_named (command_line levels) [] ≡ None)
    × (text_given (command_line levels) (codes "require") [] ≡ Some (required_word (Each Atomic)))
    × (number_named (command_line levels) (codes "workers") [] ≡ Some 4)
unfolding clap_on_literals levels IsTaken file_named text_given number_named
defaults = (refl, refl, refl, refl)

-- a word is a file, and `-` is standard input, as no word is
one_word : let words = codes "h.jsonl" ∷ [] in
    IsTaken (command_line levels) words × (file_named (command_line levels) words ≡ Some (codes "h.jsonl"))
unfolding clap_on_literals levels IsTaken file_named
one_word = (refl, refl)

dash : let words = codes "-" ∷ [] in
    IsTaken (command_line levels) words × (file_named (command_line levels) words ≡ None)
unfolding clap_on_literals levels IsTaken file_named
dash = (refl, refl)

-- a level, in two words and in one
level_given : let words = codes "--require" ∷ codes "own_writes" ∷ codes "h.jsonl" ∷ [] in
    IsTaken (command_line levels) words
    × (text_given (command_line levels) (codes "require") words ≡ Some (required_word (Each OwnWrites)))
    × (file_named (command_line levels) words ≡ Some (codes "h.jsonl"))
unfolding clap_on_literals levels IsTaken text_given file_named
level_given = (refl, refl, refl)

level_after_a_sign : let words = codes "--require=own_writes" ∷ [] in
    text_given (command_line levels) (codes "require") words ≡ Some (required_word (Each OwnWrites))
unfolding clap_on_literals levels text_given
level_after_a_sign = refl

-- causal, which is no level of a register
causal_given : text_given (command_line levels) (codes "require") (codes "--require" ∷ codes "causal" ∷ [])
    ≡ Some (required_word Causal)
unfolding clap_on_literals levels text_given
causal_given = refl

-- nothing has this name, nor one in capitals
unknown_level : length (fault_of (command_line levels) (codes "--require" ∷ codes "safe" ∷ [])) ≡ 1
unfolding clap_on_literals levels
unknown_level = refl

capitals : length (fault_of (command_line levels) (codes "--require" ∷ codes "Atomic" ∷ [])) ≡ 1
unfolding clap_on_literals levels
capitals = refl

-- the flags, each by itself
flags : let words = codes "--stale" ∷ [] in
    IsTaken (command_line levels) words
    × (text_given (command_line levels) (codes "stale") words ≡ Some (codes "true"))
    × (text_given (command_line levels) (codes "orders") words ≡ Some (codes "false"))
unfolding clap_on_literals levels IsTaken text_given
flags = (refl, refl, refl)

-- the least and the most workers, and too many
few_workers : number_named (command_line levels) (codes "workers") (codes "--workers" ∷ codes "1" ∷ [])
    ≡ Some 1
unfolding clap_on_literals levels number_named
few_workers = refl

most_workers : number_named (command_line levels) (codes "workers") (codes "--workers" ∷ codes "16" ∷ [])
    ≡ Some 16
unfolding clap_on_literals levels number_named
most_workers = refl

many_workers : length (fault_of (command_line levels) (codes "--workers" ∷ codes "17" ∷ [])) ≡ 1
unfolding clap_on_literals levels
many_workers = refl

-- two files are a fault, and so is a call for help or for the version
two_words : length (fault_of (command_line levels) (codes "h.jsonl" ∷ codes "g.jsonl" ∷ [])) ≡ 1
unfolding clap_on_literals levels
two_words = refl

call_for_help : fault_of (command_line levels) (codes "--help" ∷ []) ≡ DisplayHelp ∷ []
unfolding clap_on_literals levels
call_for_help = refl

call_for_version : fault_of (command_line levels) (codes "--version" ∷ []) ≡ DisplayVersion ∷ []
unfolding clap_on_literals levels
call_for_version = refl
