-- What the definitions say of words that are written out.
use Rattle.std.proofs.Common.{◌≡◌, [], ◌∷◌, codes, length, refl, None, Some}
use Rattle.clap.specs.Words.{fault_of}
use Rattle.clap.specs.declared.error.kind.ErrorKind.TheVariants.{DisplayHelp, DisplayVersion}
use Rattle.clap.proofs.OnLiterals.{clap_on_literals}
use Rattle.command_words.specs.Words.{IsTaken, file_named, number_named, text_given}
use Rattle.regcheck.specs.Words.{command_line}

-- no word is standard input
no_word : IsTaken command_line [] × (file_named command_line [] ≡ None)
unfolding clap_on_literals IsTaken file_named
no_word = (refl, refl)

-- a word is a file
one_word : IsTaken command_line (codes "h.jsonl" ∷ [])
    × (file_named command_line (codes "h.jsonl" ∷ []) ≡ Some (codes "h.jsonl"))
unfolding clap_on_literals IsTaken file_named
one_word = (refl, refl)

-- `-` is standard input, as no word is, and a file of that name has another
dash : IsTaken command_line (codes "-" ∷ []) × (file_named command_line (codes "-" ∷ []) ≡ None)
unfolding clap_on_literals IsTaken file_named
dash = (refl, refl)

dash_after_options : let words = codes "--workers" ∷ codes "2" ∷ codes "--" ∷ codes "-" ∷ [] in
    IsTaken command_line words × (file_named command_line words ≡ None)
    × (number_named command_line (codes "workers") words ≡ Some 2)
unfolding clap_on_literals IsTaken file_named number_named
dash_after_options = (refl, refl, refl)

file_called_dash : IsTaken command_line (codes "./-" ∷ [])
    × (file_named command_line (codes "./-" ∷ []) ≡ Some (codes "./-"))
unfolding clap_on_literals IsTaken file_named
file_called_dash = (refl, refl)

-- where no word says otherwise, there are 4 workers, and a cut of 4096
defaults : (number_named command_line (codes "workers") [] ≡ Some 4)
    × (number_named command_line (codes "cut") [] ≡ Some 4096)
unfolding clap_on_literals number_named
defaults = (refl, refl)

-- the flag is set where a word says so, and not set where none does
flag : let words = codes "--first" ∷ codes "h.jsonl" ∷ [] in
    IsTaken command_line words × (text_given command_line (codes "first") words ≡ Some (codes "true"))
    × (file_named command_line words ≡ Some (codes "h.jsonl"))
unfolding clap_on_literals IsTaken text_given file_named
flag = (refl, refl, refl)

no_flag : text_given command_line (codes "first") (codes "h.jsonl" ∷ []) ≡ Some (codes "false")
unfolding clap_on_literals text_given
no_flag = refl

-- the least numbers
least : let words = codes "--workers" ∷ codes "1" ∷ codes "--cut" ∷ codes "1" ∷ [] in
    IsTaken command_line words × (number_named command_line (codes "workers") words ≡ Some 1)
    × (number_named command_line (codes "cut") words ≡ Some 1) × (file_named command_line words ≡ None)
unfolding clap_on_literals IsTaken number_named file_named
least = (refl, refl, refl, refl)

-- the greatest, and a file
greatest : let words = codes "--workers" ∷ codes "16" ∷ codes "--cut" ∷ codes "1048576" ∷ codes "h.jsonl"
    ∷ [] in
    IsTaken command_line words × (number_named command_line (codes "workers") words ≡ Some 16)
    × (number_named command_line (codes "cut") words ≡ Some 1048576)
    × (file_named command_line words ≡ Some (codes "h.jsonl"))
unfolding clap_on_literals IsTaken number_named file_named
greatest = (refl, refl, refl, refl)

-- numbers past their limits are a fault
no_worker : length (fault_of command_line (codes "--workers" ∷ codes "0" ∷ [])) ≡ 1
unfolding clap_on_literals
no_worker = refl

many_workers : length (fault_of command_line (codes "--workers" ∷ codes "17" ∷ [])) ≡ 1
unfolding clap_on_literals
many_workers = refl

no_cut : length (fault_of command_line (codes "--cut" ∷ codes "0" ∷ [])) ≡ 1
unfolding clap_on_literals
no_cut = refl

great_cut : length (fault_of command_line (codes "--cut" ∷ codes "1048577" ∷ [])) ≡ 1
unfolding clap_on_literals
great_cut = refl

-- the flag has no value, and stands once at most
flag_with_value : length (fault_of command_line (codes "--first=yes" ∷ [])) ≡ 1
unfolding clap_on_literals
flag_with_value = refl

flag_twice : length (fault_of command_line (codes "--first" ∷ codes "--first" ∷ [])) ≡ 1
unfolding clap_on_literals
flag_twice = refl

-- two words are a fault
two_words : length (fault_of command_line (codes "h.jsonl" ∷ codes "g.jsonl" ∷ [])) ≡ 1
unfolding clap_on_literals
two_words = refl

-- a call for help is one too, and so is a call for the version
call_for_help : fault_of command_line (codes "--help" ∷ []) ≡ DisplayHelp ∷ []
unfolding clap_on_literals
call_for_help = refl

call_for_version : fault_of command_line (codes "--version" ∷ []) ≡ DisplayVersion ∷ []
unfolding clap_on_literals
call_for_version = refl

short_call_for_version : fault_of command_line (codes "-V" ∷ []) ≡ DisplayVersion ∷ []
unfolding clap_on_literals
short_call_for_version = refl
