-- What the definitions say of words that are written out.
use Rattle.std.proofs.Common.{◌≡◌, [], ◌∷◌, codes, length, refl, None, Some}
use Rattle.clap.specs.Words.{fault_of}
use Rattle.clap.specs.declared.error.kind.ErrorKind.TheVariants.{DisplayHelp, DisplayVersion}
use Rattle.clap.proofs.OnLiterals.{clap_on_literals}
use Rattle.command_words.specs.Words.{IsTaken, file_named, number_named}
use Rattle.regsearch.specs.Words.{command_line}

-- no word is standard input
no_word : IsTaken command_line [] × (file_named command_line [] ≡ None)
unfolding clap_on_literals IsTaken file_named
no_word = (refl, refl)

-- a word is a file
one_word : IsTaken command_line (codes "h.jsonl" ∷ [])
    × (file_named command_line (codes "h.jsonl" ∷ []) ≡ Some (codes "h.jsonl"))
unfolding clap_on_literals IsTaken file_named
one_word = (refl, refl)

-- `-` is standard input, as no word is, and a file of that name has another
dash : IsTaken command_line (codes "-" ∷ []) × (file_named command_line (codes "-" ∷ []) ≡ None)
unfolding clap_on_literals IsTaken file_named
dash = (refl, refl)

dash_after_options : let words = codes "--workers" ∷ codes "2" ∷ codes "--" ∷ codes "-" ∷ [] in
    IsTaken command_line words × (file_named command_line words ≡ None)
    × (number_named command_line (codes "workers") words ≡ Some 2)
unfolding clap_on_literals IsTaken file_named number_named
dash_after_options = (refl, refl, refl)

file_called_dash : IsTaken command_line (codes "./-" ∷ [])
    × (file_named command_line (codes "./-" ∷ []) ≡ Some (codes "./-"))
unfolding clap_on_literals IsTaken file_named
file_called_dash = (refl, refl)

-- where no word says otherwise, there are 4 workers, 1,000,000,000 steps and 65,536 configurations
default_workers : number_named command_line (codes "workers") [] ≡ Some 4
unfolding clap_on_literals number_named
default_workers = refl

default_bounds : (number_named command_line (codes "steps") [] ≡ Some 1000000000)
    × (number_named command_line (codes "configurations") [] ≡ Some 65536)
unfolding clap_on_literals number_named
default_bounds = (refl, refl)

-- the least numbers
least : let words = codes "--workers" ∷ codes "1" ∷ codes "--steps" ∷ codes "1" ∷ codes "--configurations"
    ∷ codes "1" ∷ [] in
    IsTaken command_line words × (number_named command_line (codes "workers") words ≡ Some 1)
    × (number_named command_line (codes "steps") words ≡ Some 1)
    × (number_named command_line (codes "configurations") words ≡ Some 1)
    × (file_named command_line words ≡ None)
unfolding clap_on_literals IsTaken number_named file_named
least = (refl, refl, refl, refl, refl)

-- the greatest, and a file
greatest : let words = codes "--workers" ∷ codes "16" ∷ codes "--steps" ∷ codes "1000000000000"
    ∷ codes "--configurations" ∷ codes "1048576" ∷ codes "h.jsonl" ∷ [] in
    IsTaken command_line words × (number_named command_line (codes "workers") words ≡ Some 16)
    × (number_named command_line (codes "steps") words ≡ Some 1000000000000)
    × (number_named command_line (codes "configurations") words ≡ Some 1048576)
    × (file_named command_line words ≡ Some (codes "h.jsonl"))
unfolding clap_on_literals IsTaken number_named file_named
greatest = (refl, refl, refl, refl, refl)

-- numbers past their limits are a fault
no_worker : length (fault_of command_line (codes "--workers" ∷ codes "0" ∷ [])) ≡ 1
unfolding clap_on_literals
no_worker = refl

many_workers : length (fault_of command_line (codes "--workers" ∷ codes "17" ∷ [])) ≡ 1
unfolding clap_on_literals
many_workers = refl

no_step : length (fault_of command_line (codes "--steps" ∷ codes "0" ∷ [])) ≡ 1
unfolding clap_on_literals
no_step = refl

many_steps : length (fault_of command_line (codes "--steps" ∷ codes "1000000000001" ∷ [])) ≡ 1
unfolding clap_on_literals
many_steps = refl

no_configuration : length (fault_of command_line (codes "--configurations" ∷ codes "0" ∷ [])) ≡ 1
unfolding clap_on_literals
no_configuration = refl

many_configurations : length (fault_of command_line (codes "--configurations" ∷ codes "1048577" ∷ [])) ≡ 1
unfolding clap_on_literals
many_configurations = refl

-- an option stands once at most
steps_twice : length (fault_of command_line (codes "--steps" ∷ codes "1" ∷ codes "--steps" ∷ codes "1"
    ∷ [])) ≡ 1
unfolding clap_on_literals
steps_twice = refl

-- two words are a fault
two_words : length (fault_of command_line (codes "h.jsonl" ∷ codes "g.jsonl" ∷ [])) ≡ 1
unfolding clap_on_literals
two_words = refl

-- a call for help is one too, and so is a call for the version
call_for_help : fault_of command_line (codes "--help" ∷ []) ≡ DisplayHelp ∷ []
unfolding clap_on_literals
call_for_help = refl

call_for_version : fault_of command_line (codes "--version" ∷ []) ≡ DisplayVersion ∷ []
unfolding clap_on_literals
call_for_version = refl

short_call_for_version : fault_of command_line (codes "-V" ∷ []) ≡ DisplayVersion ∷ []
unfolding clap_on_literals
short_call_for_version = refl
