-- What a word of 32 bits stands for: a number, an event, or neither.
use Rattle.std.specs.Prelude.{◌≡◌, ℕ, nat_eq, cond, Bool, true, false, Option, Some, None, option_map, refl}
use Rattle.std.proofs.Common.{sym}
use Rattle.std.proofs.lemmas.Bool.{eqb-true}
use Rattle.history_model.specs.declared.ids.EvId.{EvId}
use Rattle.reg_arena.specs.declared.event_lists.options.TheConstants.{NO_NUMBER}

-- the number that a word stands for
abbrev pub number_of : ℕ → Option ℕ
number_of word = cond (nat_eq word NO_NUMBER) None (Some word)

-- the word that stands for it
abbrev pub word_of : Option ℕ → ℕ
word_of None = NO_NUMBER
word_of (Some n) = n

pub word_of-number_of : (word : ℕ) → word_of (number_of word) ≡ word
word_of-number_of word = go (nat_eq word NO_NUMBER) refl
  where
    go : (b : Bool) → nat_eq word NO_NUMBER ≡ b → word_of (cond b None (Some word)) ≡ word
    go true h = sym (eqb-true word NO_NUMBER h)
    go false h = refl

-- the event of this number, and the number of an event
abbrev pub as_event : Option ℕ → Option EvId
as_event = option_map (λ n. record { 0 = n })

abbrev pub as_number : Option EvId → Option ℕ
as_number = option_map (λ id. id.0)

pub as_number-as_event : (o : Option ℕ) → as_number (as_event o) ≡ o
as_number-as_event None = refl
as_number-as_event (Some n) = refl
