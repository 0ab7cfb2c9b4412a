-- What pulls of a source gave.
use Rattle.std.specs.Prelude.{◌≡◌, ◌⊎◌, ◌+◌, ◌<◌, ◌≤◌, ℕ, List, [], length, Option, true, false}
use Rattle.std.specs.Io.KnownBytes.{Consumes}
use Rattle.history_text.specs.declared.limits.TheConstants.{MAX_INPUT}
use Rattle.reg_intake.specs.Ends.{IsAll}
use Rattle.reg_intake.specs.declared.pulls.Pulls.{Pulls}
use Rattle.reg_intake.specs.declared.refusal.Refusal.{Refusal}
use Rattle.reg_intake.specs.declared.refusal.Refusal.TheVariants.{At, TooLong, InputFailed}
use Rattle.reg_intake.specs.declared.refusal.Refusal.TheVariants.{NoRoom, OutputFailed}

-- nothing was pulled
abbrev pub nothing : Pulls
nothing = record { total = 0; is_ended = false }

-- the source gave these bytes, they are within the limit with those before, and no pull failed; at the end
-- they are all, and after it there are none
pub record Gives (left now : Option (List ℕ)) (failed failed_now : ℕ) (old new : Pulls)
    (bytes : List ℕ) : Type 0 where
  pub gave : Consumes left now bytes
  pub counted : new.total ≡ old.total + length bytes
  pub within : new.total ≤ MAX_INPUT
  pub ended : old.is_ended ≡ false → new.is_ended ≡ true → IsAll left bytes
  pub none_behind : old.is_ended ≡ true → (bytes ≡ []) × (new.is_ended ≡ true)
  pub no_failure : failed_now ≡ failed

-- the source gave more bytes than an input may have, with those before, and no pull failed
pub record Exceeds (left now : Option (List ℕ)) (failed failed_now : ℕ) (old : Pulls) : Type 0 where
  pub bytes : List ℕ
  pub gave : Consumes left now bytes
  pub over : MAX_INPUT < old.total + length bytes
  pub no_failure : failed_now ≡ failed

-- why no more is pulled: there is too much, or a pull failed
abbrev pub StopsAt : Option (List ℕ) → Option (List ℕ) → ℕ → ℕ → Pulls → Refusal → Type 0
StopsAt left now failed failed_now old (At r) = ⊥
StopsAt left now failed failed_now old TooLong = Exceeds left now failed failed_now old
StopsAt left now failed failed_now old InputFailed = failed < failed_now
StopsAt left now failed failed_now old NoRoom = ⊥
StopsAt left now failed failed_now old OutputFailed = ⊥

-- why no more is got: nothing more is pulled, or memory for more was refused
abbrev pub GetsNoMore : Option (List ℕ) → Option (List ℕ) → ℕ → ℕ → Pulls → Pulls → Refusal → Type 0
GetsNoMore left now failed failed_now old new (At r) = ⊥
GetsNoMore left now failed failed_now old new TooLong = Exceeds left now failed failed_now old
GetsNoMore left now failed failed_now old new InputFailed = failed < failed_now
GetsNoMore left now failed failed_now old new NoRoom =
    (bytes : List ℕ) × Gives left now failed failed_now old new bytes
GetsNoMore left now failed failed_now old new OutputFailed = ⊥

-- the end was met, or there are more bytes than before
abbrev pub IsFurther : Pulls → Pulls → Type 0
IsFurther old new = (new.is_ended ≡ true) ⊎ (old.total < new.total)
