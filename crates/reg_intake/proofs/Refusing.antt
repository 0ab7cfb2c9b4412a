-- Why there is no arena of all that a source had left, once that was pulled.
use Rattle.std.proofs.Common.{◌≡◌, ◌⊎◌, inl, inr, ◌<◌, ℕ, true, List, ◌++◌, length, Option}
use Rattle.std.proofs.Common.{Some, None, refl, sym, ap, subst, arith, length-append}
use Rattle.std.specs.Io.KnownBytes.{Consumes}
use Rattle.history_text.specs.declared.limits.TheConstants.{MAX_INPUT}
use Rattle.history_model.specs.declared.refusal.LineRefusal.{LineRefusal}
use Rattle.reg_intake.proofs.Pulling.{gives-more, no-more, stops-after}
use Rattle.reg_intake.specs.Arena.{IsRefusedOf}
use Rattle.reg_intake.specs.Ends.{IsTooLong}
use Rattle.reg_intake.specs.Pulls.{Exceeds, GetsNoMore, Gives, StopsAt, nothing}
use Rattle.reg_intake.specs.Refused.{IsRefusedBy}
use Rattle.reg_intake.specs.Underway.{MayChange, IsStopped}
use Rattle.reg_intake.specs.declared.pulls.Pulls.{Pulls}
use Rattle.reg_intake.specs.declared.refusal.Refusal.{Refusal}
use Rattle.reg_intake.specs.declared.refusal.Refusal.TheVariants.{At, TooLong, InputFailed}
use Rattle.reg_intake.specs.declared.refusal.Refusal.TheVariants.{NoRoom, OutputFailed}

-- if more bytes than the limit were pulled, more than the limit were left
too-long : (left now : Option (List ℕ)) (bytes : List ℕ) → Consumes left now bytes
    → MAX_INPUT < length bytes → IsTooLong left
too-long None now bytes gave more = (bytes, tt, more)
too-long (Some xs) None bytes gave more = absurd gave
too-long (Some xs) (Some ys) bytes gave more =
    (xs, refl, let whole = ap length gave in let joined = length-append bytes ys in omega arith)

exceeds : (left now : Option (List ℕ)) (failed failed_now : ℕ) → Exceeds left now failed failed_now nothing
    → IsTooLong left × (failed_now ≡ failed)
exceeds left now failed failed_now e =
    (too-long left now e.bytes e.gave (let over = e.over in omega arith), e.no_failure)

-- what kept all the bytes from being got is the reason, unless memory ran out
pub got-no-more : (IsLineOf : List ℕ → LineRefusal → Type 0) (left now : Option (List ℕ))
    (failed failed_now : ℕ) (new : Pulls) (refusal : Refusal) → (refusal ≡ NoRoom → ⊥)
    → GetsNoMore left now failed failed_now nothing new refusal
    → IsRefusedBy IsLineOf left failed failed_now refusal
got-no-more IsLineOf left now failed failed_now new (At r) other s = absurd s
got-no-more IsLineOf left now failed failed_now new TooLong other s = exceeds left now failed failed_now s
got-no-more IsLineOf left now failed failed_now new InputFailed other s = s
got-no-more IsLineOf left now failed failed_now new NoRoom other s = absurd (other refl)
got-no-more IsLineOf left now failed failed_now new OutputFailed other s = absurd s

-- what stopped the pulls is the reason
pub stops : (IsLineOf : List ℕ → LineRefusal → Type 0) (left now : Option (List ℕ)) (failed failed_now : ℕ)
    (refusal : Refusal) → StopsAt left now failed failed_now nothing refusal
    → IsRefusedBy IsLineOf left failed failed_now refusal
stops IsLineOf left now failed failed_now refusal s =
    got-no-more IsLineOf left now failed failed_now nothing refusal
    (λ e. subst (StopsAt left now failed failed_now nothing) e s)
    (no-more left now failed failed_now nothing nothing refusal s)

-- a refusal of a line, or because memory ran out, may be another one
pub may-change : (refusal : Refusal) → ((r : LineRefusal) × (refusal ≡ At r)) ⊎ (refusal ≡ NoRoom)
    → MayChange refusal
may-change refusal (inl at) = subst MayChange (sym at.1) tt
may-change refusal (inr e) = subst MayChange (sym e) tt

-- and no other
pub may-not-change : (refusal : Refusal) → (refusal ≡ TooLong)
    ⊎ ((refusal ≡ InputFailed) ⊎ (refusal ≡ OutputFailed)) → MayChange refusal → ⊥
may-not-change refusal (inl e) may_change = subst MayChange e may_change
may-not-change refusal (inr (inl e)) may_change = subst MayChange e may_change
may-not-change refusal (inr (inr e)) may_change = subst MayChange e may_change

-- a refusal for which no more is pulled
pub refused-now : (left now : Option (List ℕ)) (failed failed_now : ℕ) (pulled : Pulls) (refusal : Refusal)
    → (MayChange refusal → ⊥) → IsStopped left now failed failed_now pulled refusal
    → IsRefusedOf left failed failed_now refusal
refused-now left now failed failed_now pulled (At r) closed s = absurd (closed tt)
refused-now left now failed failed_now pulled TooLong closed s = exceeds left now failed failed_now s
refused-now left now failed failed_now pulled InputFailed closed s = s
refused-now left now failed failed_now pulled NoRoom closed s = absurd (closed tt)
refused-now left now failed failed_now pulled OutputFailed closed s = absurd s

module _ (left mid now : Option (List ℕ)) (failed failed_mid failed_now : ℕ) (pulled : Pulls) where
  -- a refusal after which the rest was pulled
  pub refused-after-rest : (dropped : Pulls) (more : List ℕ) (refusal : Refusal) → MayChange refusal
      → IsStopped left mid failed failed_mid pulled refusal
      → Gives mid now failed_mid failed_now pulled dropped more → dropped.is_ended ≡ true
      → IsRefusedOf left failed failed_now refusal
  refused-after-rest dropped more (At r) may_change s rest ended =
      let all =
      gives-more left mid now failed failed_mid failed_now nothing pulled s.0 s.1 dropped more rest in
      let within = all.within in let counted = all.counted in
      (s.0 ++ more, all.ended refl ended, omega arith, s.2 more (λ e. (rest.none_behind e).0), all.no_failure)
  refused-after-rest dropped more TooLong may_change s rest ended = absurd may_change
  refused-after-rest dropped more InputFailed may_change s rest ended = absurd may_change
  refused-after-rest dropped more NoRoom may_change s rest ended =
      let all =
      gives-more left mid now failed failed_mid failed_now nothing pulled s.0 s.1 dropped more rest in
      let within = all.within in let counted = all.counted in
      ((s.0 ++ more, all.ended refl ended, omega arith), all.no_failure)
  refused-after-rest dropped more OutputFailed may_change s rest ended = absurd may_change

  -- a refusal for which the rest could not be pulled
  pub refused-in-rest : (first refusal : Refusal) → MayChange first
      → IsStopped left mid failed failed_mid pulled first
      → StopsAt mid now failed_mid failed_now pulled refusal → IsRefusedOf left failed failed_now refusal
  refused-in-rest (At r) refusal may_change s rest =
      stops _ left now failed failed_now refusal
      (stops-after left mid now failed failed_mid failed_now nothing pulled s.0 s.1 refusal rest)
  refused-in-rest TooLong refusal may_change s rest = absurd may_change
  refused-in-rest InputFailed refusal may_change s rest = absurd may_change
  refused-in-rest NoRoom refusal may_change s rest =
      stops _ left now failed failed_now refusal
      (stops-after left mid now failed failed_mid failed_now nothing pulled s.0 s.1 refusal rest)
  refused-in-rest OutputFailed refusal may_change s rest = absurd may_change
