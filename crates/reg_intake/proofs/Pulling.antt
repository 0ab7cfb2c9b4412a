-- Pulls, one after the other.
use Rattle.std.proofs.Common.{◌≡◌, ◌⊎◌, inl, inr, ℕ, Bool, true, false, cond, ◌+◌, ◌-◌}
use Rattle.std.proofs.Common.{◌<◌, ◌≤◌, List, [], ◌++◌, Option, Some, None, refl, sym}
use Rattle.std.proofs.Common.{subst, ◌∙◌, ap, arith, length-append, append-nil}
use Rattle.std.specs.Io.KnownBytes.{Consumes}
use Rattle.std.proofs.KnownBytes.{Consumes-nil, Consumes-trans}
use Rattle.history_text.specs.declared.limits.TheConstants.{MAX_INPUT}
use Rattle.reg_intake.specs.Ends.{IsAll}
use Rattle.reg_intake.specs.Pulls.{Gives, GetsNoMore, IsFurther, StopsAt}
use Rattle.reg_intake.specs.declared.pulls.Pulls.{Pulls}
use Rattle.reg_intake.specs.declared.refusal.Refusal.{Refusal}
use Rattle.reg_intake.specs.declared.refusal.Refusal.TheVariants.{At, TooLong, InputFailed}
use Rattle.reg_intake.specs.declared.refusal.Refusal.TheVariants.{NoRoom, OutputFailed}

-- how much can be pulled yet: nothing after the end, else at least the pull that meets it
abbrev pub left_to_pull : Pulls → ℕ
left_to_pull pulled = cond pulled.is_ended 0 (MAX_INPUT - pulled.total + 1)

-- each pull leaves less
pub less-to-pull : (old new : Pulls) → old.is_ended ≡ false → new.total ≤ MAX_INPUT → IsFurther old new
    → left_to_pull new < left_to_pull old
less-to-pull old new not_ended within further =
    subst (λ b. left_to_pull new < cond b 0 (MAX_INPUT - old.total + 1)) (sym not_ended)
    (go new.is_ended further)
  where
    go : (b : Bool) → (b ≡ true) ⊎ (old.total < new.total)
        → cond b 0 (MAX_INPUT - new.total + 1) < MAX_INPUT - old.total + 1
    go true further = omega arith
    go false (inl e) = cc
    go false (inr more) = omega (arith, more, within)

-- nothing is pulled
pub gives-none : (left : Option (List ℕ)) (failed : ℕ) (old : Pulls) → old.total ≤ MAX_INPUT
    → Gives left left failed failed old old []
gives-none left failed old within = record {
  gave = Consumes-nil left;
  counted = omega arith;
  within = within;
  ended = λ not_ended ended. cc;
  none_behind = λ ended. (refl, ended);
  no_failure = refl;
}

-- all that was left after what was given
all-behind : (left mid : Option (List ℕ)) (bytes more : List ℕ) → Consumes left mid bytes → IsAll mid more
    → IsAll left (bytes ++ more)
all-behind None mid bytes more gave all = tt
all-behind (Some xs) None bytes more gave all = absurd gave
all-behind (Some xs) (Some ys) bytes more gave all = gave ∙ ap (λ zs. bytes ++ zs) all

-- more after what was given is more than before
pub further-behind : (left now : Option (List ℕ)) (failed failed_now : ℕ) (old middle new : Pulls)
    (bytes : List ℕ) → Gives left now failed failed_now old middle bytes → IsFurther middle new
    → IsFurther old new
further-behind left now failed failed_now old middle new bytes before (inl ended) = inl ended
further-behind left now failed failed_now old middle new bytes before (inr more) =
    inr (let counted = before.counted in omega (arith, more))

module _ (left mid now : Option (List ℕ)) (failed failed_mid failed_now : ℕ) (old middle : Pulls)
    (bytes : List ℕ) (before : Gives left mid failed failed_mid old middle bytes) where
  -- more was given after what was given
  pub gives-more : (new : Pulls) (more : List ℕ) → Gives mid now failed_mid failed_now middle new more
      → Gives left now failed failed_now old new (bytes ++ more)
  gives-more new more after = record {
    gave = Consumes-trans left mid now bytes more before.gave after.gave;
    counted =
        (let first = before.counted in let second = after.counted in let both = length-append bytes more in
        omega arith);
    within = after.within;
    ended = λ not_ended ended. all not_ended ended middle.is_ended refl;
    none_behind = λ ended. let first = before.none_behind ended in let second = after.none_behind first.1 in
        (ap (λ zs. zs ++ more) first.0 ∙ second.0, second.1);
    no_failure = after.no_failure ∙ before.no_failure;
  }
    where
      all : old.is_ended ≡ false → new.is_ended ≡ true → (b : Bool) → middle.is_ended ≡ b
          → IsAll left (bytes ++ more)
      all not_ended ended true e =
          subst (IsAll left) (sym (append-nil bytes) ∙ ap (λ zs. bytes ++ zs) (sym (after.none_behind e).0))
          (before.ended not_ended e)
      all not_ended ended false e = all-behind left mid bytes more before.gave (after.ended e ended)

  -- what stops the pulls stops them from the first on
  pub stops-after : (refusal : Refusal) → StopsAt mid now failed_mid failed_now middle refusal
      → StopsAt left now failed failed_now old refusal
  stops-after (At r) stops = stops
  stops-after TooLong stops = record {
    bytes = bytes ++ stops.bytes;
    gave = Consumes-trans left mid now bytes stops.bytes before.gave stops.gave;
    over =
        (let first = before.counted in let over = stops.over in let both = length-append bytes stops.bytes in
        omega arith);
    no_failure = stops.no_failure ∙ before.no_failure;
  }
  stops-after InputFailed stops = (let same = before.no_failure in omega (arith, stops))
  stops-after NoRoom stops = stops
  stops-after OutputFailed stops = stops

  -- what keeps more from being got does so from the first on
  pub no-more-after : (new : Pulls) (refusal : Refusal)
      → GetsNoMore mid now failed_mid failed_now middle new refusal
      → GetsNoMore left now failed failed_now old new refusal
  no-more-after new (At r) stops = stops
  no-more-after new TooLong stops = stops-after TooLong stops
  no-more-after new InputFailed stops = stops-after InputFailed stops
  no-more-after new NoRoom stops = (bytes ++ stops.0, gives-more new stops.0 stops.1)
  no-more-after new OutputFailed stops = stops

-- what stops a pull keeps more from being got
pub no-more : (left now : Option (List ℕ)) (failed failed_now : ℕ) (old new : Pulls) (refusal : Refusal)
    → StopsAt left now failed failed_now old refusal → GetsNoMore left now failed failed_now old new refusal
no-more left now failed failed_now old new (At r) stops = stops
no-more left now failed failed_now old new TooLong stops = stops
no-more left now failed failed_now old new InputFailed stops = stops
no-more left now failed failed_now old new NoRoom stops = absurd stops
no-more left now failed failed_now old new OutputFailed stops = stops
