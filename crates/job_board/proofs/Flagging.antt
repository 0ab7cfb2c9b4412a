-- A flag keeps the facts.
use Rattle.std.proofs.Common.{◌≡◌, ◌≢◌, ◌⊎◌, ℕ, ◌+◌, ◌<◌, ◌≤◌, min, eqb, List, [], ◌∷◌}
use Rattle.std.proofs.Common.{set, refl, ◌∙◌, inl, inr, ⊎_elim, lt_of_not-le, arith}
use mathlib.Core.Option.{some}
use mathlib.Core.Logic.{dite}
use native.Mathlib.Decide.{dec_le, ℕ_discrete}
use lib.ListN.{get_elem?}
use Rattle.job_board.specs.Numbers.{one_if, times}
use Rattle.job_board.specs.Seats.{View, with_flag}
use Rattle.job_board.specs.Facts.{weight_of, exhausted_weight, flag_count, IsSound, IsConsistent}
use Rattle.job_board.proofs.Times.{times-append, once_same, once_other}
use Rattle.job_board.proofs.Totals.{total_set, total_same}
use Rattle.job_board.proofs.Sound.{each_set, sound_later, least_of_two}
use Rattle.job_board.proofs.Drawing.{drawn_low}

-- the lesser of least and the number is jobs or flagged
flag_found : (jobs least job : ℕ) (f g : ℕ → ℕ) → ((x : ℕ) → g x ≡ f x + one_if (eqb job x))
    → (least ≡ jobs) ⊎ (0 < f least) → Dec (least ≤ job) → (min least job ≡ jobs) ⊎ (0 < g (min least job))
flag_found jobs least job f g more found (yes le) =
    let m : min least job ≡ least = omega arith in
    rw m (⊎_elim (λ (e : least ≡ jobs). inl e) (λ (e : 0 < f least). inr (let a = more least in
    omega arith)) found)
flag_found jobs least job f g more found (no gt) =
    let m : min least job ≡ job = let lt = lt_of_not-le gt in omega arith in
    rw m (inr (let a = more job in let b = once_same job in omega arith))

-- and no greater than any flagged number
flag_below : (jobs least job x : ℕ) (f g : ℕ → ℕ) → ((y : ℕ) → g y ≡ f y + one_if (eqb job y)) → job < jobs
    → ((y : ℕ) → 0 < f y → (least ≤ y) × (y < jobs)) → 0 < g x → (min least job ≤ x) × (x < jobs)
flag_below jobs least job x f g more low below there = dite (ℕ_discrete job x)
    (λ (e : job ≡ x). (omega arith, omega arith))
    (λ (ne : job ≢ x).
    let a = more x in
    let b = once_other job x ne in
    let c = below x (omega arith) in
    let c0 = c.0 in let c1 = c.1 in (omega arith, omega arith))

-- a flag of a drawn number
pub flag_keeps : (jobs next least : ℕ) (seats : List View) (id : ℕ) (v : View) (job : ℕ)
    → IsConsistent jobs next least seats → get_elem? seats id ≡ some v → 0 < v.weight → 0 < times job v.drawn
    → IsConsistent jobs next (min least job) (set seats id (with_flag v job))
flag_keeps jobs next least seats id v job h at heavy there = let w = with_flag v job in record {
  within = h.within;
  weights = total_same weight_of seats id v w at refl ∙ h.weights;
  drawn = λ x. total_same (λ u. times x u.drawn) seats id v w at refl ∙ h.drawn x;
  least_flag = record {
    at_most = let a = h.least_flag.at_most in omega arith;
    below =
        λ x e. flag_below jobs least job x (flag_count seats) (flag_count (set seats id w)) grows
        (drawn_low jobs next least seats id v job h at there) h.least_flag.below e;
    found =
        flag_found jobs least job (flag_count seats) (flag_count (set seats id w)) grows h.least_flag.found
        (dec_le least job);
  };
  passed = let a = total_same exhausted_weight seats id v w at refl in let b = h.passed in omega arith;
  sound =
      each_set _ seats id w mine (λ j u e.
      sound_later jobs next next _ _ u (omega arith) more (h.sound j u e));
}
  where
    grows : (x : ℕ) → flag_count (set seats id (with_flag v job)) x ≡ flag_count seats x + one_if (eqb job x)
    grows x =
        let a = total_set (λ u. times x u.flagged) seats id v (with_flag v job) at in
        let b : times x (with_flag v job).flagged ≡ times x v.flagged + (one_if (eqb job x) + 0) =
        times-append x v.flagged (job ∷ []) in omega arith

    more : (x : ℕ) → flag_count seats x ≤ flag_count (set seats id (with_flag v job)) x
    more x = let e = grows x in omega arith

    there' : 0 < flag_count (set seats id (with_flag v job)) job
    there' = let a = grows job in let b = once_same job in omega arith

    mine : IsSound jobs next (flag_count (set seats id (with_flag v job))) (with_flag v job)
    mine = let was = sound_later jobs next next _ _ v (omega arith) more (h.sound id v at) in record {
      spent = λ e. absurd (omega arith);
      jobs_known = was.jobs_known;
      seen =
          λ some_weight. least_of_two jobs v.seen job (flag_count (set seats id (with_flag v job)))
          (was.seen some_weight) (inr there');
      exhausted = was.exhausted;
    }
