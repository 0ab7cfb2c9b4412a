-- A join keeps the facts.
use Rattle.std.proofs.Common.{◌≡◌, ◌≢◌, ℕ, ◌+◌, ◌<◌, ◌≤◌, Bool, true, false}
use Rattle.std.proofs.Common.{◌||◌, List, set, sym, refl, ⊎_elim, arith}
use mathlib.Core.Option.{some}
use lib.ListN.{get_elem?}
use Rattle.atomic_table.proofs.Lists.{at_set}
use Rattle.job_board.specs.Numbers.{times}
use Rattle.job_board.specs.Seats.{View, spent_view, joint_view}
use Rattle.job_board.specs.Facts.{total, weight_of, number_if, exhausted_weight}
use Rattle.job_board.specs.Facts.{flag_count, IsSound, IsConsistent}
use Rattle.job_board.proofs.Times.{times-append}
use Rattle.job_board.proofs.Totals.{total_set}
use Rattle.job_board.proofs.Sound.{each_set, sound_later, least_same, least_of_two}

-- two seats become one
total_glue : (f : View → ℕ) (vs : List View) (id other : ℕ) (v w both rest : View) → get_elem? vs id ≡ some v
    → get_elem? (set vs id both) other ≡ some w → f rest ≡ 0
    → total f (set (set vs id both) other rest) + (f v + f w) ≡ total f vs + f both
total_glue f vs id other v w both rest at there e =
    let a =
    total_set f vs id v both at in let b = total_set f (set vs id both) other w rest there in omega arith

-- if one of two seats is exhausted, the weight of both counts
exhausted_glue : (s t : Bool) (a b : ℕ) → number_if s a + number_if t b ≤ number_if (s || t) (a + b)
exhausted_glue true true a b = omega arith
exhausted_glue true false a b = omega arith
exhausted_glue false true a b = omega arith
exhausted_glue false false a b = omega arith

-- what holds if either is exhausted
exhausted_either : (s t : Bool) (A : Type 0) → (s ≡ true → A) → (t ≡ true → A) → (s || t) ≡ true → A
exhausted_either true t A f g e = f refl
exhausted_either false t A f g e = g e

-- a join of two seats
pub join_keeps : (jobs next least : ℕ) (seats : List View) (id other : ℕ) (v w : View)
    → IsConsistent jobs next least seats → get_elem? seats id ≡ some v → other ≢ id
    → get_elem? (set seats id (joint_view v w)) other ≡ some w → 0 < v.weight → 0 < w.weight
    → IsConsistent jobs next least (set (set seats id (joint_view v w)) other spent_view)
join_keeps jobs next least seats id other v w h at apart there heavy heavy' = record {
  within = h.within;
  weights = let a = glue weight_of refl in let b = h.weights in omega arith;
  drawn =
      λ x. let a =
      glue (λ u. times x u.drawn) refl in let b =
      times-append x v.drawn w.drawn in let d = h.drawn x in omega arith;
  least_flag = least_same jobs least _ _ (λ x. sym (same x)) h.least_flag;
  passed =
      let a =
      glue exhausted_weight refl in let b =
      exhausted_glue v.exhausted w.exhausted v.weight w.weight in let c = h.passed in omega arith;
  sound =
      each_set _ (set seats id (joint_view v w)) other spent_view none
      (each_set _ seats id (joint_view v w) both (λ j u e. grown u (h.sound j u e)));
}
  where
    new : List View
    new = set (set seats id (joint_view v w)) other spent_view

    glue : (f : View → ℕ) → f spent_view ≡ 0 → total f new + (f v + f w) ≡ total f seats + f (joint_view v w)
    glue f e = total_glue f seats id other v w (joint_view v w) spent_view at there e

    same : (x : ℕ) → flag_count new x ≡ flag_count seats x
    same x =
        let a =
        glue (λ u. times x u.flagged) refl in let b = times-append x v.flagged w.flagged in omega arith

    grown : (u : View) → IsSound jobs next (flag_count seats) u → IsSound jobs next (flag_count new) u
    grown u k = sound_later jobs next next _ _ u (omega arith) (λ x. let e = same x in omega arith) k

    mine : IsSound jobs next (flag_count new) v
    mine = grown v (h.sound id v at)

    theirs : IsSound jobs next (flag_count new) w
    theirs =
        grown w (⊎_elim (λ (t : (other ≡ id) × (joint_view v w ≡ w)). absurd (apart t.0))
        (λ (t : (other ≢ id) × (get_elem? seats other ≡ some w)). h.sound other w t.1)
        (at_set seats id other (joint_view v w) w there))

    both : IsSound jobs next (flag_count new) (joint_view v w)
    both = record {
      spent = λ e. absurd (omega arith);
      jobs_known = λ _. mine.jobs_known heavy;
      seen = λ _. least_of_two jobs v.seen w.seen (flag_count new) (mine.seen heavy) (theirs.seen heavy');
      exhausted = exhausted_either v.exhausted w.exhausted (jobs ≤ next) mine.exhausted theirs.exhausted;
    }

    none : IsSound jobs next (flag_count new) spent_view
    none = record {
      spent = λ e. refl;
      jobs_known = λ e. absurd (omega arith);
      seen = λ e. absurd (omega arith);
      exhausted = λ e. absurd (cc);
    }
