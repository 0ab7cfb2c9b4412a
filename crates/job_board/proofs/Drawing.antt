-- A draw keeps the facts, and its number is a new one.
use Rattle.std.proofs.Common.{◌≡◌, ℕ, ◌+◌, ◌<◌, ◌≤◌, min, false, eqb, List}
use Rattle.std.proofs.Common.{[], ◌∷◌, set, sym, refl, ap, ◌∙◌, arith}
use mathlib.Core.Option.{some}
use lib.ListN.{get_elem?}
use Rattle.job_board.specs.declared.limits.TheConstants.{MAX_JOBS, FULL_WEIGHT}
use Rattle.job_board.specs.Numbers.{one_if, times, times_below, IsDistinct}
use Rattle.job_board.specs.Seats.{View, with_drawn, with_exhausted}
use Rattle.job_board.specs.Facts.{weight_of, number_if, exhausted_weight}
use Rattle.job_board.specs.Facts.{draw_count, flag_count, IsSound, IsConsistent}
use Rattle.job_board.proofs.Times.{times-append, once_high, once_at_most, once_is_low, once_step}
use Rattle.job_board.proofs.Totals.{total_set, total_same, total_at, total_below, exhausted_at_most}
use Rattle.job_board.proofs.Sound.{each_set, sound_later, sound_changed, least_same}

-- next never passes its word
pub next_small : (jobs next least : ℕ) (seats : List View) → IsConsistent jobs next least seats
    → next ≤ MAX_JOBS + FULL_WEIGHT
next_small jobs next least seats h =
    let a = h.within in let b = h.weights in let c = h.passed in
    let d = total_below exhausted_weight weight_of exhausted_at_most seats in omega arith

-- the number that is drawn was in no seat
pub new_number : (jobs next least : ℕ) (seats : List View) (id : ℕ) (v : View)
    → IsConsistent jobs next least seats → get_elem? seats id ≡ some v → times next v.drawn ≡ 0
new_number jobs next least seats id v h at =
    let a = total_at (λ u. times next u.drawn) seats id v at in
    let b : draw_count seats next ≡ times_below next (min next jobs) = h.drawn next in
    let c = once_high next (min next jobs) (omega arith) in omega arith

-- a number that some seat drew is below jobs
pub drawn_low : (jobs next least : ℕ) (seats : List View) (id : ℕ) (v : View) (x : ℕ)
    → IsConsistent jobs next least seats → get_elem? seats id ≡ some v → 0 < times x v.drawn → x < jobs
drawn_low jobs next least seats id v x h at there =
    let a = total_at (λ u. times x u.drawn) seats id v at in
    let b = h.drawn x in
    let c = once_is_low x (min next jobs) (omega arith) in omega arith

-- no number is twice in a seat
pub drawn_distinct : (jobs next least : ℕ) (seats : List View) (id : ℕ) (v : View)
    → IsConsistent jobs next least seats → get_elem? seats id ≡ some v → IsDistinct v.drawn
drawn_distinct jobs next least seats id v h at x =
    let a = total_at (λ u. times x u.drawn) seats id v at in
    let b = h.drawn x in
    let c = once_at_most x (min next jobs) in omega arith

-- a draw that found a number
pub draw_keeps : (jobs next least : ℕ) (seats : List View) (id : ℕ) (v : View)
    → IsConsistent jobs next least seats → get_elem? seats id ≡ some v → 0 < v.weight → next < jobs
    → IsConsistent jobs (next + 1) least (set seats id (with_drawn v next))
draw_keeps jobs next least seats id v h at heavy lt = let w = with_drawn v next in record {
  within = h.within;
  weights = total_same weight_of seats id v w at refl ∙ h.weights;
  drawn = λ x.
      let a = total_set (λ u. times x u.drawn) seats id v w at in
      let b : times x w.drawn ≡ times x v.drawn + (one_if (eqb next x) + 0) =
      times-append x v.drawn (next ∷ []) in
      let c = once_step x next jobs lt in
      let d = h.drawn x in omega arith;
  least_flag =
      least_same jobs least _ _ (λ x. sym (total_same (λ u. times x u.flagged) seats id v w at refl))
      h.least_flag;
  passed = omega arith;
  sound =
      each_set _ seats id w mine (λ j u e.
      sound_later jobs next (next + 1) _ _ u (omega arith) more (h.sound j u e));
}
  where
    more : (x : ℕ) → flag_count seats x ≤ flag_count (set seats id (with_drawn v next)) x
    more x = let e = total_same (λ u. times x u.flagged) seats id v (with_drawn v next) at refl in omega arith

    mine : IsSound jobs (next + 1) (flag_count (set seats id (with_drawn v next))) (with_drawn v next)
    mine = let was = sound_later jobs next (next + 1) _ _ v (omega arith) more (h.sound id v at) in
        sound_changed jobs (next + 1) _ v (with_drawn v next) heavy heavy refl refl was.exhausted was

-- a draw that found none left
pub telling_keeps : (jobs next least : ℕ) (seats : List View) (id : ℕ) (v : View)
    → IsConsistent jobs next least seats → get_elem? seats id ≡ some v → 0 < v.weight → v.exhausted ≡ false
    → jobs ≤ next → IsConsistent jobs (next + 1) least (set seats id (with_exhausted v))
telling_keeps jobs next least seats id v h at heavy drawing le = let w = with_exhausted v in record {
  within = h.within;
  weights = total_same weight_of seats id v w at refl ∙ h.weights;
  drawn = λ x.
      let a = total_same (λ u. times x u.drawn) seats id v w at refl in
      let d = h.drawn x in
      let m : min (next + 1) jobs ≡ min next jobs = omega arith in a ∙ (d ∙ ap (times_below x) (sym m));
  least_flag =
      least_same jobs least _ _ (λ x. sym (total_same (λ u. times x u.flagged) seats id v w at refl))
      h.least_flag;
  passed =
      let a = total_set exhausted_weight seats id v w at in
      let b : exhausted_weight v ≡ 0 = ap (λ t. number_if t v.weight) drawing in
      let c = h.passed in omega arith;
  sound =
      each_set _ seats id w mine (λ j u e.
      sound_later jobs next (next + 1) _ _ u (omega arith) more (h.sound j u e));
}
  where
    more : (x : ℕ) → flag_count seats x ≤ flag_count (set seats id (with_exhausted v)) x
    more x = let e = total_same (λ u. times x u.flagged) seats id v (with_exhausted v) at refl in omega arith

    mine : IsSound jobs (next + 1) (flag_count (set seats id (with_exhausted v))) (with_exhausted v)
    mine = let was = sound_later jobs next (next + 1) _ _ v (omega arith) more (h.sound id v at) in
        sound_changed jobs (next + 1) _ v (with_exhausted v) heavy heavy refl refl (λ _. omega arith) was
