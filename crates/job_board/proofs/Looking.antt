-- A look keeps the facts, and finds no number greater than what the seat flagged or saw.
use Rattle.std.proofs.Common.{◌≡◌, ℕ, ◌<◌, ◌≤◌, List, set, sym, refl, ◌∙◌, inl, inr, ⊎_elim, arith}
use mathlib.Core.Option.{some}
use lib.ListN.{get_elem?}
use Rattle.job_board.specs.Numbers.{times}
use Rattle.job_board.specs.Seats.{View, with_seen}
use Rattle.job_board.specs.Facts.{weight_of, exhausted_weight, flag_count, IsSound, IsConsistent}
use Rattle.job_board.proofs.Totals.{total_same, total_at}
use Rattle.job_board.proofs.Sound.{each_set, sound_later, least_same}

-- what a look finds is no more than what a seat flagged or found
pub look_seen : (jobs next least : ℕ) (seats : List View) (id : ℕ) (v : View)
    → IsConsistent jobs next least seats → get_elem? seats id ≡ some v → 0 < v.weight → least ≤ v.seen
look_seen jobs next least seats id v h at heavy = ⊎_elim
    (λ (e : v.seen ≡ jobs). let a = h.least_flag.at_most in omega arith)
    (λ (e : 0 < flag_count seats v.seen). (h.least_flag.below v.seen e).0)
    ((h.sound id v at).seen heavy)

-- nor than any that it flagged
pub look_flagged : (jobs next least : ℕ) (seats : List View) (id : ℕ) (v : View) (x : ℕ)
    → IsConsistent jobs next least seats → get_elem? seats id ≡ some v → 0 < times x v.flagged → least ≤ x
look_flagged jobs next least seats id v x h at there =
    let a = total_at (λ u. times x u.flagged) seats id v at in (h.least_flag.below x (omega arith)).0

-- a look
pub look_keeps : (jobs next least : ℕ) (seats : List View) (id : ℕ) (v : View)
    → IsConsistent jobs next least seats → get_elem? seats id ≡ some v → 0 < v.weight
    → IsConsistent jobs next least (set seats id (with_seen v least))
look_keeps jobs next least seats id v h at heavy = let w = with_seen v least in record {
  within = h.within;
  weights = total_same weight_of seats id v w at refl ∙ h.weights;
  drawn = λ x. total_same (λ u. times x u.drawn) seats id v w at refl ∙ h.drawn x;
  least_flag =
      least_same jobs least _ _ (λ x. sym (total_same (λ u. times x u.flagged) seats id v w at refl))
      h.least_flag;
  passed = let a = total_same exhausted_weight seats id v w at refl in let b = h.passed in omega arith;
  sound =
      each_set _ seats id w mine (λ j u e.
      sound_later jobs next next _ _ u (omega arith) more (h.sound j u e));
}
  where
    same : (x : ℕ) → flag_count (set seats id (with_seen v least)) x ≡ flag_count seats x
    same x = total_same (λ u. times x u.flagged) seats id v (with_seen v least) at refl

    more : (x : ℕ) → flag_count seats x ≤ flag_count (set seats id (with_seen v least)) x
    more x = let e = same x in omega arith

    mine : IsSound jobs next (flag_count (set seats id (with_seen v least))) (with_seen v least)
    mine = let was = h.sound id v at in record {
      spent = λ e. absurd (omega arith);
      jobs_known = was.jobs_known;
      seen =
          λ _. ⊎_elim (λ (e : least ≡ jobs). inl e) (λ (e : 0 < flag_count seats least).
          inr (let a = same least in omega arith)) h.least_flag.found;
      exhausted = was.exhausted;
    }
