-- A split keeps the facts.
use Rattle.std.proofs.Common.{◌≡◌, ℕ, ◌+◌, ◌-◌, ◌<◌, ◌≤◌, Bool, true, false}
use Rattle.std.proofs.Common.{List, [], ◌∷◌, ◌++◌, set, sym, refl, ◌∙◌, arith}
use mathlib.Core.Option.{some}
use lib.ListN.{get_elem?}
use Rattle.job_board.specs.Numbers.{times}
use Rattle.job_board.specs.Seats.{View, first_part, second_part}
use Rattle.job_board.specs.Facts.{total, weight_of, number_if, exhausted_weight}
use Rattle.job_board.specs.Facts.{flag_count, IsSound, IsConsistent}
use Rattle.job_board.proofs.Totals.{total_set, total_snoc}
use Rattle.job_board.proofs.Sound.{each_set, each_snoc, sound_later, sound_changed, least_same}

-- a seat is cut in two
total_cut : (f : View → ℕ) (vs : List View) (id : ℕ) (v l r : View) → get_elem? vs id ≡ some v
    → f l + f r ≡ f v → total f (set vs id l ++ r ∷ []) ≡ total f vs
total_cut f vs id v l r at e =
    let a = total_snoc f (set vs id l) r in let b = total_set f vs id v l at in omega arith

-- the two parts of an exhausted seat have its weight
exhausted_cut : (t : Bool) (part weight : ℕ) → part ≤ weight
    → number_if t part + number_if t (weight - part) ≡ number_if t weight
exhausted_cut true part weight le = omega arith
exhausted_cut false part weight le = refl

-- a split
pub split_keeps : (jobs next least part : ℕ) (seats : List View) (id : ℕ) (v : View)
    → IsConsistent jobs next least seats → get_elem? seats id ≡ some v → 0 < part → part < v.weight
    → IsConsistent jobs next least (set seats id (first_part part v) ++ second_part part v ∷ [])
split_keeps jobs next least part seats id v h at some_part some_rest =
    let l = first_part part v in let r = second_part part v in record {
      within = h.within;
      weights =
          let a = total_cut weight_of seats id v l r at (omega arith) in let b = h.weights in omega arith;
      drawn = λ x. total_cut (λ u. times x u.drawn) seats id v l r at (omega arith) ∙ h.drawn x;
      least_flag = least_same jobs least _ _ (λ x. sym (same x)) h.least_flag;
      passed =
          let a =
          total_cut exhausted_weight seats id v l r at
          (exhausted_cut v.exhausted part v.weight (omega arith)) in let b = h.passed in omega arith;
      sound =
          each_snoc _ (set seats id l) r second
          (each_set _ seats id l first (λ j u e.
          sound_later jobs next next _ _ u (omega arith) more (h.sound j u e)));
    }
  where
    new : List View
    new = set seats id (first_part part v) ++ second_part part v ∷ []

    same : (x : ℕ) → flag_count new x ≡ flag_count seats x
    same x =
        total_cut (λ u. times x u.flagged) seats id v (first_part part v) (second_part part v) at
        (omega arith)

    more : (x : ℕ) → flag_count seats x ≤ flag_count new x
    more x = let e = same x in omega arith

    was : IsSound jobs next (flag_count new) v
    was = sound_later jobs next next _ _ v (omega arith) more (h.sound id v at)

    first : IsSound jobs next (flag_count new) (first_part part v)
    first =
        sound_changed jobs next _ v (first_part part v) some_part (omega arith) refl refl was.exhausted was

    second : IsSound jobs next (flag_count new) (second_part part v)
    second =
        sound_changed jobs next _ v (second_part part v) (omega arith)
        (omega arith) refl refl was.exhausted was
