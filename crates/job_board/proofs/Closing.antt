-- What the seat with all the weight has when the board is closed.
use Rattle.std.proofs.Common.{◌≡◌, ℕ, ◌<◌, min, List, [], ◌∷◌, sym, refl}
use Rattle.std.proofs.Common.{ap, ◌∙◌, inl, inr, subst, ⊎_elim, arith}
use mathlib.Core.Option.{some, some-injective}
use lib.ListN.{get_elem?}
use Rattle.atomic_table.specs.Table.{Final, Seen}
use Rattle.job_board.specs.declared.limits.TheConstants.{FULL_WEIGHT}
use Rattle.job_board.specs.Numbers.{times}
use Rattle.job_board.specs.Seats.{View, spent_view}
use Rattle.job_board.specs.Facts.{total, flag_count, IsSound, IsConsistent}
use Rattle.job_board.specs.Steps.{IsBoard, ClosesWith}
use Rattle.job_board.proofs.Totals.{total_alone}
use Rattle.job_board.proofs.Sound.{least_same}
use Rattle.job_board.proofs.Looking.{look_seen}

-- the seat with all the weight has all that the seats have
whole_seat : (jobs next least : ℕ) (views : List View) (id : ℕ) (v : View)
    → IsConsistent jobs next least views → get_elem? views id ≡ some v → v.weight ≡ FULL_WEIGHT
    → ClosesWith jobs v least
whole_seat jobs next least views id v h at all = record {
  jobs_known = mine.jobs_known (omega arith);
  drawn = (
    min next jobs,
    omega arith,
    (λ x. sym (alone (λ u. times x u.drawn) refl) ∙ h.drawn x),
    λ exhausted. let a = mine.exhausted exhausted in omega arith,
  );
  least = least_same jobs least _ _ flagged h.least_flag;
  seen =
      ⊎_elim (λ (e : v.seen ≡ jobs). inl e)
      (λ (e : 0 < flag_count views v.seen). inr (let a = flagged v.seen in omega arith))
      (mine.seen (omega arith));
  at_most_seen = look_seen jobs next least views id v h at (omega arith);
}
  where
    mine : IsSound jobs next (flag_count views) v
    mine = h.sound id v at

    alone : (f : View → ℕ) → f spent_view ≡ 0 → total f views ≡ f v
    alone f none =
        total_alone f views id v at (λ j u there light. ap f ((h.sound j u there).spent light)
        ∙ none) (h.weights ∙ sym all)

    flagged : (x : ℕ) → flag_count views x ≡ times x v.flagged
    flagged x = alone (λ u. times x u.flagged) refl

-- the word that the closed table has
pub closes : (jobs id : ℕ) (v : View) (words slots : List ℕ) (n : ℕ) → v.weight ≡ FULL_WEIGHT
    → Final (Seen (IsBoard jobs) id v) words slots → get_elem? words 1 ≡ some n → ClosesWith jobs v n
closes jobs id v words slots n all final found =
    let s = final.0 in
    let h = final.1.0 in
    let e : get_elem? (h.0 ∷ h.1 ∷ []) 1 ≡ some n =
    subst (λ ws. get_elem? ws 1 ≡ some n) (sym final.2 ∙ h.2) found in
    subst (ClosesWith jobs v) (some-injective _ _ e) (whole_seat jobs h.0 h.1 s.views id v h.3 final.1.1 all)
