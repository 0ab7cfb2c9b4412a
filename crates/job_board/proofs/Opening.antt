-- The facts hold of a new board.
use Rattle.std.proofs.Common.{ℕ, zero, suc, ◌≤◌, min, [], ◌∷◌, sym, refl, inl, subst, arith}
use mathlib.Core.Option.{some-injective, some-ne-none}
use Rattle.job_board.specs.declared.limits.TheConstants.{MAX_JOBS}
use Rattle.job_board.specs.Seats.{opening_view}
use Rattle.job_board.specs.Facts.{flag_count, IsSound, EachSeat, IsConsistent}
use Rattle.job_board.proofs.Times.{once_high}

-- the opening state
pub opening_keeps : (jobs : ℕ) → jobs ≤ MAX_JOBS → IsConsistent jobs 0 jobs (opening_view jobs ∷ [])
opening_keeps jobs le = record {
  within = le;
  weights = refl;
  drawn = λ x. sym (once_high x (min 0 jobs) (omega arith));
  least_flag = record { at_most = omega arith; below = λ x e. absurd (omega arith); found = inl refl };
  passed = omega arith;
  sound = each;
}
  where
    mine : IsSound jobs 0 (flag_count (opening_view jobs ∷ [])) (opening_view jobs)
    mine = record {
      spent = λ e. absurd (omega arith);
      jobs_known = λ e. refl;
      seen = λ e. inl refl;
      exhausted = λ e. absurd (cc);
    }

    each : EachSeat (IsSound jobs 0 (flag_count (opening_view jobs ∷ []))) (opening_view jobs ∷ [])
    each zero v e = subst (IsSound jobs 0 (flag_count (opening_view jobs ∷ []))) (some-injective _ _ e) mine
    each (suc id) v e = absurd (some-ne-none v (sym e))
