-- The initial writes of one register among those of all: its own, or none.
use Rattle.std.proofs.Common.{◌≡◌, ℕ, zero, suc, ◌<◌, ◌≤◌, cond, Bool, true, false, []}
use Rattle.std.proofs.Common.{◌∷◌, refl, ap, ◌∙◌, arith, eqb}
use Rattle.std.proofs.lemmas.Bool.{eqb-true, eqb-false}
use Rattle.history_model.specs.Operations.{initial_write, initial_writes, of_register}

pub none-initial : (n r : ℕ) → n ≤ r → of_register r (initial_writes n) ≡ []
none-initial zero r l = refl
none-initial (suc n) r l = go (eqb n r) refl (none-initial n r (omega (arith, l)))
  where
    go : (b : Bool) → eqb n r ≡ b → of_register r (initial_writes n) ≡ []
        → cond b (initial_write n ∷ of_register r (initial_writes n)) (of_register r (initial_writes n)) ≡ []
    go true d rest = absurd (omega (arith, eqb-true n r d, l))
    go false d rest = rest

pub one-initial : (n r : ℕ) → r < n → of_register r (initial_writes n) ≡ initial_write r ∷ []
one-initial zero r l = absurd (omega (arith, l))
one-initial (suc n) r l = go (eqb n r) refl (one-initial n r)
  where
    go : (b : Bool) → eqb n r ≡ b → (r < n → of_register r (initial_writes n) ≡ initial_write r ∷ [])
        → cond b (initial_write n ∷ of_register r (initial_writes n)) (of_register r (initial_writes n))
        ≡ initial_write r ∷ []
    go true d rest =
        let q = eqb-true n r d in
        ap (λ ops. initial_write n ∷ ops) (none-initial n r (omega (arith, q)))
        ∙ ap (λ k. initial_write k ∷ []) q
    go false d rest = rest (let apart = eqb-false n r d in omega (arith, apart, l))
