-- What the guarantees of sessions ask of two operations, case by case.
use Rattle.std.proofs.Common.{◌≡◌, ℕ, ◌<◌, Bool, true, false, not, Some, None, ◌⊎◌, inl, inr, refl, ap}
use Rattle.std.proofs.lemmas.Bool.{not-true}
use Rattle.history_model.specs.Legal.{MustKeep}
use Rattle.history_model.specs.Operations.{IsWrite, Precedes, is_write}
use Rattle.history_model.specs.declared.guarantee.Guarantee.{Guarantee}
use Rattle.history_model.specs.declared.guarantee.Guarantee.TheVariants.{Atomic, Session, OwnWrites}
use Rattle.history_model.specs.declared.guarantee.Guarantee.TheVariants.{Monotonic, Sequential, Within}
use Rattle.history_model.specs.declared.operation.Operation.{Operation}
use Rattle.reg_levels.specs.Levels.{IsOfSessions, is_lasting, keeps_time}

-- what lasts must come before what its session calls later
pub keep_lasting : (g : Guarantee) → IsOfSessions g → (a b : Operation) (q : ℕ) → Precedes a b
    → a.process ≡ Some q → b.process ≡ Some q → a.call < b.call → is_lasting g a ≡ true → MustKeep g a b
keep_lasting Atomic s a b q p m n l t = p
keep_lasting Session s a b q p m n l t = (p, inr (inl (q, m, n, l)))
keep_lasting OwnWrites s a b q p m n l t = (p, inr (inl (q, m, n, l), t))
keep_lasting Monotonic s a b q p m n l t = (p, inr (inl (q, m, n, l), not-true (is_write a) t))
keep_lasting Sequential s a b q p m n l t = (p, inl (q, m, n, l))
keep_lasting (Within age) s a b q p m n l t = absurd s

-- what nobody called must come before each write that somebody called
pub keep_initial : (g : Guarantee) → IsOfSessions g → (a b : Operation) (q : ℕ) → Precedes a b
    → a.process ≡ None → b.process ≡ Some q → IsWrite b → MustKeep g a b
keep_initial Atomic s a b q p m n w = p
keep_initial Session s a b q p m n w = (p, inl w)
keep_initial OwnWrites s a b q p m n w = (p, inl w)
keep_initial Monotonic s a b q p m n w = (p, inl w)
keep_initial Sequential s a b q p m n w = (p, inr (m, (q, n)))
keep_initial (Within age) s a b q p m n w = (p, inl w)

-- what precedes a write must come before it
pub keep_time : (g : Guarantee) → keeps_time g ≡ true → (a b : Operation) → Precedes a b → IsWrite b
    → MustKeep g a b
keep_time Atomic t a b p w = p
keep_time Session t a b p w = (p, inl w)
keep_time OwnWrites t a b p w = (p, inl w)
keep_time Monotonic t a b p w = (p, inl w)
keep_time Sequential t a b p w = absurd (cc t)
keep_time (Within age) t a b p w = (p, inl w)

-- a lasts, and b is called later by its session
pub record IsLater (g : Guarantee) (a b : Operation) : Type 0 where
  pub session : ℕ
  pub one : a.process ≡ Some session
  pub other : b.process ≡ Some session
  pub later : a.call < b.call
  pub lasting : is_lasting g a ≡ true

-- nobody called a, and somebody called b
pub record IsFirstOf (a b : Operation) : Type 0 where
  pub nobody : a.process ≡ None
  pub session : ℕ
  pub other : b.process ≡ Some session

-- why one operation must come before another
pub must_cases : (g : Guarantee) → IsOfSessions g → (a b : Operation) → MustKeep g a b
    → Precedes a b × (((keeps_time g ≡ true) × IsWrite b) ⊎ (IsLater g a b ⊎ IsFirstOf a b))
must_cases Atomic s a b h = absurd s
must_cases Session s a b h = (
  h.0,
  elim (h.1) [
    | inl w ↦ inl (refl, w)
    | inr o ↦ elim o [
      | inl l ↦ inr (inl (record { session = l.0; one = l.1; other = l.2; later = l.3; lasting = refl }))
      | inr f ↦ inr (inr (record { nobody = f.0; session = f.1.0; other = f.1.1 }))
    ]
  ],
)
must_cases OwnWrites s a b h = (
  h.0,
  elim (h.1) [
    | inl w ↦ inl (refl, w)
    | inr k ↦ elim (k.0) [
      | inl l ↦ inr (inl (record { session = l.0; one = l.1; other = l.2; later = l.3; lasting = k.1 }))
      | inr f ↦ inr (inr (record { nobody = f.0; session = f.1.0; other = f.1.1 }))
    ]
  ],
)
must_cases Monotonic s a b h = (
  h.0,
  elim (h.1) [
    | inl w ↦ inl (refl, w)
    | inr k ↦ elim (k.0) [
      | inl l ↦ inr (inl (record {
        session = l.0;
        one = l.1;
        other = l.2;
        later = l.3;
        lasting = ap not k.1;
      }))
      | inr f ↦ inr (inr (record { nobody = f.0; session = f.1.0; other = f.1.1 }))
    ]
  ],
)
must_cases Sequential s a b h = (
  h.0,
  elim (h.1) [
    | inl l ↦ inr (inl (record { session = l.0; one = l.1; other = l.2; later = l.3; lasting = refl }))
    | inr f ↦ inr (inr (record { nobody = f.0; session = f.1.0; other = f.1.1 }))
  ],
)
must_cases (Within age) s a b h = absurd s

-- a read must come before a write only if it precedes that, and then either in time or in its session
pub early_cases : (g : Guarantee) → IsOfSessions g → (r w : Operation) → MustKeep g r w
    → Precedes r w × ((keeps_time g ≡ true) ⊎ (IsLater g r w ⊎ IsFirstOf r w))
early_cases g s r w h = let c = must_cases g s r w h in
    (c.0, elim (c.1) [ inl t ↦ inl t.0 | inr o ↦ inr o ])
