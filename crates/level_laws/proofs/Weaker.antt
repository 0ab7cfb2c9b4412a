-- A guarantee that asks less than another follows from it.
use Rattle.std.proofs.Common.{◌≡◌, ℕ, ◌≤◌, ◌↔◌, List, inl, inr, arith}
use Rattle.history_model.specs.Legal.{HasOrderFor, MustKeep}
use Rattle.history_model.specs.declared.guarantee.Guarantee.{Guarantee}
use Rattle.history_model.specs.declared.guarantee.Guarantee.TheVariants.{Atomic, Session, OwnWrites}
use Rattle.history_model.specs.declared.guarantee.Guarantee.TheVariants.{Monotonic, Sequential, Within}
use Rattle.history_model.specs.declared.operation.Operation.{Operation}
use Rattle.reg_zones.specs.Faults.{IsEarly, IsUnwritten}
use Rattle.level_laws.specs.Leads.{IsCleanFor}
use Rattle.level_laws.proofs.Keeping.{must-precedes, write-must}

weaker : (g h : Guarantee) (ops : List Operation) → ((a b : Operation) → MustKeep h a b → MustKeep g a b)
    → HasOrderFor g ops → HasOrderFor h ops
weaker g h ops less o = (
  o.0,
  record {
    completion = o.1.completion;
    keeps = λ a b s m. o.1.keeps a b s (less b a m);
    met = o.1.met;
  },
)

module _ (ops : List Operation) where
  pub atomic-session : HasOrderFor Atomic ops → HasOrderFor Session ops
  atomic-session = weaker Atomic Session ops (λ a b m. m.0)

  pub atomic-within : (age : ℕ) → HasOrderFor Atomic ops → HasOrderFor (Within age) ops
  atomic-within age = weaker Atomic (Within age) ops (λ a b m. m.0)

  pub session-own_writes : HasOrderFor Session ops → HasOrderFor OwnWrites ops
  session-own_writes =
      weaker Session OwnWrites ops (λ a b m. (m.0, elim m.1 [ inl w ↦ inl w | inr s ↦ inr s.0 ]))

  pub session-monotonic : HasOrderFor Session ops → HasOrderFor Monotonic ops
  session-monotonic =
      weaker Session Monotonic ops (λ a b m. (m.0, elim m.1 [ inl w ↦ inl w | inr s ↦ inr s.0 ]))

  pub session-sequential : HasOrderFor Session ops → HasOrderFor Sequential ops
  session-sequential = weaker Session Sequential ops (λ a b m. (m.0, inr m.1))

  pub within-longer : (age more : ℕ) → age ≤ more → HasOrderFor (Within age) ops
      → HasOrderFor (Within more) ops
  within-longer age more le =
      weaker (Within age) (Within more) ops
      (λ a b m. (m.0, elim m.1 [ inl w ↦ inl w | inr s ↦ inr (omega (arith, le, s)) ]))

  -- to reads that may be less than one event old nothing old may be given
  pub within-atomic : (age : ℕ) → age ≤ 1 → HasOrderFor (Within age) ops ↔ HasOrderFor Atomic ops
  within-atomic age le = (
    weaker (Within age) Atomic ops (λ a b m. (m, inr (omega (arith, le, m)))),
    atomic-within age,
  )

  -- ---- single reads that rule out every order

  pub clean-for : (g : Guarantee) → ((r : Operation) → IsUnwritten ops r → ⊥)
      → ((r w : Operation) → IsEarly ops r w → ⊥) → IsCleanFor g ops
  clean-for g u e = record {
    written = u;
    in_time = λ r w t. e r w (record {
      within = t.within;
      write_within = t.write_within;
      write = t.write;
      read = t.read;
      early = must-precedes g r w t.must;
    });
  }

  pub none-precedes : (g : Guarantee) → (g ≡ Sequential → ⊥) → IsCleanFor g ops → (r w : Operation)
      → IsEarly ops r w → ⊥
  none-precedes g n c r w e = c.in_time r w (record {
    within = e.within;
    write_within = e.write_within;
    write = e.write;
    read = e.read;
    must = write-must g r w n e.early e.write;
  })
