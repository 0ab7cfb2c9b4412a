-- What a guarantee asks, compared with precedence, with other guarantees, and with other times.
use Rattle.std.proofs.Common.{◌≡◌, ◌<◌, ◌≤◌, ◌⊎◌, inl, inr, refl, ◌∙◌, arith}
use Rattle.history_model.specs.Legal.{IsBeforeInSession, MustKeep}
use Rattle.history_model.specs.Operations.{IsWrite, Precedes, is_write}
use Rattle.history_model.specs.declared.guarantee.Guarantee.{Guarantee}
use Rattle.history_model.specs.declared.guarantee.Guarantee.TheVariants.{Atomic, Session, OwnWrites}
use Rattle.history_model.specs.declared.guarantee.Guarantee.TheVariants.{Monotonic, Sequential, Within}
use Rattle.history_model.specs.declared.operation.Operation.{Operation}

pub must-precedes : (g : Guarantee) (a b : Operation) → MustKeep g a b → Precedes a b
must-precedes Atomic a b m = m
must-precedes Session a b m = m.0
must-precedes OwnWrites a b m = m.0
must-precedes Monotonic a b m = m.0
must-precedes Sequential a b m = m.0
must-precedes (Within age) a b m = m.0

-- all but sequential keep the real time of writes
pub write-must : (g : Guarantee) (a b : Operation) → (g ≡ Sequential → ⊥) → Precedes a b → IsWrite b
    → MustKeep g a b
write-must Atomic a b n p w = p
write-must Session a b n p w = (p, inl w)
write-must OwnWrites a b n p w = (p, inl w)
write-must Monotonic a b n p w = (p, inl w)
write-must Sequential a b n p w = absurd (n refl)
write-must (Within age) a b n p w = (p, inl w)

module _ (a b c d : Operation) (process_before : a.process ≡ c.process)
    (process_after : b.process ≡ d.process) (write_before : is_write a ≡ is_write c)
    (write_after : is_write b ≡ is_write d) (reply : a.reply ≤ c.reply) (call : d.call ≤ b.call)
    (life : a.call < a.reply) where
  precedes-longer : Precedes c d → Precedes a b
  precedes-longer p = omega arith

  session-longer : Precedes c d → IsBeforeInSession c d → IsBeforeInSession a b
  session-longer p (inl s) =
      inl (s.0, process_before ∙ s.1, process_after ∙ s.2, omega arith)
  session-longer p (inr s) = inr (process_before ∙ s.0, (s.1.0, process_after ∙ s.1.1))

  write-longer : {P Q : Type 0} → (P → Q) → IsWrite d ⊎ P → IsWrite b ⊎ Q
  write-longer f (inl w) = inl (write_after ∙ w)
  write-longer f (inr p) = inr (f p)

  -- what operations that last longer must keep the shorter ones must keep too
  pub must-longer : (g : Guarantee) → MustKeep g c d → MustKeep g a b
  must-longer Atomic m = precedes-longer m
  must-longer Session m = (precedes-longer m.0, write-longer (session-longer m.0) m.1)
  must-longer OwnWrites m =
      (precedes-longer m.0, write-longer (λ s. (session-longer m.0 s.0, write_before ∙ s.1)) m.1)
  must-longer Monotonic m =
      (precedes-longer m.0, write-longer (λ s. (session-longer m.0 s.0, write_before ∙ s.1)) m.1)
  must-longer Sequential m = (precedes-longer m.0, session-longer m.0 m.1)
  must-longer (Within age) m = (precedes-longer m.0, write-longer (λ s. omega (arith, s)) m.1)
