-- Sessions are strict orders, and what knows of an operation passes that on.
use Rattle.std.proofs.Common.{◌≡◌, List, [], ◌∷◌, ◌++◌, Some, None, inl, inr, sym, ◌∙◌, arith}
use Rattle.history_model.specs.Legal.{IsBeforeInSession}
use Rattle.history_model.specs.Lists.{In}
use Rattle.history_model.specs.declared.operation.Operation.{Operation}
use Rattle.level_laws.specs.Causal.{IsWay, Knows, Learns}

pub session-irrefl : (a : Operation) → IsBeforeInSession a a → ⊥
session-irrefl a (inl s) = omega (arith, s.3)
session-irrefl a (inr (n, s)) = let e : None ≡ Some s.0 = sym n ∙ s.1 in cc (e)

pub session-trans : (a b c : Operation) → IsBeforeInSession a b → IsBeforeInSession b c
    → IsBeforeInSession a c
session-trans a b c (inl (p, s, t, lt)) (inl (q, u, v, more)) =
    let e : Some p ≡ Some q = sym t ∙ u in inl (q, s ∙ e, v, omega (arith, lt, more))
session-trans a b c (inl (p, s, t, lt)) (inr (n, u)) = absurd (let e : None ≡ Some p = sym n ∙ t in cc (e))
session-trans a b c (inr (n, s)) (inl (q, u, v, more)) = inr (n, (q, v))
session-trans a b c (inr (n, s)) (inr (m, u)) = absurd (let e : None ≡ Some s.0 = sym m ∙ s.1 in cc (e))

module _ (ops : List Operation) where
  pub way-first : (a b : Operation) (way : List Operation) → IsWay ops a way b → In a ops
  way-first a b [] w = w.0
  way-first a b (c ∷ way) w = w.0

  pub learned : (a b : Operation) → In a ops → In b ops → Learns a b → Knows ops a b
  learned a b i j l = ([], (i, j, l))

  way-further : (a b c : Operation) (way : List Operation) → IsWay ops a way b → In c ops → Learns b c
      → IsWay ops a (way ++ b ∷ []) c
  way-further a b c [] w k l = (w.0, w.2, (w.1, k, l))
  way-further a b c (d ∷ way) w k l = (w.0, w.1, way-further d b c way w.2 k l)

  -- what learns of b knows of all that b knows of
  pub knows-further : (a b c : Operation) → Knows ops a b → In c ops → Learns b c → Knows ops a c
  knows-further a b c w k l = (w.0 ++ b ∷ [], way-further a b c w.0 w.1 k l)
