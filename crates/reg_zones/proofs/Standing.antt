-- How clusters stand in an order that gives a guarantee: each read after its write with no write between, and
-- so all of one cluster before all of the next.
use Rattle.std.proofs.Common.{List, inl, inr, sym, ap, subst, ◌∙◌}
use Rattle.std.proofs.lemmas.Bool.{false≢true}
use Rattle.history_model.specs.Lists.{In, Before}
use Rattle.history_model.specs.Operations.{IsCompletedRead, IsHistory, IsReadOf, IsWrite, is_write, value_of}
use Rattle.history_model.specs.declared.guarantee.Guarantee.{Guarantee}
use Rattle.history_model.specs.declared.operation.Operation.{Operation}
use Rattle.history_model.specs.Legal.{IsLegalFor, IsNearestWrite, MustKeep}
use Rattle.reg_zones.specs.Clusters.{IsInCluster, IsKept}
use Rattle.history_model.proofs.Latest.{latest-of}
use Rattle.history_model.proofs.Lists.{Before-first, Before-second, Before-total, Before-trans}
use Rattle.reg_zones.proofs.Ends.{member-is}

module _ (g : Guarantee) (ops order : List Operation) (y : IsHistory ops) (l : IsLegalFor g ops order) where
  -- a completed read stands after the write of its value, with no write between
  pub nearest : (r w : Operation) → In r ops → IsReadOf w r → In w ops → IsWrite w → IsNearestWrite order w r
  nearest r w i k j u =
      let d : IsCompletedRead r = record { read = k.read; completed = k.completed } in
      let n =
      latest-of ops order y.plain y.reads l.completion l.met r (l.completion.all r i k.completed) d in
      let e =
      y.values n.0 w (l.completion.only n.0 (Before-first n.0 r order n.1.before)) j n.1.write u (n.2
      ∙ k.value) in
      subst (λ x. IsNearestWrite order x r) e n.1

  pub kept-in : (w : Operation) → IsKept ops w → In w order
  kept-in w k =
      elim k.kept [
        | inl d ↦ l.completion.all w k.within d
        | inr r ↦ Before-first w r.0 order (nearest r.0 w r.1 r.2 k.within k.write).before
      ]

  -- all of one cluster stands before the other write
  pub front : (v w a : Operation) → IsKept ops v → IsKept ops w → Before v w order
      → IsInCluster ops (value_of v) a
      → Before a w order
  front v w a kv kw b m = elim (member-is ops y v a kv m) [
    | inl e ↦ subst (λ x. Before x w order) (sym e) b
    | inr r ↦ let n = nearest a v m.within r kv.within kv.write in
        elim (Before-total a w order (Before-second v a order n.before) (kept-in w kw)) [
          | inl e ↦ absurd (false≢true (sym r.read ∙ (ap (λ (x : Operation). is_write x) e ∙ kw.write)))
          | inr c ↦ elim c [
            | inl s ↦ s
            | inr s ↦ absurd (n.nearest w kw.write (y.one w a kw.within m.within) b s)
          ]
        ]
  ]

  -- so nothing of the later one must come before anything of the earlier
  pub apart : (v w a b : Operation) → IsKept ops v → IsKept ops w → Before v w order
      → IsInCluster ops (value_of v) a
      → IsInCluster ops (value_of w) b → MustKeep g b a → ⊥
  apart v w a b kv kw s m n p = elim (member-is ops y w b kw n) [
    | inl e ↦ l.keeps a b (subst (λ x. Before a x order) (sym e) (front v w a kv kw s m)) p
    | inr r ↦ l.keeps a b
        (Before-trans a w b order l.completion.once (front v w a kv kw s m)
        (nearest b w n.within r kw.within kw.write).before) p
  ]
