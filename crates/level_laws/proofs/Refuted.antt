-- If an order gives a guarantee, what leads to what stands before it, and no single read rules out every
-- order; so evidence of a fault excludes every order (the law `level_fault_means_no_order`).
use Rattle.std.proofs.Common.{List, [], ◌∷◌, inl, inr, sym, ap}
use Rattle.history_model.specs.Lists.{Before}
use Rattle.history_model.specs.Operations.{IsHistory}
use Rattle.history_model.specs.Operations.{value_of}
use Rattle.history_model.specs.declared.guarantee.Guarantee.{Guarantee}
use Rattle.history_model.specs.declared.operation.Operation.{Operation}
use Rattle.history_model.specs.Legal.{HasOrderFor, IsLegalFor}
use Rattle.reg_zones.specs.Faults.{IsUnwritten}
use Rattle.history_model.proofs.Latest.{latest-of}
use Rattle.history_model.proofs.Lists.{Before-first, Before-total, Before-trans}
use Rattle.reg_zones.proofs.Standing.{apart, kept-in, nearest}
use Rattle.level_laws.specs.Leads.{IsCleanFor, IsTooEarly, LeadsTo}
use Rattle.level_laws.specs.Evidence.{AreLinks, Evidence, IsCycle, IsLevelFault, IsLink, Link}
use Rattle.level_laws.specs.Evidence.Evidence.{unwritten, early, cycle}

module _ (g : Guarantee) (ops order : List Operation) (y : IsHistory ops) (l : IsLegalFor g ops order) where
  -- what leads to what stands before it
  pub forward : (v w : Operation) → LeadsTo g ops v w → Before v w order
  forward v w k =
      let left = kept-in g ops order y l v k.left in
      let right = kept-in g ops order y l w k.right in
      elim (Before-total v w order left right) [
        | inl e ↦ absurd (k.differ (ap value_of e))
        | inr s ↦ elim s [
          | inl b ↦ b
          | inr b ↦ absurd (apart g ops order y l w v k.after k.before k.right k.left b k.other k.one k.must)
        ]
      ]

  in_time : (r w : Operation) → IsTooEarly g ops r w → ⊥
  in_time r w e =
      l.keeps w r (nearest g ops order y l r w e.within e.read e.write_within e.write).before e.must

  written : (r : Operation) → IsUnwritten ops r → ⊥
  written r u =
      let n = latest-of ops order y.plain y.reads l.completion l.met r
      (l.completion.all r u.within u.read.completed) u.read in
      u.unwritten n.0 (l.completion.only n.0 (Before-first n.0 r order n.1.before)) n.1.write (record {
        read = u.read.read;
        completed = u.read.completed;
        value = sym n.2;
      })

  pub clean : IsCleanFor g ops
  clean = record { written = written; in_time = in_time }

  link-forward : (k : Link) (w : Operation) → IsLink g ops k w → Before k.write w order
  link-forward k w i = forward k.write w (record {
    left = i.kept;
    right = i.next;
    differ = i.differ;
    before = k.before;
    after = k.after;
    one = i.one;
    other = i.other;
    must = i.must;
  })

  links-forward : (k : Link) (ks : List Link) (w : Operation) → AreLinks g ops (k ∷ ks) w
      → Before k.write w order
  links-forward k [] w a = link-forward k w a.0
  links-forward k (m ∷ ks) w a =
      Before-trans k.write m.write w order l.completion.once (link-forward k m.write a.0)
      (links-forward m ks w a.1)

  no_cycle : (ks : List Link) → IsCycle g ops ks → ⊥
  no_cycle [] c = c
  no_cycle (k ∷ ks) c = l.completion.once k.write (links-forward k ks k.write c)

  pub never-refuted : (e : Evidence) → IsLevelFault g ops e → ⊥
  never-refuted (unwritten r) f = written r f
  never-refuted (early r w) f = in_time r w f
  never-refuted (cycle ks) f = no_cycle ks f

pub refuted : (g : Guarantee) (ops : List Operation) (e : Evidence) → IsHistory ops → IsLevelFault g ops e
    → HasOrderFor g ops → ⊥
refuted g ops e y f o = never-refuted g ops o.0 y o.1 e f
