-- The writes of one register, as a causal order has them, give a sequential order of the register (the law
-- `causal_is_sequential`); of a single register the two are the same.
use Rattle.std.proofs.Common.{◌≡◌, ◌↔◌, ℕ, List, [], ◌∷◌, ◌⊎◌, inl, inr, sym, ap, subst, ◌∙◌}
use Rattle.std.proofs.lemmas.Bool.{eq-eqb}
use Rattle.history_model.specs.Legal.{HasOrderFor, IsBeforeInSession}
use Rattle.history_model.specs.Lists.{In, Before}
use Rattle.history_model.specs.Operations.{IsReadOf, IsWrite, is_of, of_register, value_of}
use Rattle.history_model.specs.declared.guarantee.Guarantee.TheVariants.{Sequential}
use Rattle.history_model.specs.declared.operation.Operation.{Operation}
use Rattle.history_model.proofs.Filters.{filter-all}
use Rattle.history_model.proofs.Lists.{Before-filter, filter-Before}
use Rattle.history_model.proofs.Recorded.{In-of_register, of_register-In}
use Rattle.reg_zones.specs.Clusters.{IsKept}
use Rattle.reg_zones.specs.Faults.{IsUnwritten}
use Rattle.reg_zones.proofs.Ends.{member-is}
use Rattle.level_laws.specs.Leads.{IsCleanFor, IsTooEarly, LeadsTo}
use Rattle.level_laws.specs.WriteOrders.{IsWriteOrder}
use Rattle.level_laws.proofs.Decided.{decided}
use Rattle.level_laws.specs.Causal.{IsCausal, IsCausalOrder, IsKeptWrite, IsLastKnown, IsSource, IsWhole}
use Rattle.level_laws.specs.Causal.{Knows}
use Rattle.level_laws.proofs.CausalLemmas.FromSequential.{sequential-causal}
use Rattle.level_laws.proofs.CausalLemmas.Knowing.{learned}
use Rattle.level_laws.proofs.CausalLemmas.Whole.{one-source}

module _ (ops order : List Operation) (y : IsWhole ops) (o : IsCausalOrder ops order) (r : ℕ) where
  abbrev part : List Operation
  part = of_register r ops

  whole-in : (a : Operation) → In a part → In a ops
  whole-in a i = (of_register-In r ops a i).0

  own-register : (a : Operation) → In a part → a.register ≡ r
  own-register a i = (of_register-In r ops a i).1

  -- within the register a write of a read's value is its source
  source-of : (w q : Operation) → In w part → In q part → IsWrite w → IsReadOf w q → IsSource w q
  source-of w q i j u k =
      record { write = u; register = own-register w i ∙ sym (own-register q j); read = k }

  kept-write : (w : Operation) → IsKept part w → IsKeptWrite ops w
  kept-write w k = record {
    within = whole-in w k.within;
    write = k.write;
    kept = elim k.kept [
      | inl d ↦ inl d
      | inr q ↦ inr (q.0, whole-in q.0 q.1, source-of w q.0 k.within q.1 k.write q.2)
    ];
  }

  write-kept : (w : Operation) → IsKeptWrite ops w → w.register ≡ r → IsKept part w
  write-kept w k e = record {
    within = In-of_register r ops w k.within e;
    write = k.write;
    kept = elim k.kept [
      | inl d ↦ inl d
      | inr q ↦ inr (q.0, In-of_register r ops q.0 q.1 (sym q.2.register ∙ e), q.2.read)
    ];
  }

  last-known : (w q : Operation) → In w ops → In q ops → IsSource w q → IsLastKnown ops order w q
  last-known w q i j s =
      let m = o.met q j (record { read = s.read.read; completed = s.read.completed }) in
      subst (λ x. IsLastKnown ops order x q)
      (one-source ops y m.0 w q (o.only m.0 m.1.within).within i m.1.source s) m.1

  written : (q : Operation) → IsUnwritten part q → ⊥
  written q u =
      let m = o.met q (whole-in q u.within) u.read in
      let s = m.1.source in
      u.unwritten m.0
      (In-of_register r ops m.0 (o.only m.0 m.1.within).within (s.register ∙ own-register q u.within))
      s.write s.read

  -- a read that comes before its write in a session would have the write know of itself
  in_time : (q w : Operation) → IsTooEarly Sequential part q w → ⊥
  in_time q w e =
      let i = whole-in w e.write_within in
      let j = whole-in q e.within in
      let s = source-of w q e.write_within e.within e.write e.read in
      let k = (last-known w q i j s).within in
      o.once w (o.known w w k k (q ∷ [], (i, inr s, (j, i, inl e.must.1))))

  clean : IsCleanFor Sequential part
  clean = record { written = written; in_time = in_time }

  -- what comes in a session behind an operation of v's cluster knows of v
  cluster-known : (v a b : Operation) → In v part → In a part → In b part → IsWrite v
      → (a ≡ v) ⊎ IsReadOf v a → IsBeforeInSession a b → Knows ops v b
  cluster-known v a b i j k u (inl e) s =
      learned ops v b (whole-in v i) (whole-in b k) (inl (subst (λ x. IsBeforeInSession x b) e s))
  cluster-known v a b i j k u (inr q) s =
      (a ∷ [], (whole-in v i, inr (source-of v a i j u q), (whole-in a j, whole-in b k, inl s)))

  forward : (v w : Operation) → LeadsTo Sequential part v w → Before v w order
  forward v w k =
      let known =
      cluster-known v k.before k.after k.left.within k.one.within k.other.within k.left.write
      (member-is part (y.each r) v k.before k.left k.one) k.must.1 in
      elim (member-is part (y.each r) w k.after k.right k.other) [
        | inl e ↦ o.known v w (o.all v (kept-write v k.left)) (o.all w (kept-write w k.right))
            (subst (Knows ops v) e known)
        | inr q ↦
            let s = source-of w k.after k.right.within k.other.within k.right.write q in
            let m =
            last-known w k.after (whole-in w k.right.within) (whole-in k.after k.other.within) s in
            elim (m.last v k.left.write
            (own-register v k.left.within ∙ sym (own-register k.after k.other.within)) known) [
              | inl e ↦ absurd (k.differ (ap value_of e))
              | inr b ↦ b
            ]
      ]

  write-order : IsWriteOrder Sequential part (of_register r order)
  write-order = record {
    once = λ v b. o.once v (filter-Before (is_of r) v v order b);
    only = λ v i. let j = of_register-In r order v i in write-kept v (o.only v j.0) j.1;
    all = λ v k. In-of_register r order v (o.all v (kept-write v k)) (own-register v k.within);
    forward = λ v w k.
        Before-filter (is_of r) v w order (forward v w k) (eq-eqb _ _ (own-register v k.left.within))
        (eq-eqb _ _ (own-register w k.right.within));
  }

  register-order : HasOrderFor Sequential part
  register-order = (decided Sequential part (y.each r)).1 (clean, (of_register r order, write-order))

pub causal-sequential : (ops : List Operation) → IsWhole ops → IsCausal ops → (r : ℕ)
    → HasOrderFor Sequential (of_register r ops)
causal-sequential ops y o r = register-order ops o.0 y o.1 r

pub one-register : (ops : List Operation) (r : ℕ) → IsWhole ops → ((a : Operation) → In a ops
    → a.register ≡ r)
    → (IsCausal ops ↔ HasOrderFor Sequential ops)
one-register ops r y one = (
  λ o. subst (HasOrderFor Sequential) (filter-all (is_of r) ops (λ a i. eq-eqb _ _ (one a i)))
      (causal-sequential ops y o r),
  sequential-causal ops y,
)
