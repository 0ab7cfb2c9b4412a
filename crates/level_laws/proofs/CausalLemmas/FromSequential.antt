-- The kept writes of a history that is sequentially consistent, as its legal order has them, are a causal
-- order (the law `sequential_is_causal`).
use Rattle.std.proofs.Common.{◌≡◌, List, [], ◌∷◌, ◌⊎◌, inl, inr, refl, sym, subst, ◌∙◌}
use Rattle.std.proofs.lemmas.Bool.{cases_Bool, false≢true}
use Rattle.history_model.specs.Legal.{HasOrderFor, IsAtomic, IsBeforeInSession, IsLegalFor, IsNearestWrite}
use Rattle.history_model.specs.Lists.{In, Before}
use Rattle.history_model.specs.Operations.{IsCompleted, IsCompletedRead, IsWrite, is_write, of_register}
use Rattle.history_model.specs.declared.guarantee.Guarantee.TheVariants.{Sequential}
use Rattle.history_model.specs.declared.operation.Operation.{Operation}
use Rattle.history_model.proofs.Latest.{latest-of}
use Rattle.history_model.proofs.Lists.{Before-first, Before-total, Before-trans}
use Rattle.history_model.proofs.Recorded.{In-of_register, of_register-In}
use Rattle.reg_zones.proofs.Exists.{find_read}
use Rattle.reg_zones.proofs.Sorting.{picked, sorted}
use Rattle.level_laws.proofs.Weaker.{atomic-session, session-sequential}
use Rattle.level_laws.specs.Causal.{IsCausal, IsCausalOrder, IsKeptWrite, IsLastKnown, IsSource, IsWay}
use Rattle.level_laws.specs.Causal.{IsWhole, Knows, Learns}
use Rattle.level_laws.proofs.CausalLemmas.Knowing.{session-irrefl, session-trans, way-first}
use Rattle.level_laws.proofs.CausalLemmas.Whole.{known-kept, one-source, own, session-precedes, source-kept}

-- what makes an operation a kept write
abbrev Counts : List Operation → Operation → Type 0
Counts ops w = IsWrite w × (IsCompleted w ⊎ ((r : Operation) × In r ops × IsSource w r))

counts : (ops : List Operation) (w : Operation) → Counts ops w ⊎ (Counts ops w → ⊥)
counts ops w = elim (cases_Bool (is_write w)) [
  | inr f ↦ inr (λ k. false≢true (sym f ∙ k.0))
  | inl t ↦ elim (cases_Bool w.completed) [
    | inl d ↦ inl (t, inl d)
    | inr n ↦ elim (find_read (of_register w.register ops) w) [
      | inl r ↦
          let i = of_register-In w.register ops r.0 r.1 in
          inl (t, inr (r.0, i.0, record { write = t; register = sym i.1; read = r.2 }))
      | inr m ↦ inr (λ k. elim k.1 [
        | inl d ↦ false≢true (sym n ∙ d)
        | inr r ↦ m r.0 (In-of_register w.register ops r.0 r.1 (sym r.2.register)) r.2.read
      ])
    ]
  ]
]

module _ (ops order : List Operation) (y : IsWhole ops) (l : IsLegalFor Sequential ops order) where
  -- the nearest write before a completed read is its source
  latest : (r : Operation) → In r ops → IsCompletedRead r
      → (w : Operation) × IsNearestWrite order w r × IsSource w r
  latest r i d =
      let n =
      latest-of ops order (λ a j. (y.each a.register).plain a (own ops y a j))
      (λ a j. (y.each a.register).reads a (own ops y a j)) l.completion l.met r
      (l.completion.all r i d.completed) d in (
        n.0,
        n.1,
        record {
          write = n.1.write;
          register = n.1.register;
          read = record { read = d.read; completed = d.completed; value = sym n.2 };
        },
      )

  source-before : (w r : Operation) → In w ops → In r ops → IsSource w r → Before w r order
  source-before w r i j s =
      let n = latest r j (record { read = s.read.read; completed = s.read.completed }) in
      let k = l.completion.only n.0 (Before-first n.0 r order n.1.before) in
      subst (λ x. Before x r order) (one-source ops y n.0 w r k i n.2 s) n.1.before

  kept-in : (w : Operation) → IsKeptWrite ops w → In w order
  kept-in w k = elim k.kept [
    | inl d ↦ l.completion.all w k.within d
    | inr r ↦ Before-first w r.0 order (source-before w r.0 k.within r.1 r.2)
  ]

  session-before : (a b : Operation) → In a order → In b order → IsBeforeInSession a b → Before a b order
  session-before a b i j s = elim (Before-total a b order i j) [
    | inl e ↦ absurd (session-irrefl b (subst (λ x. IsBeforeInSession x b) e s))
    | inr r ↦ elim r [
      | inl h ↦ h
      | inr h ↦ absurd
          (l.keeps b a h (session-precedes ops y a b (l.completion.only a i) (l.completion.only b j) s, s))
    ]
  ]

  -- v is a, or comes before it in a session; then it stands before what learns of a
  learned-before : (v a b : Operation) → In v order → In b order → (v ≡ a) ⊎ IsBeforeInSession v a
      → In a ops → In b ops → Learns a b → Before v b order
  learned-before v a b i j (inl e) m n (inl s) =
      session-before v b i j (subst (λ x. IsBeforeInSession x b) (sym e) s)
  learned-before v a b i j (inr t) m n (inl s) = session-before v b i j (session-trans v a b t s)
  learned-before v a b i j (inl e) m n (inr s) =
      subst (λ x. Before x b order) (sym e) (source-before a b m n s)
  learned-before v a b i j (inr t) m n (inr s) =
      Before-trans v a b order l.completion.once
      (session-before v a i (kept-in a (source-kept ops y a b m n s)) t) (source-before a b m n s)

  -- along a session operations may be missing in the order, as pending ones
  way-before : (v a b : Operation) (way : List Operation) → In v order → In b order
      → (v ≡ a) ⊎ IsBeforeInSession v a → IsWay ops a way b → Before v b order
  way-before v a b [] i j q w = learned-before v a b i j q w.0 w.1 w.2
  way-before v a b (c ∷ way) i j q w = elim w.1 [
    | inl s ↦ way-before v c b way i j (inr (elim q [
      | inl e ↦ subst (λ x. IsBeforeInSession x c) (sym e) s
      | inr t ↦ session-trans v a c t s
    ])) w.2
    | inr s ↦
        let m = way-first ops c b way w.2 in
        let k = l.completion.all c m s.read.completed in
        Before-trans v c b order l.completion.once (learned-before v a c i k q w.0 m (inr s))
        (way-before c c b way k j (inl refl) w.2)
  ]

  known-before : (v b : Operation) → In v order → In b order → Knows ops v b → Before v b order
  known-before v b i j k = way-before v v b k.0 i j (inl refl) k.1

  module _ (writes : List Operation) (only : (w : Operation) → In w writes → IsKeptWrite ops w)
      (all : (w : Operation) → IsKeptWrite ops w → In w writes)
      (ascending : (v w : Operation) → Before v w writes → Before v w order) where
    raised : (v w : Operation) → In v writes → In w writes → Before v w order → Before v w writes
    raised v w i j b = elim (Before-total v w writes i j) [
      | inl e ↦ absurd (l.completion.once w (subst (λ x. Before x w order) e b))
      | inr r ↦ elim r [
        | inl h ↦ h
        | inr h ↦ absurd
            (l.completion.once v (Before-trans v w v order l.completion.once b (ascending w v h)))
      ]
    ]

    -- of the writes that a read knows of, its source is the last
    last-known : (r w : Operation) → In r ops → IsNearestWrite order w r → IsSource w r
        → IsLastKnown ops writes w r
    last-known r w i n s =
        let j = l.completion.only w (Before-first w r order n.before) in
        let k = all w (source-kept ops y w r j i s) in record {
          source = s;
          within = k;
          last = λ v u e known.
              let m = known-kept ops y v r u known in
              elim (Before-total v w order (kept-in v m) (Before-first w r order n.before)) [
                | inl q ↦ inl q
                | inr q ↦ elim q [
                  | inl b ↦ inr (raised v w (all v m) k b)
                  | inr b ↦ absurd
                      (n.nearest v u e b
                      (known-before v r (kept-in v m) (l.completion.all r i s.read.completed) known))
                ]
              ];
        }

    causal-order : IsCausalOrder ops writes
    causal-order = record {
      once = λ v b. l.completion.once v (ascending v v b);
      only = only;
      all = all;
      known = λ v w i j k.
          raised v w i j (known-before v w (kept-in v (only v i)) (kept-in w (only w j)) k);
      met = λ r i d. let n = latest r i d in (n.0, last-known r n.0 i n.1 n.2);
    }

  pub causal : IsCausal ops
  causal =
      let p = picked (Counts ops) (counts ops) ops in
      let s =
      sorted (IsKeptWrite ops) (λ v w. Before v w order)
      (λ v w k m. Before-total v w order (kept-in v k) (kept-in w m))
      (λ u v w _ _ _ b c. Before-trans u v w order l.completion.once b c) p.0
      (λ w i. let c = p.1 w i in record { within = c.0; write = c.1.0; kept = c.1.1 }) in (
        s.0,
        causal-order s.0
            (λ w i. let c = p.1 w (s.1.only w i) in record { within = c.0; write = c.1.0; kept = c.1.1 })
            (λ w k. s.1.all w (p.2 w k.within (k.write, k.kept))) s.1.ascending,
      )

pub sequential-causal : (ops : List Operation) → IsWhole ops → HasOrderFor Sequential ops → IsCausal ops
sequential-causal ops y o = causal ops o.0 y o.1

pub atomic-causal : (ops : List Operation) → IsWhole ops → IsAtomic ops → IsCausal ops
atomic-causal ops y o = sequential-causal ops y (session-sequential ops (atomic-session ops o))
