-- An order of the kept writes, each before those that it leads to, expands to a legal order.
use Rattle.std.proofs.Common.{◌≡◌, ◌⊎◌, false, List, [], ◌∷◌, inl, inr, refl, sym, ap, subst, ◌∙◌, arith}
use Rattle.std.proofs.lemmas.Bool.{cases_Bool, false≢true}
use Rattle.history_model.specs.Lists.{In, Before}
use Rattle.history_model.specs.Operations.{IsCompletedRead, IsHistory, IsReadOf, IsWrite, is_write, value_of}
use Rattle.history_model.specs.declared.guarantee.Guarantee.{Guarantee}
use Rattle.history_model.specs.declared.operation.Operation.{Operation}
use Rattle.history_model.specs.Legal.{HasLatest, IsCompletion, IsLegalFor, MustKeep}
use Rattle.reg_zones.specs.Clusters.{IsInCluster, IsKept}
use Rattle.reg_zones.specs.Order.{IsListed}
use Rattle.history_model.proofs.Latest.{met-of}
use Rattle.history_model.proofs.Lists.{Before-first, Before-second, Before-total, Before-trans}
use Rattle.reg_zones.proofs.Complete.{listed-in, listed-member}
use Rattle.reg_zones.proofs.Values.{cases_value}
use Rattle.level_laws.specs.Leads.{IsCleanFor}
use Rattle.level_laws.specs.WriteOrders.{ComesSooner, IsExpansion, IsWriteOrder}
use Rattle.level_laws.proofs.Keeping.{must-precedes}

-- the write of a completed read's value, or that there is none
find_write : (ops : List Operation) (r : Operation) → IsCompletedRead r
    → ((w : Operation) × In w ops × IsWrite w × IsReadOf w r)
    ⊎ ((w : Operation) → In w ops → IsWrite w → IsReadOf w r → ⊥)
find_write [] r d = inr (λ w i _ _. i)
find_write (a ∷ ops) r d =
    let rest : ((IsWrite a × IsReadOf a r) → ⊥) → ((w : Operation) → In w ops → IsWrite w → IsReadOf w r → ⊥)
    → (w : Operation) → In w (a ∷ ops) → IsWrite w → IsReadOf w r → ⊥ =
    λ n m w i u k. elim i [
      | inl s ↦ n (subst IsWrite s u, subst (λ x. IsReadOf x r) s k)
      | inr j ↦ m w j u k
    ] in
    elim (find_write ops r d) [
      | inl f ↦ inl (f.0, inr f.1, f.2, f.3)
      | inr m ↦ elim (cases_value (value_of r) (value_of a)) [
        | inr ne ↦ inr (rest (λ p. ne p.1.value) m)
        | inl e ↦ elim (cases_Bool (is_write a)) [
          | inr f ↦ inr (rest (λ p. false≢true (sym f ∙ p.0)) m)
          | inl t ↦ inl (a, inl refl, t, record { read = d.read; completed = d.completed; value = e })
        ]
      ]
    ]

module _ (g : Guarantee) (ops : List Operation) (y : IsHistory ops) (ok : IsCleanFor g ops) where
  -- a completed read has a write, which is kept
  kept_write : (r : Operation) → In r ops → IsCompletedRead r
      → (w : Operation) × IsKept ops w × (value_of w ≡ value_of r)
  kept_write r i d = elim (find_write ops r d) [
    | inl w ↦ (w.0, record { within = w.1; write = w.2; kept = inr (r, i, w.3) }, sym w.3.value)
    | inr n ↦ absurd (ok.written r (record { within = i; read = d; unwritten = n }))
  ]

  pub write-of : (a : Operation) → IsListed ops a → (w : Operation) × IsKept ops w
      × (value_of w ≡ value_of a)
  write-of a (inl k) = (a, k, refl)
  write-of a (inr r) = kept_write a r.0 r.1

  pub same-write : (v w : Operation) → IsKept ops v → IsKept ops w → value_of v ≡ value_of w → v ≡ w
  same-write v w k m e = y.values v w k.within m.within k.write m.write e

  listed-kept : (a : Operation) → IsListed ops a → IsWrite a → IsKept ops a
  listed-kept a (inl k) t = k
  listed-kept a (inr r) t = absurd (false≢true (sym r.1.read ∙ t))

  listed-read : (a : Operation) → IsListed ops a → is_write a ≡ false → In a ops × IsCompletedRead a
  listed-read a (inl k) f = absurd (false≢true (sym f ∙ k.write))
  listed-read a (inr r) f = r

  module _ (writes : List Operation) (o : IsWriteOrder g ops writes) where
    -- of one cluster nothing stands before itself
    same-place : (v w : Operation) → Before v w writes → value_of v ≡ value_of w → ⊥
    same-place v w b e =
        let kv = o.only v (Before-first v w writes b) in
        let kw = o.only w (Before-second v w writes b) in
        o.once w (subst (λ x. Before x w writes) (same-write v w kv kw e) b)

    sooner-irrefl : (a : Operation) → ComesSooner writes a a → ⊥
    sooner-irrefl a (inl s) = same-place s.0 s.1 s.2 (s.3 ∙ sym s.4)
    sooner-irrefl a (inr s) = elim s.1 [
      | inl k ↦ false≢true (sym k.1 ∙ k.0)
      | inr k ↦ omega (arith, k.1)
    ]

    -- what comes later need not come before what comes sooner
    keeps : (a b : Operation) → IsListed ops a → IsListed ops b → ComesSooner writes a b → MustKeep g b a → ⊥
    keeps a b la lb (inl s) m =
        let v = s.0 in
        let w = s.1 in
        let kv = o.only v (Before-first v w writes s.2) in
        let kw = o.only w (Before-second v w writes s.2) in
        let ma = listed-member ops a la in
        let mb = listed-member ops b lb in
        let back = o.forward w v (record {
          left = kw;
          right = kv;
          differ = λ e. same-place v w s.2 (sym e);
          before = b;
          after = a;
          one = subst (λ u. IsInCluster ops u b) (sym s.4) mb;
          other = subst (λ u. IsInCluster ops u a) (sym s.3) ma;
          must = m;
        }) in
        o.once v (Before-trans v w v writes o.once s.2 back)
    keeps a b la lb (inr s) m = elim s.1 [
      | inl k ↦
          let r = listed-read b lb k.1 in
          ok.in_time b a (record {
            within = r.0;
            write_within = listed-in ops a la;
            write = k.0;
            read = record { read = k.1; completed = r.1.completed; value = sym s.0 };
            must = m;
          })
      | inr k ↦
          let p = must-precedes g b a m in
          let life = y.life b (listed-in ops b lb) in
          omega (arith, k.1, p, life)
    ]

    module _ (order : List Operation) (c : IsExpansion ops writes order) where
      completion : IsCompletion ops order
      completion = record {
        once = λ a b. sooner-irrefl a (c.ascending a a b);
        only = λ a i. listed-in ops a (c.listed a i);
        all =
            λ a i d. c.all a
            (elim (cases_Bool (is_write a)) [
              | inl u ↦ inl (record { within = i; write = u; kept = inl d })
              | inr u ↦ inr (i, record { read = u; completed = d })
            ]);
      }

      -- of two writes in the order, the sooner one stands before the other among the writes
      writes-before : (v w : Operation) → IsKept ops v → IsKept ops w → Before v w order → Before v w writes
      writes-before v w kv kw b = elim (c.ascending v w b) [
        | inl s ↦
            let e = same-write s.0 v (o.only s.0 (Before-first s.0 s.1 writes s.2)) kv s.3 in
            let f = same-write s.1 w (o.only s.1 (Before-second s.0 s.1 writes s.2)) kw s.4 in
            subst (λ x. Before x w writes) e (subst (λ x. Before s.0 x writes) f s.2)
        | inr s ↦ absurd (completion.once w (subst (λ x. Before x w order) (same-write v w kv kw s.0) b))
      ]

      nearest : (r : Operation) → In r order → IsCompletedRead r → HasLatest order r
      nearest r i d =
          let k = kept_write r (listed-in ops r (c.listed r i)) d in
          let w = k.0 in
          let j = c.all w (inl k.1) in
          let before : Before w r order = elim (Before-total w r order j i) [
            | inl e ↦ absurd
                (false≢true (sym d.read ∙ (ap (λ (x : Operation). is_write x) (sym e) ∙ k.1.write)))
            | inr b ↦ elim b [
              | inl b ↦ b
              | inr b ↦ elim (c.ascending r w b) [
                | inl s ↦ absurd (same-place s.0 s.1 s.2 (s.3 ∙ (sym k.2 ∙ sym s.4)))
                | inr q ↦ elim q.1 [
                  | inl t ↦ absurd (false≢true (sym d.read ∙ t.0))
                  | inr t ↦ absurd (false≢true (sym d.read ∙ (t.0 ∙ k.1.write)))
                ]
              ]
            ]
          ] in (
            w,
            record {
              write = k.1.write;
              register = y.one w r k.1.within (listed-in ops r (c.listed r i));
              before = before;
              nearest = λ v u _ bw br.
                  let kv = listed-kept v (c.listed v (Before-first v r order br)) u in
                  let wv = writes-before w v k.1 kv bw in
                  elim (c.ascending v r br) [
                    | inl s ↦
                        let ks = o.only s.0 (Before-first s.0 s.1 writes s.2) in
                        let kt = o.only s.1 (Before-second s.0 s.1 writes s.2) in
                        let e = same-write s.0 v ks kv s.3 in
                        let f = same-write s.1 w kt k.1 (s.4 ∙ sym k.2) in
                        o.once w (Before-trans w v w writes o.once wv
                        (subst (λ x. Before x w writes) e (subst (λ x. Before s.0 x writes) f s.2)))
                    | inr s ↦ same-place w v wv (k.2 ∙ sym s.0)
                  ];
            },
            k.2,
          )

      pub expansion-legal : IsLegalFor g ops order
      expansion-legal = record {
        completion = completion;
        keeps =
            λ a b s p. keeps a b (c.listed a (Before-first a b order s))
            (c.listed b (Before-second a b order s)) (c.ascending a b s) p;
        met = met-of ops order y.plain y.reads completion nearest;
      }
