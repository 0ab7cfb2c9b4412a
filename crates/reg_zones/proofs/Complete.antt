-- Without a fault the canonical order is legal.
use Rattle.std.proofs.Common.{◌≡◌, ◌<◌, ◌≤◌, List, inl, inr, refl, sym, ap, subst, ◌∙◌, arith}
use Rattle.std.proofs.lemmas.Bool.{cases_Bool, cases_lt, false≢true}
use Rattle.history_model.specs.Lists.{In, Before}
use Rattle.history_model.specs.Operations.{Precedes, IsCompletedRead, IsHistory, is_write, value_of}
use Rattle.history_model.specs.declared.operation.Operation.{Operation}
use Rattle.history_model.specs.Legal.{HasLatest, IsCompletion, IsLegal}
use Rattle.reg_zones.specs.Clusters.{IsInCluster, IsKept, first_reply, last_call, low_end}
use Rattle.reg_zones.specs.Faults.{HasNoFault}
use Rattle.reg_zones.specs.Order.{IsListed, IsSooner, IsCanonical}
use Rattle.history_model.proofs.Latest.{latest-met}
use Rattle.history_model.proofs.Lists.{Before-first, Before-second, Before-total}
use Rattle.reg_zones.proofs.Values.{cases_value}
use Rattle.reg_zones.proofs.Ends.{first_reply-le, last_call-le}
use Rattle.reg_zones.proofs.LowEnds.{low_apart}

pub listed-in : (ops : List Operation) (a : Operation) → IsListed ops a → In a ops
listed-in ops a (inl k) = k.within
listed-in ops a (inr r) = r.0

pub listed-member : (ops : List Operation) (a : Operation) → IsListed ops a → IsInCluster ops (value_of a) a
listed-member ops a (inl k) = record { within = k.within; value = refl; counts = inl k.write }
listed-member ops a (inr r) = record { within = r.0; value = refl; counts = inr r.1.completed }

module _ (ops : List Operation) (y : IsHistory ops) (ok : HasNoFault ops) where
  -- a completed read has a write, which is kept
  kept_write : (r : Operation) → In r ops → IsCompletedRead r
      → (w : Operation) × IsKept ops w × (value_of w ≡ value_of r)
  kept_write r i d =
      let w = ok.written r i d in
      (w.0, record { within = w.1; write = w.2; kept = inr (r, i, w.3) }, sym w.3.value)

  pub listed-write : (a : Operation) → IsListed ops a → (w : Operation) × IsKept ops w
      × (value_of w ≡ value_of a)
  listed-write a (inl k) = (a, k, refl)
  listed-write a (inr r) = kept_write a r.0 r.1

  no_conflict : (a b : Operation) → IsListed ops a → IsListed ops b → (value_of a ≡ value_of b → ⊥)
      → first_reply ops (value_of a) < last_call ops (value_of b)
      → first_reply ops (value_of b) < last_call ops (value_of a) → ⊥
  no_conflict a b la lb ne p q =
      let v = listed-write a la in
      let w = listed-write b lb in
      ok.compatible v.0 w.0 (record {
        left = v.1;
        right = w.1;
        differ = λ e. ne (sym v.2 ∙ (e ∙ w.2));
        one =
            subst (λ k. first_reply ops k < last_call ops (value_of w.0)) (sym v.2)
            (subst (λ k. first_reply ops (value_of a) < last_call ops k) (sym w.2) p);
        other =
            subst (λ k. first_reply ops k < last_call ops (value_of v.0)) (sym w.2)
            (subst (λ k. first_reply ops (value_of b) < last_call ops k) (sym v.2) q);
      })

  -- what comes sooner isn't preceded
  keeps : (a b : Operation) → IsListed ops a → IsListed ops b → IsSooner ops a b → Precedes b a → ⊥
  keeps a b la lb s p =
      let lives = y.life b (listed-in ops b lb) in
      elim (cases_value (value_of a) (value_of b)) [
        | inl e ↦ elim s [
          | inl lt ↦ let same = ap (low_end ops) e in omega arith
          | inr r ↦ elim r.1 [
            | inl k ↦ elim lb [
              | inl kb ↦ false≢true (sym k.1 ∙ kb.write)
              | inr rb ↦ ok.in_time b a (record {
                within = rb.0;
                write_within = listed-in ops a la;
                write = k.0;
                read = record { read = k.1; completed = rb.1.completed; value = sym e };
                early = p;
              })
            ]
            | inr k ↦ omega (arith, k.1)
          ]
        ]
        | inr ne ↦
            let ma = listed-member ops a la in
            let mb = listed-member ops b lb in
            let f = first_reply-le ops (value_of b) b mb in
            let t = last_call-le ops (value_of a) a ma in
            elim s [
              | inl lt ↦ elim (cases_lt (first_reply ops (value_of a)) (last_call ops (value_of b))) [
                | inl q ↦ no_conflict a b la lb ne q (omega arith)
                | inr q ↦ omega arith
              ]
              | inr r ↦ ne (low_apart ops y (value_of a) (value_of b) a b ma mb r.0)
            ]
      ]

  sooner-irrefl : (a : Operation) → IsSooner ops a a → ⊥
  sooner-irrefl a (inl lt) = omega arith
  sooner-irrefl a (inr r) = elim r.1 [ inl k ↦ false≢true (sym k.1 ∙ k.0) | inr k ↦ omega (arith, k.1) ]

  sooner-low : (a b : Operation) → IsSooner ops a b → low_end ops (value_of a) ≤ low_end ops (value_of b)
  sooner-low a b (inl lt) = omega arith
  sooner-low a b (inr r) = omega (arith, r.0)

  module _ (order : List Operation) (c : IsCanonical ops order) where
    nearest : (r : Operation) → In r order → IsCompletedRead r → HasLatest order r
    nearest r i d =
        let k = kept_write r (listed-in ops r (c.listed r i)) d in
        let w = k.0 in
        let j = c.all w (inl k.1) in
        let same = ap (low_end ops) k.2 in
        let before : Before w r order = elim (Before-total w r order j i) [
          | inl e ↦ absurd
              (false≢true (sym d.read ∙ (ap (λ (x : Operation). is_write x) (sym e) ∙ k.1.write)))
          | inr b ↦ elim b [
            | inl b ↦ b
            | inr b ↦ elim (c.ascending r w b) [
              | inl lt ↦ absurd (omega arith)
              | inr q ↦ elim q.1 [
                | inl t ↦ absurd (false≢true (sym d.read ∙ t.0))
                | inr t ↦ absurd (false≢true (sym d.read ∙ (t.0 ∙ k.1.write)))
              ]
            ]
          ]
        ] in (
          w,
          record {
            write = k.1.write;
            register = y.one w r k.1.within (listed-in ops r (c.listed r i));
            before = before;
            nearest = λ v u _ bw br.
                let lw = sooner-low w v (c.ascending w v bw) in
                let lr = sooner-low v r (c.ascending v r br) in
                let lv = c.listed v (Before-first v r order br) in
                let eq =
                low_apart ops y (value_of v) (value_of w) v w (listed-member ops v lv)
                (listed-member ops w (inl k.1)) (omega (arith, same, lw, lr)) in
                let one = y.values v w (listed-in ops v lv) k.1.within u k.1.write eq in
                sooner-irrefl w (c.ascending w w (subst (λ x. Before w x order) one bw));
          },
          k.2,
        )

    completion : IsCompletion ops order
    completion = record {
      once = λ a b. sooner-irrefl a (c.ascending a a b);
      only = λ a i. listed-in ops a (c.listed a i);
      all =
          λ a i d. c.all a
          (elim (cases_Bool (is_write a)) [
            | inl u ↦ inl (record { within = i; write = u; kept = inl d })
            | inr u ↦ inr (i, record { read = u; completed = d })
          ]);
    }

    pub legal : IsLegal ops order
    legal = record {
      completion = completion;
      keeps =
          λ a b s p. keeps a b (c.listed a (Before-first a b order s))
          (c.listed b (Before-second a b order s)) (c.ascending a b s) p;
      met = latest-met ops order y completion nearest;
    }
