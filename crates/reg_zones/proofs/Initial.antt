-- The initial write comes first of all.
use Rattle.std.proofs.Common.{◌≡◌, List, None, inl, inr, refl, sym, ap, ◌∙◌, arith}
use Rattle.std.proofs.lemmas.Bool.{cases_eq, cases_Bool}
use Rattle.history_model.specs.Legal.{IsLegal}
use Rattle.history_model.specs.Lists.{In, Before}
use Rattle.history_model.specs.Operations.{IsHistory, IsWrite, IsCompleted, value_of}
use Rattle.history_model.specs.declared.operation.Operation.{Operation}
use Rattle.history_model.specs.Operations.{Precedes, is_write, initial_write}
use Rattle.reg_zones.proofs.Complete.{listed-member}
use Rattle.reg_zones.proofs.Ends.{first_reply-le, first_reply-at, last_call-at}
use Rattle.history_model.proofs.Lists.{Before-total}
use Rattle.reg_zones.proofs.Values.{cases_value}
use Rattle.reg_zones.specs.Clusters.{IsInCluster, low_end}
use Rattle.reg_zones.specs.Order.{IsListed, IsSooner}

module _ (ops : List Operation) (y : IsHistory ops) (i : Operation) (j : In i ops)
    (z : i.process ≡ None) where
  is : i ≡ initial_write i.register
  is = y.initial i j z

  called : i.call ≡ 0
  called = ap (λ (o : Operation). o.call) is

  replied : i.reply ≡ 1
  replied = ap (λ (o : Operation). o.reply) is

  pub written : IsWrite i
  written = ap (λ (o : Operation). is_write o) is

  pub completed : IsCompleted i
  completed = ap (λ (o : Operation). o.completed) is

  -- every other call comes after its reply
  pub after : (a : Operation) → In a ops → (a ≡ i → ⊥) → Precedes i a
  after a k ne = elim (cases_eq a.call 0) [
    | inl e ↦ absurd (ne (y.calls a i k j (e ∙ sym called)))
    | inr n ↦ elim (cases_eq a.call 1) [
      | inl e ↦ absurd (y.apart i a j k (replied ∙ sym e))
      | inr m ↦ omega (arith, replied)
    ]
  ]

  pub initial_sooner : (a : Operation) → IsListed ops a → (a ≡ i → ⊥) → IsSooner ops i a
  initial_sooner a l ne =
      let mi : IsInCluster ops (value_of i) i = record { within = j; value = refl; counts = inl written } in
      let ma = listed-member ops a l in
      elim (cases_value (value_of a) (value_of i)) [
        | inl e ↦ inr (
          ap (low_end ops) (sym e),
          elim (cases_Bool (is_write a)) [
            | inl u ↦ absurd (ne (y.values a i ma.within j u written e))
            | inr u ↦ inl (written, u)
          ],
        )
        | inr d ↦
            let f = first_reply-at ops (value_of a) a ma in
            let s = last_call-at ops (value_of a) a ma in
            let nf : Precedes i f.0 =
            after f.0 f.1.within (λ e. d (sym (ap value_of (sym e) ∙ f.1.value))) in
            let ns : Precedes i s.0 =
            after s.0 s.1.within (λ e. d (sym (ap value_of (sym e) ∙ s.1.value))) in
            let le = first_reply-le ops (value_of i) i mi in
            let lives = y.life f.0 f.1.within in
            inl (omega (arith, f.2, s.2, replied))
      ]

  -- in each legal order, so that each operation after it has a nearest write
  pub initial_first : (order : List Operation) → IsLegal ops order → (a : Operation) → In a order
      → (a ≡ i → ⊥) → Before i a order
  initial_first order l a k ne = elim (Before-total i a order (l.completion.all i j completed) k) [
    | inl e ↦ absurd (ne (sym e))
    | inr b ↦ elim b [ inl b ↦ b | inr b ↦ absurd (l.keeps a i b (after a (l.completion.only a k) ne)) ]
  ]
