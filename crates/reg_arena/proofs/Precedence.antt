-- Which of two named operations precedes the other, by what `op` gives of them.
use Rattle.std.proofs.Common.{◌≡◌, ℕ, ◌+◌, ◌<◌, ◌↔◌, nat_lt, cond, Bool, true, false, length}
use Rattle.std.proofs.Common.{Option, Some, None, inl, inr, refl, sym, ap, ◌∙◌, arith}
use Rattle.std.specs.Prelude.{IsTrue}
use Rattle.std.proofs.lemmas.Bool.{false≢true, ltb-true, lt-ltb}
use Rattle.std.proofs.lemmas.Option.{slice_get_within}
use Rattle.history_model.specs.Lists.{In}
use Rattle.history_model.specs.History.{History}
use Rattle.history_model.specs.Operations.{operations, Precedes}
use Rattle.history_model.specs.declared.operation.Operation.{Operation}
use Rattle.history_model.specs.Naming.{IsNamed, op_shown}
use Rattle.history_model.specs.declared.ids.Oper.{Oper}
use Rattle.history_model.specs.declared.op.Op.{Op}
use Rattle.history_model.proofs.Named.{one-named}
use Rattle.reg_arena.proofs.OfValue.{known}

call-below : (h : History) (o : Operation) → In o (operations h) → o.call < length h.events + 2
call-below h o i = elim (known h o i) [
  | inl x ↦ let c = ap (λ (o : Operation). o.call) x.1 in omega (arith, c)
  | inr x ↦ let y = x.2.2 in let l = slice_get_within h.events x.2.0 x.2.1 y.there in let c = y.call in
      omega (arith, l, c)
]

reply-last : (h : History) (o : Operation) → In o (operations h) → o.completed ≡ false
    → o.reply ≡ length h.events + 2
reply-last h o i q = elim (known h o i) [
  | inl x ↦ absurd (false≢true (sym q ∙ ap (λ (o : Operation). o.completed) x.1))
  | inr x ↦ elim x.2.2.ends [ inl p ↦ p.reply | inr r ↦ absurd (false≢true (sym q ∙ r.2.completed)) ]
]

shown : (o : Operation) (r : Option ℕ) → cond o.completed (Some o.reply) None ≡ r
    → (r ≡ None → o.completed ≡ false) × ((t : ℕ) → r ≡ Some t → o.reply ≡ t)
shown o r q = go o.completed refl q
  where
    go : (b : Bool) → o.completed ≡ b → cond b (Some o.reply) None ≡ r
        → (r ≡ None → o.completed ≡ false) × ((t : ℕ) → r ≡ Some t → o.reply ≡ t)
    go true e q = (λ n. absurd (cc (n, q)), λ t s. cc (q, s))
    go false e q = (λ n. e, λ t s. absurd (cc (q, s)))

module _ (h : History) (one other : Oper) (o : Operation) (n : IsNamed h one o) (r : Op)
    (is : r ≡ op_shown o) where
  reply-is : cond o.completed (Some o.reply) None ≡ r.reply
  reply-is = sym (ap (λ (x : Op). x.reply) is)

  -- a pending operation precedes none
  pub pending-precedes : r.reply ≡ None → (a b : Operation) → IsNamed h one a → IsNamed h other b
      → IsTrue false ↔ Precedes a b
  pending-precedes q a b x y =
      let same : a ≡ o = one-named h one a o x n in
      let last = reply-last h o n.one ((shown o r.reply reply-is).0 q) in
      let below = call-below h b y.one in (
        λ f. absurd (false≢true f),
        λ p. absurd (omega (arith, p, ap (λ (o : Operation). o.reply) same, last, below)),
      )

  pub replied-precedes : (t : ℕ) → r.reply ≡ Some t → (p : Operation) (s : Op) → IsNamed h other p
      → s ≡ op_shown p → (a b : Operation) → IsNamed h one a → IsNamed h other b
      → IsTrue (nat_lt t s.call) ↔ Precedes a b
  replied-precedes t q p s m js a b x y =
      let same = ap (λ (o : Operation). o.reply) (one-named h one a o x n) in
      let reply : a.reply ≡ t = same ∙ (shown o r.reply reply-is).1 t q in
      let call : b.call ≡ s.call =
      ap (λ (o : Operation). o.call) (one-named h other b p y m) ∙ sym (ap (λ (x : Op). x.call) js) in (
        λ f. let l = ltb-true t s.call f in omega (arith, reply, call),
        λ l. lt-ltb t s.call (omega (arith, l, reply, call)),
      )
