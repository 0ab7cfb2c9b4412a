-- The time of a reply, where there is one, and the one that is known at some time.
use Rattle.std.proofs.Common.{◌≡◌, ℕ, suc, ◌≤◌, ◌&&◌, nat_le, cond, Bool, true, false, Some, None}
use Rattle.std.proofs.Common.{◌⊎◌, inl, inr, refl, sym, ap, ◌∙◌, arith}
use Rattle.std.proofs.lemmas.Bool.{and_parts, cases_Bool, leb-true, le-leb}
use Rattle.history_model.specs.declared.operation.Operation.{Operation}
use Rattle.history_model.specs.Cut.{is_over, known_at}
use Rattle.history_model.specs.Operations.{IsCompleted, reply_of}

pub reply_of-completed : (a : Operation) (t : ℕ) → reply_of a ≡ Some t → IsCompleted a × (a.reply ≡ t)
reply_of-completed a t h = go a.completed refl h
  where
    go : (b : Bool) → a.completed ≡ b → cond b (Some a.reply) None ≡ Some t → IsCompleted a × (a.reply ≡ t)
    go true e h = (e, cc (h))
    go false e h = absurd (cc (h))

pub completed-reply_of : (a : Operation) → IsCompleted a → reply_of a ≡ Some a.reply
completed-reply_of a d = ap (λ b. cond b (Some a.reply) None) d

module _ (t : ℕ) (a : Operation) where
  -- a reply that is known is that of the operation, else it comes after the time
  pub known-reply : ((is_over t a ≡ true) × ((known_at t a).reply ≡ a.reply))
      ⊎ ((is_over t a ≡ false) × ((known_at t a).reply ≡ suc t))
  known-reply = elim (cases_Bool (is_over t a)) [
    | inl y ↦ inl (y, ap (λ b. cond b a.reply (suc t)) y)
    | inr n ↦ inr (n, ap (λ b. cond b a.reply (suc t)) n)
  ]

  pub known-reply_of : (s : ℕ) → reply_of (known_at t a) ≡ Some s → (reply_of a ≡ Some s) × (s ≤ t)
  known-reply_of s h =
      let r = reply_of-completed (known_at t a) s h in
      let b = and_parts a.completed (nat_le a.reply t) r.0 in
      let same : a.reply ≡ s = sym (ap (λ b. cond b a.reply (suc t)) r.0) ∙ r.1 in
      (completed-reply_of a b.0 ∙ ap Some same, omega (arith, leb-true a.reply t b.1, same))

  pub reply_of-known : (s : ℕ) → reply_of a ≡ Some s → s ≤ t → reply_of (known_at t a) ≡ Some s
  reply_of-known s h le =
      let r = reply_of-completed a s h in
      let by_then : nat_le a.reply t ≡ true = le-leb a.reply t (omega (arith, r.1)) in
      let over : is_over t a ≡ true = ap (λ b. b && nat_le a.reply t) r.0 ∙ by_then in
      completed-reply_of (known_at t a) over
      ∙ ap Some (ap (λ b. cond b a.reply (suc t)) over ∙ r.1)
