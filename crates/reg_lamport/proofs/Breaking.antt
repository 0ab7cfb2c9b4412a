-- Whether a read keeps a level, by its old write and the one write of its value.
use Rattle.std.proofs.Common.{◌≡◌, ℕ, ◌-◌, ◌<◌, ◌≤◌, Bool, true, false, cond, Option}
use Rattle.std.proofs.Common.{Some, None, option_and_then, length, inl, inr, refl}
use Rattle.std.proofs.Common.{sym, ap, subst, ◌∙◌, arith, ◌↔◌, IsTrue}
use Rattle.std.proofs.lemmas.Bool.{false≢true}
use Rattle.std.proofs.lemmas.Option.{slice_get_within}
use Rattle.history_text.specs.declared.event.Val.{Val}
use Rattle.history_model.specs.Lists.{In}
use Rattle.history_model.specs.History.{History, IsRecorded}
use Rattle.history_model.specs.Lamport.{HasSingleWriter, HasOldValue, HasOverlappedValue, IsOldWrite}
use Rattle.history_model.specs.Operations.{IsCompletedRead, Overlaps, value_of}
use Rattle.history_model.specs.declared.operation.Operation.{Operation}
use Rattle.history_model.specs.Operations.{is_write, of_register, operations}
use Rattle.history_model.specs.Walking.{by_value, key_at}
use Rattle.history_model.specs.Naming.{IsNamed, op_shown}
use Rattle.history_model.specs.OfValue.{IsWriteOf}
use Rattle.history_model.specs.declared.ids.Oper.{Oper}
use Rattle.history_model.specs.declared.op.Op.{Op}
use Rattle.history_model.proofs.Recorded.{of_register-In, In-of_register, accepted-history}
use Rattle.history_model.proofs.Named.{one-named, operation-has-reply, operation-has-value}
use Rattle.reg_lamport.specs.declared.level.Level.{Level}
use Rattle.reg_lamport.specs.declared.level.Level.TheVariants.{Safe, Regular}
use Rattle.reg_lamport.specs.Levels.{Keeps}
use Rattle.reg_lamport.specs.Reads.{IsEntryOf}
use Rattle.reg_lamport.specs.declared.gathering.ReadEntry.{ReadEntry}
use Rattle.history_model.proofs.Walking.{keyed}

module _ (h : History) (rec : IsRecorded h) (r : ℕ) (o : Operation) (i : In o (of_register r (operations h)))
    (read : IsCompletedRead o) where
  pub value-there : (v : Val) × (value_of o ≡ Some v)
  value-there = operation-has-value h rec o (of_register-In r (operations h) o i).0 (inr read.completed)

  -- ---- its reply

  caller : (p : ℕ) × (o.process ≡ Some p)
  caller = go o.process refl
    where
      go : (p : Option ℕ) → o.process ≡ p → (p : ℕ) × (o.process ≡ Some p)
      go None n =
          absurd (false≢true (sym read.read
          ∙ ap (λ (z : Operation). is_write z) ((accepted-history h rec r).initial o i n)))
      go (Some p) n = (p, n)

  pub shown-reply : (op_shown o).reply ≡ Some o.reply
  shown-reply = ap (λ b. cond b (Some o.reply) None) read.completed

  -- the reply that it shows is an event with its value
  pub reply-event : (op : Op) → op ≡ op_shown o → (n : ℕ) → op.reply ≡ Some n
      → (2 ≤ n) × (n - 2 < length h.events) × (key_at by_value h.events (n - 2) ≡ Some (r, value-there.0))
  reply-event op is n shown =
      let p = caller in
      let x = of_register-In r (operations h) o i in
      let c = (accepted-history h rec r).called o p.0 i p.1 in
      let lives = (accepted-history h rec r).life o i in
      let e = operation-has-reply h rec o p.0 x.0 p.1 read.completed in
      let same : o.reply ≡ n = cc (sym shown-reply, ap (λ (z : Op). z.reply) is, shown) in
      let at = ap (option_and_then by_value) e.1.at in
      let key : key_at by_value h.events (o.reply - 2) ≡ Some (r, value-there.0) =
      at ∙ keyed e.0 r value-there.0 (e.1.register ∙ ap Some x.1) (sym (e.1.reply e.2).2
      ∙ value-there.1) in
      subst (λ m. (2 ≤ m) × (m - 2 < length h.events)
      × (key_at by_value h.events (m - 2) ≡ Some (r, value-there.0))) same (
        omega arith,
        slice_get_within h.events (o.reply - 2) e.0 e.1.at,
        key,
      )

  -- ---- the write of its value

  pub none-written : (v : Val) → value_of o ≡ Some v → IsWriteOf h r v None
      → HasOverlappedValue (of_register r (operations h)) o → ⊥
  none-written v q none x =
      let w = x.0 in
      let y = of_register-In r (operations h) w x.1.within in
      none w (record { there = y.0; register = y.1; value = x.2 ∙ q; full = inl x.1.write }) x.1.write

  pub one-written : (v : Val) → value_of o ≡ Some v → (name : Oper) → IsWriteOf h r v (Some name)
      → (w : Operation) × IsNamed h name w
      × (Overlaps w o ↔ HasOverlappedValue (of_register r (operations h)) o)
  one-written v q name x =
      let w = x.0 in
      let m = x.2 in
      let there = In-of_register r (operations h) w m.there m.register in (
        w,
        x.1,
        (
          λ over. (w, record { within = there; write = x.3; overlaps = over }, m.value ∙ sym q),
          λ y. subst (λ z. Overlaps z o)
              ((accepted-history h rec r).values y.0 w y.1.within there y.1.write x.3 (y.2
              ∙ (q ∙ sym m.value))) y.1.overlaps,
        ),
      )

  -- ---- its old write

  module _ (e : ReadEntry) (single : HasSingleWriter (of_register r (operations h)))
      (entry : IsEntryOf h r e o) (w : Operation) (named : IsNamed h e.old_write w) where
    is-old : IsOldWrite (of_register r (operations h)) o w
    is-old =
        let x =
        entry.old_write single in
        subst (IsOldWrite (of_register r (operations h)) o)
        (one-named h e.old_write x.0 w x.1 named) x.2

    has-old : (value_of w) ≡ value_of o → HasOldValue (of_register r (operations h)) o
    has-old q = (w, is-old, q)

    old-value : HasOldValue (of_register r (operations h)) o → value_of w ≡ (value_of o)
    old-value x =
        let a = is-old in
        let b = x.1 in
        let u = b.last w a.within a.write a.before in
        let v = a.last x.0 b.within b.write b.before in
        let same : x.0 ≡ w = (accepted-history h rec r).calls x.0 w b.within a.within (omega (arith, u, v)) in
        sym (ap value_of same) ∙ x.2

    pub old-keeps : (level : Level) → value_of w ≡ value_of o → Keeps level (of_register r (operations h)) o
    old-keeps Safe q = λ none. has-old q
    old-keeps Regular q = inl (has-old q)

    -- a safe register gives a read of another value only where a write overlaps it
    pub safe-keeps : (value_of w ≡ value_of o → ⊥)
        → IsTrue e.is_overlapped ↔ Keeps Safe (of_register r (operations h)) o
    safe-keeps differs = (
      λ t none. absurd (let x = (entry.overlapped single).0 t in none x.0 x.1),
      λ keeps. go keeps e.is_overlapped refl,
    )
      where
        go : Keeps Safe (of_register r (operations h)) o → (b : Bool) → e.is_overlapped ≡ b
            → e.is_overlapped ≡ true
        go keeps true q = q
        go keeps false q =
            absurd (differs
            (old-value (keeps (λ v over. false≢true (sym q ∙ (entry.overlapped single).1 (v, over))))))

    pub regular-keeps : (value_of w ≡ value_of o → ⊥) → HasOverlappedValue (of_register r (operations h)) o
        ↔ Keeps Regular (of_register r (operations h)) o
    regular-keeps differs =
        (λ x. inr x, λ keeps. elim keeps [ inl old ↦ absurd (differs (old-value old)) | inr x ↦ x ])
