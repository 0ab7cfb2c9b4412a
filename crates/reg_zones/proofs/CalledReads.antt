-- Which completed read an event calls, and its write, by what the arena answers.
use Rattle.std.proofs.Common.{◌≡◌, ℕ, ◌+◌, Option, Some, None, inl, inr, refl, sym, ap, ◌∙◌, arith}
use Rattle.std.proofs.lemmas.Bool.{false≢true}
use Rattle.history_text.specs.declared.event.Val.{Val}
use Rattle.history_text.specs.declared.event.OpKind.TheVariants.{WriteOp}
use Rattle.history_model.specs.declared.op.Op.{Op}
use Rattle.history_model.specs.Lists.{In}
use Rattle.history_model.specs.History.{History}
use Rattle.history_model.specs.Operations.{IsWrite, IsCompletedRead, IsReadOf, value_of}
use Rattle.history_model.specs.declared.operation.Operation.{Operation}
use Rattle.history_model.specs.Operations.{of_register, operations, writes, is_write}
use Rattle.history_model.specs.declared.ids.Oper.{Oper}
use Rattle.history_model.specs.Naming.{IsNamed, name_by}
use Rattle.history_model.specs.OfValue.{IsWriteOf}
use Rattle.reg_zones.proofs.Known.{IsKnown}
use Rattle.reg_zones.specs.Sweep.{IsBelonging, IsUnwrittenAt, call_named}
use Rattle.reg_zones.proofs.Registers.{member-cluster, cluster-member}
use Rattle.reg_zones.proofs.ValuedEvents.{same, pending}
use Rattle.history_model.proofs.Recorded.{of_register-In}
use Rattle.history_model.proofs.Plain.{changes-kind}

module _ (h : History) (r : ℕ) (y : IsKnown h r) (i : ℕ) (o : Operation) (op : Op)
    (b : IsBelonging h r i o op)
    (a : Operation) (k : In a (of_register r (operations h))) (d : IsCompletedRead a)
    (e : a.call ≡ i + 2) where
  is : o ≡ a
  is = same h r y i o op b a k (inl e)

  pub not_write : op.kind ≡ WriteOp → ⊥
  not_write q =
      false≢true (sym d.read
      ∙ (ap (λ (x : Operation). is_write x) (sym is)
      ∙ (changes-kind o.act ∙ ap writes (ap (λ (x : Op). x.kind) (sym b.shown) ∙ q))))

  pub not_pending : op.reply ≡ None → ⊥
  not_pending q =
      false≢true (sym (pending h r y i o op b q) ∙ (ap (λ (x : Operation). x.completed) is ∙ d.completed))

  pub not_empty : op.value ≡ None → ⊥
  not_empty q =
      let v = y.value a (of_register-In r (operations h) a k).0 (inr d.completed) in
      let n : value_of o ≡ None = ap (λ (x : Op). x.value) (sym b.shown) ∙ q in
      cc (n, ap value_of is, v.1)

-- ---- the write of a read

module _ (h : History) (r : ℕ) (y : IsKnown h r) (v : Val) where
  -- the write that the arena names
  pub the_write : (name : Oper) → IsWriteOf h r v (Some name) → (w : Operation) × IsNamed h name w
      × In w (of_register r (operations h)) × IsWrite w × (value_of w ≡ Some v)
  the_write name f = let m = member-cluster h r y v f.0 f.2 in (f.0, f.1, m.within, f.3, f.2.value)

  -- or that there is none
  pub no_write : IsWriteOf h r v None → (w : Operation) → In w (of_register r (operations h)) → IsWrite w
      → value_of w ≡ Some v → ⊥
  no_write f w i u e = f w (cluster-member h r y v w (record { within = i; value = e; counts = inl u })) u

  pub read_of : (w a : Operation) → value_of w ≡ Some v → IsCompletedRead a → value_of a ≡ Some v
      → IsReadOf w a
  read_of w a e d f = record { read = d.read; completed = d.completed; value = f ∙ sym e }

  -- two writes of the value are one
  pub one_write : (w x : Operation) → In w (of_register r (operations h)) → IsWrite w → value_of w ≡ Some v
      → In x (of_register r (operations h)) → IsWrite x → value_of x ≡ Some v → w ≡ x
  one_write w x i u e j t f = y.history.values w x i j u t (e ∙ sym f)

  -- where a completed read of the value is called, each completed read has its write
  pub call_written : (name : Oper) (n : ℕ) (a : Operation) → In a (of_register r (operations h))
      → IsCompletedRead a → a.call ≡ n → value_of a ≡ Some v → IsWriteOf h r v (Some name)
      → IsUnwrittenAt (of_register r (operations h)) n None
  call_written name n a i d e f m b k t q =
      let w = the_write name m in
      let same = y.history.calls b a k i (q ∙ sym e) in
      (w.0, w.2, w.3, read_of w.0 b w.4 t (ap value_of same ∙ f))

-- the name of an operation tells when it was called
pub named-call : (h : History) (r : ℕ) → IsKnown h r → (name : Oper) (w : Operation)
    → In w (of_register r (operations h)) → IsNamed h name w → w.call ≡ call_named name
named-call h r y name w k n = go w.process refl
  where
    go : (s : Option ℕ) → w.process ≡ s → w.call ≡ call_named name
    go None q =
        ap (λ (o : Operation). o.call) (y.history.initial w k q)
        ∙ ap call_named (sym (ap (λ s. name_by s w) q) ∙ n.named)
    go (Some p) q =
        let l = y.history.called w p k q in
        let e : w.call ≡ call_named (name_by (Some p) w) = omega arith in
        e ∙ ap call_named (sym (ap (λ s. name_by s w) q) ∙ n.named)
