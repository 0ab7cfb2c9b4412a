-- A history has one report.
use Rattle.std.proofs.Common.{◌≡◌, ℕ, suc, Bool, true, false, List, [], ◌∷◌, length, slice_get}
use Rattle.std.proofs.Common.{Option, Some, inl, inr, refl, sym, ap, subst, ◌∙◌, arith}
use Rattle.std.proofs.lemmas.Bool.{cases_order}
use Rattle.history_model.specs.Lists.{In, Before}
use Rattle.history_model.specs.History.{History}
use Rattle.history_model.specs.Operations.{IsHistory, operations, register_of}
use Rattle.history_model.specs.declared.operation.Operation.{Operation}
use Rattle.history_model.specs.Naming.{IsNamed, name_of}
use Rattle.history_model.specs.declared.ids.Oper.{Oper}
use Rattle.reg_lamport.specs.Levels.{IsFirstBadRead}
use Rattle.reg_lamport.specs.declared.level.Level.{Level}
use Rattle.reg_lamport.specs.declared.level.Level.TheVariants.{Safe, Regular}
use Rattle.reg_zones.specs.Inversions.{inversion_named}
use Rattle.history_model.specs.Placed.{PlacedOperation, placed}
use Rattle.reg_zones.specs.declared.fault.Fault.{Fault}
use Rattle.reg_zones.specs.declared.fault.Fault.TheVariants as fault
use Rattle.reg_zones.proofs.OneFault.{one_fault}
use Rattle.reg_zones.proofs.Unique.{ascending_one, one_canonical, sooner_one_way}
use Rattle.history_model.proofs.Lists.{Before-map}
use Rattle.history_model.proofs.Placed.{operations_of-placed}
use Rattle.reg_report.specs.First.{AreFoundLines, IsFirstReport}
use Rattle.reg_report.specs.Meaning.{IsVerdict, HasLine, HaveLines, ShowsFault, IsAtomicity}
use Rattle.reg_report.specs.Meaning.{IsInversionShown, IsInversionAnswer, IsWholeAtomicity}
use Rattle.reg_report.specs.Meaning.{IsRegisterReport, IsReport, lines_of, points_of}
use Rattle.reg_report.specs.Merged.{MergesBefore, IsWholeOrder}
use Rattle.report_text.specs.declared.check.report.Verdict.{Verdict}
use Rattle.report_text.specs.declared.check.report.Verdict.TheVariants.{Yes, No, SeveralWriters}
use Rattle.report_text.specs.declared.check.report.FaultLines.{FaultLines}
use Rattle.report_text.specs.declared.check.report.FaultLines.TheVariants.{Unwritten, Early, Zones}
use Rattle.report_text.specs.declared.check.report.RegReport.{RegReport}
use Rattle.report_text.specs.declared.check.report.Report.{Report}
use Rattle.std.proofs.lemmas.Option.{same_Some}

-- two lists of one length whose elements are the same place by place
same_list : {X : Type 0} (xs ys : List X) → length xs ≡ length ys
    → ((i : ℕ) (x y : X) → slice_get xs i ≡ Some x → slice_get ys i ≡ Some y → x ≡ y) → xs ≡ ys
same_list [] [] l f = refl
same_list [] (y ∷ ys) l f = absurd (omega (arith, l))
same_list (x ∷ xs) [] l f = absurd (omega (arith, l))
same_list (x ∷ xs) (y ∷ ys) l f =
    ap (λ z. z ∷ xs) (f 0 x y refl refl)
    ∙ ap (λ zs. y ∷ zs) (same_list xs ys (omega (arith, l)) (λ i. f (suc i)))

-- ---- levels

one_bad_read : (level : Level) (ops : List Operation) → IsHistory ops → (r q : Operation)
    → IsFirstBadRead level ops r → IsFirstBadRead level ops q → r ≡ q
one_bad_read level ops y r q a b = y.calls r q a.within b.within (elim (cases_order r.call q.call) [
  | inl e ↦ e
  | inr c ↦ elim c [
    | inl l ↦ absurd (a.breaks (b.first r a.within a.read l))
    | inr l ↦ absurd (b.breaks (a.first q b.within b.read l))
  ]
])

one_verdict : (level : Level) (ops : List Operation) → IsHistory ops → (v w : Verdict) (l m : Option ℕ)
    → IsVerdict level ops v l → IsVerdict level ops w m → (v ≡ w) × (l ≡ m)
one_verdict level ops y Yes Yes l m a b = (refl, a.2 ∙ sym b.2)
one_verdict level ops y Yes No l m a b = absurd (b.1.1.breaks (a.1 b.1.0 b.1.1.within b.1.1.read))
one_verdict level ops y Yes SeveralWriters l m a b = absurd (b.0 a.0)
one_verdict level ops y No Yes l m a b = absurd (a.1.1.breaks (b.1 a.1.0 a.1.1.within a.1.1.read))
one_verdict level ops y No No l m a b = (
  refl,
  a.1.2 ∙ (ap (λ (o : Operation). Some o.line) (one_bad_read level ops y a.1.0 b.1.0 a.1.1 b.1.1)
      ∙ sym b.1.2),
)
one_verdict level ops y No SeveralWriters l m a b = absurd (b.0 a.0)
one_verdict level ops y SeveralWriters Yes l m a b = absurd (a.0 b.0)
one_verdict level ops y SeveralWriters No l m a b = absurd (a.0 b.0)
one_verdict level ops y SeveralWriters SeveralWriters l m a b = (refl, a.1 ∙ sym b.1)

-- ---- faults

module _ (h : History) (named : (name : Oper) (o p : Operation) → IsNamed h name o → IsNamed h name p
    → o ≡ p) where
  one_line : (name : Oper) (l m : ℕ) → HasLine h name l → HasLine h name m → l ≡ m
  one_line name l m a b = a.2 ∙ (ap (λ (o : Operation). o.line) (named name a.0 b.0 a.1 b.1) ∙ sym b.2)

  one_pair : (names : Oper × Oper) (l m : ℕ × ℕ) → HaveLines h names l → HaveLines h names m → l ≡ m
  one_pair names l m a b =
      ap (λ x. (x, l.1)) (one_line names.0 l.0 m.0 a.0 b.0)
      ∙ ap (λ x. (m.0, x)) (one_line names.1 l.1 m.1 a.1 b.1)

  one_shown : (f : Fault) (l m : FaultLines) → ShowsFault h f l → ShowsFault h f m → l ≡ m
  one_shown (fault.Unwritten n) (Unwritten r) (Unwritten q) a b = ap Unwritten (one_line n r q a b)
  one_shown (fault.Unwritten n) (Unwritten r) (Early q w) a b = absurd b
  one_shown (fault.Unwritten n) (Unwritten r) (Zones v f s) a b = absurd b
  one_shown (fault.Unwritten n) (Early r w) m a b = absurd a
  one_shown (fault.Unwritten n) (Zones v f s) m a b = absurd a
  one_shown (fault.Early n o) (Unwritten r) m a b = absurd a
  one_shown (fault.Early n o) (Early r w) (Unwritten q) a b = absurd b
  one_shown (fault.Early n o) (Early r w) (Early q u) a b =
      ap (λ x. Early x w) (one_line n r q a.0 b.0) ∙ ap (λ x. Early q x) (one_line o w u a.1 b.1)
  one_shown (fault.Early n o) (Early r w) (Zones v f s) a b = absurd b
  one_shown (fault.Early n o) (Zones v f s) m a b = absurd a
  one_shown (fault.Zones v f s) (Unwritten r) m a b = absurd a
  one_shown (fault.Zones v f s) (Early r w) m a b = absurd a
  one_shown (fault.Zones v f s) (Zones v' f' s') (Unwritten r) a b = absurd b
  one_shown (fault.Zones v f s) (Zones v' f' s') (Early r w) a b = absurd b
  one_shown (fault.Zones v f s) (Zones v1 f1 s1) (Zones v2 f2 s2) a b =
      ap (λ x. Zones x f1 s1) (one_pair v v1 v2 a.0 b.0)
      ∙ (ap (λ x. Zones v2 x s1) (one_pair f f1 f2 a.1 b.1)
      ∙ ap (λ x. Zones v2 f2 x) (one_pair s s1 s2 a.2 b.2))

  -- ---- atomic

  one_atomicity : (ops : List Operation) → IsHistory ops
      → (x y : Bool) (f g : Option FaultLines) (o p s t : Option (List ℕ)) → IsAtomicity h ops x f o s
      → IsAtomicity h ops y g p t → (x ≡ y) × (f ≡ g) × (o ≡ p) × (s ≡ t)
  one_atomicity ops is true true f g o p s t a b =
      let e = one_canonical ops a.2.2.order b.2.2.order a.2.2.canonical b.2.2.canonical in (
        refl,
        a.1 ∙ sym b.1,
        a.2.3 ∙ (ap Some (a.2.2.operations ∙ (ap (λ xs. lines_of (placed xs)) e ∙ sym b.2.2.operations))
            ∙ sym b.2.3),
        a.2.4 ∙ (ap Some (a.2.2.times ∙ (ap (λ xs. points_of h.events (placed xs)) e ∙ sym b.2.2.times))
            ∙ sym b.2.4),
      )
  one_atomicity ops is true false f g o p s t a b = absurd (b.0 a.0)
  one_atomicity ops is false true f g o p s t a b = absurd (a.0 b.0)
  one_atomicity ops is false false f g o p s t a b =
      let same = one_fault ops is a.3.1.0 b.3.1.0 a.3.1.1 b.3.1.1 in (
        refl,
        a.3.2 ∙ (ap Some
            (one_shown b.3.1.0 a.3.0 b.3.0 (subst (λ k. ShowsFault h k a.3.0) same a.3.1.2) b.3.1.2)
            ∙ sym b.3.2),
        a.1 ∙ sym b.1,
        a.2 ∙ sym b.2,
      )

  -- ---- the inversion

  one_inversion : (ops : List Operation) → IsHistory ops → (l m : ℕ × ℕ) → IsInversionShown h ops l
      → IsInversionShown h ops m → l ≡ m
  one_inversion ops y l m a b =
      let same = one_fault ops y a.fault b.fault a.is_fault b.is_fault in
      let names = same_Some _ _ (sym a.named ∙ (ap inversion_named same ∙ b.named)) in
      one_pair (
        name_of b.first,
        name_of b.second,
      ) l m (subst (λ (n : Oper × Oper). HaveLines h n l) names a.shown) b.shown

  one_inversion_answer : (ops : List Operation) → IsHistory ops
      → (atomic : Bool) (regular : Verdict) (o p : Option (ℕ × ℕ)) → IsInversionAnswer h ops atomic regular o
      → IsInversionAnswer h ops atomic regular p → o ≡ p
  one_inversion_answer ops y true v o p a b = a ∙ sym b
  one_inversion_answer ops y false Yes o p a b =
      a.2 ∙ (ap Some (one_inversion ops y a.0 b.0 a.1 b.1) ∙ sym b.2)
  one_inversion_answer ops y false No o p a b = a ∙ sym b
  one_inversion_answer ops y false SeveralWriters o p a b = a ∙ sym b

  -- ---- the merged order

  module _ (m n : List PlacedOperation) (a : IsWholeOrder h m) (b : IsWholeOrder h n) where
    same_orders : (r : ℕ) → a.orders r ≡ b.orders r
    same_orders r = one_canonical (register_of h r) (a.orders r) (b.orders r) (a.canonical r) (b.canonical r)

    to_first : (x : PlacedOperation) → In x n → In x m
    to_first x i =
        a.ordered.all x.operation.register x
        (subst (λ xs. In x (placed xs)) (sym (same_orders x.operation.register)) (b.ordered.only x i))

    to_second : (x : PlacedOperation) → In x m → In x n
    to_second x i =
        b.ordered.all x.operation.register x
        (subst (λ xs. In x (placed xs)) (same_orders x.operation.register) (a.ordered.only x i))

    as_first : (x y : PlacedOperation) → MergesBefore b.orders x y → MergesBefore a.orders x y
    as_first x y (inl l) = inl l
    as_first x y (inr (e, inl l)) = inr (e, inl l)
    as_first x y (inr (e, inr (s, k))) =
        inr (e, inr (s, subst (λ xs. Before x y (placed xs)) (sym (same_orders x.operation.register)) k))

    down : (r : ℕ) (x y : PlacedOperation) → Before x y (placed (a.orders r))
        → Before x.operation y.operation (a.orders r)
    down r x y s =
        subst (Before x.operation y.operation) (operations_of-placed (a.orders r))
        (Before-map (λ (z : PlacedOperation). z.operation) x y (placed (a.orders r)) s)

    one_way : (x y : PlacedOperation) → MergesBefore a.orders x y → MergesBefore a.orders y x → ⊥
    one_way x y (inl p) (inl q) = omega arith
    one_way x y (inl p) (inr q) = omega (arith, q.0)
    one_way x y (inr p) (inl q) = omega (arith, p.0)
    one_way x y (inr p) (inr q) = elim p.1 [
      | inl l ↦ elim q.1 [ inl k ↦ omega arith | inr k ↦ omega (arith, k.0) ]
      | inr l ↦ elim q.1 [
        | inl k ↦ omega (arith, l.0)
        | inr k ↦
            let r = x.operation.register in
            let back = subst (λ n. Before y x (placed (a.orders n))) k.0 k.1 in
            sooner_one_way (register_of h r) x.operation y.operation
            ((a.canonical r).ascending x.operation y.operation (down r x y l.1))
            ((a.canonical r).ascending y.operation x.operation (down r y x back))
      ]
    ]

    pub one_merged : m ≡ n
    one_merged =
        ascending_one (MergesBefore a.orders) one_way m n to_second to_first a.ordered.ascending (λ x y s.
        as_first x y (b.ordered.ascending x y s))

  one_whole : (x y : Bool) (o p : Option (List ℕ)) → IsWholeAtomicity h x o → IsWholeAtomicity h y p
      → (x ≡ y) × (o ≡ p)
  one_whole true true o p a b = (
    refl,
    a.1.2 ∙ (ap Some (a.1.1.2
        ∙ (ap lines_of (one_merged a.1.1.0 b.1.1.0 a.1.1.1 b.1.1.1) ∙ sym b.1.1.2)) ∙ sym b.1.2),
  )
  one_whole true false o p a b = absurd (b.0 a.0)
  one_whole false true o p a b = absurd (a.0 b.0)
  one_whole false false o p a b = (refl, a.1 ∙ sym b.1)

  -- ---- the report

  -- a line by its fields
  line_with : List ℕ → ℕ → ℕ → ℕ → Verdict → Verdict → Option ℕ → Option ℕ → Bool → Option FaultLines
      → Option (ℕ × ℕ) → Option (List ℕ) → Option (List ℕ) → RegReport
  line_with register writes reads pending safe regular safe_read regular_read atomic fault inversion order
      points =
      record {
        register = register;
        writes = writes;
        reads = reads;
        pending = pending;
        safe = safe;
        regular = regular;
        safe_read = safe_read;
        regular_read = regular_read;
        atomic = atomic;
        fault = fault;
        inversion = inversion;
        order = order;
        points = points;
      }

  with_fields : (a : RegReport)
      → line_with a.register a.writes a.reads a.pending a.safe a.regular a.safe_read a.regular_read a.atomic
      a.fault a.inversion a.order a.points ≡ a
  unfolding line_with
  with_fields a = refl

  one_register : (r : ℕ) → IsHistory (register_of h r) → (a b : RegReport) → IsRegisterReport h r a
      → IsRegisterReport h r b → a ≡ b
  one_register r y a b p q =
      let ops = register_of h r in
      let name = same_Some _ _ (sym p.name ∙ q.name) in
      let writes = p.writes ∙ sym q.writes in
      let reads = p.reads ∙ sym q.reads in
      let pending = p.pending ∙ sym q.pending in
      let safe = one_verdict Safe ops y a.safe b.safe a.safe_read b.safe_read p.safe q.safe in
      let regular =
      one_verdict Regular ops y a.regular b.regular a.regular_read b.regular_read p.regular q.regular in
      let atomic =
      one_atomicity ops y a.atomic b.atomic a.fault b.fault a.order b.order a.points b.points p.atomic
      q.atomic in
      let safe_is = safe.0 in
      let safe_read = safe.1 in
      let regular_is = regular.0 in
      let regular_read = regular.1 in
      let atomic_is = atomic.0 in
      let fault_is = atomic.1 in
      let order_is = atomic.2 in
      let points_is = atomic.3 in
      let inversion_is = one_inversion_answer ops y b.atomic b.regular a.inversion b.inversion
      (subst (λ v. IsInversionAnswer h ops b.atomic v a.inversion) regular_is
      (subst (λ x. IsInversionAnswer h ops x a.regular a.inversion) atomic_is p.inversion)) q.inversion in
      let same : line_with a.register a.writes a.reads a.pending a.safe a.regular a.safe_read a.regular_read
      a.atomic a.fault a.inversion a.order a.points
      ≡ line_with b.register b.writes b.reads b.pending b.safe b.regular b.safe_read b.regular_read
      b.atomic b.fault b.inversion b.order b.points = cc in
      sym (with_fields a) ∙ (same ∙ with_fields b)

  report_with : List RegReport → ℕ → ℕ → Bool → Option (List ℕ) → Report
  report_with regs operations registers atomic order = record {
    regs = regs;
    operations = operations;
    registers = registers;
    atomic = atomic;
    order = order;
  }

  report_fields : (a : Report) → report_with a.regs a.operations a.registers a.atomic a.order ≡ a
  unfolding report_with
  report_fields a = refl

  pub one_report : ((r : ℕ) → IsHistory (register_of h r)) → (a b : Report) → IsReport h a
      → IsReport h b → a ≡ b
  one_report y a b p q =
      let regs =
      same_list a.regs b.regs (p.lines
      ∙ sym q.lines) (λ r x z s t. one_register r (y r) x z (p.each r x s) (q.each r z t)) in
      let operations = p.called ∙ sym q.called in
      let registers = p.named ∙ sym q.named in
      let whole = one_whole a.atomic b.atomic a.order b.order p.atomic q.atomic in
      let atomic = whole.0 in
      let order = whole.1 in
      let same : report_with a.regs a.operations a.registers a.atomic a.order
      ≡ report_with b.regs b.operations b.registers b.atomic b.order = cc in
      sym (report_fields a) ∙ (same ∙ report_fields b)

  -- ---- the report of the first register that isn't atomic

  one_found : ((r : ℕ) → IsHistory (register_of h r)) → (x y : Bool) (s t : List RegReport)
      → AreFoundLines h x s → AreFoundLines h y t → (x ≡ y) × (s ≡ t)
  one_found is true true s t a b = (refl, a.1 ∙ sym b.1)
  one_found is true false s t a b = absurd (b.0 a.0)
  one_found is false true s t a b = absurd (a.0 b.0)
  one_found is false false s t a b =
      let r = a.1.0 in
      let q = b.1.0 in
      let same : q ≡ r = elim (cases_order q r) [
        | inl e ↦ e
        | inr c ↦ elim c [
          | inl l ↦ absurd (b.1.2.faulty (a.1.2.below q l))
          | inr l ↦ absurd (a.1.2.faulty (b.1.2.below r l))
        ]
      ] in
      let line =
      one_register r (is r) a.1.1 b.1.1 a.1.3 (subst (λ n. IsRegisterReport h n b.1.1) same b.1.3) in
      (refl, a.1.4 ∙ (ap (λ (reg : RegReport). reg ∷ []) line ∙ sym b.1.4))

  pub one_first_report : ((r : ℕ) → IsHistory (register_of h r)) → (a b : Report) → IsFirstReport h a
      → IsFirstReport h b → a ≡ b
  one_first_report y a b p q =
      let found = one_found y a.atomic b.atomic a.regs b.regs p.lines q.lines in
      let atomic = found.0 in
      let regs = found.1 in
      let operations = p.called ∙ sym q.called in
      let registers = p.named ∙ sym q.named in
      let order = p.unordered ∙ sym q.unordered in
      let same : report_with a.regs a.operations a.registers a.atomic a.order
      ≡ report_with b.regs b.operations b.registers b.atomic b.order = cc in
      sym (report_fields a) ∙ (same ∙ report_fields b)
