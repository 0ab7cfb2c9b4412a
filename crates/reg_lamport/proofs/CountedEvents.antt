-- A pass over the events counts each register's completed reads, and sees who writes it.
use Rattle.std.proofs.Common.{◌≡◌, ℕ, zero, suc, ◌+◌, ◌^◌, ◌<◌, ◌≤◌, ◌==◌, ◌&&◌, cond}
use Rattle.std.proofs.Common.{Bool, true, false, List, ◌∷◌, length, set, replicate, slice_get}
use Rattle.std.proofs.Common.{Option, Some, None, option_map, unwrap_or, ◌⊎◌, inl, inr}
use Rattle.std.proofs.Common.{refl, sym, ap, subst, ◌∙◌, arith}
use Rattle.std.specs.List.{count_by}
use Rattle.std.proofs.lemmas.Bool.{eq-eqb, ne_eqb, cases_eq, false≢true}
use Rattle.std.proofs.lemmas.List.{length-map, length-set, length-replicate}
use Rattle.std.proofs.lemmas.List.Sums.{length-filter, count_by-le-length}
use Rattle.std.proofs.lemmas.Option.{slice_get-map}
use Rattle.history_text.specs.declared.limits.TheConstants.{MAX_EVENTS}
use Rattle.history_model.specs.Lists.{In}
use Rattle.history_model.specs.History.{History, IsRecorded}
use Rattle.history_model.specs.Lamport.{HasSingleWriter, completed_reads, is_completed_read}
use Rattle.history_model.specs.Operations.{operations, calls, of_register, kind_in, writes}
use Rattle.history_model.specs.declared.operation.Operation.{Operation}
use Rattle.history_model.specs.Naming.{begins_at}
use Rattle.history_model.specs.Walking.{by_register, called_at}
use Rattle.history_model.specs.declared.event.Event.{Event}
use Rattle.history_model.proofs.Belonging.{called-one}
use Rattle.history_model.proofs.Lists.{slice_get-set, slice_get-set_other}
use Rattle.history_model.proofs.Named.{calls-have-registers}
use Rattle.history_model.proofs.Recorded.{of_register-In}
use Rattle.history_model.proofs.Walking.{begins-call, calls-few, number-known}
use Rattle.history_model.proofs.Plain.{changes-kind}
use Rattle.reg_lamport.specs.Counts.{AreCounted, IsReadCount, count_by_writer, count_shown}
use Rattle.reg_lamport.specs.Counts.{counted, is_reply_to_read, nothing_counted, with_write}
use Rattle.reg_lamport.specs.Writers.{begins_write}
use Rattle.reg_lamport.specs.declared.counts.ReadCount.{ReadCount}
use Rattle.reg_lamport.specs.declared.counts.Writer.{Writer}
use Rattle.reg_lamport.specs.declared.counts.Writer.TheVariants.{Nobody, One, Several}
use Rattle.reg_lamport.proofs.Answered.{all-answered, answered, answers-none, answers-one, none-answered}
use Rattle.reg_lamport.proofs.Calls.{In-called, called-In, called_at-kind, called_at-process}
use Rattle.reg_lamport.proofs.Calls.{called_at-register, reads-called}
use Rattle.reg_lamport.proofs.InOrder.{calls_left, left-call, left-none, left-other}
use Rattle.reg_lamport.proofs.OneWriter.{IsWriterOf, caller, writer_after, writer-is}
use Rattle.reg_lamport.proofs.OneWriter.{all-single, none-single, two-several}

-- what was counted of a register before place n
pub record IsCounting (h : History) (r n : ℕ) (c : ReadCount) : Type 0 where
  pub reads : c.reads ≡ count_by (answered n) (of_register r (calls h.events))
  pub writer : writer_after c.writer (calls_left h r n) ≡ writer_after Nobody (of_register r (calls h.events))

-- the same of each register
pub record AreCounting (h : History) (n : ℕ) (cs : List ReadCount) : Type 0 where
  pub count : length cs ≡ length h.names
  pub each : (r : ℕ) (c : ReadCount) → slice_get cs r ≡ Some c → IsCounting h r n c

-- ---- the pass begins

pub all-alike : {X : Type 0} (n : ℕ) (x : X) (i : ℕ) (y : X) → slice_get (replicate n x) i ≡ Some y → y ≡ x
all-alike zero x i y q = absurd (cc (q))
all-alike (suc n) x zero y q = cc (q)
all-alike (suc n) x (suc i) y q = all-alike n x i y q

pub counting-begins : (h : History) → IsRecorded h → (cs : List ReadCount) (n : ℕ)
    → cs ≡ replicate n nothing_counted → n ≡ length h.names → AreCounting h 0 cs
counting-begins h rec cs n q few = record {
  count = ap length q ∙ (length-replicate n nothing_counted ∙ few);
  each =
      λ r c at. subst (IsCounting h r 0)
      (sym (all-alike n nothing_counted r c (sym (ap (λ xs. slice_get xs r) q) ∙ at)))
      (record { reads = sym (none-answered h rec r); writer = refl });
}

-- ---- it goes on

module _ (h : History) (rec : IsRecorded h) (n : ℕ) (e : Event) (at : slice_get h.events n ≡ Some e) where
  -- an event of another register
  other : (r : ℕ) (c : ReadCount) → (by_register e ≡ Some r → ⊥) → IsCounting h r n c
      → IsCounting h r (n + 1) c
  other r c ne i = record {
    reads = i.reads ∙ answers-none h rec r n e at (λ is own. ne own);
    writer = sym (ap (writer_after c.writer) (left (begins_at h.events n e) refl)) ∙ i.writer;
  }
    where
      left : (b : Bool) → begins_at h.events n e ≡ b → calls_left h r n ≡ calls_left h r (n + 1)
      left false q = left-other h r n e at q
      left true q =
          let k = calls-have-registers h rec n e at (begins-call e _ q) in
          let d =
          ne_eqb (called_at h.events n e).register r
          (λ w. ne (k.1 ∙ ap Some (sym (number-known e k.0 k.1)
          ∙ (sym (called_at-register h.events n e) ∙ w)))) in
          left-call h r n e at q
          ∙ ap (λ b. cond b (called_at h.events n e ∷ calls_left h r (n + 1)) (calls_left h r (n + 1))) d

  -- an event of the register
  own-event : (r : ℕ) (c : ReadCount) → by_register e ≡ Some r → IsCounting h r n c
      → IsCounting h r (n + 1) (counted (begins_write h.events n e) e c)
  own-event r c own i = record {
    reads = reads (is_reply_to_read e.what) refl;
    writer = writer (begins_at h.events n e) refl;
  }
    where
      reads : (b : Bool) → is_reply_to_read e.what ≡ b
          → cond b (c.reads + 1) c.reads ≡ count_by (answered (n + 1)) (of_register r (calls h.events))
      reads true q = ap (λ k. k + 1) i.reads ∙ sym (answers-one h rec r n e at q own)
      reads false q = i.reads ∙ answers-none h rec r n e at (λ is o. false≢true (sym q ∙ is))

      writer : (b : Bool) → begins_at h.events n e ≡ b
          → writer_after (cond (b && writes (kind_in e.what)) (with_write c.writer e.process) c.writer)
          (calls_left h r (n + 1))
          ≡ writer_after Nobody (of_register r (calls h.events))
      writer false q = sym (ap (writer_after c.writer) (left-other h r n e at q)) ∙ i.writer
      writer true q =
          let o = called_at h.events n e in
          let rest = calls_left h r (n + 1) in
          let d = eq-eqb o.register r (called_at-register h.events n e ∙ number-known e r own) in
          let left : calls_left h r n ≡ o ∷ rest =
          left-call h r n e at q ∙ ap (λ b. cond b (o ∷ rest) rest) d in
          let by : caller o ≡ e.process =
          ap (λ p. unwrap_or p 0) (called_at-process h.events n e) in
          sym (ap (λ w. writer_after (cond w (with_write c.writer (caller o)) c.writer) rest)
          (changes-kind o.act ∙ ap writes (called_at-kind h.events n e))
          ∙ ap (λ p. writer_after (cond (writes (kind_in e.what)) (with_write c.writer p) c.writer) rest) by)
          ∙ (sym (ap (writer_after c.writer) left) ∙ i.writer)

  -- an event without a register
  pub counting-skips : (cs : List ReadCount) → AreCounting h n cs → by_register e ≡ None
      → AreCounting h (n + 1) cs
  counting-skips cs c none = record {
    count = c.count;
    each = λ r x q. other r x (λ own. let w : None ≡ Some r = sym none ∙ own in cc (w)) (c.each r x q);
  }

  pub counting-adds : (cs ds : List ReadCount) (k : ℕ) (c : ReadCount) → AreCounting h n cs
      → by_register e ≡ Some k → slice_get cs k ≡ Some c
      → ds ≡ set cs k (counted (begins_write h.events n e) e c) → k < length cs → AreCounting h (n + 1) ds
  counting-adds cs ds k c counting own there new within = record {
    count = ap length new ∙ (length-set cs k after ∙ counting.count);
    each = λ r d q. one r d (cases_eq r k) (sym (ap (λ xs. slice_get xs r) new) ∙ q);
  }
    where
      after : ReadCount
      after = counted (begins_write h.events n e) e c

      one : (r : ℕ) (d : ReadCount) → (r ≡ k) ⊎ (r ≡ k → ⊥)
          → slice_get (set cs k (counted (begins_write h.events n e) e c)) r ≡ Some d
          → IsCounting h r (n + 1) d
      one r d (inl q) got =
          let here = slice_get-set cs k (counted (begins_write h.events n e) e c) within in
          let moved = ap (slice_get (set cs k (counted (begins_write h.events n e) e c))) q in
          let same : d ≡ counted (begins_write h.events n e) e c = cc (got, here, moved) in
          subst (IsCounting h r (n + 1)) (sym same)
          (own-event r c (own ∙ ap Some (sym q)) (counting.each r c (ap (slice_get cs) q ∙ there)))
      one r d (inr ne) got =
          other r d (λ o. ne (let a : Some r ≡ Some k = sym o ∙ own in cc (a)))
          (counting.each r d (sym (slice_get-set_other cs k r (counted (begins_write h.events n e) e c) ne)
          ∙ got))

-- no count passes the number of events
pub counting-room : (h : History) (n : ℕ) (cs : List ReadCount) → AreCounting h n cs
    → length h.events ≤ MAX_EVENTS → (r : ℕ) (c : ReadCount) → slice_get cs r ≡ Some c → c.reads < 2 ^ 31
counting-room h n cs counting few r c q =
    let i = counting.each r c q in
    let own = of_register r (calls h.events) in
    omega (
      arith,
      few,
      i.reads,
      count_by-le-length (answered n) own,
      length-filter (λ (o : Operation). o.register == r) (calls h.events),
      count_by-le-length (λ (o : Operation). o.register == r) (calls h.events),
      calls-few (length h.events + 2) 2 h.events,
    )

-- ---- it ends

module _ (h : History) (r : ℕ) where
  abbrev own : List Operation
  own = of_register r (calls h.events)

  -- somebody called each
  called : (o : Operation) → In o own → (p : ℕ) × (o.process ≡ Some p)
  called o i =
      let x = called-one h.events o (of_register-In r (calls h.events) o i).0 in
      (x.1.process, x.2.process)

  -- initial writes have no part in it
  single : HasSingleWriter own → HasSingleWriter (of_register r (operations h))
  single s v w p q i j u x a b = s v w p q (called-In h r v p i a) (called-In h r w q j b) u x a b

  single-called : HasSingleWriter (of_register r (operations h)) → HasSingleWriter own
  single-called s v w p q i j = s v w p q (In-called h r v i) (In-called h r w j)

  counts : (w : Writer) (n : ℕ) → IsWriterOf w own → n ≡ length (completed_reads own)
      → IsReadCount h r (count_by_writer w n)
  counts Nobody n is e =
      (single (none-single own called is), e ∙ ap length (sym (reads-called h r)))
  counts (One p) n is e =
      (single (all-single own called p is), e ∙ ap length (sym (reads-called h r)))
  counts Several n is e = λ s. two-several own called is (single-called s)

  one-ends : IsRecorded h → (n : ℕ) (c : ReadCount) → length h.events ≤ n → IsCounting h r n c
      → IsReadCount h r (count_shown c)
  one-ends rec n c l i =
      let none = left-none h r n l in
      let writer : writer_after Nobody own ≡ c.writer =
      sym i.writer ∙ ap (writer_after c.writer) none in
      counts c.writer c.reads (subst (λ w. IsWriterOf w own) writer (writer-is own))
      (i.reads ∙ (all-answered h rec r n l ∙ sym (length-filter is_completed_read own)))

pub counting-ends : (h : History) → IsRecorded h → (n : ℕ) (cs : List ReadCount) → length h.events ≤ n
    → AreCounting h n cs → AreCounted h cs
counting-ends h rec n cs l c = record {
  registers = length-map cs count_shown ∙ c.count;
  each = λ r count at. ends r count (slice_get cs r) refl (sym (slice_get-map count_shown cs r) ∙ at);
}
  where
    ends : (r : ℕ) (count : Option ℕ) (o : Option ReadCount) → slice_get cs r ≡ o
        → option_map count_shown o ≡ Some count → IsReadCount h r count
    ends r count None there e = absurd (cc (e))
    ends r count (Some x) there e =
        let same : count_shown x ≡ count = cc (e) in
        subst (IsReadCount h r) same (one-ends h r rec n x l (c.each r x there))
