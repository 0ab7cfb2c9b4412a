-- A pass over the calls of a register gathers its completed reads, each with its old write.
use Rattle.std.proofs.Common.{◌≡◌, ℕ, ◌+◌, ◌<◌, ◌≤◌, cond, not, ◌&&◌, Bool, true, false, List, [], ◌∷◌}
use Rattle.std.proofs.Common.{◌++◌, length, map, take, drop, slice_get, unwrap_or, append_assoc, Option}
use Rattle.std.proofs.Common.{Some, None, ◌⊎◌, inl, inr, refl, sym, ap, subst, ◌∙◌, arith}
use Rattle.std.specs.List.{AllZip}
use Rattle.std.proofs.lemmas.List.{append-nil, length-append, length-map, take_at, drop_at}
use Rattle.std.proofs.lemmas.List.Elements.{filter-append}
use Rattle.history_model.specs.Lists.{In, Before}
use Rattle.history_model.specs.History.{History, IsRecorded}
use Rattle.history_model.specs.Lamport.{is_completed_read, completed_reads}
use Rattle.history_model.specs.Operations.{operations, calls, initial_write}
use Rattle.history_model.specs.declared.operation.Operation.{Operation}
use Rattle.history_model.specs.Operations.{initial_writes, is_write, op_kind, of_register, writes}
use Rattle.history_model.specs.Walking.{IsFirstOf, IsNextOf, by_register, called_at, calls_at, IsOnWalk}
use Rattle.history_model.specs.Naming.{IsNamed, begins_at, op_shown}
use Rattle.history_model.specs.declared.ids.EvId.{EvId}
use Rattle.history_model.specs.declared.ids.RegId.{RegId}
use Rattle.history_model.specs.declared.ids.Oper.TheVariants.{Initial, Called}
use Rattle.history_model.specs.declared.event.Event.{Event}
use Rattle.history_model.proofs.Recorded.{of_register-In, In-of_register, initials-In, accepted-history}
use Rattle.history_model.proofs.Named.{calls-have-registers, operation-has-register, initial-there}
use Rattle.history_model.proofs.Walking.{walk-begins, walk-goes, walk-first, walk-next}
use Rattle.reg_lamport.specs.declared.gathering.ReadEntry.{ReadEntry}
use Rattle.reg_lamport.specs.Gathering.{Gathered, nothing_met, settled, write_met}
use Rattle.reg_lamport.specs.Gathering.{read_met, any_read_met, entry_of, call_met}
use Rattle.reg_lamport.specs.Reads.{IsEntryOf}
use Rattle.reg_lamport.proofs.Calls.{In-called, called_at-call, called_at-pending, calls-ascend, reads-called}
use Rattle.reg_lamport.proofs.Zipped.{zip-join, zip-map, zip-weaker}
use Rattle.reg_lamport.proofs.Moments.{IsMoment, IsLastTwo, IsEntrySoFar, IsSettled}
use Rattle.reg_lamport.proofs.Moments.{entry-stays, settled-stays, last-stays, read-entry}
use Rattle.reg_lamport.proofs.Moments.{entry-told, settled-told, last-moves}
use Rattle.history_model.proofs.Lists.{Before-across, Before-right, append-In, In-left, In-right}
use Rattle.history_model.proofs.Plain.{changes-kind}

-- The calls seen are those before the walk's place. The entries in front were called before the
-- last write, and the fresh ones after it.
pub record IsGathering (h : History) (r : ℕ) (g : Gathered) (next : Option EvId) : Type 0 where
  pub on : IsOnWalk h.events r next
  pub seen : List Operation
  pub split : of_register r (calls h.events) ≡ seen ++ calls_at h.events r next
  pub front : List ReadEntry
  pub fresh : List ReadEntry
  pub front_reads : List Operation
  pub fresh_reads : List Operation
  pub entries : g.entries ≡ front ++ fresh
  pub count : g.settled ≡ length front
  pub reads : completed_reads seen ≡ front_reads ++ fresh_reads
  pub front_fit : AllZip (IsSettled h (of_register r (operations h)) (initial_write r ∷ seen)) front
      front_reads
  pub fresh_fit : AllZip (IsEntrySoFar h (of_register r (operations h)) (initial_write r ∷ seen)) fresh
      fresh_reads
  pub last : In (initial_write r) (of_register r (operations h))
      → IsLastTwo h (initial_write r ∷ seen) g.last g.last_reply g.before_last

module _ (h : History) (rec : IsRecorded h) (r : ℕ) where
  -- a register with an operation has its initial write
  has-initial : (o : Operation) → In o (of_register r (operations h))
      → In (initial_write r) (of_register r (operations h))
  has-initial o i =
      let x = of_register-In r (operations h) o i in
      initial-there h r (subst (λ k. k < length h.names) x.1 (operation-has-register h rec o x.0))

  -- an operation of the register is its initial write or a call
  first-or-call : (q : Operation) → In q (of_register r (operations h))
      → (q ≡ initial_write r) ⊎ In q (of_register r (calls h.events))
  first-or-call q i =
      let x = of_register-In r (operations h) q i in
      elim (append-In q (initial_writes (length h.names)) (calls h.events) x.0) [
        | inl j ↦ (let y = initials-In (length h.names) q j in
            let k = sym (ap (λ (o : Operation). o.register) y.2) ∙ x.1 in inl (y.2 ∙ ap initial_write k))
        | inr j ↦ inr (In-of_register r (calls h.events) q j x.1)
      ]

  moment : (seen rest : List Operation) (o : Operation) → of_register r (calls h.events) ≡ seen ++ o ∷ rest
      → 2 ≤ o.call → IsMoment (of_register r (operations h)) (initial_write r ∷ seen) o
  moment seen rest o split two = record {
    facts = accepted-history h rec r;
    there = here;
    called = two;
    within =
        λ q i. elim i [
          | inl e ↦ subst (λ x. In x (of_register r (operations h))) (sym e) (has-initial o here)
          | inr k ↦ inside q (In-left q seen (o ∷ rest) k)
        ];
    earlier =
        λ q i. elim i [
          | inl e ↦ (let c = ap (λ (x : Operation). x.call) e in omega (arith, c, two))
          | inr k ↦ calls-ascend h.events r q o
              (subst (Before q o) (sym split) (Before-across q o seen (o ∷ rest) k (inl refl)))
        ];
    known =
        λ q i less. elim (first-or-call q i) [
          | inl e ↦ inl e
          | inr k ↦ inr (before q (subst (In q) split k) less)
        ];
  }
    where
      inside : (q : Operation) → In q (seen ++ o ∷ rest) → In q (of_register r (operations h))
      inside q i = In-called h r q (subst (In q) (sym split) i)

      here : In o (of_register r (operations h))
      here = inside o (In-right o seen (o ∷ rest) (inl refl))

      before : (q : Operation) → In q (seen ++ o ∷ rest) → q.call < o.call → In q seen
      before q i less = elim (append-In q seen (o ∷ rest) i) [
        | inl k ↦ k
        | inr k ↦ elim k [
          | inl e ↦ absurd (let c = ap (λ (x : Operation). x.call) e in omega (arith, c, less))
          | inr j ↦ absurd
              (let c = calls-ascend h.events r o q
              (subst (Before o q) (sym split) (Before-right o q seen (o ∷ rest) (inl (refl, j)))) in
              omega (arith, c, less))
        ]
      ]

  -- ---- the first call, and an event that begins no operation

  pub gathering-begins : (register : RegId) (next : Option EvId) → register.0 ≡ r
      → IsFirstOf by_register h.events r next → IsGathering h r (nothing_met register) next
  gathering-begins register next same first = record {
    on = walk-first r h.events next first;
    seen = [];
    split = walk-begins r h.events next (calls-have-registers h rec) first;
    front = [];
    fresh = [];
    front_reads = [];
    fresh_reads = [];
    entries = refl;
    count = refl;
    reads = refl;
    front_fit = tt;
    fresh_fit = tt;
    last = λ i. record {
      one = initial_write r;
      one_met = inl refl;
      one_write = refl;
      one_named = named i;
      one_reply = refl;
      latest =
          λ v k w. elim k [
            | inl e ↦ (let c = ap (λ (x : Operation). x.call) e in omega (arith, c))
            | inr n ↦ elim n [ ]
          ];
      other = initial_write r;
      other_met = inl refl;
      other_write = refl;
      other_named = named i;
      second = λ v k w. elim k [ inl e ↦ inl e | inr n ↦ elim n [ ] ];
      order = inl refl;
    };
  }
    where
      named : In (initial_write r) (of_register r (operations h))
          → IsNamed h (Initial register) (initial_write r)
      named i = record {
        one = (of_register-In r (operations h) (initial_write r) i).0;
        named = ap (λ n. Initial (record { 0 = n })) (sym same);
      }

  module _ (g : Gathered) (i : EvId) (e : Event) (next : Option EvId) (so_far : IsGathering h r g (Some i))
      (at : slice_get h.events i.0 ≡ Some e) (own : by_register e ≡ Some r)
      (n : IsNextOf by_register h.events i.0 next) where
    pub gathering-skips : begins_at h.events i.0 e ≡ false → IsGathering h r g next
    gathering-skips none = record {
      on = walk-next r h.events i next so_far.on n;
      seen = so_far.seen;
      split =
          so_far.split ∙ ap (λ xs. so_far.seen
          ++ xs) (walk-goes r h.events i e next (calls-have-registers h rec) at own n
          ∙ ap (λ b. cond b (called_at h.events i.0 e ∷ calls_at h.events r next)
          (calls_at h.events r next)) none);
      front = so_far.front;
      fresh = so_far.fresh;
      front_reads = so_far.front_reads;
      fresh_reads = so_far.fresh_reads;
      entries = so_far.entries;
      count = so_far.count;
      reads = so_far.reads;
      front_fit = so_far.front_fit;
      fresh_fit = so_far.fresh_fit;
      last = so_far.last;
    }

    -- ---- a call

    module _ (o : Operation) (call : begins_at h.events i.0 e ≡ true) (named : IsNamed h (Called i) o)
        (same : o ≡ called_at h.events i.0 e) where
      abbrev met : List Operation
      met = initial_write r ∷ so_far.seen

      splits : of_register r (calls h.events) ≡ so_far.seen ++ o ∷ calls_at h.events r next
      splits =
          so_far.split
          ∙ (ap (λ xs. so_far.seen ++ xs) (walk-goes r h.events i e next (calls-have-registers h rec) at own n
          ∙ ap (λ b. cond b (called_at h.events i.0 e ∷ calls_at h.events r next)
          (calls_at h.events r next)) call)
          ∙ ap (λ x. so_far.seen ++ x ∷ calls_at h.events r next) (sym same))

      now : IsMoment (of_register r (operations h)) (initial_write r ∷ so_far.seen) o
      now =
          moment so_far.seen (calls_at h.events r next) o splits (let c = ap (λ (x : Operation). x.call) same
          ∙ called_at-call h.events i.0 e in omega (arith, c))

      further : of_register r (calls h.events) ≡ (so_far.seen ++ o ∷ []) ++ calls_at h.events r next
      further = splits ∙ sym (append_assoc so_far.seen (o ∷ []) (calls_at h.events r next))

      reads-with : (b : Bool) → is_completed_read o ≡ b
          → completed_reads (so_far.seen ++ o ∷ []) ≡ (so_far.front_reads ++ so_far.fresh_reads)
          ++ cond b (o ∷ []) []
      reads-with b q =
          filter-append is_completed_read so_far.seen (o ∷ [])
          ∙ (ap (λ c. completed_reads so_far.seen ++ cond c (o ∷ []) []) q
          ∙ ap (λ xs. xs ++ cond b (o ∷ []) []) so_far.reads)

      known-initial : In (initial_write r) (of_register r (operations h))
      known-initial = has-initial o now.there

      -- a pending read adds nothing
      keeps : is_write o ≡ false → o.completed ≡ false → IsGathering h r g next
      keeps read pending = record {
        on = walk-next r h.events i next so_far.on n;
        seen = so_far.seen ++ o ∷ [];
        split = further;
        front = so_far.front;
        fresh = so_far.fresh;
        front_reads = so_far.front_reads;
        fresh_reads = so_far.fresh_reads;
        entries = so_far.entries;
        count = so_far.count;
        reads =
            reads-with false (ap (λ b. not b && o.completed) read ∙ pending)
            ∙ append-nil (so_far.front_reads ++ so_far.fresh_reads);
        front_fit =
            zip-weaker _ _ so_far.front so_far.front_reads
            (settled-stays h (of_register r (operations h)) met o now read) so_far.front_fit;
        fresh_fit =
            zip-weaker _ _ so_far.fresh so_far.fresh_reads
            (entry-stays h (of_register r (operations h)) met o now read) so_far.fresh_fit;
        last =
            λ k. last-stays h (of_register r (operations h)) met o now read g.last g.last_reply g.before_last
            (so_far.last k);
      }

      -- a completed read adds its entry
      reads-one : is_write o ≡ false → o.completed ≡ true → IsGathering h r (read_met g i o.call o.reply) next
      reads-one read done = record {
        on = walk-next r h.events i next so_far.on n;
        seen = so_far.seen ++ o ∷ [];
        split = further;
        front = so_far.front;
        fresh = so_far.fresh ++ entry_of g i o.call o.reply ∷ [];
        front_reads = so_far.front_reads;
        fresh_reads = so_far.fresh_reads ++ o ∷ [];
        entries =
            ap (λ xs. xs ++ entry_of g i o.call o.reply ∷ []) so_far.entries
            ∙ append_assoc so_far.front so_far.fresh (entry_of g i o.call o.reply ∷ []);
        count = so_far.count;
        reads =
            reads-with true (ap (λ b. not b && o.completed) read ∙ done)
            ∙ append_assoc so_far.front_reads so_far.fresh_reads (o ∷ []);
        front_fit =
            zip-weaker _ _ so_far.front so_far.front_reads
            (settled-stays h (of_register r (operations h)) met o now read) so_far.front_fit;
        fresh_fit = zip-join _ so_far.fresh (entry_of g i o.call o.reply ∷ []) so_far.fresh_reads (o ∷ [])
            (zip-weaker _ _ so_far.fresh so_far.fresh_reads
            (entry-stays h (of_register r (operations h)) met o now read) so_far.fresh_fit) (
              read-entry h (of_register r (operations h)) met o now g i o.reply read named refl
                  (so_far.last known-initial),
              tt,
            );
        last =
            λ k. last-stays h (of_register r (operations h)) met o now read g.last g.last_reply g.before_last
            (so_far.last k);
      }

      -- a write settles the fresh reads
      writes-one : is_write o ≡ true → (reply : ℕ) → reply ≡ o.reply
          → IsGathering h r (write_met g i o.call reply) next
      writes-one write reply q = record {
        on = walk-next r h.events i next so_far.on n;
        seen = so_far.seen ++ o ∷ [];
        split = further;
        front = so_far.front ++ map (settled o.call) so_far.fresh;
        fresh = [];
        front_reads = so_far.front_reads ++ so_far.fresh_reads;
        fresh_reads = [];
        entries = together ∙ sym (append-nil (so_far.front ++ map (settled o.call) so_far.fresh));
        count = counted;
        reads = reads-with false (ap (λ b. not b && o.completed) write);
        front_fit =
            zip-join _ so_far.front (map (settled o.call) so_far.fresh) so_far.front_reads so_far.fresh_reads
            (zip-weaker _ _ so_far.front so_far.front_reads
            (settled-told h (of_register r (operations h)) met o now write) so_far.front_fit)
            (zip-map _ _ (settled o.call) so_far.fresh so_far.fresh_reads
            (entry-told h (of_register r (operations h)) met o now write) so_far.fresh_fit);
        fresh_fit = tt;
        last =
            λ k. last-moves h (of_register r (operations h)) met o now write i g.last reply g.last_reply
            g.before_last named q (so_far.last k);
      }
        where
          together : take g.settled g.entries
              ++ map (settled o.call) (drop g.settled g.entries) ≡ so_far.front
              ++ map (settled o.call) so_far.fresh
          together =
              let a =
              ap (take g.settled) so_far.entries
              ∙ take_at so_far.front so_far.fresh g.settled (sym so_far.count) in
              let b =
              ap (drop g.settled) so_far.entries
              ∙ drop_at so_far.front so_far.fresh g.settled (sym so_far.count) in
              ap (λ xs. xs ++ map (settled o.call) (drop g.settled g.entries)) a
              ∙ ap (λ xs. so_far.front ++ map (settled o.call) xs) b

          counted : length g.entries ≡ length (so_far.front ++ map (settled o.call) so_far.fresh)
          counted =
              ap length so_far.entries
              ∙ (length-append so_far.front so_far.fresh
              ∙ (ap (λ k. length so_far.front + k) (sym (length-map so_far.fresh (settled o.call)))
              ∙ sym (length-append so_far.front (map (settled o.call) so_far.fresh))))

      pub gathering-adds : (end : ℕ) → end ≡ length h.events + 2
          → IsGathering h r (call_met end g i (op_shown o)) next
      gathering-adds end final = go (writes (op_kind o)) (changes-kind o.act) o.completed refl
        where
          reply-is : (c : Bool) → o.completed ≡ c → unwrap_or (cond c (Some o.reply) None) end ≡ o.reply
          reply-is true d = refl
          reply-is false d =
              final ∙ sym (ap (λ (x : Operation). x.reply) same
              ∙ called_at-pending h.events i.0 e (sym (ap (λ (x : Operation). x.completed) same) ∙ d))

          go : (b : Bool) → is_write o ≡ b → (c : Bool) → o.completed ≡ c
              → IsGathering h r
              (cond b (write_met g i o.call (unwrap_or (cond c (Some o.reply) None) end))
              (any_read_met g i o.call (cond c (Some o.reply) None))) next
          go true w c d = writes-one w (unwrap_or (cond c (Some o.reply) None) end) (reply-is c d)
          go false w true d = reads-one w d
          go false w false d = keeps w d

  -- ---- the end

  -- what is known of an entry in the end is all there is
  entry-final : (e : ReadEntry) (q : Operation) (seen : List Operation)
      → of_register r (calls h.events) ≡ seen
      → IsEntrySoFar h (of_register r (operations h)) (initial_write r ∷ seen) e q → IsEntryOf h r e q
  entry-final e q seen all s = record {
    read = s.read;
    reply = s.reply;
    old_write = s.old_write;
    overlapped = λ single. (
      λ t. let x = (s.overlapped single).0 t in (
        x.0,
        record {
          within = inside x.0 x.1;
          write = x.2;
          overlaps = x.3;
        },
      ),
      λ x. (s.overlapped single).1 (x.0, known x.0 x.1.within, x.1.write, x.1.overlaps),
    );
  }
    where
      initial : In q (initial_write r ∷ seen) → In (initial_write r) (of_register r (operations h))
      initial (inl k) =
          subst (λ x. In x (of_register r (operations h))) k
          (In-of_register r (operations h) q s.read.one (ap (λ (x : Operation). x.register) k))
      initial (inr k) = has-initial q (In-called h r q (subst (In q) (sym all) k))

      inside : (w : Operation) → In w (initial_write r ∷ seen) → In w (of_register r (operations h))
      inside w (inl k) = subst (λ x. In x (of_register r (operations h))) (sym k) (initial s.there)
      inside w (inr k) = In-called h r w (subst (In w) (sym all) k)

      known : (w : Operation) → In w (of_register r (operations h)) → In w (initial_write r ∷ seen)
      known w i = elim (first-or-call w i) [ inl k ↦ inl k | inr k ↦ inr (subst (In w) all k) ]

  pub gathering-ends : (g : Gathered) → IsGathering h r g None
      → AllZip (IsEntryOf h r) g.entries (completed_reads (of_register r (operations h)))
  gathering-ends g s =
      let all = s.split ∙ append-nil s.seen in
      let reads = reads-called h r ∙ (ap completed_reads all ∙ s.reads) in
      let both = zip-join (IsEntryOf h r) s.front s.fresh s.front_reads s.fresh_reads
      (zip-weaker _ _ s.front s.front_reads (λ e q x. entry-final e q s.seen all x.entry) s.front_fit)
      (zip-weaker _ _ s.fresh s.fresh_reads (λ e q x. entry-final e q s.seen all x) s.fresh_fit) in
      subst (λ xs. AllZip (IsEntryOf h r) xs (completed_reads (of_register r (operations h)))) (sym s.entries)
      (subst (λ ys. AllZip (IsEntryOf h r) (s.front ++ s.fresh) ys) (sym reads) both)
