-- How many completed reads of a register have replied before a place: one more after each reply to a read.
use Rattle.std.proofs.Common.{◌≡◌, ℕ, ◌+◌, ◌-◌, ◌≤◌, ◌&&◌, ◌||◌, cond, nat_lt, Bool, true, false, not}
use Rattle.std.proofs.Common.{List, [], ◌∷◌, length, slice_get, Some, inl, inr}
use Rattle.std.proofs.Common.{refl, sym, ap, ◌∙◌, arith}
use Rattle.std.specs.List.{count_by}
use Rattle.std.proofs.lemmas.Bool.{and_parts, false≢true, not-true, lt-ltb, ltb-false, ltb-true}
use Rattle.std.proofs.lemmas.List.Sums.{sum_by-cons}
use Rattle.std.proofs.lemmas.Option.{slice_get_within}
use Rattle.history_text.specs.declared.event.OpKind.{OpKind}
use Rattle.history_text.specs.declared.event.OpKind.TheVariants.{ReadOp, WriteOp}
use Rattle.history_model.specs.Lists.{In, Before}
use Rattle.history_model.specs.History.{History, IsRecorded}
use Rattle.history_model.specs.Lamport.{is_completed_read}
use Rattle.history_model.specs.Operations.{calls, is_a_reply, is_write, op_kind}
use Rattle.history_model.specs.declared.operation.Operation.{Operation}
use Rattle.history_model.specs.Operations.{of_register, operations, writes}
use Rattle.history_model.specs.Naming.{IsEventIn, begins_at}
use Rattle.history_model.specs.Walking.{by_register}
use Rattle.history_model.specs.declared.event.Event.{Event}
use Rattle.history_model.specs.declared.event.What.{What}
use Rattle.history_model.specs.declared.event.What.TheVariants.{Call, Reply, Fail, Crash}
use Rattle.history_model.proofs.Belonging.{called-one}
use Rattle.history_model.proofs.Named.{event-has-one, event-has-operation, operation-has-reply}
use Rattle.history_model.proofs.Recorded.{of_register-In, In-of_register}
use Rattle.history_model.proofs.Plain.{changes-kind}
use Rattle.reg_lamport.specs.Counts.{is_reply_to_read}
use Rattle.reg_lamport.proofs.Calls.{In-called, called-In, calls-ascend}

-- ---- counts by two tests

count-cons : {X : Type 0} (p : X → Bool) (x : X) (xs : List X)
    → count_by p (x ∷ xs) ≡ cond (p x) 1 0 + count_by p xs
count-cons p x xs = sum_by-cons (λ y. cond (p y) 1 0) x xs

pub none-count : {X : Type 0} (p : X → Bool) (xs : List X) → ((x : X) → In x xs → p x ≡ false)
    → count_by p xs ≡ 0
none-count p [] never = refl
none-count p (x ∷ xs) never =
    let one = ap (λ b. cond {A = ℕ} b 1 0) (never x (inl refl)) in
    let rest = none-count p xs (λ y i. never y (inr i)) in
    omega (arith, count-cons p x xs, one, rest)

pub same-count : {X : Type 0} (p q : X → Bool) (xs : List X) → ((x : X) → In x xs → p x ≡ q x)
    → count_by p xs ≡ count_by q xs
same-count p q [] same = refl
same-count p q (x ∷ xs) same =
    let one = ap (λ b. cond {A = ℕ} b 1 0) (same x (inl refl)) in
    let rest = same-count p q xs (λ y i. same y (inr i)) in
    omega (arith, count-cons p x xs, count-cons q x xs, one, rest)

-- they differ at one element, which stands there once
pub one-count : {X : Type 0} (p q : X → Bool) (z : X) (xs : List X) → In z xs → p z ≡ false → q z ≡ true
    → ((x : X) → In x xs → (x ≡ z → ⊥) → p x ≡ q x) → ((x y : X) → Before x y xs → x ≡ y → ⊥)
    → count_by q xs ≡ count_by p xs + 1
one-count p q z [] i never there same once = elim i [ ]
one-count p q z (x ∷ xs) (inl e) never there same once =
    let a = ap (λ b. cond {A = ℕ} b 1 0) (ap p (sym e) ∙ never) in
    let b = ap (λ b. cond {A = ℕ} b 1 0) (ap q (sym e) ∙ there) in
    let rest =
    same-count p q xs (λ y i. same y (inr i) (λ u. once x y (inl (refl, i)) (sym e ∙ sym u))) in
    omega (arith, count-cons p x xs, count-cons q x xs, a, b, rest)
one-count p q z (x ∷ xs) (inr i) never there same once =
    let one =
    ap (λ b. cond {A = ℕ} b 1 0) (same x (inl refl) (λ u. once x z (inl (refl, i)) u)) in
    let rest =
    one-count p q z xs i never there (λ y j. same y (inr j)) (λ a b k. once a b (inr k)) in
    omega (arith, count-cons p x xs, count-cons q x xs, one, rest)

-- ---- the replies

-- a completed read whose reply stands before place n
abbrev pub answered : ℕ → Operation → Bool
answered n o = is_completed_read o && nat_lt o.reply (n + 2)

step : (b : Bool) (reply n : ℕ) → (b ≡ true → reply ≡ n + 2 → ⊥)
    → (b && nat_lt reply (n + 2)) ≡ (b && nat_lt reply (n + 1 + 2))
step false reply n not_now = refl
step true reply n not_now = go (nat_lt reply (n + 2)) (nat_lt reply (n + 1 + 2)) refl refl
  where
    go : (x y : Bool) → nat_lt reply (n + 2) ≡ x → nat_lt reply (n + 1 + 2) ≡ y → x ≡ y
    go true true p q = refl
    go false false p q = refl
    go true false p q =
        let a = ltb-true reply (n + 2) p in
        let b = ltb-false reply (n + 1 + 2) q in
        absurd (omega (arith, a, b))
    go false true p q =
        let a = ltb-false reply (n + 2) p in
        let b = ltb-true reply (n + 1 + 2) q in
        absurd (not_now refl (omega (arith, a, b)))

read-kind : (k : OpKind) → writes k ≡ false → k ≡ ReadOp
read-kind ReadOp h = refl
read-kind WriteOp h = absurd (false≢true (sym h))

-- what a reply to a read is
reply-parts : (w : What) → is_reply_to_read w ≡ true → w ≡ Reply ReadOp
reply-parts (Call k) h = absurd (false≢true h)
reply-parts (Reply ReadOp) h = refl
reply-parts (Reply WriteOp) h = absurd (false≢true h)
reply-parts (Fail k) h = absurd (false≢true h)
reply-parts Crash h = absurd (false≢true h)

no-call : (k : OpKind) (w : What) → w ≡ Reply ReadOp → w ≡ Call k → ⊥
no-call k w a b = let e : Reply ReadOp ≡ Call k = sym a ∙ b in cc e

same-kind : (k : OpKind) → Reply ReadOp ≡ Reply k → k ≡ ReadOp
same-kind k e = let f : ReadOp ≡ k = cc e in sym f

module _ (h : History) (rec : IsRecorded h) (r : ℕ) where
  -- a completed read among the calls has its reply among the events
  has-answer : (o : Operation) → In o (of_register r (calls h.events)) → is_completed_read o ≡ true
      → (e : Event) × IsEventIn h (o.reply - 2) e o × (e.what ≡ Reply ReadOp) × (2 ≤ o.reply)
  has-answer o i read =
      let x = called-one h.events o (of_register-In r (calls h.events) o i).0 in
      let parts = and_parts (not (is_write o)) o.completed read in
      let y =
      operation-has-reply h rec o x.1.process (of_register-In r (operations h) o (In-called h r o i)).0
      x.2.process parts.1 in
      let kind = read-kind (op_kind o) (sym (changes-kind o.act) ∙ not-true (is_write o) parts.0) in
      let what : y.0.what ≡ Reply ReadOp = y.2 ∙ ap Reply kind in
      let late = (y.1.reply y.2).1 in
      (y.0, y.1, what, omega (arith, late))

  -- before the first event none has replied
  pub none-answered : count_by (answered 0) (of_register r (calls h.events)) ≡ 0
  none-answered =
      none-count (answered 0) (of_register r (calls h.events)) (λ o i. go o i (is_completed_read o) refl)
    where
      go : (o : Operation) → In o (of_register r (calls h.events)) → (b : Bool) → is_completed_read o ≡ b
          → (b && nat_lt o.reply 2) ≡ false
      go o i false q = refl
      go o i true q = less (nat_lt o.reply 2) refl
        where
          less : (c : Bool) → nat_lt o.reply 2 ≡ c → c ≡ false
          less false p = refl
          less true p =
              let a = ltb-true o.reply 2 p in let b = (has-answer o i q).3 in absurd (omega (arith, a, b))

  -- past the last event all have
  pub all-answered : (n : ℕ) → length h.events ≤ n
      → count_by (answered n) (of_register r (calls h.events))
      ≡ count_by is_completed_read (of_register r (calls h.events))
  all-answered n l =
      same-count (answered n) is_completed_read (of_register r (calls h.events))
      (λ o i. go o i (is_completed_read o) refl)
    where
      go : (o : Operation) → In o (of_register r (calls h.events)) → (b : Bool) → is_completed_read o ≡ b
          → (b && nat_lt o.reply (n + 2)) ≡ b
      go o i false q = refl
      go o i true q =
          let x = has-answer o i q in
          let w = slice_get_within h.events (o.reply - 2) x.0 x.1.at in
          lt-ltb o.reply (n + 2) (omega (arith, w, l, x.3))

  module _ (n : ℕ) (e : Event) (at : slice_get h.events n ≡ Some e) where
    -- an event that is no reply to a read of the register
    pub answers-none : (is_reply_to_read e.what ≡ true → by_register e ≡ Some r → ⊥)
        → count_by (answered n) (of_register r (calls h.events))
        ≡ count_by (answered (n + 1)) (of_register r (calls h.events))
    answers-none other =
        same-count (answered n) (answered (n + 1)) (of_register r (calls h.events))
        (λ o i. step (is_completed_read o) o.reply n (not_now o i))
      where
        not_now : (o : Operation) → In o (of_register r (calls h.events)) → is_completed_read o ≡ true
            → o.reply ≡ n + 2 → ⊥
        not_now o i read q =
            let x = has-answer o i read in
            let place : o.reply - 2 ≡ n = omega (arith, q) in
            let same : x.0 ≡ e = let a = x.1.at in let b = ap (slice_get h.events) place in cc (a, b, at) in
            let own = (of_register-In r (calls h.events) o i).1 in
            other (ap (λ (y : Event). is_reply_to_read y.what) (sym same) ∙ ap is_reply_to_read x.2)
            (ap by_register (sym same) ∙ (x.1.register ∙ ap Some own))

    -- a reply to a read of the register
    pub answers-one : is_reply_to_read e.what ≡ true → by_register e ≡ Some r
        → count_by (answered (n + 1)) (of_register r (calls h.events))
        ≡ count_by (answered n) (of_register r (calls h.events)) + 1
    answers-one is own =
        one-count (answered n) (answered (n + 1)) o (of_register r (calls h.events)) inside now.0 now.1
        (λ x i ne. step (is_completed_read x) x.reply n (λ read q. ne (event-has-one h rec n x o
        (of_register-In r (operations h) x (In-called h r x i)).0 found.1.one
        (inr ((and_parts (not (is_write x)) x.completed read).1, q)) (inr (facts.0, facts.1)))))
        (λ a b before same. let c = calls-ascend h.events r a b before in
        let d = ap (λ (x : Operation). x.call) same in omega (arith, c, d))
      where
        what : e.what ≡ Reply ReadOp
        what = reply-parts e.what is

        found : (o : Operation) × IsEventIn h n e o
        found =
            event-has-operation h rec n e at
            (ap (λ (w : What). is_a_reply w || begins_at h.events n e) what)

        o : Operation
        o = found.0

        replies : e.what ≡ Reply (op_kind found.0)
        replies = elim found.1.is [ inl c ↦ absurd (no-call (op_kind found.0) e.what what c) | inr c ↦ c ]

        facts : (found.0.completed ≡ true) × (found.0.reply ≡ n + 2)
        facts = let x = found.1.reply replies in (x.0, x.1)

        kind : op_kind found.0 ≡ ReadOp
        kind = same-kind (op_kind found.0) (sym what ∙ replies)

        inside : In found.0 (of_register r (calls h.events))
        inside =
            let register : found.0.register ≡ r = let a = found.1.register in cc (a, own) in
            called-In h r found.0 e.process
            (In-of_register r (operations h) found.0 found.1.one register) found.1.process

        read : is_completed_read found.0 ≡ true
        read =
            ap (λ w. not w && found.0.completed) (changes-kind (found.0).act)
            ∙ (ap (λ k. not (writes k) && found.0.completed) kind ∙ facts.0)

        late : (c : Bool) → nat_lt found.0.reply (n + 2) ≡ c → c ≡ false
        late false p = refl
        late true p = let a = ltb-true found.0.reply (n + 2) p in absurd (omega (arith, a, facts.1))

        now : (answered n found.0 ≡ false) × (answered (n + 1) found.0 ≡ true)
        now = (
          ap (λ b. b && nat_lt found.0.reply (n + 2)) read ∙ late (nat_lt found.0.reply (n + 2)) refl,
          ap (λ b. b && nat_lt found.0.reply (n + 1 + 2)) read
              ∙ lt-ltb found.0.reply (n + 1 + 2) (omega (arith, facts.1)),
        )
