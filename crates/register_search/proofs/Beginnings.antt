-- Why a no names a reply: nothing explains the moments up to it, so what is known at it has no legal order.
use Rattle.std.proofs.Common.{◌≡◌, ℕ, suc, ◌<◌, ◌≤◌, cond, List, [], ◌∷◌, take, slice_get}
use Rattle.std.proofs.Common.{Result, Ok, Err, IfOk, IfSome, Vec, Global, ◌-◌, Option}
use Rattle.std.proofs.Common.{Some, None, inl, inr, refl, sym, ap, subst, ◌∙◌, arith}
use Rattle.std.proofs.lemmas.Bool.{false≢true, cases_order, le-leb}
use Rattle.history_text.specs.declared.event.Val.{Val}
use Rattle.history_text.specs.declared.event.Val.TheVariants.{Null}
use Rattle.history_model.specs.Lists.{In}
use Rattle.history_model.proofs.Lists.{slice_get-In}
use Rattle.history_model.specs.declared.operation.Operation.{Operation}
use Rattle.history_model.specs.Cut.{known_at, cut_at}
use Rattle.history_model.specs.Legal.{IsAtomic}
use Rattle.history_model.specs.Operations.{initial_write}
use Rattle.history_model.proofs.Cut.{cut-atomic}
use Rattle.configurations.specs.declared.moment.Moment.{Moment}
use Rattle.configurations.specs.declared.moment.Moment.TheVariants.{Reply}
use Rattle.configurations.specs.declared.op.Op.{Op}
use Rattle.configurations.specs.Runs.{AliveFree, AreInOrder}
use Rattle.register_search.specs.Runs.{Alive}
use Rattle.register_search.specs.ByNumbers.{AreByNumbers}
use Rattle.register_search.specs.Taking.{option_suits, option_left_by, left_at}
use Rattle.register_search.specs.Timeline.{AreCalls, IsTimeline, time_by}
use Rattle.register_search.specs.Checked.{IsCheckedOrder}
use Rattle.register_search.specs.declared.forward.Found.{Found}
use Rattle.register_search.specs.Verdicts.{RepliesAt, IsRefuted, IsBefore, IsFound}
use Rattle.register_search.proofs.LegalOrder.{MeetsAt, IsNumbered}
use Rattle.register_search.proofs.Explained.{legal_explained}
use Rattle.register_search.proofs.Linked.{numbered, place-of, reply-of, reply-time}
use Rattle.register_search.proofs.ByNumbers.{explained}
use Rattle.register_search.proofs.Replies.{reply_of-completed}
use Rattle.register_search.proofs.InOrder.{timeline-in-order}
use Rattle.register_search.proofs.Known.{one-known, from-known, known-calls, known-timeline}

-- by the known operations, and so by all
meets-all : (t : ℕ) (ops : List Operation)
    → ((j k : ℕ) (a b : Operation) → j < k → slice_get ops j ≡ Some a → slice_get ops k ≡ Some b
    → a.call < b.call) → (v : Val) (ks : List ℕ) → MeetsAt (cut_at t ops) v ks → MeetsAt ops v ks
meets-all t ops up v [] m = tt
meets-all t ops up v (k ∷ ks) m =
    go (slice_get (cut_at t ops) k) refl (λ left.
    meets-all t ops up (left_at ops k v) ks (subst (λ w. MeetsAt (cut_at t ops) w ks) left m.1))
  where
    go : (o : Option Operation) → slice_get (cut_at t ops) k ≡ o
        → (left_at (cut_at t ops) k v ≡ left_at ops k v → MeetsAt ops (left_at ops k v) ks)
        → MeetsAt ops v (k ∷ ks)
    go None e more = absurd (false≢true (sym (ap (λ o. option_suits o v) e) ∙ m.0))
    go (Some a) e more =
        let b = from-known t ops up k a e in
        let known : slice_get (cut_at t ops) k ≡ Some (known_at t b.0) = e ∙ ap Some b.2 in (
          ap (λ o. option_suits o v) b.1 ∙ (sym (ap (λ o. option_suits o v) known) ∙ m.0),
          more (ap (λ o. option_left_by o v) known ∙ sym (ap (λ o. option_left_by o v) b.1)),
        )

module _ (r : ℕ) (ops : List Operation) (events : List Moment) (line : IsTimeline r ops events) where
  -- an order of what is known explains the moments up to then
  known-explained : (i t : ℕ) (last : Moment) → slice_get events i ≡ Some last → time_by ops last ≡ Some t
      → IsAtomic (initial_write r ∷ cut_at t ops) → Alive ops Null [] (take (suc i) events)
  known-explained i t last at is a =
      let n =
      numbered r (cut_at t ops) (take (suc i) events)
      (known-timeline r ops events line i t last at is) a in
      let m = n.1 in
      let all : IsNumbered ops (take (suc i) events) n.0 = record {
        calls = m.calls;
        replies = m.replies;
        once = m.once;
        only = m.only;
        all = m.all;
        keeps = m.keeps;
        meets = meets-all t ops line.calls.ascending Null n.0 m.meets;
      } in
      legal_explained ops (take (suc i) events) n.0 all

  -- the initial write is known from the first call on
  initial-known : (t : ℕ) → 1 ≤ t → cut_at t (initial_write r ∷ ops) ≡ initial_write r ∷ cut_at t ops
  initial-known t l =
      one-known t (initial_write r) ops (le-leb 0 t (omega arith))
      ∙ ap (λ b. record {
        line = 0;
        call = 0;
        reply = cond b 1 (suc t);
        completed = b;
        process = None;
        register = r;
        act = (initial_write r).act;
      } ∷ cut_at t ops) (le-leb 1 t l)

  life : (a : Operation) → In a (initial_write r ∷ ops) → a.call < a.reply
  life a (inl e) = omega (arith, ap (λ (o : Operation). o.call) e, ap (λ (o : Operation). o.reply) e)
  life a (inr i) = line.life a i

  one-call : (a b : Operation) → In a (initial_write r ∷ ops) → In b (initial_write r ∷ ops)
      → a.call ≡ b.call → a ≡ b
  one-call a b (inl e) (inl f) s = e ∙ sym f
  one-call a b (inl e) (inr j) s =
      let c = line.calls.called b j in absurd (omega (arith, c, ap (λ (o : Operation). o.call) e))
  one-call a b (inr i) (inl f) s =
      let c = line.calls.called a i in absurd (omega (arith, c, ap (λ (o : Operation). o.call) f))
  one-call a b (inr i) (inr j) s =
      let x = place-of ops a i in
      let y = place-of ops b j in
      elim (cases_order x.0 y.0) [
        | inl e ↦ let z = x.1 in let w = y.1 in cc (e, z, w)
        | inr d ↦ elim d [
          | inl l ↦ absurd (let lt = line.calls.ascending x.0 y.0 a b l x.1 y.1 in omega arith)
          | inr g ↦ absurd (let lt = line.calls.ascending y.0 x.0 b a g y.1 x.1 in omega arith)
        ]
      ]

  pub refuted-at : (i k : ℕ) → slice_get events i ≡ Some (Reply k)
      → (Alive ops Null [] (take (suc i) events) → ⊥) → IsRefuted r ops k
  refuted-at i k at none =
      let x = reply-of r ops events line k (slice_get-In events i (Reply k) at) in
      let t = x.1 in
      let a = x.0 in
      let lt = line.life a (slice_get-In ops k a x.2) in
      let same = (reply_of-completed a t x.3).1 in
      let is = reply-time r ops events line k a t x.2 x.3 in
      let known = initial-known t (omega arith) in
      let beginning : IsAtomic (cut_at t (initial_write r ∷ ops)) → ⊥ =
      λ atomic. none (known-explained i t (Reply k) at is (subst IsAtomic known atomic)) in
      record {
        time = t;
        replies = (a, x.2, x.3);
        beginning = beginning;
        whole = λ atomic. beginning (cut-atomic t (initial_write r ∷ ops) life one-call atomic);
      }

-- what can't be explained by numbers can't be explained
unexplained : (r : ℕ) (ops : List Operation) (events : List Moment) (numbered : List Op)
    → AreByNumbers ops numbered → (i : ℕ)
    → (AreInOrder numbered [] events → AliveFree numbered 0 [] [] (take (suc i) events) → ⊥)
    → IsTimeline r ops events → Alive ops Null [] (take (suc i) events) → ⊥
unexplained r ops events numbered by i none line a =
    let ordered = timeline-in-order r by.number ops numbered events by.each line in
    none ordered (explained by.number by.numbering ops numbered by.each
    (take (suc i) events) Null 0 [] by.numbering.null a)

-- and so the reply that a search names is right
pub found-hopeless : {E : Type 0} (ops : List Operation) (events : List Moment) (numbered : List Op) (i : ℕ)
    (result : Result Found E)
    → AreByNumbers ops numbered
    → (AreInOrder numbered [] events → AliveFree numbered 0 [] [] (take (suc i) events) → ⊥)
    → IfOk result (λ found. (r : ℕ) → IsTimeline r ops events → (Alive ops Null [] (take (suc i) events) → ⊥)
    → IsFound r ops found)
    → IfOk result (λ found. (r : ℕ) → IsTimeline r ops events → IsFound r ops found)
found-hopeless ops events numbered i (Ok found) by none h =
    λ r line. h r line (unexplained r ops events numbered by i none line)
found-hopeless ops events numbered i (Err e) by none h = h

-- ---- the order before it

pub checked-before : (ops known : List Operation) (k time : ℕ) (order : List ℕ) (o : Option (Vec ℕ Global))
    (ps : Vec ℕ Global) → RepliesAt ops k time → known ≡ cut_at (time - 1) ops → o ≡ Some ps
    → IfSome o (λ points. (r : ℕ) → AreCalls r known → IsCheckedOrder r known order points.items) → (r : ℕ)
    → AreCalls r ops → IsBefore r ops k order
checked-before ops known k time order o ps replies is some legal r c =
    let checked : (r : ℕ) → AreCalls r known → IsCheckedOrder r known order ps.items =
    subst (λ x. IfSome x (λ points. (r : ℕ) → AreCalls r known
    → IsCheckedOrder r known order points.items)) some legal in
    record {
      time = time;
      replies = replies;
      points = ps.items;
      legal =
          subst (λ x. IsCheckedOrder r x order ps.items) is
          (checked r (subst (AreCalls r) (sym is) (known-calls (time - 1) r ops c)));
    }
