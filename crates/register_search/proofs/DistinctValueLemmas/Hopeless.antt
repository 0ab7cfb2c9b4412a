-- Operations have no order if some of them have none: the writes of some values,
-- null among them, with some of their reads.
use Rattle.std.proofs.Common.{◌≡◌, ℕ, Bool, List, ◌∷◌, Some, inl, inr, sym, ap, subst, ◌∙◌}
use Rattle.std.specs.List.{filter}
use Rattle.history_text.specs.declared.event.Val.{Val}
use Rattle.history_model.proofs.Lists.{map-In, filter-In}
use Rattle.history_model.specs.declared.operation.Operation.{Operation}
use Rattle.history_model.specs.Cut.{known_at, is_called_by, cut_at}
use Rattle.history_model.specs.Legal.{IsAtomic}
use Rattle.history_model.specs.Operations.{initial_write, reply_of}
use Rattle.register_search.specs.Verdicts.{IsRefuted, RepliesAt}
use Rattle.register_search.specs.DistinctValues.Hopeless.{IsHopelessAt}
use Rattle.history_model.specs.Acts.{is_plain}
use Rattle.register_search.specs.DistinctValues.SomeOperations.{ArePlain, null_or, kept_of}
use Rattle.register_search.proofs.DistinctValueLemmas.SomeOperations.{kept-atomic, known-kept}

initial-plain : (r : ℕ) (ops : List Operation) → ArePlain ops → ArePlain (initial_write r ∷ ops)
initial-plain r ops plain a (inl e) = ap (λ (o : Operation). is_plain o.act) e
initial-plain r ops plain a (inr i) = plain a i

known-plain : (t : ℕ) (ops : List Operation) → ArePlain ops → ArePlain (cut_at t ops)
known-plain t ops plain a i =
    let k = map-In (known_at t) a (filter (is_called_by t) ops) i in
    ap (λ (o : Operation). is_plain o.act) k.2 ∙ plain k.0 (filter-In (is_called_by t) k.0 ops k.1).0

-- The initial write gives null, so it is among the operations of null and two values.
pub all-hopeless : (one other : Val) (times : ℕ → Bool) (r t : ℕ) (ops : List Operation) → ArePlain ops
    → IsHopelessAt r (kept_of (null_or one other) times ops) t → IsHopelessAt r ops t
all-hopeless one other times r t ops plain h =
    let all = initial_write r ∷ ops in
    let values = null_or one other in
    let are = initial-plain r ops plain in
    record {
      beginning =
          λ a. h.beginning
          (subst IsAtomic (sym (known-kept values times all t))
          (kept-atomic values times (cut_at t all) (known-plain t all are) a));
      whole = λ a. h.whole (kept-atomic values times all are a);
    }

-- a refutation, by the time of its reply
pub refuted-hopeless : (r k t : ℕ) (ops : List Operation) → RepliesAt ops k t → IsRefuted r ops k
    → IsHopelessAt r ops t
refuted-hopeless r k t ops y h =
    let x = h.replies in
    let one : Some x.0 ≡ Some y.0 = sym x.1 ∙ y.1 in
    let same : x.0 ≡ y.0 = cc (one) in
    let times : Some h.time ≡ Some t = sym x.2 ∙ (ap reply_of same ∙ y.2) in
    let e : h.time ≡ t = cc (times) in
    record {
      beginning = subst (λ n. IsAtomic (cut_at n (initial_write r ∷ ops)) → ⊥) e h.beginning;
      whole = h.whole;
    }

pub hopeless-refuted : (r k t : ℕ) (ops : List Operation) → RepliesAt ops k t → IsHopelessAt r ops t
    → IsRefuted r ops k
hopeless-refuted r k t ops y h = record { time = t; replies = y; beginning = h.beginning; whole = h.whole }
