-- What a pass over low ends keeps, and what it finds.
use Rattle.std.proofs.Common.{◌≡◌, ℕ, ◌+◌, ◌<◌, List, inl, inr, sym, subst, ◌∙◌, arith}
use Rattle.std.proofs.lemmas.Bool.{cases_lt, cases_Bool}
use Rattle.history_model.specs.Operations.{IsCompleted, IsHistory, value_of}
use Rattle.history_model.specs.declared.operation.Operation.{Operation}
use Rattle.reg_zones.specs.Clusters.{low_end, IsKept, IsForward, IsConflict, IsLastForward}
use Rattle.reg_zones.specs.Clusters.{IsClearBelow, IsFirstConflict, HasFirstReply, HasLastCall}
use Rattle.reg_zones.proofs.Ends.{kept-member, first_reply-le}
use Rattle.reg_zones.proofs.LowEnds.{same_low}
use Rattle.reg_zones.proofs.Forward.{last_forward}

-- no zone with the low end n conflicts with the last forward one below n
pub clear_more : (ops : List Operation) (n : ℕ) → IsClearBelow ops n
    → ((v w : Operation) → IsLastForward ops v n → IsKept ops w → low_end ops (value_of w) ≡ n
    → IsConflict ops v w
    → ⊥) → IsClearBelow ops (n + 1)
clear_more ops n clear here v w c lt b = elim (cases_lt (low_end ops (value_of w)) n) [
  | inl p ↦ clear v w c lt p
  | inr p ↦
      let e : low_end ops (value_of w) ≡ n = omega arith in
      let k =
      subst (IsLastForward ops v) e
      (last_forward ops v w c lt (subst (IsClearBelow ops) (sym e) clear)) in
      here v w k c.right e c
]

-- the first that conflicts
pub first_found : (ops : List Operation) (v w : Operation) (n : ℕ) → IsClearBelow ops n → IsConflict ops v w
    → low_end ops (value_of v) < low_end ops (value_of w) → low_end ops (value_of w) ≡ n
    → IsFirstConflict ops v w
first_found ops v w n clear c lt e = record {
  conflict = c;
  order = lt;
  first = subst (IsClearBelow ops) (sym e) clear;
}

-- the operation that replies first in a kept write's cluster is completed
pub first_completed : (ops : List Operation) (v a : Operation) → IsHistory ops → IsKept ops v
    → HasFirstReply ops (value_of v) a → IsCompleted a
first_completed ops v a y k f = elim (cases_Bool a.completed) [
  | inl d ↦ d
  | inr n ↦ absurd (elim k.kept [
    | inl d ↦
        let le = first_reply-le ops (value_of v) v (kept-member ops v k) in
        omega (arith, y.horizon a v f.member.within k.within n d, f.least)
    | inr r ↦
        let le = first_reply-le ops (value_of v) r.0 (record {
          within = r.1;
          value = r.2.value;
          counts = inr r.2.completed;
        }) in
        omega (arith, y.horizon a r.0 f.member.within r.1 n r.2.completed, f.least)
  ])
]

pub one_first_reply : (ops : List Operation) (v a b : Operation) → IsHistory ops → IsKept ops v
    → HasFirstReply ops (value_of v) a → HasFirstReply ops (value_of v) b → a ≡ b
one_first_reply ops v a b y k f g =
    y.replies a b f.member.within g.member.within (first_completed ops v a y k f)
    (first_completed ops v b y k g) (f.least ∙ sym g.least)

pub one_last_call : (ops : List Operation) (v a b : Operation) → IsHistory ops
    → HasLastCall ops (value_of v) a
    → HasLastCall ops (value_of v) b → a ≡ b
one_last_call ops v a b y f g = y.calls a b f.member.within g.member.within (f.greatest ∙ sym g.greatest)

-- what follows is of a pass that meets at n the kept write w, or no zone
module _ (ops : List Operation) (y : IsHistory ops) where
  pub last_here : (w : Operation) (n : ℕ) → IsKept ops w → low_end ops (value_of w) ≡ n
      → IsForward ops (value_of w)
      → IsLastForward ops w (n + 1)
  last_here w n k e f = record {
    kept = k;
    forward = f;
    below = omega (arith, e);
    last = λ u _ _ b. omega (arith, e, b);
  }

  -- nothing forward at n
  abbrev pub Backward : ℕ → Type 0
  Backward n = (u : Operation) → IsKept ops u → low_end ops (value_of u) ≡ n → IsForward ops (value_of u) → ⊥

  pub last_stays : (v : Operation) (n : ℕ) → IsLastForward ops v n → Backward n → IsLastForward ops v (n + 1)
  last_stays v n l none = record {
    kept = l.kept;
    forward = l.forward;
    below = let b = l.below in omega arith;
    last =
        λ u k f b. elim (cases_lt (low_end ops (value_of u)) n) [
          | inl p ↦ l.last u k f p
          | inr p ↦ absurd (none u k (omega arith) f)
        ];
  }

  pub none_stays : (n : ℕ) → ((u : Operation) → IsKept ops u → IsForward ops (value_of u)
      → low_end ops (value_of u) < n
      → ⊥) → Backward n → (u : Operation) → IsKept ops u → IsForward ops (value_of u)
      → low_end ops (value_of u) < n + 1 → ⊥
  none_stays n l none u k f b =
      elim (cases_lt (low_end ops (value_of u)) n) [ inl p ↦ l u k f p | inr p ↦ none u k (omega arith) f ]

  pub backward_from : (w : Operation) (n : ℕ) → IsKept ops w → low_end ops (value_of w) ≡ n
      → (IsForward ops (value_of w) → ⊥) → Backward n
  backward_from w n k e no_f u a q f =
      no_f (subst (λ (x : Operation). IsForward ops (value_of x)) (same_low ops y u w a k (q ∙ sym e)) f)

  pub last_one : (v u : Operation) (n : ℕ) → IsLastForward ops v n → IsLastForward ops u n → v ≡ u
  last_one v u n a b =
      let p = a.last u b.kept b.forward b.below in
      let q = b.last v a.kept a.forward a.below in
      same_low ops y v u a.kept b.kept (omega (arith, p, q))
