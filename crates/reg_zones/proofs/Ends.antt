-- The ends of a zone: bounds that some member reaches.
use Rattle.std.proofs.Common.{◌≡◌, ℕ, ◌≤◌, Option, ◌||◌, min, max, List, [], ◌∷◌}
use Rattle.std.proofs.Common.{◌⊎◌, inl, inr, refl, sym, subst, ◌∙◌, arith}
use Rattle.std.proofs.lemmas.Bool.{cases_Bool, cases_lt, and_parts, and_from}
use Rattle.std.proofs.lemmas.Bool.{false≢true, or_cases, or_left, or_right}
use Rattle.history_text.specs.Values.{same_value}
use Rattle.history_text.specs.declared.event.Val.{Val}
use Rattle.history_model.specs.Lists.{In}
use Rattle.history_model.specs.Operations.{IsHistory, IsReadOf, is_write, value_of}
use Rattle.history_model.specs.declared.operation.Operation.{Operation}
use Rattle.history_model.proofs.Lists.{In-map, map-In, In-filter, filter-In}
use Rattle.reg_zones.proofs.Values.{same-true, eq-same}
use Rattle.reg_zones.specs.Clusters.{least, least_from, greatest, IsKept, IsInCluster}
use Rattle.reg_zones.specs.Clusters.{is_member, cluster, first_reply, last_call}

least_from-le : (n : ℕ) (ms : List ℕ) (x : ℕ) → In x (n ∷ ms) → least_from n ms ≤ x
least_from-le n [] x (inl e) = omega arith
least_from-le n [] x (inr h) = elim h [ ]
least_from-le n (m ∷ ms) x (inl e) = omega arith
least_from-le n (m ∷ ms) x (inr h) = omega (arith, least_from-le m ms x h)

least_from-in : (n : ℕ) (ms : List ℕ) → In (least_from n ms) (n ∷ ms)
least_from-in n [] = inl refl
least_from-in n (m ∷ ms) = elim (cases_lt (least_from m ms) n) [
  | inl h ↦ let e : min n (least_from m ms) ≡ least_from m ms = omega arith in
      inr (subst (λ k. In k (m ∷ ms)) (sym e) (least_from-in m ms))
  | inr h ↦ inl (omega arith)
]

pub least-le : (ns : List ℕ) (x : ℕ) → In x ns → least ns ≤ x
least-le [] x h = absurd h
least-le (n ∷ ns) x h = least_from-le n ns x h

pub least-in : (ns : List ℕ) (x : ℕ) → In x ns → In (least ns) ns
least-in [] x h = absurd h
least-in (n ∷ ns) x h = least_from-in n ns

pub greatest-le : (ns : List ℕ) (x : ℕ) → In x ns → x ≤ greatest ns
greatest-le [] x h = absurd h
greatest-le (n ∷ ns) x (inl e) = omega arith
greatest-le (n ∷ ns) x (inr h) = omega (arith, greatest-le ns x h)

pub greatest-in : (ns : List ℕ) (x : ℕ) → In x ns → In (greatest ns) ns
greatest-in [] x h = absurd h
greatest-in (n ∷ []) x h = inl (omega arith)
greatest-in (n ∷ m ∷ ns) x h = elim (cases_lt n (greatest (m ∷ ns))) [
  | inl l ↦ let e : max n (greatest (m ∷ ns)) ≡ greatest (m ∷ ns) = omega arith in
      inr (subst (λ k. In k (m ∷ ns)) (sym e) (greatest-in (m ∷ ns) m (inl refl)))
  | inr l ↦ inl (omega arith)
]

pub IsInCluster-in : (ops : List Operation) (v : Option Val) (a : Operation) → IsInCluster ops v a
    → In a (cluster ops v)
IsInCluster-in ops v a m =
    In-filter (is_member v) a ops m.within
    (and_from _ _ (eq-same (value_of a) v m.value) (elim m.counts [
      | inl w ↦ or_left (is_write a) a.completed w
      | inr d ↦ or_right (is_write a) a.completed d
    ]))

pub IsInCluster-from : (ops : List Operation) (v : Option Val) (a : Operation) → In a (cluster ops v)
    → IsInCluster ops v a
IsInCluster-from ops v a i =
    let r = filter-In (is_member v) a ops i in
    let p = and_parts (same_value (value_of a) v) (is_write a || a.completed) r.1 in
    record {
      within = r.0;
      value = same-true (value_of a) v p.0;
      counts = or_cases (is_write a) a.completed p.1;
    }

module _ (ops : List Operation) (v : Option Val) (a : Operation) (m : IsInCluster ops v a) where
  pub first_reply-le : first_reply ops v ≤ a.reply
  first_reply-le = least-le _ _ (In-map (λ a. a.reply) a (cluster ops v) (IsInCluster-in ops v a m))

  pub first_reply-at : (b : Operation) × IsInCluster ops v b × (b.reply ≡ first_reply ops v)
  first_reply-at =
      let i = In-map (λ (a : Operation). a.reply) a (cluster ops v) (IsInCluster-in ops v a m) in
      let r = map-In (λ (a : Operation). a.reply) _ (cluster ops v) (least-in _ _ i) in
      (r.0, IsInCluster-from ops v r.0 r.1, sym r.2)

  pub last_call-le : a.call ≤ last_call ops v
  last_call-le = greatest-le _ _ (In-map (λ a. a.call) a (cluster ops v) (IsInCluster-in ops v a m))

  pub last_call-at : (b : Operation) × IsInCluster ops v b × (b.call ≡ last_call ops v)
  last_call-at =
      let i = In-map (λ (a : Operation). a.call) a (cluster ops v) (IsInCluster-in ops v a m) in
      let r = map-In (λ (a : Operation). a.call) _ (cluster ops v) (greatest-in _ _ i) in
      (r.0, IsInCluster-from ops v r.0 r.1, sym r.2)

-- a bound that some member reaches
pub first_reply-is : (ops : List Operation) (v : Option Val) (a : Operation) → IsInCluster ops v a
    → ((b : Operation) → IsInCluster ops v b → a.reply ≤ b.reply) → first_reply ops v ≡ a.reply
first_reply-is ops v a m below =
    let r = first_reply-at ops v a m in
    let up = below r.0 r.1 in
    let down = first_reply-le ops v a m in
    omega (arith, up, down, r.2)

pub last_call-is : (ops : List Operation) (v : Option Val) (a : Operation) → IsInCluster ops v a
    → ((b : Operation) → IsInCluster ops v b → b.call ≤ a.call) → last_call ops v ≡ a.call
last_call-is ops v a m above =
    let r = last_call-at ops v a m in
    let down = above r.0 r.1 in
    let up = last_call-le ops v a m in
    omega (arith, up, down, r.2)

-- a kept write is of its own cluster
pub kept-member : (ops : List Operation) (w : Operation) → IsKept ops w → IsInCluster ops (value_of w) w
kept-member ops w k = record { within = k.within; value = refl; counts = inl k.write }

-- a member of w's cluster is w, or a completed read of it
pub member-is : (ops : List Operation) (y : IsHistory ops) (w a : Operation) → IsKept ops w
    → IsInCluster ops (value_of w) a → (a ≡ w) ⊎ IsReadOf w a
member-is ops y w a k m = elim (cases_Bool (is_write a)) [
  | inl u ↦ inl (y.values a w m.within k.within u k.write m.value)
  | inr u ↦ inr (record {
    read = u;
    completed = elim m.counts [ inl t ↦ absurd (false≢true (sym u ∙ t)) | inr d ↦ d ];
    value = m.value;
  })
]
