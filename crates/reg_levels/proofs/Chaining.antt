-- The chain of calls, one edge at a time, and what is reached by it.
use Rattle.std.proofs.Common.{◌≡◌, ℕ, zero, suc, ◌+◌, ◌-◌, ◌*◌, ◌<◌, ◌≤◌, List, length, slice_get, Option}
use Rattle.std.proofs.Common.{Some, true, ltb}
use Rattle.std.proofs.Common.{◌⊎◌, inl, inr, sym, ap, subst, arith}
use Rattle.std.proofs.lemmas.Bool.{cases_order, ltb-true}
use Rattle.std.proofs.lemmas.Bool.Decides.{Decides-ltb}
use Rattle.std.proofs.lemmas.Option.{slice_get_within}
use Rattle.history_model.specs.declared.guarantee.Guarantee.{Guarantee}
use Rattle.history_model.specs.declared.operation.Operation.{Operation}
use Rattle.reg_levels.specs.declared.order_graph.edge.Edge.{Edge}
use Rattle.reg_levels.proofs.OrderGraphLemmas.Places.{place-inside, place-same}
use Rattle.reg_levels.specs.declared.clusters.table.ClusterEnds.{ClusterEnds}
use Rattle.reg_levels.specs.LevelGraph.{ChainReaches, EntriesReach, Extends, IsLevelGraph, Joins, JoinsIf}
use Rattle.reg_levels.specs.LevelGraph.{Reaches, TimesReach}
use Rattle.reg_levels.specs.Levels.{keeps_time}
use Rattle.reg_levels.specs.declared.graph.LevelGraph.{LevelGraph}
use Rattle.reg_levels.specs.declared.graph.PlacePair.{PlacePair}
use Rattle.reg_levels.proofs.Joining.{extends_joined, extends_twice, graph_joined, if_extends, if_graph}
use Rattle.reg_levels.proofs.Joining.{if_longer, if_reaches}
use Rattle.reg_levels.proofs.Joining.{joined_longer, reaches_extends, reaches_joined, reaches_same}
use Rattle.reg_levels.proofs.Joining.{reaches_twice}

-- the chain as far as a place, over the graph with which it began
pub record IsChainBelow (many place : ℕ) (first graph : LevelGraph) : Type 0 where
  pub sound : (g : Guarantee) (ops : List Operation) (clusters : List ClusterEnds) (numbers : List (Option ℕ))
      (calls : List ℕ) → length clusters ≡ many → keeps_time g ≡ true
      → IsLevelGraph g ops clusters numbers calls first → IsLevelGraph g ops clusters numbers calls graph
  pub extends : Extends first.edges.items graph.edges.items
  pub along : (i : ℕ) → suc i < many → i < place → Reaches graph.edges.items (many + i) (many + suc i)
  pub exits : (i : ℕ) → i < place → Reaches graph.edges.items (many + i) i
  pub longer : length graph.edges.items ≤ length first.edges.items + 2 * place

below_next : (i n : ℕ) → i < n + 1 → (i < n) ⊎ (i ≡ n)
below_next i n l = elim (cases_order i n) [
  | inl e ↦ inr e
  | inr o ↦ elim o [ inl k ↦ inl k | inr k ↦ absurd (omega (arith, l, k)) ]
]

pub chain_more : (many place : ℕ) (first old mid new : LevelGraph) (pair other : PlacePair) → place < many
    → Joins (record { from = many + place; to = place }) pair old mid
    → JoinsIf (ltb (place + 1) many) (record { from = many + place; to = many + place + 1 }) other mid new
    → IsChainBelow many place first old → IsChainBelow many (place + 1) first new
chain_more many place first old mid new pair other l j k h =
    let exit : Edge = record { from = many + place; to = place } in
    let next : Edge = record { from = many + place; to = many + place + 1 } in
    let on = if_extends (ltb (place + 1) many) next other mid new k in
    let all : Extends old.edges.items new.edges.items =
    extends_twice old.edges.items mid.edges.items new.edges.items (extends_joined exit pair old mid j) on in
    record {
      sound =
          λ g ops clusters numbers calls size t before.
          if_graph g ops clusters numbers calls (ltb (place + 1) many) next other mid new k
          (λ b. inr (
            t,
            inr (inl (record {
              place = place;
              from = ap (λ n. n + place) (sym size);
              to = omega (arith, size);
              within = omega (arith, size, ltb-true (place + 1) many b);
            })),
          ))
          (graph_joined g ops clusters numbers calls exit pair old mid j
          (inr (
            t,
            inr (inr (record {
              from = ap (λ n. n + place) (sym size);
              within = omega (arith, size, l);
            })),
          ))
          (h.sound g ops clusters numbers calls size t before));
      extends = extends_twice first.edges.items old.edges.items new.edges.items h.extends all;
      along =
          λ i m n. elim (below_next i place n) [
            | inl b ↦ reaches_extends old.edges.items new.edges.items all (many + i) (many + suc i) (h.along
                i m b)
            | inr e ↦
                subst (λ x. Reaches new.edges.items (many + x) (many + suc x)) (sym e)
                (subst (Reaches new.edges.items (many + place)) (let q : many + place + 1 ≡ many + suc place
                = omega arith in q)
                (if_reaches (ltb (place + 1) many) next other mid new k
                ((Decides-ltb (place + 1) many).1 (omega (arith, m, e)))))
          ];
      exits =
          λ i n. elim (below_next i place n) [
            | inl b ↦ reaches_extends old.edges.items new.edges.items all (many + i) i (h.exits i b)
            | inr e ↦
                subst (λ x. Reaches new.edges.items (many + x) x) (sym e)
                (reaches_extends mid.edges.items new.edges.items on (many + place) place (reaches_joined
                exit pair old mid j))
          ];
      longer =
          omega (
            arith,
            h.longer,
            joined_longer exit pair old mid j,
            if_longer (ltb (place + 1) many) next
                other mid new k,
          );
    }

-- the entries of the clusters below a number, over the graph with which they began
pub record AreEntriesBelow (clusters : List ClusterEnds) (calls : List ℕ) (number : ℕ) (first graph :
    LevelGraph)
    : Type 0 where
  pub sound : (g : Guarantee) (ops : List Operation) (numbers : List (Option ℕ)) → keeps_time g ≡ true
      → IsLevelGraph g ops clusters numbers calls first → IsLevelGraph g ops clusters numbers calls graph
  pub extends : Extends first.edges.items graph.edges.items
  pub reaches : (x y n : ℕ) (c : ClusterEnds) → x < number → slice_get clusters x ≡ Some c
      → slice_get calls y ≡ Some n → c.first_reply < n
      → (i : ℕ) × (i ≤ y) × Reaches graph.edges.items x (length clusters + i)
  pub longer : length graph.edges.items ≤ length first.edges.items + number

pub entries_more : (clusters : List ClusterEnds) (calls : List ℕ) (number place many : ℕ) (c : ClusterEnds)
    (first old new : LevelGraph) (pair : PlacePair) → many ≡ length clusters → length calls ≡ length clusters
    → slice_get clusters number ≡ Some c
    → ((k n : ℕ) → k < place → slice_get calls k ≡ Some n → n ≤ c.first_reply)
    → ((n : ℕ) → slice_get calls place ≡ Some n → c.first_reply < n)
    → JoinsIf (ltb place many) (record { from = number; to = many + place }) pair old new
    → AreEntriesBelow clusters calls number first old → AreEntriesBelow clusters calls (number + 1) first new
entries_more clusters calls number place many c first old new pair size count here before after j h =
    let edge : Edge = record { from = number; to = many + place } in
    let all = if_extends (ltb place many) edge pair old new j in
    record {
      sound =
          λ g ops numbers t b.
          if_graph g ops clusters numbers calls (ltb place many) edge pair old new j
          (λ wanted.
          let call = place-inside calls place (omega (arith, count, size, ltb-true place many wanted)) in
          inr (
            t,
            inl (record {
              cluster = c;
              at = here;
              place = place;
              to = ap (λ n. n + place) size;
              call = call.0;
              at_call = call.1;
              after = after call.0 call.1;
            }),
          ))
          (h.sound g ops numbers t b);
      extends = extends_twice first.edges.items old.edges.items new.edges.items h.extends all;
      reaches =
          λ x y n d l a b late. elim (below_next x number l) [
            | inl k ↦
                let r = h.reaches x y n d k a b late in
                (r.0, r.1, reaches_extends old.edges.items new.edges.items all x (length clusters + r.0) r.2)
            | inr e ↦
                let same : c ≡ d = place-same clusters number c d here (subst (λ m. slice_get clusters m ≡
                Some d) e a) in
                let late_c : c.first_reply < n = subst (λ (z : ClusterEnds). z.first_reply < n) (sym same)
                late in
                let first_is : place ≤ y = not-before y n b late_c in (
                  place,
                  first_is,
                  subst (λ m. Reaches new.edges.items m (length clusters + place)) (sym e)
                      (subst (λ m. Reaches new.edges.items number (m + place)) size
                      (if_reaches (ltb place many) edge pair old new j
                      ((Decides-ltb place many).1 (omega (
                        arith,
                        first_is,
                        size,
                        count,
                        slice_get_within
                            calls y n b,
                      ))))),
                )
          ];
      longer = omega (arith, h.longer, if_longer (ltb place many) edge pair old new j);
    }
  where
    not-before : (y n : ℕ) → slice_get calls y ≡ Some n → c.first_reply < n → place ≤ y
    not-before y n b late = elim (cases_order place y) [
      | inl e ↦ omega (arith, e)
      | inr o ↦ elim o [
        | inl l ↦ omega (arith, l)
        | inr l ↦ absurd (omega (arith, before y n l b, late))
      ]
    ]

-- along the chain each later call is reached, and so the cluster of its write
chain-on : (many : ℕ) (edges : List Edge) → ChainReaches many edges → (i gap : ℕ) → i + gap < many
    → Reaches edges (many + i) (many + (i + gap))
chain-on many edges h i zero l = reaches_same edges (many + i) (many + (i + zero)) (omega arith)
chain-on many edges h i (suc gap) l =
    reaches_twice edges (many + i) (many + (i + gap)) (many + (i + suc gap)) (chain-on many edges h i gap
    (omega (arith, l)))
    (subst (Reaches edges (many + (i + gap))) (let e : many + suc (i + gap) ≡ many + (i + suc gap) = omega
    arith in e)
    (h.along (i + gap) (omega (arith, l))))

pub times_reach : (clusters : List ClusterEnds) (calls : List ℕ) (edges : List Edge)
    → length calls ≡ length clusters → ChainReaches (length clusters) edges → EntriesReach clusters calls
    edges
    → TimesReach clusters calls edges
times_reach clusters calls edges count chain entries x y n c a b late =
    let many = length clusters in
    let e = entries x y n c a b late in
    let within : y < many = omega (arith, count, slice_get_within calls y n b) in
    let to_call : Reaches edges (many + e.0) (many + y) =
    subst (λ m. Reaches edges (many + e.0) (many + m)) (let q : e.0 + (y - e.0) ≡ y = omega (arith, e.1) in q)
    (chain-on many edges chain e.0 (y - e.0) (omega (arith, e.1, within))) in
    reaches_twice edges x (many + e.0) y e.2
    (reaches_twice edges (many + e.0) (many + y) y to_call (chain.exits y within))
