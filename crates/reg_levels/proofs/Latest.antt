-- The operations of each session, one at a time: the edges between them, and the last one that must be
-- respected.
use Rattle.std.proofs.Common.{◌≡◌, ℕ, ◌+◌, ◌<◌, ◌≤◌, List, length, slice_get, Option, Some, None, Bool}
use Rattle.std.proofs.Common.{true, false, cond, eqb}
use Rattle.std.proofs.Common.{◌⊎◌, inl, inr, refl, sym, ap, ◌∙◌, subst, arith}
use Rattle.std.proofs.lemmas.Bool.{cases_order}
use Rattle.std.proofs.lemmas.Bool.Decides.{Decides-eqb}
use Rattle.history_model.specs.Operations.{IsHistory, Precedes}
use Rattle.history_model.specs.declared.guarantee.Guarantee.{Guarantee}
use Rattle.history_model.specs.declared.operation.Operation.{Operation}
use Rattle.reg_levels.proofs.OrderGraphLemmas.Places.{place-same}
use Rattle.reg_levels.proofs.ClusterLemmas.Places.{at-In, calls_ascend}
use Rattle.reg_levels.specs.Clusters.Places.{IsAt, IsByCall}
use Rattle.reg_levels.specs.declared.clusters.table.ClusterEnds.{ClusterEnds}
use Rattle.reg_levels.specs.LevelGraph.{Extends, IsInSession, IsJoin, IsLasting, IsLatestOf, IsLevelGraph}
use Rattle.reg_levels.specs.LevelGraph.{JoinsNext}
use Rattle.reg_levels.specs.LevelGraph.{Reaches, SessionsReach}
use Rattle.reg_levels.specs.Levels.{IsOfSessions, is_lasting}
use Rattle.reg_levels.specs.declared.graph.LevelGraph.{LevelGraph}
use Rattle.reg_levels.proofs.Asking.{keep_lasting}
use Rattle.reg_levels.proofs.Joining.{extends_joined, extends_same, extends_twice, graph_joined, graph_same}
use Rattle.reg_levels.proofs.Joining.{joined_longer}
use Rattle.reg_levels.proofs.Joining.{reaches_extends, reaches_joined, reaches_same, reaches_twice}

-- of two operations of a session the one called first precedes the other
pub session_precedes : (ops : List Operation) → IsHistory ops → IsByCall ops → (p r q : ℕ) (a b : Operation)
    → p < r
    → IsAt ops p a → IsAt ops r b → a.process ≡ Some q → b.process ≡ Some q → Precedes a b
session_precedes ops h y p r q a b l at there m n =
    let call = calls_ascend ops y p r a b l at there in
    elim (h.turns a b q (at-In ops p a at) (at-In ops r b there) m n) [
      | inl e ↦ absurd (omega (arith, call, ap (λ (x : Operation). x.call) e))
      | inr o ↦ elim o [
        | inl k ↦ k
        | inr k ↦ absurd (omega (arith, call, k, h.life b (at-In ops r b there)))
      ]
    ]

-- the edges of the operations below a place, over the graph with which they began
pub record AreSessionsBelow (g : Guarantee) (ops : List Operation) (numbers : List (Option ℕ)) (place : ℕ)
    (first graph : LevelGraph) : Type 0 where
  pub sound : (clusters : List ClusterEnds) (calls : List ℕ) → IsLevelGraph g ops clusters numbers calls first
      → IsLevelGraph g ops clusters numbers calls graph
  pub extends : Extends first.edges.items graph.edges.items
  pub reaches : SessionsReach g ops numbers place graph.edges.items
  pub longer : length graph.edges.items ≤ length first.edges.items + place

below_next : (i n : ℕ) → i < n + 1 → (i < n) ⊎ (i ≡ n)
below_next i n l = elim (cases_order i n) [
  | inl e ↦ inr e
  | inr o ↦ elim o [ inl k ↦ inl k | inr k ↦ absurd (omega (arith, l, k)) ]
]

lasting_in : (g : Guarantee) (ops : List Operation) (numbers : List (Option ℕ)) (q p x : ℕ)
    → IsLasting g ops numbers q p x → IsInSession ops numbers q p x
lasting_in g ops numbers q p x h = record {
  operation = h.operation;
  at = h.at;
  session = h.session;
  number = h.number;
}

-- ---- an operation of no session, or of no cluster

pub none_below : (g : Guarantee) (ops : List Operation) (numbers : List (Option ℕ)) (place : ℕ)
    (first graph : LevelGraph) → ((q y : ℕ) → IsInSession ops numbers q place y → ⊥)
    → AreSessionsBelow g ops numbers place first graph → AreSessionsBelow g ops numbers (place + 1) first
    graph
none_below g ops numbers place first graph none h = record {
  sound = h.sound;
  extends = h.extends;
  reaches =
      λ q p r x y l m lasting in_session. elim (below_next r place m) [
        | inl k ↦ h.reaches q p r x y l k lasting in_session
        | inr e ↦ absurd (none q y (subst (λ n. IsInSession ops numbers q n y) e in_session))
      ];
  longer = omega (arith, h.longer);
}

-- the last one stays if the operation at a place isn't one
pub latest_stays : (g : Guarantee) (ops : List Operation) (numbers : List (Option ℕ)) (q place : ℕ) (latest
    : Option ℕ)
    → ((x : ℕ) → IsLasting g ops numbers q place x → ⊥) → IsLatestOf g ops numbers q place latest
    → IsLatestOf g ops numbers q (place + 1) latest
latest_stays g ops numbers q place None other h = λ p x l lasting. elim (below_next p place l) [
  | inl k ↦ h p x k lasting
  | inr e ↦ other x (subst (λ n. IsLasting g ops numbers q n x) e lasting)
]
latest_stays g ops numbers q place (Some p) other h = (
  omega (arith, h.0),
  h.1,
  λ r x l m lasting. elim (below_next r place m) [
    | inl k ↦ h.2 r x l k lasting
    | inr e ↦ other x (subst (λ n. IsLasting g ops numbers q n x) e lasting)
  ],
)

-- and is the operation at a place if that is one
pub latest_is : (g : Guarantee) (ops : List Operation) (numbers : List (Option ℕ)) (q place x : ℕ)
    → IsLasting g ops numbers q place x → IsLatestOf g ops numbers q (place + 1) (Some place)
latest_is g ops numbers q place x h =
    (omega arith, (x, h), λ r y l m lasting. absurd (omega (arith, l, m)))

-- ---- an operation of a session

-- an edge from the last one to the next
next_join : (g : Guarantee) (ops : List Operation) (numbers : List (Option ℕ)) → IsHistory ops → IsByCall ops
    → IsOfSessions g → (q p place x y z w : ℕ) → p < place → IsLasting g ops numbers q p z
    → IsInSession ops numbers q place w → slice_get numbers p ≡ Some (Some x)
    → slice_get numbers place ≡ Some (Some y) → (x ≡ y → ⊥)
    → IsJoin g ops numbers x y (record { before = p; after = place })
next_join g ops numbers h b s q p place x y z w l lasting in_session of_x of_y differ = record {
  earlier = lasting.operation;
  later = in_session.operation;
  at_earlier = lasting.at;
  at_later = in_session.at;
  of_x = of_x;
  of_y = of_y;
  differ = differ;
  must =
      keep_lasting g s lasting.operation in_session.operation q
      (session_precedes ops h b p place q lasting.operation in_session.operation l lasting.at in_session.at
      lasting.session in_session.session)
      lasting.session in_session.session
      (calls_ascend ops b p place lasting.operation in_session.operation l lasting.at in_session.at)
      lasting.lasting;
}

-- from the last one's cluster that of the operation at the place is reached
next_reaches : (numbers : List (Option ℕ)) (earlier : Option ℕ) (place p x y : ℕ) (old new : LevelGraph)
    → JoinsNext numbers earlier place old new → earlier ≡ Some p → slice_get numbers p ≡ Some (Some x)
    → slice_get numbers place ≡ Some (Some y) → Reaches new.edges.items x y
next_reaches numbers earlier place p x y old new (inl j) is of_x of_y =
    reaches_same new.edges.items x y (j.1 p x y is of_x of_y)
next_reaches numbers earlier place p x y old new (inr j) is of_x of_y =
    let same_p : j.0 ≡ p = let e = sym j.3 ∙ is in cc e in
    let same_x : j.1 ≡ x = let e = sym j.4 ∙ (ap (slice_get numbers) same_p ∙ of_x) in cc e in
    let same_y : j.2 ≡ y = let e = sym j.5 ∙ of_y in cc e in
    subst (λ n. Reaches new.edges.items n y) same_x
    (subst (Reaches new.edges.items j.1) same_y (reaches_joined _ _ old new j.7))

next_extends : (numbers : List (Option ℕ)) (earlier : Option ℕ) (place : ℕ) (old new : LevelGraph)
    → JoinsNext numbers earlier place old new → Extends old.edges.items new.edges.items
next_extends numbers earlier place old new (inl j) = extends_same old.edges.items new.edges.items j.0.edges
next_extends numbers earlier place old new (inr j) = extends_joined _ _ old new j.7

next_longer : (numbers : List (Option ℕ)) (earlier : Option ℕ) (place : ℕ) (old new : LevelGraph)
    → JoinsNext numbers earlier place old new → length new.edges.items ≤ length old.edges.items + 1
next_longer numbers earlier place old new (inl j) = omega (arith, ap length j.0.edges)
next_longer numbers earlier place old new (inr j) = omega (arith, joined_longer _ _ old new j.7)

next_sound : (g : Guarantee) (ops : List Operation) (clusters : List ClusterEnds) (numbers : List (Option ℕ))
    (calls : List ℕ) → IsHistory ops → IsByCall ops → IsOfSessions g → (q place w : ℕ) (earlier : Option ℕ)
    (old new : LevelGraph) → IsLatestOf g ops numbers q place earlier → IsInSession ops numbers q place w
    → JoinsNext numbers earlier place old new → IsLevelGraph g ops clusters numbers calls old
    → IsLevelGraph g ops clusters numbers calls new
next_sound g ops clusters numbers calls h b s q place w earlier old new latest in_session (inl j) k =
    graph_same g ops clusters numbers calls old new j.0 k
next_sound g ops clusters numbers calls h b s q place w earlier old new latest in_session (inr j) k =
    let last = subst (IsLatestOf g ops numbers q place) j.3 latest in
    graph_joined g ops clusters numbers calls _ _ old new j.7
    (inl (next_join g ops numbers h b s q j.0 place j.1 j.2 last.1.0 w last.0 last.1.1 in_session j.4 j.5
    j.6)) k

pub next_below : (g : Guarantee) (ops : List Operation) (numbers : List (Option ℕ)) → IsHistory ops →
    IsByCall ops
    → IsOfSessions g → (q place w : ℕ) (earlier : Option ℕ) (first old new : LevelGraph)
    → IsLatestOf g ops numbers q place earlier → IsInSession ops numbers q place w
    → JoinsNext numbers earlier place old new → AreSessionsBelow g ops numbers place first old
    → AreSessionsBelow g ops numbers (place + 1) first new
next_below g ops numbers hist b s q place w earlier first old new latest in_session j h =
    let all = next_extends numbers earlier place old new j in
    record {
      sound =
          λ clusters calls k.
          next_sound g ops clusters numbers calls hist b s q place w earlier old new latest in_session j
          (h.sound clusters calls k);
      extends = extends_twice first.edges.items old.edges.items new.edges.items h.extends all;
      reaches =
          λ u p r x y l m lasting here. elim (below_next r place m) [
            | inl k ↦ reaches_extends old.edges.items new.edges.items all x y (h.reaches u p r x y l k
                lasting here)
            | inr e ↦
                let there : IsInSession ops numbers u place y = subst (λ n. IsInSession ops numbers u n y) e
                here in
                let same_op : there.operation ≡ in_session.operation =
                place-same ops place there.operation in_session.operation there.at in_session.at in
                let same_q : u ≡ q =
                let z = sym there.session ∙ (ap (λ (o : Operation). o.process) same_op ∙ in_session.session)
                in cc z in
                from earlier refl p x y (omega (arith, l, e)) (subst (λ n. IsLasting g ops numbers n p x)
                same_q lasting)
                there.number
          ];
      longer = omega (arith, h.longer, next_longer numbers earlier place old new j);
    }
  where
    from : (o : Option ℕ) → earlier ≡ o → (p x y : ℕ) → p < place → IsLasting g ops numbers q p x
        → slice_get numbers place ≡ Some (Some y) → Reaches new.edges.items x y
    from None e p x y l lasting of_y = absurd (subst (IsLatestOf g ops numbers q place) e latest p x l
        lasting)
    from (Some last) e p x y l lasting of_y =
        let is = subst (IsLatestOf g ops numbers q place) e latest in
        let to_y = next_reaches numbers earlier place last is.1.0 y old new j e is.1.1.number of_y in
        elim (cases_order p last) [
          | inl k ↦
              let same : Some (Some x) ≡ Some (Some is.1.0) =
              sym lasting.number ∙ (ap (slice_get numbers) k ∙ is.1.1.number) in
              subst (λ n. Reaches new.edges.items n y) (let z : is.1.0 ≡ x = cc same in z) to_y
          | inr k ↦ elim k [
            | inl m ↦
                reaches_twice new.edges.items x is.1.0 y
                (reaches_extends old.edges.items new.edges.items (next_extends numbers earlier place old new
                j) x is.1.0
                (h.reaches q p last x is.1.0 m is.0 lasting (lasting_in g ops numbers q last is.1.0 is.1.1)))
                to_y
            | inr m ↦ absurd (is.2 p x m l lasting)
          ]
        ]

-- the last one of each session after an operation that later ones must come after
pub latest_lasting : (g : Guarantee) (ops : List Operation) (numbers : List (Option ℕ)) (s place y : ℕ)
    (a : Operation) (old new : ℕ → Option ℕ) → IsInSession ops numbers s place y → IsAt ops place a
    → is_lasting g a ≡ true → ((q : ℕ) → new q ≡ cond (eqb s q) (Some place) (old q))
    → ((q : ℕ) → IsLatestOf g ops numbers q place (old q)) → (q : ℕ) → IsLatestOf g ops numbers q (place +
    1) (new q)
latest_lasting g ops numbers s place y a old new i at lasts is before q = go (eqb s q) refl
  where
    same : i.operation ≡ a
    same = place-same ops place i.operation a i.at at

    go : (r : Bool) → eqb s q ≡ r → IsLatestOf g ops numbers q (place + 1) (new q)
    go true e =
        let session : i.operation.process ≡ Some q = i.session ∙ ap Some ((Decides-eqb s q).0 e) in
        subst (IsLatestOf g ops numbers q (place + 1)) (sym (is q ∙ ap (λ r. cond r (Some place) (old q)) e))
        (latest_is g ops numbers q place y (record {
          operation = i.operation;
          at = i.at;
          session = session;
          number = i.number;
          lasting = ap (is_lasting g) same ∙ lasts;
        }))
    go false e =
        subst (IsLatestOf g ops numbers q (place + 1)) (sym (is q ∙ ap (λ r. cond r (Some place) (old q)) e))
        (latest_stays g ops numbers q place (old q)
        (λ x h. let one : Some s ≡ Some q =
        sym i.session ∙ (ap (λ (o : Operation). o.process) (place-same ops place i.operation h.operation
        i.at h.at) ∙ h.session) in
        let yes : eqb s q ≡ true = (Decides-eqb s q).1 (cc one) in absurd (let z = sym e ∙ yes in cc z))
        (before q))

-- and after one that needn't be respected
pub latest_passing : (g : Guarantee) (ops : List Operation) (numbers : List (Option ℕ)) (place : ℕ) (a :
    Operation)
    (old : ℕ → Option ℕ) → IsAt ops place a → is_lasting g a ≡ false
    → ((q : ℕ) → IsLatestOf g ops numbers q place (old q)) → (q : ℕ) → IsLatestOf g ops numbers q (place +
    1) (old q)
latest_passing g ops numbers place a old at passes before q =
    latest_stays g ops numbers q place (old q)
    (λ x h. let lasts : is_lasting g a ≡ true =
    ap (is_lasting g) (place-same ops place a h.operation at h.at) ∙ h.lasting in
    absurd (let z = sym passes ∙ lasts in cc z)) (before q)

-- and where there is no session
pub latest_none : (g : Guarantee) (ops : List Operation) (numbers : List (Option ℕ)) (place : ℕ)
    (old : ℕ → Option ℕ) → ((q y : ℕ) → IsInSession ops numbers q place y → ⊥)
    → ((q : ℕ) → IsLatestOf g ops numbers q place (old q)) → (q : ℕ) → IsLatestOf g ops numbers q (place +
    1) (old q)
latest_none g ops numbers place old none before q =
    latest_stays g ops numbers q place (old q) (λ x h. none q x (lasting_in g ops numbers q place x h))
    (before q)
