-- One step of a walk: the end of the path, the edge ahead of it, and what the step keeps.
use Rattle.std.proofs.Common.{◌≡◌, ℕ, suc, ◌+◌, ◌-◌, ◌*◌, ◌<◌, ◌≤◌, List, [], ◌∷◌, ◌++◌, length, set}
use Rattle.std.proofs.Common.{slice_get, get_or}
use Rattle.std.proofs.Common.{Some, sum, inl, inr, refl, sym, ap, ◌∙◌, subst, arith}
use Rattle.std.proofs.lemmas.List.{length-set, length-append}
use Rattle.std.proofs.lemmas.Option.{slice_get_within, slice_get-get_or, slice_get_read}
use Rattle.reg_levels.specs.OrderGraph.Graph.{AreAmong, HasEdge}
use Rattle.reg_levels.specs.OrderGraph.Incoming.{AreLists, IsNextEdge}
use Rattle.reg_levels.specs.OrderGraph.GraphWalk.{Closes, Enters, IsBehind, IsEdgeFollowed, IsGraphWalk}
use Rattle.reg_levels.specs.OrderGraph.GraphWalk.{IsRound}
use Rattle.reg_levels.specs.OrderGraph.GraphWalk.{IsWalked, KeepsMet}
use Rattle.reg_levels.specs.OrderGraph.GraphWalk.{work_left}
use Rattle.reg_levels.specs.declared.order_graph.edge.Edge.{Edge}
use Rattle.reg_levels.specs.declared.order_graph.walk.GraphWalk.{GraphWalk}
use Rattle.reg_levels.specs.declared.order_graph.walk.NodeMark.{NodeMark}
use Rattle.reg_levels.specs.declared.order_graph.walk.NodeMark.TheVariants.{New, Open, Done}
use Rattle.reg_levels.proofs.OrderGraphLemmas.Places.{place-push, place-push_kept, place-set_cases}
use Rattle.reg_levels.proofs.OrderGraphLemmas.Places.{place-same, edge-at}
use Rattle.reg_levels.proofs.OrderGraphLemmas.Walking.{sum-set_less, walked-closed, walked-followed}
use Rattle.reg_levels.proofs.OrderGraphLemmas.Walking.{walked-opened}

-- the node at the end of the path, and the number of the edge ahead of it
pub record IsTurn (edges : List Edge) (ahead : List ℕ) (marks : List NodeMark) (path : List ℕ) (end number :
    ℕ)
    : Type 0 where
  pub place : suc (length path - 1) ≡ length path
  pub last : slice_get path (length path - 1) ≡ Some end
  pub is_open : slice_get marks end ≡ Some Open
  pub is_ahead : slice_get ahead end ≡ Some number
  pub within : number ≤ length edges

pub end_is : (edges : List Edge) (ahead : List ℕ) (marks : List NodeMark) (path placed : List ℕ) (len end : ℕ)
    → IsWalked edges ahead marks path placed → 0 < length path → len ≡ length path
    → end ≡ get_or path (len - 1) end → (slice_get path (length path - 1) ≡ Some end) × (end < length ahead)
end_is edges ahead marks path placed len end h some size is =
    let at : slice_get path (length path - 1) ≡ Some end =
    slice_get_read path (length path) (length path - 1) end refl (omega arith)
    (subst (λ n. end ≡ get_or path (n - 1) end) size is) in
    (at, omega (arith, h.sizes, slice_get_within marks end Open (h.on_path _ end at)))

pub turn_is : (edges : List Edge) (ahead : List ℕ) (marks : List NodeMark) (path placed : List ℕ) (len end
    number : ℕ)
    → IsWalked edges ahead marks path placed → 0 < length path → len ≡ length path
    → end ≡ get_or path (len - 1) end → number ≡ get_or ahead end number → IsTurn edges ahead marks path end
    number
turn_is edges ahead marks path placed len end number h some size is num =
    let e = end_is edges ahead marks path placed len end h some size is in
    let at : slice_get ahead end ≡ Some number = slice_get_read ahead (length ahead) end number refl e.1 num
    in
    record {
      place = omega arith;
      last = e.0;
      is_open = h.on_path _ end e.0;
      is_ahead = at;
      within = (h.numbers end number at).within;
    }

-- the edge that is ahead
pub record IsAheadEdge (nodes : ℕ) (edges : List Edge) (end k : ℕ) (e : Edge) : Type 0 where
  pub at : slice_get edges k ≡ Some e
  pub to : e.to ≡ end
  pub among : e.from < nodes

pub ahead_edge : (edges : List Edge) (ahead : List ℕ) (marks : List NodeMark) (path placed : List ℕ) (end
    number : ℕ)
    (d : Edge) → IsWalked edges ahead marks path placed → AreAmong (length marks) edges
    → IsTurn edges ahead marks path end number → (number ≡ 0 → ⊥)
    → IsAheadEdge (length marks) edges end (number - 1) (get_or edges (number - 1) d)
ahead_edge edges ahead marks path placed end number d h among t some =
    let l : number - 1 < length edges = omega (arith, t.within, some) in
    let at = slice_get-get_or edges (number - 1) d l in
    record {
      at = at;
      to = (h.numbers end number t.is_ahead).ends (number - 1) _ (omega (arith, some)) at;
      among = (among (number - 1) d l).0;
    }

pub entered : (edges : List Edge) (v : ℕ) (old new : GraphWalk) → IsGraphWalk edges old → Enters v old new
    → IsBehind edges v old.path.items → IsGraphWalk edges new
entered edges v old new h (inl o) behind =
    subst (λ a. IsWalked edges a new.marks.items new.path.items new.placed.items) (sym o.ahead)
    (subst (λ m. IsWalked edges old.ahead.items m new.path.items new.placed.items) (sym o.marks)
    (subst (λ p. IsWalked edges old.ahead.items (set old.marks.items v Open) p new.placed.items) (sym o.path)
    (subst (λ p. IsWalked edges old.ahead.items (set old.marks.items v Open) (old.path.items ++ v ∷ []) p)
    (sym o.placed)
    (walked-opened edges old.ahead.items old.marks.items old.path.items old.placed.items v h o.was behind))))
entered edges v old new h (inr s) behind =
    let o = s.0 in
    subst (λ a. IsWalked edges a new.marks.items new.path.items new.placed.items) (sym o.ahead)
    (subst (λ m. IsWalked edges old.ahead.items m new.path.items new.placed.items) (sym o.marks)
    (subst (λ p. IsWalked edges old.ahead.items old.marks.items p new.placed.items) (sym o.path)
    (subst (λ p. IsWalked edges old.ahead.items old.marks.items old.path.items p) (sym o.placed) h)))

pub entered_behind : (v end : ℕ) (old new : GraphWalk) → slice_get old.path.items (length old.path.items -
    1) ≡ Some end
    → 0 < length old.path.items → Enters v old new → IsEdgeFollowed new.marks.items new.path.items end v
entered_behind v end old new last some (inl o) =
    inr (
      length old.path.items - 1,
      length old.path.items,
      omega arith,
      subst (λ p. slice_get p (length old.path.items - 1) ≡ Some end) (sym o.path)
          (place-push_kept old.path.items v _ end last),
      subst (λ p. slice_get p (length old.path.items) ≡ Some v) (sym o.path) (place-push old.path.items v),
    )
entered_behind v end old new last some (inr s) =
    inl (subst (λ m. slice_get m v ≡ Some Done) (sym s.0.marks) s.1)

pub entered_ahead : (v : ℕ) (old new : GraphWalk) → Enters v old new → new.ahead.items ≡ old.ahead.items
entered_ahead v old new (inl o) = o.ahead
entered_ahead v old new (inr s) = s.0.ahead

pub entered_longer : (v : ℕ) (old new : GraphWalk) → Enters v old new
    → length new.path.items ≤ length old.path.items + 1
entered_longer v old new (inl o) =
    omega (arith, ap length o.path, length-append old.path.items (v ∷ []))
entered_longer v old new (inr s) = omega (arith, ap length s.0.path)

pub entered_keeps : (v : ℕ) (old new : GraphWalk) → Enters v old new → KeepsMet old new
entered_keeps v old new (inl o) = record {
  sizes = ap length o.marks ∙ length-set old.marks.items v Open;
  met =
      λ w a. elim (place-set_cases old.marks.items v w Open New (subst (λ m. slice_get m w ≡ Some New)
      o.marks a)) [
        | inl k ↦ absurd (let e = k.1 in cc e)
        | inr k ↦ k.1
      ];
}
entered_keeps v old new (inr s) = record {
  sizes = ap length s.0.marks;
  met = λ w a. subst (λ m. slice_get m w ≡ Some New) s.0.marks a;
}

pub entered_met : (v : ℕ) (old new : GraphWalk) → Enters v old new → slice_get new.marks.items v ≡ Some New
    → ⊥
entered_met v old new (inl o) a =
    elim (place-set_cases old.marks.items v v Open New (subst (λ m. slice_get m v ≡ Some New) o.marks a)) [
      | inl k ↦ absurd (let e = k.1 in cc e)
      | inr k ↦ k.0 refl
    ]
entered_met v old new (inr s) a =
    absurd (let e = place-same new.marks.items v New Done a (subst (λ m. slice_get m v ≡ Some Done) (sym
    s.0.marks) s.1) in cc e)

pub closed_keeps : (v : ℕ) (old new : GraphWalk) → Closes v old new → KeepsMet old new
closed_keeps v old new o = record {
  sizes = ap length o.marks ∙ length-set old.marks.items v Done;
  met =
      λ w a. elim (place-set_cases old.marks.items v w Done New (subst (λ m. slice_get m w ≡ Some New)
      o.marks a)) [
        | inl k ↦ absurd (let e = k.1 in cc e)
        | inr k ↦ k.1
      ];
}

-- the node that is placed is the end of the path
closed_end : (rest : List ℕ) (v end : ℕ) (path : List ℕ) → path ≡ rest ++ v ∷ []
    → slice_get path (length path - 1) ≡ Some end → v ≡ end
closed_end rest v end path is last =
    let e : length path - 1 ≡ length rest = omega (arith, ap length is, length-append rest (v ∷ [])) in
    place-same path (length rest) v end (subst (λ p. slice_get p (length rest) ≡ Some v) (sym is)
    (place-push rest v))
    (subst (λ n. slice_get path n ≡ Some end) e last)

pub closed : (edges : List Edge) (v end : ℕ) (old new : GraphWalk) → IsGraphWalk edges old → Closes v old new
    → slice_get old.path.items (length old.path.items - 1) ≡ Some end → slice_get old.ahead.items end ≡ Some 0
    → IsGraphWalk edges new
closed edges v end old new h o last none =
    let same : v ≡ end = closed_end new.path.items v end old.path.items o.path last in
    let before : IsWalked edges old.ahead.items old.marks.items (new.path.items ++ v ∷ []) old.placed.items =
    subst (λ p. IsWalked edges old.ahead.items old.marks.items p old.placed.items) o.path h in
    subst (λ a. IsWalked edges a new.marks.items new.path.items new.placed.items) (sym o.ahead)
    (subst (λ m. IsWalked edges old.ahead.items m new.path.items new.placed.items) (sym o.marks)
    (subst (λ p. IsWalked edges old.ahead.items (set old.marks.items v Done) new.path.items p) (sym o.placed)
    (walked-closed edges old.ahead.items old.marks.items new.path.items old.placed.items v before
    (subst (λ x. slice_get old.ahead.items x ≡ Some 0) (sym same) none))))

pub closed_less : (v : ℕ) (old new : GraphWalk) → Closes v old new → work_left new < work_left old
closed_less v old new o =
    omega (arith, ap length o.path, length-append new.path.items (v ∷ []), ap sum o.ahead)

-- the edge ahead leads to the end of the path
pub behind_end : (edges : List Edge) (end number nodes : ℕ) (e : Edge) (ahead : List ℕ) (marks : List
    NodeMark)
    (path : List ℕ) → IsTurn edges ahead marks path end number → IsAheadEdge nodes edges end (number - 1) e
    → IsBehind edges e.from path
behind_end edges end number nodes e ahead marks path t a i u top at =
    let place : i ≡ length path - 1 = omega (arith, top) in
    let same : end ≡ u =
    place-same path (length path - 1) end u t.last (subst (λ n. slice_get path n ≡ Some u) place at) in
    subst (HasEdge edges e.from) (a.to ∙ same) (edge-at edges (number - 1) e a.at)

next_edge : (edges : List Edge) (end number n nodes many : ℕ) (e : Edge) (first next : List ℕ)
    → AreLists nodes edges (length edges) first next → IsAheadEdge many edges end (number - 1) e
    → n ≡ get_or next (number - 1) n → IsNextEdge edges end (number - 1) n
next_edge edges end number n nodes many e first next l a is =
    let at : slice_get next (number - 1) ≡ Some n =
    slice_get_read next (length next) (number - 1) n refl
    (omega (arith, l.entries, slice_get_within edges (number - 1) e a.at)) is in
    subst (λ x. IsNextEdge edges x (number - 1) n) a.to (l.nexts (number - 1) n e at a.at)

-- after an edge was followed from the end of the path
pub turned_on : (edges : List Edge) (end number n nodes : ℕ) (e : Edge) (old new : GraphWalk) (first next :
    List ℕ)
    → IsGraphWalk edges old → AreLists nodes edges (length edges) first next → 0 < length old.path.items
    → IsTurn edges old.ahead.items old.marks.items old.path.items end number → (number ≡ 0 → ⊥)
    → IsAheadEdge (length old.marks.items) edges end (number - 1) e → n ≡ get_or next (number - 1) n
    → Enters e.from old new
    → IsWalked edges (set new.ahead.items end n) new.marks.items new.path.items new.placed.items
turned_on edges end number n nodes e old new first next h l some t many a is o =
    let in_new : IsGraphWalk edges new =
    entered edges e.from old new h o
    (behind_end edges end number (length old.marks.items) e old.ahead.items old.marks.items old.path.items t
    a) in
    let at : slice_get new.ahead.items end ≡ Some (suc (number - 1)) =
    subst (λ xs. slice_get xs end ≡ Some (suc (number - 1))) (sym (entered_ahead e.from old new o))
    (subst (λ x. slice_get old.ahead.items end ≡ Some x)
    (let q : number ≡ suc (number - 1) = omega (arith, many) in q) t.is_ahead) in
    walked-followed edges new.ahead.items new.marks.items new.path.items new.placed.items end (number - 1) n
    e in_new
    at a.at (next_edge edges end number n nodes (length old.marks.items) e first next l a is)
    (entered_behind e.from end old new t.last some o)

pub turned_less : (edges : List Edge) (end number n nodes : ℕ) (e : Edge) (old new : GraphWalk) (first next
    : List ℕ)
    → AreLists nodes edges (length edges) first next
    → IsTurn edges old.ahead.items old.marks.items old.path.items end number → (number ≡ 0 → ⊥)
    → IsAheadEdge (length old.marks.items) edges end (number - 1) e → n ≡ get_or next (number - 1) n
    → Enters e.from old new → 2 * sum (set new.ahead.items end n) + length new.path.items < work_left old
turned_less edges end number n nodes e old new first next l t many a is o =
    let less = (next_edge edges end number n nodes (length old.marks.items) e first next l a is).within in
    let same = entered_ahead e.from old new o in
    let s : sum (set old.ahead.items end n) < sum old.ahead.items =
    sum-set_less old.ahead.items end number n t.is_ahead (omega (arith, less, many)) in
    let q : sum (set new.ahead.items end n) < sum old.ahead.items =
    subst (λ xs. sum (set xs end n) < sum old.ahead.items) (sym same) s in
    omega (arith, q, entered_longer e.from old new o)

-- the edge ahead leads from a node of the path
pub rounds : (edges : List Edge) (end number nodes : ℕ) (e : Edge) (ahead : List ℕ) (marks : List NodeMark)
    (path placed : List ℕ) → IsWalked edges ahead marks path placed → IsTurn edges ahead marks path end number
    → IsAheadEdge nodes edges end (number - 1) e → slice_get marks e.from ≡ Some Open → IsRound edges e.from
    path
rounds edges end number nodes e ahead marks path placed h t a is_open = record {
  there = h.opened e.from is_open;
  behind = behind_end edges end number nodes e ahead marks path t a;
  leads = h.path_leads;
}
