-- What a walk over the events of a register keeps: what was shown of each event so far.
use Rattle.std.proofs.Common.{◌≡◌, ℕ, ◌+◌, ◌<◌, List, Option, Some, None, length}
use Rattle.std.proofs.Common.{inl, inr, refl, sym, subst, arith, option_and_then}
use Rattle.std.proofs.lemmas.Bool.{cases_order}
use Rattle.std.proofs.lemmas.Option.{slice_get_within}
use Rattle.std.specs.List.{slice_get}
use Rattle.history_text.specs.declared.event.Val.{Val}
use Rattle.history_model.specs.declared.event.Event.{Event}
use Rattle.history_model.specs.declared.ids.EvId.{EvId}
use Rattle.history_model.specs.Walking.{IsLeastFrom, IsFirstOf, IsNextOf}
use Rattle.history_model.specs.Walking.{by_register, by_value, key_at, walk_left}
use Rattle.history_model.proofs.Walking.{walk-ends}

-- an event is behind the walk
abbrev pub IsPassed : ℕ → Option EvId → Type 0
IsPassed i None = Unit {0}
IsPassed i (Some id) = i < id.0

-- a walk over the events of register r that stands at `next`, with Q shown of each event behind
pub record IsWalk (events : List Event) (r : ℕ) (Q : ℕ → Type 0) (next : Option EvId) : Type 0 where
  pub here : (id : EvId) → next ≡ Some id → key_at by_register events id.0 ≡ Some r
  pub behind : (i : ℕ) → key_at by_register events i ≡ Some r → IsPassed i next → Q i

pub key-within : (events : List Event) (i r : ℕ) → key_at by_register events i ≡ Some r → i < length events
key-within events i r k = go (slice_get events i) refl k
  where
    go : (s : Option Event) → slice_get events i ≡ s → option_and_then by_register s ≡ Some r
        → i < length events
    go None q n = absurd (cc n)
    go (Some e) q n = slice_get_within events i e q

pub value-within : (events : List Event) (i : ℕ) (k : ℕ × Val) → key_at by_value events i ≡ Some k
    → i < length events
value-within events i k e = go (slice_get events i) refl e
  where
    go : (s : Option Event) → slice_get events i ≡ s → option_and_then by_value s ≡ Some k → i < length events
    go None q n = absurd (cc n)
    go (Some x) q n = slice_get_within events i x q

module _ (events : List Event) (r : ℕ) (Q : ℕ → Type 0) where
  pub walk-start : (next : Option EvId) → IsFirstOf by_register events r next → IsWalk events r Q next
  walk-start None f = record { here = λ id e. absurd (cc e); behind = λ i k p. absurd (f i (omega arith) k) }
  walk-start (Some id) f = record {
    here =
        λ j e. let same : id ≡ j =
        cc e in subst (λ (x : EvId). key_at by_register events x.0 ≡ Some r) same f.1;
    behind = λ i k p. absurd (f.2 i (omega arith) p k);
  }

  walk-least : (n : ℕ) (id : EvId) → IsWalk events r Q (Some id) → Q id.0 → (next : Option EvId)
      → IsLeastFrom (λ j. key_at by_register events j ≡ Some r) (id.0 + 1) next → IsWalk events r Q next
  walk-least n id w q None f = record {
    here = λ j e. absurd (cc e);
    behind = λ i k p. elim (cases_order i id.0) [
      | inl e ↦ subst Q (sym e) q
      | inr o ↦ elim o [ inl lt ↦ w.behind i k lt | inr gt ↦ absurd (f i (omega arith) k) ]
    ];
  }
  walk-least n id w q (Some j) f = record {
    here =
        λ m e. let same : j ≡ m =
        cc e in subst (λ (x : EvId). key_at by_register events x.0 ≡ Some r) same f.1;
    behind = λ i k p. elim (cases_order i id.0) [
      | inl e ↦ subst Q (sym e) q
      | inr o ↦ elim o [ inl lt ↦ w.behind i k lt | inr gt ↦ absurd (f.2 i (omega arith) p k) ]
    ];
  }

  pub walk-more : (id : EvId) (next : Option EvId) → IsWalk events r Q (Some id) → Q id.0
      → IsNextOf by_register events id.0 next → IsWalk events r Q next
  walk-more id next w q n = walk-least 0 id w q next (n r (w.here id refl))

  pub walk-end : IsWalk events r Q None → (i : ℕ) → key_at by_register events i ≡ Some r → Q i
  walk-end w i k = w.behind i k tt

-- ---- a loop that stands at `next`

module _ {events : List Event} {r : ℕ} {Q : ℕ
    → Type 0} {next : Option EvId} {id : EvId} (w : IsWalk events r Q next) (e : next ≡ Some id) where
  pub met-here : IsWalk events r Q (Some id)
  met-here = subst (IsWalk events r Q) e w

  pub met-more : (after : Option EvId) → Q id.0 → IsNextOf by_register events id.0 after
      → IsWalk events r Q after
  met-more after q n = walk-more events r Q id after met-here q n

  pub met-smaller : (after : Option EvId) → IsNextOf by_register events id.0 after
      → walk_left events after < walk_left events next
  met-smaller after n =
      subst (λ (o : Option EvId). walk_left events after < walk_left events o) (sym e)
      (walk-ends r events id after (w.here id e) n)

pub walk-over : {events : List Event} {r : ℕ} {Q : ℕ → Type 0} {next : Option EvId} → IsWalk events r Q next
    → next ≡ None → IsWalk events r Q None
walk-over {events} {r} {Q} w e = subst (IsWalk events r Q) e w
