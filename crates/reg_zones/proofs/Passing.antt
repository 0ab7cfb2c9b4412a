-- The pass over low ends along a register's events.
use Rattle.std.proofs.Common.{◌≡◌, ℕ, ◌+◌, ◌-◌, ◌<◌, ◌≤◌, Option, Some, None}
use Rattle.std.proofs.Common.{List, inl, refl, sym, ap, subst, ◌∙◌, arith}
use Rattle.history_model.specs.declared.ids.EvId.{EvId}
use Rattle.history_model.specs.History.{History}
use Rattle.history_model.specs.Operations.{of_register, operations, initial_write, value_of}
use Rattle.history_model.specs.declared.operation.Operation.{Operation}
use Rattle.history_model.specs.Walking.{IsFirstOf, IsNextOf, IsLeastFrom, by_register, key_at}
use Rattle.reg_zones.specs.declared.zone.Cluster.{Cluster}
use Rattle.reg_zones.specs.declared.pass.Compared.{Compared}
use Rattle.reg_zones.specs.declared.pass.Compared.TheVariants.{Clear, Conflict}
use Rattle.reg_zones.specs.Clusters.{IsKept, IsForward, low_end}
use Rattle.reg_zones.proofs.Known.{IsKnown}
use Rattle.reg_zones.specs.Sweep.{AreCompared, AreFirstConflict, IsClusterOf}
use Rattle.reg_zones.specs.Sweep.{IsConflictFound, IsLastMet, AreClear, conflict_in}
use Rattle.reg_zones.proofs.Ends.{first_reply-le}
use Rattle.reg_zones.proofs.Registers.{no_low_end, initial_low}
use Rattle.reg_zones.proofs.OnePass.{forward-from, forward-to, gap, ended}

-- a time comes before the event at which the pass stands
abbrev pub IsBefore : ℕ → Option EvId → Type 0
IsBefore n None = Unit {0}
IsBefore n (Some id) = n < id.0 + 2

-- the pass has met each low end before a time, and from there to the next event there is none
pub record IsPassing (ops : List Operation) (last : Option Cluster) (next : Option EvId) : Type 0 where
  pub time : ℕ
  pub met : AreClear ops time last
  pub reach : (id : EvId) → next ≡ Some id → time ≤ id.0 + 2
  pub clear : (w : Operation) → IsKept ops w → time ≤ low_end ops (value_of w)
      → IsBefore (low_end ops (value_of w)) next → ⊥

-- as far as the next event, the pass has met each low end, or a conflict
abbrev pub IsComparing : List Operation → Compared → Option EvId → Type 0
IsComparing ops (Clear last) next = IsPassing ops last next
IsComparing ops (Conflict first second) next = AreFirstConflict ops first second

module _ (h : History) (r : ℕ) (y : IsKnown h r) where
  -- where the event at place i isn't of the register, no low end has its time
  none_at : (w : Operation) → IsKept (of_register r (operations h)) w
      → 2 ≤ low_end (of_register r (operations h)) (value_of w)
      → (key_at by_register h.events (low_end (of_register r (operations h)) (value_of w) - 2) ≡ Some r → ⊥)
      → ⊥
  none_at w k l none =
      no_low_end h r y (low_end (of_register r (operations h)) (value_of w) - 2) w none k (omega arith)

  from_least : (n : ℕ) (last : Option Cluster) (next : Option EvId)
      → AreClear (of_register r (operations h)) (n + 2) last
      → IsLeastFrom (λ j. key_at by_register h.events j ≡ Some r) n next
      → IsPassing (of_register r (operations h)) last next
  from_least n last None m f = record {
    time = n + 2;
    met = m;
    reach = λ id e. absurd (cc e);
    clear =
        λ w k l b. none_at w k (omega arith)
        (f (low_end (of_register r (operations h)) (value_of w) - 2) (omega arith));
  }
  from_least n last (Some j) m f = record {
    time = n + 2;
    met = m;
    reach =
        λ id e. let same : j ≡ id = cc e in subst (λ (x : EvId). n + 2 ≤ x.0 + 2) same (omega (arith, f.0));
    clear =
        λ w k l b. none_at w k (omega arith)
        (f.2 (low_end (of_register r (operations h)) (value_of w) - 2) (omega arith) (omega arith));
  }

  -- before all events the initial cluster alone has been met
  met_initial : (last : Option Cluster) → IsLastMet (of_register r (operations h)) 2 last
      → AreClear (of_register r (operations h)) 2 last
  met_initial last l = record {
    clear =
        λ v w q lt b. q.differ (let a = initial_low h r y v q.left (omega arith) in
        let e = initial_low h r y w q.right b in ap value_of (a ∙ sym e));
    last = l;
  }

  initial_low_end : low_end (of_register r (operations h)) (value_of (initial_write r)) < 2
  initial_low_end =
      let ops = of_register r (operations h) in
      let l = first_reply-le ops (value_of (initial_write r)) (initial_write r) (record {
        within = y.initial;
        value = refl;
        counts = inl refl;
      }) in
      omega (arith, l)

  pub met_forward : (c : Cluster) → IsClusterOf (of_register r (operations h)) (initial_write r) c
      → c.zone.f < c.zone.s → AreClear (of_register r (operations h)) 2 (Some c)
  met_forward c k f =
      let ops = of_register r (operations h) in
      met_initial (Some c) (
        initial_write r,
        k,
        record {
          kept = k.kept;
          forward = forward-from ops (initial_write r) c k f;
          below = initial_low_end;
          last =
              λ u ku fu b. let e =
              initial_low h r y u ku b in let s =
              ap (λ (o : Operation). low_end ops (value_of o)) e in omega (arith, s);
        },
      )

  pub met_backward : (c : Cluster) → IsClusterOf (of_register r (operations h)) (initial_write r) c
      → (c.zone.f < c.zone.s → ⊥) → AreClear (of_register r (operations h)) 2 None
  met_backward c k f =
      let ops = of_register r (operations h) in
      met_initial None (λ u ku fu b.
      f (forward-to ops (initial_write r) c k
      (subst (λ (o : Operation). IsForward ops (value_of o)) (initial_low h r y u ku b) fu)))

  -- ---- a loop over the events

  pub comparing-start : (last : Option Cluster) (next : Option EvId)
      → AreClear (of_register r (operations h)) 2 last → IsFirstOf by_register h.events r next
      → IsComparing (of_register r (operations h)) (Clear last) next
  comparing-start last next m f = from_least 0 last next m f

  -- what the pass knows at the event where it stands
  pub comparing-here : (clusters : Compared) (id : EvId)
      → IsComparing (of_register r (operations h)) clusters (Some id)
      → AreCompared (of_register r (operations h)) (id.0 + 2) clusters
  comparing-here (Clear last) id p =
      gap (of_register r (operations h)) p.time (id.0 + 2) last (p.reach id refl) p.clear p.met
  comparing-here (Conflict first second) id p = p

  pub comparing-more : (clusters : Compared) (id : EvId) (next : Option EvId)
      → key_at by_register h.events id.0 ≡ Some r
      → AreCompared (of_register r (operations h)) (id.0 + 3) clusters
      → IsNextOf by_register h.events id.0 next → IsComparing (of_register r (operations h)) clusters next
  comparing-more (Clear last) id next k m n =
      let e : id.0 + 3 ≡ id.0 + 1 + 2 = omega arith in
      from_least (id.0 + 1) last next
      (subst (λ t. AreClear (of_register r (operations h)) t last) e m) (n r k)
  comparing-more (Conflict first second) id next k m n = m

  pub comparing-over : (clusters : Compared) → IsComparing (of_register r (operations h)) clusters None
      → IsConflictFound (of_register r (operations h)) (conflict_in clusters)
  comparing-over (Clear last) p =
      ended (of_register r (operations h)) y.history p.time last (λ w k l. p.clear w k l tt) p.met
  comparing-over (Conflict first second) p = p
