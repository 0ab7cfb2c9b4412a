-- The writes that are known of are kept, and completed reads have the writes of their values.
use Rattle.std.proofs.Common.{◌≡◌, ℕ, ◌<◌, Bool, true, false, List, [], ◌∷◌}
use Rattle.std.proofs.Common.{slice_get, Option, Some, None, inl, inr, refl, ap, arith}
use Rattle.std.proofs.lemmas.Option.{slice_get_within}
use Rattle.history_model.specs.Lists.{In}
use Rattle.history_model.specs.Operations.{IsCompletedRead, IsWrite}
use Rattle.history_model.specs.declared.operation.Operation.{Operation}
use Rattle.reg_levels.proofs.OrderGraphLemmas.Places.{place-inside}
use Rattle.level_laws.specs.Causal.{IsKeptWrite, IsSource, Knows, Learns}
use Rattle.causal_order.specs.SessionClocks.Sessions.{HasSource, IsAt, IsSourceAt}
use Rattle.causal_order.specs.declared.session_clocks.table.SessionTable.{SessionTable}
use Rattle.causal_order.specs.CausalGraph.{IsTableOf}
use Rattle.causal_order.proofs.Forward.{in_way}
use Rattle.causal_order.proofs.Places.{In-register, initial-is, initial-write}

module _ (ops : List Operation) (table : SessionTable) (t : IsTableOf ops table) where
  -- a pending operation is followed by nothing in its session
  pending_last : (a b : Operation) (x : ℕ) → In a ops → In b ops → a.process ≡ Some x → b.process ≡ Some x
      → a.call < b.call → a.completed ≡ false → ⊥
  pending_last a b x i j xa xb l p =
      let later = t.whole.pending a b i j p in
      let life = (t.whole.each b.register).life b (In-register ops b j) in
      elim (t.whole.turns a b x i j xa xb) [
        | inl e ↦ let c = ap (λ (z : Operation). z.call) e in absurd (omega (arith, l, c))
        | inr o ↦ elim o [
          | inl before ↦ omega (arith, before, later)
          | inr after ↦ omega (arith, after, life, l)
        ]
      ]

  pub initial_kept : (a : Operation) → In a ops → a.process ≡ None → IsKeptWrite ops a
  initial_kept a i e = record {
    within = i;
    write = initial-write ops t.whole a i e;
    kept = inl (ap (λ (z : Operation). z.completed) (initial-is ops t.whole a i e));
  }

  -- a write that is known of is kept
  learns_kept : (a b : Operation) → In a ops → In b ops → IsWrite a → Learns a b → IsKeptWrite ops a
  learns_kept a b i j w (inl (inl (x, ya, yb, l))) = go a.completed refl
    where
      go : (c : Bool) → a.completed ≡ c → IsKeptWrite ops a
      go true e = record { within = i; write = w; kept = inl e }
      go false e = absurd (pending_last a b x i j ya yb l e)
  learns_kept a b i j w (inl (inr (none, called))) = initial_kept a i none
  learns_kept a b i j w (inr source) = record { within = i; write = w; kept = inr (b, j, source) }

  pub knows_kept : (a b : Operation) → IsWrite a → Knows ops a b → IsKeptWrite ops a
  knows_kept a b w ([], way) = learns_kept a b way.0 way.1 w way.2
  knows_kept a b w (c ∷ rest, way) = learns_kept a c way.0 (in_way ops c rest b way.2) w way.1

  -- the write of a completed read's value
  pub source_of : (r : Operation) (p : ℕ) → IsAt ops p r → IsCompletedRead r
      → (s : ℕ) × (w : Operation) × HasSource table p s × IsAt ops s w × IsSource w r
  source_of r p at read =
      let l = slice_get_within ops p r at in
      let found = place-inside table.sources.items p (omega (arith, l, t.is_table.sources)) in
      go found.0 found.1 (t.is_table.each_source p r found.0 at found.1)
    where
      go : (found : Option ℕ) → slice_get table.sources.items p ≡ Some found → IsSourceAt ops r found
          → (s : ℕ) × (w : Operation) × HasSource table p s × IsAt ops s w × IsSource w r
      go None e none = absurd (none read)
      go (Some s) e (w, there, source) = (s, w, e, there, source)
