-- How an event joins the list of its process or its register, by the ends of the lists.
use Rattle.std.proofs.Common.{◌≡◌, ℕ, ◌<◌, List, [], ◌∷◌, ◌++◌, length, set, slice_get}
use Rattle.std.proofs.Common.{Option, Some, None, inl, inr, ap, sym, subst, ◌∙◌}
use Rattle.std.proofs.lemmas.Bool.{cases_eq}
use Rattle.reg_arena.specs.Lists.EventLists.{IsJoined}
use Rattle.reg_arena.specs.Lists.Tables.{IsSetAt, item_at}
use Rattle.reg_arena.specs.declared.event_lists.list_ends.Ends.{Ends}
use Rattle.history_model.specs.declared.ids.EvId.{EvId}
use Rattle.history_model.proofs.Lists.{slice_get-push, slice_get-push_other}
use Rattle.history_model.proofs.Lists.{slice_get-set, slice_get-set_other}
use Rattle.reg_arena.proofs.ListLemmas.Columns.{item-push_none, item-written, item-written_other}

-- the ends at one place of a table are written, or stand behind the others
pub ends-set : (xs : List Ends) (k : ℕ) (e : Ends) → k < length xs
    → IsSetAt k e (slice_get xs) (slice_get (set xs k e))
ends-set xs k e l = record {
  one = slice_get-set xs k e l;
  others = λ q. elim (cases_eq q k) [ inl h ↦ inl h | inr ne ↦ inr (ne, slice_get-set_other xs k q e ne) ];
}

pub ends-pushed : (xs : List Ends) (k : ℕ) (e : Ends) → k ≡ length xs
    → IsSetAt k e (slice_get xs) (slice_get (xs ++ e ∷ []))
ends-pushed xs k e at = record {
  one = ap (slice_get (xs ++ e ∷ [])) at ∙ slice_get-push xs e;
  others =
      λ q. elim (cases_eq q k) [
        | inl h ↦ inl h
        | inr ne ↦ inr (ne, slice_get-push_other xs e q (λ h. ne (h ∙ sym at)))
      ];
}

module _ (links new_links : List (Option EvId)) (ends new_ends : ℕ → Option Ends) (p : ℕ) (id : EvId) where
  pub joined-known : (e : Ends) → ends p ≡ Some e
      → IsSetAt p (record { first = e.first; last = id }) ends new_ends → e.last.0 < length links
      → new_links ≡ set links e.last.0 (Some id) ++ None ∷ []
      → IsJoined p id (item_at links) (item_at new_links) ends new_ends
  joined-known e was u l items = record {
    fresh = λ none. absurd (cc (was, none));
    next = λ d some.
        let same : e ≡ d = cc (was, some) in
        subst (λ (d : Ends). (new_ends p ≡ Some (record { first = d.first; last = id }))
        × (item_at new_links d.last.0 ≡ Some id)
        × ((i : ℕ) → (i ≡ d.last.0 → ⊥) → item_at new_links i ≡ item_at links i)) same (
          u.one,
          ap (λ (xs : List (Option EvId)). item_at xs e.last.0) items
              ∙ item-written links e.last.0 id l,
          λ i ne. ap (λ (xs : List (Option EvId)). item_at xs i) items
              ∙ item-written_other links e.last.0 id i ne,
        );
    others = u.others;
  }

  pub joined-new : ends p ≡ None → IsSetAt p (record { first = id; last = id }) ends new_ends
      → new_links ≡ links ++ None ∷ [] → IsJoined p id (item_at links) (item_at new_links) ends new_ends
  joined-new was u items = record {
    fresh =
        λ none. (u.one, λ i. ap (λ (xs : List (Option EvId)). item_at xs i) items ∙ item-push_none links i);
    next = λ d some. absurd (cc (was, some));
    others = u.others;
  }
