-- A search back from a read: what it met, and the way from there to the read.
use Rattle.std.proofs.Common.{◌≡◌, ℕ, suc, ◌<◌, List, [], ◌∷◌, ◌++◌, length, slice_get, slice_index_or}
use Rattle.std.proofs.Common.{Option, Some, ◌⊎◌, inl, inr}
use Rattle.std.proofs.Common.{refl, sym, ap, ◌∙◌, subst, arith}
use Rattle.std.proofs.lemmas.List.{length-append}
use Rattle.std.proofs.lemmas.Option.{slice_get_read, slice_get_within}
use Rattle.reg_levels.proofs.OrderGraphLemmas.Places.{place-push_cases, place-push_kept, place-same}
use Rattle.causal_order.specs.SessionClocks.Clocks.{Asks, IsTableInRange}
use Rattle.causal_order.specs.declared.session_clocks.table.SessionTable.{SessionTable}
use Rattle.causal_order.specs.Ways.{AreMet, IsFound, LeadTo}
use Rattle.causal_order.specs.declared.knew.MetPlace.{MetPlace}

-- ---- what was met

pub met-none : (table : SessionTable) (start : ℕ) (met : List MetPlace) → start < length table.previous.items
    → met ≡ record { place = start; by = 0 } ∷ [] → AreMet table start met
met-none table start met l e =
    let one : List MetPlace = record { place = start; by = 0 } ∷ [] in
    subst (AreMet table start) (sym e) (record {
      first = λ m a. let q : record { place = start; by = 0 } ≡ m = cc a in ap (λ (x : MetPlace). x.place)
          (sym
          q);
      some = omega arith;
      among =
          λ i m a. elim (place-push_cases [] (record { place = start; by = 0 }) i m a) [
            | inl k ↦ absurd (cc k)
            | inr k ↦ subst (λ (x : MetPlace). x.place < length table.previous.items) (sym k.1) l
          ];
      before = λ i m a. absurd (omega (arith, slice_get_within one (suc i) m a));
      leads = λ i m n a b. absurd (omega (arith, slice_get_within one (suc i) m a));
    })

pub met-grows : (table : SessionTable) (start : ℕ) (met : List MetPlace) (by d : ℕ) (at : MetPlace)
    → AreMet table start met → slice_get met by ≡ Some at → Asks table at.place d
    → d < length table.previous.items → AreMet table start (met ++ record { place = d; by = by } ∷ [])
met-grows table start met by d at h there asks l =
    let new : MetPlace = record { place = d; by = by } in
    let within = slice_get_within met by at there in
    record {
      first =
          λ m a. elim (place-push_cases met new 0 m a) [
            | inl k ↦ h.first m k
            | inr k ↦ absurd (omega (arith, k.0, h.some))
          ];
      some = omega (arith, h.some, length-append met (new ∷ []));
      among =
          λ i m a. elim (place-push_cases met new i m a) [
            | inl k ↦ h.among i m k
            | inr k ↦ subst (λ (x : MetPlace). x.place < length table.previous.items) (sym k.1) l
          ];
      before =
          λ i m a. elim (place-push_cases met new (suc i) m a) [
            | inl k ↦ h.before i m k
            | inr k ↦ subst (λ (x : MetPlace). x.by < suc i) (sym k.1) (omega (arith, within, k.0))
          ];
      leads =
          λ i m n a b. elim (place-push_cases met new (suc i) m a) [
            | inl k ↦
                elim (place-push_cases met new m.by n b) [
                  | inl j ↦ h.leads i m n k j
                  | inr j ↦ absurd (omega (arith, j.0, h.before i m k, slice_get_within met (suc i) m k))
                ]
            | inr k ↦
                let here : slice_get (met ++ new ∷ []) by ≡ Some n =
                subst (λ (x : MetPlace). slice_get (met ++ new ∷ []) x.by ≡ Some n) k.1 b in
                let same : at ≡ n = place-same (met ++ new ∷ []) by at n (place-push_kept met new by
                at there) here in
                subst (λ (x : MetPlace). Asks table n.place x.place) (sym k.1)
                (subst (λ (x : MetPlace). Asks table x.place d) same asks)
          ];
    }

-- one more place, or none
abbrev pub IsNoted : List MetPlace → List MetPlace → Option ℕ → ℕ → Type 0
IsNoted old new place by = (new ≡ old)
    ⊎ ((d : ℕ) × (place ≡ Some d) × (new ≡ old ++ record { place = d; by = by } ∷ []))

-- what stands at a place stays there
pub met-kept : (old new : List MetPlace) (place : Option ℕ) (by : ℕ) → IsNoted old new place by → (i : ℕ)
    → (m : MetPlace) → slice_get old i ≡ Some m → slice_get new i ≡ Some m
met-kept old new place by (inl e) i m a = subst (λ xs. slice_get xs i ≡ Some m) (sym e) a
met-kept old new place by (inr (d, p, e)) i m a =
    subst (λ xs. slice_get xs i ≡ Some m) (sym e) (place-push_kept old (record { place = d; by = by }) i m a)

pub met-noted : (table : SessionTable) (start : ℕ) (old new : List MetPlace) (place : Option ℕ) (by : ℕ)
    (at : MetPlace) → AreMet table start old → slice_get old by ≡ Some at
    → ((d : ℕ) → place ≡ Some d → Asks table at.place d × (d < length table.previous.items))
    → IsNoted old new place by → AreMet table start new
met-noted table start old new place by at h there asks (inl e) = subst (AreMet table start) (sym e) h
met-noted table start old new place by at h there asks (inr (d, p, e)) =
    subst (AreMet table start) (sym e) (met-grows table start old by d at h there (asks d p).0 (asks d p).1)

-- ---- the way back

leads-push : (table : SessionTable) (p : ℕ) (between : List ℕ) (d q : ℕ) → LeadTo table p between d
    → Asks table q d → LeadTo table p (between ++ d ∷ []) q
leads-push table p [] d q h a = (h, a)
leads-push table p (e ∷ between) d q h a = (h.0, leads-push table e between d q h.1 a)

-- the places from p on, whose last one leads to what was met as the one at `next`
pub record IsTrail (table : SessionTable) (met : List MetPlace) (p next : ℕ) (knew : List ℕ) : Type 0 where
  pub between : List ℕ
  pub places : knew ≡ p ∷ between
  pub leads : (m : MetPlace) → slice_get met next ≡ Some m → LeadTo table p between m.place

pub trail-none : (table : SessionTable) (met : List MetPlace) (p next : ℕ) (knew : List ℕ) (at : MetPlace)
    → knew ≡ p ∷ [] → slice_get met next ≡ Some at → Asks table at.place p → IsTrail table met p next knew
trail-none table met p next knew at e there asks = record {
  between = [];
  places = e;
  leads = λ m a. let same : at ≡ m = place-same met next at m there a in
      subst (λ (x : MetPlace). Asks table x.place p) same asks;
}

pub trail-more : (table : SessionTable) (start : ℕ) (met : List MetPlace) (p i : ℕ) (knew new : List ℕ)
    (at : MetPlace) → AreMet table start met → IsTrail table met p (suc i) knew
    → slice_get met (suc i) ≡ Some at
    → new ≡ knew ++ at.place ∷ [] → IsTrail table met p at.by new
trail-more table start met p i knew new at h t there e = record {
  between = t.between ++ at.place ∷ [];
  places = e ∙ ap (λ xs. xs ++ at.place ∷ []) t.places;
  leads = λ m a. leads-push table p t.between at.place m.place (t.leads at there) (h.leads i at m there a);
}

pub trail-found : (table : SessionTable) (start : ℕ) (met : List MetPlace) (p : ℕ) (knew new : List ℕ)
    (at : MetPlace) → AreMet table start met → IsTrail table met p 0 knew → slice_get met 0 ≡ Some at
    → new ≡ knew ++ at.place ∷ [] → IsFound table p start new
trail-found table start met p knew new at h t there e =
    let same = h.first at there in
    record {
      between = t.between;
      places = e ∙ (ap (λ xs. xs ++ at.place ∷ []) t.places ∙ ap (λ n. p ∷ (t.between ++ n ∷ [])) same);
      leads = subst (LeadTo table p t.between) same (t.leads at there);
    }

-- ---- what an operation that was met learns of at once

pub record IsReached (table : SessionTable) (met : List MetPlace) (i : ℕ) (here : MetPlace) : Type 0 where
  pub at : slice_get met i ≡ Some here
  pub within : here.place < length table.previous.items
  pub previous_asked : (found : Option ℕ) → found ≡ slice_index_or table.previous.items here.place found
      → (d : ℕ) → found ≡ Some d → Asks table here.place d × (d < length table.previous.items)
  pub source_asked : (found : Option ℕ) → found ≡ slice_index_or table.sources.items here.place found
      → (d : ℕ) → found ≡ Some d → Asks table here.place d × (d < length table.previous.items)

pub reached : (table : SessionTable) (met : List MetPlace) (at : ℕ) (here : MetPlace) → IsTableInRange table
    → ((i : ℕ) (m : MetPlace) → slice_get met i ≡ Some m → m.place < length table.previous.items)
    → at < length met → here ≡ slice_index_or met at here → IsReached table met at here
reached table met at here range among within e =
    let there : slice_get met at ≡ Some here = slice_get_read met (length met) at here refl within e in
    let l = among at here there in
    record {
      at = there;
      within = l;
      previous_asked = λ found f d s.
          let is : slice_get table.previous.items here.place ≡ Some found =
          slice_get_read table.previous.items _ here.place found refl l f in
          let asks : Asks table here.place d = inl (is ∙ ap Some s) in
          let b = range.before here.place d asks in (asks, omega (arith, b, range.previous));
      source_asked = λ found f d s.
          let is : slice_get table.sources.items here.place ≡ Some found =
          slice_get_read table.sources.items _ here.place found refl
          (omega (arith, l, range.previous, range.sources)) f in
          let asks : Asks table here.place d = inr (is ∙ ap Some s) in
          let b = range.before here.place d asks in (asks, omega (arith, b, range.previous));
    }

pub asks-found : (table : SessionTable) (old new : List MetPlace) (place : Option ℕ) (by : ℕ) (at : MetPlace)
    (write : ℕ) → slice_get old by ≡ Some at
    → ((d : ℕ) → place ≡ Some d → Asks table at.place d × (d < length table.previous.items))
    → IsNoted old new place by → place ≡ Some write → (m : MetPlace) → slice_get new by ≡ Some m
    → Asks table m.place write
asks-found table old new place by at write there asks noted found m here =
    let same : at ≡ m = place-same new by at m (met-kept old new place by noted by at there) here in
    subst (λ (x : MetPlace). Asks table x.place write) same (asks write found).0
