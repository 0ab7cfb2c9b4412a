-- What several threads gave, in order, is what the closure gave at each item or part.
use Rattle.std.proofs.Common.{
  ◌≡◌,
  ℕ,
  zero,
  suc,
  ◌<◌,
  List,
  [],
  ◌∷◌,
  ◌++◌,
  map,
  length,
  slice_index_or,
  Result,
  Ok,
  Err,
  Vec,
  Global,
  ap,
  sym,
  subst,
  refl,
  ◌∙◌,
  arith,
}
use Rattle.std.proofs.lemmas.List.{append_assoc}
use Rattle.rayon.specs.Lists.{chunks_of}
use Rattle.rayon.proofs.ToStd.{chunks_of-concat}
use Rattle.std.specs.Prelude.{IfOk, MatchResult, Contains, flat_map}
use Rattle.std.specs.List.{AllZip}
use Rattle.parallel.specs.Parts.{GivesEach, IsPartOf}
use denote.Ref.{Bor}
use denote.Param.Members.{Shared}

module _ {F X Y E : Type 0} (g : Shared F (Bor X × Unit {0}) (Result Y E)) (f : F) where
  abbrev Gave : Bor X → Result Y E → Type 0
  Gave shown given = g.post f (shown, tt) given

  all-ok : (zs : List (Bor X)) (ys : List Y) → AllZip Gave zs (map Ok ys)
      → GivesEach g f (map (λ (z : Bor X). z.now) zs) ys
  all-ok [] [] h = tt
  all-ok [] (y ∷ ys) h = absurd h
  all-ok (z ∷ zs) [] h = absurd h
  all-ok (z ∷ zs) (y ∷ ys) h =
      (record { shown = z; shows = refl; says = record { met = h.0 } }, all-ok zs ys h.1)

  -- from what `collect` says of each answer and of what it made of them
  pub given : (zs : List (Bor X)) (each : List (Result Y E)) (made : Result (Vec Y Global) E)
      → AllZip Gave zs each
      → MatchResult made
      (λ v. (ys : List Y) × (each ≡ map Ok ys) × (v.items ≡ ys))
      (λ e. Contains each (Err e))
      → IfOk made (λ v. GivesEach g f (map (λ (z : Bor X). z.now) zs) v.items)
  given zs each (Ok v) is got =
      subst (GivesEach g f (map (λ (z : Bor X). z.now) zs)) (sym got.2)
      (all-ok zs got.0 (subst (AllZip Gave zs) got.1 is))
  given zs each (Err e) is got = tt

module _ {X : Type 0} where
  part-of-all : (parts : List (List X)) (k : ℕ) (d : List X) → k < length parts
      → IsPartOf (flat_map (λ (part : List X). part) parts) (slice_index_or parts k d)
  part-of-all [] k d lt = absurd (omega arith)
  part-of-all (p ∷ ps) zero d lt = ([], flat_map (λ (part : List X). part) ps, refl)
  part-of-all (p ∷ ps) (suc k) d lt =
      let rest = part-of-all ps k d (omega arith) in (
        p ++ rest.0,
        rest.1,
        ap (λ l. p ++ l) rest.2 ∙ sym (append_assoc p rest.0 (slice_index_or ps k d ++ rest.1)),
      )

  pub chunk-is-part : (size : ℕ) (xs : List X) → 0 < size → (k : ℕ) (d : List X)
      → k < length (chunks_of size xs)
      → IsPartOf xs (slice_index_or (chunks_of size xs) k d)
  chunk-is-part size xs pos k d lt =
      subst (λ l. IsPartOf l (slice_index_or (chunks_of size xs) k d)) (chunks_of-concat size xs pos)
      (part-of-all (chunks_of size xs) k d lt)
