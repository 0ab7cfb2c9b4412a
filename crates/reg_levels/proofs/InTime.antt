-- Reads and the writes of their values, by the table of the clusters.
use Rattle.std.proofs.Common.{◌≡◌, ℕ, ◌<◌, List, length, slice_get, get_or, Option, Some, None, true, false}
use Rattle.std.proofs.Common.{inl, inr, refl, sym, ap, ◌∙◌, subst, arith}
use Rattle.std.proofs.lemmas.Option.{slice_get_read, slice_get_within}
use Rattle.history_model.specs.Legal.{MustKeep}
use Rattle.history_model.specs.Operations.{IsHistory, is_write, value_of}
use Rattle.history_model.specs.declared.guarantee.Guarantee.{Guarantee}
use Rattle.history_model.specs.declared.operation.Operation.{Operation}
use Rattle.level_laws.specs.Leads.{IsTooEarly}
use Rattle.reg_levels.proofs.OrderGraphLemmas.Places.{place-same}
use Rattle.reg_levels.proofs.ClusterLemmas.Places.{at-In, at-get, at-is, nothing}
use Rattle.reg_levels.specs.Clusters.Places.{IsAt}
use Rattle.reg_levels.specs.Clusters.Table.{IsClusterTable, IsEnds}
use Rattle.reg_levels.specs.declared.clusters.table.ClusterEnds.{ClusterEnds}
use Rattle.reg_zones.specs.Clusters.{IsInCluster, IsKept}

-- the cluster of the operation at a place
pub record HasCluster (ops : List Operation) (clusters : List ClusterEnds) (k : ℕ) (a : Operation) (c :
    ClusterEnds)
    : Type 0 where
  pub at : slice_get clusters k ≡ Some c
  pub write : Operation
  pub ends : IsEnds ops write c
  pub member : IsInCluster ops (value_of write) a

pub number_below : (ops : List Operation) (clusters : List ClusterEnds) (numbers : List (Option ℕ))
    → IsClusterTable ops clusters numbers → (p k : ℕ) (a : Operation) → IsAt ops p a
    → slice_get numbers p ≡ Some (Some k) → k < length clusters
number_below ops clusters numbers t p k a at e =
    let m = t.member p k a at e in slice_get_within clusters k m.0 m.2

pub cluster_is : (ops : List Operation) (clusters : List ClusterEnds) (numbers : List (Option ℕ))
    → IsClusterTable ops clusters numbers → (p k : ℕ) (a : Operation) (c : ClusterEnds) → IsAt ops p a
    → slice_get numbers p ≡ Some (Some k) → c ≡ get_or clusters k c → HasCluster ops clusters k a c
cluster_is ops clusters numbers t p k a c at e is =
    let m = t.member p k a at e in
    let here : slice_get clusters k ≡ Some c =
    slice_get_read clusters (length clusters) k c refl (slice_get_within clusters k m.0 m.2) is in
    let same : m.0 ≡ c = place-same clusters k m.0 c m.2 here in
    record { at = here; write = m.1; ends = subst (IsEnds ops m.1) same m.3; member = m.4 }

-- a read that must come before the write of its value is of that write's cluster
pub early_in : (ops : List Operation) → IsHistory ops → (g : Guarantee) (clusters : List ClusterEnds) (k : ℕ)
    (r w : Operation) (c : ClusterEnds) → IsTooEarly g ops r w → (h : HasCluster ops clusters k r c) →
    h.write ≡ w
early_in ops y g clusters k r w c early h =
    y.values h.write w h.ends.kept.within early.write_within h.ends.kept.write early.write
    (sym h.member.value ∙ early.read.value)

pub early_kept : (g : Guarantee) (ops : List Operation) (r w : Operation) → IsTooEarly g ops r w
    → IsKept ops w × IsInCluster ops (value_of w) r
early_kept g ops r w e = (
  record { within = e.write_within; write = e.write; kept = inr (r, e.within, e.read) },
  record { within = e.within; value = e.read.value; counts = inr e.read.completed },
)

-- a read of a cluster is completed
pub too_early_read : (ops : List Operation) (clusters : List ClusterEnds) (k : ℕ) (r : Operation) (c :
    ClusterEnds)
    → (h : HasCluster ops clusters k r c) → is_write r ≡ false → (g : Guarantee) → MustKeep g r h.write
    → IsTooEarly g ops r h.write
too_early_read ops clusters k r c h read g must = record {
  within = h.member.within;
  write_within = h.ends.kept.within;
  write = h.ends.kept.write;
  read = record {
    read = read;
    completed =
        elim (h.member.counts) [
          | inl w ↦ absurd (let z = sym read ∙ w in cc z)
          | inr d ↦ d
        ];
    value = h.member.value;
  };
  must = must;
}

-- somebody called a read
pub read_called : (ops : List Operation) → IsHistory ops → (a : Operation) (p : ℕ) → IsAt ops p a
    → is_write a ≡ false → a.process ≡ None → ⊥
read_called ops y a p at read nobody =
    let same = y.initial a (at-In ops p a at) nobody in
    let w : is_write a ≡ true = ap is_write same in
    absurd (let z = sym read ∙ w in cc z)

number_at : (numbers : List (Option ℕ)) (p k : ℕ) (o : Option ℕ) → p < length numbers → o ≡ get_or numbers p o
    → o ≡ Some k → slice_get numbers p ≡ Some (Some k)
number_at numbers p k o l is some =
    slice_get_read numbers (length numbers) p o refl l is ∙ ap Some some

-- what code reads of the cluster of the operation at a place
pub number_read : (ops : List Operation) (clusters : List ClusterEnds) (numbers : List (Option ℕ))
    → IsClusterTable ops clusters numbers → (p k : ℕ) (o : Option ℕ) → p < length ops → o ≡ get_or numbers p o
    → o ≡ Some k → k < length clusters
number_read ops clusters numbers t p k o l is some =
    number_below ops clusters numbers t p k (get_or ops p nothing) (at-get ops p l)
    (number_at numbers p k o (omega (arith, l, t.places)) is some)

pub cluster_read : (ops : List Operation) (clusters : List ClusterEnds) (numbers : List (Option ℕ))
    → IsClusterTable ops clusters numbers → (p k : ℕ) (o : Option ℕ) (c : ClusterEnds) → p < length ops
    → o ≡ get_or numbers p o → o ≡ Some k → c ≡ get_or clusters k c
    → HasCluster ops clusters k (get_or ops p nothing) c
cluster_read ops clusters numbers t p k o c l is some read =
    cluster_is ops clusters numbers t p k (get_or ops p nothing) c (at-get ops p l)
    (number_at numbers p k o (omega (arith, l, t.places)) is some) read

-- what code reads of the write of a cluster
pub write_read : (ops : List Operation) (clusters : List ClusterEnds) (k : ℕ) (a : Operation) (c :
    ClusterEnds)
    → (h : HasCluster ops clusters k a c) → get_or ops c.write nothing ≡ h.write
write_read ops clusters k a c h = at-is ops c.write h.write h.ends.at_write
