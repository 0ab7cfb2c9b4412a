-- The marks of operations, and the clusters of reads.
use Rattle.std.proofs.Common.{◌≡◌, ℕ, ◌+◌, List, [], ◌∷◌, ◌++◌, length, slice_get, Option, Some, None}
use Rattle.std.proofs.Common.{inl, inr, sym, ap, subst, ◌∙◌, arith}
use Rattle.history_model.specs.Operations.{IsHistory, IsCompletedRead, value_of}
use Rattle.history_model.specs.declared.operation.Operation.{Operation}
use Rattle.reg_zones.specs.Clusters.{HasFirstReply, first_reply}
use Rattle.reg_levels.specs.Clusters.Places.{IsAt}
use Rattle.reg_levels.specs.Clusters.Table.{IsClusterTable, ends_of}
use Rattle.reg_levels.specs.declared.clusters.table.ClusterEnds.{ClusterEnds}
use Rattle.reg_levels.proofs.ClusterLemmas.Places.{at-In}
use Rattle.reg_levels.proofs.ClusterLemmas.Pushes.{length-push, get-push_cases}
use Rattle.reg_levels.proofs.ClusterLemmas.Tables.{ends-known, ends-unknown}
use Rattle.reg_levels.specs.Counts.Marks.{AreMarks, IsMarkFound, IsReadEnds}
use Rattle.reg_levels.specs.Counts.Staleness.{Gave}
use Rattle.reg_levels.specs.declared.counts.mark.Mark.{Mark}

module _ (ops : List Operation) (y : IsHistory ops) (clusters : List ClusterEnds) (numbers : List (Option ℕ))
    (h : IsClusterTable ops clusters numbers) (p : ℕ) (a : Operation) (at : IsAt ops p a) where
  -- a completed read is in a cluster
  pub read-ends : (found : Option ClusterEnds) → ends_of clusters numbers p ≡ found → IsCompletedRead a
      → IsReadEnds ops a found
  read-ends None e d = absurd (h.written a (record {
    within = at-In ops p a at;
    read = d;
    unwritten = λ w i k o. ends-unknown ops y clusters numbers h p a at e w
        (record { within = i; write = k; kept = inr (a, at-In ops p a at, o) })
        (record { within = at-In ops p a at; value = o.value; counts = inr d.completed });
  }))
  read-ends (Some c) e d = (d, ends-known ops y clusters numbers h p a at c e)

-- the first reply of a completed read's cluster
pub ends-reply : (ops : List Operation) (a : Operation) (c : ClusterEnds) → IsReadEnds ops a (Some c)
    → c.first_reply ≡ first_reply ops (value_of a)
ends-reply ops a c h = h.1.1.reply_is ∙ ap (first_reply ops) (sym h.1.2.value)

-- and the operation that has it
pub ends-first : (ops : List Operation) (a : Operation) (c : ClusterEnds) → IsReadEnds ops a (Some c)
    → (s : Operation) × IsAt ops c.first s × HasFirstReply ops (value_of a) s
ends-first ops a c h =
    let s = h.1.1.at_first in
    (s.0, s.1, subst (λ v. HasFirstReply ops v s.0) (sym h.1.2.value) s.2)

pub read-marked : (ops : List Operation) (p : ℕ) (a : Operation) (c : ClusterEnds) (m : Mark)
    → IsReadEnds ops a (Some c) → m.newer ≡ c.write → ((w : Operation) → IsAt ops c.write w → m.key ≡ w.call)
    → m.rank ≡ a.reply → m.place ≡ p → IsMarkFound Gave ops p a (Some m)
read-marked ops p a c m h n k r e =
    let w = h.1.0 in
    let ends = h.1.1 in (
      w,
      subst (λ q. IsAt ops q w) (sym n) ends.at_write,
      ends.kept.write,
      record { read = h.0.read; completed = h.0.completed; value = h.1.2.value },
      k w ends.at_write,
      r,
      e,
    )
