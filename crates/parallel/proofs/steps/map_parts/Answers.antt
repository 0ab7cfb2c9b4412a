-- The parts are chunks of the items, and what they were collected to is what the closure gave at each.
use Rattle.std.proofs.Common.{◌∙◌, ap, sym, subst, arith, max, map}
use Rattle.rayon.specs.Lists.{chunks_of, chunks_size}
use Rattle.rayon.proofs.ListFacts.{IfOk-then}
use Rattle.rayon.proofs.ToStd.{chunks_of-concat}
use Rattle.parallel.specs.Parts.{GivesEach, GivesParts, IsPartOf}
use Rattle.parallel.proofs.Made.{chunk-is-part, given}
use Rattle.parallel.proofs.steps.map_parts.Goals as goal

pub collect-requires-clause-ready : goal.collect-requires-clause-ready
collect-requires-clause-ready g c =
    rw (
      c.map.ensures.base,
      c.map.ensures.f,
      c.with_min_len.ensures.base,
      c.par_chunks.ensures.slice,
      c.par_chunks.ensures.size,
    )
    (λ κs known k d within x shown. (
      c.requires x
          (subst (IsPartOf c.args.items.now) (sym shown)
          (chunk-is-part (max c.max.result 1) c.args.items.now (omega arith) k d within)),
      λ y made. tt,
    ))

pub returns : goal.returns
returns g c =
    let h = c.in_ok-collect.ensures in
    let f = c.map.result.f in
    let made = c.in_ok-collect.field-0 in
    let items = c.args.items.now in
    let size = max (chunks_size c.par_chunks.result) 1 in
    let chunks = ap (λ b. b.base) c.map.ensures.base ∙ c.with_min_len.ensures.base in
    let shown =
    h.1.1
    ∙ (ap (λ b. chunks_of (max (chunks_size b) 1) b.slice.now) chunks
    ∙ ap (chunks_of size) c.par_chunks.ensures.slice) in
    rw (sym c.map.ensures.f)
    (IfOk-then made
    (λ v. GivesEach g.F.Fn f (map (λ z. z.now) h.1.0) v.items)
    (λ v. GivesParts g.F.Fn f items v.items)
    (given g.F.Fn f h.1.0 h.0 made h.1.2 h.2)
    (λ v each. (
      chunks_of size items,
      chunks_of-concat size items (omega arith),
      subst (λ xs. GivesEach g.F.Fn f xs v.items) shown each,
    )))
