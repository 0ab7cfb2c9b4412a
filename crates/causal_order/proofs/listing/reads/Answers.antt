use Rattle.std.proofs.Common.{◌≡◌, ◌<◌, ◌+◌, Bool, length, slice_get, Some, arith, refl, sym, ap, subst}
use Rattle.std.proofs.Common.{◌∙◌, inr, Vec}
use Rattle.std.specs.Global.{Global}
use Rattle.std.proofs.lemmas.Option.{slice_get_read}
use Rattle.causal_order.specs.CausalOrders.{AreReads}
use Rattle.causal_order.proofs.Sifting.{reads-more, reads-new, reads-other}
use Rattle.causal_order.proofs.listing.reads.Goals.{in-Some, in_default}
use Rattle.causal_order.proofs.listing.reads.Goals as goal

pub loop-place-init : goal.loop-place-init
loop-place-init c =
    reads-new c.args.table.now c.len.result c.in_ok-read.read.items
    (omega (arith, c.len.ensures, c.args.table.now.sources.ok.0))
    (c.in_ok-read.ensures.items_if_clones_equal (λ y e. e))

pub loop-place-preserved : goal.loop-place-preserved
loop-place-preserved c =
    let table = c.args.table.now in
    let place = c.loop-place.place in
    let l : place < length table.sources.items =
    omega (arith, c.loop-place-test.true, c.len-place-end.ensures, table.sources.ok.0) in
    let source : slice_get table.sources.items place ≡ Some c.index.result.now =
    slice_get_read table.sources.items _ place c.index.result.now refl l c.index.ensures in
    elim c.match-index.branch [
      | in-Some w ↦
          let has : slice_get table.sources.items place ≡ Some (Some w.in-Some.source) = source
          ∙ ap Some w.in-Some.is in
          let b = c.requires.range.before place w.in-Some.source (inr has) in
          subst (λ (v : Vec Bool Global). AreReads table (place + 1) v.items) (sym w.read-is)
          (reads-more table place w.in-Some.source c.loop-place.read.items
          (omega (arith, b, c.requires.range.sources, c.loop-place.invariant.size)) has
          c.loop-place.invariant)
      | in_default w ↦
          subst (λ (v : Vec Bool Global). AreReads table (place + 1) v.items) (sym w.read-is)
          (reads-other table place c.loop-place.read.items (source
          ∙ ap Some w.in_default.is) c.loop-place.invariant)
    ]

pub index_mut-requires : goal.index_mut-requires
index_mut-requires c =
    let table = c.args.table.now in
    let place = c.loop-place.place in
    let l : place < length table.sources.items =
    omega (arith, c.loop-place-test.true, c.len-place-end.ensures, table.sources.ok.0) in
    let source : slice_get table.sources.items place ≡ Some c.index.result.now =
    slice_get_read table.sources.items _ place c.index.result.now refl l c.index.ensures in
    let b = c.requires.range.before place c.in-Some.source (inr (source ∙ ap Some c.in-Some.is)) in
    omega (arith, b, c.requires.range.sources, c.loop-place.invariant.size, c.loop-place.read.ok.0)
