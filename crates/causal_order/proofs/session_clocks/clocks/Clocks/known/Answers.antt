use Rattle.std.proofs.Common.{◌≡◌, ◌+◌, ◌<◌, length, max, Some, None, suc, inl, inr, refl, sym, ap, ◌∙◌}
use Rattle.std.proofs.Common.{arith, rules}
use Rattle.std.proofs.lemmas.List.{length-replicate}
use Rattle.std.proofs.lemmas.Option.{slice_get_read}
use Rattle.causal_order.proofs.SessionClockLemmas.Raised.{made, read-within}
use Rattle.causal_order.proofs.session_clocks.clocks.Clocks.known.Goals as goal

pub raise-requires : goal.raise-requires
raise-requires c = record {
  within = λ d e.
      let table = c.args.table.now in
      let at =
      slice_get_read table.previous.items _ c.args.place c.index.result.now refl
      (omega (arith, c.requires.within, c.requires.sized.in_range.previous)) c.index.ensures in
      let less = c.requires.sized.in_range.before c.args.place d (inl (at ∙ ap Some e)) in
      omega (arith, less, c.requires.sized.rows);
}

pub raise-requires-2 : goal.raise-requires-2
raise-requires-2 c = record {
  within = λ d e.
      let table = c.args.table.now in
      let at =
      slice_get_read table.sources.items _ c.args.place c.index-2.result.now refl
      (omega (arith, c.requires.within, c.requires.sized.in_range.sources)) c.index-2.ensures in
      let less = c.requires.sized.in_range.before c.args.place d (inr (at ∙ ap Some e)) in
      omega (arith, less, c.requires.sized.rows);
}

pub returns : goal.returns
returns c =
    let table = c.args.table.now in
    let p = c.args.place in
    let range = c.requires.sized.in_range in
    let own = range.numbers p c.args.session c.requires.session in
    let second = c.raise-2.new.row.items in
    let zeros = c.in_ok-row.ensures.items_if_clones_equal (λ y e. search rules) in
    let size = ap length zeros ∙ length-replicate table.count 0 in
    let within : c.args.session < length second =
    omega (arith, own, size, c.raise.ensures.entries, c.raise-2.ensures.entries) in
    let next : p + 1 ≡ suc p = omega arith in
    made table c.args.self.now p c.args.session c.index.result.now c.index-2.result.now c.in_ok-row.row.items
    c.raise.new.row.items second c.max.result zeros
    (read-within table.previous.items p c.index.result.now None
    (omega (arith, c.requires.within, range.previous)) c.index.ensures)
    (read-within table.sources.items p c.index-2.result.now None
    (omega (arith, c.requires.within, range.sources)) c.index-2.ensures)
    c.raise.ensures c.raise-2.ensures own
    (c.max.ensures
    ∙ (ap (max c.index-3.result.now) next
    ∙ ap (λ n. max n (suc p))
    (sym (read-within second c.args.session c.index-3.result.now 0 within c.index-3.ensures))))
