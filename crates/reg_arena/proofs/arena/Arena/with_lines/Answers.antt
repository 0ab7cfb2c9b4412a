-- The arena is the history of the lines before and of the parts so far, none of whose lines is faulty.
use Rattle.std.proofs.Common.{◌++◌, drop, flat_map, suc, ◌+◌, ◌≡◌, take, refl, sym, subst, arith}
use Rattle.std.proofs.lemmas.List.{append-nil, take_all}
use Rattle.std.proofs.lemmas.Option.{slice_get_read}
use Rattle.reg_arena.specs.Built.{IsBuilt}
use Rattle.reg_arena.specs.Numbered.{ArePartsNumbered, lines_of}
use Rattle.reg_arena.proofs.Numbered.{parts-at}
use Rattle.reg_arena.proofs.Reading.{parts-more, parts-refused}
use Rattle.reg_arena.proofs.arena.Arena.with_lines.Goals as goal

pub loop-part-init : goal.loop-part-init
loop-part-init c = record {
  built = λ before built. subst (λ xs. IsBuilt xs c.args.self) (sym (append-nil before)) built;
  numbered = c.requires;
}

pub add_lines-requires : goal.add_lines-requires
add_lines-requires c =
    let parts = c.args.parts.now in
    let n = c.loop-part.part-index in
    let at = slice_get_read parts _ n c.part-item.result refl c.loop-part-test.true c.part-item.is in
    (parts-at c.loop-part.self.names parts n c.part-item.result at c.loop-part.invariant.numbered).0

pub returns-in_err-add_lines : goal.returns-in_err-add_lines
returns-in_err-add_lines c = λ before built.
    let parts = c.args.parts.now in
    let n = c.loop-part.part-index in
    let so_far = before ++ flat_map lines_of (take n parts) in
    let at = slice_get_read parts _ n c.part-item.result refl c.loop-part-test.true c.part-item.is in
    parts-refused lines_of before parts n c.part-item.result at c.from_residual.result
    c.in_err-add_lines.field-0.0 c.from_residual.ensures.1
    (c.in_err-add_lines.ensures.built so_far (c.loop-part.invariant.built before built))

pub loop-part-preserved : goal.loop-part-preserved
loop-part-preserved c =
    let parts = c.args.parts.now in
    let n = c.loop-part.part-index in
    let part = c.part-item.result in
    let at = slice_get_read parts _ n part refl c.loop-part-test.true c.part-item.is in
    let next : suc n ≡ n + 1 = omega arith in
    let left = (parts-at c.loop-part.self.names parts n part at c.loop-part.invariant.numbered).1 in
    record {
      built = λ before built.
          let so_far = before ++ flat_map lines_of (take n parts) in
          subst (λ lines. IsBuilt lines c.add_lines.new.self) (parts-more lines_of before parts n part at)
          (c.in_ok-add_lines.ensures.built so_far (c.loop-part.invariant.built before built));
      numbered =
          subst (λ m. ArePartsNumbered c.add_lines.new.self.names (drop m parts)) next
          (subst (λ names. ArePartsNumbered names (drop (suc n) parts))
          (sym c.in_ok-add_lines.ensures.names) left);
    }

pub returns : goal.returns
returns c =
    λ before built. subst (λ parts. IsBuilt (before ++ flat_map lines_of parts) c.loop-part.self)
    (take_all c.loop-part.part-index c.args.parts.now c.loop-part-test.false)
    (c.loop-part.invariant.built before built)
