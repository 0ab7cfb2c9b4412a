use Rattle.std.proofs.Common.{◌≡◌, ◌+◌, ◌-◌, ◌<◌, ◌≤◌, length, refl, subst, sym, arith}
use Rattle.std.proofs.lemmas.Option.{slice_get_read}
use Rattle.std.specs.List.{AllWithin}
use Rattle.std.specs.List.Sorted.{IsNonDecreasingBy}
use Rattle.reg_levels.specs.Counts.Marks.{mark_key}
use Rattle.reg_levels.proofs.CountLemmas.Ranked.{above-none, above-some, ranked-up}
use Rattle.reg_levels.proofs.counts.ranking.Ranking.first_above.Goals as goal

pub passed-passed-requires : goal.passed-passed-requires
passed-passed-requires c =
    subst (IsNonDecreasingBy mark_key) (sym c.deref.ensures.value)
    (ranked-up c.args.self.now.marks.items c.args.self.now.least.items c.requires)

pub returns-then-rest-eq0 : goal.returns-then-rest-eq0
returns-then-rest-eq0 c =
    let list = c.args.self.now.marks.items in
    let low = subst (λ xs. AllWithin (λ m. m.key ≤ c.args.key) xs 0 c.passed-passed.result)
    c.deref.ensures.value
    c.passed-passed.ensures.low in
    let high = subst (λ xs. AllWithin (λ m. c.args.key < m.key) xs c.passed-passed.result (length xs))
    c.deref.ensures.value c.passed-passed.ensures.high in
    above-none list c.args.self.now.least.items c.requires c.args.key c.passed-passed.result low high
    (omega (arith, c.len.ensures, c.if-rest-eq0.true))

pub returns-else-rest-eq0 : goal.returns-else-rest-eq0
returns-else-rest-eq0 c =
    let list = c.args.self.now.marks.items in
    let least = c.args.self.now.least.items in
    let low = subst (λ xs. AllWithin (λ m. m.key ≤ c.args.key) xs 0 c.passed-passed.result)
    c.deref.ensures.value
    c.passed-passed.ensures.low in
    let high = subst (λ xs. AllWithin (λ m. c.args.key < m.key) xs c.passed-passed.result (length xs))
    c.deref.ensures.value c.passed-passed.ensures.high in
    let j = c.len.result - c.passed-passed.result - 1 in
    let places = c.requires.least_of.places in
    let bound = c.passed-passed.ensures.within in
    let inside : j < length least = omega (arith, c.len.ensures, c.if-rest-eq0.false, c.deref.ensures.len) in
    let all : c.passed-passed.result + j + 1 ≡ length list =
    omega (arith, c.len.ensures, c.if-rest-eq0.false, c.deref.ensures.len) in
    above-some list least c.requires c.args.key c.passed-passed.result low high c.index.result.now j all
    (slice_get_read least (length least) j c.index.result.now refl inside c.index.ensures)
