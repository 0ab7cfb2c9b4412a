use Rattle.std.proofs.Common.{◌∙◌, sym, refl, arith}
use Rattle.std.proofs.lemmas.Bool.{false≢true}
use Rattle.slot_sets.proofs.WordByWord.{slot_beyond, nothing_beyond}
use Rattle.slot_sets.proofs.slots.Slots.is_within.Goals as goal

pub returns-then-self-at-ne0 : goal.returns-then-self-at-ne0
returns-then-self-at-ne0 g c =
    let beyond =
    slot_beyond c.self.inside.words c.other.inside.words c.loop-at.at (omega arith)
    (omega arith) c.if-self-at-ne0.true in
    rw (← c.self.view_is, ← c.other.view_is)
    (λ no. absurd (false≢true no), λ within. absurd (false≢true (sym beyond.2 ∙ within beyond.0 beyond.1)))

pub returns : goal.returns
returns g c =
    let words = c.loop-at.invariant in
    rw (← c.self.view_is, ← c.other.view_is) (
      λ _. nothing_beyond g.row.W c.self.inside.words c.other.inside.words c.self.told
          (λ j h. words.1 j (omega arith)) (λ j h. words.0 j (omega arith)),
      λ _. refl,
    )
