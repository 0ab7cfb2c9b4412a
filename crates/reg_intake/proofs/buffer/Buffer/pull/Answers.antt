-- The bytes that came stand after those before them, in a buffer that may have grown.
use Rattle.std.proofs.Common.{◌≡◌, ◌+◌, ◌≤◌, ◌++◌, ℕ, List, length, take}
use Rattle.std.proofs.Common.{subst, sym, ap, ◌∙◌, arith}
use Rattle.std.proofs.lemmas.List.{length-take, length-take-le, take-append-le, take-take}
use Rattle.reg_intake.specs.declared.buffer.Buffer.TheInside.{Inside}
use Rattle.reg_intake.proofs.buffer.Buffer.pull.Goals.{then-len-self-lt-PULL+in_ok-resize}
use Rattle.reg_intake.proofs.buffer.Buffer.pull.Goals.{else-len-self-lt-PULL}
use Rattle.reg_intake.proofs.buffer.Buffer.pull.Goals as goal
use Rattle.reg_intake.proofs.Written.{fits-behind, written-behind}

-- the front stays when a list is cut after it and filled up
front-of-resized : (xs ys more : List ℕ) (k n : ℕ) → k ≤ length xs → ys ≡ take (k + n) xs ++ more
    → take k ys ≡ take k xs
front-of-resized xs ys more k n within resized =
    ap (take k) resized
    ∙ take-append-le k (take (k + n) xs) more (let long = length-take (k + n) xs in omega (arith, within))
    ∙ take-take k (k + n) xs (omega arith)

pub returns-clause-ok : goal.returns-clause-ok
returns-clause-ok g c =
    let old = c.self.inside in
    let room = c.if-len-self-lt-PULL.self-inside in
    let count = c.in_ok-count.count in
    let piece = take count c.pull.new.piece in
    let same : room.count ≡ old.count = elim c.if-len-self-lt-PULL.branch [
      | then-len-self-lt-PULL+in_ok-resize w ↦ ap (λ (h : Inside). h.count) w.self-inside-is
      | else-len-self-lt-PULL w ↦ ap (λ (h : Inside). h.count) w.self-inside-is
    ] in
    let kept : take room.count room.bytes.items ≡ take old.count old.bytes.items =
    elim c.if-len-self-lt-PULL.branch [
      | then-len-self-lt-PULL+in_ok-resize w ↦ ap
          (λ (h : Inside). take h.count h.bytes.items) w.self-inside-is
          ∙ front-of-resized old.bytes.items _ _ old.count _ c.self.invariant w.in_ok-resize.ensures.items
      | else-len-self-lt-PULL w ↦ ap (λ (h : Inside). take h.count h.bytes.items) w.self-inside-is
    ] in
    let front = ap (take room.count) c.deref_mut.ensures.value ∙ kept ∙ c.self.view_is in
    let long =
    ap length front ∙ ap length (sym c.self.view_is)
    ∙ length-take-le old.count old.bytes.items c.self.invariant ∙ sym same in
    let read = c.deref_mut.ensures.len in
    let within = c.in_ok-count.ensures.bound in
    let fits =
    fits-behind c.deref_mut.result.now room.count _ count long
    (subst (λ n. count ≤ n) c.pull.auto.piece within) in (
      piece,
      c.in_ok-count.ensures.ok,
      written-behind
          (take room.count c.deref_mut.result.now) c.pull.new.piece _ _ room.count count room.bytes.len long
          within (omega (arith, fits, read)) ∙ ap (λ (xs : List ℕ). xs ++ piece) front,
    )
