use Rattle.std.proofs.Common.{◌≡◌, ℕ, ◌+◌, ◌<◌, List, ◌++◌, map, take}
use Rattle.std.proofs.Common.{drop, length, get_or, set, ap, ◌∙◌, arith}
use Rattle.std.proofs.lemmas.List.{get_or_default}
use Rattle.std.proofs.lemmas.List.Edits.{map_over_more}
use Rattle.reg_lamport.specs.Gathering.{settled}
use Rattle.reg_lamport.proofs.gathering.settle.Goals as goal

written : {X : Type 0} (f : X → X) (xs ys : List X) (i : ℕ) (d y : X) → i < length xs → length ys ≡ length xs
    → ys ≡ map f (take i xs) ++ drop i xs → y ≡ f (get_or ys i d) → set ys i y ≡ map f (take (i + 1) xs)
    ++ drop (i + 1) xs
written f xs ys i d y l n e q =
    ap (set ys i) q
    ∙ map_over_more f xs ys i (get_or ys i d) l e (get_or_default ys i d (get_or ys i d) (omega arith))

pub loop-entry-preserved : goal.loop-entry-preserved
loop-entry-preserved c =
    written (settled c.args.time) c.args.entries.now c.loop-entry.entries c.loop-entry.entry-index _
    c.settled_by.result c.loop-entry-test.true c.loop-entry.auto.entries c.loop-entry.invariant
    c.settled_by.ensures
