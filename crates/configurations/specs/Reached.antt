-- What going forward says.
use Rattle.std.specs.Prelude.{suc, List, [], take}
use Rattle.configurations.specs.declared.op.Op.{Op}
use Rattle.configurations.specs.declared.moment.Moment.{Moment}
use Rattle.configurations.specs.declared.reached.Reached.{Reached}
use Rattle.configurations.specs.declared.reached.Reached.TheVariants.{Hopeless, Left, Stopped}
use Rattle.configurations.specs.Runs.{AliveFree}

-- if it is hopeless at a place, the events up to there can't be explained; the others promise nothing
abbrev pub IsReached : List Op → List Moment → Reached → Type 0
IsReached ops events (Hopeless place before) = AliveFree ops 0 [] [] (take (suc place) events) → ⊥
IsReached ops events (Left taken) = Unit {0}
IsReached ops events (Stopped bound) = Unit {0}
