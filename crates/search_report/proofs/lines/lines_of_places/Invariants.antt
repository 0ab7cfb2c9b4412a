-- The lines so far, and those of the places that are left, are the lines of all.
use Rattle.std.proofs.Common.{◌≡◌, ◌++◌, drop}
use Rattle.register_search.specs.Timeline.{operations_at}
use Rattle.search_report.specs.Meaning.{lines_of}
use Rattle.search_report.proofs.lines.lines_of_places.Given as goal

abbrev pub invariant-loop-place : goal.invariant-loop-place
invariant-loop-place l =
    lines_of (operations_at l.ops l.places) ≡ l.lines.items
    ++ lines_of (operations_at l.ops (drop l.place-index l.places))
