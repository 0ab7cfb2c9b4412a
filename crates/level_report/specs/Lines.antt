-- Operations by the lines of their calls.
use Rattle.std.specs.Prelude.{ℕ, List, slice_get, unwrap_or, option_map}
use Rattle.history_model.specs.declared.operation.Operation.{Operation}
use Rattle.reg_levels.specs.declared.counts.old_read.OldRead.{OldRead}
use Rattle.reg_levels.specs.declared.gap.answer.Gap.{Gap}
use Rattle.reg_levels.specs.declared.decision.Step.{Step}
use Rattle.report_text.specs.declared.level.report.GapLines.{GapLines}
use Rattle.report_text.specs.declared.level.report.MissedWrite.{MissedWrite}
use Rattle.report_text.specs.declared.level.report.WentBack.{WentBack}

-- the line of the operation at a place; the initial write has line 0
abbrev pub line_of : List Operation → ℕ → ℕ
line_of ops place = unwrap_or (option_map (λ (a : Operation). a.line) (slice_get ops place)) 0

abbrev pub pair_of : List Operation → (ℕ × ℕ) → (ℕ × ℕ)
pair_of ops places = (line_of ops places.0, line_of ops places.1)

-- an old read that missed a write
abbrev pub missed_of : List Operation → OldRead → MissedWrite
missed_of ops x = record {
  newer = line_of ops x.newer;
  read = line_of ops x.read;
  seen = line_of ops x.seen;
}

-- an old read that came after a newer one
abbrev pub went_back_of : List Operation → OldRead → WentBack
went_back_of ops x = record {
  earlier = line_of ops x.earlier;
  newer = line_of ops x.newer;
  read = line_of ops x.read;
  seen = line_of ops x.seen;
}

-- a read with the write that it missed
abbrev pub stale_pair : List Operation → OldRead → ℕ × ℕ
stale_pair ops x = (line_of ops x.read, line_of ops x.newer)

-- a step of a cycle, without the write
abbrev pub step_of : List Operation → Step → ℕ × ℕ
step_of ops step = (line_of ops step.before, line_of ops step.after)

abbrev pub gap_of_lines : List Operation → Gap → GapLines
gap_of_lines ops g = record {
  events = g.events;
  first = pair_of ops g.first;
  second = pair_of ops g.second;
  writes = pair_of ops g.writes;
}
