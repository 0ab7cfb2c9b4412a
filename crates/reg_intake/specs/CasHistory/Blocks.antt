-- The lines of an input by blocks, and what is left behind each.
use Rattle.std.specs.Prelude.{◌≡◌, ◌≤◌, ◌<◌, ◌+◌, ◌++◌, ℕ, List, [], All, drop, length, map, IfSome}
use Rattle.std.specs.Prelude.{Option, Some, None}
use Rattle.history_text.specs.Lines.{IsWithin, numbered_from}
use Rattle.history_text.specs.Reading.{event_reading}
use Rattle.history_text.specs.declared.event.Operations.TheVariants.{WithCas}
use Rattle.reg_intake.specs.CasHistory.Input.{meant_at}
use Rattle.reg_intake.specs.CasHistory.Refusals.{Line}
use Rattle.reg_intake.specs.CasHistory.Taken.{read_in}
use Rattle.reg_intake.specs.declared.cas_history.blocks.Block.{Block}
use Rattle.reg_intake.specs.declared.cas_history.blocks.Start.{Start}
use Rattle.reg_intake.specs.declared.cas_history.lines.Ahead.{Ahead}
use Rattle.reg_intake.specs.declared.cas_history.blocks.TheConstants.{LINES_PER_BLOCK}

-- what those lines of some bytes mean that aren't blank, where the first line has number `n`
abbrev pub read_from : ℕ → List ℕ → List Line
read_from n bytes = map (λ l. event_reading WithCas l.0 l.1) (numbered_from n bytes)

-- what those lines of an input mean that are left from a place on, if there is one
abbrev pub left_of : List ℕ → Option Start → List Line
left_of input None = []
left_of input (Some start) = read_from start.line (drop start.from input)

-- a place within the input, with no more lines before it than bytes
abbrev pub IsStart : List ℕ → Start → Type 0
IsStart input start = (start.from ≤ length input) × (start.line ≤ start.from + 1)

-- the lines from a place on are those of the block and what is left behind it
pub record IsBlock (input : List ℕ) (start : Start) (block : Block) : Type 0 where
  pub lines : map (meant_at input) block.spans.items ++ left_of input block.next ≡ left_of input (Some start)
  pub within : All (IsWithin input) block.spans.items
  pub next : IfSome block.next (IsStart input)
  pub less : IfSome block.next (λ next. start.from < next.from)
  pub short : length block.spans.items ≤ LINES_PER_BLOCK

-- the same of a block whose lines were read
pub record IsReadAhead (input : List ℕ) (start : Start) (ahead : Ahead) : Type 0 where
  pub lines : read_in ahead.parts.items ++ left_of input ahead.next ≡ left_of input (Some start)
  pub next : IfSome ahead.next (IsStart input)
  pub less : IfSome ahead.next (λ next. start.from < next.from)
