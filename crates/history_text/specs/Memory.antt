-- What a call gives that may run out of memory. When it does is in no contract; these say that a
-- call which doesn't run out gives the meaning of the line and nothing else.
use Rattle.std.specs.Prelude.{◌≡◌, Result, Ok, Err}
use Rattle.history_text.specs.declared.fault.LineKind.{LineKind}
use Rattle.history_text.specs.declared.fault.LineFault.{LineFault}
use Rattle.history_text.specs.declared.line.LineError.{LineError}
use Rattle.history_text.specs.declared.line.LineError.TheVariants as line_error
use Rattle.history_text.specs.declared.refused.Refused.{Refused}
use Rattle.history_text.specs.declared.refused.Refused.TheVariants as refused

-- the call gives the part of an event that is meant, or its fault, unless memory ran out
abbrev pub Gives : {A : Type 0} → Result A LineKind → Result A Refused → Type 0
Gives meant (Ok part) = meant ≡ Ok part
Gives meant (Err (refused.Fault kind)) = meant ≡ Err kind
Gives meant (Err refused.Memory) = Unit {0}

-- the call gives the event of a line that is meant, or its fault, unless memory ran out
abbrev pub GivesLine : {A : Type 0} → Result A LineFault → Result A LineError → Type 0
GivesLine meant (Ok event) = meant ≡ Ok event
GivesLine meant (Err (line_error.Fault fault)) = meant ≡ Err fault
GivesLine meant (Err line_error.Memory) = Unit {0}
