-- The numbers of the faults of a line; they are this project's profile.
use Rattle.std.specs.Prelude.{ℕ}
use Rattle.history_text.specs.declared.fault.LineKind.{LineKind}
use Rattle.history_text.specs.declared.fault.LineKind.TheVariants.{TooLong, NotJson, NotObject, BadProcess}
use Rattle.history_text.specs.declared.fault.LineKind.TheVariants.{BadEvent, BadOp, BadRegister, BadValue}
use Rattle.history_text.specs.declared.fault.LineKind.TheVariants.{BadFromOrTo}

-- the number by which a fault of a line is refused; the lowest that applies to a line is its own
abbrev pub fault_number : LineKind → ℕ
fault_number TooLong = 1
fault_number NotJson = 2
fault_number NotObject = 3
fault_number BadProcess = 4
fault_number BadEvent = 5
fault_number (BadOp taken) = 6
fault_number BadRegister = 7
fault_number BadValue = 8
fault_number BadFromOrTo = 20
