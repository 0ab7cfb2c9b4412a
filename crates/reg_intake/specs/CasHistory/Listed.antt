-- The operations that are listed for each register, while events are gone through.
use Rattle.std.specs.Prelude.{◌≡◌, ℕ, ◌+◌, List, [], ◌++◌, length, map, slice_get, Vec, Option, Some, None}
use Rattle.std.specs.Global.{Global}
use Rattle.history_text.specs.declared.event.AnyEvent.{AnyEvent}
use Rattle.history_text.specs.declared.event.OpWord.{OpWord}
use Rattle.history_model.specs.declared.operation.Operation.{Operation}
use Rattle.history_model.specs.Operations.{of_register}
use Rattle.reg_intake.specs.declared.cas_history.registers.Registers.{Registers}
use Rattle.reg_intake.specs.CasHistory.History.{call_word, calls, calls_of, register_names}
use Rattle.reg_intake.specs.CasHistory.Kept.{option_list}

abbrev pub items_of : Option (Vec Operation Global) → List Operation
items_of None = []
items_of (Some own) = own.items

-- the operations that are listed for register r
abbrev pub listed : List (Vec Operation Global) → ℕ → List Operation
listed registers r = items_of (slice_get registers r)

-- the operation, if there is one, is added to its register, and counted
pub record Adds (old new : Registers) (a : Option Operation) : Type 0 where
  pub each : (r : ℕ) → listed new.operations.items r
      ≡ listed old.operations.items r ++ of_register r (option_list a)
  pub count : new.count ≡ old.count + length (option_list a)

-- the registers of some events, and the operations of each
pub record IsHistoryBy (events : List AnyEvent) (registers : Registers) : Type 0 where
  pub names : registers.naming ≡ register_names events
  pub whole : length registers.operations.items ≡ length registers.naming
  pub each : (r : ℕ) → listed registers.operations.items r ≡ calls_of events r
  pub count : registers.count ≡ length (calls events)

-- the lines of some events, and the words of the calls among them
abbrev pub AreLinesAndWords : List AnyEvent → Vec ℕ Global × Vec (Option OpWord) Global → Type 0
AreLinesAndWords events lists =
    (lists.0.items ≡ map (λ e. e.line) events) × (lists.1.items ≡ map call_word events)
