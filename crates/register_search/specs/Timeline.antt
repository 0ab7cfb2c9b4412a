-- The calls and the replies of the operations of one register, in the order of their times.
use Rattle.std.specs.Prelude.{◌≡◌, ℕ, ◌<◌, ◌≤◌, false, List, filter_map, slice_get}
use Rattle.std.specs.Prelude.{Option, Some, option_map, option_and_then}
use Rattle.history_model.specs.Lists.{In, Before}
use Rattle.history_model.specs.declared.operation.Operation.{Operation}
use Rattle.history_model.specs.Operations.{AreTimed, IsCompleted, reply_of}
use Rattle.configurations.specs.declared.moment.Moment.{Moment}
use Rattle.configurations.specs.declared.moment.Moment.TheVariants.{Call, Reply}

-- The operations of register r that processes called, by call: the initial write, which
-- comes before them all, isn't among them.
pub record AreCalls (r : ℕ) (ops : List Operation) : Type 0 where
  pub register : (a : Operation) → In a ops → a.register ≡ r
  pub called : (a : Operation) → In a ops → 2 ≤ a.call
  pub ascending : (j k : ℕ) (a b : Operation) → j < k → slice_get ops j ≡ Some a → slice_get ops k ≡ Some b
      → a.call < b.call
  -- a missing reply comes after every call
  pub pending : (a b : Operation) → In a ops → In b ops → a.completed ≡ false → b.call < a.reply

-- No two of the calls and the replies of these operations have one time.
pub record AreTimes (ops : List Operation) : Type 0 where
  -- each call comes before its reply, and no reply comes at the time of a call
  pub timed : AreTimed ops
  -- operations that reply at one time are one
  pub replies : (a b : Operation) → In a ops → In b ops → IsCompleted a → IsCompleted b → a.reply ≡ b.reply
      → a ≡ b

abbrev pub time_by : List Operation → Moment → Option ℕ
time_by ops (Call k) = option_map (λ a. a.call) (slice_get ops k)
time_by ops (Reply k) = option_and_then reply_of (slice_get ops k)

-- Each call and each reply of the operations once, by time.
pub record IsTimeline (r : ℕ) (ops : List Operation) (events : List Moment) : Type 0 where
  pub calls : AreCalls r ops
  -- each call comes before its reply
  pub life : (a : Operation) → In a ops → a.call < a.reply
  pub all : (e : Moment) (t : ℕ) → time_by ops e ≡ Some t → In e events
  pub only : (e : Moment) → In e events → (t : ℕ) × (time_by ops e ≡ Some t)
  pub ascending : (e f : Moment) (s t : ℕ) → Before e f events → time_by ops e ≡ Some s
      → time_by ops f ≡ Some t → s < t

-- the operations of some numbers
abbrev pub operations_at : List Operation → List ℕ → List Operation
operations_at ops ks = filter_map (λ k. slice_get ops k) ks
