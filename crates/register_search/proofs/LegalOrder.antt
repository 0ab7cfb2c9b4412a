-- A legal order by the numbers of its calls.
use Rattle.std.proofs.Common.{◌≡◌, ℕ, true, List, [], ◌∷◌}
use Rattle.history_text.specs.declared.event.Val.{Val}
use Rattle.history_text.specs.declared.event.Val.TheVariants.{Null}
use Rattle.history_model.specs.Lists.{In, Before}
use Rattle.history_model.specs.declared.operation.Operation.{Operation}
use Rattle.configurations.specs.declared.moment.Moment.{Moment}
use Rattle.configurations.specs.declared.moment.Moment.TheVariants.{Call, Reply}
use Rattle.register_search.specs.Taking.{suits_at, left_at}

-- one after another, each meets a value that suits it
abbrev pub MeetsAt : List Operation → Val → List ℕ → Type 0
MeetsAt ops v [] = Unit {0}
MeetsAt ops v (k ∷ ks) = (suits_at ops k v ≡ true) × MeetsAt ops (left_at ops k v) ks

-- the events have each call once, and its reply after it; the order has each number once, those of calls
-- only, and all that replied; none stands after one that replied before its call
pub record IsNumbered (ops : List Operation) (events : List Moment) (order : List ℕ) : Type 0 where
  pub calls : (a : ℕ) → Before (Call a) (Call a) events → ⊥
  pub replies : (a : ℕ) → Before (Reply a) (Call a) events → ⊥
  pub once : (a : ℕ) → Before a a order → ⊥
  pub only : (a : ℕ) → In a order → In (Call a) events
  pub all : (a : ℕ) → In (Reply a) events → In a order
  pub keeps : (a b : ℕ) → Before a b order → Before (Reply b) (Call a) events → ⊥
  pub meets : MeetsAt ops Null order
