-- Some of the reads and the writes of a register: the writes of some values, and some of the
-- reads of these (this project's profile).
use Rattle.std.specs.Prelude.{◌≡◌, ◌&&◌, ◌||◌, ℕ, nat_eq, Bool, true, false, List, Some, None}
use Rattle.std.specs.List.{filter, list_any}
use Rattle.history_text.specs.Values.{value_eq}
use Rattle.history_text.specs.declared.event.Val.{Val}
use Rattle.history_text.specs.declared.event.Val.TheVariants.{Null}
use Rattle.history_model.specs.Lists.{In}
use Rattle.history_model.specs.Acts.{is_plain}
use Rattle.history_model.specs.declared.act.Act.{Act}
use Rattle.history_model.specs.declared.act.Act.TheVariants.{Read, Write, Cas, CasUnless, Miss}
use Rattle.history_model.specs.declared.operation.Operation.{Operation}

-- reads and writes alone
abbrev pub ArePlain : List Operation → Type 0
ArePlain ops = (a : Operation) → In a ops → is_plain a.act ≡ true

-- a write of one of the values, or a read that gives one of them and is called at one of the times
abbrev pub is_kept : (Val → Bool) → (ℕ → Bool) → Act → ℕ → Bool
is_kept values times (Read None) call = false
is_kept values times (Read (Some given)) call = values given && times call
is_kept values times (Write written) call = values written
is_kept values times (Cas from to) call = false
is_kept values times (CasUnless unless to) call = false
is_kept values times (Miss from) call = false

-- these operations, the others left out
abbrev pub kept_of : (Val → Bool) → (ℕ → Bool) → List Operation → List Operation
kept_of values times ops = filter (λ a. is_kept values times a.act a.call) ops

-- null and two values
abbrev pub null_or : Val → Val → Val → Bool
null_or one other v = (value_eq v Null || value_eq v one) || value_eq v other

-- some times
abbrev pub is_among : List ℕ → ℕ → Bool
is_among times n = list_any (λ y. nat_eq y n) times
