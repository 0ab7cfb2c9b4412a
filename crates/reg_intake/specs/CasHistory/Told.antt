-- What an operation did, by its call and its reply (this project's profile): what is known of the value that
-- it met, and what it wrote.
use Rattle.std.specs.Prelude.{Bool, true, false, Option, Some, None}
use Rattle.history_text.specs.declared.event.Val.{Val}
use Rattle.history_text.specs.declared.event.Val.TheVariants.{Null, Int}
use Rattle.history_text.specs.declared.event.CasCall.{CasCall}
use Rattle.history_text.specs.declared.event.Compared.{Compared}
use Rattle.history_text.specs.declared.event.Compared.TheVariants.{From, Unless}
use Rattle.history_text.specs.declared.event.Told.{Told}
use Rattle.history_model.specs.declared.act.Act.{Act}
use Rattle.history_model.specs.declared.act.Act.TheVariants.{Read, Write, Cas, CasUnless, Miss}
use Rattle.reg_intake.specs.declared.cas_history.said.Asked.{Asked}
use Rattle.reg_intake.specs.declared.cas_history.said.Asked.TheVariants as asked
use Rattle.reg_intake.specs.declared.cas_history.act.Met.{Met}
use Rattle.reg_intake.specs.declared.cas_history.act.Met.TheVariants.{Any, Is, IsNot}

-- what an operation does that met such a value, and wrote this one, or none
abbrev pub act_by : Met → Option Val → Act
act_by Any None = Read None
act_by Any (Some to) = Write to
act_by (Is v) None = Read (Some v)
act_by (Is from) (Some to) = Cas from to
act_by (IsNot from) None = Miss from
act_by (IsNot unless) (Some to) = CasUnless unless to

-- the value that an operation writes if it changes anything; a delete writes null
abbrev pub written_by : Asked → Option Val
written_by asked.Read = None
written_by (asked.Write n) = Some (Int n)
written_by (asked.Cas cas) = Some cas.to
written_by asked.Delete = Some Null
written_by (asked.Swap n) = Some (Int n)

-- the value that a cas asks for, and any other
abbrev pub as_compared : Compared → Met
as_compared (From from) = Is from
as_compared (Unless unless) = IsNot unless

abbrev pub not_as_compared : Compared → Met
not_as_compared (From from) = IsNot from
not_as_compared (Unless unless) = Is unless

-- the value that an operation meets if it takes effect: of all but a cas it may be any
abbrev pub asked_of : Asked → Met
asked_of asked.Read = Any
asked_of (asked.Write n) = Any
asked_of (asked.Cas cas) = as_compared cas.compared
asked_of asked.Delete = Any
asked_of (asked.Swap n) = Any

-- the value met by `found`: not null, or null
abbrev pub by_found : Option (Option Bool) → Met
by_found None = Any
by_found (Some None) = Any
by_found (Some (Some true)) = IsNot Null
by_found (Some (Some false)) = Is Null

-- the value met by `old`, or else by `found`
abbrev pub by_told : Option (Option Val) → Option (Option Bool) → Met
by_told None found = by_found found
by_told (Some None) found = by_found found
by_told (Some (Some old)) found = Is old

-- the value that a cas met by `ok`; an accepted reply has one
abbrev pub by_ok : Compared → Option Bool → Met
by_ok compared None = as_compared compared
by_ok compared (Some true) = as_compared compared
by_ok compared (Some false) = not_as_compared compared

-- the value that a cas met: the old one, if it asked for it and the reply has it, or else as `ok` says
abbrev pub met_of_cas : Bool → Option (Option Val) → Met → Met
met_of_cas false old by = by
met_of_cas true None by = by
met_of_cas true (Some None) by = by
met_of_cas true (Some (Some old)) by = Is old

abbrev pub met_by_cas : CasCall → Option Bool → Told → Met
met_by_cas cas ok told = met_of_cas cas.asks_old told.old (by_ok cas.compared ok)

-- the value that a read met: the one that it gave, or else by `found`
abbrev pub met_by_read : Option Val → Option (Option Bool) → Met
met_by_read None found = by_found found
met_by_read (Some v) found = Is v

-- the value that an operation met, by its reply, which gives this value and this `ok`, and tells this
abbrev pub met_by : Asked → Option Val → Option Bool → Told → Met
met_by asked.Read value ok told = met_by_read value told.found
met_by (asked.Write n) value ok told = Any
met_by (asked.Cas cas) value ok told = met_by_cas cas ok told
met_by asked.Delete value ok told = by_told told.old told.found
met_by (asked.Swap n) value ok told = by_told told.old told.found

abbrev pub is_false : Option Bool → Bool
is_false None = false
is_false (Some true) = false
is_false (Some false) = true

abbrev pub is_no_value_met : Met → Bool
is_no_value_met Any = false
is_no_value_met (Is Null) = true
is_no_value_met (Is (Int n)) = false
is_no_value_met (IsNot v) = false

-- whether a reply says that its operation changed nothing: a cas that missed, and a delete that found nothing
abbrev pub changed_nothing : Asked → Option Bool → Met → Bool
changed_nothing asked.Read ok met = false
changed_nothing (asked.Write n) ok met = false
changed_nothing (asked.Cas cas) ok met = is_false ok
changed_nothing asked.Delete ok met = is_no_value_met met
changed_nothing (asked.Swap n) ok met = false

-- what a call without a reply does if it takes effect: a read then gives no value, and a cas took place
abbrev pub pending_act : Asked → Act
pending_act asked = act_by (asked_of asked) (written_by asked)

-- what an operation did that met such a value
abbrev pub done_act : Asked → Bool → Met → Act
done_act asked true met = act_by met None
done_act asked false met = act_by met (written_by asked)

-- what a call did by its reply
abbrev pub replied_act : Asked → Option Val → Option Bool → Told → Act
replied_act asked value ok told =
    done_act asked (changed_nothing asked ok (met_by asked value ok told)) (met_by asked value ok told)
