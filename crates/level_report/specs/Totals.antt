-- What the summary of a report says, by the lines of the registers.
use Rattle.std.specs.Prelude.{◌≡◌, ◌+◌, ◌&&◌, ℕ, Bool, true, List, [], ◌∷◌, length, map}
use Rattle.std.specs.Prelude.{not, cond, nat_lt, is_none, unwrap_or, option_map, Option, Some, None}
use Rattle.std.specs.List.{list_all}
use Rattle.reg_zones.specs.Clusters.{greatest}
use Rattle.report_text.specs.declared.level.causal.CausalVerdict.{CausalVerdict}
use Rattle.report_text.specs.declared.level.causal.CausalVerdict.TheVariants.{Yes, No, Unknown}
use Rattle.report_text.specs.declared.level.report.GapLines.{GapLines}
use Rattle.report_text.specs.declared.level.report.LevelName.{LevelName}
use Rattle.report_text.specs.declared.level.report.LevelName.TheVariants.{Atomic, Regular, Session}
use Rattle.report_text.specs.declared.level.report.LevelName.TheVariants.{OwnWrites, Monotonic, Sequential}
use Rattle.report_text.specs.declared.level.report.RegisterLevels.{RegisterLevels}
use Rattle.report_text.specs.declared.level.report.Required.{Required}
use Rattle.report_text.specs.declared.level.report.Required.TheVariants.{Each, Causal}
use Rattle.report_text.specs.declared.level.report.Totals.{Totals}
use Rattle.level_report.specs.declared.outcome.Outcome.{Outcome}
use Rattle.level_report.specs.declared.outcome.Outcome.TheVariants as outcome
use Rattle.level_report.specs.declared.totals.Count.{Count}
use Rattle.level_report.specs.declared.totals.Count.TheVariants as count

-- what the line of a register says of a level; a session that was kept has both of its halves
abbrev pub says : LevelName → RegisterLevels → Bool
says Atomic reg = reg.freshness.atomic
says Regular reg = reg.freshness.regular
says Session reg = reg.guarantees.session
says OwnWrites reg = unwrap_or reg.guarantees.own_writes true
says Monotonic reg = unwrap_or reg.guarantees.monotonic true
says Sequential reg = reg.guarantees.sequential

abbrev pub all_say : LevelName → List RegisterLevels → Bool
all_say level regs = list_all (says level) regs

-- a half of the session is told of if some register didn't keep the session
abbrev pub half_of : Bool → Bool → Option Bool
half_of session half = cond session None (Some half)

-- a sum of counts over the registers that have them
abbrev pub total : (RegisterLevels → Option ℕ) → List RegisterLevels → ℕ
total count [] = 0
total count (reg ∷ regs) = unwrap_or (count reg) 0 + total count regs

-- a register without counts counts once
abbrev pub unclean_once : RegisterLevels → Option ℕ
unclean_once reg = Some (cond (is_none reg.freshness.stale) 1 0)

abbrev pub how_many_unclean : List RegisterLevels → ℕ
how_many_unclean regs = total unclean_once regs

abbrev pub events_of_gap : RegisterLevels → ℕ
events_of_gap reg = unwrap_or (option_map (λ (g : GapLines). g.events) reg.freshness.gap) 0

-- a number that is told of if it isn't 0
abbrev pub told : ℕ → Option ℕ
told n = cond (nat_lt 0 n) (Some n) None

-- the greatest gap, if the whole isn't atomic and each register has its counts
abbrev pub whole_gap : Bool → ℕ → ℕ → Option ℕ
whole_gap atomic unclean events = cond (not atomic && not (nat_lt 0 unclean)) (Some events) None

pub record AreTotals (regs : List RegisterLevels) (t : Totals) : Type 0 where
  pub registers : t.registers ≡ length regs
  pub reads : t.reads ≡ total (λ reg. Some reg.operations.reads) regs
  pub operations : t.operations ≡ t.reads + total (λ reg. Some reg.operations.writes) regs
  pub atomic : t.atomic ≡ all_say Atomic regs
  pub regular : t.regular ≡ all_say Regular regs
  pub session : t.session ≡ all_say Session regs
  pub sequential : t.sequential ≡ all_say Sequential regs
  pub own_writes : t.own_writes ≡ half_of t.session (all_say OwnWrites regs)
  pub monotonic : t.monotonic ≡ half_of t.session (all_say Monotonic regs)
  pub stale : t.stale ≡ total (λ reg. reg.freshness.stale) regs
  pub own : t.own ≡ total (λ reg. reg.freshness.own) regs
  pub back : t.back ≡ total (λ reg. reg.freshness.back) regs
  pub inverted : t.inverted ≡ total (λ reg. reg.freshness.inverted) regs
  pub lost : t.lost ≡ total (λ reg. reg.freshness.lost) regs
  pub unclean : t.unclean ≡ told (how_many_unclean regs)
  pub gap : t.gap ≡ whole_gap t.atomic (how_many_unclean regs) (greatest (map events_of_gap regs))

-- what the summary says of a level; a session that was kept has both of its halves
abbrev pub totals_say : LevelName → Totals → Bool
totals_say Atomic t = t.atomic
totals_say Regular t = t.regular
totals_say Session t = t.session
totals_say OwnWrites t = unwrap_or t.own_writes true
totals_say Monotonic t = unwrap_or t.monotonic true
totals_say Sequential t = t.sequential

-- the outcome by what the summary says
abbrev pub outcome_of_level : Bool → Outcome
outcome_of_level holds = cond holds outcome.Kept outcome.Broken

abbrev pub outcome_of_verdict : CausalVerdict → Outcome
outcome_of_verdict Yes = outcome.Kept
outcome_of_verdict No = outcome.Broken
outcome_of_verdict Unknown = outcome.Unknown

abbrev pub outcome_said : Required → Totals → Outcome
outcome_said (Each level) t = outcome_of_level (totals_say level t)
outcome_said Causal t = outcome_of_verdict t.causal.verdict

-- the count of a register, if it has one
abbrev pub count_of : Count → RegisterLevels → Option ℕ
count_of count.Reads reg = Some reg.operations.reads
count_of count.Writes reg = Some reg.operations.writes
count_of count.Stale reg = reg.freshness.stale
count_of count.Own reg = reg.freshness.own
count_of count.Back reg = reg.freshness.back
count_of count.Inverted reg = reg.freshness.inverted
count_of count.Lost reg = reg.freshness.lost
count_of count.Unclean reg = unclean_once reg
