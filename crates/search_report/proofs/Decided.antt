-- The lines of the registers are the report of the history, and what they say decides the whole.
use Rattle.std.proofs.Common.{◌≡◌, ◌↔◌, ◌||◌, ℕ, zero, suc, ◌<◌, Bool, true, false, cond, List, [], ◌∷◌}
use Rattle.std.proofs.Common.{length, slice_get, Some, inl, inr, ◌⊎◌, refl, sym, ap, subst, ◌∙◌, arith}
use Rattle.std.proofs.lemmas.Bool.{cases_Bool, cases_lt, false≢true, true≢false, or_parts}
use Rattle.std.proofs.lemmas.Option.{same_Some, slice_get_within}
use Rattle.std.specs.List.{list_any}
use Rattle.history_model.proofs.Lists.{slice_get_inside}
use Rattle.history_text.specs.declared.event.AnyEvent.{AnyEvent}
use Rattle.history_model.specs.Legal.{IsAtomic}
use Rattle.history_model.specs.Operations.{AreTimed, initial_write, of_register}
use Rattle.history_model.proofs.Locality.{each_decides}
use Rattle.reg_intake.specs.CasHistory.History.{IsHistoryOf, calls_of, operations, register_names}
use Rattle.reg_intake.specs.declared.cas_history.history.History.{History}
use Rattle.reg_intake.proofs.CasHistoryLemmas.Timed.{any-calls-timed}
use Rattle.reg_intake.proofs.CasHistoryLemmas.Initials.{named as of-named, none as of-none}
use Rattle.report_text.specs.declared.search.report.Outcome.{Outcome}
use Rattle.report_text.specs.declared.search.report.Outcome.TheVariants as outcome
use Rattle.report_text.specs.declared.search.report.Atomicity.{Atomicity}
use Rattle.report_text.specs.declared.search.report.Atomicity.TheVariants.{Yes, No, Unknown}
use Rattle.report_text.specs.declared.search.report.RegisterReport.{RegisterReport}
use Rattle.search_report.specs.Meaning.{IsAtomicity, IsRegisterReport, IsWholeOutcome}
use Rattle.search_report.specs.Meaning.{event_lines, event_words, is_no, is_unknown, outcome_of}
use Rattle.search_report.specs.Registers.{AreFirstLines, IsLine}
use Rattle.search_report.proofs.Told.{timed_with_initial}

-- ---- what the answer says if each register's line says so of P

-- a yes says that P holds, and a no that it doesn't
abbrev Tells : Type 0 → Atomicity → Type 0
Tells P (Yes order points) = P
Tells P (No fault) = P → ⊥
Tells P (Unknown bound) = Unit {0}

told_no : (P : Type 0) (a : Atomicity) → is_no a ≡ true → Tells P a → P → ⊥
told_no P (Yes order points) e t = absurd (false≢true e)
told_no P (No fault) e t = t
told_no P (Unknown bound) e t = absurd (false≢true e)

told_yes : (P : Type 0) (a : Atomicity) → is_no a ≡ false → is_unknown a ≡ false → Tells P a → P
told_yes P (Yes order points) e f t = t
told_yes P (No fault) e f t = absurd (true≢false e)
told_yes P (Unknown bound) e f t = absurd (true≢false f)

-- some one of the list passes the test, or each one fails it
some_passes : (test : RegisterReport → Bool) (reports : List RegisterReport) → list_any test reports ≡ true
    → (r : ℕ) × (report : RegisterReport) × (slice_get reports r ≡ Some report) × (test report ≡ true)
some_passes test [] e = absurd (false≢true e)
some_passes test (report ∷ reports) e = elim (cases_Bool (test report)) [
  | inl y ↦ (0, report, refl, y)
  | inr n ↦ let rest = some_passes test reports (subst (λ b. (b || list_any test reports) ≡ true) n e) in
      (suc rest.0, rest.1, rest.2, rest.3)
]

each_fails : (test : RegisterReport → Bool) (reports : List RegisterReport) → list_any test reports ≡ false
    → (r : ℕ) (report : RegisterReport) → slice_get reports r ≡ Some report → test report ≡ false
each_fails test [] e r report at = let l = slice_get_within [] r report at in absurd (omega (arith, l))
each_fails test (first ∷ reports) e zero report at =
    subst (λ (x : RegisterReport). test x ≡ false) (same_Some _ _ at)
    (or_parts (test first) (list_any test reports) e).0
each_fails test (first ∷ reports) e (suc r) report at =
    each_fails test reports (or_parts (test first) (list_any test reports) e).1 r report at

-- what is known of P at the numbers below a count, as the answer says
abbrev Known : (ℕ → Type 0) → ℕ → Outcome → Type 0
Known P count outcome.Yes = (r : ℕ) → r < count → P r
Known P count outcome.No = (r : ℕ) × (r < count) × (P r → ⊥)
Known P count outcome.Unknown = Unit {0}

all_known : (P : ℕ → Type 0) (reports : List RegisterReport)
    → ((r : ℕ) (report : RegisterReport) → slice_get reports r ≡ Some report → Tells (P r) report.atomicity)
    → Known P (length reports) (outcome_of reports)
all_known P reports each = elim (cases_Bool (list_any (λ reg. is_no reg.atomicity) reports)) [
  | inl y ↦
      let some = some_passes (λ reg. is_no reg.atomicity) reports y in
      subst (λ b. Known P (length reports)
      (cond b outcome.No
      (cond (list_any (λ reg. is_unknown reg.atomicity) reports) outcome.Unknown outcome.Yes))) (sym y) (
        some.0,
        slice_get_within reports some.0 some.1 some.2,
        told_no (P some.0) some.1.atomicity some.3 (each some.0 some.1 some.2),
      )
  | inr n ↦
      subst (λ b. Known P (length reports)
      (cond b outcome.No
      (cond (list_any (λ reg. is_unknown reg.atomicity) reports) outcome.Unknown outcome.Yes))) (sym n)
      (elim (cases_Bool (list_any (λ reg. is_unknown reg.atomicity) reports)) [
        | inl y ↦ subst (λ b. Known P (length reports) (cond b outcome.Unknown outcome.Yes)) (sym y) tt
        | inr m ↦ subst (λ b. Known P (length reports) (cond b outcome.Unknown outcome.Yes)) (sym m) (λ r l.
            let one = slice_get_inside reports r l in
            told_yes (P r) one.0.atomicity
            (each_fails (λ reg. is_no reg.atomicity) reports n r one.0 one.1)
            (each_fails (λ reg. is_unknown reg.atomicity) reports m r one.0 one.1)
            (each r one.0 one.1))
      ])
]

-- ---- registers and the whole

nothing_is_atomic : IsAtomic []
nothing_is_atomic = (
  [],
  record {
    completion = record { once = λ a h. h; only = λ a h. h; all = λ a h _. h };
    keeps = λ a b h _. h;
    met = λ a h _. absurd h;
  },
)

module _ (events : List AnyEvent) where
  -- register r is atomic
  abbrev IsRegisterAtomic : ℕ → Type 0
  IsRegisterAtomic r = IsAtomic (initial_write r ∷ calls_of events r)

  is_named : (r : ℕ) → (r < length (register_names events)) ⊎ (r < length (register_names events) → ⊥)
  is_named r =
      elim (cases_lt r (length (register_names events))) [
        | inl l ↦ inl l
        | inr g ↦ inr (λ l. omega (arith, l, g))
      ]

  each_timed : (r : ℕ) → AreTimed (of_register r (operations events))
  each_timed r = elim (is_named r) [
    | inl l ↦ subst AreTimed (sym (of-named events r l))
        (timed_with_initial r (calls_of events r) (any-calls-timed events r))
    | inr n ↦ subst AreTimed (sym (of-none events r n)) (record {
      life = λ a i. absurd i;
      apart = λ a b i _ _. i;
    })
  ]

  decides : IsAtomic (operations events) ↔ ((r : ℕ) → IsAtomic (of_register r (operations events)))
  decides = each_decides (operations events) each_timed

  whole_outcome : (told : Outcome) → Known IsRegisterAtomic (length (register_names events)) told
      → IsWholeOutcome events told
  whole_outcome outcome.Yes known = decides.1 (λ r. elim (is_named r) [
    | inl l ↦ subst IsAtomic (sym (of-named events r l)) (known r l)
    | inr n ↦ subst IsAtomic (sym (of-none events r n)) nothing_is_atomic
  ])
  whole_outcome outcome.No known =
      λ atomic. known.2 (subst IsAtomic (of-named events known.0 known.1) (decides.0 atomic known.0))
  whole_outcome outcome.Unknown known = tt

  module _ (h : History) (is : IsHistoryOf events h) (reports : List RegisterReport)
      (lines : AreFirstLines h (length h.names.items) reports) where
    pub line-is : (r : ℕ) (report : RegisterReport) → slice_get reports r ≡ Some report
        → IsRegisterReport events r report
    line-is r report at =
        let l = lines.each r report at in
        let ops : l.1.items ≡ calls_of events r = is.registers r l.1 l.3 in
        let told = subst (λ words. IsLine h.lines.items l.0 words l.1.items report) is.words l.4 in
        let line = subst (λ xs. IsLine h.lines.items l.0 (event_words events) xs report) ops told in
        record {
          name =
              subst (λ names. slice_get names r ≡ Some report.register) is.names (l.2
              ∙ ap Some (sym line.name_is));
          cas = line.cas;
          pending = line.pending;
          reads = line.reads;
          writes = line.writes;
          atomicity =
              subst (λ xs. IsAtomicity xs r (calls_of events r) report.atomicity) is.lines
              (line.atomicity r (any-calls-timed events r));
        }

    tells : (r : ℕ) (a : Atomicity) → IsAtomicity (event_lines events) r (calls_of events r) a
        → Tells (IsRegisterAtomic r) a
    tells r (Yes order points) says = says.0
    tells r (No fault) says = says.0
    tells r (Unknown bound) says = tt

    pub count-is : length reports ≡ length (register_names events)
    count-is = lines.count_is ∙ ap length is.names

    pub outcome-is : IsWholeOutcome events (outcome_of reports)
    outcome-is = whole_outcome (outcome_of reports)
        (subst (λ n. Known IsRegisterAtomic n (outcome_of reports)) count-is
        (all_known IsRegisterAtomic reports (λ r report at.
        tells r report.atomicity (line-is r report at).atomicity)))
