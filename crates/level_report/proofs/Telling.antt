-- What a report says of a level holds, of each register and so of all.
use Rattle.std.proofs.Common.{◌≡◌, ◌∙◌, ◌⊎◌, inl, inr, ℕ, zero, suc, Bool, true, false, List, []}
use Rattle.std.proofs.Common.{◌∷◌, ◌≤◌}
use Rattle.std.proofs.Common.{length, slice_get, Option, Some, None, Result, Ok, Err, is_none, refl, sym, ap}
use Rattle.std.proofs.Common.{subst, arith, ◌&&◌, unwrap_or}
use Rattle.std.specs.Prelude.{◌↔◌, MatchBool}
use Rattle.std.specs.List.{list_all}
use Rattle.std.proofs.lemmas.Bool.{cases_lt, le-ltb, and_parts}
use Rattle.std.proofs.lemmas.Option.{slice_get_within}
use Rattle.history_text.specs.declared.limits.TheConstants.{MAX_INPUT}
use Rattle.history_text.specs.Reading.{history_lines}
use Rattle.history_model.specs.History.{History, IsRecorded}
use Rattle.history_model.specs.Legal.{HasOrderFor, IsAtomic}
use Rattle.history_model.specs.Operations.{IsHistory, Precedes, operations, register_of}
use Rattle.history_model.specs.declared.guarantee.Guarantee.{Guarantee}
use Rattle.history_model.specs.declared.guarantee.Guarantee.TheVariants as guarantee
use Rattle.history_model.specs.declared.operation.Operation.{Operation}
use Rattle.history_model.proofs.Lists.{slice_get_inside}
use Rattle.history_model.proofs.Locality.{each_decides}
use Rattle.history_model.proofs.Named.{operation-has-register}
use Rattle.history_model.proofs.Placed.{history-timed}
use Rattle.history_model.proofs.Recorded.{accepted-history, of_register-In}
use Rattle.history_model.specs.Lists.{In}
use Rattle.level_laws.proofs.CausalLemmas.FromSequential.{atomic-causal}
use Rattle.level_laws.proofs.CausalLemmas.Whole.{recorded-whole}
use Rattle.level_report.specs.Registers.{AreLines}
use Rattle.reg_intake.specs.Arena.{IsArenaOf}
use Rattle.reg_intake.specs.declared.refusal.Refusal.{Refusal}
use Rattle.reg_intake.specs.declared.refusal.Refusal.TheVariants.{TooLong}
use Rattle.level_laws.specs.Evidence.Evidence.{unwritten, early}
use Rattle.level_laws.proofs.Refuted.{refuted}
use Rattle.level_laws.proofs.Weaker.{atomic-within, session-monotonic, session-own_writes}
use Rattle.reg_levels.specs.Counts.Staleness.{IsRegularForAll, Wrote}
use Rattle.reg_levels.specs.Clusters.Clean.{IsClean}
use Rattle.reg_levels.specs.Counts.Listing.{RepliesFirst}
use Rattle.reg_levels.specs.Counts.Measured.{IsMeasured}
use Rattle.reg_levels.specs.declared.counts.measure.Staleness.{Staleness}
use Rattle.reg_levels.proofs.CountLemmas.Zero.{old-zero}
use Rattle.reg_levels.specs.Gap.Gaps.{IsGapOf}
use Rattle.reg_levels.specs.declared.gap.answer.Gap.{Gap}
use Rattle.report_text.specs.declared.level.report.FaultLines.{FaultLines}
use Rattle.report_text.specs.declared.level.report.Freshness.{Freshness}
use Rattle.report_text.specs.declared.level.report.KeptGuarantees.{KeptGuarantees}
use Rattle.report_text.specs.declared.level.report.LevelName.{LevelName}
use Rattle.report_text.specs.declared.level.report.LevelName.TheVariants.{Atomic, Regular, Session}
use Rattle.report_text.specs.declared.level.report.LevelName.TheVariants.{OwnWrites, Monotonic, Sequential}
use Rattle.report_text.specs.declared.level.report.LevelsReport.{LevelsReport}
use Rattle.report_text.specs.declared.level.report.RegisterLevels.{RegisterLevels}
use Rattle.level_report.specs.Answer.{IsAnswer, IsAnswerText, IsAnswerToLines, IsOutcome, IsOutcomeOf}
use Rattle.level_report.specs.Answer.{IsAnswerOf}
use Rattle.level_report.specs.declared.outcome.Outcome.{Outcome}
use Rattle.report_text.specs.declared.level.report.Totals.{Totals}
use Rattle.level_report.specs.Freshness.{IsFreshness}
use Rattle.level_report.specs.Guarantees.{IsSession, IsVerdict}
use Rattle.level_report.specs.Causal.{IsCausalAnswer}
use Rattle.level_report.specs.Meaning.{EachHolds, Holds, IsRegisterLine, IsReport}
use Rattle.level_laws.specs.Causal.{IsCausal}
use Rattle.causal_order.specs.Decisions.{IsBeyond}
use Rattle.report_text.specs.declared.level.causal.CausalLines.{CausalLines}
use Rattle.report_text.specs.declared.level.causal.CausalVerdict.{CausalVerdict}
use Rattle.report_text.specs.declared.level.causal.CausalVerdict.TheVariants.{Yes, No, Unknown}
use Rattle.report_text.specs.declared.level.report.Required.{Required}
use Rattle.report_text.specs.declared.level.report.Required.TheVariants.{Each, Causal}
use Rattle.level_report.specs.Totals.{all_say, AreTotals, half_of, outcome_of_level, outcome_of_verdict}
use Rattle.level_report.specs.Totals.{outcome_said, says, totals_say}
use Rattle.level_report.specs.declared.settings.Asked.{Asked}

-- ---- one register

-- a verdict as an answer, yes or no
abbrev IsAnswerTo : Bool → Type 0 → Type 0
IsAnswerTo true P = P
IsAnswerTo false P = P → ⊥

regular-tells : (ops : List Operation) (m : Staleness) → IsMeasured ops m → IsClean ops
    → (m.counts.stale ≡ 0) ↔ IsRegularForAll ops
regular-tells ops m h k =
    let zero = old-zero Precedes Wrote RepliesFirst ops m.counts.stale m.stale h.stale_reads in
    (λ e. record { clean = k; fresh = zero.0 e }, λ r. zero.1 r.fresh)

module _ (ops : List Operation) (y : IsHistory ops) where
  atomic-told : (stale : Bool) (f : Freshness) → IsFreshness ops stale f → IsAnswerTo f.atomic (IsAtomic ops)
  atomic-told stale f (inl c) = subst (λ b. IsAnswerTo b (IsAtomic ops)) (sym c.atomic) (go c.width c.is_gap)
    where
      go : (gap : Option Gap) → IsGapOf ops gap → IsAnswerTo (is_none gap) (IsAtomic ops)
      go None is = is
      go (Some g) is = λ o. is.needed (atomic-within ops g.events o)
  atomic-told stale f (inr (inl u)) =
      subst (λ (x : Freshness). IsAnswerTo x.atomic (IsAtomic ops)) (sym u.2)
      (λ o. refuted guarantee.Atomic ops (unwritten u.0) y u.1.fault o)
  atomic-told stale f (inr (inr e)) =
      subst (λ (x : Freshness). IsAnswerTo x.atomic (IsAtomic ops)) (sym e.3)
      (λ o. refuted guarantee.Atomic ops (early e.0 e.1) y (record {
        within = e.2.fault.within;
        write_within = e.2.fault.write_within;
        write = e.2.fault.write;
        read = e.2.fault.read;
        must = e.2.fault.early;
      }) o)

  regular-told : (stale : Bool) (f : Freshness) → IsFreshness ops stale f
      → IsAnswerTo f.regular (IsRegularForAll ops)
  regular-told stale f (inl c) = go f.regular refl
    where
      go : (b : Bool) → f.regular ≡ b → IsAnswerTo f.regular (IsRegularForAll ops)
      go true q = rw q ((regular-tells ops c.measured c.is_measured c.clean).0 (c.regular.0 q))
      go false q = rw q (λ all. absurd
          (let yes = c.regular.1 ((regular-tells ops c.measured c.is_measured c.clean).1 all) in cc (q, yes)))
  regular-told stale f (inr (inl u)) =
      subst (λ (x : Freshness). IsAnswerTo x.regular (IsRegularForAll ops)) (sym u.2)
      (λ all. all.clean.written u.0 u.1.fault)
  regular-told stale f (inr (inr e)) =
      subst (λ (x : Freshness). IsAnswerTo x.regular (IsRegularForAll ops)) (sym e.3)
      (λ all. all.clean.in_time e.0 e.1 e.2.fault)

  verdict-told : (g : Guarantee) (b : Bool) (fault : Option FaultLines) → IsVerdict g ops b fault
      → IsAnswerTo b (HasOrderFor g ops)
  verdict-told g true fault v = v.0
  verdict-told g false fault v = v.0

  session-told : (b : Bool) (k : KeptGuarantees) → IsSession ops b k
      → IsAnswerTo b (HasOrderFor guarantee.Session ops)
  session-told true k s = s.0
  session-told false k s = s.0

  own-told : (b : Bool) (k : KeptGuarantees) → IsSession ops b k
      → IsAnswerTo (unwrap_or k.own_writes true) (HasOrderFor guarantee.OwnWrites ops)
  own-told true k s =
      subst (λ (o : Option Bool). IsAnswerTo (unwrap_or o true) (HasOrderFor guarantee.OwnWrites ops))
      (sym s.2) (session-own_writes ops s.0)
  own-told false k s =
      subst (λ (o : Option Bool). IsAnswerTo (unwrap_or o true) (HasOrderFor guarantee.OwnWrites ops))
      (sym s.1.own_writes) (verdict-told guarantee.OwnWrites s.1.own k.own_writes_fault s.1.own_verdict)

  monotonic-told : (b : Bool) (k : KeptGuarantees) → IsSession ops b k
      → IsAnswerTo (unwrap_or k.monotonic true) (HasOrderFor guarantee.Monotonic ops)
  monotonic-told true k s =
      subst (λ (o : Option Bool). IsAnswerTo (unwrap_or o true) (HasOrderFor guarantee.Monotonic ops))
      (sym s.3) (session-monotonic ops s.0)
  monotonic-told false k s =
      subst (λ (o : Option Bool). IsAnswerTo (unwrap_or o true) (HasOrderFor guarantee.Monotonic ops))
      (sym s.1.monotonic_is)
      (verdict-told guarantee.Monotonic s.1.monotonic k.monotonic_fault s.1.monotonic_verdict)

line-told : (h : History) (rec : IsRecorded h) (asked : Asked) (r : ℕ) (reg : RegisterLevels)
    → IsRegisterLine h asked r reg → (level : LevelName)
    → IsAnswerTo (says level reg) (Holds level (register_of h r))
line-told h rec asked r reg line Atomic =
    atomic-told (register_of h r) (accepted-history h rec r) asked.stale reg.freshness line.freshness
line-told h rec asked r reg line Regular =
    regular-told (register_of h r) (accepted-history h rec r) asked.stale reg.freshness line.freshness
line-told h rec asked r reg line Session =
    session-told (register_of h r) (accepted-history h rec r) reg.guarantees.session reg.guarantees
    line.guarantees.session
line-told h rec asked r reg line OwnWrites =
    own-told (register_of h r) (accepted-history h rec r) reg.guarantees.session reg.guarantees
    line.guarantees.session
line-told h rec asked r reg line Monotonic =
    monotonic-told (register_of h r) (accepted-history h rec r) reg.guarantees.session reg.guarantees
    line.guarantees.session
line-told h rec asked r reg line Sequential =
    verdict-told (register_of h r) (accepted-history h rec r) guarantee.Sequential reg.guarantees.sequential
    reg.guarantees.sequential_fault line.guarantees.sequential

-- ---- all registers

all-at : (test : RegisterLevels → Bool) (regs : List RegisterLevels) → list_all test regs ≡ true → (k : ℕ)
    (reg : RegisterLevels) → slice_get regs k ≡ Some reg → test reg ≡ true
all-at test [] all k reg at = absurd (cc at)
all-at test (r ∷ rs) all zero reg at =
    let same : r ≡ reg = cc at in
    subst (λ x. test x ≡ true) same (and_parts (test r) (list_all test rs) all).0
all-at test (r ∷ rs) all (suc k) reg at =
    all-at test rs (and_parts (test r) (list_all test rs) all).1 k reg at

one-fails : (test : RegisterLevels → Bool) (regs : List RegisterLevels) → list_all test regs ≡ false
    → (k : ℕ) × (reg : RegisterLevels) × (slice_get regs k ≡ Some reg) × (test reg ≡ false)
one-fails test [] none = absurd (cc none)
one-fails test (r ∷ rs) none = go (test r) refl (one-fails test rs) none
  where
    go : (b : Bool) → test r ≡ b → (list_all test rs ≡ false → (k : ℕ) × (reg : RegisterLevels)
        × (slice_get rs k ≡ Some reg) × (test reg ≡ false))
        → (b && list_all test rs) ≡ false → (k : ℕ) × (reg : RegisterLevels)
        × (slice_get (r ∷ rs) k ≡ Some reg) × (test reg ≡ false)
    go true q later none = let x = later none in (suc x.0, x.1, x.2, x.3)
    go false q later none = (zero, r, refl, q)

each-told : (h : History) (rec : IsRecorded h) (asked : Asked) (regs : List RegisterLevels)
    → AreLines h asked regs → (level : LevelName) → IsAnswerTo (all_say level regs) (EachHolds level h)
each-told h rec asked regs is level = go (all_say level regs) refl
  where
    go : (b : Bool) → all_say level regs ≡ b → IsAnswerTo (all_say level regs) (EachHolds level h)
    go true q = rw q (λ r below.
        let x = slice_get_inside regs r (omega (arith, below, is.count)) in
        let says_so = all-at (says level) regs q r x.0 x.1 in
        subst (λ b. IsAnswerTo b (Holds level (register_of h r))) says_so
        (line-told h rec asked r x.0 (is.each r x.0 x.1) level))
    go false q = rw q (λ each.
        let x = one-fails (says level) regs q in
        let below = slice_get_within regs x.0 x.1 x.2 in
        subst (λ b. IsAnswerTo b (Holds level (register_of h x.0))) x.3
        (line-told h rec asked x.0 x.1 (is.each x.0 x.1 x.2) level)
        (each x.0 (omega (arith, below, is.count))))

-- a register that no call names has no operations
none-atomic : (h : History) → IsRecorded h → (r : ℕ) → length h.names ≤ r → IsAtomic (register_of h r)
none-atomic h rec r past = (
  [],
  record {
    completion = record { once = λ a i. absurd i; only = λ a i. absurd i; all = λ a i c. absurd (none a i) };
    keeps = λ a b i. absurd i;
    met = λ a i. absurd i;
  },
)
  where
    none : (a : Operation) → In a (register_of h r) → ⊥
    none a i =
        let x = of_register-In r (operations h) a i in
        let below = operation-has-register h rec a x.0 in
        absurd (omega (arith, past, below, x.1))

-- if all lines say atomic, the history is causal
pub atomic-causes : (h : History) (rec : IsRecorded h) (asked : Asked) (regs : List RegisterLevels)
    → AreLines h asked regs → all_say Atomic regs ≡ true → IsCausal (operations h)
atomic-causes h rec asked regs is all =
    let each = subst (λ b. IsAnswerTo b (EachHolds Atomic h)) all (each-told h rec asked regs is Atomic) in
    atomic-causal (operations h) (recorded-whole h rec)
    ((each_decides (operations h) (λ r. history-timed (register_of h r) (accepted-history h rec r))).1
    (λ r. elim (cases_lt r (length h.names)) [ inl l ↦ each r l | inr l ↦ none-atomic h rec r l ]))

-- the summary says of a level what all lines say
totals-told : (regs : List RegisterLevels) (t : Totals) → AreTotals regs t → (level : LevelName)
    → all_say Session regs ≡ t.session → totals_say level t ≡ all_say level regs
    ⊎ ((t.session ≡ true) × (totals_say level t ≡ true))
totals-told regs t are Atomic e = inl are.atomic
totals-told regs t are Regular e = inl are.regular
totals-told regs t are Session e = inl are.session
totals-told regs t are Sequential e = inl are.sequential
totals-told regs t are OwnWrites e = half t.session t.own_writes _ are.own_writes
  where
    half : (s : Bool) (o : Option Bool) (b : Bool) → o ≡ half_of s b
        → (unwrap_or o true ≡ b) ⊎ ((s ≡ true) × (unwrap_or o true ≡ true))
    half true o b q = inr (refl, ap (λ x. unwrap_or x true) q)
    half false o b q = inl (ap (λ x. unwrap_or x true) q)
totals-told regs t are Monotonic e = half t.session t.monotonic _ are.monotonic
  where
    half : (s : Bool) (o : Option Bool) (b : Bool) → o ≡ half_of s b
        → (unwrap_or o true ≡ b) ⊎ ((s ≡ true) × (unwrap_or o true ≡ true))
    half true o b q = inr (refl, ap (λ x. unwrap_or x true) q)
    half false o b q = inl (ap (λ x. unwrap_or x true) q)

-- a history whose registers all kept the session kept its halves
session-says : (h : History) (rec : IsRecorded h) (level : LevelName) → EachHolds Session h
    → (level ≡ OwnWrites) ⊎ (level ≡ Monotonic) → EachHolds level h
session-says h rec level each (inl q) =
    subst (λ l. EachHolds l h) (sym q) (λ r below. session-own_writes (register_of h r) (each r below))
session-says h rec level each (inr q) =
    subst (λ l. EachHolds l h) (sym q) (λ r below. session-monotonic (register_of h r) (each r below))

pub outcome-told : (h : History) (rec : IsRecorded h) (asked : Asked) (report : LevelsReport)
    → IsReport h asked report → (level : LevelName)
    → IsAnswerTo (totals_say level report.totals) (EachHolds level h)
outcome-told h rec asked report is level = go level
  where
    t : Totals
    t = report.totals

    lines : AreLines h asked report.registers.items
    lines = record { count = is.count; each = is.each }

    whole : t.session ≡ true → EachHolds Session h
    whole q = subst (λ b. IsAnswerTo b (EachHolds Session h)) (sym is.totals.session ∙ q)
        (each-told h rec asked report.registers.items lines Session)

    go : (level : LevelName) → IsAnswerTo (totals_say level t) (EachHolds level h)
    go Atomic = subst (λ b. IsAnswerTo b (EachHolds Atomic h)) (sym is.totals.atomic)
        (each-told h rec asked report.registers.items lines Atomic)
    go Regular = subst (λ b. IsAnswerTo b (EachHolds Regular h)) (sym is.totals.regular)
        (each-told h rec asked report.registers.items lines Regular)
    go Session = subst (λ b. IsAnswerTo b (EachHolds Session h)) (sym is.totals.session)
        (each-told h rec asked report.registers.items lines Session)
    go Sequential = subst (λ b. IsAnswerTo b (EachHolds Sequential h)) (sym is.totals.sequential)
        (each-told h rec asked report.registers.items lines Sequential)
    go OwnWrites = elim (totals-told report.registers.items t is.totals OwnWrites (sym is.totals.session)) [
      | inl q ↦ subst (λ b. IsAnswerTo b (EachHolds OwnWrites h)) (sym q)
          (each-told h rec asked report.registers.items lines OwnWrites)
      | inr q ↦ subst (λ b. IsAnswerTo b (EachHolds OwnWrites h)) (sym q.1)
          (session-says h rec OwnWrites (whole q.0) (inl refl))
    ]
    go Monotonic = elim (totals-told report.registers.items t is.totals Monotonic (sym is.totals.session)) [
      | inl q ↦ subst (λ b. IsAnswerTo b (EachHolds Monotonic h)) (sym q)
          (each-told h rec asked report.registers.items lines Monotonic)
      | inr q ↦ subst (λ b. IsAnswerTo b (EachHolds Monotonic h)) (sym q.1)
          (session-says h rec Monotonic (whole q.0) (inr refl))
    ]

-- ---- an input

causal-told : (ops : List Operation) (orders : Bool) (verdict : CausalVerdict) (c : CausalLines)
    → IsCausalAnswer ops orders verdict c → (h : History) → ops ≡ operations h
    → IsOutcomeOf Causal h (outcome_of_verdict verdict)
causal-told ops orders Yes c is h same = subst IsCausal same is.0
causal-told ops orders No c is h same = λ causal. is.0 (subst IsCausal (sym same) causal)
causal-told ops orders Unknown c is h same = (refl, subst IsBeyond same is.0)

pub outcome-is : (h : History) (asked : Asked) (report : LevelsReport) (required : Required) → IsRecorded h
    → IsReport h asked report → IsOutcomeOf required h (outcome_said required report.totals)
outcome-is h asked report (Each level) rec is =
    go (totals_say level report.totals) (outcome-told h rec asked report is level)
  where
    go : (b : Bool) → IsAnswerTo b (EachHolds level h) → IsOutcomeOf (Each level) h (outcome_of_level b)
    go true a = a
    go false a = a
outcome-is h asked report Causal rec is =
    causal-told (operations h) asked.orders report.totals.causal.verdict report.totals.causal is.causal h refl

pub answer-to : (asked : Asked) (input : List ℕ) (arena : History) (report : LevelsReport)
    → IsArenaOf input arena → IsReport arena asked report → IsAnswer asked input (Ok report)
answer-to asked input arena report read is =
    subst (λ b. MatchBool b (◌≡◌ {A = Result LevelsReport Refusal} (Ok report) (Err TooLong))
    (IsAnswerToLines asked (history_lines input) (Ok report)))
    (sym (le-ltb MAX_INPUT (length input) read.within))
    (read.well_formed, subst (λ h. IsReport h asked report) read.is is)

-- what is told of an input's arena is told of the input
pub answer-of : (asked : Asked) (required : Required) (input : List ℕ) (arena : History) (bytes : List ℕ)
    (outcome : Outcome) → IsArenaOf input arena → IsAnswerOf asked required arena bytes outcome
    → IsAnswerText asked input bytes × IsOutcome required input outcome
answer-of asked required input arena bytes outcome read told = (
  (told.0, answer-to asked input arena told.0 read told.1, told.2),
  subst (λ h. IsOutcomeOf required h outcome) read.is told.3,
)
