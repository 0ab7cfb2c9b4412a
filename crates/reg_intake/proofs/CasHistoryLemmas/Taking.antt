-- Lines that are taken in behind others, or refused.
use Rattle.std.proofs.Common.{◌≡◌, ℕ, ◌<◌, ◌≤◌, List, [], ◌∷◌, ◌++◌, length}
use Rattle.std.proofs.Common.{take, slice_get, Option, Some, None, inl, inr}
use Rattle.std.proofs.Common.{refl, sym, ap, subst, ◌∙◌, arith, option_and_then}
use Rattle.std.specs.Prelude.{Result, Ok, Err}
use Rattle.std.specs.Result.{result_ok, IfErr, OnOk}
use Rattle.std.proofs.lemmas.Bool.{cases_order}
use Rattle.std.proofs.Math.Seq.{take-append_seam}
use Rattle.std.proofs.lemmas.List.{append-nil, append_assoc, length-append, take-append-le}
use Rattle.std.proofs.lemmas.List.Elements.{filter_map-append}
use Rattle.std.proofs.lemmas.Option.{slice_get_past}
use Rattle.history_model.proofs.Lists.{slice_get-append, slice_get-behind}
use Rattle.history_text.specs.declared.event.AnyEvent.{AnyEvent}
use Rattle.history_text.specs.declared.fault.LineFault.{LineFault}
use Rattle.history_model.specs.Table.{line_refusal, refusal_at}
use Rattle.reg_intake.specs.CasHistory.Refusals.{any_rules, Line, IsRefusal, IsTakeError, event_refusal}
use Rattle.history_model.specs.declared.refusal.LineRefusal.{LineRefusal}
use Rattle.history_model.specs.declared.refusal.BuildError.{BuildError}
use Rattle.history_model.specs.declared.refusal.BuildError.TheVariants.{Refused, Memory}
use Rattle.history_model.specs.declared.refusal.Reason.TheVariants.{Faulty}
use Rattle.reg_intake.specs.CasHistory.Taken.{AreTaken, IsNoHistory, Refuses, Takes}

-- the refusal at a place depends on nothing behind it
refusal-front : (lines more : List Line) (i : ℕ) → i < length lines
    → refusal_at any_rules (lines ++ more) i ≡ refusal_at any_rules lines i
refusal-front lines more i l =
    ap (λ front. option_and_then (line_refusal any_rules front) (slice_get (lines ++ more) i))
    (take-append-le i lines more (omega (arith, l)))
    ∙ ap (option_and_then (line_refusal any_rules (take i lines))) (slice_get-append lines more i l)

-- the refusal of the line behind some lines
refusal-behind : (lines : List Line) (line : Line) (more : List Line)
    → refusal_at any_rules (lines ++ line ∷ more) (length lines) ≡ line_refusal any_rules lines line
refusal-behind lines line more =
    ap (option_and_then (line_refusal any_rules (take (length lines) (lines ++ line ∷ more))))
    (slice_get-behind lines line more)
    ∙ ap (λ front. line_refusal any_rules front line) (take-append_seam lines (line ∷ more))

-- past the end there is none
refusal-past : (lines : List Line) (i : ℕ) → length lines ≤ i → refusal_at any_rules lines i ≡ None
refusal-past lines i l = ap (option_and_then (line_refusal any_rules (take i lines)))
    (slice_get_past lines i l)

-- no lines
none-taken : (events : List AnyEvent) → events ≡ [] → AreTaken [] events
none-taken events none = record {
  well_formed = λ i. refusal-past [] i (omega arith);
  are = none;
}

module _ (done : List Line) (events : List AnyEvent) (taken : AreTaken done events) where
  -- none of the lines is faulty, whatever stands behind them
  free-before : (more : List Line) (i : ℕ) → i < length done → refusal_at any_rules (done ++ more) i ≡ None
  free-before more i l = refusal-front done more i l ∙ taken.well_formed i

  -- the refusal of an event behind those of the lines
  of-event : (e : AnyEvent) (r : Option LineRefusal) → event_refusal events e ≡ r
      → line_refusal any_rules done (Ok e) ≡ r
  of-event e r is = ap (λ before. event_refusal before e) (sym taken.are) ∙ is

  -- a line more that has an event
  taken-more : (e : AnyEvent) → event_refusal events e ≡ None
      → AreTaken (done ++ Ok e ∷ []) (events ++ e ∷ [])
  taken-more e accepted = record {
    well_formed = λ i. elim (cases_order i (length done)) [
      | inl q ↦ ap (refusal_at any_rules (done ++ Ok e ∷ [])) q
          ∙ (refusal-behind done (Ok e) [] ∙ of-event e None accepted)
      | inr c ↦ elim c [
        | inl lt ↦ free-before (Ok e ∷ []) i lt
        | inr gt ↦ refusal-past (done ++ Ok e ∷ []) i (past i gt)
      ]
    ];
    are = ap (λ before. before ++ e ∷ []) taken.are ∙ sym (filter_map-append result_ok done (Ok e ∷ []));
  }
    where
      past : (i : ℕ) → length done < i → length (done ++ Ok e ∷ []) ≤ i
      past i gt = grind (arith, length-append done (Ok e ∷ []))

  -- a refused line refuses all lines that begin so
  refused-line : (line : Line) (r : LineRefusal) (after : List Line) → line_refusal any_rules done line
      ≡ Some r
      → IsRefusal (done ++ line ∷ after) r
  refused-line line r after is = record {
    place = length done;
    there = refusal-behind done line after ∙ is;
    least = free-before (line ∷ after);
  }

  -- so does a refused event
  refused-event : (e : AnyEvent) (r : LineRefusal) (after : List Line) → event_refusal events e ≡ Some r
      → IsRefusal (done ++ Ok e ∷ after) r
  refused-event e r after is = refused-line (Ok e) r after (of-event e (Some r) is)

-- the event of a line is taken in
pub event-takes : {T : Type 0} (events now : List AnyEvent) (e : AnyEvent) (r : Result T BuildError)
    → OnOk r (now ≡ events ++ e ∷ []) → OnOk r (event_refusal events e ≡ None)
    → OnOk r (Takes (Ok e ∷ []) events now)
event-takes events now e (Ok x) is accepted = λ done taken.
    subst (AreTaken (done ++ Ok e ∷ [])) (sym is) (taken-more done events taken e accepted)
event-takes events now e (Err x) is accepted = tt

-- or why it isn't
pub event-refuses : {T : Type 0} (events : List AnyEvent) (e : AnyEvent) (r : Result T BuildError)
    → IfErr r (IsTakeError events e) → IfErr r (Refuses (Ok e ∷ []) events)
event-refuses events e (Ok x) h = tt
event-refuses events e (Err (Refused r)) h = λ done after taken. refused-event done events taken e r after h
event-refuses events e (Err Memory) h = λ done after taken. tt

-- a line without an event isn't
pub fault-refuses : (events : List AnyEvent) (fault : LineFault)
    → Refuses (Err fault ∷ []) events (Refused (record { line = fault.line; reason = Faulty fault.kind }))
fault-refuses events fault = λ done after taken. refused-line done events taken (Err fault) _ after refl

-- ---- some lines, and more

takes-none : (events : List AnyEvent) → Takes [] events events
takes-none events = λ done taken. subst (λ ls. AreTaken ls events) (sym (append-nil done)) taken

takes-more : (lines more : List Line) (old between new : List AnyEvent) → Takes lines old between
    → Takes more between new → Takes (lines ++ more) old new
takes-more lines more old between new first next = λ done taken.
    subst (λ ls. AreTaken ls new) (append_assoc done lines more) (next (done ++ lines) (first done taken))

refuses-behind : (lines more rest : List Line) (old between : List AnyEvent) (error : BuildError)
    → Takes lines old between → Refuses more between error → Refuses (lines ++ (more ++ rest)) old error
refuses-behind lines more rest old between error takes refuses = λ done after taken.
    subst (λ ls. IsNoHistory ls error)
    (append_assoc done lines (more ++ (rest ++ after))
    ∙ ap (λ ls. done ++ ls) (sym (append_assoc lines (more ++ rest) after
    ∙ ap (λ ls. lines ++ ls) (append_assoc more rest after))))
    (refuses (done ++ lines) (rest ++ after) (takes done taken))

-- the lines before those that are left were taken in
pub record IsTakenTo (lines left : List Line) (old now : List AnyEvent) : Type 0 where
  pub before : List Line
  pub taken : Takes before old now
  pub whole : before ++ left ≡ lines

pub none-taken-yet : (lines : List Line) (events : List AnyEvent) → IsTakenTo lines lines events events
none-taken-yet lines events = record { before = []; taken = takes-none events; whole = refl }

-- the first of those that are left are taken in too
pub taken-further : (lines more left : List Line) (old between new : List AnyEvent)
    → IsTakenTo lines (more ++ left) old between → Takes more between new → IsTakenTo lines left old new
taken-further lines more left old between new so_far takes = record {
  before = so_far.before ++ more;
  taken = takes-more so_far.before more old between new so_far.taken takes;
  whole = append_assoc so_far.before more left ∙ so_far.whole;
}

-- or refused
pub refused-there : (lines more left : List Line) (old between : List AnyEvent) (error : BuildError)
    → IsTakenTo lines (more ++ left) old between → Refuses more between error → Refuses lines old error
refused-there lines more left old between error so_far refuses =
    subst (λ ls. Refuses ls old error) so_far.whole
    (refuses-behind so_far.before more left old between error so_far.taken refuses)

-- none is left
pub all-taken : (lines : List Line) (old new : List AnyEvent) → IsTakenTo lines [] old new
    → Takes lines old new
all-taken lines old new so_far =
    subst (λ ls. Takes ls old new) (sym (append-nil so_far.before) ∙ so_far.whole) so_far.taken

-- lines that are taken in, or refused, behind none
pub taken-all : (lines : List Line) (none events : List AnyEvent) → none ≡ [] → Takes lines none events
    → AreTaken lines events
taken-all lines none events is takes = takes [] (none-taken none is)

pub refused-all : (lines : List Line) (none : List AnyEvent) (error : BuildError) → none ≡ []
    → Refuses lines none error → IsNoHistory lines error
refused-all lines none error is refuses =
    subst (λ ls. IsNoHistory ls error) (append-nil lines) (refuses [] [] (none-taken none is))
