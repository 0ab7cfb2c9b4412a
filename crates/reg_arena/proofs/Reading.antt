-- The lines built so far, and one line more or all that are left.
use Rattle.std.proofs.Common.{◌≡◌, ℕ, zero, suc, ◌+◌, ◌<◌, ◌≤◌, List, [], ◌∷◌, ◌++◌, length, take, slice_get}
use Rattle.std.proofs.Common.{drop, Some, None, inl, inr, sym, ap, subst, ◌∙◌, arith, option_and_then}
use Rattle.std.specs.Prelude.{Result, Ok, Err, flat_map}
use Rattle.std.specs.Result.{result_ok, IsErrAnd, IfErr}
use Rattle.std.proofs.lemmas.Bool.{cases_order}
use Rattle.std.proofs.lemmas.Grind.{flat_map-append}
use Rattle.std.proofs.Math.Seq.{take-append_seam}
use Rattle.std.proofs.lemmas.List.{append_assoc, append-nil, flat_map_more, length-append, take-append-le}
use Rattle.std.proofs.lemmas.List.Elements.{filter_map-append}
use Rattle.std.proofs.lemmas.Option.{slice_get_past}
use Rattle.history_text.specs.declared.event.LineEvent.{LineEvent}
use Rattle.history_text.specs.declared.fault.LineFault.{LineFault}
use Rattle.reg_arena.specs.Built.{IsBuilt, IsBuiltWith}
use Rattle.history_model.specs.Refusals.{Line, AreAccepted, IsBuildError, IsRefusal, IsWellFormed}
use Rattle.history_model.specs.Refusals.{event_refusal, events_of, line_refusal, refusal_at}
use Rattle.history_model.specs.History.{History, history_of}
use Rattle.reg_arena.specs.Step.{IsStep, step_result}
use Rattle.history_model.specs.declared.refusal.BuildError.{BuildError}
use Rattle.history_model.specs.declared.refusal.BuildError.TheVariants.{Refused, Memory}
use Rattle.history_model.specs.declared.refusal.LineRefusal.{LineRefusal}
use Rattle.history_model.proofs.Accepted.{take-push}
use Rattle.history_model.proofs.Lists.{slice_get-append, slice_get-behind}
use Rattle.reg_arena.proofs.Step.{accepted-push}
use Rattle.history_model.specs.declared.refusal.Reason.TheVariants.{Faulty}

-- the refusal at a place depends on nothing behind it
refusal-front : (lines more : List Line) (i : ℕ) → i < length lines
    → refusal_at (lines ++ more) i ≡ refusal_at lines i
refusal-front lines more i l =
    ap (λ front. option_and_then (line_refusal front) (slice_get (lines ++ more) i))
    (take-append-le i lines more (omega (arith, l)))
    ∙ ap (option_and_then (line_refusal (take i lines))) (slice_get-append lines more i l)

-- the refusal of the line behind some lines
refusal-behind : (lines : List Line) (line : Line) (more : List Line)
    → refusal_at (lines ++ line ∷ more) (length lines) ≡ line_refusal lines line
refusal-behind lines line more =
    ap (option_and_then (line_refusal (take (length lines) (lines ++ line ∷ more))))
    (slice_get-behind lines line more)
    ∙ ap (λ front. line_refusal front line) (take-append_seam lines (line ∷ more))

-- past the end there is none
refusal-past : (lines : List Line) (i : ℕ) → length lines ≤ i → refusal_at lines i ≡ None
refusal-past lines i l = ap (option_and_then (line_refusal (take i lines))) (slice_get_past lines i l)

module _ (lines : List Line) (h : History) (built : IsBuilt lines h) where
  -- none of the lines is faulty, whatever stands behind them
  free-before : (more : List Line) (i : ℕ) → i < length lines → refusal_at (lines ++ more) i ≡ None
  free-before more i l = refusal-front lines more i l ∙ built.well_formed i

  -- one more line that has an event
  pub built-more : (e : LineEvent) (g : History) → IsStep (events_of lines) e (Ok g)
      → IsBuilt (lines ++ Ok e ∷ []) g
  built-more e g s =
      let events : events_of (lines ++ Ok e ∷ []) ≡ events_of lines ++ e ∷ [] =
      filter_map-append result_ok lines (Ok e ∷ []) in record {
        is = s.1 ∙ ap history_of (sym events);
        accepted = subst AreAccepted (sym events) (accepted-push (events_of lines) e built.accepted s.0);
        well_formed = λ i. elim (cases_order i (length lines)) [
          | inl q ↦ ap (refusal_at (lines ++ Ok e ∷ [])) q ∙ (refusal-behind lines (Ok e) [] ∙ s.0)
          | inr c ↦ elim c [
            | inl lt ↦ free-before (Ok e ∷ []) i lt
            | inr gt ↦ refusal-past (lines ++ Ok e ∷ []) i (past i gt)
          ]
        ];
      }
    where
      past : (i : ℕ) → length lines < i → length (lines ++ Ok e ∷ []) ≤ i
      past i gt = grind (arith, length-append lines (Ok e ∷ []))

  -- a refused event refuses all lines that begin so
  pub refused-event : (e : LineEvent) (x : BuildError) → IsStep (events_of lines) e (Err x)
      → (after : List Line) → IsBuildError (lines ++ Ok e ∷ after) x
  refused-event e (Refused r) s after = record {
    place = length lines;
    there = refusal-behind lines (Ok e) after ∙ s;
    least = free-before (Ok e ∷ after);
  }
  refused-event e Memory s after = tt

  -- and so does a line that has a fault
  pub refused-line : (f : LineFault) (r : LineRefusal) → r ≡ record { line = f.line; reason = Faulty f.kind }
      → (after : List Line) → IsRefusal (lines ++ Err f ∷ after) r
  refused-line f r q after = record {
    place = length lines;
    there = refusal-behind lines (Err f) after ∙ ap Some (sym q);
    least = free-before (Err f ∷ after);
  }

-- a list is what stands before a place, what stands there, and what stands behind it
split-at : {X : Type 0} (xs : List X) (n : ℕ) (x : X) → slice_get xs n ≡ Some x
    → xs ≡ take n xs ++ x ∷ drop (suc n) xs
split-at [] n x e = cc
split-at (y ∷ ys) zero x e = let same : y ≡ x = cc in ap (λ z. z ∷ ys) same
split-at (y ∷ ys) (suc n) x e = ap (λ zs. y ∷ zs) (split-at ys n x e)

module _ (before lines : List Line) (n : ℕ) (h : History) (built : IsBuilt (before ++ take n lines) h) where
  -- the lines before, those up to the place, the line there, and all behind it
  whole : (line : Line) → slice_get lines n ≡ Some line → (after : List Line)
      → (before ++ take n lines) ++ line ∷ (drop (suc n) lines ++ after) ≡ before ++ lines ++ after
  whole line at after =
      append_assoc before (take n lines) (line ∷ (drop (suc n) lines ++ after))
      ∙ ap (λ xs. before ++ xs) (sym (append_assoc (take n lines) (line ∷ drop (suc n) lines) after)
      ∙ ap (λ xs. xs ++ after) (sym (split-at lines n line at))) ∙ sym (append_assoc before lines after)

  pub part-more : (e : LineEvent) (g : History) → slice_get lines n ≡ Some (Ok e)
      → IsStep (events_of (before ++ take n lines)) e (Ok g) → IsBuilt (before ++ take (n + 1) lines) g
  part-more e g at s =
      let next : n + 1 ≡ suc n =
      omega arith in
      subst (λ xs. IsBuilt xs g) (append_assoc before (take n lines) (Ok e ∷ [])
      ∙ ap (λ xs. before ++ xs) (sym (take-push lines n (Ok e) at)
      ∙ ap (λ m. take m lines) (sym next))) (built-more (before ++ take n lines) h built e g s)

  pub part-event-refused : (e : LineEvent) (x : BuildError) → slice_get lines n ≡ Some (Ok e)
      → IsStep (events_of (before ++ take n lines)) e (Err x) → (after : List Line)
      → IsBuildError (before ++ lines ++ after) x
  part-event-refused e x at s after =
      subst (λ xs. IsBuildError xs x) (whole (Ok e) at after)
      (refused-event (before ++ take n lines) h built e x s (drop (suc n) lines ++ after))

  pub part-line-refused : (f : LineFault) (r : LineRefusal) → slice_get lines n ≡ Some (Err f)
      → r ≡ record { line = f.line; reason = Faulty f.kind } → (after : List Line)
      → IsRefusal (before ++ lines ++ after) r
  part-line-refused f r at q after =
      subst (λ xs. IsRefusal xs r) (whole (Err f) at after)
      (refused-line (before ++ take n lines) h built f r q (drop (suc n) lines ++ after))

-- an error that is passed on tells of the same lines
pub error-passed : (before lines : List Line) (h : History) (r : Result (Unit {0}) BuildError)
    (x : BuildError) → IsErrAnd r (λ y. y ≡ x)
    → ((after : List Line) → IsBuildError (before ++ lines ++ after) x)
    → IsBuiltWith before lines (step_result h r)
error-passed before lines h (Ok z) x p refused = absurd p
error-passed before lines h (Err y) x p refused =
    λ after. subst (IsBuildError (before ++ lines ++ after)) (sym p) (refused after)

-- ---- lines in parts

-- what is built of no lines
pub nothing-built : (h : History) → h ≡ history_of [] → IsBuilt [] h
nothing-built h e = record {
  is = e;
  accepted = λ i. ap (option_and_then (event_refusal (take i []))) (slice_get_past [] i (omega arith));
  well_formed = λ i. refusal-past [] i (omega arith);
}

-- what is built of all lines, before which and behind which nothing is left
pub all-built : (before all : List Line) (h : History) → IsBuilt before h → before ++ [] ≡ all
    → IsWellFormed all × (h ≡ history_of (events_of all))
all-built before all h built e =
    let same : before ≡ all =
    sym (append-nil before) ∙ e in (
      subst IsWellFormed same built.well_formed,
      built.is ∙ ap (λ lines. history_of (events_of lines)) same,
    )

module _ {V : Type 0} (items : V → List Line) (before : List Line) (parts : List V) (n : ℕ) (part : V)
    (at : slice_get parts n ≡ Some part) where
  abbrev taken : List Line
  taken = flat_map items (take n parts)

  abbrev rest : List Line
  rest = flat_map items (drop (suc n) parts)

  -- the lines of one part more have been taken in
  pub parts-more : (before ++ flat_map items (take n parts)) ++ items part ≡ before
      ++ flat_map items (take (n + 1) parts)
  parts-more =
      let next : suc n ≡ n + 1 =
      omega arith in flat_map_more items before (take n parts) part
      ∙ ap (λ parts. before ++ flat_map items parts) (sym (take-push parts n part at)
      ∙ ap (λ m. take m parts) next)

  -- the lines of the parts before, of the part there and of the parts behind it are all lines
  whole-parts : (before ++ taken) ++ items part ++ rest ≡ before ++ flat_map items parts
  whole-parts =
      ap (λ lines. lines ++ rest) (append_assoc before taken (items part))
      ∙ append_assoc before (taken ++ items part) rest
      ∙ ap (λ lines. before ++ lines) (append_assoc taken (items part) rest
      ∙ (sym (flat_map-append items (take n parts) (part ∷ drop (suc n) parts))
      ∙ ap (flat_map items) (sym (split-at parts n part at))))

  -- an error at a part refuses all lines that begin so, whatever stands behind them
  pub parts-refused : (r : Result History BuildError) (x : BuildError) → IsErrAnd r (λ y. y ≡ x)
      → ((after : List Line)
      → IsBuildError ((before ++ flat_map items (take n parts)) ++ items part ++ after) x)
      → IsBuiltWith before (flat_map items parts) r
  parts-refused (Ok h) x p refused = absurd p
  parts-refused (Err y) x p refused =
      λ after. subst (IsBuildError (before ++ flat_map items parts ++ after)) (sym p)
      (subst (λ lines. IsBuildError lines x)
      (sym (append_assoc (before ++ taken ++ items part) rest after)
      ∙ ap (λ lines. lines ++ after) whole-parts) (refused (rest ++ after)))

-- an error that is passed on refuses all lines
pub error-of-all : (all : List Line) (r : Result History BuildError) (x : BuildError)
    → IsErrAnd r (λ y. y ≡ x) → IsBuildError all x → IfErr r (IsBuildError all)
error-of-all all (Ok h) x p refused = absurd p
error-of-all all (Err y) x p refused = subst (IsBuildError all) (sym p) refused
