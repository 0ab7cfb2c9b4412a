-- The lines of a source, turn by turn: what is known when some are taken in while the next are read, and when
-- none is left.
use Rattle.std.proofs.Common.{◌≡◌, ℕ, ◌+◌, ◌-◌, ◌<◌, ◌≤◌, Bool, true, false, cond, min, List}
use Rattle.std.proofs.Common.{[], ◌++◌, length, take, drop, Option, Ok, refl, sym, ap, subst}
use Rattle.std.proofs.Common.{◌∙◌, arith, append_assoc, append-nil, length-append}
use Rattle.std.proofs.lemmas.List.Concat.{flat_map-append}
use Rattle.history_text.specs.declared.limits.TheConstants.{MAX_INPUT}
use Rattle.history_text.specs.Lines.{MayCome}
use Rattle.history_text.specs.Reading.{history_lines, lines_from}
use Rattle.history_model.specs.History.{History, history_of}
use Rattle.history_model.specs.Refusals.{Line, IsBuildError, IsRefusal, IsWellFormed, events_of}
use Rattle.history_model.specs.declared.refusal.BuildError.{BuildError}
use Rattle.history_model.specs.declared.refusal.BuildError.TheVariants.{Refused, Memory}
use Rattle.reg_arena.specs.Built.{IsBuilt, IsBuiltWith}
use Rattle.reg_arena.specs.Numbered.{lines_of, names_with}
use Rattle.reg_arena.specs.declared.numbering.NumberedLines.{NumberedLines}
use Rattle.reg_intake.proofs.Growing.{lines-split, names-built, numbered-further}
use Rattle.reg_intake.proofs.Pulling.{left_to_pull, less-to-pull, gives-more, gives-none, stops-after}
use Rattle.reg_intake.specs.Arena.{IsArenaOf}
use Rattle.reg_intake.specs.Ends.{IsAll}
use Rattle.reg_intake.specs.Intake.{IsHeld, IsReadOf}
use Rattle.reg_intake.specs.Pulls.{Gives, GetsNoMore, IsFurther, nothing}
use Rattle.reg_intake.specs.Refusals.{of_build}
use Rattle.reg_intake.specs.Underway.{AreNumberedBehind, IsReadOn, IsReadSoFar}
use Rattle.reg_intake.specs.Underway.{IsStopped, IsUnderway, lines_in, waiting}
use Rattle.reg_intake.specs.declared.intake.Intake.{Intake}
use Rattle.reg_intake.specs.declared.pulls.Pulls.{Pulls}
use Rattle.reg_intake.specs.declared.reader.Reader.{Reader}
use Rattle.reg_intake.specs.declared.underway.Underway.{Underway}
use Rattle.reg_intake.specs.declared.refusal.Refusal.{Refusal}
use Rattle.reg_intake.specs.declared.refusal.Refusal.TheVariants.{At, TooLong, InputFailed}
use Rattle.reg_intake.specs.declared.refusal.Refusal.TheVariants.{NoRoom, OutputFailed}

-- how much is left to do if this many parts wait: to pull twice as much as is left, since a pull may leave
-- lines to number, and to number those that wait
abbrev pub left_to_do : Pulls → ℕ → ℕ
left_to_do pulled parts = left_to_pull pulled + left_to_pull pulled + min parts 1

-- a turn leaves less to do: less to pull, or at the end no lines that wait
pub less-to-do : (old new : Pulls) (before after : ℕ) → new.total ≤ MAX_INPUT
    → (old.is_ended ≡ false → IsFurther old new)
    → (old.is_ended ≡ true → (0 < before) × (after ≡ 0) × (new.is_ended ≡ true))
    → left_to_do new after < left_to_do old before
less-to-do old new before after within further last = go old.is_ended refl
  where
    go : (b : Bool) → old.is_ended ≡ b → left_to_do new after < left_to_do old before
    go true ended =
        let some = (last ended).0 in
        let none_after = (last ended).1 in
        let none_left = ap (λ b. cond b 0 (MAX_INPUT - new.total + 1)) (last ended).2 in
        omega (arith, some, none_after, none_left)
    go false more = (let less = less-to-pull old new more within (further more) in omega (arith, less))

-- a turn of pulling and reading: the source gave some bytes, and the lines of what was held and of these are
-- the lines that were read and those of what is held now
pub record IsNext (left now : Option (List ℕ)) (failed failed_now : ℕ) (old new : Intake)
    (read : List Line) : Type 0 where
  pub bytes : List ℕ
  pub given : Gives left now failed failed_now old.pulled new.pulled bytes
  pub lines : (more : List ℕ) → MayCome new.pulled.is_ended more
      → read ++ lines_from new.next_line (new.held ++ more)
      ≡ lines_from old.next_line (old.held ++ (bytes ++ more))
  pub end : new.pulled.is_ended ≡ true → new.held ≡ []
  pub room : new.next_line + length new.held ≤ old.next_line + length old.held + length bytes

-- what was pulled and held is read
pub next-of : (left now : Option (List ℕ)) (failed failed_now : ℕ) (old middle new : Intake) (bytes : List ℕ)
    (read : List Line) → IsHeld left now failed failed_now old middle bytes → IsReadOf middle new read
    → IsNext left now failed failed_now old new read
next-of left now failed failed_now old middle new bytes read held was_read = record {
  bytes = bytes;
  given =
      subst (λ pulled. Gives left now failed failed_now old.pulled pulled bytes)
      (sym was_read.pulled) held.given;
  lines =
      λ more may_come. was_read.lines more
      (subst (λ (pulled : Pulls). MayCome pulled.is_ended more) was_read.pulled may_come)
      ∙ ap (λ n. lines_from n (middle.held ++ more)) held.line
      ∙ ap (λ xs. lines_from old.next_line (xs ++ more)) held.held
      ∙ ap (lines_from old.next_line) (append_assoc old.held bytes more);
  end = λ ended. was_read.end (subst (λ (pulled : Pulls). pulled.is_ended ≡ true) was_read.pulled ended);
  room =
      (let room = was_read.room in let line = held.line in let longer = ap length held.held in
      let joined = length-append old.held bytes in omega arith);
}

-- nothing is taken in before the first pull
pub none-read : (left : Option (List ℕ)) (failed : ℕ) (intake : Intake) → intake.held ≡ []
    → intake.next_line ≡ 1 → intake.pulled ≡ nothing → IsReadSoFar left left failed failed [] [] intake
none-read left failed intake held line pulled = record {
  given =
      subst (λ new. Gives left left failed failed nothing new []) (sym pulled)
      (gives-none left failed nothing (omega arith));
  lines =
      λ more may_come. ap (λ n. lines_from n (intake.held ++ more)) line
      ∙ ap (λ xs. lines_from 1 (xs ++ more)) held;
  end = λ ended. held;
  room = (let none = ap length held in omega (arith, line, none));
}

module _ (left mid now : Option (List ℕ)) (failed failed_mid failed_now : ℕ) (bytes : List ℕ)
    (read : List Line) (old new : Intake)
    (taken : IsReadSoFar left mid failed failed_mid bytes read old) where
  -- what a turn gives and reads is taken in
  pub read-further : (later : List Line) → (next : IsNext mid now failed_mid failed_now old new later)
      → IsReadSoFar left now failed failed_now (bytes ++ next.bytes) (read ++ later) new
  read-further later next = record {
    given =
        gives-more left mid now failed failed_mid failed_now nothing old.pulled bytes taken.given new.pulled
        next.bytes next.given;
    lines = λ more may_come.
        append_assoc read later (lines_from new.next_line (new.held ++ more))
        ∙ ap (λ lines. read ++ lines) (next.lines more may_come)
        ∙ taken.lines (next.bytes ++ more)
        (λ ended. let none = next.given.none_behind ended in
        ap (λ xs. xs ++ more) none.0 ∙ may_come none.1)
        ∙ ap history_lines (sym (append_assoc bytes next.bytes more));
    end = next.end;
    room =
        (let room = taken.room in let further = next.room in let counted = next.given.counted in omega arith);
  }

  -- why there is no next turn
  pub stopped-by-next : (refusal : Refusal)
      → GetsNoMore mid now failed_mid failed_now old.pulled new.pulled refusal
      → IsStopped left now failed failed_now new.pulled refusal
  stopped-by-next (At r) stops = absurd stops
  stopped-by-next TooLong stops =
      stops-after left mid now failed failed_mid failed_now nothing old.pulled bytes taken.given TooLong stops
  stopped-by-next InputFailed stops =
      stops-after left mid now failed failed_mid failed_now nothing old.pulled bytes taken.given InputFailed
      stops
  stopped-by-next NoRoom stops = (
    bytes ++ stops.0,
    gives-more left mid now failed failed_mid failed_now nothing old.pulled bytes
        taken.given new.pulled stops.0 stops.1,
  )
  stopped-by-next OutputFailed stops = absurd stops

-- memory is refused once a turn has pulled
pub no-room : (left mid now : Option (List ℕ)) (failed failed_mid failed_now : ℕ) (bytes : List ℕ)
    (read : List Line) (old middle new : Intake) → IsReadSoFar left mid failed failed_mid bytes read old
    → (given : List ℕ)
    → IsHeld mid now failed_mid failed_now old middle given → new.pulled ≡ middle.pulled
    → IsStopped left now failed failed_now new.pulled NoRoom
no-room left mid now failed failed_mid failed_now bytes read old middle new taken given held same =
    stopped-by-next left mid now failed failed_mid failed_now bytes read old new taken NoRoom (
      given,
      subst (λ pulled. Gives mid now failed_mid failed_now old.pulled pulled given)
          (sym same) held.given,
    )

-- what refuses the lines that were read, whatever follows them, refuses the input, whatever may come
pub stopped-by-build : (left now : Option (List ℕ)) (failed failed_now : ℕ) (bytes : List ℕ)
    (read : List Line) (intake : Intake) → IsReadSoFar left now failed failed_now bytes read intake
    → (e : BuildError) → ((after : List Line) → IsBuildError (read ++ after) e)
    → IsStopped left now failed failed_now intake.pulled (of_build e)
stopped-by-build left now failed failed_now bytes read intake taken (Refused r) refused = (
  bytes,
  taken.given,
  λ more may_come. subst (λ lines. IsRefusal lines r) (taken.lines more may_come)
      (refused (lines_from intake.next_line (intake.held ++ more))),
)
stopped-by-build left now failed failed_now bytes read intake taken Memory refused = (bytes, taken.given)

-- what comes after the lines that were numbered comes after the ones that were waiting then
behind : (before numbered waited after : List Line)
    → (before ++ (numbered ++ waited)) ++ after ≡ (before ++ numbered) ++ (waited ++ after)
behind before numbered waited after =
    ap (λ lines. lines ++ after) (sym (append_assoc before numbered waited))
    ∙ append_assoc (before ++ numbered) waited after

-- some of the lines that were numbered are taken in, and more are numbered
further-behind-lines : (before front rest waited later numbered waiting_now : List Line)
    → numbered ++ waiting_now ≡ waited ++ later
    → (before ++ ((front ++ rest) ++ waited)) ++ later
    ≡ (before ++ front) ++ ((rest ++ numbered) ++ waiting_now)
further-behind-lines before front rest waited later numbered waiting_now all =
    behind before (front ++ rest) waited later
    ∙ ap (λ lines. lines ++ (waited ++ later)) (sym (append_assoc before front rest))
    ∙ append_assoc (before ++ front) rest (waited ++ later)
    ∙ ap (λ lines. (before ++ front) ++ lines)
    (ap (λ lines. rest ++ lines) (sym all) ∙ sym (append_assoc rest numbered waiting_now))

module _ (left mid : Option (List ℕ)) (failed failed_mid : ℕ) (old : Intake) (reader : Reader)
    (state : Underway) (underway : IsUnderway left mid failed failed_mid old reader state) where
  abbrev pub ahead : List Line
  ahead = lines_in state.ahead.items

  -- a faulty line among those ahead refuses all, whatever follows
  pub refused-behind : (e : BuildError)
      → ((after : List Line) → IsBuildError (underway.before ++ ahead ++ after) e) → (after : List Line)
      → IsBuildError ((underway.before ++ (ahead ++ waiting reader)) ++ after) e
  refused-behind e refused after =
      subst (λ lines. IsBuildError lines e) (sym (behind underway.before ahead (waiting reader) after))
      (refused (waiting reader ++ after))

  module _ (now : Option (List ℕ)) (failed_now : ℕ) (new : Intake) (later : List Line)
      (next : IsNext mid now failed_mid failed_now old new later) where
    -- the lines at the front of those ahead are taken in, those that were waiting are numbered, and the next
    -- ones are read
    pub turned : (count : ℕ) (numbered : List NumberedLines) (reader_after : Reader) (after : Underway)
        → IsBuilt (underway.before ++ lines_in (take count state.ahead.items)) after.arena
        → after.ahead.items ≡ drop count state.ahead.items ++ numbered
        → lines_in numbered ++ waiting reader_after ≡ waiting reader ++ later
        → AreNumberedBehind reader.numbering reader_after.numbering numbered
        → IsUnderway left now failed failed_now new reader_after after
    turned count numbered reader_after after built left_ahead all are_numbered =
        let front = lines_in (take count state.ahead.items) in
        let rest = lines_in (drop count state.ahead.items) in
        let lines_left : lines_in after.ahead.items ≡ rest ++ lines_in numbered =
        ap lines_in left_ahead ∙ flat_map-append lines_of (drop count state.ahead.items) numbered in
        record {
          before = underway.before ++ front;
          built = built;
          numbered =
              subst (λ names. AreNumberedBehind names reader_after.numbering after.ahead.items)
              (sym (names-built underway.before front state.arena after.arena underway.built built))
              (subst (AreNumberedBehind (names_with state.arena.names front) reader_after.numbering)
              (sym left_ahead)
              (numbered-further state.arena.names reader.numbering reader_after.numbering
              state.ahead.items count numbered underway.numbered are_numbered));
          bytes = underway.bytes ++ next.bytes;
          so_far =
              subst (λ lines. IsReadSoFar left now failed failed_now (underway.bytes ++ next.bytes) lines new)
              (ap (λ lines. (underway.before ++ (lines ++ waiting reader)) ++ later)
              (sym (lines-split state.ahead.items count))
              ∙ further-behind-lines underway.before front rest (waiting reader) later (lines_in numbered)
              (waiting reader_after) all
              ∙ ap (λ lines. (underway.before ++ front) ++ (lines ++ waiting reader_after)) (sym lines_left))
              (read-further left mid now failed failed_mid failed_now underway.bytes
              (underway.before ++ (ahead ++ waiting reader)) old new underway.so_far later next);
        }

    -- a faulty line among those ahead refuses the input
    pub turn-refused : (e : BuildError)
        → ((after : List Line) → IsBuildError (underway.before ++ ahead ++ after) e)
        → IsStopped left now failed failed_now new.pulled (of_build e)
    turn-refused e refused =
        let read = underway.before ++ (ahead ++ waiting reader) in
        stopped-by-build left now failed failed_now (underway.bytes ++ next.bytes) (read ++ later) new
        (read-further left mid now failed failed_mid failed_now underway.bytes read old new underway.so_far
        later next) e
        (λ after. subst (λ lines. IsBuildError lines e) (sym (append_assoc read later after))
        (refused-behind e refused (later ++ after)))

-- the first lines are read, and an arena is made
pub first-turn : (left now : Option (List ℕ)) (failed failed_now : ℕ) (old middle new : Intake)
    (start reader : Reader) (state : Underway) (bytes : List ℕ)
    → IsReadSoFar left left failed failed [] [] old → IsHeld left now failed failed_now old middle bytes
    → waiting start ≡ [] → IsReadOn middle new start reader (lines_in state.ahead.items)
    → IsBuilt [] state.arena → state.arena.names ≡ start.numbering
    → AreNumberedBehind start.numbering reader.numbering state.ahead.items
    → IsUnderway left now failed failed_now new reader state
first-turn left now failed failed_now old middle new start reader state bytes none held none_waits read built
    names numbered =
    let next = next-of left now failed failed_now old middle new bytes read.later held read.read in
    record {
      before = [];
      built = built;
      numbered =
          subst (λ before. AreNumberedBehind before reader.numbering state.ahead.items) (sym names) numbered;
      bytes = next.bytes;
      so_far =
          subst (λ lines. IsReadSoFar left now failed failed_now next.bytes lines new)
          (sym (read.all ∙ ap (λ lines. lines ++ read.later) none_waits))
          (read-further left left now failed failed failed_now [] [] old new none read.later next);
    }

-- the last lines are taken in
module _ (left now : Option (List ℕ)) (failed failed_now : ℕ) (intake : Intake) (reader : Reader)
    (state : Underway) (underway : IsUnderway left now failed failed_now intake reader state)
    (ended : intake.pulled.is_ended ≡ true)
    (none : waiting reader ≡ []) where
  all-ahead : underway.before ++ lines_in state.ahead.items ≡ history_lines underway.bytes
  all-ahead =
      let numbered = lines_in state.ahead.items in
      let read = underway.before ++ (numbered ++ waiting reader) in
      ap (λ lines. underway.before ++ lines)
      (sym (append-nil numbered) ∙ ap (λ lines. numbered ++ lines) (sym none))
      ∙ sym (append-nil read)
      ∙ ap (λ xs. read ++ lines_from intake.next_line (xs ++ [])) (sym (underway.so_far.end ended))
      ∙ underway.so_far.lines [] (λ _. refl)
      ∙ ap history_lines (append-nil underway.bytes)

  pub ended-ok : (h : History) → IsBuiltWith underway.before (lines_in state.ahead.items) (Ok h)
      → (bytes : List ℕ) × IsAll left bytes × IsArenaOf bytes h
  ended-ok h built = (
    underway.bytes,
    underway.so_far.given.ended refl ended,
    record {
      within =
          (let counted = underway.so_far.given.counted in let within = underway.so_far.given.within in
          omega arith);
      well_formed = subst IsWellFormed all-ahead built.well_formed;
      is = built.is ∙ ap (λ lines. history_of (events_of lines)) all-ahead;
    },
  )
