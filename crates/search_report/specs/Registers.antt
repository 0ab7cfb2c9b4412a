-- What is found of registers, one by one.
use Rattle.std.specs.Global.{Global}
use Rattle.std.specs.Prelude.{◌≡◌, ℕ, Vec, count_by, length, slice_get, List, Option, Some, None}
use Rattle.std.specs.List.{AllZip, filter}
use Rattle.history_text.specs.declared.event.OpWord.{OpWord}
use Rattle.history_model.specs.declared.operation.Operation.{Operation}
use Rattle.history_model.specs.Operations.{reply_of}
use Rattle.register_search.specs.Timeline.{operations_at}
use Rattle.history_model.specs.Timed.{AreTimedCalls}
use Rattle.reg_intake.specs.declared.cas_history.history.History.{History}
use Rattle.search_report.specs.Meaning.{is_cas, is_open_at, is_pending, is_read}
use Rattle.search_report.specs.Meaning.{is_write, line_at, lines_of, IsAtomicity}
use Rattle.search_report.specs.declared.register.Finding.{Finding}
use Rattle.report_text.specs.declared.search.report.RegisterReport.{RegisterReport}

-- the line of the reply to the operation at this place, if there is one
abbrev pub IsReplyLine : List ℕ → List Operation → ℕ → ℕ → Type 0
IsReplyLine lines ops place line =
    (a : Operation) (t : ℕ) → slice_get ops place ≡ Some a → reply_of a ≡ Some t → line ≡ line_at lines t

-- the lines of the operations that are open at the reply to the one at this place, if there is one
abbrev pub AreOpenLines : List Operation → ℕ → List ℕ → Type 0
AreOpenLines ops place lines =
    (a : Operation) (t : ℕ) → slice_get ops place ≡ Some a → reply_of a ≡ Some t
    → lines ≡ lines_of (filter (is_open_at t) ops)

-- the lines of the operations at these places, if there are any
abbrev pub AreLinesBefore : List Operation → Option (Vec ℕ Global) → Option (Vec ℕ Global) → Type 0
AreLinesBefore ops None lines = lines ≡ None
AreLinesBefore ops (Some places) lines =
    (v : Vec ℕ Global) × (lines ≡ Some v) × (v.items ≡ lines_of (operations_at ops places.items))

-- what is found of the register with these calls, of a history whose events have these lines
pub record IsFinding (lines : List ℕ) (ops : List Operation) (finding : Finding) : Type 0 where
  pub pending : finding.pending ≡ count_by is_pending ops
  pub atomicity : (r : ℕ) → AreTimedCalls r ops → IsAtomicity lines r ops finding.atomicity

-- of each of the registers with these calls, in order
abbrev pub AreFindingsOf : List ℕ → List (Vec Operation Global) → List Finding → Type 0
AreFindingsOf lines registers findings =
    AllZip (λ (ops : Vec Operation Global) finding. IsFinding lines ops.items finding) registers findings

-- of each register of a history, in order
abbrev pub AreFindings : History → List Finding → Type 0
AreFindings h findings = AreFindingsOf h.lines.items h.registers.items findings

-- the line of the register with these calls, which has this name; events have these words
pub record IsLine (lines name : List ℕ) (words : List (Option OpWord)) (ops : List Operation)
    (report : RegisterReport) : Type 0 where
  pub name_is : report.register ≡ name
  pub cas : report.cas ≡ count_by (is_cas words) ops
  pub pending : report.pending ≡ count_by is_pending ops
  pub reads : report.reads ≡ count_by (is_read words) ops
  pub writes : report.writes ≡ count_by (is_write words) ops
  pub atomicity : (r : ℕ) → AreTimedCalls r ops → IsAtomicity lines r ops report.atomicity

-- of each of the first registers, in order
pub record AreFirstLines (h : History) (count : ℕ) (reports : List RegisterReport) : Type 0 where
  pub count_is : length reports ≡ count
  pub each : (r : ℕ) (report : RegisterReport) → slice_get reports r ≡ Some report
      → (name : List ℕ) × (ops : Vec Operation Global) × (slice_get h.names.items r ≡ Some name)
      × (slice_get h.registers.items r ≡ Some ops) × IsLine h.lines.items name h.words.items ops.items report
