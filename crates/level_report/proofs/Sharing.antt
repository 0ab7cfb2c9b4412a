-- What is made for each number of a register, in order, is the line of each register.
use Rattle.std.proofs.Common.{◌≡◌, ◌∙◌, ℕ, zero, suc, List, [], ◌∷◌, length, slice_get, Some, refl, sym}
use Rattle.std.proofs.Common.{ap, subst, ◌+◌, ◌++◌, inl, inr}
use Rattle.std.proofs.lemmas.List.{length_push}
use Rattle.std.specs.List.{AllZip}
use Rattle.history_model.specs.History.{History}
use Rattle.history_model.specs.declared.ids.RegId.{RegId}
use Rattle.report_text.specs.declared.level.report.RegisterLevels.{RegisterLevels}
use Rattle.reg_levels.proofs.ClusterLemmas.Pushes.{get-push_cases}
use Rattle.level_report.specs.Meaning.{IsRegisterLine}
use Rattle.level_report.specs.Registers.{AreFirstLines, AreLines, AreNumbers}
use Rattle.level_report.specs.declared.settings.Asked.{Asked}

module _ (h : History) (asked : Asked) where
  abbrev pub IsLineOf : RegId → RegisterLevels → Type 0
  IsLineOf id reg = IsRegisterLine h asked id.0 reg

  zip-length : (ids : List RegId) (regs : List RegisterLevels) → AllZip IsLineOf ids regs
      → length regs ≡ length ids
  zip-length [] [] z = refl
  zip-length [] (r ∷ rs) z = absurd z
  zip-length (i ∷ is) [] z = absurd z
  zip-length (i ∷ is) (r ∷ rs) z = ap suc (zip-length is rs z.1)

  zip-at : (ids : List RegId) (regs : List RegisterLevels) → AllZip IsLineOf ids regs → (k : ℕ)
      (reg : RegisterLevels) → slice_get regs k ≡ Some reg
      → (id : RegId) × (slice_get ids k ≡ Some id) × IsLineOf id reg
  zip-at [] [] z k reg at = absurd (cc at)
  zip-at [] (r ∷ rs) z k reg at = absurd z
  zip-at (i ∷ is) [] z k reg at = absurd z
  zip-at (i ∷ is) (r ∷ rs) z zero reg at =
      let same : r ≡ reg = cc at in (i, refl, subst (IsLineOf i) same z.0)
  zip-at (i ∷ is) (r ∷ rs) z (suc k) reg at = zip-at is rs z.1 k reg at

  pub lines-of-all : (n : ℕ) (ids : List RegId) (regs : List RegisterLevels) → AreNumbers n ids
      → n ≡ length h.names → AllZip IsLineOf ids regs → AreLines h asked regs
  lines-of-all n ids regs numbers all z = record {
    count = zip-length ids regs z ∙ (numbers.count ∙ all);
    each = λ k reg at.
        let x = zip-at ids regs z k reg at in
        subst (λ r. IsRegisterLine h asked r reg) (numbers.each k x.0 x.1) x.2;
  }

  pub one-line-more : (n : ℕ) (regs : List RegisterLevels) (reg : RegisterLevels)
      → AreFirstLines h asked n regs → IsRegisterLine h asked n reg
      → AreFirstLines h asked (n + 1) (regs ++ reg ∷ [])
  one-line-more n regs reg a is = record {
    count = length_push regs reg ∙ ap (λ k. k + 1) a.count;
    each = λ r line q. elim (get-push_cases regs reg line r q) [
      | inl k ↦ a.each r line k
      | inr k ↦ subst (IsRegisterLine h asked r) k.1
          (subst (λ m. IsRegisterLine h asked m reg) (sym (k.0 ∙ a.count)) is)
    ];
  }
