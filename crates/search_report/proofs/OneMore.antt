-- One finding more is found of one register more, and the findings of the registers that are left.
use Rattle.std.proofs.Common.{◌≡◌, ℕ, zero, suc, ◌+◌, ◌<◌, ◌≤◌, drop, length, take, List, [], ◌∷◌, ◌++◌}
use Rattle.std.proofs.Common.{slice_get, Some, Vec, Global, refl, sym, ap, subst, ◌∙◌, arith}
use Rattle.std.proofs.lemmas.List.{length_push, take_all}
use Rattle.std.proofs.lemmas.Option.{slice_get_within}
use Rattle.history_model.proofs.Accepted.{take-push}
use Rattle.history_model.specs.declared.operation.Operation.{Operation}
use Rattle.search_report.specs.Registers.{AreFindingsOf, IsFinding}
use Rattle.search_report.specs.declared.register.Finding.{Finding}

pushed : (lines : List ℕ) (registers : List (Vec Operation Global)) (findings : List Finding)
    (ops : Vec Operation Global) (finding : Finding)
    → AreFindingsOf lines registers findings → IsFinding lines ops.items finding
    → AreFindingsOf lines (registers ++ ops ∷ []) (findings ++ finding ∷ [])
pushed lines [] [] ops finding each is = (is, tt)
pushed lines [] (f ∷ findings) ops finding each is = absurd each
pushed lines (r ∷ registers) [] ops finding each is = absurd each
pushed lines (r ∷ registers) (f ∷ findings) ops finding each is =
    (each.0, pushed lines registers findings ops finding each.1 is)

pub one-finding-more : (lines : List ℕ) (registers : List (Vec Operation Global))
    (findings after : List Finding) (n : ℕ) (ops : Vec Operation Global) (finding : Finding)
    → slice_get registers n ≡ Some ops → AreFindingsOf lines (take n registers) findings
    → IsFinding lines ops.items finding → after ≡ findings ++ finding ∷ []
    → AreFindingsOf lines (take (n + 1) registers) after
one-finding-more lines registers findings after n ops finding there each is grown =
    let more = take-push registers n ops there in
    let next : n + 1 ≡ suc n = omega arith in
    subst (AreFindingsOf lines (take (n + 1) registers)) (sym grown)
    (subst (λ xs. AreFindingsOf lines xs (findings ++ finding ∷ []))
    (sym (ap (λ k. take k registers) next ∙ more))
    (pushed lines (take n registers) findings ops finding each is))

-- ---- those that are left

pub first-left : (lines : List ℕ) (n : ℕ) (registers : List (Vec Operation Global)) (finding : Finding)
    (rest : List Finding) → AreFindingsOf lines (drop n registers) (finding ∷ rest)
    → (ops : Vec Operation Global) × (slice_get registers n ≡ Some ops)
    × IsFinding lines ops.items finding × AreFindingsOf lines (drop (suc n) registers) rest
first-left lines zero [] finding rest each = absurd each
first-left lines zero (ops ∷ registers) finding rest each = (ops, refl, each.0, each.1)
first-left lines (suc n) [] finding rest each = absurd each
first-left lines (suc n) (ops ∷ registers) finding rest each = first-left lines n registers finding rest each

pub none-left : (lines : List ℕ) (n : ℕ) (registers : List (Vec Operation Global))
    → AreFindingsOf lines (drop n registers) [] → length registers ≤ n
none-left lines zero [] each = omega arith
none-left lines zero (ops ∷ registers) each = absurd each
none-left lines (suc n) [] each = omega arith
none-left lines (suc n) (ops ∷ registers) each =
    let l = none-left lines n registers each in omega (arith, l)

pub is-left : (lines : List ℕ) (n : ℕ) (registers : List (Vec Operation Global)) (items rest : List Finding)
    (finding : Finding) → AreFindingsOf lines (drop n registers) items → items ≡ finding ∷ rest
    → n < length registers
is-left lines n registers items rest finding left is =
    let one =
    first-left lines n registers finding rest (subst (AreFindingsOf lines (drop n registers)) is left) in
    slice_get_within registers n one.0 one.1

pub all-found : (lines : List ℕ) (registers : List (Vec Operation Global)) (findings items : List Finding)
    → AreFindingsOf lines (take (length findings) registers) findings
    → AreFindingsOf lines (drop (length findings) registers) items → items ≡ []
    → AreFindingsOf lines registers findings
all-found lines registers findings items first left is =
    let n = length findings in
    let most = none-left lines n registers (subst (AreFindingsOf lines (drop n registers)) is left) in
    subst (λ rs. AreFindingsOf lines rs findings) (take_all n registers most) first

-- the finding of the next register is kept, or there is a better one
pub next-finding : (lines : List ℕ) (registers : List (Vec Operation Global))
    (findings after items rest : List Finding) (finding better : Finding) (ops : Vec Operation Global)
    → AreFindingsOf lines (take (length findings) registers) findings
    → AreFindingsOf lines (drop (length findings) registers) items → items ≡ finding ∷ rest
    → slice_get registers (length findings) ≡ Some ops
    → IsFinding lines ops.items better → after ≡ findings ++ better ∷ []
    → AreFindingsOf lines (take (length after) registers) after
    × AreFindingsOf lines (drop (length after) registers) rest
next-finding lines registers findings after items rest finding better ops first left is there found grown =
    let n = length findings in
    let one =
    first-left lines n registers finding rest (subst (AreFindingsOf lines (drop n registers)) is left) in
    let size : length after ≡ n + 1 = ap length grown ∙ length_push findings better in
    let next : n + 1 ≡ suc n = omega arith in (
      subst (λ k. AreFindingsOf lines (take k registers) after) (sym size)
          (one-finding-more lines registers findings after n ops better there first found grown),
      subst (λ k. AreFindingsOf lines (drop k registers) rest) (sym (size ∙ next)) one.3,
    )
