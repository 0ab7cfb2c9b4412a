-- Sums and maxima over the lines of registers, one line after another.
use Rattle.std.proofs.Common.{◌≡◌, ℕ, zero, suc, ◌+◌, ◌<◌, List, [], ◌∷◌, length, map, drop, get_or, max}
use Rattle.std.proofs.Common.{Option, unwrap_or, sym, ap, arith}
use Rattle.reg_zones.specs.Clusters.{greatest}
use Rattle.report_text.specs.declared.level.report.RegisterLevels.{RegisterLevels}
use Rattle.level_report.specs.Totals.{events_of_gap, total}

pub total-drop : (count : RegisterLevels → Option ℕ) (xs : List RegisterLevels) (i : ℕ) (x : RegisterLevels)
    → i < length xs → x ≡ get_or xs i x
    → total count (drop i xs) ≡ unwrap_or (count x) 0 + total count (drop (suc i) xs)
total-drop count [] i x below is = absurd (omega arith)
total-drop count (y ∷ ys) zero x below is =
    ap (λ (z : RegisterLevels). unwrap_or (count z) 0 + total count ys) (sym is)
total-drop count (y ∷ ys) (suc i) x below is = total-drop count ys i x (omega arith) is

pub greatest-drop : (xs : List RegisterLevels) (i : ℕ) (x : RegisterLevels) → i < length xs → x ≡ get_or xs
    i x
    → greatest (map events_of_gap (drop i xs))
    ≡ max (events_of_gap x) (greatest (map events_of_gap (drop (suc i) xs)))
greatest-drop [] i x below is = absurd (omega arith)
greatest-drop (y ∷ ys) zero x below is =
    ap (λ (z : RegisterLevels). max (events_of_gap z) (greatest (map events_of_gap ys))) (sym is)
greatest-drop (y ∷ ys) (suc i) x below is = greatest-drop ys i x (omega arith) is
