-- A plan has no more pieces than a board may have.
use Rattle.std.proofs.Common.{◌≡◌, ℕ, zero, suc, ◌+◌, ◌<◌, ◌≤◌, ◌==◌, cond, Bool, true, false, List, [], ◌∷◌}
use Rattle.std.proofs.Common.{length, slice_get, Option, Some, None, refl, ap, subst, arith, length-append}
use Rattle.std.proofs.lemmas.Bool.{eqb-true}
use Rattle.std.proofs.lemmas.List.Sums.{length-filter, count_by-le-length}
use Rattle.history_model.specs.History.{History}
use Rattle.history_model.specs.Lamport.{is_completed_read}
use Rattle.history_model.specs.Operations.{operations, of_register}
use Rattle.history_model.specs.declared.operation.Operation.{Operation}
use Rattle.history_model.specs.Operations.{initial_writes, calls, register_of}
use Rattle.reg_lamport.specs.Counts.{AreReadCounts, IsReadCount}
use Rattle.reg_report.specs.Pieces.Plan.{AreCutsOf, AreTasks}
use Rattle.reg_report.specs.declared.pieces.tasks.Task.{Task}
use Rattle.reg_report.proofs.PieceLemmas.Numbering.{cuts-few}
use Rattle.history_model.proofs.Walking.{calls-few}

-- ---- the operations of all registers

one_if : Bool → ℕ
one_if true = 1
one_if false = 0

-- how many of the n registers from r on are a
ones : ℕ → ℕ → ℕ → ℕ
ones r zero a = 0
ones r (suc n) a = one_if (a == r) + ones (suc r) n a

-- the operations of the n registers from r on
of_registers : ℕ → ℕ → List Operation → ℕ
of_registers r zero ops = 0
of_registers r (suc n) ops = length (of_register r ops) + of_registers (suc r) n ops

ones-none : (r n a : ℕ) → a < r → ones r n a ≡ 0
unfolding ones one_if
ones-none r zero a l = refl
ones-none r (suc n) a l = go (a == r) refl (ones-none (suc r) n a (omega (arith, l)))
  where
    go : (b : Bool) → (a == r) ≡ b → ones (suc r) n a ≡ 0 → one_if b + ones (suc r) n a ≡ 0
    go true e z = absurd (omega (arith, eqb-true a r e, l))
    go false e z = omega (arith, z)

ones-few : (r n a : ℕ) → ones r n a ≤ 1
unfolding ones one_if
ones-few r zero a = omega arith
ones-few r (suc n) a = go (a == r) refl (ones-few (suc r) n a)
  where
    go : (b : Bool) → (a == r) ≡ b → ones (suc r) n a ≤ 1 → one_if b + ones (suc r) n a ≤ 1
    go true e f = let z = ones-none (suc r) n a (omega (arith, eqb-true a r e)) in omega (arith, z)
    go false e f = omega (arith, f)

one-more : (r n : ℕ) (o : Operation) (ops : List Operation)
    → of_registers r n (o ∷ ops) ≡ ones r n o.register + of_registers r n ops
unfolding ones one_if of_registers
one-more r zero o ops = refl
one-more r (suc n) o ops =
    let rest = one-more (suc r) n o ops in
    let here : length (of_register r (o ∷ ops)) ≡ one_if (o.register == r) + length (of_register r ops) =
    go (o.register == r) in
    omega (arith, rest, here)
  where
    go : (b : Bool)
        → length (cond b (o ∷ of_register r ops) (of_register r ops)) ≡ one_if b + length (of_register r ops)
    go true = omega arith
    go false = omega arith

none-more : (r n : ℕ) → of_registers r n [] ≡ 0
unfolding of_registers
none-more r zero = refl
none-more r (suc n) = let z = none-more (suc r) n in omega (arith, z)

all-few : (r n : ℕ) (ops : List Operation) → of_registers r n ops ≤ length ops
all-few r n [] = omega (arith, none-more r n)
all-few r n (o ∷ ops) = omega (arith, one-more r n o ops, ones-few r n o.register, all-few r n ops)

-- ---- all operations

initial-count : (n : ℕ) → length (initial_writes n) ≡ n
initial-count zero = refl
initial-count (suc n) = let e = initial-count n in omega (arith, e)

operations-few : (h : History) → length (operations h) ≤ length h.names + length h.events
operations-few h =
    omega (
      arith,
      length-append (initial_writes (length h.names)) (calls h.events),
      initial-count (length h.names),
      calls-few (length h.events + 2) 2 h.events,
    )

-- ---- the tasks

cuts-of-few : (h : History) (cut r : ℕ) (count : Option ℕ) (cuts : List Task) → 0 < cut
    → IsReadCount h r count → AreCutsOf cut r count cuts → length cuts ≤ length (register_of h r)
cuts-of-few h cut r None cuts p i c = omega (arith, ap length c)
cuts-of-few h cut r (Some count) cuts p i c =
    let few = cuts-few cut r 0 count cuts p c in
    let part = length-filter is_completed_read (register_of h r) in
    let less = count_by-le-length is_completed_read (register_of h r) in
    omega (arith, few, i.1, part, less)

tasks-few : (h : History) (cut r : ℕ) (counts : List (Option ℕ)) (tasks : List Task) → 0 < cut
    → ((i : ℕ) (count : Option ℕ) → slice_get counts i ≡ Some count → IsReadCount h (r + i) count)
    → AreTasks cut r counts tasks
    → length tasks ≤ length counts + of_registers r (length counts) (operations h)
unfolding of_registers
tasks-few h cut r [] tasks p l a = omega (arith, ap length a)
tasks-few h cut r (count ∷ counts) tasks p l a =
    let first : IsReadCount h r count =
    let z : r + 0 ≡ r = omega arith in subst (λ n. IsReadCount h n count) z (l 0 count refl) in
    let rest =
    tasks-few h cut (suc r) counts a.1 p (λ i o e. let z : r + suc i ≡ suc r + i = omega arith in
    subst (λ n. IsReadCount h n o) z (l (suc i) o e)) a.3 in
    let cuts = cuts-of-few h cut r count a.0 p first a.2 in
    omega (arith, ap length a.4, length-append a.0 a.1, rest, cuts)

pub plan-few : (h : History) (cut : ℕ) (counts : List (Option ℕ)) (tasks : List Task) → 0 < cut
    → AreReadCounts h counts → AreTasks cut 0 counts tasks
    → length tasks ≤ length h.names + length h.names + length h.events
plan-few h cut counts tasks p c numbered =
    let few =
    tasks-few h cut 0 counts tasks p (λ i o e. let z : i ≡ 0 + i = omega arith in
    subst (λ n. IsReadCount h n o) z (c.each i o e)) numbered in
    omega (arith, few, c.registers, all-few 0 (length counts) (operations h), operations-few h)
