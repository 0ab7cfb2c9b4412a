-- A count of calls over all events.
use Rattle.std.proofs.Common.{◌≡◌, ℕ, suc, ◌+◌, ◌≤◌, cond, Bool, true, false, List}
use Rattle.std.proofs.Common.{◌∷◌, length, drop, slice_get, Some, ap, ◌∙◌, arith}
use Rattle.std.proofs.lemmas.List.{drop_all}
use Rattle.history_model.specs.Operations.{operation, next_of, reply_in, calls_from, calls}
use Rattle.history_model.specs.Naming.{begins_at}
use Rattle.history_model.specs.declared.event.Event.{Event}
use Rattle.history_model.proofs.Walking.{drop-at}

-- what was counted of the first events, and what is left, are all calls
pub record IsCount (es : List Event) (count i : ℕ) : Type 0 where
  pub total : length (calls es) ≡ count + length (calls_from (length es + 2) (i + 2) (drop i es))
  pub few : count ≤ i

pub count-begins : (es : List Event) → IsCount es 0 0
count-begins es = record { total = omega arith; few = omega arith }

step : (es : List Event) (i : ℕ) (e : Event) → slice_get es i ≡ Some e
    → length (calls_from (length es + 2) (i + 2) (drop i es)) ≡ cond {A = ℕ} (begins_at es i e) 1 0
    + length (calls_from (length es + 2) (i + 1 + 2) (drop (i + 1) es))
step es i e at =
    let t : suc (i + 2) ≡ i + 1 + 2 = omega arith in
    let u : suc i ≡ i + 1 = omega arith in
    ap (λ xs. length (calls_from (length es + 2) (i + 2) xs)) (drop-at es i e at)
    ∙ (one (begins_at es i e) (calls_from (length es + 2) (suc (i + 2)) (drop (suc i) es))
    ∙ (ap (λ m. cond (begins_at es i e) 1 0 + length (calls_from (length es + 2) m (drop (suc i) es))) t
    ∙ ap (λ m. cond (begins_at es i e) 1 0
    + length (calls_from (length es + 2) (i + 1 + 2) (drop m es))) u))
  where
    one : (b : Bool) (xs : List _)
        → length (cond b
        (operation (length es + 2) (i + 2) e (reply_in (next_of e.process (suc (i + 2)) (drop (suc i) es)))
        ∷ xs) xs) ≡ cond b 1 0 + length xs
    one true xs = omega arith
    one false xs = omega arith

chosen : (a b : Bool) → a ≡ b → cond {A = ℕ} a 1 0 ≡ cond {A = ℕ} b 1 0
chosen a b e = ap (λ c. cond {A = ℕ} c 1 0) e

pub count-call : (es : List Event) (count i : ℕ) (e : Event) → IsCount es count i → slice_get es i ≡ Some e
    → begins_at es i e ≡ true → IsCount es (count + 1) (i + 1)
count-call es count i e c at call =
    let s = step es i e at in
    let one = chosen (begins_at es i e) true call in
    record { total = omega (arith, c.total, s, one); few = omega (arith, c.few) }

pub count-other : (es : List Event) (count i : ℕ) (e : Event) → IsCount es count i → slice_get es i ≡ Some e
    → begins_at es i e ≡ false → IsCount es count (i + 1)
count-other es count i e c at call =
    let s = step es i e at in
    let none = chosen (begins_at es i e) false call in
    record { total = omega (arith, c.total, s, none); few = omega (arith, c.few) }

pub count-ends : (es : List Event) (count i : ℕ) → IsCount es count i → length es ≤ i
    → count ≡ length (calls es)
count-ends es count i c l =
    let e =
    ap (λ xs. length (calls_from (length es + 2) (i + 2) xs)) (drop_all i es l) in
    omega (arith, c.total, e)
