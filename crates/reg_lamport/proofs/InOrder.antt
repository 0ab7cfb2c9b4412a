-- The calls come in the order of the events: what is left of a register's calls from a place on.
use Rattle.std.proofs.Common.{◌≡◌, ℕ, suc, ◌+◌, ◌≤◌, ◌==◌, cond, true, false, List, [], ◌∷◌}
use Rattle.std.proofs.Common.{length, drop, slice_get, Some, ap, ◌∙◌, arith}
use Rattle.std.proofs.lemmas.List.{drop_all}
use Rattle.history_model.specs.History.{History}
use Rattle.history_model.specs.Operations.{calls_from, of_register}
use Rattle.history_model.specs.declared.operation.Operation.{Operation}
use Rattle.history_model.specs.Naming.{begins_at}
use Rattle.history_model.specs.Walking.{called_at}
use Rattle.history_model.specs.declared.event.Event.{Event}
use Rattle.history_model.proofs.Walking.{drop-at}

-- the calls of register r from place n on
abbrev pub calls_left : History → ℕ → ℕ → List Operation
calls_left h r n = of_register r (calls_from (length h.events + 2) (n + 2) (drop n h.events))

left-at : (h : History) (r n : ℕ) (e : Event) → slice_get h.events n ≡ Some e
    → calls_left h r n
    ≡ of_register r
    (cond (begins_at h.events n e)
    (called_at h.events n e ∷ calls_from (length h.events + 2) (n + 1 + 2) (drop (n + 1) h.events))
    (calls_from (length h.events + 2) (n + 1 + 2) (drop (n + 1) h.events)))
left-at h r n e at =
    let es = h.events in
    let t : suc (n + 2) ≡ n + 1 + 2 = omega arith in
    let u : suc n ≡ n + 1 = omega arith in
    ap (λ xs. of_register r (calls_from (length es + 2) (n + 2) xs)) (drop-at es n e at)
    ∙ (ap (λ m. of_register r
    (cond (begins_at es n e) (called_at es n e ∷ calls_from (length es + 2) m (drop (suc n) es))
    (calls_from (length es + 2) m (drop (suc n) es)))) t
    ∙ ap (λ m. of_register r
    (cond (begins_at es n e) (called_at es n e ∷ calls_from (length es + 2) (n + 1 + 2) (drop m es))
    (calls_from (length es + 2) (n + 1 + 2) (drop m es)))) u)

-- an event that begins no operation leaves the calls
pub left-other : (h : History) (r n : ℕ) (e : Event) → slice_get h.events n ≡ Some e
    → begins_at h.events n e ≡ false → calls_left h r n ≡ calls_left h r (n + 1)
left-other h r n e at other =
    let xs = calls_from (length h.events + 2) (n + 1 + 2) (drop (n + 1) h.events) in
    left-at h r n e at ∙ ap (λ b. of_register r (cond b (called_at h.events n e ∷ xs) xs)) other

-- a call is the next of its register's
pub left-call : (h : History) (r n : ℕ) (e : Event) → slice_get h.events n ≡ Some e
    → begins_at h.events n e ≡ true
    → calls_left h r n ≡ cond ((called_at h.events n e).register == r)
    (called_at h.events n e ∷ calls_left h r (n + 1)) (calls_left h r (n + 1))
left-call h r n e at call =
    let xs = calls_from (length h.events + 2) (n + 1 + 2) (drop (n + 1) h.events) in
    left-at h r n e at ∙ ap (λ b. of_register r (cond b (called_at h.events n e ∷ xs) xs)) call

-- past the events there is none
pub left-none : (h : History) (r n : ℕ) → length h.events ≤ n → calls_left h r n ≡ []
left-none h r n l =
    ap (λ xs. of_register r (calls_from (length h.events + 2) (n + 2) xs)) (drop_all n h.events l)
