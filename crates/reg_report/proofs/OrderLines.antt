-- The lines of an order by names are those of its operations, and its calls and points are events.
use Rattle.std.proofs.Common.{◌≡◌, ℕ, zero, suc, ◌+◌, ◌-◌, ◌<◌, ◌≤◌, cond, List, [], ◌∷◌, ◌++◌}
use Rattle.std.proofs.Common.{append_assoc, drop, length, map, get_or, slice_get, Option, Some}
use Rattle.std.proofs.Common.{None, is_some, inl, inr, refl, sym, ap, subst, ◌∙◌, arith}
use Rattle.std.proofs.lemmas.Option.{slice_get_within, slice_get-get_or}
use Rattle.std.proofs.lemmas.List.{drop_more}
use Rattle.history_model.specs.Lists.{In}
use Rattle.history_model.specs.History.{History}
use Rattle.history_model.specs.Operations.{operations, register_of}
use Rattle.history_model.specs.declared.operation.Operation.{Operation}
use Rattle.history_model.specs.Naming.{name_by, name_of}
use Rattle.history_model.specs.declared.event.Event.{Event}
use Rattle.history_model.specs.declared.ids.EvId.{EvId}
use Rattle.history_model.specs.declared.ids.RegId.{RegId}
use Rattle.history_model.specs.declared.ids.Oper.{Oper}
use Rattle.history_model.specs.declared.ids.Oper.TheVariants.{Initial, Called}
use Rattle.reg_zones.specs.declared.placed.Placed.{Placed}
use Rattle.reg_zones.specs.Order.{shown}
use Rattle.history_model.specs.Placed.{PlacedOperation, placed}
use Rattle.history_model.proofs.Lists.{map-In, Before-first, slice_get-In}
use Rattle.history_model.proofs.Placed.{after_call, reached, placed-In}
use Rattle.reg_zones.proofs.Registers.{cases_process}
use Rattle.reg_report.specs.Lines.{HasCall, HasPoint, HaveCalls, HavePoints, call_of}
use Rattle.reg_report.specs.Lines.{line_if_called, call_line, point_line, lines_by}
use Rattle.reg_report.specs.Meaning.{line_at, lines_of, points_of, without_initial}
use Rattle.reg_report.specs.ArenaLaws.{ObeysLaws}
use Rattle.history_model.proofs.Recorded.{of_register-In}

slice_get-line : (events : List Event) (i : ℕ) (e : Event) → slice_get events i ≡ Some e
    → get_or (map (λ e. e.line) events) i 0 ≡ e.line
slice_get-line [] i e s = absurd (cc s)
slice_get-line (x ∷ events) zero e s = let q : x ≡ e = cc s in ap (λ (y : Event). y.line) q
slice_get-line (x ∷ events) (suc i) e s = slice_get-line events i e s

-- the event at a time
pub line_at-event : (events : List Event) (t i : ℕ) (e : Event) → t - 2 ≡ i → slice_get events i ≡ Some e
    → line_at events t ≡ e.line
line_at-event events t i e q s =
    ap (λ n. get_or (map (λ (y : Event). y.line) events) n 0) q ∙ slice_get-line events i e s

module _ (h : History) (t : ObeysLaws h) where
  -- an operation that a process called has its call among the events, at or after time 2
  called : (o : Operation) (p : ℕ) → In o (operations h) → o.process ≡ Some p
      → (o.call - 2 < length h.events) × (2 ≤ o.call) × (line_at h.events (o.call - 2 + 2) ≡ o.line)
  called o p i e =
      let c = t.call o p i e in
      let s = c.1.call c.2 in (
        slice_get_within h.events (o.call - 2) c.0 c.1.at,
        omega (arith, s.1),
        line_at-event h.events (o.call - 2 + 2) (o.call - 2) c.0 (omega arith) c.1.at ∙ sym s.0,
      )

  -- its name is that of a call
  call-there : (o : Operation) → In o (operations h) → (p : Option ℕ) → o.process ≡ p
      → HasCall h (name_by p o)
  call-there o i None e = tt
  call-there o i (Some p) e = (called o p i e).0

  point-there : (o : Operation) (p : Option ℕ) (point : ℕ)
      → ((q : ℕ) → p ≡ Some q → (2 ≤ point) × (point - 2 < length h.events)) → HasPoint h (name_by p o) point
  point-there o None point f = tt
  point-there o (Some q) point f = f q refl

  -- ---- lines

  -- an operation by its line, an initial write by none
  one-line : (x : PlacedOperation) (p : Option ℕ) (line : Oper → ℕ) (g : PlacedOperation
      → ℕ) (xs : List PlacedOperation) → ((q : ℕ) → p ≡ Some q → line (name_by (Some q) x.operation) ≡ g x)
      → line_if_called (name_by p x.operation) (line (name_by p x.operation)) (map g xs)
      ≡ map g (cond (is_some p) (x ∷ xs) xs)
  one-line x None line g xs f = refl
  one-line x (Some q) line g xs f = ap (λ n. n ∷ map g xs) (f q refl)

  pub calls-lines : (xs : List PlacedOperation)
      → ((x : PlacedOperation) → In x xs → In x.operation (operations h))
      → lines_by (call_line h.events) (map shown xs) ≡ lines_of xs
  calls-lines [] f = refl
  calls-lines (x ∷ xs) f =
      ap (line_if_called (name_of x.operation) (line_at h.events (call_of (name_of x.operation))))
      (calls-lines xs (λ y i. f y (inr i)))
      ∙ one-line x x.operation.process (λ n. line_at h.events (call_of n)) (λ y. y.operation.line)
      (without_initial xs) (λ q e. (called x.operation q (f x (inl refl)) e).2)

  pub points-lines : (xs : List PlacedOperation)
      → lines_by (point_line h.events) (map shown xs) ≡ points_of h.events xs
  points-lines [] = refl
  points-lines (x ∷ xs) =
      ap (line_if_called (name_of x.operation) (line_at h.events x.point)) (points-lines xs)
      ∙ one-line x x.operation.process (λ n. line_at h.events x.point) (λ y. line_at h.events y.point)
      (without_initial xs) (λ q e. refl)

  -- ---- calls and points are events

  pub calls-there : (xs : List PlacedOperation)
      → ((x : PlacedOperation) → In x xs → In x.operation (operations h)) → HaveCalls h (map shown xs)
  calls-there xs f i n e =
      let x = map-In shown n xs (slice_get-In (map shown xs) i n e) in
      subst (λ (m : Placed). HasCall h m.oper) (sym x.2)
      (call-there x.0.operation (f x.0 x.1) x.0.operation.process refl)

  module _ (r : ℕ) (order : List Operation) (only : (a : Operation) → In a order
      → In a (register_of h r)) where
    inside : (a : Operation) → In a order → In a (operations h)
    inside a i = (of_register-In r (operations h) a (only a i)).0

    pub placed-inside : (x : PlacedOperation) → In x (placed order) → In x.operation (operations h)
    placed-inside x i = inside x.operation (placed-In order x i)

    -- a point after the initial write is a call
    point-call : (x : PlacedOperation) (p : ℕ) → In x (placed order) → x.operation.process ≡ Some p
        → (2 ≤ x.point) × (x.point - 2 < length h.events)
    point-call x p i e =
        let late : 2 ≤ x.point =
        omega (arith, (called x.operation p (placed-inside x i) e).1, after_call order x i) in
        let at : (b : Operation) → In b order → x.point ≡ b.call → x.point - 2 < length h.events =
        λ b j q. elim (cases_process b.process) [
          | inl n ↦ absurd (omega (
            arith,
            late,
            q,
            ap (λ (a : Operation). a.call) ((t.history r).initial b (only b j) n),
          ))
          | inr k ↦ omega (arith, (called b k.0 (inside b j) k.1).0, q)
        ] in (
          late,
          elim (reached 0 order x i) [
            | inl z ↦ absurd (omega (arith, late, z))
            | inr b ↦ at b.0 (elim b.2 [
              | inl s ↦ subst (λ a. In a order) (sym s) (placed-In order x i)
              | inr s ↦ Before-first b.0 x.operation order s
            ]) b.1
          ],
        )

    pub points-there : HavePoints h (map shown (placed order))
    points-there i n e =
        let x = map-In shown n (placed order) (slice_get-In (map shown (placed order)) i n e) in
        subst (λ (m : Placed). HasPoint h m.oper m.point) (sym x.2)
        (point-there x.0.operation x.0.operation.process x.0.point (λ q e. point-call x.0 q x.1 e))

-- ---- one operation more

lines-step : (line : Placed → ℕ) (xs : List Placed) (i : ℕ) (d : Placed) → i < length xs
    → lines_by line (drop i xs) ≡ line_if_called (get_or xs i d).oper (line (get_or xs i d))
    (lines_by line (drop (i + 1) xs))
lines-step line xs i d l = ap (lines_by line) (drop_more xs i d l)

pub called-more : (line : Placed → ℕ) (xs : List Placed) (i : ℕ) (d : Placed) (id : EvId) (n : ℕ)
    (old new whole : List ℕ) → i < length xs → (get_or xs i d).oper ≡ Called id → n ≡ line (get_or xs i d)
    → new ≡ old ++ n ∷ []
    → old ++ lines_by line (drop i xs) ≡ whole → new ++ lines_by line (drop (i + 1) xs) ≡ whole
called-more line xs i d id n old new whole l is at now was =
    let rest = lines_by line (drop (i + 1) xs) in
    ap (λ ys. ys ++ rest) now
    ∙ (append_assoc old (n ∷ []) rest
    ∙ (ap (λ m. old ++ m ∷ rest) at
    ∙ (sym (ap (λ ys. old ++ ys) (lines-step line xs i d l
    ∙ ap (λ o. line_if_called o (line (get_or xs i d)) rest) is)) ∙ was)))

pub initial-more : (line : Placed
    → ℕ) (xs : List Placed) (i : ℕ) (d : Placed) (r : RegId) (old whole : List ℕ) → i < length xs
    → (get_or xs i d).oper ≡ Initial r
    → old ++ lines_by line (drop i xs) ≡ whole → old ++ lines_by line (drop (i + 1) xs) ≡ whole
initial-more line xs i d r old whole l is was =
    sym (ap (λ ys. old ++ ys) (lines-step line xs i d l
    ∙ ap (λ o. line_if_called o (line (get_or xs i d)) (lines_by line (drop (i + 1) xs))) is)) ∙ was

pub point-at : (h : History) (xs : List Placed) (i : ℕ) (d : Placed) (id : EvId) → HavePoints h xs
    → i < length xs → (get_or xs i d).oper ≡ Called id
    → (2 ≤ (get_or xs i d).point) × ((get_or xs i d).point - 2 < length h.events)
point-at h xs i d id has l is =
    subst (λ o. HasPoint h o (get_or xs i d).point) is (has i (get_or xs i d) (slice_get-get_or xs i d l))

-- ---- an order in parts

line-apart : (o : Oper) (n : ℕ) (xs ys : List ℕ) → line_if_called o n (xs ++ ys) ≡ line_if_called o n xs ++ ys
line-apart (Initial r) n xs ys = refl
line-apart (Called i) n xs ys = refl

-- the lines of two parts of an order are those of each
pub lines-append : (line : Placed → ℕ) (xs ys : List Placed) → lines_by line (xs ++ ys) ≡ lines_by line xs
    ++ lines_by line ys
lines-append line [] ys = refl
lines-append line (x ∷ xs) ys =
    ap (line_if_called x.oper (line x)) (lines-append line xs ys)
    ∙ line-apart x.oper (line x) (lines_by line xs) (lines_by line ys)
