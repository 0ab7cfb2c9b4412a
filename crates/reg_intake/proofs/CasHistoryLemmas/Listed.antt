-- The operations of each register, as those of one more event are listed.
use Rattle.std.proofs.Common.{◌≡◌, ℕ, zero, suc, ◌+◌, ◌≤◌, cond, Bool, true, false, List, [], ◌∷◌, ◌++◌, drop}
use Rattle.std.proofs.Common.{length, set, slice_get, Option, Some, None, refl, sym, ap, ◌∙◌}
use Rattle.std.proofs.Common.{arith, eqb, append-nil, append_assoc, length-append}
use Rattle.std.specs.Prelude.{Vec}
use Rattle.std.specs.Global.{Global}
use Rattle.std.proofs.lemmas.Bool.{eqb-true, eqb-false}
use Rattle.std.proofs.lemmas.List.Elements.{filter-append}
use Rattle.std.proofs.lemmas.Option.{slice_get_past, slice_get_within}
use Rattle.history_text.specs.declared.event.AnyEvent.{AnyEvent}
use Rattle.history_model.proofs.Lists.{slice_get-set, slice_get-set_other}
use Rattle.history_model.proofs.Lists.{slice_get-push, slice_get-push_other}
use Rattle.history_model.specs.declared.operation.Operation.{Operation}
use Rattle.history_model.specs.Operations.{is_of, of_register}
use Rattle.history_model.specs.Calls.{Calls, begins, calls_from, next_after, next_of, operation, reply_in}
use Rattle.reg_intake.specs.CasHistory.History.{any_calls, register_names}
use Rattle.reg_intake.specs.CasHistory.Kept.{operation_at, option_list}
use Rattle.reg_intake.specs.CasHistory.Listed.{items_of, listed}

drop-at : {X : Type 0} (xs : List X) (i : ℕ) (x : X) → slice_get xs i ≡ Some x
    → drop i xs ≡ x ∷ drop (suc i) xs
drop-at [] i x h = absurd (cc (h))
drop-at (y ∷ xs) zero x h = let same : y ≡ x = cc (h) in ap (λ z. z ∷ xs) same
drop-at (y ∷ xs) (suc i) x h = drop-at xs i x h

module _ (calls : Calls AnyEvent) (n : ℕ) (events : List AnyEvent) (i : ℕ) (e : AnyEvent)
    (at : slice_get events i ≡ Some e) where
  one_less : suc i ≡ i + 1
  one_less = omega arith

  later : suc (i + 2) ≡ i + 1 + 2
  later = omega arith

  -- the operation of an event, if there is one, and those of the events after it
  pub calls-step : (o : Option Operation)
      → o ≡ operation_at calls n (i + 2) e (next_of calls (calls.process e) (i + 1 + 2)
      (drop (i + 1) events))
      → calls_from calls n (i + 2) (drop i events)
      ≡ option_list o ++ calls_from calls n (i + 1 + 2) (drop (i + 1) events)
  calls-step o is =
      sym (ap (λ os. option_list o ++ os) (ap (λ s. calls_from calls n s (drop (i + 1) events)) (sym later)
      ∙ ap (λ k. calls_from calls n (suc (i + 2)) (drop k events)) (sym one_less))
      ∙ (ap (λ o. option_list o ++ calls_from calls n (suc (i + 2)) (drop (suc i) events)) (is
      ∙ (ap (λ s. operation_at calls n (i + 2) e (next_of calls (calls.process e) s (drop (i + 1) events)))
      (sym later)
      ∙ ap (λ k. operation_at calls n (i + 2) e (next_after calls (i + 2) e (drop k events)))
      (sym one_less)))
      ∙ (front (begins calls e next) ∙ ap (calls_from calls n (i + 2)) (sym (drop-at events i e at)))))
    where
      next : Option (ℕ × AnyEvent)
      next = next_after calls (i + 2) e (drop (suc i) events)

      rest : List Operation
      rest = calls_from calls n (suc (i + 2)) (drop (suc i) events)

      one : Operation
      one = operation calls n (i + 2) e (reply_in calls next)

      front : (b : Bool) → option_list (cond b (Some one) None) ++ rest ≡ cond b (one ∷ rest) rest
      front true = refl
      front false = refl

-- the operations that the events from a place on begin
abbrev pub left_from : List AnyEvent → ℕ → List Operation
left_from events i =
    calls_from (any_calls (register_names events)) (length events + 2) (i + 2) (drop i events)

-- what is still to be listed for a register, with the operations of one event less
pub list-step : (r : ℕ) (all was now left rest : List Operation) (o : Option Operation)
    → was ++ of_register r left ≡ of_register r all → left ≡ option_list o ++ rest
    → now ≡ was ++ of_register r (option_list o) → now ++ of_register r rest ≡ of_register r all
list-step r all was now left rest o so_far is more =
    ap (λ xs. xs ++ of_register r rest) more
    ∙ (append_assoc was (of_register r (option_list o)) (of_register r rest)
    ∙ (ap (λ xs. was ++ xs) (sym (filter-append (is_of r) (option_list o) rest))
    ∙ (ap (λ xs. was ++ of_register r xs) (sym is) ∙ so_far)))

pub count-step : (all was now : ℕ) (left rest : List Operation) (o : Option Operation)
    → was + length left ≡ all → left ≡ option_list o ++ rest → now ≡ was + length (option_list o)
    → now + length rest ≡ all
count-step all was now left rest o so_far is more =
    let width = ap length is ∙ length-append (option_list o) rest in
    omega (arith, so_far, width, more)

pub at-most-one : (o : Option Operation) → length (option_list o) ≤ 1
at-most-one None = omega arith
at-most-one (Some a) = omega arith

-- nothing is listed past the registers
pub listed-past : (registers : List (Vec Operation Global)) (r : ℕ) → length registers ≤ r
    → listed registers r ≡ []
listed-past registers r l = ap items_of (slice_get_past registers r l)

-- a register more that has no operations
pub listed-push : (registers : List (Vec Operation Global)) (v : Vec Operation Global) → v.items ≡ []
    → (r : ℕ) → listed (registers ++ v ∷ []) r ≡ listed registers r
listed-push registers v none r = go (eqb r (length registers)) refl
  where
    go : (b : Bool) → eqb r (length registers) ≡ b → listed (registers ++ v ∷ []) r ≡ listed registers r
    go true d =
        let here : r ≡ length registers = eqb-true r (length registers) d in
        ap (listed (registers ++ v ∷ [])) here
        ∙ (ap items_of (slice_get-push registers v)
        ∙ (none ∙ sym (listed-past registers r (omega (arith, here)))))
    go false d = ap items_of (slice_get-push_other registers v r (eqb-false r (length registers) d))

-- an operation more of a register
pub listed-add : (old : List (Vec Operation Global)) (a : Operation) (was now : Vec Operation Global)
    → slice_get old a.register ≡ Some was → now.items ≡ was.items ++ a ∷ []
    → (r : ℕ) → listed (set old a.register now) r ≡ listed old r ++ of_register r (a ∷ [])
listed-add old a was now there is r = go (eqb a.register r) refl
  where
    go : (b : Bool) → eqb a.register r ≡ b
        → listed (set old a.register now) r ≡ listed old r ++ cond b (a ∷ []) []
    go true d =
        let e : r ≡ a.register = sym (eqb-true a.register r d) in
        ap (listed (set old a.register now)) e
        ∙ (ap items_of (slice_get-set old a.register now (slice_get_within old a.register was there))
        ∙ (is ∙ ap (λ xs. xs ++ a ∷ []) (sym (ap (listed old) e ∙ ap items_of there))))
    go false d =
        ap items_of (slice_get-set_other old a.register r now (λ e. eqb-false a.register r d (sym e)))
        ∙ sym (append-nil (listed old r))
