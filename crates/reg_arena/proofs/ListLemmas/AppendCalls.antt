-- The calls, and which of them began an operation, after an append.
use Rattle.std.proofs.Common.{◌≡◌, ℕ, zero, suc, ◌+◌, ◌-◌, ◌<◌, ◌≤◌, ◌==◌, ◌&&◌, ◌||◌, not, cond, Bool}
use Rattle.std.proofs.Common.{true, false, List, [], ◌∷◌, ◌++◌, length, set, drop, slice_get, Option}
use Rattle.std.proofs.Common.{Some, None, ◌⊎◌, inl, inr, refl, sym, ap, ◌∙◌, arith, option_and_then}
use Rattle.std.specs.Option.{option_or}
use Rattle.std.proofs.lemmas.List.{length-set}
use Rattle.std.proofs.lemmas.Option.{slice_get_within}
use Rattle.std.proofs.lemmas.Bool.{cases_order, eq-eqb, ne_eqb, false≢true, cases_eq}
use Rattle.std.proofs.Math.Bool.{and-false}
use Rattle.history_model.specs.declared.ids.EvId.{EvId}
use Rattle.history_model.specs.declared.event.Event.{Event}
use Rattle.history_model.specs.declared.event.What.{What}
use Rattle.history_model.specs.declared.event.What.TheVariants.{Call, Reply, Fail, Crash}
use Rattle.history_model.specs.Operations.{next_of, has_failed, begins, is_a_call, is_a_reply, is_a_fail}
use Rattle.history_model.specs.Walking.{key_at, by_process}
use Rattle.history_model.specs.Naming.{begins_at}
use Rattle.reg_arena.specs.Lists.EventLists.{IsCall, IsCallAt, calls_with}
use Rattle.reg_arena.specs.Lists.Tables.{item_at}
use Rattle.history_model.proofs.Calling.{drop-get, next-some, next-none}
use Rattle.history_model.specs.Operations.{plain_calls}
use Rattle.history_model.proofs.Lists.{slice_get-push, slice_get-push_other, option_or-none}
use Rattle.reg_arena.proofs.ListLemmas.Append.{key-within}
use Rattle.reg_arena.proofs.ListLemmas.Columns.{item-push, item-push_none, item-push_other, item-set}
use Rattle.reg_arena.proofs.ListLemmas.Columns.{item-set_other}

next-push : (p s : ℕ) (xs : List Event) (e : Event)
    → next_of p s (xs ++ e ∷ [])
    ≡ option_or (next_of p s xs) (cond (e.process == p) (Some (s + length xs, e)) None)
next-push p s [] e = let t : s ≡ s + 0 = omega arith in ap (λ m. cond (e.process == p) (Some (m, e)) None) t
next-push p s (x ∷ xs) e = go (x.process == p) (next-push p (suc s) xs e)
  where
    go : (b : Bool)
        → next_of p (suc s) (xs ++ e ∷ [])
        ≡ option_or (next_of p (suc s) xs) (cond (e.process == p) (Some (suc s + length xs, e)) None)
        → cond b (Some (s, x)) (next_of p (suc s) (xs ++ e ∷ []))
        ≡ option_or (cond b (Some (s, x)) (next_of p (suc s) xs))
        (cond (e.process == p) (Some (s + suc (length xs), e)) None)
    go true h = refl
    go false h =
        let t : suc s + length xs ≡ s + suc (length xs) =
        omega arith in
        h ∙ ap (λ m. option_or (next_of p (suc s) xs) (cond (e.process == p) (Some (m, e)) None)) t

drop-push : (xs : List Event) (m : ℕ) (e : Event) → m ≤ length xs → drop m (xs ++ e ∷ []) ≡ drop m xs
    ++ e ∷ []
drop-push xs zero e l = refl
drop-push [] (suc m) e l = absurd (omega arith)
drop-push (x ∷ xs) (suc m) e l = drop-push xs m e (omega arith)

next-alone : (es : List Event) (i p : ℕ) → ((u : ℕ) → i < u → key_at by_process es u ≡ Some p → ⊥)
    → next_of p (suc (i + 2)) (drop (suc i) es) ≡ None
next-alone es i p h = go (next_of p (suc (i + 2)) (drop (suc i) es)) refl
  where
    go : (o : Option (ℕ × Event)) → next_of p (suc (i + 2)) (drop (suc i) es) ≡ o → o ≡ None
    go None n = refl
    go (Some r) n =
        let x = next-some plain_calls p (suc (i + 2)) (drop (suc i) es) r n in
        absurd (h (suc i + x.place) (omega arith)
        (ap (option_and_then by_process) (sym (drop-get es (suc i) x.place) ∙ x.there)
        ∙ ap Some x.process))

next-known : (es : List Event) (i p u : ℕ) → i < u → key_at by_process es u ≡ Some p
    → (r : ℕ × Event) × (next_of p (suc (i + 2)) (drop (suc i) es) ≡ Some r)
next-known es i p u lt key = go (next_of p (suc (i + 2)) (drop (suc i) es)) refl
  where
    there : (o : Option Event) → slice_get es u ≡ o → option_and_then by_process o ≡ Some p
        → (g : Event) × (slice_get es u ≡ Some g) × (g.process ≡ p)
    there None q k = absurd (cc (k))
    there (Some g) q k = (g, q, cc (k))

    go : (o : Option (ℕ × Event)) → next_of p (suc (i + 2)) (drop (suc i) es) ≡ o
        → (r : ℕ × Event) × (o ≡ Some r)
    go (Some r) n = (r, refl)
    go None n =
        let g = there (slice_get es u) refl key in
        let z : suc i + (u - suc i) ≡ u = omega (arith, lt) in
        absurd (next-none plain_calls p (suc (i + 2)) (drop (suc i) es) n (u - suc i) g.0
        (drop-get es (suc i) (u - suc i)
        ∙ (ap (slice_get es) z ∙ g.1)) g.2)

-- ---- the calls after an append

pub fail-no_call : (w : What) → is_a_fail w ≡ true → is_a_call w ≡ true → ⊥
fail-no_call (Call kind) f c = false≢true f
fail-no_call (Reply kind) f c = false≢true f
fail-no_call (Fail kind) f c = false≢true c
fail-no_call Crash f c = false≢true f

pub call-no_reply : (w : What) → is_a_call w ≡ true → is_a_reply w ≡ false
call-no_reply (Call kind) h = refl
call-no_reply (Reply kind) h = absurd (false≢true h)
call-no_reply (Fail kind) h = refl
call-no_reply Crash h = refl

abbrev pub event_id : ℕ → EvId
event_id m = record { 0 = m }

module _ (es : List Event) (e : Event) where
  pub call-keep : (i : ℕ) → IsCall es i → IsCall (es ++ e ∷ []) i
  call-keep i c =
      let l =
      slice_get_within es i c.0 c.1 in (c.0, slice_get-push_other es e i (λ q. omega arith) ∙ c.1, c.2)

  same-key : (i : ℕ) → i < length es → key_at by_process (es ++ e ∷ []) i ≡ key_at by_process es i
  same-key i l = ap (option_and_then by_process) (slice_get-push_other es e i (λ q. omega arith))

  pub call_at-keep : (i c : ℕ) → i < length es → IsCallAt es i c → IsCallAt (es ++ e ∷ []) i c
  call_at-keep i c l h =
      let o = h.order in
      record {
        call = call-keep c h.call;
        process = same-key c (omega arith) ∙ (h.process ∙ sym (same-key i l));
        order = h.order;
        between = λ j lo hi q. h.between j lo hi (sym (same-key j (omega arith)) ∙ (q ∙ same-key i l));
        own = λ x. h.own (x.0, sym (slice_get-push_other es e i (λ q. omega arith)) ∙ x.1, x.2);
      }

  next-after : (i p : ℕ) → i < length es
      → next_of p (suc (i + 2)) (drop (suc i) (es ++ e ∷ []))
      ≡ option_or (next_of p (suc (i + 2)) (drop (suc i) es))
      (cond (e.process == p) (Some (suc (i + 2) + length (drop (suc i) es), e)) None)
  next-after i p l =
      ap (next_of p (suc (i + 2))) (drop-push es (suc i) e (omega arith))
      ∙ next-push p (suc (i + 2)) (drop (suc i) es) e

  -- where the call has a next event, another one changes nothing
  begins-next : (i : ℕ) (f : Event) (r : ℕ × Event) → i < length es
      → next_of f.process (suc (i + 2)) (drop (suc i) es) ≡ Some r
      → begins_at (es ++ e ∷ []) i f ≡ begins_at es i f
  begins-next i f r l n =
      ap (begins f) (next-after i f.process l
      ∙ (ap (λ o. option_or o
      (cond (e.process == f.process) (Some (suc (i + 2) + length (drop (suc i) es), e)) None)) n ∙ sym n))

  -- nor does one that isn't a fail
  pub begins-other : (i : ℕ) (f : Event) → i < length es → is_a_fail e.what ≡ false
      → begins_at (es ++ e ∷ []) i f ≡ begins_at es i f
  begins-other i f l kept = go (next_of f.process (suc (i + 2)) (drop (suc i) es)) refl
    where
      by_process : (b : Bool)
          → has_failed (cond b (Some (suc (i + 2) + length (drop (suc i) es), e)) None) ≡ false
      by_process true = kept
      by_process false = refl

      go : (o : Option (ℕ × Event)) → next_of f.process (suc (i + 2)) (drop (suc i) es) ≡ o
          → begins_at (es ++ e ∷ []) i f ≡ begins_at es i f
      go (Some r) n = begins-next i f r l n
      go None n =
          ap (begins f) (next-after i f.process l
          ∙ ap (λ o. option_or o
          (cond (e.process == f.process) (Some (suc (i + 2) + length (drop (suc i) es), e)) None)) n)
          ∙ (ap (λ b. is_a_call f.what && not b) (by_process (e.process == f.process))
          ∙ sym (ap (begins f) n))

  -- a call of another process is kept
  begins-apart : (i : ℕ) (f : Event) → i < length es → (e.process ≡ f.process → ⊥)
      → begins_at (es ++ e ∷ []) i f ≡ begins_at es i f
  begins-apart i f l ne =
      ap (begins f) (next-after i f.process l
      ∙ (ap (λ b. option_or (next_of f.process (suc (i + 2)) (drop (suc i) es))
      (cond b (Some (suc (i + 2) + length (drop (suc i) es), e)) None)) (ne_eqb e.process f.process ne)
      ∙ option_or-none (next_of f.process (suc (i + 2)) (drop (suc i) es))))

  -- the call of an appended fail fails, and no other
  module _ (c : EvId) (h : IsCallAt (es ++ e ∷ []) (length es) c.0) (f : is_a_fail e.what ≡ true) where
    new-at : slice_get (es ++ e ∷ []) (length es) ≡ Some e
    new-at = slice_get-push es e

    -- the fail is no call
    pub call-before : c.0 < length es
    call-before = elim (cases_eq c.0 (length es)) [
      | inl q ↦ absurd (let a = h.call in let w = a.1 in let s = ap (slice_get (es ++ e ∷ [])) q in
          let same : a.0 ≡ e =
          cc (w, s, new-at) in fail-no_call e.what f (sym (ap (λ (v : Event). is_a_call v.what) same) ∙ a.2))
      | inr ne ↦ let o = h.order in omega (arith, o, ne)
    ]

    call-process : key_at by_process es c.0 ≡ Some e.process
    call-process = sym (same-key c.0 call-before) ∙ (h.process ∙ ap (option_and_then by_process) new-at)

    call-last : (u : ℕ) → c.0 < u → key_at by_process es u ≡ Some e.process → ⊥
    call-last u lt key =
        let l =
        key-within by_process es u e.process key in
        h.between u lt l (same-key u l ∙ (key ∙ sym (ap (option_and_then by_process) new-at)))

    pub begins-failed : (g : Event) → slice_get es c.0 ≡ Some g → begins_at (es ++ e ∷ []) c.0 g ≡ false
    begins-failed g at =
        let key = call-process in
        let own : g.process ≡ e.process =
        let k =
        ap (option_and_then by_process) at in let w : Some g.process ≡ Some e.process =
        sym k ∙ key in cc (w) in
        let none = next-alone es c.0 g.process (λ u lt k. call-last u lt (k ∙ ap Some own)) in
        ap (begins g) (next-after c.0 g.process call-before
        ∙ (ap (λ o. option_or o
        (cond (e.process == g.process) (Some (suc (c.0 + 2) + length (drop (suc c.0) es), e)) None)) none
        ∙ ap (λ b. cond b (Some (suc (c.0 + 2) + length (drop (suc c.0) es), e)) None)
        (eq-eqb e.process g.process (sym own))))
        ∙ (ap (λ b. is_a_call g.what && not b) f ∙ and-false (is_a_call g.what))

    pub begins-unfailed : (i : ℕ) (g : Event) → slice_get es i ≡ Some g → (i ≡ c.0 → ⊥)
        → begins_at (es ++ e ∷ []) i g ≡ begins_at es i g
    begins-unfailed i g at ne = go (cases_eq e.process g.process)
      where
        l : i < length es
        l = slice_get_within es i g at

        go : (e.process ≡ g.process) ⊎ (e.process ≡ g.process → ⊥)
            → begins_at (es ++ e ∷ []) i g ≡ begins_at es i g
        go (inr apart) = begins-apart i g l apart
        go (inl own) = elim (cases_order i c.0) [
          | inl q ↦ absurd (ne q)
          | inr w ↦ elim w [
            | inl less ↦ let r = next-known es i g.process c.0 less (call-process ∙ ap Some own) in
                begins-next i g r.0 l r.1
            | inr more ↦ absurd (call-last i more (ap (option_and_then by_process) at ∙ ap Some (sym own)))
          ]
        ]

-- ---- the column of calls

-- what the column says after an append
pub record AreCallsAfter (calls new : List (Option EvId)) (n : ℕ) (w : What) (call : EvId) : Type 0 where
  pub kept : (i : ℕ) → i < n → (is_a_fail w ≡ true → i ≡ call.0 → ⊥) → item_at new i ≡ item_at calls i
  pub failed : is_a_fail w ≡ true → item_at new call.0 ≡ None
  pub none : is_a_call w ≡ false → is_a_reply w ≡ false → item_at new n ≡ None
  pub some : (is_a_call w || is_a_reply w) ≡ true → item_at new n ≡ Some call

pub calls-after : (calls : List (Option EvId)) (n : ℕ) (w : What) (call : EvId) → n ≡ length calls
    → (is_a_fail w ≡ true → call.0 < n) → AreCallsAfter calls (calls_with calls w call) n w call
calls-after calls n (Call kind) call q lt = record {
  kept = λ i l ne. item-push_other calls (Some call) i (λ c. omega (arith, l, c, q));
  failed = λ f. absurd (false≢true f);
  none = λ c r. absurd (false≢true (sym c));
  some = λ x. ap (item_at (calls ++ Some call ∷ [])) q ∙ item-push calls (Some call);
}
calls-after calls n (Reply kind) call q lt = record {
  kept = λ i l ne. item-push_other calls (Some call) i (λ c. omega (arith, l, c, q));
  failed = λ f. absurd (false≢true f);
  none = λ c r. absurd (false≢true (sym r));
  some = λ x. ap (item_at (calls ++ Some call ∷ [])) q ∙ item-push calls (Some call);
}
calls-after calls n (Fail kind) call q lt =
    let l = lt refl in
    let long : length (set calls call.0 None) ≡ n = length-set calls call.0 None ∙ sym q in
    record {
      kept =
          λ i l ne. item-push_none (set calls call.0 None) i ∙ item-set_other calls call.0 i None (ne refl);
      failed =
          λ f. item-push_none (set calls call.0 None) call.0
          ∙ item-set calls call.0 None (omega (arith, l, q));
      none =
          λ c r. ap (item_at (set calls call.0 None ++ None ∷ [])) (sym long)
          ∙ item-push (set calls call.0 None) None;
      some = λ x. absurd (false≢true x);
    }
calls-after calls n Crash call q lt = record {
  kept = λ i l ne. item-push_none calls i;
  failed = λ f. absurd (false≢true f);
  none = λ c r. ap (item_at (calls ++ None ∷ [])) q ∙ item-push calls None;
  some = λ x. absurd (false≢true x);
}
