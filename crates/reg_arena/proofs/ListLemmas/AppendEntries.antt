-- The entries of the values after an append.
use Rattle.std.proofs.Common.{◌≡◌, ℕ, suc, ◌+◌, ◌<◌, ◌≤◌, ◌&&◌, ◌||◌, not, nat_lt, nat_eq, cond, Bool, true}
use Rattle.std.proofs.Common.{false, List, [], ◌∷◌, ◌++◌, length, set, drop, slice_get, Option, Some, None}
use Rattle.std.proofs.Common.{◌⊎◌, inl, inr, refl, sym, ap, subst, ◌∙◌, arith, option_and_then, length-append}
use Rattle.std.proofs.lemmas.List.{length-set, drop_all, length_push}
use Rattle.std.proofs.lemmas.Option.{slice_get_within}
use Rattle.std.proofs.lemmas.Bool.{eqb-true, eqb-false, ltb-true, ltb-false, false≢true, and_parts, cases_eq}
use Rattle.std.proofs.Math.Bool.{or-true}
use Rattle.history_text.specs.declared.event.Val.{Val}
use Rattle.history_text.specs.declared.event.OpKind.TheVariants.{ReadOp, WriteOp}
use Rattle.history_model.specs.declared.ids.EvId.{EvId}
use Rattle.history_model.specs.declared.ids.RegId.{RegId}
use Rattle.history_model.specs.declared.event.Event.{Event}
use Rattle.history_model.specs.declared.event.What.{What}
use Rattle.history_model.specs.declared.event.What.TheVariants.{Call, Reply, Fail, Crash}
use Rattle.reg_arena.specs.declared.event_lists.list_ends.Entry.{Entry}
use Rattle.reg_arena.specs.declared.event_lists.list_ends.Write.{Write}
use Rattle.reg_arena.specs.declared.event_lists.list_ends.Write.TheVariants.{Unwritten, Written, Failed}
use Rattle.history_model.specs.Operations.{next_of, has_failed, begins, is_a_call, is_a_reply}
use Rattle.history_model.specs.Operations.{is_a_fail, kind_in, number_in, writes}
use Rattle.history_model.specs.Walking.{IsFirstOf, key_at, by_value}
use Rattle.history_model.specs.Naming.{begins_at}
use Rattle.reg_arena.specs.Lists.EventLists.{IsEnteredBy, IsCallOf, IsAppendable, IsLastRead, IsEntry}
use Rattle.reg_arena.specs.Lists.EventLists.{calls_with, by_write, by_reply, by_read, later, write_called}
use Rattle.reg_arena.specs.Lists.EventLists.{write_kept, write_with, reply_with, read_with, with_call}
use Rattle.reg_arena.specs.Lists.EventLists.{with_fail, entry_alone, entry_with, entry_after, end_of}
use Rattle.reg_arena.specs.Lists.Tables.{item_at}
use Rattle.history_model.proofs.Lists.{slice_get-push, slice_get-push_other}
use Rattle.reg_arena.proofs.ListLemmas.Append.{first-other, first-with, key-along, key-back, key-keep}
use Rattle.reg_arena.proofs.ListLemmas.Append.{key-within}
use Rattle.reg_arena.proofs.ListLemmas.Append.{read-said, read-value, reply-said, reply-value, write-call}
use Rattle.reg_arena.proofs.ListLemmas.Append.{write-value}
use Rattle.reg_arena.proofs.ListLemmas.AppendCalls.{AreCallsAfter, call-before, begins-failed}
use Rattle.reg_arena.proofs.ListLemmas.AppendCalls.{begins-unfailed, begins-other, call-no_reply}
use Rattle.reg_arena.proofs.ListLemmas.AppendCalls.{call_at-keep, calls-after, event_id, fail-no_call}

-- an event n is appended whose call is the event `call`
module _ (es : List Event) (e : Event) (n : EvId) (calls : List (Option EvId)) (call : EvId)
    (at : n.0 ≡ length es) (column : length calls ≡ length es) (fits : IsAppendable es e call) where
  abbrev new_calls : List (Option EvId)
  new_calls = calls_with calls e.what call

  no-crash : is_a_fail e.what ≡ true → e.what ≡ Crash → ⊥
  no-crash f q = false≢true (sym (ap is_a_fail q) ∙ f)

  fail-before : is_a_fail e.what ≡ true → call.0 < length es
  fail-before f = call-before es e call (fits.call (no-crash f)) f

  said : AreCallsAfter calls new_calls (length es) e.what call
  said = calls-after calls (length es) e.what call (sym column) fail-before

  -- whether an old event belongs to an operation changes for the call of a fail alone
  belongs-kept : (i : ℕ) (f : Event) → slice_get es i ≡ Some f → (is_a_fail e.what ≡ true → i ≡ call.0 → ⊥)
      → begins_at (es ++ e ∷ []) i f ≡ begins_at es i f
  belongs-kept i f old ne = go (is_a_fail e.what) refl
    where
      go : (b : Bool) → is_a_fail e.what ≡ b → begins_at (es ++ e ∷ []) i f ≡ begins_at es i f
      go true q = begins-unfailed es e call (fits.call (no-crash q)) q i f old (ne q)
      go false q = begins-other es e i f (slice_get_within es i f old) q

  call-kept : (i : ℕ) (f : Event) (o : Option EvId) → slice_get es i ≡ Some f
      → begins_at (es ++ e ∷ []) i f ≡ begins_at es i f → IsCallOf es i f o → IsCallOf (es ++ e ∷ []) i f o
  call-kept i f None old q h = ap (λ b. is_a_reply f.what || b) q ∙ h
  call-kept i f (Some c) old q h =
      (ap (λ b. is_a_reply f.what || b) q ∙ h.0, call_at-keep es e i c.0 (slice_get_within es i f old) h.1)

  -- the call of a fail is then none of an operation
  call-failed : is_a_fail e.what ≡ true → (f : Event) → slice_get es call.0 ≡ Some f
      → IsCallOf (es ++ e ∷ []) call.0 f None
  call-failed q f old =
      let h = fits.call (no-crash q) in
      let c = h.call in
      let there : slice_get (es ++ e ∷ []) call.0 ≡ Some f =
      slice_get-push_other es e call.0 (λ x. let l = fail-before q in omega (arith, l, x)) ∙ old in
      let w = c.1 in
      let same : c.0 ≡ f = cc (w, there) in
      let is = ap (λ (v : Event). is_a_call v.what) (sym same) ∙ c.2 in
      ap (λ b. b || begins_at (es ++ e ∷ []) call.0 f) (call-no_reply f.what is)
      ∙ begins-failed es e call h q f old

  call-of_new : (b d : Bool) → is_a_call e.what ≡ b → is_a_reply e.what ≡ d
      → IsCallOf (es ++ e ∷ []) (length es) e (item_at new_calls (length es))
  call-of_new false false c r =
      subst (IsCallOf (es ++ e ∷ []) (length es) e) (sym (said.none c r))
      (ap (λ b. b || begins_at (es ++ e ∷ []) (length es) e) r
      ∙ ap (λ b. b && not
      (has_failed (next_of e.process (suc (length es + 2)) (drop (suc (length es)) (es ++ e ∷ []))))) c)
  call-of_new true d c r =
      subst (IsCallOf (es ++ e ∷ []) (length es) e) (sym (said.some (ap (λ b. b || is_a_reply e.what) c))) (
        ap (λ b. b || begins_at (es ++ e ∷ []) (length es) e) (call-no_reply e.what c)
            ∙ (ap (begins e)
            (ap (next_of e.process (suc (length es + 2)))
            (drop_all (suc (length es)) (es ++ e ∷ []) (omega (arith, length_push es e))))
            ∙ ap (λ b. b && true) c),
        fits.call (λ q. false≢true (sym (ap is_a_call q) ∙ c)),
      )
  call-of_new false true c r =
      subst (IsCallOf (es ++ e ∷ []) (length es) e)
      (sym (said.some (ap (λ b. is_a_call e.what || b) r ∙ or-true (is_a_call e.what)))) (
        ap (λ b. b || begins_at (es ++ e ∷ []) (length es) e) r,
        fits.call (λ q. false≢true (sym (ap is_a_reply q) ∙ r)),
      )

  pub calls-push : ((i : ℕ) (f : Event) → slice_get es i ≡ Some f → IsCallOf es i f (item_at calls i))
      → (i : ℕ) (f : Event) → slice_get (es ++ e ∷ []) i ≡ Some f
      → IsCallOf (es ++ e ∷ []) i f (item_at new_calls i)
  calls-push old i f h = elim (cases_eq i (length es)) [
    | inl q ↦
        let w = sym (slice_get-push es e) ∙ (ap (slice_get (es ++ e ∷ [])) (sym q) ∙ h) in
        let same : e ≡ f = cc (w) in
        subst (λ m. IsCallOf (es ++ e ∷ []) m f (item_at new_calls m)) (sym q)
        (subst (λ (v : Event). IsCallOf (es ++ e ∷ []) (length es) v (item_at new_calls (length es))) same
        (call-of_new (is_a_call e.what) (is_a_reply e.what) refl refl))
    | inr ne ↦
        let was = sym (slice_get-push_other es e i ne) ∙ h in
        let l = slice_get_within es i f was in
        by_fail i f was l (is_a_fail e.what) refl (cases_eq i call.0)
  ]
    where
      kept : (i : ℕ) (f : Event) → slice_get es i ≡ Some f → i < length es
          → (is_a_fail e.what ≡ true → i ≡ call.0 → ⊥) → IsCallOf (es ++ e ∷ []) i f (item_at new_calls i)
      kept i f was l ne =
          subst (IsCallOf (es ++ e ∷ []) i f) (sym (said.kept i l ne))
          (call-kept i f (item_at calls i) was (belongs-kept i f was ne) (old i f was))

      by_fail : (i : ℕ) (f : Event) → slice_get es i ≡ Some f → i < length es → (b : Bool)
          → is_a_fail e.what ≡ b → (i ≡ call.0) ⊎ (i ≡ call.0 → ⊥)
          → IsCallOf (es ++ e ∷ []) i f (item_at new_calls i)
      by_fail i f was l false q d = kept i f was l (λ x. absurd (false≢true (sym q ∙ x)))
      by_fail i f was l true q (inr ne) = kept i f was l (λ _. ne)
      by_fail i f was l true q (inl s) =
          subst (λ m. IsCallOf (es ++ e ∷ []) m f (item_at new_calls m)) (sym s)
          (subst (IsCallOf (es ++ e ∷ []) call.0 f) (sym (said.failed q))
          (call-failed q f (ap (slice_get es) (sym s) ∙ was)))

  -- ---- the parts of an entry

  -- a call that isn't of the appended fail stays as it is
  call-same : (i : ℕ) → i < length es → (is_a_fail e.what ≡ true → i ≡ call.0 → ⊥)
      → item_at new_calls i ≡ item_at calls i
  call-same i l ne = said.kept i l ne

  -- the write's calls: `w` is the write so far
  record IsWriteSoFar (events : List Event) (said_calls : List (Option EvId)) (k : ℕ
      × Val) (w : Write) : Type 0 where
    first : IsFirstOf by_write events k (write_called w)
    kept : (id : EvId) → write_called w ≡ Some id → item_at said_calls id.0 ≡ write_kept w

  write-id : (k : ℕ × Val) (id : EvId) (o : Option EvId) → o ≡ Some id → IsFirstOf by_write es k o
      → key_at by_write es id.0 ≡ Some k
  write-id k id None q h = absurd (cc (q))
  write-id k id (Some j) q h =
      let s : j ≡ id = cc (q) in subst (λ (v : EvId). key_at by_write es v.0 ≡ Some k) s h.1

  -- no write's call is that of a fail of another register or value
  not-failed : (k : ℕ × Val) (id : EvId) → key_at by_write es id.0 ≡ Some k → (by_value e ≡ Some k → ⊥)
      → is_a_fail e.what ≡ true → id.0 ≡ call.0 → ⊥
  not-failed k id key ne f q =
      let value = key-along by_write by_value es k (λ v. write-value v k) id.0 key in
      ne (sym (fits.same f) ∙ (ap (key_at by_value es) (sym q) ∙ value))

  write-other : (k : ℕ × Val) (w : Write) → (by_value e ≡ Some k → ⊥) → IsWriteSoFar es calls k w
      → IsWriteSoFar (es ++ e ∷ []) new_calls k w
  write-other k w ne h = record {
    first = first-other by_write es e k (write_called w) (λ q. ne (write-value e k q)) h.first;
    kept = λ id q.
        let key = write-id k id (write_called w) q h.first in
        call-same id.0 (key-within by_write es id.0 k key) (not-failed k id key ne) ∙ h.kept id q;
  }

  -- an event that is no call adds no write
  write-same : (k : ℕ × Val) (w : Write) → is_a_call e.what ≡ false → is_a_fail e.what ≡ false
      → IsWriteSoFar es calls k w → IsWriteSoFar (es ++ e ∷ []) new_calls k w
  write-same k w c f h = record {
    first = first-other by_write es e k (write_called w) (λ q. false≢true (sym c ∙ write-call e k q)) h.first;
    kept = λ id q.
        let key = write-id k id (write_called w) q h.first in
        call-same id.0 (key-within by_write es id.0 k key) (λ x. absurd (false≢true (sym f ∙ x)))
        ∙ h.kept id q;
  }

  -- a call is its own
  call-own : is_a_call e.what ≡ true → call ≡ n
  call-own c =
      let own = (fits.call (λ q. false≢true (sym (ap is_a_call q) ∙ c))).own (e, slice_get-push es e, c) in
      let same : call.0 ≡ n.0 = omega (arith, own, at) in
      ap (λ m. event_id m) same

  write-called : (k : ℕ × Val) (w : Write) → by_value e ≡ Some k → is_a_call e.what ≡ true
      → IsWriteSoFar es calls k w → IsWriteSoFar (es ++ e ∷ []) new_calls k (with_call w n)
  write-called k w q c h = go w h
    where
      by : by_write e ≡ Some k
      by = ap (λ b. cond b (by_value e) None) c ∙ q

      no-fail : is_a_fail e.what ≡ true → ⊥
      no-fail f = fail-no_call e.what f c

      here : item_at new_calls n.0 ≡ Some n
      here =
          ap (item_at new_calls) at ∙ (said.some (ap (λ b. b || is_a_reply e.what) c) ∙ ap Some (call-own c))

      go : (w : Write) → IsWriteSoFar es calls k w → IsWriteSoFar (es ++ e ∷ []) new_calls k (with_call w n)
      go Unwritten h = record {
        first = first-with by_write es e n k None at by h.first;
        kept = λ id x. let s : n ≡ id = cc (x) in subst (λ (v : EvId). item_at new_calls v.0 ≡ Some n) s here;
      }
      go (Written w) h = record {
        first = first-with by_write es e n k (Some w) at by h.first;
        kept =
            λ id x. call-same id.0 (key-within by_write es id.0 k (write-id k id (Some w) x h.first))
            (λ f. absurd (no-fail f)) ∙ h.kept id x;
      }
      go (Failed w) h = record {
        first = first-with by_write es e n k (Some w) at by h.first;
        kept =
            λ id x. call-same id.0 (key-within by_write es id.0 k (write-id k id (Some w) x h.first))
            (λ f. absurd (no-fail f)) ∙ h.kept id x;
      }

  write-failed : (k : ℕ × Val) (w : Write) → is_a_fail e.what ≡ true → IsWriteSoFar es calls k w
      → IsWriteSoFar (es ++ e ∷ []) new_calls k (with_fail w call)
  write-failed k w f h = go w h
    where
      other : (o : Option EvId) → IsFirstOf by_write es k o → IsFirstOf by_write (es ++ e ∷ []) k o
      other o h = first-other by_write es e k o (λ q. fail-no_call e.what f (write-call e k q)) h

      go : (w : Write) → IsWriteSoFar es calls k w
          → IsWriteSoFar (es ++ e ∷ []) new_calls k (with_fail w call)
      go Unwritten h = record { first = other None h.first; kept = λ id x. absurd (cc (x)) }
      go (Failed w) h = record {
        first = other (Some w) h.first;
        kept = λ id x. elim (cases_eq id.0 call.0) [
          | inl q ↦ ap (item_at new_calls) q ∙ said.failed f
          | inr ne ↦ call-same id.0 (key-within by_write es id.0 k (write-id k id (Some w) x h.first))
              (λ _. ne) ∙ h.kept id x
        ];
      }
      go (Written w) h = by_test (nat_eq w.0 call.0) refl
        where
          by_test : (b : Bool) → nat_eq w.0 call.0 ≡ b
              → IsWriteSoFar (es ++ e ∷ []) new_calls k (cond b (Failed w) (Written w))
          by_test true t = record {
            first = other (Some w) h.first;
            kept =
                λ id x. let s : w ≡ id =
                cc (x) in ap (item_at new_calls) (ap (λ (v : EvId). v.0) (sym s) ∙ eqb-true w.0 call.0 t)
                ∙ said.failed f;
          }
          by_test false t = record {
            first = other (Some w) h.first;
            kept = λ id x.
                let s : w ≡ id = cc (x) in
                call-same id.0 (key-within by_write es id.0 k (write-id k id (Some w) x h.first))
                (λ _ q. eqb-false w.0 call.0 t (ap (λ (v : EvId). v.0) s ∙ q)) ∙ h.kept id x;
          }

  write-own : (k : ℕ × Val) (w : Write) (v : What) → e.what ≡ v → by_value e ≡ Some k
      → IsWriteSoFar es calls k w → IsWriteSoFar (es ++ e ∷ []) new_calls k (write_with w v n call)
  write-own k w (Call kind) q value h = write-called k w value (ap is_a_call q) h
  write-own k w (Reply kind) q value h = write-same k w (ap is_a_call q) (ap is_a_fail q) h
  write-own k w (Fail kind) q value h = write-failed k w (ap is_a_fail q) h
  write-own k w Crash q value h = write-same k w (ap is_a_call q) (ap is_a_fail q) h

  reply-own : (k : ℕ × Val) (r : Option EvId) (v : What) → e.what ≡ v → by_value e ≡ Some k
      → IsFirstOf by_reply es k r → IsFirstOf by_reply (es ++ e ∷ []) k (reply_with r v n)
  reply-own k r (Call kind) q value h =
      first-other by_reply es e k r (λ x. false≢true (sym (ap is_a_reply q) ∙ reply-said e k x)) h
  reply-own k r (Reply kind) q value h =
      first-with by_reply es e n k r at (ap (λ v. cond (is_a_reply v) (by_value e) None) q ∙ value) h
  reply-own k r (Fail kind) q value h =
      first-other by_reply es e k r (λ x. false≢true (sym (ap is_a_reply q) ∙ reply-said e k x)) h
  reply-own k r Crash q value h =
      first-other by_reply es e k r (λ x. false≢true (sym (ap is_a_reply q) ∙ reply-said e k x)) h

  -- a read's reply keeps its call
  read-not_failed : (k : ℕ × Val) (i : ℕ) → key_at by_read es i ≡ Some k → is_a_fail e.what ≡ true
      → i ≡ call.0 → ⊥
  read-not_failed k i key f q = go (slice_get es i) refl key
    where
      go : (o : Option Event) → slice_get es i ≡ o → option_and_then by_read o ≡ Some k → ⊥
      go None there x = cc (x)
      go (Some g) there x =
          let c = (fits.call (no-crash f)).call in
          let l = fail-before f in
          let w = c.1 in
          let here : slice_get (es ++ e ∷ []) call.0 ≡ Some g =
          slice_get-push_other es e call.0 (λ z. omega (arith, l, z))
          ∙ (ap (slice_get es) (sym q) ∙ there) in
          let same : c.0 ≡ g = cc (w, here) in
          let is = ap (λ (v : Event). is_a_call v.what) (sym same) ∙ c.2 in
          let said = (and_parts (is_a_reply g.what) (not (writes (kind_in g.what))) (read-said g k x)).0 in
          false≢true (sym (call-no_reply g.what is) ∙ said)

  read-same : (k : ℕ × Val) (i : ℕ) → key_at by_read es i ≡ Some k → item_at new_calls i ≡ item_at calls i
  read-same k i key = call-same i (key-within by_read es i k key) (read-not_failed k i key)

  read-kept : (k : ℕ × Val) (l : Option EvId) → (by_read e ≡ Some k → ⊥) → IsLastRead es calls k l
      → IsLastRead (es ++ e ∷ []) new_calls k l
  read-kept k None ne h = λ i q. elim (key-back by_read es e i k q) [ inl x ↦ ne x.1 | inr x ↦ h i x ]
  read-kept k (Some c) ne h = (
    (h.0.0, key-keep by_read es e h.0.0 k h.0.1, read-same k h.0.0 h.0.1 ∙ h.0.2),
    λ i d q g. elim (key-back by_read es e i k q) [
      | inl x ↦ absurd (ne x.1)
      | inr x ↦ h.1 i d x (sym (read-same k i x) ∙ g)
    ],
  )

  read-added : (k : ℕ × Val) (l : Option EvId) → by_read e ≡ Some k → is_a_reply e.what ≡ true
      → IsLastRead es calls k l → IsLastRead (es ++ e ∷ []) new_calls k (later l (Some call))
  read-added k l by r h = go l h
    where
      key : key_at by_read (es ++ e ∷ []) n.0 ≡ Some k
      key = ap (key_at by_read (es ++ e ∷ [])) at ∙ (ap (option_and_then by_read) (slice_get-push es e) ∙ by)

      here : item_at new_calls n.0 ≡ Some call
      here =
          ap (item_at new_calls) at
          ∙ said.some (ap (λ b. is_a_call e.what || b) r ∙ or-true (is_a_call e.what))

      own : (i : ℕ) (d : EvId) → i ≡ length es → item_at new_calls i ≡ Some d → call ≡ d
      own i d q g =
          let s : i ≡ n.0 =
          omega (arith, q, at) in let w = sym here ∙ (ap (item_at new_calls) (sym s) ∙ g) in cc (w)

      go : (l : Option EvId) → IsLastRead es calls k l
          → IsLastRead (es ++ e ∷ []) new_calls k (later l (Some call))
      go None h = (
        (n.0, key, here),
        λ i d q g. elim (key-back by_read es e i k q) [
          | inl x ↦ let s = own i d x.0 g in
              omega (arith, ap (λ (v : EvId). v.0) s)
          | inr x ↦ absurd (h i x)
        ],
      )
      go (Some c) h = by_test (nat_lt c.0 call.0) refl
        where
          by_test : (b : Bool) → nat_lt c.0 call.0 ≡ b
              → IsLastRead (es ++ e ∷ []) new_calls k (Some (cond b call c))
          by_test true t =
              let lt = ltb-true c.0 call.0 t in (
                (n.0, key, here),
                λ i d q g. elim (key-back by_read es e i k q) [
                  | inl x ↦ let s = own i d x.0 g in
                      omega (arith, ap (λ (v : EvId). v.0) s)
                  | inr x ↦ let o = h.1 i d x (sym (read-same k i x) ∙ g) in omega arith
                ],
              )
          by_test false t =
              let le = ltb-false c.0 call.0 t in (
                (h.0.0, key-keep by_read es e h.0.0 k h.0.1, read-same k h.0.0 h.0.1 ∙ h.0.2),
                λ i d q g. elim (key-back by_read es e i k q) [
                  | inl x ↦ let s = own i d x.0 g in
                      omega (arith, ap (λ (v : EvId). v.0) s)
                  | inr x ↦ h.1 i d x (sym (read-same k i x) ∙ g)
                ],
              )

  read-own : (k : ℕ × Val) (l : Option EvId) (v : What) → e.what ≡ v → by_value e ≡ Some k
      → IsLastRead es calls k l → IsLastRead (es ++ e ∷ []) new_calls k (read_with l v call)
  read-own k l (Call kind) q value h =
      read-kept k l (λ x. false≢true (sym (ap (λ v. is_a_reply v && not (writes (kind_in v))) q)
      ∙ read-said e k x)) h
  read-own k l (Reply ReadOp) q value h =
      read-added k l (ap (λ v. cond (is_a_reply v && not (writes (kind_in v))) (by_value e) None) q
      ∙ value) (ap is_a_reply q) h
  read-own k l (Reply WriteOp) q value h =
      read-kept k l (λ x. false≢true (sym (ap (λ v. is_a_reply v && not (writes (kind_in v))) q)
      ∙ read-said e k x)) h
  read-own k l (Fail kind) q value h =
      read-kept k l (λ x. false≢true (sym (ap (λ v. is_a_reply v && not (writes (kind_in v))) q)
      ∙ read-said e k x)) h
  read-own k l Crash q value h =
      read-kept k l (λ x. false≢true (sym (ap (λ v. is_a_reply v && not (writes (kind_in v))) q)
      ∙ read-said e k x)) h

  -- ---- an entry

  -- an entry of another key
  entry-other : (k : ℕ × Val) (y : Entry) → (by_value e ≡ Some k → ⊥) → IsEntry es calls k y
      → IsEntry (es ++ e ∷ []) new_calls k y
  entry-other k y ne h =
      let w = write-other k y.write ne (record { first = h.write; kept = h.kept }) in
      record {
        write = w.first;
        kept = w.kept;
        reply = first-other by_reply es e k y.first_reply (λ q. ne (reply-value e k q)) h.reply;
        read = read-kept k y.last_read (λ q. ne (read-value e k q)) h.read;
      }

  -- the first entry of a key
  entry-first : (k : ℕ × Val) → by_value e ≡ Some k → ((i : ℕ) → key_at by_value es i ≡ Some k → ⊥)
      → IsEntry (es ++ e ∷ []) new_calls k (entry_alone e n call)
  entry-first k q none =
      let w = write-own k Unwritten e.what refl q (record {
        first = λ i _ x. none i (key-along by_write by_value es k (λ e. write-value e k) i x);
        kept = λ id x. absurd (cc (x));
      }) in
      record {
        write = w.first;
        kept = w.kept;
        reply =
            reply-own k None e.what refl q (λ i _ x.
            none i (key-along by_reply by_value es k (λ e. reply-value e k) i x));
        read =
            read-own k None e.what refl q
            (λ i x. none i (key-along by_read by_value es k (λ e. read-value e k) i x));
      }

  -- an entry of the event's key
  entry-next : (k : ℕ × Val) (y : Entry) → by_value e ≡ Some k → IsEntry es calls k y
      → IsEntry (es ++ e ∷ []) new_calls k (entry_with y e n call)
  entry-next k y q h =
      let w = write-own k y.write e.what refl q (record { first = h.write; kept = h.kept }) in
      record {
        write = w.first;
        kept = w.kept;
        reply = reply-own k y.first_reply e.what refl q h.reply;
        read = read-own k y.last_read e.what refl q h.read;
      }

  pub entries-push : (entry new_entry : ℕ × Val → Option Entry)
      → ((k : ℕ × Val) → entry k ≡ None → (i : ℕ) → key_at by_value es i ≡ Some k → ⊥)
      → ((k : ℕ × Val) (y : Entry) → entry k ≡ Some y → IsEntry es calls k y)
      → IsEnteredBy (by_value e) e n call entry new_entry → (k : ℕ × Val) (y : Entry) → new_entry k ≡ Some y
      → IsEntry (es ++ e ∷ []) new_calls k y
  entries-push entry new_entry none old t k y h = go (by_value e) refl t
    where
      of_key : by_value e ≡ Some k → new_entry k ≡ Some (entry_after (entry k) e n call) → (o : Option Entry)
          → entry k ≡ o → IsEntry (es ++ e ∷ []) new_calls k y
      of_key q new None was =
          let w = sym new ∙ h in
          let same : entry_after (entry k) e n call ≡ y = cc (w) in
          subst (IsEntry (es ++ e ∷ []) new_calls k) (sym (ap (λ o. entry_after o e n call) was)
          ∙ same) (entry-first k q (none k was))
      of_key q new (Some z) was =
          let w = sym new ∙ h in
          let same : entry_after (entry k) e n call ≡ y = cc (w) in
          subst (IsEntry (es ++ e ∷ []) new_calls k) (sym (ap (λ o. entry_after o e n call) was)
          ∙ same) (entry-next k z q (old k z was))

      go : (o : Option (ℕ × Val)) → by_value e ≡ o → IsEnteredBy o e n call entry new_entry
          → IsEntry (es ++ e ∷ []) new_calls k y
      go None q t = entry-other k y (λ x. let z = sym q ∙ x in cc (z)) (old k y (sym (t k) ∙ h))
      go (Some p) q t = elim (t.others k) [
        | inl s ↦ of_key (q
            ∙ ap Some (sym s))
            (subst (λ (v : ℕ × Val). new_entry v ≡ Some (entry_after (entry v) e n call)) (sym s) t.one)
            (entry k) refl
        | inr d ↦ entry-other k y (λ x. d.0 (let z = sym q ∙ x in let w : p ≡ k = cc (z) in sym w))
            (old k y (sym d.1 ∙ h))
      ]

-- a fail ends a call before it
pub fail-within : (es : List Event) (e : Event) (call : EvId) → IsAppendable es e call
    → is_a_fail e.what ≡ true → call.0 < length es
fail-within es e call fits f =
    call-before es e call (fits.call (λ q. false≢true (sym (ap is_a_fail q) ∙ f))) f

pub calls-length : (calls : List (Option EvId)) (w : What) (call : EvId)
    → length (calls_with calls w call) ≡ length calls + 1
calls-length calls (Call kind) call = length-append calls (Some call ∷ [])
calls-length calls (Reply kind) call = length-append calls (Some call ∷ [])
calls-length calls (Fail kind) call =
    length-append (set calls call.0 None) (None ∷ []) ∙ ap (λ m. m + 1) (length-set calls call.0 None)
calls-length calls Crash call = length-append calls (None ∷ [])

-- no register is past the next one
pub end-known : (o : Option RegId) → end_of o ≤ number_in o + 1
end-known None = omega arith
end-known (Some r) = omega arith

-- ---- the numbers of the entries after an append

pub numbers-push : (es : List Event) (e : Event) (numbers : List (Option ℕ)) (m : Option ℕ)
    (number new_number : ℕ × Val → Option ℕ) → length numbers ≡ length es
    → ((i : ℕ) (f : Event) → slice_get es i ≡ Some f
    → slice_get numbers i ≡ Some (option_and_then number (by_value f)))
    → ((k : ℕ × Val) → number k ≡ None → (i : ℕ) → key_at by_value es i ≡ Some k → ⊥)
    → ((k : ℕ × Val) (j : ℕ) → number k ≡ Some j → new_number k ≡ Some j)
    → m ≡ option_and_then new_number (by_value e)
    → (i : ℕ) (f : Event) → slice_get (es ++ e ∷ []) i ≡ Some f
    → slice_get (numbers ++ m ∷ []) i ≡ Some (option_and_then new_number (by_value f))
numbers-push es e numbers m number new_number column old none kept new i f h = elim (cases_eq i (length es)) [
  | inl q ↦
      let w = sym (slice_get-push es e) ∙ (ap (slice_get (es ++ e ∷ [])) (sym q) ∙ h) in
      let same : e ≡ f = cc (w) in
      let at : i ≡ length numbers = omega (arith, q, column) in
      ap (slice_get (numbers ++ m ∷ [])) at
      ∙ (slice_get-push numbers m
      ∙ ap Some (new ∙ ap (λ (g : Event). option_and_then new_number (by_value g)) same))
  | inr ne ↦
      let was = sym (slice_get-push_other es e i ne) ∙ h in
      slice_get-push_other numbers m i (λ q. ne (omega (arith, q, column)))
      ∙ (old i f was ∙ ap Some (by_key (by_value f) refl was))
]
  where
    by_number : (k : ℕ × Val) → by_value f ≡ Some k → slice_get es i ≡ Some f → (o : Option ℕ) → number k ≡ o
        → number k ≡ new_number k
    by_number k q was None z = absurd (none k z i (ap (option_and_then by_value) was ∙ q))
    by_number k q was (Some j) z = z ∙ sym (kept k j z)

    by_key : (o : Option (ℕ × Val)) → by_value f ≡ o → slice_get es i ≡ Some f
        → option_and_then number o ≡ option_and_then new_number o
    by_key None q was = refl
    by_key (Some k) q was = by_number k q was (number k) refl
