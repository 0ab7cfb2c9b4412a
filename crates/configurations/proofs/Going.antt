-- All events, one after the other.
use Rattle.std.proofs.Common.{◌≡◌, ℕ, zero, suc, ◌+◌, ◌<◌, ◌++◌, Bool, false, List, []}
use Rattle.std.proofs.Common.{◌∷◌, length, take, slice_get, get_or, Some, inl, inr, sym}
use Rattle.std.proofs.Common.{ap, subst, ◌∙◌, add-one, append_assoc, append-nil}
use Rattle.std.proofs.lemmas.Bool.{false≢true}
use Rattle.std.proofs.Math.Seq.{take-suc}
use Rattle.history_model.specs.Lists.{In}
use Rattle.slot_sets.specs.Sets.{has}
use Rattle.configurations.specs.declared.op.Op.{Op}
use Rattle.configurations.specs.declared.moment.Moment.{Moment}
use Rattle.configurations.specs.declared.moment.Moment.TheVariants.{Call, Reply}
use Rattle.configurations.specs.declared.table.Table.{Table}
use Rattle.configurations.specs.declared.config.Configs.{Configs}
use Rattle.configurations.specs.Runs.{AliveFree, AreInOrder, without}
use Rattle.configurations.specs.Tables.{IsToCome}
use Rattle.configurations.specs.Configs.{AreHeld, IsAnyAble, IsFirst, IsHeld, IsStep, free_of, owed_by}
use Rattle.configurations.proofs.Members.{slot_of_member}
use Rattle.configurations.proofs.AsFree.{as_free}

-- a beginning is in order, too
pub in_order-take : (ops : List Op) (opened : List ℕ) (n : ℕ) (es : List Moment) → AreInOrder ops opened es
    → AreInOrder ops opened (take n es)
in_order-take ops opened zero es o = tt
in_order-take ops opened (suc n) [] o = tt
in_order-take ops opened (suc n) (Call k ∷ es) o = (
  λ h. o.0 (In-take n es h),
  in_order-take ops (k ∷ opened) n es o.1,
)
  where
    In-take : (n : ℕ) (es : List Moment) → In (Call k) (take n es) → In (Call k) es
    In-take zero es h = absurd h
    In-take (suc n) [] h = absurd h
    In-take (suc n) (e ∷ es) (inl y) = inl y
    In-take (suc n) (e ∷ es) (inr y) = inr (In-take n es y)
in_order-take ops opened (suc n) (Reply k ∷ es) o = (o.0, in_order-take ops (without k opened) n es o.1)

module _ {W : ℕ} where
  -- what the first n events and more leave to explain, one of `now` can
  abbrev pub Covers : List Op → List Moment → ℕ → Table W → Configs W → Type 0
  Covers ops events n t now =
      (es : List Moment) → AreInOrder ops [] (take n events ++ es)
      → IsToCome t es × (AliveFree ops 0 [] [] (take n events ++ es) → IsAnyAble t now es)

  pub first_covers : (ops : List Op) (events : List Moment) (t : Table W) (now : Configs W)
      → t.ops.items ≡ ops → ((q : ℕ) → has t.used q ≡ false) → IsFirst now → Covers ops events 0 t now
  first_covers ops events t now is none f es o = (
    record {
      opened = [];
      there = λ q b. absurd (false≢true (sym (none q) ∙ b));
      uncalled = λ q b. absurd (false≢true (sym (none q) ∙ b));
      ordered = subst (λ x. AreInOrder x [] es) (sym is) o;
    },
    λ l. (
      0,
      f.config,
      ap (λ x. slice_get x 0) f.only,
      as_free t.ops.items es 0 f.config.value [] [] (owed_by t f.config) (free_of t f.config) (sym f.value)
          (record {
            owes = λ j h.
                let r = slot_of_member t.calls.items f.config.owed j h in
                absurd (false≢true (sym (f.nothing_owed r.0) ∙ r.2));
            keeps = λ j h. absurd h;
            has = λ j h. absurd h;
          }) (subst (λ x. AliveFree x 0 [] [] es) (sym is) l),
    ),
  )

  pub more_covers : (ops : List Op) (events : List Moment) (n : ℕ) (d : Moment) (t u : Table W)
      (before after : Configs W) → n < length events → IsStep t before (get_or events n d) u after
      → Covers ops events n t before → Covers ops events (n + 1) u after
  more_covers ops events n d t u before after lt s c es o =
      let e = get_or events n d in
      let split : take (n + 1) events ++ es ≡ take n events ++ (e ∷ es) =
      ap (λ n. take n events ++ es) (add-one n)
      ∙ (ap (λ xs. xs ++ es) (take-suc events n d lt) ∙ append_assoc (take n events) (e ∷ []) es) in
      let r = c (e ∷ es) (subst (AreInOrder ops []) split o) in
      let x = s es r.0 in (x.0, λ l. x.1 (r.1 (subst (AliveFree ops 0 [] []) split l)))

  -- none is left, so the events up to there can't be explained
  pub none_left : (ops : List Op) (events : List Moment) (n : ℕ) (t : Table W) (now : Configs W)
      → now.list.items ≡ [] → Covers ops events (n + 1) t now → AreInOrder ops [] events
      → AliveFree ops 0 [] [] (take (suc n) events) → ⊥
  none_left ops events n t now none c o l =
      let same : take (suc n) events ≡ take (n + 1) events ++ [] =
      ap (λ n. take n events) (sym (add-one n)) ∙ sym (append-nil (take (n + 1) events)) in
      let r = c [] (subst (AreInOrder ops []) same (in_order-take ops [] (suc n) events o)) in
      let a = r.1 (subst (AliveFree ops 0 [] []) same l) in
      let here : slice_get [] a.0 ≡ Some a.1 = subst (λ x. slice_get x a.0 ≡ Some a.1) none a.2 in
      absurd (cc)

  -- the first configuration has no slots
  pub first_held : {used : ℕ → Bool} (now : Configs W) → IsFirst now → AreHeld used now
  first_held {used = used} now f at c e = only at (sym (ap (λ x. slice_get x at) f.only) ∙ e)
    where
      only : (at : ℕ) → slice_get (f.config ∷ []) at ≡ Some c → IsHeld used c
      only zero e =
          let same : f.config ≡ c = cc in
          subst (IsHeld used) same (
            λ q b. absurd (false≢true (sym (f.nothing_owed q) ∙ b)),
            λ q b. absurd (false≢true (sym (f.nothing_free q) ∙ b)),
          )
      only (suc at) e = absurd (cc)
