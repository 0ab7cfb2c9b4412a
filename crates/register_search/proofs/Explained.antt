-- What has a legal order, by the numbers of the calls, can be explained.
use Rattle.std.proofs.Common.{ℕ, List, [], ◌∷◌, ◌⊎◌, inl, inr, refl, ap, subst}
use Rattle.history_text.specs.declared.event.Val.{Val}
use Rattle.history_text.specs.declared.event.Val.TheVariants.{Null}
use Rattle.history_model.specs.declared.operation.Operation.{Operation}
use Rattle.configurations.specs.declared.moment.Moment.{Moment}
use Rattle.configurations.specs.declared.moment.Moment.TheVariants.{Call, Reply}
use Rattle.history_model.specs.Lists.{In, Before}
use Rattle.register_search.specs.Taking.{left_at}
use Rattle.configurations.specs.Runs.{without}
use Rattle.configurations.proofs.Lists.{without-In, In-without, In-or}
use Rattle.register_search.specs.Runs.{Alive, over, called, replied, takes}
use Rattle.register_search.proofs.LegalOrder.{MeetsAt, IsNumbered}

-- Of a legal order the operations `todo` have not taken effect, and those of them that were called are in p.
record Stands (ops : List Operation) (es : List Moment) (todo : List ℕ) (s : Val) (p : List ℕ) : Type 0 where
  meets : MeetsAt ops s todo
  here : (a : ℕ) → In a todo → In a p ⊎ In (Call a) es
  owed : (a : ℕ) → In a p → In (Reply a) es → In a todo
  later : (a : ℕ) → In (Call a) es → In (Reply a) es → In a todo
  open_once : (a : ℕ) → In a p → In (Call a) es → ⊥
  once : (a : ℕ) → Before a a todo → ⊥
  keeps : (a b : ℕ) → Before a b todo → Before (Reply b) (Call a) es → ⊥
  calls : (a : ℕ) → Before (Call a) (Call a) es → ⊥
  replies : (a : ℕ) → Before (Reply a) (Call a) es → ⊥

module _ (ops : List Operation) where
  after_call : (k : ℕ) (es : List Moment) (todo : List ℕ) (s : Val) (p : List ℕ)
      → Stands ops (Call k ∷ es) todo s p → Stands ops es todo s (k ∷ p)
  after_call k es todo s p f = record {
    meets = f.meets;
    here =
        λ a i. elim (f.here a i) [
          | inl h ↦ inl (inr h)
          | inr h ↦ elim h [ inl e ↦ inl (inl (cc)) | inr c ↦ inr c ]
        ];
    owed = λ a i r. elim i [
      | inl e ↦ f.later a (inl (ap Call e)) (inr r)
      | inr h ↦ f.owed a h (inr r)
    ];
    later = λ a c r. f.later a (inr c) (inr r);
    open_once = λ a i c. elim i [
      | inl e ↦ f.calls k (inl (refl, subst (λ x. In (Call x) es) e c))
      | inr h ↦ f.open_once a h (inr c)
    ];
    once = f.once;
    keeps = λ a b h r. f.keeps a b h (inr r);
    calls = λ a h. f.calls a (inr h);
    replies = λ a h. f.replies a (inr h);
  }

  after_reply : (k : ℕ) (es : List Moment) (todo : List ℕ) (s : Val) (p : List ℕ)
      → Stands ops (Reply k ∷ es) todo s p → Stands ops es todo s p
  after_reply k es todo s p f = record {
    meets = f.meets;
    here =
        λ a i. elim (f.here a i) [ inl h ↦ inl h | inr h ↦ elim h [ inl e ↦ absurd (cc) | inr c ↦ inr c ] ];
    owed = λ a i r. f.owed a i (inr r);
    later = λ a c r. f.later a (inr c) (inr r);
    open_once = λ a i c. f.open_once a i (inr c);
    once = f.once;
    keeps = λ a b h r. f.keeps a b h (inr r);
    calls = λ a h. f.calls a (inr h);
    replies = λ a h. f.replies a (inr h);
  }

  -- the first of those that are left takes effect
  after_taking : (j : ℕ) (es : List Moment) (todo : List ℕ) (s : Val) (p : List ℕ) → In j p
      → Stands ops es (j ∷ todo) s p → Stands ops es todo (left_at ops j s) (without j p)
  after_taking j es todo s p i f = record {
    meets = f.meets.1;
    here = λ a h. elim (f.here a (inr h)) [
      | inl q ↦ inl (In-without j a p q (λ e. f.once j (inl (refl, subst (λ x. In x todo) e h))))
      | inr c ↦ inr c
    ];
    owed =
        λ a h r. let w = without-In j a p h in elim (f.owed a w.0 r) [ inl e ↦ absurd (w.1 e) | inr q ↦ q ];
    later =
        λ a c r. elim (f.later a c r) [
          | inl e ↦ absurd (f.open_once j i (subst (λ x. In (Call x) es) e c))
          | inr q ↦ q
        ];
    open_once = λ a h c. f.open_once a (without-In j a p h).0 c;
    once = λ a h. f.once a (inr h);
    keeps = λ a b h r. f.keeps a b (inr h) r;
    calls = f.calls;
    replies = f.replies;
  }

  -- up to a reply the operations of the order take effect, until the one that replies has
  taking : (k : ℕ) (es : List Moment)
      → ((todo : List ℕ) (s : Val) (p : List ℕ) → Stands ops es todo s p → Alive ops s p es)
      → (todo : List ℕ) (s : Val) (p : List ℕ) → Stands ops (Reply k ∷ es) todo s p
      → Alive ops s p (Reply k ∷ es)
  taking k es next [] s p f = replied (λ i. f.owed k i (inl refl)) (next [] s p (after_reply k es [] s p f))
  taking k es next (j ∷ todo) s p f = elim (In-or k p) [
    | inr n ↦ replied n (next (j ∷ todo) s p (after_reply k es (j ∷ todo) s p f))
    | inl i ↦
        let open_first : In j p = elim (f.here j (inl refl)) [
          | inl h ↦ h
          | inr c ↦ elim c [
            | inl e ↦ absurd (cc)
            | inr c ↦ elim (f.owed k i (inl refl)) [
              | inl e ↦ subst (λ x. In x p) e i
              | inr h ↦ absurd (f.keeps j k (inl (refl, h)) (inl (refl, c)))
            ]
          ]
        ] in
        takes j open_first f.meets.0
        (taking k es next todo (left_at ops j s) (without j p)
        (after_taking j (Reply k ∷ es) todo s p open_first f))
  ]

  explained : (es : List Moment) (todo : List ℕ) (s : Val) (p : List ℕ) → Stands ops es todo s p
      → Alive ops s p es
  explained [] todo s p f = over
  explained (Call k ∷ es) todo s p f = called (explained es todo s (k ∷ p) (after_call k es todo s p f))
  explained (Reply k ∷ es) todo s p f = taking k es (explained es) todo s p f

  -- a legal order explains all events
  pub legal_explained : (events : List Moment) (order : List ℕ) → IsNumbered ops events order
      → Alive ops Null [] events
  legal_explained events order l = explained events order Null [] (record {
    meets = l.meets;
    here = λ a i. inr (l.only a i);
    owed = λ a i _. absurd i;
    later = λ a _ r. l.all a r;
    open_once = λ a i _. i;
    once = l.once;
    keeps = l.keeps;
    calls = l.calls;
    replies = l.replies;
  })
