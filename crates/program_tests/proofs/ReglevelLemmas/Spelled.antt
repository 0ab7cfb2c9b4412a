-- Operations that a test spells out are those of a history, by computation.
use Rattle.std.proofs.Common.{◌≡◌, ℕ, ◌+◌, ◌<◌, ◌≤◌, ◌==◌, ◌&&◌, ◌||◌, Bool, true, false, not, List, [], ◌∷◌}
use Rattle.std.proofs.Common.{Option, Some, None, ◌⊎◌, inl, inr, refl, sym, ap, subst, ◌∙◌, arith}
use Rattle.std.proofs.Math.Dec.{ltb, leb}
use Rattle.std.proofs.lemmas.Bool.{and_parts, false≢true, leb-true, or_cases}
use Rattle.std.proofs.lemmas.Bool.Decides.{Decides-eqb, Decides-ltb}
use Rattle.history_text.specs.Values.{same_value}
use Rattle.history_model.specs.Acts.{asks, is_plain}
use Rattle.history_model.specs.Lists.{In, Before}
use Rattle.history_model.specs.Operations.{IsCompleted, IsHistory, IsWrite, Precedes, initial_write}
use Rattle.history_model.specs.Operations.{is_write}
use Rattle.history_model.specs.Operations.{value_of}
use Rattle.history_model.specs.declared.operation.Operation.{Operation}
use Rattle.history_model.proofs.Lists.{Before-total}
use Rattle.reg_zones.proofs.Values.{eq-same}
use Rattle.reg_levels.specs.Clusters.Places.{IsByCall}

-- ---- tests of all, and of all pairs

abbrev pub all_pass : (Operation → Bool) → List Operation → Bool
all_pass t [] = true
all_pass t (a ∷ rest) = t a && all_pass t rest

abbrev pub pairs_pass : (Operation → Operation → Bool) → List Operation → Bool
pairs_pass t [] = true
pairs_pass t (a ∷ rest) = all_pass (t a) rest && pairs_pass t rest

all-tells : (t : Operation → Bool) (ops : List Operation) → all_pass t ops ≡ true → (a : Operation)
    → In a ops
    → t a ≡ true
all-tells t [] h a i = absurd i
all-tells t (b ∷ bs) h a (inl e) = ap t e ∙ (and_parts (t b) (all_pass t bs) h).0
all-tells t (b ∷ bs) h a (inr i) = all-tells t bs (and_parts (t b) (all_pass t bs) h).1 a i

pairs-tell : (t : Operation → Operation → Bool) (ops : List Operation) → pairs_pass t ops ≡ true
    → (a b : Operation) → Before a b ops → t a b ≡ true
pairs-tell t [] h a b s = absurd s
pairs-tell t (c ∷ cs) h a b (inl s) =
    ap (λ x. t x b) s.0
    ∙ all-tells (t c) cs (and_parts (all_pass (t c) cs) (pairs_pass t cs) h).0 b s.1
pairs-tell t (c ∷ cs) h a b (inr s) =
    pairs-tell t cs (and_parts (all_pass (t c) cs) (pairs_pass t cs) h).1 a b s

-- ---- what a history asks of one operation, and of two of which the first stands before the second

abbrev pub bool_same : Bool → Bool → Bool
bool_same true b = b
bool_same false b = not b

abbrev pub is_sound : ℕ → Operation → Bool
is_sound r a = a.register == r && (ltb a.call a.reply && (is_plain a.act && (is_write a || bool_same (asks
    a.act) a.completed)))

abbrev pub is_called_by : Option ℕ → ℕ → Bool
is_called_by None call = false
is_called_by (Some p) call = leb 2 call

abbrev pub is_called : Operation → Bool
is_called a = is_called_by a.process a.call

abbrev pub is_earlier : Operation → Operation → Bool
is_earlier a b = ltb a.call b.call && (not (a.reply == b.reply) && not (a.reply == b.call))

abbrev pub is_open : Operation → Operation → Bool
is_open a b =
    (a.completed || (ltb b.call a.reply && (not b.completed || ltb b.reply a.reply)))
    && (b.completed || (not a.completed || ltb a.reply b.reply))

abbrev pub is_apart : Operation → Operation → Bool
is_apart a b = not (is_write a) || (not (is_write b) || not (same_value (value_of a) (value_of b)))

abbrev pub is_other : Option ℕ → Option ℕ → Bool
is_other None q = true
is_other (Some p) None = true
is_other (Some p) (Some q) = not (p == q)

abbrev pub is_in_turn : Operation → Operation → Bool
is_in_turn a b = is_other a.process b.process || ltb a.reply b.call

-- ---- the initial write of a register, and operations that pass the tests

record IsSpelled (r : ℕ) (called : List Operation) : Type 0 where
  sound : all_pass (is_sound r) called ≡ true
  calls : all_pass is_called called ≡ true
  earlier : pairs_pass is_earlier (initial_write r ∷ called) ≡ true
  left_open : pairs_pass is_open (initial_write r ∷ called) ≡ true
  values : pairs_pass is_apart (initial_write r ∷ called) ≡ true
  turns : pairs_pass is_in_turn (initial_write r ∷ called) ≡ true

-- computes to true of the operations of a history
abbrev pub is_spelled : ℕ → List Operation → Bool
is_spelled r called =
    all_pass (is_sound r) called && (all_pass is_called called
    && (pairs_pass is_earlier (initial_write r ∷ called) && (pairs_pass is_open (initial_write r ∷ called)
    && (pairs_pass is_apart (initial_write r ∷ called) && pairs_pass is_in_turn (initial_write r ∷ called)))))

spelled : (r : ℕ) (called : List Operation) → is_spelled r called ≡ true → IsSpelled r called
spelled r called h =
    let p = and_parts (all_pass (is_sound r) called) _ h in
    let q = and_parts (all_pass is_called called) _ p.1 in
    let s = and_parts (pairs_pass is_earlier (initial_write r ∷ called)) _ q.1 in
    let t = and_parts (pairs_pass is_open (initial_write r ∷ called)) _ s.1 in
    let u = and_parts (pairs_pass is_apart (initial_write r ∷ called)) _ t.1 in
    record { sound = p.0; calls = q.0; earlier = s.0; left_open = t.0; values = u.0; turns = u.1 }

refused : (b : Bool) → not b ≡ true → b ≡ true → ⊥
refused true n e = false≢true n
refused false n e = false≢true e

same-bool : (a b : Bool) → bool_same a b ≡ true → a ≡ b
same-bool true true h = refl
same-bool true false h = absurd (false≢true h)
same-bool false true h = absurd (false≢true h)
same-bool false false h = refl

other-process : (x y : Option ℕ) (p : ℕ) → is_other x y ≡ true → x ≡ Some p → y ≡ Some p → ⊥
other-process None y p h e f = cc e
other-process (Some q) None p h e f = cc f
other-process (Some q) (Some s) p h e f =
    let one : q ≡ p = cc e in
    let two : s ≡ p = cc f in
    refused (q == s) h ((Decides-eqb q s).1 (one ∙ sym two))

called-by : (x : Option ℕ) (call p : ℕ) → is_called_by x call ≡ true → x ≡ Some p → 2 ≤ call
called-by None call p h e = absurd (false≢true h)
called-by (Some q) call p h e = leb-true 2 call h

not-called : (x : Option ℕ) (call : ℕ) → is_called_by x call ≡ true → x ≡ None → ⊥
not-called None call h e = false≢true h
not-called (Some q) call h e = cc e

module _ (r : ℕ) (called : List Operation) (passes : is_spelled r called ≡ true) where
  h : IsSpelled r called
  h = spelled r called passes

  -- of one operation
  sound-one : (a : Operation) → In a called
      → (a.register ≡ r) × (a.call < a.reply) × (is_plain a.act ≡ true)
      × (is_write a ≡ false → asks a.act ≡ a.completed)
  sound-one a i =
      let t = all-tells (is_sound r) called h.sound a i in
      let p = and_parts (a.register == r) _ t in
      let q = and_parts (ltb a.call a.reply) _ p.1 in
      let s = and_parts (is_plain a.act) _ q.1 in (
        (Decides-eqb a.register r).0 p.0,
        (Decides-ltb a.call a.reply).0 q.0,
        s.0,
        λ f. elim (or_cases (is_write a) _ s.1) [
          | inl w ↦ absurd (false≢true (sym f ∙ w))
          | inr e ↦ same-bool (asks a.act) a.completed e
        ],
      )

  lives : (a : Operation) → In a (initial_write r ∷ called) → a.call < a.reply
  lives a (inl e) = subst (λ (x : Operation). x.call < x.reply) (sym e) (omega arith)
  lives a (inr i) = (sound-one a i).1

  -- of two
  earlier-two : (a b : Operation) → Before a b (initial_write r ∷ called)
      → (a.call < b.call) × (a.reply ≡ b.reply → ⊥) × (a.reply ≡ b.call → ⊥)
  earlier-two a b s =
      let t = pairs-tell is_earlier (initial_write r ∷ called) h.earlier a b s in
      let p = and_parts (ltb a.call b.call) _ t in
      let q = and_parts (not (a.reply == b.reply)) _ p.1 in (
        (Decides-ltb a.call b.call).0 p.0,
        λ e. refused (a.reply == b.reply) q.0 ((Decides-eqb a.reply b.reply).1 e),
        λ e. refused (a.reply == b.call) q.1 ((Decides-eqb a.reply b.call).1 e),
      )

  first-open : (a b : Operation) → Before a b (initial_write r ∷ called) → a.completed ≡ false
      → (b.call < a.reply) × (IsCompleted b → b.reply < a.reply)
  first-open a b s f =
      let t = pairs-tell is_open (initial_write r ∷ called) h.left_open a b s in
      elim (or_cases a.completed _ (and_parts (a.completed || (ltb b.call a.reply
      && (not b.completed || ltb b.reply a.reply))) _ t).0) [
        | inl d ↦ absurd (false≢true (sym f ∙ d))
        | inr o ↦
            let p = and_parts (ltb b.call a.reply) _ o in (
              (Decides-ltb b.call a.reply).0 p.0,
              λ d. elim (or_cases (not b.completed) _ p.1) [
                | inl n ↦ absurd (refused b.completed n d)
                | inr l ↦ (Decides-ltb b.reply a.reply).0 l
              ],
            )
      ]

  second-open : (a b : Operation) → Before a b (initial_write r ∷ called) → b.completed ≡ false
      → IsCompleted a → a.reply < b.reply
  second-open a b s f d =
      let t = pairs-tell is_open (initial_write r ∷ called) h.left_open a b s in
      elim (or_cases b.completed _ (and_parts (a.completed || (ltb b.call a.reply
      && (not b.completed || ltb b.reply a.reply))) _ t).1) [
        | inl e ↦ absurd (false≢true (sym f ∙ e))
        | inr o ↦ elim (or_cases (not a.completed) _ o) [
          | inl n ↦ absurd (refused a.completed n d)
          | inr l ↦ (Decides-ltb a.reply b.reply).0 l
        ]
      ]

  apart-two : (a b : Operation) → Before a b (initial_write r ∷ called) → IsWrite a → IsWrite b
      → value_of a ≡ value_of b → ⊥
  apart-two a b s v w e =
      let t = pairs-tell is_apart (initial_write r ∷ called) h.values a b s in
      elim (or_cases (not (is_write a)) _ t) [
        | inl n ↦ refused (is_write a) n v
        | inr o ↦ elim (or_cases (not (is_write b)) _ o) [
          | inl n ↦ refused (is_write b) n w
          | inr n ↦ refused (same_value (value_of a) (value_of b)) n (eq-same (value_of a) (value_of b) e)
        ]
      ]

  turn-two : (a b : Operation) (p : ℕ) → Before a b (initial_write r ∷ called) → a.process ≡ Some p
      → b.process ≡ Some p → Precedes a b
  turn-two a b p s e f =
      let t = pairs-tell is_in_turn (initial_write r ∷ called) h.turns a b s in
      elim (or_cases (is_other a.process b.process) _ t) [
        | inl n ↦ absurd (other-process a.process b.process p n e f)
        | inr l ↦ (Decides-ltb a.reply b.call).0 l
      ]

  register-one : (a : Operation) → In a (initial_write r ∷ called) → a.register ≡ r
  register-one a (inl e) = ap (λ (x : Operation). x.register) e
  register-one a (inr i) = (sound-one a i).0

  initial-one : (a : Operation) → In a (initial_write r ∷ called) → a.process ≡ None
      → a ≡ initial_write a.register
  initial-one a (inl e) n = e ∙ ap initial_write (sym (ap (λ (x : Operation). x.register) e))
  initial-one a (inr i) n = absurd (not-called a.process a.call (all-tells is_called called h.calls a i) n)

  called-one : (a : Operation) (p : ℕ) → In a (initial_write r ∷ called) → a.process ≡ Some p → 2 ≤ a.call
  called-one a p (inl e) f =
      let none : Some p ≡ None = sym f ∙ ap (λ (x : Operation). x.process) e in absurd (cc none)
  called-one a p (inr i) f = called-by a.process a.call p (all-tells is_called called h.calls a i) f

  plain-one : (a : Operation) → In a (initial_write r ∷ called) → is_plain a.act ≡ true
  plain-one a (inl e) = ap (λ (x : Operation). is_plain x.act) e
  plain-one a (inr i) = (sound-one a i).2

  reads-one : (a : Operation) → In a (initial_write r ∷ called) → is_write a ≡ false
      → asks a.act ≡ a.completed
  reads-one a (inl e) f = absurd (false≢true (sym f ∙ ap is_write e))
  reads-one a (inr i) f = (sound-one a i).3 f

  two : (a b : Operation) → In a (initial_write r ∷ called) → In b (initial_write r ∷ called)
      → (a ≡ b) ⊎ (Before a b (initial_write r ∷ called) ⊎ Before b a (initial_write r ∷ called))
  two a b i j = Before-total a b (initial_write r ∷ called) i j

  pub spelled-history : IsHistory (initial_write r ∷ called)
  spelled-history = record {
    one = λ a b i j. register-one a i ∙ sym (register-one b j);
    life = lives;
    calls = λ a b i j e. elim (two a b i j) [
      | inl s ↦ s
      | inr o ↦ elim o [
        | inl s ↦ let l = (earlier-two a b s).0 in absurd (omega arith)
        | inr s ↦ let l = (earlier-two b a s).0 in absurd (omega arith)
      ]
    ];
    replies = λ a b i j _ _ e. elim (two a b i j) [
      | inl s ↦ s
      | inr o ↦ elim o [
        | inl s ↦ absurd ((earlier-two a b s).1 e)
        | inr s ↦ absurd ((earlier-two b a s).1 (sym e))
      ]
    ];
    apart = λ a b i j e. elim (two a b i j) [
      | inl s ↦ let l = lives a i in let c = ap (λ (x : Operation). x.call) s in omega arith
      | inr o ↦ elim o [
        | inl s ↦ (earlier-two a b s).2 e
        | inr s ↦ let l = lives a i in let c = (earlier-two b a s).0 in omega arith
      ]
    ];
    pending = λ a b i j f. elim (two a b i j) [
      | inl s ↦ let l = lives a i in let c = ap (λ (x : Operation). x.call) s in omega arith
      | inr o ↦ elim o [
        | inl s ↦ (first-open a b s f).0
        | inr s ↦ let l = lives a i in let c = (earlier-two b a s).0 in omega arith
      ]
    ];
    horizon = λ a b i j f d. elim (two a b i j) [
      | inl s ↦ absurd (false≢true (sym f ∙ (ap (λ (x : Operation). x.completed) s ∙ d)))
      | inr o ↦ elim o [
        | inl s ↦ (first-open a b s f).1 d
        | inr s ↦ second-open b a s f d
      ]
    ];
    values = λ a b i j v w e. elim (two a b i j) [
      | inl s ↦ s
      | inr o ↦ elim o [
        | inl s ↦ absurd (apart-two a b s v w e)
        | inr s ↦ absurd (apart-two b a s w v (sym e))
      ]
    ];
    turns = λ a b p i j e f. elim (two a b i j) [
      | inl s ↦ inl s
      | inr o ↦ elim o [
        | inl s ↦ inr (inl (turn-two a b p s e f))
        | inr s ↦ inr (inr (turn-two b a p s f e))
      ]
    ];
    initial = initial-one;
    called = called-one;
    plain = plain-one;
    reads = reads-one;
  }

  pub spelled-by_call : IsByCall (initial_write r ∷ called)
  spelled-by_call a b s = (earlier-two a b s).0
