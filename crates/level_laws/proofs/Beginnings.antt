-- What is known at a time of operations that keep a guarantee keeps it too.
use Rattle.std.proofs.Common.{◌≡◌, ℕ, suc, ◌≤◌, ◌&&◌, ◌||◌, nat_le, cond, Bool, true, false, List, map}
use Rattle.std.proofs.Common.{inl, inr, refl, sym, ap, subst, ◌∙◌, arith}
use Rattle.std.proofs.lemmas.Bool.{and_parts, and_from, or_cases, or_left, or_right, false≢true, cases_Bool}
use Rattle.std.proofs.lemmas.Bool.{cases_lt, leb-true, le-leb}
use Rattle.std.specs.List.{filter}
use Rattle.history_model.specs.Acts.{asks, is_plain, changes}
use Rattle.history_model.specs.Cut.{is_over, known_at, is_called_by, cut_at}
use Rattle.history_model.specs.Lists.{In}
use Rattle.history_model.specs.Legal.{HasOrderFor, IsLegalFor, IsMet, IsNearestWrite, MustKeep}
use Rattle.history_model.specs.Operations.{IsAsking, IsCompleted, IsHistory, is_write, value_of}
use Rattle.history_model.specs.declared.act.Act.{Act}
use Rattle.history_model.specs.declared.act.Act.TheVariants.{Read, Write}
use Rattle.history_model.specs.declared.guarantee.Guarantee.{Guarantee}
use Rattle.history_model.specs.declared.operation.Operation.{Operation}
use Rattle.history_model.proofs.Latest.{latest-of}
use Rattle.history_model.proofs.Lists.{In-map, map-In, In-filter, filter-In, filter-Before, Before-filter}
use Rattle.history_model.proofs.Lists.{map-Before, Before-first, Before-second, Before-total}
use Rattle.reg_zones.specs.Faults.{IsEarly}
use Rattle.level_laws.proofs.Keeping.{must-longer, must-precedes}
use Rattle.level_laws.proofs.Moved.{IsMove, move-met, move-once}

-- of reads and writes only reads ask
asking-read : (a : Act) → is_plain a ≡ true → asks a ≡ true → changes a ≡ false
asking-read (Read v) p t = refl
asking-read (Write v) p t = absurd (false≢true t)
asking-read _ p t = absurd (false≢true p)

-- the nearest write is one
one-nearest : (order : List Operation) (v w r : Operation) → IsNearestWrite order v r
    → IsNearestWrite order w r → v ≡ w
one-nearest order v w r m n =
    elim (Before-total v w order (Before-first v r order m.before) (Before-first w r order n.before)) [
      | inl e ↦ e
      | inr s ↦ elim s [
        | inl b ↦ absurd (m.nearest w n.write n.register b n.before)
        | inr b ↦ absurd (n.nearest v m.write m.register b m.before)
      ]
    ]

module _ (t : ℕ) (g : Guarantee) (ops : List Operation) (y : IsHistory ops)
    (in_time : (r w : Operation) → IsEarly ops r w → ⊥) (order : List Operation)
    (l : IsLegalFor g ops order) where
  -- what has ended by then, and each write that was called by then
  abbrev stays : Operation → Bool
  stays a = is_over t a || (is_write a && is_called_by t a)

  abbrev kept : List Operation
  kept = filter stays order

  own : (a : Operation) → In a order → In a ops
  own a i = l.completion.only a i

  over : (a : Operation) → is_over t a ≡ true → IsCompleted a × (a.reply ≤ t)
  over a o = let b = and_parts a.completed (nat_le a.reply t) o in (b.0, leb-true a.reply t b.1)

  called : (a : Operation) → In a order → stays a ≡ true → a.call ≤ t
  called a i s = elim (or_cases (is_over t a) (is_write a && is_called_by t a) s) [
    | inl o ↦ let r = (over a o).1 in let life = y.life a (own a i) in omega arith
    | inr w ↦ leb-true a.call t (and_parts (is_write a) (is_called_by t a) w).1
  ]

  there : (a : Operation) → In a kept → In a order × (stays a ≡ true)
  there a i = filter-In stays a order i

  move : IsMove (known_at t) kept
  move = record {
    act = λ a i. refl;
    register = λ a i. refl;
    one = λ a b i j e.
        y.calls a b (own a (there a i).0) (own b (there b j).0) (ap (λ (o : Operation). o.call) e);
  }

  -- the nearest write before a read that has ended was called by then, or the read would be early
  met-in : (a : Operation) → In a kept → IsAsking a → IsMet kept a
  met-in a i q =
      let p = there a i in
      let j = own a p.0 in
      let read = asking-read a.act (y.plain a j) q in
      let o : is_over t a ≡ true = elim (or_cases (is_over t a) (is_write a && is_called_by t a) p.1) [
        | inl o ↦ o
        | inr w ↦ absurd (false≢true (sym read ∙ (and_parts (is_write a) (is_called_by t a) w).0))
      ] in
      let m = l.met a p.0 q in
      let n = latest-of ops order y.plain y.reads l.completion l.met a p.0
      (record { read = read; completed = (over a o).0 }) in
      let e = one-nearest order n.0 m.0 a n.1 m.1 in
      let w = m.0 in
      let iw = Before-first w a order m.1.before in
      let ended = (over a o).1 in
      let stay : stays w ≡ true = elim (cases_lt t w.call) [
        | inl late ↦ absurd (in_time a w (record {
          within = j;
          write_within = own w iw;
          write = m.1.write;
          read = record {
            read = read;
            completed = (over a o).0;
            value = sym (subst (λ (x : Operation). value_of x ≡ value_of a) e n.2);
          };
          early = omega (arith, late, ended);
        }))
        | inr le ↦ or_right (is_over t w) (is_write w && is_called_by t w)
            (and_from _ _ m.1.write (le-leb w.call t le))
      ] in (
        w,
        record {
          write = m.1.write;
          register = m.1.register;
          before = Before-filter stays w a order m.1.before stay p.1;
          nearest = λ v c r h k.
              m.1.nearest v c r (filter-Before stays w v order h) (filter-Before stays v a order k);
        },
        m.2,
      )

  -- what must be kept of the known operations must be kept of the whole ones
  known-must : (a b : Operation) → In a order → In b order → b.call ≤ t
      → MustKeep g (known_at t a) (known_at t b) → MustKeep g a b
  known-must a b i j le m =
      let p = must-precedes g (known_at t a) (known_at t b) m in
      elim (cases_Bool (is_over t a)) [
        | inl o ↦ must-longer a b (known_at t a) (known_at t b) refl refl refl refl
            (omega (arith, ap (λ c. cond c a.reply (suc t)) o)) (omega arith) (y.life a (own a i)) g m
        | inr n ↦ absurd (omega (arith, p, le, ap (λ c. cond c a.reply (suc t)) n))
      ]

  pub known-keeps : HasOrderFor g (cut_at t ops)
  known-keeps = (
    map (known_at t) kept,
    record {
      completion = record {
        once = move-once (known_at t) kept move
            (λ a h. l.completion.once a (filter-Before stays a a order h));
        only = λ a i.
            let k = map-In (known_at t) a kept i in
            let p = there k.0 k.1 in
            subst (λ z. In z (cut_at t ops)) (sym k.2)
            (In-map (known_at t) k.0 (filter (is_called_by t) ops)
            (In-filter (is_called_by t) k.0 ops (own k.0 p.0) (le-leb (k.0).call t (called k.0 p.0 p.1))));
        all = λ a i d.
            let k = map-In (known_at t) a (filter (is_called_by t) ops) i in
            let f = filter-In (is_called_by t) k.0 ops k.1 in
            let o : is_over t k.0 ≡ true = subst (λ (z : Operation). IsCompleted z) k.2 d in
            subst (λ z. In z (map (known_at t) kept)) (sym k.2)
            (In-map (known_at t) k.0 kept
            (In-filter stays k.0 order (l.completion.all k.0 f.0 (over k.0 o).0)
            (or_left (is_over t k.0) (is_write k.0 && is_called_by t k.0) o)));
      };
      keeps = λ a b s m.
          let k = map-Before (known_at t) a b kept s in
          let p = there k.0 (Before-first k.0 k.1 kept k.2) in
          let q = there k.1 (Before-second k.0 k.1 kept k.2) in
          l.keeps k.0 k.1 (filter-Before stays k.0 k.1 order k.2)
          (known-must k.1 k.0 q.0 p.0 (called k.0 p.0 p.1)
          (subst (λ z. MustKeep g z (known_at t k.0)) k.4 (subst (MustKeep g b) k.3 m)));
      met = λ a i q.
          let k = map-In (known_at t) a kept i in
          subst (IsMet (map (known_at t) kept)) (sym k.2)
          (move-met (known_at t) kept move k.0 k.1
          (met-in k.0 k.1 (subst (λ (z : Operation). IsAsking z) k.2 q)));
    },
  )
