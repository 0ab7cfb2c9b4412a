-- Who called the writes among some operations, in one pass over them.
use Rattle.std.proofs.Common.{◌≡◌, ℕ, ◌==◌, cond, Bool, true, false, List, [], ◌∷◌, unwrap_or}
use Rattle.std.proofs.Common.{Some, ◌⊎◌, inl, inr, refl, sym, ap, subst, ◌∙◌}
use Rattle.std.proofs.lemmas.Bool.{eqb-true, eq-eqb, false≢true}
use Rattle.history_model.specs.Lists.{In}
use Rattle.history_model.specs.Lamport.{HasSingleWriter}
use Rattle.history_model.specs.Operations.{IsWrite, is_write}
use Rattle.history_model.specs.declared.operation.Operation.{Operation}
use Rattle.reg_lamport.specs.Counts.{with_write}
use Rattle.reg_lamport.specs.declared.counts.Writer.{Writer}
use Rattle.reg_lamport.specs.declared.counts.Writer.TheVariants.{Nobody, One, Several}

-- who called an operation; of an initial write, which nobody called, nothing is asked
abbrev pub caller : Operation → ℕ
caller o = unwrap_or o.process 0

-- who called the writes, with those of some operations more
abbrev pub writer_after : Writer → List Operation → Writer
writer_after w [] = w
writer_after w (o ∷ os) = writer_after (cond (is_write o) (with_write w (caller o)) w) os

-- process p called each write
abbrev pub AllBy : ℕ → List Operation → Type 0
AllBy p ops = (o : Operation) → In o ops → IsWrite o → caller o ≡ p

-- another process called some write
abbrev pub IsOtherBy : ℕ → List Operation → Type 0
IsOtherBy p ops = (o : Operation) × In o ops × IsWrite o × (caller o ≡ p → ⊥)

-- two processes called writes
pub record AreTwoBy (ops : List Operation) : Type 0 where
  pub one : Operation
  pub other : Operation
  pub one_in : In one ops
  pub other_in : In other ops
  pub one_write : IsWrite one
  pub other_write : IsWrite other
  pub differ : caller one ≡ caller other → ⊥

-- no operation writes
abbrev pub NoneWrites : List Operation → Type 0
NoneWrites ops = (o : Operation) → In o ops → IsWrite o → ⊥

-- ---- once there are several

pub several-stay : (os : List Operation) → writer_after Several os ≡ Several
several-stay [] = refl
several-stay (o ∷ os) = go (is_write o) (several-stay os)
  where
    go : (b : Bool) → writer_after Several os ≡ Several
        → writer_after (cond b (with_write Several (caller o)) Several) os ≡ Several
    go true rest = rest
    go false rest = rest

-- ---- once there is one

all-more : (p : ℕ) (o : Operation) (os : List Operation) → (IsWrite o → caller o ≡ p) → AllBy p os
    → AllBy p (o ∷ os)
all-more p o os here rest x (inl e) w = ap caller e ∙ here (ap is_write (sym e) ∙ w)
all-more p o os here rest x (inr i) w = rest x i w

-- what a pass by process p comes to: it called each write, or another called one
abbrev pub ComesTo : ℕ → List Operation → Writer → Type 0
ComesTo p ops w = ((w ≡ One p) × AllBy p ops) ⊎ ((w ≡ Several) × IsOtherBy p ops)

pub one-goes : (p : ℕ) (os : List Operation) → ComesTo p os (writer_after (One p) os)
one-goes p [] = inl (refl, λ o i w. elim i [ ])
one-goes p (o ∷ os) = go (is_write o) refl (one-goes p os)
  where
    later : ComesTo p os (writer_after (One p) os) → (IsWrite o → caller o ≡ p)
        → ComesTo p (o ∷ os) (writer_after (One p) os)
    later (inl x) here = inl (x.0, all-more p o os here x.1)
    later (inr x) here = inr (x.0, (x.1.0, inr x.1.1, x.1.2, x.1.3))

    by : (c : Bool) → (p == caller o) ≡ c → is_write o ≡ true → ComesTo p os (writer_after (One p) os)
        → ComesTo p (o ∷ os) (writer_after (cond c (One p) Several) os)
    by true q w rest = later rest (λ _. sym (eqb-true p (caller o) q))
    by false q w rest =
        inr (several-stay os, (o, inl refl, w, λ e. false≢true (sym q ∙ eq-eqb p (caller o) (sym e))))

    go : (b : Bool) → is_write o ≡ b → ComesTo p os (writer_after (One p) os)
        → ComesTo p (o ∷ os) (writer_after (cond b (with_write (One p) (caller o)) (One p)) os)
    go true q rest = by (p == caller o) refl q rest
    go false q rest = later rest (λ w. absurd (false≢true (sym q ∙ w)))

-- ---- from the first on

-- what is said of the writers of some operations
abbrev pub IsWriterOf : Writer → List Operation → Type 0
IsWriterOf Nobody ops = NoneWrites ops
IsWriterOf (One p) ops = AllBy p ops
IsWriterOf Several ops = AreTwoBy ops

pub writer-is : (os : List Operation) → IsWriterOf (writer_after Nobody os) os
writer-is [] = λ o i w. elim i [ ]
writer-is (o ∷ os) = go (is_write o) refl (writer-is os)
  where
    skip : is_write o ≡ false → (w : Writer) → IsWriterOf w os → IsWriterOf w (o ∷ os)
    skip q Nobody rest = λ x i u. elim i [
      | inl e ↦ false≢true (sym q ∙ (ap is_write (sym e) ∙ u))
      | inr k ↦ rest x k u
    ]
    skip q (One p) rest = all-more p o os (λ u. absurd (false≢true (sym q ∙ u))) rest
    skip q Several rest = record {
      one = rest.one;
      other = rest.other;
      one_in = inr rest.one_in;
      other_in = inr rest.other_in;
      one_write = rest.one_write;
      other_write = rest.other_write;
      differ = rest.differ;
    }

    first : is_write o ≡ true → ComesTo (caller o) os (writer_after (One (caller o)) os)
        → IsWriterOf (writer_after (One (caller o)) os) (o ∷ os)
    first q (inl x) =
        subst (λ w. IsWriterOf w (o ∷ os)) (sym x.0) (all-more (caller o) o os (λ _. refl) x.1)
    first q (inr x) = subst (λ w. IsWriterOf w (o ∷ os)) (sym x.0) (record {
      one = x.1.0;
      other = o;
      one_in = inr x.1.1;
      other_in = inl refl;
      one_write = x.1.2;
      other_write = q;
      differ = x.1.3;
    })

    go : (b : Bool) → is_write o ≡ b → IsWriterOf (writer_after Nobody os) os
        → IsWriterOf (writer_after (cond b (with_write Nobody (caller o)) Nobody) os) (o ∷ os)
    go true q rest = first q (one-goes (caller o) os)
    go false q rest = skip q (writer_after Nobody os) rest

-- ---- so it is known whether there is a single one

module _ (ops : List Operation) (called : (o : Operation) → In o ops → (p : ℕ) × (o.process ≡ Some p)) where
  caller-known : (o : Operation) (p : ℕ) → o.process ≡ Some p → caller o ≡ p
  caller-known o p e = ap (λ x. unwrap_or x 0) e

  pub none-single : NoneWrites ops → HasSingleWriter ops
  none-single none v w p q i j u x a b = absurd (none v i u)

  pub all-single : (k : ℕ) → AllBy k ops → HasSingleWriter ops
  all-single k all v w p q i j u x a b =
      sym (caller-known v p a) ∙ (all v i u ∙ (sym (all w j x) ∙ caller-known w q b))

  pub two-several : AreTwoBy ops → HasSingleWriter ops → ⊥
  two-several two single =
      let a = called two.one two.one_in in
      let b = called two.other two.other_in in
      two.differ (caller-known two.one a.0 a.1
      ∙ (single two.one two.other a.0 b.0 two.one_in two.other_in two.one_write two.other_write a.1 b.1
      ∙ sym (caller-known two.other b.0 b.1)))
