-- What operations can explain, eased ones can.
use Rattle.std.proofs.Common.{◌≡◌, ℕ, zero, suc, ◌<◌, Bool, true, false, cond, nat_lt}
use Rattle.std.proofs.Common.{List, [], ◌∷◌, map, inl, inr, refl, sym, ap, subst, ◌∙◌}
use Rattle.configurations.specs.declared.op.Op.{Op}
use Rattle.configurations.specs.declared.op.Kind.{Kind}
use Rattle.configurations.specs.declared.op.Kind.TheVariants.{Read, Write, Cas, CasUnless, Miss}
use Rattle.configurations.specs.declared.op.TheConstants.{NEVER}
use Rattle.configurations.specs.declared.moment.Moment.{Moment}
use Rattle.configurations.specs.declared.moment.Moment.TheVariants.{Call, Reply}
use Rattle.configurations.specs.Eased.{ease, ease_kind, written}
use Rattle.configurations.specs.Ops.{fits, fits_at, kind_fits, kind_leaves, left_at, left_by, rank_at}
use Rattle.configurations.specs.Runs.{AliveFree, AreInOrder, over_free, called_free}
use Rattle.configurations.specs.Runs.{replied_free, uses, without}

-- ---- one operation

module _ (o : Op) (v : ℕ) where
  fits_kind : (k : Kind) → o.kind ≡ k → kind_fits k o.from v ≡ true → fits (ease_kind k o) v ≡ true
  fits_kind Read e f = ap (λ x. kind_fits x o.from v) e ∙ f
  fits_kind Write e f = ap (λ x. kind_fits x o.from v) e ∙ f
  fits_kind Cas e f = go (nat_lt o.rank NEVER)
    where
      go : (b : Bool) → fits (cond b o (written o)) v ≡ true
      go true = ap (λ x. kind_fits x o.from v) e ∙ f
      go false = refl
  fits_kind CasUnless e f = go (nat_lt o.rank NEVER)
    where
      go : (b : Bool) → fits (cond b o (written o)) v ≡ true
      go true = ap (λ x. kind_fits x o.from v) e ∙ f
      go false = refl
  fits_kind Miss e f = ap (λ x. kind_fits x o.from v) e ∙ f

  leaves_kind : (k : Kind) → o.kind ≡ k → left_by (ease_kind k o) v ≡ left_by o v
  leaves_kind Read e = refl
  leaves_kind Write e = refl
  leaves_kind Cas e = go (nat_lt o.rank NEVER)
    where
      go : (b : Bool) → left_by (cond b o (written o)) v ≡ left_by o v
      go true = refl
      go false = sym (ap (λ x. kind_leaves x o.to v) e)
  leaves_kind CasUnless e = go (nat_lt o.rank NEVER)
    where
      go : (b : Bool) → left_by (cond b o (written o)) v ≡ left_by o v
      go true = refl
      go false = sym (ap (λ x. kind_leaves x o.to v) e)
  leaves_kind Miss e = refl

rank_kind : (o : Op) (k : Kind) → (ease_kind k o).rank ≡ o.rank
rank_kind o Read = refl
rank_kind o Write = refl
rank_kind o Cas = go (nat_lt o.rank NEVER)
  where
    go : (b : Bool) → (cond b o (written o)).rank ≡ o.rank
    go true = refl
    go false = refl
rank_kind o CasUnless = go (nat_lt o.rank NEVER)
  where
    go : (b : Bool) → (cond b o (written o)).rank ≡ o.rank
    go true = refl
    go false = refl
rank_kind o Miss = refl

-- ---- all of them

fits-eased : (ops : List Op) (k v : ℕ) → fits_at ops k v ≡ true → fits_at (map ease ops) k v ≡ true
fits-eased [] k v f = f
fits-eased (o ∷ ops) zero v f = fits_kind o v o.kind refl f
fits-eased (o ∷ ops) (suc k) v f = fits-eased ops k v f

leaves-eased : (ops : List Op) (k v : ℕ) → left_at (map ease ops) k v ≡ left_at ops k v
leaves-eased [] k v = refl
leaves-eased (o ∷ ops) zero v = leaves_kind o v o.kind refl
leaves-eased (o ∷ ops) (suc k) v = leaves-eased ops k v

rank-eased : (ops : List Op) (k : ℕ) → rank_at (map ease ops) k ≡ rank_at ops k
rank-eased [] k = refl
rank-eased (o ∷ ops) zero = rank_kind o o.kind
rank-eased (o ∷ ops) (suc k) = rank-eased ops k

pub alive-eased : (ops : List Op) (es : List Moment) (v : ℕ) (p f : List ℕ) → AliveFree ops v p f es
    → AliveFree (map ease ops) v p f es
alive-eased ops [] v p f over_free = over_free
alive-eased ops (Call k ∷ es) v p f (called_free r) = called_free (alive-eased ops es v (k ∷ p) f r)
alive-eased ops (Reply k ∷ es) v p f (replied_free n r) =
    replied_free n (alive-eased ops es v p (without k f) r)
alive-eased ops (Reply k ∷ es) v p f (uses j i z r) =
    uses j i (fits-eased ops j v z)
    (subst (λ x. AliveFree (map ease ops) x (without j p) (without j f) (Reply k ∷ es))
    (sym (leaves-eased ops j v))
    (alive-eased ops (Reply k ∷ es) (left_at ops j v) (without j p) (without j f) r))

pub in_order-eased : (ops : List Op) (opened : List ℕ) (es : List Moment) → AreInOrder ops opened es
    → AreInOrder (map ease ops) opened es
in_order-eased ops opened [] o = tt
in_order-eased ops opened (Call k ∷ es) o = (o.0, in_order-eased ops (k ∷ opened) es o.1)
in_order-eased ops opened (Reply k ∷ es) o = (
  λ i h. elim (o.0 i h) [
    | inl e ↦ inl e
    | inr lt ↦
        inr (subst (λ x. x < rank_at (map ease ops) i) (sym (rank-eased ops k))
        (subst (λ x. rank_at ops k < x) (sym (rank-eased ops i)) lt))
  ],
  in_order-eased ops (without k opened) es o.1,
)
