-- Of reads and writes, to meet a value that suits them is to give the value of the nearest write.
use Rattle.std.proofs.Common.{◌≡◌, true, false, Some, None, List, refl, sym, subst, ap, ◌∙◌, ◌↔◌}
use Rattle.std.specs.Prelude.{IsSomeAnd}
use Rattle.std.proofs.lemmas.Bool.{false≢true}
use Rattle.history_model.specs.Lists.{In}
use Rattle.history_model.specs.Acts.{Suits, asks, changes, given_by, is_plain, value_of_act}
use Rattle.history_model.specs.Operations.{IsAsking, IsCompletedRead, IsHistory, is_write}
use Rattle.history_model.specs.declared.operation.Operation.{Operation}
use Rattle.history_model.specs.Legal.{HasLatest, IsCompletion, IsLegal, IsMet}
use Rattle.history_model.specs.declared.act.Act.{Act}
use Rattle.history_model.specs.declared.act.Act.TheVariants.{Read, Write, Cas, CasUnless, Miss}
use Rattle.history_model.proofs.Lists.{Before-first}
use Rattle.history_model.proofs.Values.{value-true, value-refl}

suited-same : (w r : Act) → is_plain w ≡ true → is_plain r ≡ true → changes w ≡ true → changes r ≡ false
    → asks r ≡ true → IsSomeAnd (given_by w) (Suits r) → value_of_act w ≡ value_of_act r
suited-same (Read u) r p q c d a s = absurd (false≢true c)
suited-same (Cas from to) r p q c d a s = absurd (false≢true p)
suited-same (CasUnless unless to) r p q c d a s = absurd (false≢true p)
suited-same (Miss from) r p q c d a s = absurd (false≢true p)
suited-same (Write u) (Read None) p q c d a s = absurd (false≢true a)
suited-same (Write u) (Read (Some v)) p q c d a s = ap Some (value-true u v s)
suited-same (Write u) (Write v) p q c d a s = absurd (false≢true (sym d))
suited-same (Write u) (Cas from to) p q c d a s = absurd (false≢true q)
suited-same (Write u) (CasUnless unless to) p q c d a s = absurd (false≢true q)
suited-same (Write u) (Miss from) p q c d a s = absurd (false≢true q)

same-suited : (w r : Act) → is_plain w ≡ true → is_plain r ≡ true → changes w ≡ true → changes r ≡ false
    → asks r ≡ true → value_of_act w ≡ value_of_act r → IsSomeAnd (given_by w) (Suits r)
same-suited (Read u) r p q c d a s = absurd (false≢true c)
same-suited (Cas from to) r p q c d a s = absurd (false≢true p)
same-suited (CasUnless unless to) r p q c d a s = absurd (false≢true p)
same-suited (Miss from) r p q c d a s = absurd (false≢true p)
same-suited (Write u) (Read None) p q c d a s = absurd (false≢true a)
same-suited (Write u) (Read (Some v)) p q c d a s =
    subst (λ o. Suits (Read o) u) s (value-refl u)
same-suited (Write u) (Write v) p q c d a s = absurd (false≢true (sym d))
same-suited (Write u) (Cas from to) p q c d a s = absurd (false≢true q)
same-suited (Write u) (CasUnless unless to) p q c d a s = absurd (false≢true q)
same-suited (Write u) (Miss from) p q c d a s = absurd (false≢true q)

-- of reads and writes only a read asks anything
asking-reads : (a : Act) → is_plain a ≡ true → asks a ≡ true → changes a ≡ false
asking-reads (Read v) p t = refl
asking-reads (Write v) p t = absurd (false≢true t)
asking-reads (Cas from to) p t = absurd (false≢true p)
asking-reads (CasUnless unless to) p t = absurd (false≢true p)
asking-reads (Miss from) p t = absurd (false≢true p)

module _ (ops order : List Operation) (plain : (a : Operation) → In a ops → is_plain a.act ≡ true)
    (reads : (a : Operation) → In a ops → is_write a ≡ false → asks a.act ≡ a.completed)
    (c : IsCompletion ops order) where
  pub latest-of : ((r : Operation) → In r order → IsAsking r → IsMet order r) → (r : Operation) → In r order
      → IsCompletedRead r → HasLatest order r
  latest-of met r i d =
      let j = c.only r i in
      let y = reads r j d.read ∙ d.completed in
      let m = met r i y in
      let w = plain m.0 (c.only m.0 (Before-first m.0 r order m.1.before)) in
      (m.0, m.1, suited-same (m.0).act r.act w (plain r j) m.1.write d.read y m.2)

  pub met-of : ((r : Operation) → In r order → IsCompletedRead r → HasLatest order r) → (r : Operation)
      → In r order → IsAsking r → IsMet order r
  met-of latest r i y =
      let j = c.only r i in
      let read = asking-reads r.act (plain r j) y in
      let m = latest r i (record { read = read; completed = sym (reads r j read) ∙ y }) in
      let w = plain m.0 (c.only m.0 (Before-first m.0 r order m.1.before)) in
      (m.0, m.1, same-suited (m.0).act r.act w (plain r j) m.1.write read y m.2)

module _ (ops order : List Operation) (y : IsHistory ops) where
  pub latest : IsLegal ops order → (r : Operation) → In r order → IsCompletedRead r → HasLatest order r
  latest l = latest-of ops order y.plain y.reads l.completion l.met

  pub latest-met : IsCompletion ops order
      → ((r : Operation) → In r order → IsCompletedRead r → HasLatest order r) → (r : Operation)
      → In r order → IsAsking r → IsMet order r
  latest-met c = met-of ops order y.plain y.reads c

  pub met-latest : IsCompletion ops order
      → (((r : Operation) → In r order → IsAsking r → IsMet order r)
      ↔ ((r : Operation) → In r order → IsCompletedRead r → HasLatest order r))
  met-latest c = (latest-of ops order y.plain y.reads c, met-of ops order y.plain y.reads c)
