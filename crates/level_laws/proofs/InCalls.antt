-- Where operations stand by call, each write followed by its reads as they stand is an expansion.
use Rattle.std.proofs.Common.{◌≡◌, ◌<◌, not, true, false, List, [], ◌∷◌}
use Rattle.std.proofs.Common.{inl, inr, refl, sym, ap, subst, ◌∙◌}
use Rattle.std.proofs.lemmas.Bool.{and_parts, and_from, cases_Bool, false≢true}
use Rattle.std.specs.List.{filter}
use Rattle.history_text.specs.Values.{same_value}
use Rattle.history_model.specs.Lamport.{is_completed_read}
use Rattle.history_model.specs.Lists.{In, Before}
use Rattle.history_model.specs.Operations.{IsCompletedRead, IsHistory, IsWrite, is_write, value_of}
use Rattle.history_model.specs.declared.guarantee.Guarantee.{Guarantee}
use Rattle.history_model.specs.declared.operation.Operation.{Operation}
use Rattle.history_model.specs.Legal.{IsLegalFor}
use Rattle.reg_zones.specs.Clusters.{IsKept}
use Rattle.reg_zones.specs.Order.{IsListed}
use Rattle.history_model.proofs.Indexes.{append-Before}
use Rattle.history_model.proofs.Lists.{In-filter, filter-In, filter-Before, Before-first, Before-second}
use Rattle.history_model.proofs.Lists.{append-In, In-left, In-right}
use Rattle.reg_zones.proofs.Values.{same-true, eq-same}
use Rattle.level_laws.specs.Leads.{IsCleanFor}
use Rattle.level_laws.specs.WriteOrders.{ComesSooner, IsExpansion, IsWriteOrder, expanded, is_read_of}
use Rattle.level_laws.proofs.Expanded.{expansion-legal, write-of}

not-false : (a : Operation) → not (is_write a) ≡ true → is_write a ≡ false
not-false a t = elim (cases_Bool (is_write a)) [
  | inl w ↦ absurd (false≢true (sym (ap not w) ∙ t))
  | inr f ↦ f
]

-- what the test says
read-of : (w r : Operation) → is_read_of w r ≡ true → IsCompletedRead r × (value_of r ≡ value_of w)
read-of w r t =
    let p = and_parts (is_completed_read r) (same_value (value_of r) (value_of w)) t in
    let q = and_parts (not (is_write r)) r.completed p.0 in
    (record { read = not-false r q.0; completed = q.1 }, same-true (value_of r) (value_of w) p.1)

of-read : (w r : Operation) → IsCompletedRead r → value_of r ≡ value_of w → is_read_of w r ≡ true
of-read w r d e =
    and_from _ _ (and_from _ _ (ap not d.read) d.completed) (eq-same (value_of r) (value_of w) e)

module _ (ops : List Operation) (up : (a b : Operation) → Before a b ops → a.call < b.call) where
  abbrev block : Operation → List Operation
  block w = w ∷ filter (is_read_of w) ops

  block-value : (w a : Operation) → In a (block w) → value_of w ≡ value_of a
  block-value w a (inl e) = ap (λ (x : Operation). value_of x) (sym e)
  block-value w a (inr i) = sym (read-of w a (filter-In (is_read_of w) a ops i).1).1

  block-listed : (w a : Operation) → IsKept ops w → In a (block w) → IsListed ops a
  block-listed w a k (inl e) = inl (subst (IsKept ops) (sym e) k)
  block-listed w a k (inr i) =
      let f = filter-In (is_read_of w) a ops i in inr (f.0, (read-of w a f.1).0)

  -- each stands in the block of one of the writes
  of-block : (writes : List Operation) (a : Operation) → In a (expanded ops writes)
      → (w : Operation) × In w writes × In a (block w)
  of-block [] a i = absurd i
  of-block (w ∷ writes) a i = elim (append-In a (block w) (expanded ops writes) i) [
    | inl j ↦ (w, inl refl, j)
    | inr j ↦ let r = of-block writes a j in (r.0, inr r.1, r.2)
  ]

  in-block : (writes : List Operation) (w a : Operation) → In w writes → In a (block w)
      → In a (expanded ops writes)
  in-block [] w a i j = absurd i
  in-block (v ∷ writes) w a (inl e) j =
      In-left a (block v) (expanded ops writes) (subst (λ x. In a (block x)) e j)
  in-block (v ∷ writes) w a (inr i) j = In-right a (block v) (expanded ops writes) (in-block writes w a i j)

  within-block : (writes : List Operation) (w a b : Operation) → IsWrite w → Before a b (block w)
      → ComesSooner writes a b
  within-block writes w a b u (inl h) =
      let r = read-of w b (filter-In (is_read_of w) b ops h.1).1 in
      inr (ap (λ (x : Operation). value_of x) h.0 ∙ sym r.1, inl (subst IsWrite (sym h.0) u, r.0.read))
  within-block writes w a b u (inr h) =
      let p = read-of w a (filter-In (is_read_of w) a ops (Before-first a b _ h)).1 in
      let q = read-of w b (filter-In (is_read_of w) b ops (Before-second a b _ h)).1 in
      inr (p.1 ∙ sym q.1, inr (p.0.read ∙ sym q.0.read, up a b (filter-Before (is_read_of w) a b ops h)))

  later : (w : Operation) (writes : List Operation) (a b : Operation) → ComesSooner writes a b
      → ComesSooner (w ∷ writes) a b
  later w writes a b (inl s) = inl (s.0, s.1, inr s.2, s.3, s.4)
  later w writes a b (inr s) = inr s

  ascending : (writes : List Operation) → ((w : Operation) → In w writes → IsWrite w) → (a b : Operation)
      → Before a b (expanded ops writes) → ComesSooner writes a b
  ascending [] k a b h = absurd h
  ascending (w ∷ writes) k a b h = elim (append-Before a b (block w) (expanded ops writes) h) [
    | inl c ↦ within-block (w ∷ writes) w a b (k w (inl refl)) c
    | inr c ↦ elim c [
      | inl d ↦
          let o = of-block writes b d.1 in
          inl (w, o.0, inl (refl, o.1), block-value w a d.0, block-value o.0 b o.2)
      | inr d ↦ later w writes a b (ascending writes (λ v i. k v (inr i)) a b d)
    ]
  ]

  module _ (g : Guarantee) (y : IsHistory ops) (ok : IsCleanFor g ops) (writes : List Operation)
      (o : IsWriteOrder g ops writes) where
    expansion : IsExpansion ops writes (expanded ops writes)
    expansion = record {
      listed = λ a i.
          let b = of-block writes a i in block-listed b.0 a (o.only b.0 b.1) b.2;
      all = λ a l. elim l [
        | inl k ↦ in-block writes a a (o.all a k) (inl refl)
        | inr r ↦
            let w = write-of g ops y ok a (inr r) in
            in-block writes w.0 a (o.all w.0 w.1)
            (inr (In-filter (is_read_of w.0) a ops r.0 (of-read w.0 a r.1 (sym w.2))))
      ];
      ascending = ascending writes (λ w i. (o.only w i).write);
    }

    pub expanded-legal : IsLegalFor g ops (expanded ops writes)
    expanded-legal = expansion-legal g ops y ok writes o (expanded ops writes) expansion
