-- The lists of the reads of each cluster, and what they list.
use Rattle.std.proofs.Common.{◌≡◌, ℕ, zero, suc, ◌+◌, ◌<◌, ◌≤◌, ◌^◌, List, [], ◌∷◌, ◌++◌, length, set}
use Rattle.std.proofs.Common.{slice_get, drop, take, Option, Some, None}
use Rattle.std.proofs.Common.{Bool, true, false, cond, not, All, ◌⊎◌, inl, inr, refl, sym, ap, ◌∙◌, subst}
use Rattle.std.proofs.Common.{arith, append_assoc, append-nil, get_or}
use Rattle.std.specs.List.{cons_option, filter, filter_map}
use Rattle.std.proofs.lemmas.Bool.{and_from, and_parts, cases_Bool, cases_order, not-true}
use Rattle.std.proofs.lemmas.List.{length-set, take_more}
use Rattle.std.proofs.lemmas.List.Elements.{filter_map-append}
use Rattle.std.proofs.lemmas.Option.{slice_get_within}
use Rattle.history_text.specs.Values.{same_value}
use Rattle.history_model.specs.Lamport.{is_completed_read}
use Rattle.history_model.specs.Operations.{IsHistory, is_write, value_of}
use Rattle.history_model.specs.declared.operation.Operation.{Operation}
use Rattle.level_laws.specs.WriteOrders.{expanded, is_read_of}
use Rattle.reg_levels.proofs.OrderGraphLemmas.Places.{place-inside, place-same, place-set_cases}
use Rattle.reg_levels.proofs.ClusterLemmas.Places.{at-In, at-below}
use Rattle.reg_levels.specs.Clusters.Places.{IsAt, IsByCall}
use Rattle.reg_levels.specs.Clusters.Table.{IsClusterTable, IsEnds}
use Rattle.reg_levels.specs.declared.clusters.table.ClusterEnds.{ClusterEnds}
use Rattle.reg_zones.proofs.Values.{eq-same, same-true}
use Rattle.reg_levels.specs.Decisions.{operations_of_places, write_of_cluster, writes_of}
use Rattle.reg_levels.specs.LevelGraph.{IsClusterWrite}
use Rattle.reg_levels.specs.ReadLists.{AreReadLists, GoAhead, IsFirstRead, IsReadNumber}
use Rattle.reg_levels.proofs.Numbering.{member_number, same_cluster}

-- ---- the first read from a place on

drop_at : {X : Type 0} (xs : List X) (p : ℕ) (x : X) → slice_get xs p ≡ Some x → drop p xs ≡ x ∷ drop (suc
    p) xs
drop_at [] p x at = absurd (cc at)
drop_at (y ∷ xs) zero x at = ap (λ z. z ∷ xs) (cc at)
drop_at (y ∷ xs) (suc p) x at = drop_at xs p x at

filter_here : (ops : List Operation) (w a : Operation) (q : ℕ) → IsAt ops q a → is_read_of w a ≡ true
    → filter (is_read_of w) (drop q ops) ≡ a ∷ filter (is_read_of w) (drop (suc q) ops)
filter_here ops w a q at is =
    ap (filter (is_read_of w)) (drop_at ops q a at)
    ∙ ap (λ b. cond b (a ∷ filter (is_read_of w) (drop (suc q) ops)) (filter (is_read_of w) (drop (suc q)
    ops))) is

filter_past : (ops : List Operation) (w a : Operation) (q : ℕ) → IsAt ops q a → is_read_of w a ≡ false
    → filter (is_read_of w) (drop q ops) ≡ filter (is_read_of w) (drop (suc q) ops)
filter_past ops w a q at is =
    ap (filter (is_read_of w)) (drop_at ops q a at)
    ∙ ap (λ b. cond b (a ∷ filter (is_read_of w) (drop (suc q) ops)) (filter (is_read_of w) (drop (suc q)
    ops))) is

first_read_none : (ops : List Operation) (w : Operation) (q : ℕ) → q ≡ length ops → IsFirstRead ops w
    (length ops) q
first_read_none ops w q e = record {
  from = omega (arith, e);
  within = omega (arith, e);
  same = ap (λ n. filter (is_read_of w) (drop n ops)) (sym e);
  is = λ a at. absurd (omega (arith, e, at-below ops q a at));
}

first_read_this : (ops : List Operation) (w a : Operation) (p : ℕ) → IsAt ops p a → is_read_of w a ≡ true
    → IsFirstRead ops w p p
first_read_this ops w a p at is = record {
  from = omega arith;
  within = omega (arith, at-below ops p a at);
  same = refl;
  is = λ b there. subst (λ x. is_read_of w x ≡ true) (place-same ops p a b at there) is;
}

first_read_on : (ops : List Operation) (w a : Operation) (p q : ℕ) → IsAt ops p a → is_read_of w a ≡ false
    → IsFirstRead ops w (suc p) q → IsFirstRead ops w p q
first_read_on ops w a p q at is h = record {
  from = omega (arith, h.from);
  within = h.within;
  same = filter_past ops w a p at is ∙ h.same;
  is = h.is;
}

-- ---- which operations are reads of a cluster

-- what the test says
reads-value : (w r : Operation) → is_read_of w r ≡ true
    → (is_write r ≡ false) × (r.completed ≡ true) × (value_of r ≡ value_of w)
reads-value w r t =
    let p = and_parts (is_completed_read r) (same_value (value_of r) (value_of w)) t in
    let q = and_parts (not (is_write r)) r.completed p.0 in
    (not-true (is_write r) q.0, q.1, same-true (value_of r) (value_of w) p.1)

value-reads : (w r : Operation) → is_write r ≡ false → r.completed ≡ true → value_of r ≡ value_of w
    → is_read_of w r ≡ true
value-reads w r read done e =
    and_from _ _ (and_from _ _ (ap not read) done) (eq-same (value_of r) (value_of w) e)

ends-of : (ops : List Operation) (clusters : List ClusterEnds) (numbers : List (Option ℕ))
    → IsClusterTable ops clusters numbers → (x : ℕ) (v : Operation) → (i : IsClusterWrite ops clusters x v)
    → IsEnds ops v i.0
ends-of ops clusters numbers t x v i =
    let e = t.each x i.0 i.1 in
    subst (λ (z : Operation). IsEnds ops z i.0) (place-same ops i.0.write e.0 v e.1.at_write i.2) e.1

-- the write of the cluster whose number a read has
number-write : (ops : List Operation) (clusters : List ClusterEnds) (numbers : List (Option ℕ))
    → IsClusterTable ops clusters numbers → (p k : ℕ) → (r : IsReadNumber ops numbers p k)
    → (w : Operation) × IsClusterWrite ops clusters k w × (is_read_of w r.operation ≡ true)
number-write ops clusters numbers t p k r =
    let m = t.member p k r.operation r.at r.number in (
      m.1,
      (m.0, m.2, m.3.at_write),
      value-reads m.1 r.operation r.read
          (elim (m.4.counts) [ inl w ↦ absurd (let z = sym r.read ∙ w in cc z) | inr d ↦ d ]) m.4.value,
    )

-- a read of w's value has the number of w's cluster
reads-number : (ops : List Operation) (clusters : List ClusterEnds) (numbers : List (Option ℕ)) → IsHistory
    ops
    → IsByCall ops → IsClusterTable ops clusters numbers → (p k : ℕ) (a w : Operation) → IsAt ops p a
    → IsClusterWrite ops clusters k w → is_read_of w a ≡ true → IsReadNumber ops numbers p k
reads-number ops clusters numbers h y t p k a w at i is =
    let v = reads-value w a is in
    record {
      operation = a;
      at = at;
      read = v.0;
      number =
          member_number ops clusters numbers h y t p k a i.0 w at i.1 (ends-of ops clusters numbers t k w i)
          (record { within = at-In ops p a at; value = v.2; counts = inr v.1 });
    }

-- the test, if the number is another
other-number : (ops : List Operation) (clusters : List ClusterEnds) (numbers : List (Option ℕ)) → IsHistory
    ops
    → IsByCall ops → IsClusterTable ops clusters numbers → (p k : ℕ) (a w : Operation) → IsAt ops p a
    → IsClusterWrite ops clusters k w → (IsReadNumber ops numbers p k → ⊥) → is_read_of w a ≡ false
other-number ops clusters numbers h y t p k a w at i no_read =
    elim (cases_Bool (is_read_of w a)) [
      | inl e ↦ absurd (no_read (reads-number ops clusters numbers h y t p k a w at i e))
      | inr e ↦ e
    ]

-- ---- the lists, from their ends

pub lists_none : (ops : List Operation) (clusters : List ClusterEnds) (first next : List ℕ)
    → length first ≡ length clusters → length next ≡ length ops → length ops < 2 ^ 32
    → ((k q : ℕ) → slice_get first k ≡ Some q → q ≡ length ops)
    → ((r q : ℕ) → slice_get next r ≡ Some q → q ≡ length ops)
    → AreReadLists ops clusters (length ops) first next
lists_none ops clusters first next heads entries few firsts nexts = record {
  heads = heads;
  entries = entries;
  ahead = record {
    firsts = λ k q at. omega (arith, firsts k q at, entries);
    nexts =
        λ r q at. (
          omega (arith, nexts r q at, entries, slice_get_within next r q at),
          omega (
            arith,
            nexts r
                q at,
            entries,
          ),
        );
    few = omega (arith, few, entries);
  };
  firsts = λ k q w i at. first_read_none ops w q (firsts k q at);
  nexts = λ r q k a w l at there i is. absurd (omega (arith, l, at-below ops r a there));
}

pub lists_other : (ops : List Operation) (clusters : List ClusterEnds) (numbers : List (Option ℕ)) →
    IsHistory ops
    → IsByCall ops → IsClusterTable ops clusters numbers → (p : ℕ) (first next : List ℕ) → p < length ops
    → ((k : ℕ) → IsReadNumber ops numbers p k → ⊥) → AreReadLists ops clusters (suc p) first next
    → AreReadLists ops clusters p first next
lists_other ops clusters numbers h y t p first next within none lists =
    let a = place-inside ops p within in
    record {
      heads = lists.heads;
      entries = lists.entries;
      ahead = lists.ahead;
      firsts =
          λ k q w i at. first_read_on ops w a.0 p q a.1
          (other-number ops clusters numbers h y t p k a.0 w a.1 i (none k)) (lists.firsts k q w i at);
      nexts =
          λ r q k b w l at there i is. elim (cases_order p r) [
            | inl e ↦
                absurd (none k (subst (λ n. IsReadNumber ops numbers n k) (sym e)
                (reads-number ops clusters numbers h y t r k b w there i is)))
            | inr o ↦ elim o [
              | inl m ↦ lists.nexts r q k b w (omega (arith, m)) at there i is
              | inr m ↦ absurd (omega (arith, l, m))
            ]
          ];
    }

pub lists_read : (ops : List Operation) (clusters : List ClusterEnds) (numbers : List (Option ℕ)) →
    IsHistory ops
    → IsByCall ops → IsClusterTable ops clusters numbers → (p k f : ℕ) (first next : List ℕ)
    → IsReadNumber ops numbers p k → slice_get first k ≡ Some f → AreReadLists ops clusters (suc p) first next
    → AreReadLists ops clusters p (set first k p) (set next p f)
lists_read ops clusters numbers h y t p k f first next r at_f lists =
    let own = number-write ops clusters numbers t p k r in
    let after : IsFirstRead ops own.0 (suc p) f = lists.firsts k f own.0 own.1 at_f in
    let below : p < length ops = at-below ops p r.operation r.at in
    let long = length-set next p f in
    record {
      heads = length-set first k p ∙ lists.heads;
      entries = long ∙ lists.entries;
      ahead = record {
        firsts =
            λ j q at. elim (place-set_cases first k j p q at) [
              | inl c ↦ omega (arith, c.1, below, long, lists.entries)
              | inr c ↦ omega (arith, lists.ahead.firsts j q c.1, long)
            ];
        nexts =
            λ s q at. elim (place-set_cases next p s f q at) [
              | inl c ↦
                  (omega (arith, c.0, c.1, after.from), omega (arith, c.1, after.within, long, lists.entries))
              | inr c ↦ let n = lists.ahead.nexts s q c.1 in (n.0, omega (arith, n.1, long))
            ];
        few = omega (arith, lists.ahead.few, long);
      };
      firsts =
          λ j q w i at. elim (place-set_cases first k j p q at) [
            | inl c ↦
                let same : own.0 ≡ w = write-same j w i c.0 own.0 own.1 in
                subst (IsFirstRead ops w p) (sym c.1)
                (first_read_this ops w r.operation p r.at (subst (λ z. is_read_of z r.operation ≡ true) same
                own.2))
            | inr c ↦
                first_read_on ops w r.operation p q r.at
                (other-number ops clusters numbers h y t p j r.operation w r.at i (λ s. c.0 (number-same j
                s)))
                (lists.firsts j q w i c.1)
          ];
      nexts =
          λ s q j b w l at there i is. elim (place-set_cases next p s f q at) [
            | inl c ↦
                let read : IsReadNumber ops numbers p j =
                reads-number ops clusters numbers h y t p j b w (subst (λ n. IsAt ops n b) c.0 there) i is in
                let same : own.0 ≡ w = write-same j w i (number-same j read) own.0 own.1 in
                subst (λ n. IsFirstRead ops w (suc n) q) (sym c.0)
                (subst (IsFirstRead ops w (suc p)) (sym c.1) (subst (λ z. IsFirstRead ops z (suc p) f) same
                after))
            | inr c ↦ elim (cases_order p s) [
              | inl e ↦ absurd (c.0 (sym e))
              | inr o ↦ elim o [
                | inl m ↦ lists.nexts s q j b w (omega (arith, m)) c.1 there i is
                | inr m ↦ absurd (omega (arith, l, m))
              ]
            ]
          ];
    }
  where
    number-same : (j : ℕ) → IsReadNumber ops numbers p j → j ≡ k
    number-same j s = let e = sym s.number ∙ r.number in cc e

    write-same : (j : ℕ) (w : Operation) → IsClusterWrite ops clusters j w → j ≡ k → (v : Operation)
        → IsClusterWrite ops clusters k v → v ≡ w
    write-same j w i e v o =
        let cluster : i.0 ≡ o.0 = place-same clusters j i.0 o.0 i.1 (subst (λ n. slice_get clusters n ≡ Some
        o.0) (sym e) o.1) in
        place-same ops o.0.write v w o.2 (subst (λ (c : ClusterEnds). IsAt ops c.write w) cluster i.2)

-- ---- what is listed

pub operations_push : (ops : List Operation) (places : List ℕ) (p : ℕ) (a : Operation) → IsAt ops p a
    → operations_of_places ops (places ++ p ∷ []) ≡ operations_of_places ops places ++ a ∷ []
operations_push ops places p a at =
    filter_map-append (slice_get ops) places (p ∷ [])
    ∙ ap (λ o. operations_of_places ops places ++ cons_option o []) at

-- what was listed of a cluster, with what is still to come
pub record IsListedTo (ops : List Operation) (w : Operation) (before places : List ℕ) (place : ℕ) : Type 0
  where
    pub within : place ≤ length ops
    pub listed : operations_of_places ops places ++ filter (is_read_of w) (drop place ops)
        ≡ operations_of_places ops before ++ filter (is_read_of w) ops
    pub is : (a : Operation) → IsAt ops place a → is_read_of w a ≡ true

pub listed_none : (ops : List Operation) (w : Operation) (before : List ℕ) (q : ℕ) → IsFirstRead ops w 0 q
    → IsListedTo ops w before before q
listed_none ops w before q h = record {
  within = h.within;
  listed = ap (λ xs. operations_of_places ops before ++ xs) (sym h.same);
  is = h.is;
}

pub listed_more : (ops : List Operation) (w : Operation) (before places : List ℕ) (place q : ℕ) → place <
    length ops
    → IsListedTo ops w before places place
    → ((a : Operation) → IsAt ops place a → is_read_of w a ≡ true → IsFirstRead ops w (suc place) q)
    → IsListedTo ops w before (places ++ place ∷ []) q
listed_more ops w before places place q l h next =
    let a = place-inside ops place l in
    let is = h.is a.0 a.1 in
    let n = next a.0 a.1 is in
    record {
      within = n.within;
      listed =
          ap (λ xs. xs ++ filter (is_read_of w) (drop q ops)) (operations_push ops places place a.0 a.1)
          ∙ (append_assoc (operations_of_places ops places) (a.0 ∷ []) (filter (is_read_of w) (drop q ops))
          ∙ (ap (λ xs. operations_of_places ops places ++ (a.0 ∷ xs)) (sym n.same)
          ∙ (ap (λ xs. operations_of_places ops places ++ xs) (sym (filter_here ops w a.0 place a.1 is)) ∙
          h.listed)));
      is = n.is;
    }

pub listed_all : (ops : List Operation) (w : Operation) (before places : List ℕ) (place : ℕ) → drop place
    ops ≡ []
    → IsListedTo ops w before places place
    → operations_of_places ops places ≡ operations_of_places ops before ++ filter (is_read_of w) ops
listed_all ops w before places place none h =
    sym (append-nil (operations_of_places ops places))
    ∙ (ap (λ xs. operations_of_places ops places ++ filter (is_read_of w) xs) (sym none) ∙ h.listed)

-- ---- the whole order

expanded-push : (ops writes : List Operation) (w : Operation)
    → expanded ops (writes ++ w ∷ []) ≡ expanded ops writes ++ (w ∷ filter (is_read_of w) ops)
expanded-push ops [] w = append-nil (w ∷ filter (is_read_of w) ops)
expanded-push ops (v ∷ writes) w =
    ap (λ xs. (v ∷ filter (is_read_of v) ops) ++ xs) (expanded-push ops writes w)
    ∙ sym (append_assoc (v ∷ filter (is_read_of v) ops) (expanded ops writes) (w ∷ filter (is_read_of w) ops))

pub expanded_more : (ops : List Operation) (clusters : List ClusterEnds) (order : List ℕ) (i k : ℕ) (w :
    Operation)
    (old mid new : List ℕ) → i < length order → k ≡ get_or order i 0 → write_of_cluster ops clusters k ≡
    Some w
    → operations_of_places ops mid ≡ operations_of_places ops old ++ w ∷ []
    → operations_of_places ops new ≡ operations_of_places ops mid ++ filter (is_read_of w) ops
    → operations_of_places ops old ≡ expanded ops (writes_of ops clusters (take i order))
    → operations_of_places ops new ≡ expanded ops (writes_of ops clusters (take (i + 1) order))
expanded_more ops clusters order i k w old mid new l is write one two before =
    two ∙ (ap (λ xs. xs ++ filter (is_read_of w) ops) one
    ∙ (append_assoc (operations_of_places ops old) (w ∷ []) (filter (is_read_of w) ops)
    ∙ (ap (λ xs. xs ++ (w ∷ filter (is_read_of w) ops)) before
    ∙ (sym (expanded-push ops (writes_of ops clusters (take i order)) w)
    ∙ ap (expanded ops) (sym writes)))))
  where
    writes : writes_of ops clusters (take (i + 1) order) ≡ writes_of ops clusters (take i order) ++ w ∷ []
    writes =
        ap (writes_of ops clusters) (take_more order i 0 l)
        ∙ (filter_map-append (write_of_cluster ops clusters) (take i order) (get_or order i 0 ∷ [])
        ∙ ap (λ o. writes_of ops clusters (take i order) ++ cons_option o [])
        (ap (write_of_cluster ops clusters) (sym is) ∙ write))
