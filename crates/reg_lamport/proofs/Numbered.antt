-- The reads of a list by number, and those of a part of it.
use Rattle.std.proofs.Common.{◌≡◌, ℕ, ◌+◌, ◌-◌, ◌<◌, ◌≤◌, ◌&&◌, not, Bool, true, false}
use Rattle.std.proofs.Common.{List, length, get_or, take, drop, slice_get, Some, inl}
use Rattle.std.proofs.Common.{inr, refl, sym, ap, subst, ◌∙◌, arith, IsTrue, ◌↔◌}
use Rattle.std.proofs.lemmas.Bool.{cases_order, false≢true}
use Rattle.std.proofs.lemmas.List.{length-take, length-drop, get_or-take, get_or-drop}
use Rattle.std.proofs.lemmas.Option.{slice_get-get_or}
use Rattle.history_model.specs.Lists.{In}
use Rattle.history_model.specs.History.{History}
use Rattle.history_model.specs.Lamport.{HasSingleWriter, is_completed_read, completed_reads}
use Rattle.history_model.specs.Operations.{IsCompletedRead, is_write, of_register, operations}
use Rattle.history_model.specs.declared.operation.Operation.{Operation}
use Rattle.history_model.specs.Naming.{IsNamed}
use Rattle.history_model.specs.declared.ids.Oper.TheVariants.{Called}
use Rattle.reg_lamport.specs.Levels.{Keeps, AllKeep, IsFirstBadNamed}
use Rattle.reg_lamport.specs.Reads.{ListedReads, IsEntryOf, IsReadList, IsListed}
use Rattle.reg_lamport.specs.declared.level.Level.{Level}
use Rattle.reg_lamport.specs.declared.gathering.ReadEntry.{ReadEntry}
use Rattle.reg_lamport.proofs.Zipped.{zip-at}
use Rattle.history_model.proofs.Lists.{filter-In, slice_get-In}

both-true : (a b : Bool) → (not a && b) ≡ true → (a ≡ false) × (b ≡ true)
both-true true b h = absurd (false≢true h)
both-true false b h = (refl, h)

-- a read that has a number is a completed read
pub numbered : (ops : List Operation) (i : ℕ) (r : Operation) → slice_get (completed_reads ops) i ≡ Some r
    → In r ops × IsCompletedRead r
numbered ops i r h =
    let x = filter-In is_completed_read r ops (slice_get-In (completed_reads ops) i r h) in
    let y = both-true (is_write r) r.completed x.1 in
    (x.0, record { read = y.0; completed = y.1 })

-- the element at a place of a part
part : {X : Type 0} (xs : List X) (from to i : ℕ) (d : X) → from ≤ to → to ≤ length xs
    → i < length (take (to - from) (drop from xs))
    → (from + i < to) × (slice_get xs (from + i) ≡ Some (get_or (take (to - from) (drop from xs)) i d))
part xs from to i d a b c =
    let n : i < to - from = omega (arith, length-take (to - from) (drop from xs), length-drop from xs) in
    let e : get_or (take (to - from) (drop from xs)) i d ≡ get_or xs (from + i) d =
    get_or-take (to - from) (drop from xs) i d n ∙ get_or-drop from xs i d in
    let l : from + i < to = omega arith in
    (l, slice_get-get_or xs (from + i) d (omega arith) ∙ ap Some (sym e))

-- an entry, with the read that it is of
pub record IsPlaced (h : History) (register : ℕ) (from to i : ℕ) (e : ReadEntry) : Type 0 where
  pub operation : Operation
  pub below : from + i < to
  pub there : slice_get (completed_reads (of_register register (operations h))) (from + i) ≡ Some operation
  pub named : IsNamed h (Called e.read) operation
  pub listed : IsListed h register e

-- a list's own register and entries, as its fields give them
pub record IsInside (list : ListedReads) (register : ℕ) (entries : List ReadEntry) : Type 0 where
  pub register_is : register ≡ list.register
  pub entries_is : entries ≡ list.entries

pub inside-of : (list : ListedReads) (register : ℕ) (entries xs : List ReadEntry)
    → record { register = register; entries = entries } ≡ list → xs ≡ entries → IsInside list register xs
inside-of list register entries xs q e = record {
  register_is = ap (λ (l : ListedReads). l.register) q;
  entries_is = e ∙ ap (λ (l : ListedReads). l.entries) q;
}

module _ (h : History) (list : ListedReads) (is : IsReadList h list)
    (single : HasSingleWriter (of_register list.register (operations h))) (register : ℕ) (xs : List ReadEntry)
    (inside : IsInside list register xs) where
  pub placed : (from to i : ℕ) (d : ReadEntry) → from ≤ to → to ≤ length list.entries
      → i < length (take (to - from) (drop from xs))
      → IsPlaced h register from to i (get_or (take (to - from) (drop from xs)) i d)
  placed from to i d a b c =
      let ops = of_register list.register (operations h) in
      let e = get_or (take (to - from) (drop from xs)) i d in
      let q = inside.entries_is in
      let p = part xs from to i d a (subst (λ ys. to ≤ length ys) (sym q) b) c in
      let x =
      zip-at (IsEntryOf h list.register) list.entries (completed_reads ops) (from + i) e is.entries
      (subst (λ ys. slice_get ys (from + i) ≡ Some e) q p.1) in
      let y = numbered ops (from + i) x.0 x.1 in
      let it : IsPlaced h list.register from to i e = record {
        operation = x.0;
        below = p.0;
        there = x.1;
        named = x.2.read;
        listed = record {
          recorded = is.recorded;
          single = single;
          operation = x.0;
          within = y.0;
          read = y.1;
          entry = x.2;
        };
      } in
      subst (λ k. IsPlaced h k from to i e) (sym inside.register_is) it

  module _ (level : Level) (from to i : ℕ) (e : ReadEntry) (b : Bool) (p : IsPlaced h register from to i e)
      (decides : (r : Operation) → IsNamed h (Called e.read) r
      → IsTrue b ↔ Keeps level (of_register register (operations h)) r)
      (before : AllKeep level (of_register list.register (operations h)) from (from + i)) where
    here : slice_get (completed_reads (of_register list.register (operations h))) (from + i)
        ≡ Some p.operation
    here =
        subst (λ k. slice_get (completed_reads (of_register k (operations h))) (from + i) ≡ Some p.operation)
        inside.register_is p.there

    test : IsTrue b ↔ Keeps level (of_register list.register (operations h)) p.operation
    test =
        subst (λ k. IsTrue b ↔ Keeps level (of_register k (operations h)) p.operation) inside.register_is
        (decides p.operation p.named)

    -- a read that fails the test is the first bad one
    pub found : b ≡ false → IsFirstBadNamed h list.register level from to (Some e.read)
    found fails = (
      p.operation,
      p.named,
      record {
        place = from + i;
        from_on = omega arith;
        below = p.below;
        there = here;
        breaks = λ k. false≢true (sym fails ∙ test.1 k);
        first = before;
      },
    )

    -- past a read that passes it
    pub passed : b ≡ true → AllKeep level (of_register list.register (operations h)) from (from + (i + 1))
    passed passes j q l m there = elim (cases_order j (from + i)) [
      | inl e ↦ (let same : p.operation
          ≡ q =
          let f =
          ap (slice_get (completed_reads (of_register list.register (operations h)))) e in let g =
          here in cc (f, g, there) in
          subst (Keeps level (of_register list.register (operations h))) same (test.0 passes))
      | inr c ↦ elim c [ inl less ↦ before j q l less there | inr more ↦ absurd (omega arith) ]
    ]
