-- The first bad read of a part is that of its cuts, and that of the whole is the breaking read called first.
use Rattle.std.proofs.Common.{◌≡◌, ℕ, zero, suc, ◌<◌, ◌≤◌, ◌&&◌, not, Bool, true}
use Rattle.std.proofs.Common.{false, List, [], ◌∷◌, length, slice_get, Option, Some}
use Rattle.std.proofs.Common.{None, inl, inr, refl, sym, ap, subst, ◌∙◌, arith}
use Rattle.std.specs.Option.{option_or}
use Rattle.std.proofs.lemmas.Bool.{cases_order}
use Rattle.std.proofs.lemmas.Option.{slice_get_within}
use Rattle.history_model.specs.Lists.{In, Before}
use Rattle.history_model.specs.History.{History}
use Rattle.history_model.specs.Lamport.{is_completed_read, completed_reads}
use Rattle.history_model.specs.Operations.{IsCompletedRead, of_register, operations, calls}
use Rattle.history_model.specs.declared.operation.Operation.{Operation}
use Rattle.history_model.specs.Naming.{IsNamed}
use Rattle.history_model.specs.declared.ids.EvId.{EvId}
use Rattle.history_model.specs.declared.ids.Oper.TheVariants.{Called}
use Rattle.reg_lamport.specs.Levels.{Keeps, AllKeep, IsAtLevel, IsFirstBadRead}
use Rattle.reg_lamport.specs.Levels.{IsFirstBadWithin, IsFirstBadFound, IsFirstBadNamed}
use Rattle.reg_lamport.specs.Reads.{ListedReads, IsReadList, IsEntryOf}
use Rattle.reg_lamport.specs.declared.level.Level.{Level}
use Rattle.reg_lamport.proofs.Calls.{calls-ascend, reads-called}
use Rattle.reg_lamport.proofs.Numbered.{numbered}
use Rattle.reg_lamport.proofs.Zipped.{zip-length}
use Rattle.history_model.proofs.Lists.{filter-Before, slice_get-In, In-filter}

-- ---- cuts

module _ (level : Level) (ops : List Operation) where
  keep-joined : (from mid to : ℕ) → AllKeep level ops from mid → AllKeep level ops mid to
      → AllKeep level ops from to
  keep-joined from mid to a b i r l m at = elim (cases_order i mid) [
    | inl e ↦ b i r (omega arith) m at
    | inr c ↦ elim c [ inl less ↦ a i r l less at | inr more ↦ b i r (omega arith) m at ]
  ]

  bad-later : (from mid to : ℕ) (r : Operation) → from ≤ mid → AllKeep level ops from mid
      → IsFirstBadWithin level ops mid to r → IsFirstBadWithin level ops from to r
  bad-later from mid to r l a b = record {
    place = b.place;
    from_on = omega (arith, b.from_on);
    below = b.below;
    there = b.there;
    breaks = b.breaks;
    first = keep-joined from mid b.place a b.first;
  }

  bad-earlier : (from mid to : ℕ) (r : Operation) → mid ≤ to → IsFirstBadWithin level ops from mid r
      → IsFirstBadWithin level ops from to r
  bad-earlier from mid to r l a = record {
    place = a.place;
    from_on = a.from_on;
    below = omega (arith, a.below);
    there = a.there;
    breaks = a.breaks;
    first = a.first;
  }

  pub cuts-join : (from mid to : ℕ) (a b : Option Operation) → from ≤ mid → mid ≤ to
      → IsFirstBadFound level ops from mid a → IsFirstBadFound level ops mid to b
      → IsFirstBadFound level ops from to (option_or a b)
  cuts-join from mid to None None l m x y = keep-joined from mid to x y
  cuts-join from mid to None (Some r) l m x y = bad-later from mid to r l x y
  cuts-join from mid to (Some r) b l m x y = bad-earlier from mid to r m x

  same-bad : (from to : ℕ) (r q : Operation) → IsFirstBadWithin level ops from to r
      → IsFirstBadWithin level ops from to q → r ≡ q
  same-bad from to r q a b = elim (cases_order a.place b.place) [
    | inl e ↦ (let f = ap (slice_get (completed_reads ops)) e in let g = a.there in let k = b.there in
        cc (f, g, k))
    | inr c ↦ elim c [
      | inl less ↦ absurd (a.breaks (b.first a.place r a.from_on less a.there))
      | inr more ↦ absurd (b.breaks (a.first b.place q b.from_on more b.there))
    ]
  ]

  pub one-first-bad : (from to : ℕ) (a b : Option Operation) → IsFirstBadFound level ops from to a
      → IsFirstBadFound level ops from to b → a ≡ b
  one-first-bad from to None None x y = refl
  one-first-bad from to None (Some r) x y = absurd (y.breaks (x y.place r y.from_on y.below y.there))
  one-first-bad from to (Some r) None x y = absurd (x.breaks (y x.place r x.from_on x.below x.there))
  one-first-bad from to (Some r) (Some q) x y = ap Some (same-bad from to r q x y)

-- ---- the same of named reads

pub named-cuts-join : (h : History) (register : ℕ) (level : Level) (from mid to : ℕ) (a b : Option EvId)
    → from ≤ mid → mid ≤ to → IsFirstBadNamed h register level from mid a
    → IsFirstBadNamed h register level mid to b → IsFirstBadNamed h register level from to (option_or a b)
named-cuts-join h register level from mid to None None l m x y =
    keep-joined level (of_register register (operations h)) from mid to x y
named-cuts-join h register level from mid to None (Some id) l m x y =
    (y.0, y.1, bad-later level (of_register register (operations h)) from mid to y.0 l x y.2)
named-cuts-join h register level from mid to (Some id) b l m x y =
    (x.0, x.1, bad-earlier level (of_register register (operations h)) from mid to x.0 m x.2)

-- ---- the whole

In-get : {X : Type 0} (xs : List X) (x : X) → In x xs → (i : ℕ) × (slice_get xs i ≡ Some x)
In-get [] x h = elim h [ ]
In-get (y ∷ xs) x (inl e) = (0, ap Some (sym e))
In-get (y ∷ xs) x (inr h) = let r = In-get xs x h in (suc r.0, r.1)

get-Before : {X : Type 0} (xs : List X) (i j : ℕ) (x y : X) → slice_get xs i ≡ Some x
    → slice_get xs j ≡ Some y → i < j → Before x y xs
get-Before [] i j x y a b l = absurd (cc (a))
get-Before (z ∷ xs) i zero x y a b l = absurd (omega arith)
get-Before (z ∷ xs) zero (suc j) x y a b l = inl (let q : z ≡ x = cc (a) in sym q, slice_get-In xs j y b)
get-Before (z ∷ xs) (suc i) (suc j) x y a b l = inr (get-Before xs i j x y a b (omega arith))

both : (a b : Bool) → a ≡ false → b ≡ true → (not a && b) ≡ true
both a b p q = ap (λ c. not c && b) p ∙ q

module _ (h : History) (register : ℕ) where
  -- a completed read has a number
  number-of : (q : Operation) → In q (of_register register (operations h)) → IsCompletedRead q
      → (i : ℕ) × (slice_get (completed_reads (of_register register (operations h))) i ≡ Some q)
  number-of q i read =
      In-get (completed_reads (of_register register (operations h))) q
      (In-filter is_completed_read q (of_register register (operations h)) i
      (both _ _ read.read read.completed))

  -- reads of greater number are called later
  numbers-ascend : (i j : ℕ) (x y : Operation)
      → slice_get (completed_reads (of_register register (operations h))) i ≡ Some x
      → slice_get (completed_reads (of_register register (operations h))) j ≡ Some y → i < j → x.call < y.call
  numbers-ascend i j x y a b l =
      let before = get-Before (completed_reads (of_register register (operations h))) i j x y a b l in
      calls-ascend h.events register x y
      (filter-Before is_completed_read x y (of_register register (calls h.events))
      (subst (Before x y) (reads-called h register) before))

  pub whole-keeps : (level : Level) (n : ℕ)
      → n ≡ length (completed_reads (of_register register (operations h)))
      → AllKeep level (of_register register (operations h)) 0 n
      → IsAtLevel level (of_register register (operations h))
  whole-keeps level n all keep r i read =
      let x = number-of r i read in
      keep x.0 r (omega arith)
      (let w = slice_get_within (completed_reads (of_register register (operations h))) x.0 r x.1 in
      omega (arith, w, all)) x.1

  pub whole-breaks : (level : Level) (n : ℕ) (r : Operation)
      → IsFirstBadWithin level (of_register register (operations h)) 0 n r
      → IsFirstBadRead level (of_register register (operations h)) r
  whole-breaks level n r b =
      let x = numbered (of_register register (operations h)) b.place r b.there in
      record { within = x.0; read = x.1; breaks = b.breaks; first = earlier }
    where
      earlier : (q : Operation) → In q (of_register register (operations h)) → IsCompletedRead q
          → q.call < r.call → Keeps level (of_register register (operations h)) q
      earlier q i read less =
          let y = number-of q i read in
          elim (cases_order y.0 b.place) [
            | inl e ↦ absurd
                (let f = ap (slice_get (completed_reads (of_register register (operations h)))) e in
                let g =
                y.1 in let k =
                b.there in let same : q ≡ r =
                cc (f, g, k) in let c = ap (λ (z : Operation). z.call) same in omega (arith, c, less))
            | inr c ↦ elim c [
              | inl l ↦ b.first y.0 q (omega arith) l y.1
              | inr l ↦ absurd (let d = numbers-ascend b.place y.0 r q b.there y.1 l in
                  omega (arith, d, less))
            ]
          ]

pub list-length : (h : History) (list : ListedReads) → IsReadList h list
    → length list.entries ≡ length (completed_reads (of_register list.register (operations h)))
list-length h list is =
    zip-length (IsEntryOf h list.register) list.entries
    (completed_reads (of_register list.register (operations h))) is.entries

pub list-keeps : (h : History) (list : ListedReads) (level : Level) → IsReadList h list
    → IsFirstBadNamed h list.register level 0 (length list.entries) None
    → IsAtLevel level (of_register list.register (operations h))
list-keeps h list level is none =
    whole-keeps h list.register level (length list.entries) (list-length h list is) none

pub list-breaks : (h : History) (list : ListedReads) (level : Level) (id : EvId) → IsReadList h list
    → IsFirstBadNamed h list.register level 0 (length list.entries) (Some id)
    → (r : Operation) × IsNamed h (Called id) r
    × IsFirstBadRead level (of_register list.register (operations h)) r
list-breaks h list level id is x =
    (x.0, x.1, whole-breaks h list.register level (length list.entries) x.0 x.2)
