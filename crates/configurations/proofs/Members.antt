-- A call stands among those of a set exactly if its slot is in the set.
use Rattle.std.proofs.Common.{◌≡◌, ℕ, zero, suc, ◌+◌, ◌<◌, Bool, true, false, cond, List, [], ◌∷◌, ◌⊎◌}
use Rattle.std.proofs.Common.{length, slice_get, get_or, Some, inl, inr, refl, sym, ap, subst, arith}
use Rattle.std.proofs.lemmas.Bool.{false≢true}
use Rattle.std.proofs.lemmas.Option.{slice_get-get_or}
use Rattle.history_model.specs.Lists.{In}
use Rattle.slot_sets.specs.Sets.{has}
use Rattle.configurations.specs.Tables.{members, members_from}

more : (n q : ℕ) → suc n + q ≡ n + suc q
more n q = omega arith

first : (q : ℕ) → q ≡ 0 + q
first q = omega arith

-- it is the one of this slot, or stands behind it
open_by : (b : Bool) (k j : ℕ) (rest : List ℕ) → In j (cond b (k ∷ rest) rest)
    → ((j ≡ k) × (b ≡ true)) ⊎ In j rest
open_by true k j rest (inl e) = inl (e, refl)
open_by true k j rest (inr h) = inr h
open_by false k j rest h = inr h

slot_from : (q : ℕ) (ks s : List ℕ) (j : ℕ) → In j (members_from q ks s)
    → (i : ℕ) × (slice_get ks i ≡ Some j) × (has s (i + q) ≡ true)
slot_from q [] s j h = absurd h
slot_from q (k ∷ ks) s j h = elim (open_by (has s q) k j (members_from (suc q) ks s) h) [
  | inl a ↦ (0, ap Some (sym a.0), subst (λ x. has s x ≡ true) (first q) a.1)
  | inr a ↦
      let r = slot_from (suc q) ks s j a in (suc r.0, r.1, subst (λ x. has s x ≡ true) (sym (more r.0 q)) r.2)
]

pub slot_of_member : (ks s : List ℕ) (j : ℕ) → In j (members ks s)
    → (i : ℕ) × (slice_get ks i ≡ Some j) × (has s i ≡ true)
slot_of_member ks s j h =
    let r = slot_from 0 ks s j h in
    let same : r.0 + 0 ≡ r.0 = omega arith in
    (r.0, r.1, subst (λ x. has s x ≡ true) same r.2)

kept_by : (b : Bool) (k j : ℕ) (rest : List ℕ) → In j rest → In j (cond b (k ∷ rest) rest)
kept_by true k j rest h = inr h
kept_by false k j rest h = h

first_by : (b : Bool) (k j : ℕ) (rest : List ℕ) → b ≡ true → j ≡ k → In j (cond b (k ∷ rest) rest)
first_by true k j rest e h = inl h
first_by false k j rest e h = absurd (false≢true e)

member_from : (q : ℕ) (ks s : List ℕ) (j i : ℕ) → slice_get ks i ≡ Some j → has s (i + q) ≡ true
    → In j (members_from q ks s)
member_from q [] s j i e b = absurd (cc)
member_from q (k ∷ ks) s j zero e b =
    let same : k ≡ j = cc in
    first_by (has s q) k j (members_from (suc q) ks s) (subst (λ x. has s x ≡ true) (sym (first q)) b)
    (sym same)
member_from q (k ∷ ks) s j (suc i) e b =
    kept_by (has s q) k j (members_from (suc q) ks s)
    (member_from (suc q) ks s j i e (subst (λ x. has s x ≡ true) (more i q) b))

pub member_of_slot : (ks s : List ℕ) (j i : ℕ) → slice_get ks i ≡ Some j → has s i ≡ true
    → In j (members ks s)
member_of_slot ks s j i e b =
    let same : i ≡ i + 0 = omega arith in
    member_from 0 ks s j i e (subst (λ x. has s x ≡ true) same b)

-- the call of a slot that is in the set
pub member_at : (ks s : List ℕ) (i : ℕ) → i < length ks → has s i ≡ true → In (get_or ks i 0) (members ks s)
member_at ks s i lt b = member_of_slot ks s (get_or ks i 0) i (slice_get-get_or ks i 0 lt) b
