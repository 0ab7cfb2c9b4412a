-- A beginning that was pushed, and the next of it; parts that were pushed in order.
use Rattle.std.proofs.Common.{◌≡◌, ◌∙◌, ℕ, suc, ◌+◌, ◌-◌, ◌<◌, ◌≤◌, List, [], ◌∷◌, ◌++◌, Vec}
use Rattle.std.proofs.Common.{Global, length, take, drop, get_or, flat_map, Option, ap, sym}
use Rattle.std.proofs.Common.{subst, arith, append_assoc, append-nil, length-drop}
use Rattle.std.proofs.Math.Seq.{take-add, take-append-add, take-suc}
use Rattle.std.proofs.lemmas.List.{take_all, take-append-drop, take-append-le}
use Rattle.std.proofs.lemmas.List.Concat.{flat_map-append}
use Rattle.std.proofs.lemmas.List.Folds.{length-flat_map-take}
use Rattle.std.specs.Io.KnownBytes.{Appends}
use Rattle.std.proofs.KnownBytes.{Appends-trans}
use Rattle.byte_ends.specs.Ends.{AppendsBeginning}

-- a beginning of some bytes was taken, and then a beginning of the rest
pub Appends-next : (a b c : Option (List ℕ)) (whole : List ℕ) (i n : ℕ) → i ≤ length whole
    → Appends a b (take i whole)
    → Appends b c (take n (take (length whole - i) (drop i whole))) → Appends a c (take (i + n) whole)
Appends-next a b c whole i n le before next =
    let same : take (length whole - i) (drop i whole) ≡ drop i whole =
    (let l = length-drop i whole in take_all (length whole - i) (drop i whole) (omega arith)) in
    let added =
    Appends-trans a b c (take i whole) (take n (drop i whole)) before
    (subst (λ z. Appends b c (take n z)) same next) in
    subst (λ z. Appends a c z) (sym (take-add i n whole)) added

-- the bytes of parts, in order
abbrev pub bytes-of : List (Vec ℕ Global) → List ℕ
bytes-of parts = flat_map (λ (part : Vec ℕ Global). part.items) parts

-- those of one part more
one-part-more : (parts : List (Vec ℕ Global)) (i : ℕ) (d : Vec ℕ Global) → i < length parts
    → bytes-of (take (i + 1) parts) ≡ bytes-of (take i parts) ++ (get_or parts i d).items
one-part-more parts i d h =
    let next : i + 1 ≡ suc i = omega arith in
    let done = bytes-of (take i parts) in
    let part = get_or parts i d in
    ap (λ n. bytes-of (take n parts)) next
    ∙ (ap bytes-of (take-suc parts i d h)
    ∙ (flat_map-append (λ (one : Vec ℕ Global). one.items) (take i parts) (part ∷ [])
    ∙ ap (λ xs. done ++ xs) (append-nil part.items)))

-- the parts before a place were taken, and then the part there
pub Appends-part : (a b c : Option (List ℕ)) (parts : List (Vec ℕ Global)) (i : ℕ) (d : Vec ℕ Global)
    → i < length parts → Appends a b (bytes-of (take i parts))
    → Appends b c (get_or parts i d).items → Appends a c (bytes-of (take (i + 1) parts))
Appends-part a b c parts i d h before next =
    subst (Appends a c) (sym (one-part-more parts i d h)) (Appends-trans a b c _ _ before next)

-- parts that stand first are a beginning of all
parts-first : (parts : List (Vec ℕ Global)) (i : ℕ)
    → bytes-of (take i parts) ++ bytes-of (drop i parts) ≡ bytes-of parts
parts-first parts i =
    sym (flat_map-append (λ (part : Vec ℕ Global). part.items) (take i parts) (drop i parts))
    ∙ ap bytes-of (take-append-drop i parts)

-- the parts before a place were taken, and then a beginning of the part there: a beginning of all
pub Appends-beginning : (a b c : Option (List ℕ)) (parts : List (Vec ℕ Global)) (i : ℕ) (d : Vec ℕ Global)
    → i < length parts → Appends a b (bytes-of (take i parts))
    → AppendsBeginning b c (get_or parts i d).items → AppendsBeginning a c (bytes-of parts)
Appends-beginning a b c parts i d h before next =
    let done = bytes-of (take i parts) in
    let part = (get_or parts i d).items in
    let rest = bytes-of (drop (i + 1) parts) in
    let whole : done ++ (part ++ rest) ≡ bytes-of parts =
    sym (append_assoc done part rest)
    ∙ (ap (λ xs. xs ++ rest) (sym (one-part-more parts i d h)) ∙ parts-first parts (i + 1)) in
    let out : take (length done + next.0) (bytes-of parts) ≡ done ++ take next.0 part =
    ap (take (length done + next.0)) (sym whole)
    ∙ (take-append-add done (part ++ rest) next.0
    ∙ ap (λ xs. done ++ xs) (take-append-le next.0 part rest next.1)) in
    let fits = length-flat_map-take (λ (one : Vec ℕ Global). one.items) parts i d h in (
      length done + next.0,
      omega (arith, fits, next.1),
      subst (Appends a c) (sym out) (Appends-trans a b c done (take next.0 part) before next.2),
    )
