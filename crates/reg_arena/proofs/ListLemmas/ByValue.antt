-- The key of an event by its register and its value.
use Rattle.std.proofs.Common.{◌≡◌, ℕ, List, Option, Some, None, refl, ap}
use Rattle.std.proofs.Common.{◌∙◌, option_and_then, option_map, slice_get}
use Rattle.history_text.specs.declared.event.Val.{Val}
use Rattle.history_model.specs.declared.event.Event.{Event}
use Rattle.history_model.specs.declared.ids.RegId.{RegId}
use Rattle.history_model.specs.Walking.{by_register, by_value, key_at}

-- the key of an event with a register and a value
pub key-by : (e : Event) (r : RegId) (v : Val) → e.register ≡ Some r → e.value ≡ Some v
    → by_value e ≡ Some (r.0, v)
key-by e r v a b =
    ap (option_and_then (λ (v : Val). option_map {U = ℕ × Val} (λ (r : RegId). (r.0, v)) e.register)) b
    ∙ ap (option_map {U = ℕ × Val} (λ (r : RegId). (r.0, v))) a

-- without a value or a register there is none
pub key-none : (e : Event) → e.value ≡ None → by_value e ≡ None
key-none e q =
    ap (option_and_then (λ (v : Val). option_map {U = ℕ × Val} (λ (r : RegId). (r.0, v)) e.register)) q

pub key-without : (e : Event) → e.register ≡ None → by_value e ≡ None
key-without e q = go e.value
  where
    go : (w : Option Val)
        → option_and_then (λ (v : Val). option_map {U = ℕ × Val} (λ (r : RegId). (r.0, v)) e.register)
        w ≡ None
    go None = refl
    go (Some v) = ap (option_map {U = ℕ × Val} (λ (r : RegId). (r.0, v))) q

-- the register and the value of a key
pub key-parts : (e : Event) (k : ℕ × Val) → by_value e ≡ Some k
    → (by_register e ≡ Some k.0) × (e.value ≡ Some k.1)
key-parts e k h = go e.value refl e.register refl h
  where
    go : (w : Option Val) → e.value ≡ w → (o : Option RegId) → e.register ≡ o
        → option_and_then (λ (v : Val). option_map {U = ℕ × Val} (λ (r : RegId). (r.0, v)) o) w ≡ Some k
        → (by_register e ≡ Some k.0) × (e.value ≡ Some k.1)
    go None q o u h = absurd (cc (h))
    go (Some v) q None u h = absurd (cc (h))
    go (Some v) q (Some r) u h =
        let p : (r.0, v) ≡ k = cc (h) in (
          ap (option_map {U = ℕ} (λ (r : RegId). r.0)) u ∙ ap (λ (k : ℕ × Val). Some k.0) p,
          q ∙ ap (λ (k : ℕ × Val). Some k.1) p,
        )

-- an event of a register and value is one of the register
pub key-register : (es : List Event) (i : ℕ) (k : ℕ × Val) → key_at by_value es i ≡ Some k
    → key_at by_register es i ≡ Some k.0
key-register es i k h = go (slice_get es i) h
  where
    go : (o : Option Event) → option_and_then by_value o ≡ Some k → option_and_then by_register o ≡ Some k.0
    go None z = absurd (cc (z))
    go (Some e) z = (key-parts e k z).0

pub key-both : (e : Event) (k : ℕ × Val) → by_register e ≡ Some k.0 → e.value ≡ Some k.1 → by_value e ≡ Some k
key-both e k a b = go e.register refl a
  where
    go : (o : Option RegId) → e.register ≡ o → option_map {U = ℕ} (λ (r : RegId). r.0) o ≡ Some k.0
        → by_value e ≡ Some k
    go None q h = absurd (cc (h))
    go (Some r) q h = let n : r.0 ≡ k.0 = cc (h) in key-by e r k.1 q b ∙ ap (λ m. Some (m, k.1)) n
